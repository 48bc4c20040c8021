-- Undo, and two edits in either order, from the laws of any machine. An edit of a good table gives line k of its rows the command that its
-- text reads as, and the other way round; the numbers after the rows stay, and the counts are the table's own.
use mathlib.Core.Path.{◌≡◌, refl, sym, ap, ap₂, ◌∙◌, subst, subst₂}
use mathlib.Core.Bool.{true}
use mathlib.Core.List.{List, ◌++◌}
use Prim.Native.Nat.{ℕ, ◌-◌, ◌*◌, ◌<◌, ◌≤◌}
use native.Mathlib.Omega.{arith}
use lib.IntN.{ℤ}
use lib.ListN.{length, drop}
use lib.Seq.{drop_at}
use Rattle.std.specs.Prelude.{Ok}
use Rattle.lists.specs.Exactly.{Exactly}
use Rattle.lists.specs.Put.{put_at}
use Rattle.runs.specs.Machine.{Out, yields, on_out, accepted, refused, all_hold}
use Rattle.runs.specs.Agreement.{FirstAgreement}
use Rattle.runs.specs.Edits as M
use Rattle.runs.proofs.Meeting.{one_meeting}
use Rattle.runs.proofs.Afresh.{edits_are_runs}
use Rattle.runs.proofs.Orders.{edits_commute}
use Rattle.rules.specs.declared.Command.{Command}
use Rattle.rules.specs.declared.Refusal.{Refusal}
use Rattle.rules.specs.declared.Revision.{Revision}
use Rattle.rules.specs.declared.Counts.{Counts}
use Rattle.rules.specs.Refusals.{bad_table, ends_too_soon}
use Rattle.rules.specs.Lines.{LF, CR}
use Rattle.rules.specs.Commands.{line_of}
use Rattle.rules.specs.State.{start, taken, has_ended, same_state}
use Rattle.rules.specs.Rows.{row_width, table_numbers, Good}
use Rattle.rules.specs.Reading.{say_out, Rows, no_row, row_of, read_answer, read_leaves}
use Rattle.rules.specs.Counting.{counts_of}
use Rattle.rules.specs.Editing.{no_line_end, edit_rows}
use Rattle.rules.specs.Spelling.{SpellsLine}
use Rattle.rules.specs.Writing.{spelt}
use Rattle.laws.proofs.Lines.{printable_without, no_line_end_lem}
use Rattle.laws.proofs.InRange.{row_ok}
use Rattle.laws.proofs.Entries.{table_length}
use Rattle.obeys.proofs.Lines.{printable_read, line_says}
use Rattle.round.proofs.Lines.{spelt_says}
use Rattle.answers.proofs.AcceptedFile.{read_done, file_run}
use Rattle.answers.proofs.GoodTables.{good_whole}
use Rattle.answers.proofs.EditSpan.{edit_done}
use Rattle.demands.specs.EditedFile.{LineOf}
use Rattle.demands.specs.Undo.{EditsTo, Undo, UndoText, OneOrder, Commute}
use Rattle.demands.proofs.EditRows.{same_eq, same_refl, given, edit_rows_lem, edit_given}
use Rattle.demands.proofs.EditTable.{edit_accepts, edit_writes, own_fits, own_counts}
use Rattle.demands.proofs.EditIsReading.{line_spells}
use Rattle.demands.proofs.GoodStays.{edit_good}
use Rattle.demands.proofs.CountsOwn.{read_rows, counts_own}
use Rattle.demands.proofs.BenchFile.{computing}

-- ---- this machine's edits

abbrev Edits : Rows → ℕ → Command → ℕ → Rows → Type 0
Edits old k c m new = M.Edited taken same_state has_ended bad_table ends_too_soon start old k c m new

undoes : M.EditsAreRuns taken same_state has_ended bad_table ends_too_soon start
undoes = edits_are_runs taken same_state has_ended bad_table ends_too_soon same_eq same_refl start

afresh_of : {old new : Rows} {k : ℕ} {c : Command} {m : ℕ} → Edits old k c m new → M.Afresh taken same_state has_ended bad_table ends_too_soon start old k c new
afresh_of {old} {new} {k} {c} {m} e = (undoes.exactly old k c new e.table e.from e.upto).0 (m, e)

commutes : M.EditsCommute taken same_state has_ended bad_table ends_too_soon start
commutes = edits_commute taken same_state has_ended bad_table ends_too_soon same_eq same_refl start

-- rows of which line k gets the command that the text reads as
said_edit : (rev : Revision) (l : List ℕ) (c : Command) → say_out (line_of rev l) ≡ yields c → (rs : Rows) (k : ℕ) (a : 1 ≤ k) (b : k ≤ length rs)
    → edit_rows rev (all_hold rs) k l ≡ given rev rs k a b l c
said_edit rev l c w rs k a b = edit_rows_lem rev rs k a b l ∙ ap (λ (x : Out Command Refusal). on_out x (λ e. refused e k) (given rev rs k a b l)) w

-- ---- an edit of a good table, and of its rows

-- an accepted edit whose text reads as the command c: what it made of the rows, and of the numbers
record Steps (n : ℕ) (t : List ℤ) (rs : Rows) (k : ℕ) (c : Command) (m : ℕ) (u : List ℤ) : Type 0 where
  new : Rows
  edited : Edits rs k c m new
  good : Good u n new
  numbers : u ≡ table_numbers new ++ drop (row_width * n) t

module _ (rev : Revision) (t : List ℤ) (n : ℕ) (rs : Rows) (g : Good t n rs) (k : ℕ) (l : List ℕ) where
  module _ (c : Counts) (m : ℕ) (u : List ℤ) (d : Counts) (h : EditsTo rev n t c k l m u d) where
    says : (o : Command) × (say_out (line_of rev l) ≡ yields o)
    says =
        let x = edit_done rev t n k l c m h.answer in
        let e = edit_good rev t n rs g k l c x.span x.verdict x.fit in
        let w = edit_given rev rs k e.from e.upto l x.span e.made in
        (w.command, w.said)

    steps : (o : Command) → say_out (line_of rev l) ≡ yields o → Steps n t rs k o m u
    steps o w =
        let x = edit_done rev t n k l c m h.answer in
        let e = edit_good rev t n rs g k l c x.span x.verdict x.fit in
        record {
          new = put_at rs (k - 1) x.span.rows;
          edited = record {
            table = record { follows = g.follows; ends = g.ends };
            from = e.from;
            upto = e.upto;
            span = x.span;
            verdict = sym (said_edit rev l o w rs k e.from e.upto) ∙ e.made;
            meets = x.meets;
            rows = refl;
          };
          good = subst (λ (z : List ℤ). Good z n (put_at rs (k - 1) x.span.rows)) h.table e.good;
          numbers = sym h.table ∙ e.numbers;
        }

  -- the other way, from the table's own counts
  back : (o : Command) → say_out (line_of rev l) ≡ yields o → no_line_end l ≡ true → (m : ℕ) (new : Rows) → Edits rs k o m new
      → EditsTo rev n t (counts_of rs) k l m (table_numbers new ++ drop (row_width * n) t) (counts_of new)
  back o w hl m new e =
      let v = good_whole t n rs g in
      let rest : List ℤ = drop (row_width * n) t in
      let made : edit_rows rev (all_hold rs) k l ≡ accepted e.span = said_edit rev l o w rs k e.from e.upto ∙ e.verdict in
      let own = own_fits rev rs rest v.rows.within_range v.rows.count k e.from e.upto l hl e.span made in
      subst₂ (λ (z : List ℤ) (j : ℕ). EditsTo rev j z (counts_of rs) k l m (table_numbers new ++ rest) (counts_of new)) (sym v.numbers) v.count
      (record {
        answer = edit_accepts rev rs rest v.rows.within_range v.rows.count k e.from e.upto l hl e.span made (counts_of rs) own ∙ ap Ok e.meets;
        table = edit_writes rev rs rest v.rows.within_range v.rows.count k e.from e.upto l hl e.span made (counts_of rs) own
            ∙ ap (λ (z : Rows). table_numbers z ++ rest) e.rows;
        counts = own_counts rev rs rest v.rows.within_range v.rows.count k e.from e.upto l hl e.span made ∙ ap counts_of e.rows;
      })

-- what stood after the rows
rest_kept : {n : ℕ} {t : List ℤ} {rs : Rows} {k : ℕ} {c : Command} {m : ℕ} {u : List ℤ} → Steps n t rs k c m u → drop (row_width * n) u ≡ drop (row_width * n) t
rest_kept {n} {t} {u = u} s =
    ap (drop (row_width * n)) s.numbers
    ∙ drop_at (table_numbers s.new) (drop (row_width * n) t) (row_width * n) (table_length s.new ∙ ap (λ (j : ℕ). row_width * j) (good_whole u n s.new s.good).count)

-- the table's own counts, handed on
own_left : (rev : Revision) (t : List ℤ) (n : ℕ) (rs : Rows) → Good t n rs → {k : ℕ} {l : List ℕ} {m : ℕ} {u : List ℤ} {d : Counts} {c : Command}
    → EditsTo rev n t (counts_of rs) k l m u d → (s : Steps n t rs k c m u) → d ≡ counts_of s.new
own_left rev t n rs g {k} {l} {m} h s =
    sym h.counts ∙ counts_own.edit rev t n rs g k l m s.new h.answer (subst (λ (z : List ℤ). Good z n s.new) (sym h.table) s.good)

-- ---- texts that read as a command

spells_said : {rev : Revision} {b : List ℕ} {c : Command} → SpellsLine rev b c → say_out (line_of rev b) ≡ yields c
spells_said {rev} {b} {c} w = (line_says rev b (yields c)).1 w

-- they hold no line end
spells_free : {rev : Revision} {b : List ℕ} {c : Command} → SpellsLine rev b c → no_line_end b ≡ true
spells_free {b = b} w =
    no_line_end_lem b (printable_without LF (omega arith) b (printable_read w.printable)) (printable_without CR (omega arith) b (printable_read w.printable))

-- ---- undo

module _ (rev : Revision) (t : List ℤ) (n : ℕ) (rs : Rows) (g : Good t n rs) (k : ℕ) (l : List ℕ) (m : ℕ) (u : List ℤ) where
  undone : (d : Counts) → EditsTo rev n t (counts_of rs) k l m u d → (b : List ℕ) → SpellsLine rev b (row_of rs k).command → EditsTo rev n u d k b m t (counts_of rs)
  undone d h b w =
      let o = says rev t n rs g k l (counts_of rs) m u d h in
      let s = steps rev t n rs g k l (counts_of rs) m u d h o.0 o.1 in
      let e = back rev u n s.new s.good k b (row_of rs k).command (spells_said w) (spells_free w) m rs (undoes.undo s.edited no_row) in
      let former : table_numbers rs ++ drop (row_width * n) u ≡ t
      = ap (λ (z : List ℤ). table_numbers rs ++ z) (rest_kept s) ∙ sym (good_whole t n rs g).numbers in
      subst₂ (λ (z : Counts) (v : List ℤ). EditsTo rev n u z k b m v (counts_of rs)) (sym (own_left rev t n rs g h s)) former e

  undone_table : (c d : Counts) → EditsTo rev n t c k l m u d → (b : List ℕ) → SpellsLine rev b (row_of rs k).command
      → (e f : Counts) (i : ℕ) (v : List ℤ) → EditsTo rev n u e k b i v f → (i ≡ m) × (v ≡ t)
  undone_table c d h b w e f i v q =
      let o = says rev t n rs g k l c m u d h in
      let s = steps rev t n rs g k l c m u d h o.0 o.1 in
      let r = steps rev u n s.new s.good k b e i v f q (row_of rs k).command (spells_said w) in
      let z = undoes.undo s.edited no_row in
      let same : r.new ≡ rs = undoes.one_table (afresh_of r.edited) (afresh_of z) in (
        one_meeting (subst (λ (y : Rows). FirstAgreement start s.new y k i) same (undoes.meeting r.edited)) (undoes.meeting z),
        r.numbers ∙ ap₂ (λ (y : Rows) (x : List ℤ). table_numbers y ++ x) same (rest_kept s) ∙ sym (good_whole t n rs g).numbers,
      )

pub undo : Undo
undo = record { undo = undone; any_counts = undone_table }

-- ---- the texts

own_line : (rev : Revision) (bs : List ℕ) (t : List ℤ) (n : ℕ) (rs : Rows) → read_answer rev bs t ≡ Ok n → Good (read_leaves rev bs t) n rs
    → (k : ℕ) (w : LineOf bs k) → SpellsLine rev w.line (row_of rs k).command
own_line rev bs t n rs h g k w =
    let d = read_done rev bs t n h in
    subst (λ (z : Rows). SpellsLine rev w.line (row_of z k).command) (read_rows rev bs t n rs h g) (line_spells rev w d.rows (file_run rev bs d.rows d.read))

written_line : (rev : Revision) (t : List ℤ) (n : ℕ) (rs : Rows) → Good t n rs → (k : ℕ) → SpellsLine rev (spelt (row_of rs k).command) (row_of rs k).command
written_line rev t n rs g k =
    let c : Command = (row_of rs k).command in
    (line_says rev (spelt c) (yields c)).0 (ap say_out (spelt_says rev c (row_ok rs (k - 1) (good_whole t n rs g).rows.within_range)))

pub undo_text : UndoText
undo_text = record { own_line = own_line; written_line = written_line }

-- ---- either order

module _ (rev : Revision) (t : List ℤ) (n : ℕ) (rs : Rows) (g : Good t n rs) (k j : ℕ) (l b : List ℕ) {c₁ d₁ c₂ d₂ c₃ d₃ : Counts} {m i i' : ℕ} {u v w : List ℤ}
    (first : EditsTo rev n t c₁ k l m u d₁) (second : EditsTo rev n u c₂ j b i v d₂) (alone : EditsTo rev n t c₃ j b i' w d₃) where
  -- what the two texts read as
  of_l : (o : Command) × (say_out (line_of rev l) ≡ yields o)
  of_l = says rev t n rs g k l c₁ m u d₁ first

  of_b : (o : Command) × (say_out (line_of rev b) ≡ yields o)
  of_b = says rev t n rs g j b c₃ i' w d₃ alone

  one : Steps n t rs k of_l.0 m u
  one = steps rev t n rs g k l c₁ m u d₁ first of_l.0 of_l.1

  both : Steps n u one.new j of_b.0 i v
  both = steps rev u n one.new one.good j b c₂ i v d₂ second of_b.0 of_b.1

  other : Steps n t rs j of_b.0 i' w
  other = steps rev t n rs g j b c₃ i' w d₃ alone of_b.0 of_b.1

  module _ {c₄ d₄ : Counts} {m' : ℕ} {x : List ℤ} (last : EditsTo rev n w c₄ k l m' x d₄) where
    again : Steps n w other.new k of_l.0 m' x
    again = steps rev w n other.new other.good k l c₄ m' x d₄ last of_l.0 of_l.1

    same_rows : (k ≡ j → ⊥) → both.new ≡ again.new
    same_rows ne = commutes.one_table ne one.edited both.edited other.edited again.edited

    same_table : (k ≡ j → ⊥) → v ≡ x
    same_table ne =
        both.numbers ∙ ap₂ (λ (y : Rows) (z : List ℤ). table_numbers y ++ z) (same_rows ne) (rest_kept one ∙ sym (rest_kept other)) ∙ sym again.numbers

    spans : k < j → Exactly (m < j) (m' < j) × (m < j → (m ≡ m') × (i ≡ i'))
    spans h =
        commutes.apart h one.edited both.edited other.edited
        (subst (λ (y : Rows). Edits other.new k of_l.0 m' y) (sym (same_rows (λ e. omega arith))) again.edited)

module _ (rev : Revision) (t : List ℤ) (n : ℕ) (rs : Rows) (g : Good t n rs) (k j : ℕ) (ne : k ≡ j → ⊥) (l b : List ℕ) {c d e : Counts} {m i i' : ℕ} {u v w : List ℤ}
    (first : EditsTo rev n t (counts_of rs) k l m u c) (second : EditsTo rev n u c j b i v d) (alone : EditsTo rev n t (counts_of rs) j b i' w e) where
  fourth : (m' : ℕ) × EditsTo rev n w e k l m' v d
  fourth =
      let p = one rev t n rs g k j l b first second alone in
      let q = both rev t n rs g k j l b first second alone in
      let r = other rev t n rs g k j l b first second alone in
      let o = of_l rev t n rs g k j l b first second alone in
      let f = commutes.fourth ne p.edited q.edited r.edited in
      let z = back rev w n r.new r.good k l o.0 o.1 (spells_free ((line_says rev l (yields o.0)).0 o.1)) f.0 q.new f.1 in
      let table : table_numbers q.new ++ drop (row_width * n) w ≡ v
      = ap (λ (y : List ℤ). table_numbers q.new ++ y) (rest_kept r ∙ sym (rest_kept p)) ∙ sym q.numbers in
      let handed : e ≡ counts_of r.new = own_left rev t n rs g alone r in
      let left : d ≡ counts_of q.new
      = own_left rev u n p.new p.good (subst (λ (y : Counts). EditsTo rev n u y j b i v d) (own_left rev t n rs g first p) second) q in (
        f.0,
        subst₂ (λ (y : Counts) (z : Counts). EditsTo rev n w y k l f.0 v z) (sym handed) (sym left)
            (subst (λ (y : List ℤ). EditsTo rev n w (counts_of r.new) k l f.0 y (counts_of q.new)) table z),
      )

  same_counts : {m' : ℕ} {x : List ℤ} {f : Counts} → EditsTo rev n w e k l m' x f → d ≡ f
  same_counts last = sym fourth.1.counts ∙ last.counts

-- ---- the condition is needed

one_order : OneOrder
unfolding computing
one_order = record { selection_first = refl; then_declaration = refl; declaration_first = refl }

pub commute : Commute
commute = record {
  same_table = λ rev t n rs g k j ne l b p q r s. same_table rev t n rs g k j l b p q r s ne;
  same_counts = λ rev t n rs g k j ne l b p q r s. same_counts rev t n rs g k j ne l b p q r s;
  fourth = fourth;
  spans = λ rev t n rs g k j h l b p q r s. spans rev t n rs g k j l b p q r s h;
  one_order = one_order;
}
