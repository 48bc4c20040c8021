-- The demands, of calls: a contract says that the answer, and what is left, is what the definition says.
use mathlib.Core.Path.{◌≡◌, sym, ap, ◌∙◌, subst, subst₂}
use mathlib.Core.Bool.{true}
use mathlib.Core.List.{List}
use Prim.Native.Nat.{ℕ, ◌*◌, ◌≤◌}
use lib.IntN.{ℤ}
use lib.ListN.{length, take}
use Rattle.std.specs.Prelude.{Ok}
use Rattle.lists.specs.Put.{put_at}
use Rattle.lists.specs.Exactly.{Exactly}
use Rattle.rules.specs.declared.Counts.{Counts}
use Rattle.rules.specs.declared.Revision.{Revision}
use Rattle.rules.specs.Results.{Answer, HoleAnswer}
use Rattle.rules.specs.Numbers.{max_file}
use Rattle.rules.specs.Rows.{row_width, table_numbers, Good}
use Rattle.rules.specs.Reading.{Rows, row_of, state_before, read_answer, read_leaves}
use Rattle.rules.specs.Counting.{counts_of, read_counts, hits_answer, routs_answer}
use Rattle.rules.specs.Editing.{no_line_end, edit_answer, edit_leaves, edit_counts}
use Rattle.rules.specs.Asking.{hole_answer}
use Rattle.rules.specs.Holes.{hole_of}
use Rattle.rules.specs.Writing.{text_of_rows, write_answer, write_leaves}
use Rattle.rules.specs.Spelling.{SpellsLine}
use Rattle.rules.specs.Obeys.{ReadingOf}
use Rattle.rules.proofs.Said.{said_one, hole_said_one}
use Rattle.round.specs.Comments.{without_comments}
use Rattle.demands.specs.EditedFile.{LineOf, edited}
use Rattle.demands.specs.Demand3.{SameVerdict, SpanIs, SameCounts, AsReadAfresh}
use Rattle.demands.specs.Undo.{EditsTo}
use Rattle.answers.proofs.WrittenTable.{good_rows, write_done}
use Rattle.demands.proofs.Demand1.{demand_1}
use Rattle.demands.proofs.Demand2.{demand_2}
use Rattle.demands.proofs.Demand3.{demand_3}
use Rattle.demands.proofs.WriteRefused.{write_exactly}
use Rattle.demands.proofs.HoleRefused.{hole_refused_exactly}
use Rattle.demands.proofs.GoodExactly.{good_exactly}
use Rattle.demands.proofs.GoodStays.{good_stays}
use Rattle.demands.proofs.CountsExactly.{edit_refused_exactly}
use Rattle.demands.proofs.CountsOwn.{counts_own}
use Rattle.demands.proofs.Undo.{undo, undo_text, commute}
use Rattle.promises.specs.Calls.{ReadCall, EditCall, HitsCall, RoutsCall, HoleCall, WriteCall}
use Rattle.promises.specs.OfTheCode.{ReadsFile, OfTheCode, UndoOfTheCode}

-- ---- what the contracts say of a call

read_says : {file : List ℕ} {rev : Revision} {table left : List ℤ} {answer : Answer} {counts : Counts} → ReadCall file rev table answer counts left
    → (answer ≡ read_answer rev file table) × (left ≡ read_leaves rev file table) × (counts ≡ read_counts rev file table)
read_says c = (
  said_one (c.promised.answer ∙ rw (c.file_is, c.revision_is, c.table_is)),
  sym c.left_is ∙ c.promised.leaves ∙ rw (c.file_is, c.revision_is, c.table_is),
  c.promised.counts ∙ rw (c.file_is, c.revision_is, c.table_is),
)

edit_says : {table left : List ℤ} {n line : ℕ} {text : List ℕ} {rev : Revision} {counts counts_remaining : Counts} {answer : Answer}
    → EditCall table n line text rev counts answer counts_remaining left
    → (answer ≡ edit_answer rev table n line text counts) × (left ≡ edit_leaves rev table n line text counts) × (counts_remaining ≡ edit_counts rev table n line text counts)
edit_says c = (
  said_one (c.promised.answer ∙ rw (c.table_is, c.n_is, c.line_is, c.text_is, c.revision_is, c.counts_is)),
  sym c.left_is ∙ c.promised.leaves ∙ rw (c.table_is, c.n_is, c.line_is, c.text_is, c.revision_is, c.counts_is),
  c.promised.counts ∙ rw (c.table_is, c.n_is, c.line_is, c.text_is, c.revision_is, c.counts_is),
)

hits_says : {counts : Counts} {tool : ℕ} {answer : Answer} → HitsCall counts tool answer → answer ≡ hits_answer counts tool
hits_says c = said_one (c.promised ∙ rw (c.counts_is, c.tool_is))

routs_says : {counts : Counts} {tool : ℕ} {answer : Answer} → RoutsCall counts tool answer → answer ≡ routs_answer counts tool
routs_says c = said_one (c.promised ∙ rw (c.counts_is, c.tool_is))

hole_says : {table : List ℤ} {n line : ℕ} {answer : HoleAnswer} → HoleCall table n line answer → answer ≡ hole_answer table n line
hole_says c = hole_said_one (c.promised ∙ rw (c.table_is, c.n_is, c.line_is))

write_says : {table : List ℤ} {n : ℕ} {text left : List ℕ} {answer : Answer} → WriteCall table n text answer left
    → (answer ≡ write_answer table n text) × (left ≡ write_leaves table n text)
write_says c = (
  said_one (c.promised.0 ∙ rw (c.table_is, c.n_is, c.text_is)),
  sym c.left_is ∙ c.promised.1 ∙ rw (c.table_is, c.n_is, c.text_is),
)

-- what holds exactly of an answer holds exactly of any that equals it
exactly : {A : Type 0} {P : Type 0} {a b x : A} → a ≡ b → Exactly (b ≡ x) P → Exactly (a ≡ x) P
exactly e w = (λ h. w.0 (sym e ∙ h), λ p. e ∙ w.1 p)

-- ---- reading

module _ (file : List ℕ) (rev : Revision) (table : List ℤ) (answer : Answer) (counts : Counts) (left : List ℤ) (c : ReadCall file rev table answer counts left) where
  accepted : (rs : Rows) → ReadingOf rev file rs → row_width * length rs ≤ length table
      → (answer ≡ Ok (length rs)) × (left ≡ put_at table 0 (table_numbers rs)) × Good left (length rs) rs × (counts ≡ counts_of rs)
  accepted rs w h =
      let s = read_says c in
      let d = (demand_2.reads rev file table).accepted rs w h in
      let k = (demand_2.reads rev file table).holds (length rs) rs d w in
      (s.0 ∙ d, s.1 ∙ k.numbers, subst (λ (t : List ℤ). Good t (length rs) rs) (sym s.1) k.good, s.2 ∙ counts_own.read rev file table (length rs) rs d k.good)

  holes : (n : ℕ) (rs : Rows) → answer ≡ Ok n → ReadingOf rev file rs → (k : ℕ) → 1 ≤ k → k ≤ n → (hole : HoleAnswer) → HoleCall left n k hole
      → hole ≡ hole_of (state_before rs k).at (row_of rs k).command (row_of rs k).state
  holes n rs e w k a b hole d =
      let s = read_says c in
      hole_says d ∙ ap (λ (t : List ℤ). hole_answer t n k) s.1 ∙ ((demand_2.reads rev file table).holds n rs (sym s.0 ∙ e) w).holes k a b

  reads_file : ReadsFile file rev table answer counts left
  reads_file =
      let s = read_says c in
      record {
        refused = λ e i h. (s.1 ∙ ((demand_1.read rev file table).refused e i (sym s.0 ∙ h)).0, s.2 ∙ (demand_1.read rev file table).counts_are_none e i (sym s.0 ∙ h));
        column_only = λ e i h. (demand_1.read rev file table).column_only e i (sym s.0 ∙ h);
        obeys = λ n h. (demand_2.reads rev file table).obeys n (sym s.0 ∙ h);
        accepted = accepted;
        refused_exactly = λ e i. exactly s.0 ((demand_2.reads rev file table).refused e i);
        holes = holes;
      }

-- ---- what was written, read back

read_back : (table : List ℤ) (n : ℕ) (rs : Rows) → Good table n rs → (block : List ℕ) (m : ℕ) (text : List ℕ)
    → WriteCall table n block (Ok m) text → (lent : List ℤ) → row_width * length (without_comments rs) ≤ length lent
    → (rev : Revision) (answer : Answer) (counts : Counts) (left : List ℤ) → ReadCall (take m text) rev lent answer counts left
    → (answer ≡ Ok (length (without_comments rs))) × (left ≡ put_at lent 0 (table_numbers (without_comments rs)))
read_back table n rs g block m text c lent h rev answer counts left d =
    let s = write_says c in
    let f = write_done table n block m (sym s.0) in
    let e : f.rows ≡ rs = let q = sym f.verdict ∙ good_rows table n rs g in cc in
    let b = demand_2.writes_back table n rs g in
    let o = b.writes block (subst (λ (z : Rows). length (text_of_rows z) ≤ length block) e f.room) in
    let k : m ≡ length (text_of_rows rs) = sym f.counted ∙ ap (λ (z : Rows). length (text_of_rows z)) e in
    let x : take m text ≡ text_of_rows rs = rw (k, s.1) o.found in
    let r = read_says d in
    let back = b.reads_back rev lent h in
    (r.0 ∙ ap (λ (z : List ℕ). read_answer rev z lent) x ∙ back.answer, r.1 ∙ ap (λ (z : List ℕ). read_leaves rev z lent) x ∙ back.table)

-- ---- an edit, and the edited file read afresh

same_counts : (c : Counts) (a b : Answer) → a ≡ b → {x y u v : Counts} → x ≡ y → u ≡ v → SameCounts c a x u → SameCounts c b y v
same_counts c a b e {x} {y} {u} {v} p q h = subst₂ (SameCounts c b) p q (subst (λ (z : Answer). SameCounts c z x u) e h)

as_afresh : (file : List ℕ) (rev : Revision) (lent : List ℤ) (n : ℕ) (counts : Counts) (table : List ℤ) → ReadCall file rev lent (Ok n) counts table
    → (k : ℕ) (w : LineOf file k) (text : List ℕ) → no_line_end text ≡ true → length (edited w text) ≤ max_file
    → (answer_of_edit : Answer) (counts_then : Counts) (after : List ℤ) → EditCall table n k text rev counts answer_of_edit counts_then after
    → (fresh_answer : Answer) (fresh_counts : Counts) (fresh : List ℤ) → ReadCall (edited w text) rev table fresh_answer fresh_counts fresh
    → SameVerdict n answer_of_edit fresh_answer × (after ≡ fresh) × SpanIs rev file (edited w text) table after n k answer_of_edit
    × SameCounts counts answer_of_edit counts_then fresh_counts
as_afresh file rev lent n counts table c k w text hl hb answer_of_edit counts_then after d fresh_answer fresh_counts fresh f =
    let old = read_says c in
    let a : AsReadAfresh rev file (edited w text) table counts n k text
    = subst₂ (λ (u : List ℤ) (x : Counts). AsReadAfresh rev file (edited w text) u x n k text) (sym old.1) (sym old.2)
    ((demand_3 rev).as_read_afresh file lent n (sym old.0) k w text hl hb) in
    let e = edit_says d in
    let r = read_says f in (
      subst₂ (SameVerdict n) (sym e.0) (sym r.0) a.verdict,
      e.1 ∙ a.table ∙ sym r.1,
      subst₂ (λ (u : List ℤ) (x : Answer). SpanIs rev file (edited w text) table u n k x) (sym e.1) (sym e.0) a.span,
      same_counts counts (edit_answer rev table n k text counts) answer_of_edit (sym e.0) (sym e.2) (sym r.2) a.counts,
    )

-- ---- the table's own counts

edited_own : (table : List ℤ) (n : ℕ) (rs : Rows) → Good table n rs → (line : ℕ) (text : List ℕ) (rev : Revision) (m : ℕ) (counts_remaining : Counts) (left : List ℤ)
    → EditCall table n line text rev (counts_of rs) (Ok m) counts_remaining left → (ss : Rows) × (Good left n ss × (counts_remaining ≡ counts_of ss))
edited_own table n rs g line text rev m counts_remaining left c =
    let s = edit_says c in
    let w = good_stays.stays rev table n (record { rows = rs; good = g }) line text (counts_of rs) m (sym s.0) in
    (w.rows, (subst (λ (u : List ℤ). Good u n w.rows) (sym s.1) w.good, s.2 ∙ counts_own.edit rev table n rs g line text m w.rows (sym s.0) w.good))

-- ---- put back, and in either order

accepted_edit : {table : List ℤ} {n line : ℕ} {text : List ℕ} {rev : Revision} {counts : Counts} {m : ℕ} {counts_remaining : Counts} {left : List ℤ}
    → EditCall table n line text rev counts (Ok m) counts_remaining left → EditsTo rev n table counts line text m left counts_remaining
accepted_edit c = let s = edit_says c in record { answer = sym s.0; table = sym s.1; counts = sym s.2 }

put_back : (table : List ℤ) (n : ℕ) (rs : Rows) → Good table n rs → (line : ℕ) (text : List ℕ) (rev : Revision) (m : ℕ) (counts_remaining : Counts) (left : List ℤ)
    → EditCall table n line text rev (counts_of rs) (Ok m) counts_remaining left → (back : List ℕ) → SpellsLine rev back (row_of rs line).command
    → (answer : Answer) (counts_back : Counts) (former : List ℤ) → EditCall left n line back rev counts_remaining answer counts_back former
    → (answer ≡ Ok m) × (former ≡ table) × (counts_back ≡ counts_of rs)
put_back table n rs g line text rev m counts_remaining left c back w answer counts_back former d =
    let e = undo.undo rev table n rs g line text m left counts_remaining (accepted_edit c) back w in
    let s = edit_says d in
    (s.0 ∙ e.answer, s.1 ∙ e.table, s.2 ∙ e.counts)

own_line_back : (file : List ℕ) (rev : Revision) (lent : List ℤ) (n : ℕ) (counts : Counts) (table : List ℤ)
    → ReadCall file rev lent (Ok n) counts table → (k : ℕ) (w : LineOf file k) (text : List ℕ) (m : ℕ) (counts_remaining : Counts) (left : List ℤ)
    → EditCall table n k text rev counts (Ok m) counts_remaining left
    → (answer : Answer) (counts_back : Counts) (former : List ℤ) → EditCall left n k w.line rev counts_remaining answer counts_back former
    → (answer ≡ Ok m) × (former ≡ table) × (counts_back ≡ counts)
own_line_back file rev lent n counts table c k w text m counts_remaining left d answer counts_back former b =
    let s = read_says c in
    let t = good_exactly.read_good rev table n (record { file = file; lent = lent; answer = sym s.0; table = sym s.1 }) in
    let g : Good (read_leaves rev file lent) n t.rows = subst (λ (u : List ℤ). Good u n t.rows) s.1 t.good in
    let own : counts ≡ counts_of t.rows = s.2 ∙ counts_own.read rev file lent n t.rows (sym s.0) g in
    let e = put_back table n t.rows t.good k text rev m counts_remaining left
    (subst (λ (z : Counts). EditCall table n k text rev z (Ok m) counts_remaining left) own d)
    w.line (undo_text.own_line rev file lent n t.rows (sym s.0) g k w) answer counts_back former b in
    (e.0, e.1, e.2 ∙ sym own)

pub of_the_code : OfTheCode
of_the_code = record {
  read = reads_file;
  refused_edit = λ table n line text rev counts e i counts_remaining left c.
      let s = edit_says c in
      let d = demand_1.edit rev table n line text counts in
      (s.1 ∙ (d.refused e i (sym s.0)).0, s.2 ∙ d.counts_kept e i (sym s.0));
  edit_column_only = λ table n line text rev counts e i counts_remaining left c. (demand_1.edit rev table n line text counts).column_only e i (sym (edit_says c).0);
  refused_write = λ table n block e i left c. let s = write_says c in s.1 ∙ ((demand_1.write table n block).refused e i (sym s.0)).0;
  edit_exactly = λ table n line text rev counts answer counts_remaining left c e i. exactly (edit_says c).0 (edit_refused_exactly.refused rev table n line text counts e i);
  hole_exactly = λ table n line answer c e i. exactly (hole_says c) (hole_refused_exactly.refused table n line e i);
  write_exactly = λ table n block answer left c e i. exactly (write_says c).0 ((write_exactly.writes table n block).refused e i);
  written_read_back = read_back;
  edited_as_read_afresh = as_afresh;
  edit_own = edited_own;
  asked_hits = λ table n rs g tool a b answer c. hits_says c ∙ counts_own.hits table n rs g tool a b;
  asked_routs = λ table n rs g tool a b answer c. routs_says c ∙ counts_own.routs table n rs g tool a b;
}

pub undo_of_the_code : UndoOfTheCode
undo_of_the_code = record {
  tried_and_put_back = own_line_back;
  edit_undone = put_back;
  edits_commute = λ table n rs g k j ne l b rev p q r s. (
    commute.same_table rev table n rs g k j ne l b (accepted_edit p) (accepted_edit q) (accepted_edit r) (accepted_edit s),
    commute.same_counts rev table n rs g k j ne l b (accepted_edit p) (accepted_edit q) (accepted_edit r) (accepted_edit s),
  );
}
