-- The rows that an edit writes: those of the span, one after another, each put where a whole row stood.
use mathlib.Core.Path.{◌≡◌, refl, sym, ap, ◌∙◌, subst}
use mathlib.Core.Bool.{Bool, true, false, cond}
use mathlib.Core.List.{List, [], ◌∷◌}
use Prim.Native.Nat.{ℕ, ◌+◌, ◌-◌, ◌*◌, ◌<◌, ◌≤◌}
use native.Mathlib.Omega.{arith}
use borrow.Author.Tests.{lt-ltb, le-ltb, ltb-false}
use lib.Dec.{ltb}
use lib.IntN.{ℤ}
use lib.ListN.{length, drop, length-drop, drop_of_length-le}
use Rattle.rules.proofs.Said.{refused_same}
use Rattle.rules.specs.Results.{Answer, Looked}
use Rattle.std.specs.Prelude.{Some, None, Ok, Err}
use Rattle.lists.specs.Put.{put_at}
use Rattle.lists.proofs.Put.{put_none}
use Rattle.lists.proofs.Choice.{cond_all}
use Rattle.runs.specs.Machine.{Row, Out, yields, stops, on_out, Verdict, accepted, refused, holds, bad, Span, widen, rerun}
use Rattle.runs.proofs.Meeting.{rerun_counted}
use Rattle.rules.specs.declared.Command.{Command}
use Rattle.rules.specs.declared.State.{State}
use Rattle.rules.specs.declared.Row as R
use Rattle.rules.specs.declared.Refusal.{Refusal}
use Rattle.rules.specs.declared.Refused.{Refused}
use Rattle.rules.specs.Refusals.{ends_too_soon, bad_table}
use Rattle.rules.specs.State.{step, taken, has_ended, same_state}
use Rattle.rules.specs.Rows.{row_width, table_numbers, entry_of, entries_of}
use Rattle.rules.specs.Reading.{Rows}
use Rattle.rules.specs.Ranges.{StateOk, CommandOk}
use Rattle.rules.specs.Editing.{rerun_from, edit_from, meeting_of}
use Rattle.laws.proofs.Keeps.{keeps}
use Rattle.laws.proofs.Entries.{entries_length, table_one}
use Rattle.table.specs.Table.{look_at}
use Rattle.table.proofs.Looks.{Found, look_found, entries_cons}
use Rattle.put.specs.PutRow.{put_row}
use Rattle.put.proofs.Puts.{put_rest, put_row_lem, put_next}
use Rattle.editor.specs.Parts.{Entries, rows_to_meet, span_written, new_rows, edited_to, LineFound, Met}

pub widen_meeting : (r : Row Command State) (v : Verdict (Span Command State) Refusal) → meeting_of (widen r v) ≡ meeting_of v
widen_meeting r (accepted s) = refl
widen_meeting r (refused e i) = refl

pub no_rows : (t : List ℤ) (n i : ℕ) → n ≤ i → drop i (entries_of n t) ≡ []
no_rows t n i h = drop_of_length-le (entries_of n t) {i = i} (omega (arith, entries_length n t))

pub ruleset meeting_rules = (entries_cons, no_rows, widen_meeting)

-- ---- an accepted rerun's rows are those that stand up to the meeting line

abbrev Has : Rows → Verdict (Span Command State) Refusal → Type 0
Has rs (accepted s) = s.rows ≡ rs
Has rs (refused e i) = Unit {0}

has_widen : (r : Row Command State) (rs : Rows) (v : Verdict (Span Command State) Refusal) → Has rs v → Has (r ∷ rs) (widen r v)
has_widen r rs (accepted s) h = ap (◌∷◌ r) h
has_widen r rs (refused e i) h = tt

has_past : (b : Bool) (i : ℕ) → Has [] (cond b (accepted (record { meeting = i; rows = [] })) (refused ends_too_soon (i + 1)))
has_past true i = refl
has_past false i = tt

has_row : (r : Row Command State) (rs : Rows) (i : ℕ) (v : Verdict (Span Command State) Refusal) (b : Bool) → Has rs v
    → Has (r ∷ cond b [] rs) (cond b (accepted (record { meeting = i; rows = r ∷ [] })) (widen r v))
has_row r rs i v true h = refl
has_row r rs i v false h = has_widen r rs v h

has_out : (x : Out State Refusal) (i : ℕ) (f : State → Rows) (g : State → Verdict (Span Command State) Refusal)
    → ((q : State) → Has (f q) (g q)) → Has (on_out x (λ e. []) f) (on_out x (λ e. refused e i) g)
has_out (yields q) i f g h = h q
has_out (stops e) i f g h = tt

has_rows : (p : State) (es : Entries) (i : ℕ) → Has (rows_to_meet p es) (rerun_from p es i)
unfolding rerun rows_to_meet
has_rows p [] i = has_past (has_ended p) i
has_rows p (bad ∷ es) i = tt
has_rows p (holds r ∷ es) i =
    has_out (taken p r.command) (i + 1) _ _
    (λ q. has_row (record { command = r.command; state = q }) (rows_to_meet q es) (i + 1) (rerun_from q es (i + 1)) (same_state q r.state) (has_rows q es (i + 1)))

rows_are : (p : State) (es : Entries) (i : ℕ) (s : Span Command State) → rerun_from p es i ≡ accepted s → s.rows ≡ rows_to_meet p es
rows_are p es i s e = subst (Has (rows_to_meet p es)) e (has_rows p es i)

-- ---- the walk that writes

-- the state after a row that stands is in range
pub next_ok : (t : List ℤ) (i : ℕ) (r : R.Row) (p q : State) → StateOk p → look_at t i ≡ Some r → step p r.command ≡ Ok q → StateOk q
next_ok t i r p q ok e f = keeps p q r.command ok (look_found t i r.command r.state e).command_ok f

module _ (t : List ℤ) (n i : ℕ) (p : State) where
  pub span_over : n ≤ i → span_written t n i p ≡ t
  unfolding span_written table_numbers rows_to_meet
  span_over h = rw (no_rows t n i h) (put_none t (row_width * i))

  module _ (room : row_width * n ≤ length t) (h : i < n) where
    -- what is left to write where row i looks so
    looks : (x : Looked) → look_at t i ≡ x → span_written t n i p ≡ put_at t (row_width * i) (table_numbers (rows_to_meet p (entry_of x ∷ drop (i + 1) (entries_of n t))))
    unfolding span_written
    looks x e = rw (entries_cons n t i h room, e)

    pub span_bad : look_at t i ≡ None → span_written t n i p ≡ t
    unfolding table_numbers rows_to_meet
    span_bad e = looks None e ∙ put_none t (row_width * i)

    module _ (r : R.Row) (e : look_at t i ≡ Some r) where
      pub span_refused : (f : Refusal) → step p r.command ≡ Err f → span_written t n i p ≡ t
      unfolding table_numbers rows_to_meet
      span_refused f g = looks (Some r) e ∙ rw g (put_none t (row_width * i))

      module _ (q : State) (f : step p r.command ≡ Ok q) (ok : StateOk p) where
        found : Found t i r.command r.state
        found = look_found t i r.command r.state e

        q_ok : StateOk q
        q_ok = next_ok t i r p q ok e f

        pub span_met : same_state q r.state ≡ true → span_written t n i p ≡ put_row t i r.command q
        unfolding rows_to_meet
        span_met y =
            looks (Some r) e ∙ rw (f, y, table_one (record { command = r.command; state = q }))
            (sym (put_row_lem t i r.command q found.command_ok q_ok found.inside))

        pub span_on : same_state q r.state ≡ false → span_written (put_row t i r.command q) n (i + 1) q ≡ span_written t n i p
        unfolding span_written rows_to_meet
        span_on y =
            rw (put_rest t i r.command q n h room)
            (put_next t i r.command q found.command_ok q_ok found.inside (rows_to_meet q (drop (i + 1) (entries_of n t)))
            ∙ sym (looks (Some r) e ∙ rw (f, y)))

pub ruleset span_rules = (span_over, span_bad, span_refused, span_met, span_on)

-- ---- the edited row, and the rows after it

no_length : (rs : Rows) → length rs ≤ 0 → rs ≡ []
no_length [] h = refl
no_length (r ∷ rs) h = absurd (omega arith)

-- the new command is taken first; what it leaves is the edited row
pub taken_first : (es : Entries) (k : ℕ) (p o : State) (c : Command) → 1 ≤ k
    → edit_from es k p o c ≡ on_out (taken p c) (λ e. refused e k) (λ q. edited_to es k c q o)
unfolding edit_from rerun
taken_first es k p o c h = let a : k - 1 + 1 ≡ k = omega arith in rw a

module _ (t : List ℤ) (n k : ℕ) (o : State) (found : LineFound t n k) where
  module _ (c : Command) (q : State) (cok : CommandOk c) (qok : StateOk q) where
    pub asked_met : same_state q o ≡ true → Met t n k (edited_to (entries_of n t) k c q o) k c q
    asked_met y =
        let s : Span Command State = record { meeting = k; rows = record { command = c; state = q } ∷ [] } in
        record {
          span = s;
          verdict = rw y;
          meets = refl;
          rows = rw (le-ltb k k (omega arith));
          counted = omega (arith, found.from);
          found = found;
          later = omega arith;
          upto = found.upto;
          command_ok = cok;
          state_ok = qok;
        }

    -- a is what the walk over the rows after it told
    module _ (y : same_state q o ≡ false) {a : Answer} (ae : a ≡ meeting_of (rerun_from q (drop k (entries_of n t)) k)) where
      pub asked_refused : (r : Refused) → a ≡ Err r → edited_to (entries_of n t) k c q o ≡ refused r.refusal r.line
      asked_refused r h = rw y (by (rerun_from q (drop k (entries_of n t)) k) (sym h ∙ ae))
        where
          by : (v : Verdict (Span Command State) Refusal) → Err r ≡ meeting_of v → widen (record { command = c; state = q }) v ≡ refused r.refusal r.line
          by (accepted x) g = absurd (let z : ◌≡◌ {A = ℕ} 0 1 = cc in omega arith)
          by (refused e i) g = let same = refused_same g in rw (same.0, same.1)

      -- the rows after it, up to the meeting line
      rows_after : (x : Span Command State) → rerun_from q (drop k (entries_of n t)) k ≡ accepted x → (m : ℕ) → x.meeting ≡ m
          → x.rows ≡ cond (ltb k m) (rows_to_meet q (drop k (entries_of n t))) []
      rows_after x ev m g =
          cond_all (λ (z : Rows). x.rows ≡ z) (ltb k m) (λ _. rows_are q (drop k (entries_of n t)) k x ev)
          (λ h. no_length x.rows
          (omega (arith, g, ltb-false k m h, (rerun_counted taken same_state has_ended bad_table ends_too_soon q (drop k (entries_of n t)) k x ev).0)))

      pub asked_on : (m : ℕ) → a ≡ Ok m → Met t n k (edited_to (entries_of n t) k c q o) m c q
      asked_on m h = by (rerun_from q (drop k (entries_of n t)) k) refl (sym h ∙ ae)
        where
          by : (v : Verdict (Span Command State) Refusal) → rerun_from q (drop k (entries_of n t)) k ≡ v → Ok m ≡ meeting_of v
              → Met t n k (edited_to (entries_of n t) k c q o) m c q
          by (refused f j) ev g = absurd (let z : ◌≡◌ {A = ℕ} 0 1 = cc in omega arith)
          by (accepted x) ev g =
              let d : x.meeting ≡ m = cc in
              let s : Span Command State = record { meeting = x.meeting; rows = record { command = c; state = q } ∷ x.rows } in
              let w = rerun_counted taken same_state has_ended bad_table ends_too_soon q (drop k (entries_of n t)) k x ev in
              record {
                span = s;
                verdict = rw (y, ev);
                meets = d;
                rows = ap (◌∷◌ (record { command = c; state = q })) (rows_after x ev m d);
                counted = omega (arith, d, w.0, found.from);
                found = found;
                later = omega (arith, d, w.0);
                upto = omega (arith, d, w.0, w.1, length-drop k (entries_of n t), entries_length n t, found.upto);
                command_ok = cok;
                state_ok = qok;
              }

pub ruleset asked_rules = (asked_met, asked_refused, asked_on)

-- ---- what is written: the edited row, and then the rows after it up to the meeting line

module _ (t : List ℤ) (n k m : ℕ) (c : Command) (q : State) (found : LineFound t n k) (cok : CommandOk c) (qok : StateOk q) where
  pub written_one : m ≤ k → put_at t (row_width * (k - 1)) (table_numbers (new_rows (entries_of n t) k m c q)) ≡ put_row t (k - 1) c q
  written_one h =
      rw (le-ltb k m h)
      (sym (put_row_lem t (k - 1) c q cok qok (omega (arith, found.from, found.upto, found.room)) ∙ ap (put_at t (row_width * (k - 1))) (sym (table_one (record { command = c; state = q })))))

  pub written_on : k < m → put_at t (row_width * (k - 1)) (table_numbers (new_rows (entries_of n t) k m c q)) ≡ span_written (put_row t (k - 1) c q) n k q
  unfolding span_written
  written_on h =
      let l : k - 1 + 1 ≡ k = omega (arith, found.from) in
      let stay : drop k (entries_of n (put_row t (k - 1) c q)) ≡ drop k (entries_of n t) = rw l at (put_rest t (k - 1) c q n (omega (arith, found.from, found.upto)) found.room) in
      rw (lt-ltb k m h, stay) (sym (rw l at (put_next t (k - 1) c q cok qok (omega (arith, found.from, found.upto, found.room)) (rows_to_meet q (drop k (entries_of n t))))))

pub ruleset write_rules = (written_one, written_on)
