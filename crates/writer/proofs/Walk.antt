-- The rows of a table, one at a time: what is left, told or written from where we are, is what the whole is.
use mathlib.Core.Path.{◌≡◌, refl, ap, ◌∙◌}
use mathlib.Core.Bool.{Bool, true, false, cond}
use mathlib.Core.List.{List, [], ◌∷◌, ◌++◌, append_assoc, append-nil}
use Prim.Native.Nat.{ℕ, suc, ◌+◌, ◌*◌, ◌<◌, ◌≤◌}
use native.Mathlib.Omega.{arith}
use lib.IntN.{ℤ}
use lib.ListN.{length, drop, drop_of_length-le, length-append, length-drop}
use Rattle.std.specs.Prelude.{Some, None, Ok}
use Rattle.runs.specs.Machine.{Out, yields, stops, on_out, Verdict, accepted, refused, Row, Entry, holds, all_hold, before, follow}
use Rattle.runs.proofs.Follow.{follow_follows}
use Rattle.rules.specs.declared.Command.{Command}
use Rattle.rules.specs.declared.State.{State}
use Rattle.rules.specs.declared.Refusal.{Refusal}
use Rattle.rules.specs.Results.{Looked, row_found}
use Rattle.rules.specs.Refusals.{bad_table}
use Rattle.rules.specs.State.{start, taken, has_ended, same_state}
use Rattle.rules.specs.Rows.{row_width, entry_of, entries_of}
use Rattle.rules.specs.Reading.{Rows}
use Rattle.rules.specs.Writing.{line_text, text_of_rows, follow_from}
use Rattle.rules.proofs.Same.{same_state_iff}
use Rattle.laws.proofs.Entries.{entries_length}
use Rattle.table.specs.Table.{look_at, untested_at, followed}
use Rattle.table.proofs.Looks.{command_holds, entries_cons}
use Rattle.text.specs.Wrote.{Wrote}
use Rattle.text.proofs.Wrote.{wrote_more, wrote_nothing}
use Rattle.writer.specs.Walk.{bytes_from, text_to}

-- ---- measuring: one row looked at, where it follows, and the rows after it

abbrev told : {A : Type 0} → Looked → A → (Row Command State → A) → A
told (Some r) z f = f (record { command = r.command; state = r.state })
told None z f = z

module _ (es : List (Entry Command State)) (i : ℕ) where
  abbrev rest : Row Command State → Verdict Rows Refusal
  rest r = before r (follow_from r.state es (i + 1))

  follow_looked : (p : State) (x : Looked) → follow_from p (entry_of x ∷ es) i ≡ told (followed p x) (refused bad_table (i + 1)) rest
  unfolding follow followed
  follow_looked p None = refl
  follow_looked p (Some r) = by (taken p r.command)
    where
      new : State → Row Command State
      new q = record { command = r.command; state = q }

      met : (q : State) (b : Bool) → same_state q r.state ≡ b
          → cond b (before (new r.state) (follow_from q es (i + 1))) (refused bad_table (i + 1))
          ≡ told (cond b (row_found r.command r.state) None) (refused bad_table (i + 1)) rest
      met q true e = ap (λ z. before (new r.state) (follow_from z es (i + 1))) ((same_state_iff q r.state).0 e)
      met q false e = refl

      by : (o : Out State Refusal)
          → on_out o (λ _. refused bad_table (i + 1)) (λ q. cond (same_state q r.state) (before (new r.state) (follow_from q es (i + 1))) (refused bad_table (i + 1)))
          ≡ told (on_out o (λ _. None) (λ q. cond (same_state q r.state) (row_found r.command r.state) None)) (refused bad_table (i + 1)) rest
      by (yields q) = met q (same_state q r.state) refl
      by (stops e) = refl

module _ (p : State) (n i : ℕ) (t : List ℤ) where
  -- the row after i others, and the rest
  pub follow_turn : row_width * n ≤ length t → i < n → {l : Looked} → l ≡ followed p (look_at t i)
      → follow_from p (drop i (entries_of n t)) i ≡ told l (refused bad_table (i + 1)) (rest (drop (i + 1) (entries_of n t)) i)
  follow_turn room h e = rw (entries_cons n t i h room, e) (follow_looked (drop (i + 1) (entries_of n t)) i p (look_at t i))

  -- past the last row
  pub follow_over : n ≤ i → follow_from p (drop i (entries_of n t)) i ≡ cond (has_ended p) (accepted []) (refused bad_table i)
  unfolding follow
  follow_over h = rw (drop_of_length-le (entries_of n t) {i = i} (omega (arith, entries_length n t)))

pub bytes_before : (b k : ℕ) (r : Row Command State) (v : Verdict Rows Refusal) → k ≡ length (line_text r.command) → bytes_from (b + k) v ≡ bytes_from b (before r v)
unfolding text_of_rows
bytes_before b k r (accepted rs) e = ap Ok (omega (arith, e, length-append (line_text r.command) (text_of_rows rs)))
bytes_before b k r (refused e i) f = refl

-- ---- writing: row by row, the text of the commands in them

text_more : (t : List ℤ) (i : ℕ) → text_to t (i + 1) ≡ text_to t i ++ line_text (untested_at t i)
unfolding text_to
text_more t i = let e : i + 1 ≡ suc i = omega arith in rw e

module _ (t : List ℤ) {b : List ℕ} {at : ℕ} where
  pub wrote_none : Wrote b at (text_to t 0) b at
  unfolding text_to
  wrote_none = wrote_nothing

  pub wrote_row : (i : ℕ) {b₁ b₂ : List ℕ} {r₁ r₂ : ℕ}
      → Wrote b at (text_to t i) b₁ r₁ → Wrote b₁ r₁ (line_text (untested_at t i)) b₂ r₂ → Wrote b at (text_to t (i + 1)) b₂ r₂
  wrote_row i w v = rw (text_more t i) (wrote_more w v)

-- the text of rows that follow is that of the commands in them
module _ (t : List ℤ) (n : ℕ) (room : row_width * n ≤ length t) where
  text_rest : (rs : Rows) (i : ℕ) → i ≤ n → drop i (entries_of n t) ≡ all_hold rs → text_to t n ≡ text_to t i ++ text_of_rows rs
  unfolding all_hold text_of_rows
  text_rest [] i h e =
      let k : i ≡ n = omega (arith, ap length e, length-drop i (entries_of n t), entries_length n t) in
      rw (k, append-nil (text_to t n))
  text_rest (r ∷ rs) i h e =
      let k : i < n = omega (arith, ap length e, length-drop i (entries_of n t), entries_length n t) in
      let f = entries_cons n t i k room in
      let first : entry_of (look_at t i) ≡ holds r = cc in
      let others : drop (i + 1) (entries_of n t) ≡ all_hold rs = cc in
      text_rest rs (i + 1) (omega arith) others
      ∙ rw (text_more t i, command_holds t i (omega arith) r first) (append_assoc (text_to t i) (line_text r.command) (text_of_rows rs))

  pub text_follows : (rs : Rows) → follow_from start (entries_of n t) 0 ≡ accepted rs → text_to t n ≡ text_of_rows rs
  unfolding text_to
  text_follows rs e =
      text_rest rs 0 (omega arith) (follow_follows taken same_state has_ended bad_table (λ a b. (same_state_iff a b).0) start (entries_of n t) 0 rs e).whole
