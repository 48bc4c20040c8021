-- A row looked at: inside it is the look at its own numbers, past the end there is none; so for whatever is said of a row. And the
-- entries of a table are the looks at its rows.
use mathlib.Core.Path.{◌≡◌, refl, sym, ap, ◌∙◌}
use mathlib.Core.Bool.{Bool, true, false, cond}
use mathlib.Core.List.{List, ◌∷◌}
use Prim.Native.Nat.{ℕ, suc, ◌+◌, ◌-◌, ◌*◌, ◌/◌, ◌<◌, ◌≤◌}
use native.Mathlib.Omega.{arith}
use native.Mathlib.Nat.{add-zero}
use borrow.Author.Tests.{leb-true, leb-false, le-leb, lt-leb, eq-eqb}
use lib.Dec.{leb}
use lib.IntN.{ℤ}
use lib.ListN.{length, get_or, take, drop, length-drop}
use lib.Seq.{drop-drop, length-take-le, get_or-drop}
use Rattle.std.specs.Prelude.{Some, None}
use Rattle.runs.specs.Machine.{Row, Entry, holds, bad}
use Rattle.rules.specs.declared.Command.{Command}
use Rattle.rules.specs.declared.Command.TheVariants.{Comment}
use Rattle.rules.specs.declared.State.{State}
use Rattle.rules.specs.Results.{Looked, row_found}
use Rattle.rules.specs.Rows.{row_width, row_numbers, row_test, command_at, state_at, look_of, entry_of, entries_of}
use Rattle.rules.specs.State.{start}
use Rattle.rules.specs.Editing.{entry_at, state_in, before_line}
use Rattle.rules.specs.Ranges.{StateOk, CommandOk}
use Rattle.laws.proofs.Rows.{look_holds}
use Rattle.laws.proofs.Entries.{entries_drop}
use Rattle.row.specs.Row.{of_row}
use Rattle.table.specs.Table.{numbers_at, at_row, look_at, untested_at, row_at}

module _ (t : List ℤ) (i : ℕ) where
  many : row_width * i + row_width ≤ length t → length (numbers_at t i) ≡ row_width
  many h = length-take-le row_width (drop (row_width * i) t) (simp length-drop (omega arith))

  -- whatever is said of a row's numbers
  module _ {A : Type 0} (f : List ℤ → A) (z : A) where
    inside_row : row_width * i + row_width ≤ length t → at_row f z t i ≡ f (numbers_at t i)
    inside_row h = rw (le-leb (row_width * i + row_width) (length t) h)

    -- as the code has it
    pub row_past : length t / row_width ≤ i → z ≡ at_row f z t i
    row_past h = rw (lt-leb (row_width * i + row_width) (length t) (omega arith))

    pub row_part : {r : A} → i < length t / row_width → r ≡ of_row f z (take (row_width * i + row_width - row_width * i) (drop (row_width * i) t)) → r ≡ at_row f z t i
    row_part h e =
        let g : row_width * i + row_width - row_width * i ≡ row_width = omega arith in
        e ∙ rw (g, eq-eqb (length (numbers_at t i)) row_width (many (omega arith))) (sym (inside_row (omega arith)))

  look_inside : row_width * i + row_width ≤ length t → look_at t i ≡ look_of (numbers_at t i)
  unfolding look_at
  look_inside = inside_row look_of None

  -- the command in a row's numbers is the row's where they are a row
  module _ (inside : row_width * i + row_width ≤ length t) (r : Row Command State) where
    command_found : (b : Bool) → entry_of (cond b (row_found (command_at (numbers_at t i)) (state_at (numbers_at t i))) None) ≡ holds r → command_at (numbers_at t i) ≡ r.command
    command_found true e = cc
    command_found false e = absurd (let z : ◌≡◌ {A = ℕ} 0 1 = cc in omega arith)

    pub command_holds : entry_of (look_at t i) ≡ holds r → untested_at t i ≡ r.command
    unfolding look_of untested_at
    command_holds e = inside_row command_at Comment inside ∙ command_found (row_test (numbers_at t i)) (ap entry_of (sym (look_inside inside)) ∙ e)

  -- a row found whole lies inside, and is in range
  module _ (c : Command) (s : State) where
    pub record Found : Type 0 where
      pub inside : row_width * i + row_width ≤ length t
      pub numbers : numbers_at t i ≡ row_numbers (record { command = c; state = s })
      pub command_ok : CommandOk c
      pub state_ok : StateOk s

    found_in : (b : Bool) → leb (row_width * i + row_width) (length t) ≡ b → cond b (look_of (numbers_at t i)) None ≡ row_found c s → Found
    found_in true h e =
        let inside = leb-true (row_width * i + row_width) (length t) h in
        let row = look_holds (numbers_at t i) c s (many inside) e in
        record { inside = inside; numbers = row.numbers; command_ok = row.command_ok; state_ok = row.state_ok }
    found_in false h e = absurd (let z : ◌≡◌ {A = ℕ} 0 1 = cc in omega arith)

    pub look_found : look_at t i ≡ row_found c s → Found
    unfolding look_at
    look_found e = found_in (leb (row_width * i + row_width) (length t)) refl e

-- ---- the entries of a table of n rows

module _ (n : ℕ) (t : List ℤ) (k : ℕ) where
  -- the entry after k others, and the rest
  pub entries_cons : k < n → row_width * n ≤ length t → drop k (entries_of n t) ≡ entry_of (look_at t k) ∷ drop (k + 1) (entries_of n t)
  unfolding entries_of
  entries_cons h m =
      let e : n - k ≡ suc (n - (k + 1)) = omega arith in
      let f : row_width * (k + 1) ≡ row_width * k + row_width = omega arith in
      entries_drop n t k (omega arith) ∙ rw (e, look_inside t k (omega arith), entries_drop n t (k + 1) (omega arith), f, drop-drop row_width (row_width * k) t)

  pub entries_at : k < n → row_width * n ≤ length t → get_or (entries_of n t) k bad ≡ entry_of (look_at t k)
  entries_at h m =
      ap (λ (z : ℕ). get_or (entries_of n t) z bad) (sym (add-zero k)) ∙ sym (get_or-drop k (entries_of n t) 0 bad)
      ∙ ap (λ (es : List (Entry Command State)). get_or es 0 bad) (entries_cons h m)

-- ---- the row of line k, and the state before it: among the entries, and in the lent numbers

pub entry_is : (n : ℕ) (t : List ℤ) (k : ℕ) → 1 ≤ k → k ≤ n → row_width * n ≤ length t → entry_at (entries_of n t) k ≡ row_at t k
entry_is n t k h g m = entries_at n t (k - 1) (omega arith) m

pub before_is : (n : ℕ) (t : List ℤ) (k : ℕ) → k ≤ n → row_width * n ≤ length t
    → before_line k (entry_at (entries_of n t) (k - 1)) ≡ before_line k (row_at t (k - 1))
unfolding before_line
before_is n t k g m = by (leb k 1) refl
  where
    by : (b : Bool) → leb k 1 ≡ b → cond b (Some start) (state_in (entry_at (entries_of n t) (k - 1))) ≡ cond b (Some start) (state_in (row_at t (k - 1)))
    by true e = refl
    by false e = ap state_in (entry_is n t (k - 1) (omega (arith, leb-false k 1 e)) (omega arith) m)

pub before_row : (t : List ℤ) (k : ℕ) {l : Looked} → 1 < k → l ≡ look_at t (k - 2) → state_in (entry_of l) ≡ before_line k (row_at t (k - 1))
unfolding before_line
before_row t k h e = let f : k - 1 - 1 ≡ k - 2 = omega arith in rw (lt-leb k 1 h, f) (ap (λ (z : Looked). state_in (entry_of z)) e)
