-- The tests of an edit, one after another as the code makes them: what it answers at each.
use mathlib.Core.Path.{◌≡◌, refl, subst}
use mathlib.Core.Bool.{true, false}
use mathlib.Core.List.{List}
use Prim.Native.Nat.{ℕ, ◌-◌}
use lib.Dec.{leb}
use lib.IntN.{ℤ}
use Rattle.std.specs.Prelude.{Option, Some, None}
use Rattle.rules.specs.Results.{Looked}
use Rattle.lists.proofs.Choice.{cond_all}
use Rattle.runs.specs.Machine.{on_out, refused}
use Rattle.rules.specs.declared.State.{State}
use Rattle.rules.specs.declared.Revision.{Revision}
use Rattle.rules.specs.Refusals.{bad_table, no_such_line, holds_line_end}
use Rattle.rules.specs.Commands.{line_of}
use Rattle.rules.specs.Rows.{entry_of, entries_of, sizes_fit}
use Rattle.rules.specs.Reading.{say_out}
use Rattle.rules.specs.Editing.{is_line, no_line_end, state_in, before_line, on_before, edit_from, edit_rows, edit_of}
use Rattle.rules.specs.Ranges.{StateOk}
use Rattle.laws.proofs.Keeps.{start_ok}
use Rattle.laws.proofs.Sizes.{sizes_say, line_says}
use Rattle.table.specs.Table.{look_at, row_at}
use Rattle.table.proofs.Looks.{look_found, entry_is, before_is}
use Rattle.editor.specs.Parts.{LineFound}

-- ---- a state before a line is in range

abbrev BeforeOk : Option State → Type 0
BeforeOk (Some p) = StateOk p
BeforeOk None = Unit {0}

looked_ok : (t : List ℤ) (i : ℕ) (x : Looked) → look_at t i ≡ x → BeforeOk (state_in (entry_of x))
looked_ok t i (Some r) e = (look_found t i r.command r.state e).state_ok
looked_ok t i None e = tt

before_ok : (t : List ℤ) (k : ℕ) → BeforeOk (before_line k (row_at t (k - 1)))
unfolding before_line
before_ok t k = cond_all BeforeOk (leb k 1) (λ _. start_ok) (λ _. looked_ok t (k - 1 - 1) (look_at t (k - 1 - 1)) refl)

pub before_found : (t : List ℤ) (k : ℕ) (p : State) → before_line k (row_at t (k - 1)) ≡ Some p → StateOk p
before_found t k p h = subst BeforeOk h (before_ok t k)

-- ---- the line of a table whose sizes fit

pub line_found : (t : List ℤ) (n k : ℕ) → sizes_fit t n ≡ true → is_line n k ≡ true → LineFound t n k
line_found t n k fit lined =
    let sizes = sizes_say t n fit in
    let inside = line_says n k lined in
    record { room = sizes.room; few = sizes.few; from = inside.0; upto = inside.1 }

-- ---- the tests

module _ (rev : Revision) (t : List ℤ) (n k : ℕ) (l : List ℕ) where
  pub ask_sizes : sizes_fit t n ≡ false → edit_of rev t n k l ≡ refused bad_table 0
  unfolding edit_of
  ask_sizes h = rw h

  module _ (fit : sizes_fit t n ≡ true) where
    pub ask_line : is_line n k ≡ false → edit_of rev t n k l ≡ refused no_such_line 0
    unfolding edit_of
    ask_line h = rw (fit, h)

    module _ (lined : is_line n k ≡ true) where
      pub ask_end : no_line_end l ≡ false → edit_of rev t n k l ≡ refused holds_line_end 0
      unfolding edit_of
      ask_end h = rw (fit, lined, h)

      -- as the code looks at the two rows
      pub ask_rows : no_line_end l ≡ true → edit_of rev t n k l ≡ on_before (before_line k (row_at t (k - 1))) (refused bad_table (k - 1))
          (λ p. on_before (state_in (row_at t k)) (refused bad_table k)
          (λ o. on_out (say_out (line_of rev l)) (λ e. refused e k) (λ c. edit_from (entries_of n t) k p o c)))
      unfolding edit_of edit_rows
      ask_rows h =
          let sizes = sizes_say t n fit in
          let inside = line_says n k lined in
          rw (fit, lined, h, before_is n t k inside.1 sizes.room, entry_is n t k inside.0 inside.1 sizes.room)

pub ruleset ask_rules = (ask_sizes, ask_line, ask_end, ask_rows)
