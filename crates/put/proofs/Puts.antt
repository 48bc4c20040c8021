-- Numbers put into a table: one after another they are one writing, and a row in range is written as its own numbers.
use mathlib.Core.Path.{◌≡◌, refl, sym, ap, ◌∙◌}
use mathlib.Core.List.{List, ◌∷◌, ◌++◌, append_assoc}
use Prim.Native.Nat.{ℕ, ◌+◌, ◌-◌, ◌*◌, ◌/◌, ◌<◌, ◌≤◌}
use native.Mathlib.Omega.{arith}
use borrow.Author.Tests.{leb-true, le-leb}
use lib.Dec.{leb}
use lib.IntN.{ℤ}
use lib.ListN.{length, take, drop}
use lib.Seq.{drop-drop, take_all}
use Rattle.lists.proofs.Choice.{cond_all}
use Rattle.lists.specs.Put.{put_at, put_in}
use Rattle.lists.proofs.Put.{put_put, put_length, put_after}
use Rattle.runs.specs.Machine.{Row}
use Rattle.rules.specs.declared.Command.{Command}
use Rattle.rules.specs.declared.State.{State}
use Rattle.rules.specs.Rows.{row_width, row_numbers, table_numbers, entries_of}
use Rattle.rules.specs.Ranges.{StateOk, CommandOk}
use Rattle.laws.proofs.Rows.{row_length}
use Rattle.laws.proofs.Entries.{entries_drop}
use Rattle.put.proofs.Capped.{capped_row}
use Rattle.put.specs.PutRow.{capped_command, capped_state, capped_numbers, put_row}

-- ---- numbers copied: where there is room for all

module _ (t : List ℤ) (at : ℕ) (a : List ℤ) where
  pub copied_all : length a ≤ length t - at → put_at t at a ≡ put_in t at a
  copied_all h = rw (take_all (length t - at) a h)

-- ---- a row

module _ (t : List ℤ) (i : ℕ) (c : Command) (s : State) where
  pub put_inside : row_width * i + row_width ≤ length t → put_row t i c s ≡ put_at t (row_width * i) (capped_numbers c s)
  unfolding put_row
  put_inside h = rw (le-leb (row_width * i + row_width) (length t) h)

  numbers_length : length (capped_numbers c s) ≡ row_width
  unfolding capped_numbers
  numbers_length = row_length (record { command = capped_command c; state = capped_state s })

  -- the numbers, put between what stands before them and what stands after
  pub put_between : {before from numbers : List ℤ} → i < length t / row_width → before ≡ take (row_width * i) t → from ≡ drop (row_width * i) t
      → numbers ≡ capped_numbers c s → before ++ (numbers ++ drop row_width from) ≡ put_row t i c s
  put_between h b f n =
      rw (b, f, n, drop-drop row_width (row_width * i) t, put_inside (omega arith), numbers_length)
      (sym (append_assoc (take (row_width * i) t) (capped_numbers c s) (drop (row_width * i + row_width) t)))

  pub put_size : length (put_row t i c s) ≡ length t
  unfolding put_row
  put_size =
      cond_all (λ (u : List ℤ). length u ≡ length t) (leb (row_width * i + row_width) (length t))
      (λ h. put_length t (row_width * i) (capped_numbers c s) (omega (arith, numbers_length, leb-true (row_width * i + row_width) (length t) h)))
      (λ _. refl)

  -- the rows after it stay
  pub put_rest : (n : ℕ) → i < n → row_width * n ≤ length t → drop (i + 1) (entries_of n (put_row t i c s)) ≡ drop (i + 1) (entries_of n t)
  put_rest n h room =
      entries_drop n (put_row t i c s) (i + 1) (omega arith)
      ∙ ap (entries_of (n - (i + 1)))
      (rw (put_inside (omega arith)) (put_after t (row_width * i) (row_width * (i + 1)) (capped_numbers c s) (omega (arith, numbers_length)) (omega arith)))
      ∙ sym (entries_drop n t (i + 1) (omega arith))

  module _ (cok : CommandOk c) (sok : StateOk s) (h : row_width * i + row_width ≤ length t) where
    pub put_row_lem : put_row t i c s ≡ put_at t (row_width * i) (row_numbers (record { command = c; state = s }))
    put_row_lem = put_inside h ∙ rw (capped_row c s cok sok)

    -- the row after i others, and the rows after it
    pub put_next : (rs : List (Row Command State))
        → put_at (put_row t i c s) (row_width * (i + 1)) (table_numbers rs) ≡ put_at t (row_width * i) (table_numbers (record { command = c; state = s } ∷ rs))
    unfolding table_numbers
    put_next rs =
        let r : Row Command State = record { command = c; state = s } in
        let e : row_width * (i + 1) ≡ row_width * i + length (row_numbers r) = omega (arith, row_length r) in
        rw (put_row_lem, e) (put_put t (row_width * i) (row_numbers r) (table_numbers rs) (omega arith))
