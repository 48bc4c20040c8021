-- T, a tool number, and the diameter that declares it: the digits are counted first, and then the ranges are asked.
use mathlib.Core.Path.{◌≡◌, refl, sym, ap, subst, ◌∙◌}
use mathlib.Core.Bool.{Bool, true, false, cond}
use mathlib.Core.List.{List, [], ◌∷◌}
use Prim.Native.Nat.{ℕ, ◌+◌, ◌-◌, ◌≤◌}
use Prim.Native.Char.{code}
use native.Mathlib.Omega.{arith}
use lib.ListN.{length, drop}
use lib.Seq.{drop-drop}
use Rattle.std.specs.Prelude.{None, Result, Ok, Err}
use Rattle.lists.specs.Words.{bytes, starts_with}
use Rattle.rules.specs.declared.Refusal.{Refusal}
use Rattle.rules.specs.declared.Command.{Command}
use Rattle.rules.specs.declared.Command.TheVariants as K
use Rattle.rules.specs.declared.Revision.{Revision}
use Rattle.rules.specs.Refusals.{no_such_form, out_of_range}
use Rattle.rules.specs.Numbers.{max_tool, digits_of, NumberRead, got, no_number, on_number, unsigned_of, is_tool, is_size, millionths}
use Rattle.rules.specs.Commands.{fewest_declared, fewest_selected, tool_digits, declare, select, no_form, at_end, tool_form, column_after, tool_column, says, in_range, meaning_of, on_form}
use Rattle.rules.proofs.Revisions.{fit_digits}
use Rattle.rules.proofs.Ranges.{tool_passes}
use Rattle.rules.proofs.Columns.{Tail, past_place, digits_tail}
use Rattle.number.specs.declared.Run.{Run}
use Rattle.number.specs.declared.Written.{Written}
use Rattle.number.specs.Capped.{held_run, decimal_of, size_read}
use Rattle.number.proofs.Runs.{count_at, run_next, run_rest, short_run, stands_within}
use Rattle.command.specs.Parts.{answer_of, declare_at, HasSize, SizeAt, DeclareLine, ToolLine}
use Rattle.command.proofs.Points.{ended_is, ended_no, size_same, column_here}

is_tool_lem : (t : ℕ) → (t ≡ 0 → ⊥) → t ≤ max_tool → is_tool t ≡ true
is_tool_lem t h k = tool_passes t (omega arith) k

no_tool_lem : (t : ℕ) → t ≡ 0 → is_tool t ≡ false
unfolding is_tool
no_tool_lem t e = rw e

-- ---- a diameter to the line's end

declare_by : (t : ℕ) (b : Bool) (n c : ℕ) → in_range b c (says (K.Declare t n)) ≡ answer_of (K.Declare t) (cond b (Ok n) (Err (out_of_range c)))
unfolding in_range
declare_by t true n c = refl
declare_by t false n c = refl

module _ (s : List ℕ) (at t : ℕ) where
  pub declare_none : SizeAt s at None → DeclareLine s at t (Err no_such_form)
  unfolding DeclareLine
  declare_none h = rw (h (declare t))

  module _ {d : Written} (h : HasSize s at d) where
    pub declare_zero : t ≡ 0 → DeclareLine s at t (Err (out_of_range tool_column))
    unfolding DeclareLine meaning_of in_range
    declare_zero z = rw (h.form (declare t), no_tool_lem t z)

    module _ (n : t ≡ 0 → ⊥) (k : t ≤ max_tool) {z : Result ℕ Refusal} (e : z ≡ size_read d.column (decimal_of d)) where
      declare_ends : answer_of (K.Declare t) z ≡ on_form (λ _. at + 1) (declare_at (drop at s) t)
      unfolding meaning_of in_range size_read
      declare_ends =
          rw (h.form (declare t), is_tool_lem t n k)
          (ap (answer_of (K.Declare t)) (e ∙ size_same h) ∙ sym (declare_by t (is_size h.size_is) (millionths h.size_is) (at + 1)))

      pub declare_no_size : {r : Refusal} → z ≡ Err r → DeclareLine s at t (Err r)
      unfolding DeclareLine
      declare_no_size g = ap (answer_of (K.Declare t)) (sym g) ∙ declare_ends

      pub declare_is : {m : ℕ} → z ≡ Ok m → DeclareLine s at t (Ok (K.Declare t m))
      unfolding DeclareLine
      declare_is g = ap (answer_of (K.Declare t)) (sym g) ∙ declare_ends

pub ruleset declarations = (declare_none, declare_zero, declare_no_size, declare_is)

-- the same in whatever column it is found, where that is one
declare_columns : (p q : ℕ → ℕ) → p (code "C") ≡ q (code "C") → (l : List ℕ) (t : ℕ) → on_form p (declare_at l t) ≡ on_form q (declare_at l t)
unfolding meaning_of
declare_columns p q e l t = by (unsigned_of l)
  where
    by : (r : NumberRead) → on_form p (on_number r no_form (λ d rest. at_end rest (declare t d))) ≡ on_form q (on_number r no_form (λ d rest. at_end rest (declare t d)))
    by (got d []) = rw e
    by (got d (b ∷ rest)) = refl
    by no_number = refl

-- ---- T and its digits

module _ (rev : Revision) (s : List ℕ) {t : Run} (e : t ≡ held_run 1 0 (digits_of (drop 1 s))) {c : Bool} (ec : c ≡ starts_with (drop t.next s) (bytes "C")) where
  counted : t.next - 1 ≡ (digits_of (drop 1 s)).count
  counted = omega (arith, run_next s 1 0 e)

  counted_test : (fewest : ℕ) {v : Bool} → v ≡ tool_digits fewest (t.next - 1) → tool_digits fewest (digits_of (drop 1 s)).count ≡ v
  counted_test fewest n = ap (tool_digits fewest) (sym counted) ∙ sym n

  value : (fewest : ℕ) → tool_digits fewest (digits_of (drop 1 s)).count ≡ true → (t.value ≡ (digits_of (drop 1 s)).value) × (t.value ≤ max_tool)
  value fewest h = short_run (drop 1 s) 1 t e (omega (arith, run_next s 1 0 e, (fit_digits fewest (digits_of (drop 1 s)).count h).1))

  module _ (h : c ≡ true) {f : ℕ} (ef : f ≡ fewest_declared rev) {v : Bool} (ev : v ≡ tool_digits f (t.next - 1)) where
    declared : {b : Bool} → v ≡ b → tool_digits (fewest_declared rev) (digits_of (drop 1 s)).count ≡ b
    declared n = ap (λ (z : ℕ). tool_digits z (digits_of (drop 1 s)).count) (sym ef) ∙ counted_test f ev ∙ n

    declared_column : column_after 1 (drop 1 s) (code "C") ≡ t.next + 1 + 1
    declared_column =
        let near = stands_within s t.next (code "C") ec h in
        let tail = subst (λ (l : List ℕ). Tail l (drop 1 s)) (run_rest s 1 0 e) (digits_tail (drop 1 s)) in
        past_place s 1 t.next (code "C") tail (omega arith) (omega arith) (omega arith)
        ∙ column_here s t.next (code "C") (sym ec ∙ h)

    pub declare_count : v ≡ false → ToolLine rev s (Err no_such_form)
    unfolding ToolLine tool_form
    declare_count n = rw (run_rest s 1 0 e, sym ec ∙ h, declared n)

    pub declare_small : v ≡ true → t.value ≤ max_tool
    declare_small n = (value (fewest_declared rev) (declared n)).1

    pub declare_fits : v ≡ true → (r : Result Command Refusal) → DeclareLine s (t.next + 1) t.value r → ToolLine rev s r
    unfolding DeclareLine ToolLine tool_form
    declare_fits n r d =
        rw (run_rest s 1 0 e, sym ec ∙ h, declared n, drop-drop 1 t.next s)
        (d ∙ ap (λ (v : ℕ). on_form (λ _. t.next + 1 + 1) (declare_at (drop (t.next + 1) s) v)) (value (fewest_declared rev) (declared n)).0
        ∙ declare_columns (λ _. t.next + 1 + 1) (column_after 1 (drop 1 s)) (sym declared_column) (drop (t.next + 1) s) (digits_of (drop 1 s)).value)

  module _ (h : c ≡ false) {v : Bool} (ev : v ≡ tool_digits fewest_selected (t.next - 1)) where
    pub select_count : v ≡ false → ToolLine rev s (Err no_such_form)
    unfolding ToolLine tool_form
    select_count n = rw (run_rest s 1 0 e, sym ec ∙ h, counted_test fewest_selected ev ∙ n)

    module _ (n : v ≡ true) where
      fits : tool_digits fewest_selected (digits_of (drop 1 s)).count ≡ true
      fits = counted_test fewest_selected ev ∙ n

      selected : tool_form rev (drop 1 s) ≡ at_end (drop t.next s) (select t.value)
      unfolding tool_form
      selected = rw (run_rest s 1 0 e, sym ec ∙ h, fits, (value fewest_selected fits).0)

      pub select_goes_on : (t.next ≡ length s → ⊥) → ToolLine rev s (Err no_such_form)
      unfolding ToolLine
      select_goes_on g =
          let some = (fit_digits fewest_selected (digits_of (drop 1 s)).count fits).0 in
          rw (selected, ended_no s t.next (select t.value) (omega (arith, run_next s 1 0 e, count_at s 1, some)) g)

      module _ (g : t.next ≡ length s) where
        pub select_zero : t.value ≡ 0 → ToolLine rev s (Err (out_of_range tool_column))
        unfolding ToolLine meaning_of in_range
        select_zero z = rw (selected, ended_is s t.next (select t.value) g, no_tool_lem t.value z)

        pub select_is : (t.value ≡ 0 → ⊥) → ToolLine rev s (Ok (K.Select t.value))
        unfolding ToolLine meaning_of in_range
        select_is z = rw (selected, ended_is s t.next (select t.value) g, is_tool_lem t.value z (value fewest_selected fits).1)

pub ruleset tools = (declare_count, declare_fits, select_count, select_goes_on, select_zero, select_is)
