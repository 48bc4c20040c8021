-- In the numbers of rows stand the rows' own counts; so adding them and taking them away is what the rows' holes come to.
use mathlib.Core.Path.{◌≡◌, refl, ap, ap₂, ◌∙◌}
use mathlib.Core.Bool.{Bool, true, false, ◌&&◌, cond}
use mathlib.Core.List.{List, [], ◌∷◌, ◌++◌, append_assoc}
use Prim.Native.Nat.{ℕ, zero, suc, ◌+◌, ◌*◌, ◌/◌, ◌≤◌}
use native.Mathlib.Omega.{arith}
use borrow.Author.Tests.{lt-ltb, ne_eqb, leb-false}
use lib.Dec.{leb, eqb}
use lib.IntN.{ℤ, pos, nat_abs}
use lib.ListN.{length, get_or}
use lib.Seq.{get_or-append-add}
use Rattle.runs.specs.Machine.{Row}
use Rattle.rules.specs.declared.Command.{Command}
use Rattle.rules.specs.declared.Command.TheVariants.{Comment, M48, Metric, Inch, Declare, Percent, G05, G00, Select, Hit, M15, M16, G01, G02, G03, M30}
use Rattle.rules.specs.declared.State.{State}
use Rattle.rules.specs.declared.Way.{Way}
use Rattle.rules.specs.Numbers.{max_tool}
use Rattle.rules.specs.Kinds.{kind_of}
use Rattle.rules.specs.Rows.{row_width, field_n, command_numbers, decimals_of, state_numbers, row_numbers, table_numbers}
use Rattle.rules.specs.Reading.{Rows}
use Rattle.rules.specs.Counting.{one, is_by, how_many}
use Rattle.laws.proofs.Rows.{row_length}
use Rattle.laws.proofs.Entries.{table_length}
use Rattle.tally.specs.Standing.{tool_in, standing_to, standing, max_counted, raised_by}

-- ---- the two numbers of a row

-- the kind, and the selected tool
in_row : (c : Command) (s : State) (l : List ℤ) → (field_n (command_numbers c ++ (state_numbers s ++ l)) 0 ≡ kind_of c) × (field_n (command_numbers c ++ (state_numbers s ++ l)) 8 ≡ s.tool)
unfolding command_numbers state_numbers
in_row Comment s l = (refl, refl)
in_row M48 s l = (refl, refl)
in_row Metric s l = (refl, refl)
in_row Inch s l = (refl, refl)
in_row (Declare u d) s l = (refl, refl)
in_row Percent s l = (refl, refl)
in_row G05 s l = (refl, refl)
in_row (G00 p) s l = (refl, refl)
in_row (Select u) s l = (refl, refl)
in_row (Hit p) s l = (refl, refl)
in_row M15 s l = (refl, refl)
in_row M16 s l = (refl, refl)
in_row (G01 p) s l = (refl, refl)
in_row (G02 a) s l = (refl, refl)
in_row (G03 a) s l = (refl, refl)
in_row M30 s l = (refl, refl)

row_has : (r : Row Command State) (l : List ℤ) → (field_n (row_numbers r ++ l) 0 ≡ kind_of r.command) × (field_n (row_numbers r ++ l) 8 ≡ r.state.tool)
unfolding row_numbers
row_has r l =
    let e = append_assoc (command_numbers r.command) (state_numbers r.state ++ (pos (decimals_of r.command) ∷ [])) l in
    let f = append_assoc (state_numbers r.state) (pos (decimals_of r.command) ∷ []) l in
    rw (e, f) (in_row r.command r.state ((pos (decimals_of r.command) ∷ []) ++ l))

-- ---- one row, and those after it

module _ (w : Way) (a l : List ℤ) (n : length a ≡ row_width) where
  field_after : (i j : ℕ) → field_n (a ++ l) (row_width * suc i + j) ≡ field_n l (row_width * i + j)
  field_after i j =
      let e : row_width * suc i + j ≡ length a + (row_width * i + j) = omega (arith, n) in
      ap (λ (k : ℕ). nat_abs (get_or (a ++ l) k (pos 0))) e ∙ ap nat_abs (get_or-append-add a l (row_width * i + j) (pos 0))

  tool_after : (i : ℕ) → tool_in w (a ++ l) (suc i) ≡ tool_in w l i
  unfolding tool_in
  tool_after i =
      let z : row_width * suc i ≡ row_width * suc i + 0 = omega arith in
      let y : row_width * i + 0 ≡ row_width * i = omega arith in
      let k : field_n (a ++ l) (row_width * suc i) ≡ field_n l (row_width * i) = ap (field_n (a ++ l)) z ∙ field_after i 0 ∙ ap (field_n l) y in
      rw (k, field_after i 8)

  standing_cons : (m t : ℕ) → standing_to w (a ++ l) (suc m) t ≡ one (eqb (tool_in w (a ++ l) 0) t) + standing_to w l m t
  unfolding standing_to
  standing_cons zero t = omega arith
  standing_cons (suc m) t = rw (tool_after m) (omega (arith, standing_cons m t))

-- ---- rows

module _ (w : Way) (t : ℕ) (p : 1 ≤ t) (q : t ≤ max_tool) where
  -- the tool of a row, 0 where it makes no such hole or is none
  counted_once : (tool : ℕ) (a b d : Bool) → leb tool max_tool ≡ d → one (eqb (cond (a && (b && d)) tool 0) t) ≡ one ((a && b) && eqb tool t)
  counted_once tool true true true e = refl
  counted_once tool true true false e = rw (ne_eqb 0 t (omega arith), ne_eqb tool t (omega (arith, leb-false tool max_tool e)))
  counted_once tool true false d e = rw (ne_eqb 0 t (omega arith))
  counted_once tool false b d e = rw (ne_eqb 0 t (omega arith))

  once : (r : Row Command State) (l : List ℤ) → one (eqb (tool_in w (row_numbers r ++ l) 0) t) ≡ one (is_by w r.command && eqb r.state.tool t)
  unfolding tool_in
  once r l =
      let h = row_has r l in
      rw (h.0, h.1)
      (counted_once r.state.tool (leb w.first (kind_of r.command)) (leb (kind_of r.command) w.last) (leb r.state.tool max_tool) refl)

  standing_upto : (rs : Rows) → standing_to w (table_numbers rs) (length rs) t ≡ how_many w rs t
  unfolding table_numbers how_many standing_to
  standing_upto [] = refl
  standing_upto (r ∷ rs) = standing_cons w (row_numbers r) (table_numbers rs) (row_length r) (length rs) t ∙ ap₂ ◌+◌ (once r (table_numbers rs)) (standing_upto rs)

  pub standing_rows : (rs : Rows) → standing w (table_numbers rs) t ≡ how_many w rs t
  standing_rows rs =
      let e : length (table_numbers rs) / row_width ≡ length rs = omega (arith, table_length rs) in
      ap (λ (k : ℕ). standing_to w (table_numbers rs) k t) e ∙ standing_upto rs

-- a count that stays below the largest number is raised in full
pub raised_all : (m a : ℕ) → a + m ≤ max_counted → raised_by m a ≡ a + m
unfolding raised_by
raised_all zero a h = omega arith
raised_all (suc m) a h =
    let e = raised_all m a (omega arith) in
    rw (e, lt-ltb (a + m) max_counted (omega arith)) (omega arith)
