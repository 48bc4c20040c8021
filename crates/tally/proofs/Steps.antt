-- Rows counted one after another: what stands after i of them, and after one more.
use mathlib.Core.Path.{◌≡◌, refl, sym, ap, ◌∙◌, subst}
use mathlib.Core.Bool.{Bool, true, false, cond}
use mathlib.Core.List.{List, []}
use Prim.Native.Nat.{ℕ, zero, suc, ◌+◌, ◌-◌, ◌*◌, ◌/◌, ◌<◌, ◌≤◌, min}
use native.Mathlib.Omega.{arith}
use native.Mathlib.Numerals.{add-one}
use native.Mathlib.Decide.{ℕ_discrete}
use borrow.Author.Tests.{eq-eqb, ne_eqb, le-leb, lt-leb, leb-true, leb-false, ltb-true, ltb-false}
use lib.Dec.{leb, ltb}
use lib.IntN.{ℤ, pos}
use lib.ListN.{length, get_or, set, take, drop}
use lib.Seq.{get_or-take, get_or-drop, drop-drop}
use Rattle.std.specs.Simd.{first_chunks}
use Rattle.rules.specs.declared.Way.{Way}
use Rattle.rules.specs.Numbers.{max_tool}
use Rattle.rules.specs.Rows.{row_width, field}
use Rattle.rules.specs.Counting.{each_tool, of_tool, for_each_tool, max_count}
use Rattle.laws.proofs.EachTool.{length_each, is_each, of_each, set_each, each_so, each_not}
use Rattle.tally.specs.Standing.{tool_in, max_counted, raised, raised_by, standing_to, standing, none_over, none_under, Takes}

-- ---- the tool of a row

-- row i of the rows cut out of numbers
row_at : (l : List ℤ) (k i : ℕ) → i < k → get_or (first_chunks row_width k l) i [] ≡ take row_width (drop (row_width * i) l)
row_at l zero i h = absurd (omega arith)
row_at l (suc k) zero h = refl
row_at l (suc k) (suc i) h =
    let e : row_width + row_width * i ≡ row_width * suc i = omega arith in
    row_at (drop row_width l) k i (omega arith) ∙ ap (take row_width) (drop-drop (row_width * i) row_width l ∙ ap (λ (n : ℕ). drop n l) e)

pub tool_there : (w : Way) (l : List ℤ) {k i : ℕ} {rows : List (List ℤ)} → rows ≡ first_chunks row_width k l → i < k → tool_in w (get_or rows i []) 0 ≡ tool_in w l i
unfolding tool_in
tool_there w l {k} {i} e h =
    let z : row_width * i + 0 ≡ row_width * i = omega arith in
    rw (e, row_at l k i h, at 0 (omega arith), at 8 (omega arith), z)
  where
    at : (j : ℕ) → j < row_width → field (take row_width (drop (row_width * i) l)) j ≡ field l (row_width * i + j)
    at j m = get_or-take row_width (drop (row_width * i) l) j (pos 0) m ∙ get_or-drop (row_width * i) l j (pos 0)

-- ---- rows added

-- what the code's addition, which stops at the largest number, makes of a number of 32 bits
pub raised_is : (a : ℕ) → a ≤ max_counted → min (a + 1) max_counted ≡ raised a
raised_is a h = by (ltb a max_counted) refl
  where
    by : (b : Bool) → ltb a max_counted ≡ b → min (a + 1) max_counted ≡ cond b (a + 1) a
    by true e = omega (arith, ltb-true a max_counted e)
    by false e = omega (arith, ltb-false a max_counted e)

raised_small : (m a : ℕ) → a ≤ max_counted → raised_by m a ≤ max_counted
unfolding raised_by
raised_small zero a h = h
raised_small (suc m) a h = omega (arith, sym (raised_is (raised_by m a) (raised_small m a h)))

-- counts c with the first i rows' holes
abbrev pub more_to : Way → List ℤ → List ℕ → ℕ → List ℕ
more_to w l c i = each_tool (λ t. raised_by (standing_to w l i t) (of_tool c t))

module _ (w : Way) (l : List ℤ) (c : List ℕ) where
  pub more_none : length c ≡ max_tool → c ≡ more_to w l c 0
  unfolding raised_by standing_to
  more_none n = is_each c (λ t. raised_by (standing_to w l 0 t) (of_tool c t)) n (λ t a b. refl)

  -- a tool that the next row has, and the others
  raised_here : (i t : ℕ) → tool_in w l i ≡ t → raised_by (standing_to w l (i + 1) t) (of_tool c t) ≡ raised (raised_by (standing_to w l i t) (of_tool c t))
  unfolding raised_by standing_to
  raised_here i t e = rw (add-one i, eq-eqb (tool_in w l i) t e, add-one (standing_to w l i t))

  raised_there : (i t : ℕ) → (tool_in w l i ≡ t → ⊥) → raised_by (standing_to w l (i + 1) t) (of_tool c t) ≡ raised_by (standing_to w l i t) (of_tool c t)
  unfolding raised_by standing_to
  raised_there i t n = let z : standing_to w l i t + 0 ≡ standing_to w l i t = omega arith in rw (add-one i, ne_eqb (tool_in w l i) t n, z)

  module _ (i : ℕ) {x : List ℕ} (h : x ≡ more_to w l c i) where
    step_length : length x ≡ max_tool
    step_length = ap length h ∙ length_each _

    at_tool : (t : ℕ) → 1 ≤ t → t ≤ max_tool → of_tool x t ≡ raised_by (standing_to w l i t) (of_tool c t)
    at_tool t p q = ap (λ (z : List ℕ). of_tool z t) h ∙ of_each (λ t. raised_by (standing_to w l i t) (of_tool c t)) t p q

    pub more_without : tool_in w l i ≡ 0 → x ≡ more_to w l c (i + 1)
    more_without z =
        is_each x (λ t. raised_by (standing_to w l (i + 1) t) (of_tool c t)) step_length (λ t p q. at_tool t p q ∙ sym (raised_there i t (λ s. omega arith)))

    -- the code's addition stops at the largest number
    pub more_with : {tool r : ℕ} → tool ≡ tool_in w l i → 1 ≤ tool → tool ≤ max_tool → of_tool c tool ≤ max_counted → r ≡ min (of_tool x tool + 1) max_counted
        → set x (tool - 1) r ≡ more_to w l c (i + 1)
    more_with {tool} {r} e a b f g =
        let small : of_tool x tool ≤ max_counted = rw (at_tool tool a b) (raised_small (standing_to w l i tool) (of_tool c tool) f) in
        ap (set x (tool - 1)) (g ∙ raised_is (of_tool x tool) small)
        ∙ set_each x (λ t. raised_by (standing_to w l (i + 1) t) (of_tool c t)) tool (raised (of_tool x tool)) step_length a b
        (ap raised (at_tool tool a b) ∙ sym (raised_here i tool (sym e)))
        (λ t p q s. at_tool t p q ∙ sym (raised_there i t (λ r. s (sym r ∙ sym e))))

-- ---- rows taken away

one_there : (w : Way) (l : List ℤ) (i t : ℕ) → tool_in w l i ≡ t → standing_to w l (i + 1) t ≡ standing_to w l i t + 1
unfolding standing_to
one_there w l i t e = rw (add-one i, eq-eqb (tool_in w l i) t e)

none_there : (w : Way) (l : List ℤ) (i t : ℕ) → (tool_in w l i ≡ t → ⊥) → standing_to w l (i + 1) t ≡ standing_to w l i t
unfolding standing_to
none_there w l i t n = rw (add-one i, ne_eqb (tool_in w l i) t n) (omega arith)

standing_further : (w : Way) (l : List ℤ) (t i k : ℕ) → standing_to w l i t ≤ standing_to w l (i + k) t
unfolding standing_to
standing_further w l t i zero = let e : i + 0 ≡ i = omega arith in rw e (omega arith)
standing_further w l t i (suc k) = let e : i + suc k ≡ suc (i + k) = omega arith in rw e (omega (arith, standing_further w l t i k))

-- counts c without the first i rows' holes, of which each tool had as many
abbrev pub fewer_to : Way → List ℤ → List ℕ → ℕ → List ℕ
fewer_to w l c i = each_tool (λ t. of_tool c t - standing_to w l i t)

pub record Taking (w : Way) (l : List ℤ) (c : List ℕ) (i : ℕ) (x : List ℕ) : Type 0 where
  pub left : x ≡ fewer_to w l c i
  pub had : (t : ℕ) → 1 ≤ t → t ≤ max_tool → standing_to w l i t ≤ of_tool c t

module _ (w : Way) (l : List ℤ) (c : List ℕ) where
  pub taking_none : length c ≡ max_tool → Taking w l c 0 c
  unfolding standing_to
  taking_none n = record { left = is_each c (λ t. of_tool c t - standing_to w l 0 t) n (λ t a b. omega arith); had = λ t a b. omega arith }

  module _ (i : ℕ) {x : List ℕ} (h : Taking w l c i x) where
    left_at : (t : ℕ) → 1 ≤ t → t ≤ max_tool → of_tool x t ≡ of_tool c t - standing_to w l i t
    left_at t p q = ap (λ (z : List ℕ). of_tool z t) h.left ∙ of_each (λ t. of_tool c t - standing_to w l i t) t p q

    left_length : length x ≡ max_tool
    left_length = ap length h.left ∙ length_each _

    pub taking_without : tool_in w l i ≡ 0 → Taking w l c (i + 1) x
    taking_without z =
        let same : (t : ℕ) → 1 ≤ t → standing_to w l (i + 1) t ≡ standing_to w l i t = λ t p. none_there w l i t (λ s. omega arith) in
        record {
          left = is_each x (λ t. of_tool c t - standing_to w l (i + 1) t) left_length (λ t p q. left_at t p q ∙ ap (λ (m : ℕ). of_tool c t - m) (sym (same t p)));
          had = λ t p q. omega (arith, same t p, h.had t p q);
        }

    module _ {tool : ℕ} (e : tool ≡ tool_in w l i) (low : 1 ≤ tool) (b : tool ≤ max_tool) where
      had_next : 1 ≤ of_tool x tool → (t : ℕ) → 1 ≤ t → t ≤ max_tool → Dec (t ≡ tool) → standing_to w l (i + 1) t ≤ of_tool c t
      had_next some t p q (yes s) =
          let r : tool_in w l i ≡ t = sym e ∙ sym s in
          let g : of_tool x t ≡ of_tool x tool = ap (of_tool x) s in
          omega (arith, one_there w l i t r, left_at t p q, g, some)
      had_next some t p q (no s) = omega (arith, none_there w l i t (λ r. s (sym r ∙ sym e)), h.had t p q)

      pub taking_with : 1 ≤ of_tool x tool → Taking w l c (i + 1) (set x (tool - 1) (of_tool x tool - 1))
      taking_with some = record {
        left = set_each x (λ t. of_tool c t - standing_to w l (i + 1) t) tool (of_tool x tool - 1) left_length low b
            (omega (arith, left_at tool low b, one_there w l i tool (sym e)))
            (λ t p q s. left_at t p q ∙ ap (λ (m : ℕ). of_tool c t - m) (sym (none_there w l i t (λ r. s (sym r ∙ sym e)))));
        had = λ t p q. had_next some t p q (ℕ_discrete t tool);
      }

      -- where the tool has none, the rows take more than it had
      pub taking_stops : i < length l / row_width → (1 ≤ of_tool x tool → ⊥) → none_under w l c ≡ false
      unfolding none_under
      taking_stops m k =
          let z : i + 1 + (length l / row_width - (i + 1)) ≡ length l / row_width = omega arith in
          let f : standing_to w l (i + 1) tool ≤ standing w l tool
          = rw z at (standing_further w l tool (i + 1) (length l / row_width - (i + 1))) in
          each_not (λ t. leb (standing w l t) (of_tool c t)) tool low b
          (lt-leb (standing w l tool) (of_tool c tool) (omega (arith, f, one_there w l i tool (sym e), left_at tool low b, h.had tool low b)))

  pub taking_over : {i : ℕ} {x : List ℕ} → i ≡ length l / row_width → Taking w l c i x → Takes w l c true x
  unfolding none_under
  taking_over {i} {x} e h =
      let g : Taking w l c (length l / row_width) x = subst (λ (j : ℕ). Taking w l c j x) e h in
      record {
        answer = sym (each_so (λ t. leb (standing w l t) (of_tool c t)) (λ t p q. le-leb (standing w l t) (of_tool c t) (g.had t p q)));
        left = λ _. g.left;
      }

-- ---- no count over the largest

-- the largest of the first i counts: each is at most that, and one is that, if any is over 0
pub record Largest (c : List ℕ) (i most : ℕ) : Type 0 where
  pub upto : i ≤ max_tool
  pub over : (t : ℕ) → 1 ≤ t → t ≤ i → of_tool c t ≤ most
  pub one : 1 ≤ most → (t : ℕ) × ((1 ≤ t) × (t ≤ i) × (of_tool c t ≡ most))

module _ (c : List ℕ) (i most : ℕ) (h : Largest c i most) where
  pub largest_all : max_tool ≤ i → leb most max_count ≡ none_over c
  unfolding none_over
  largest_all m = pick (leb most max_count) refl
    where
      pick : (b : Bool) → leb most max_count ≡ b → leb most max_count ≡ for_each_tool (λ t. leb (of_tool c t) max_count)
      pick true e =
          let k = leb-true most max_count e in
          e ∙ sym (each_so (λ t. leb (of_tool c t) max_count) (λ t p q. le-leb (of_tool c t) max_count (omega (arith, h.over t p (omega arith), k))))
      pick false e =
          let k = leb-false most max_count e in
          let w = h.one (omega (arith, k)) in
          e ∙ sym (each_not (λ t. leb (of_tool c t) max_count) w.0 w.1.0 (omega (arith, w.1.1, h.upto)) (lt-leb (of_tool c w.0) max_count (omega (arith, w.1.2, k))))
