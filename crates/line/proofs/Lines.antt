-- The lines of a file, a line at a time: what stands before the first LF is the first line, and after it come the others.
use mathlib.Core.Path.{◌≡◌, refl, sym, ap, ◌∙◌}
use mathlib.Core.Bool.{Bool, true, false, not, cond}
use mathlib.Core.List.{List, [], ◌∷◌}
use Prim.Native.Nat.{ℕ, suc, ◌+◌, ◌-◌, ◌<◌, ◌≤◌, zero-le, suc-le-suc}
use native.Mathlib.Omega.{arith}
use native.Mathlib.Numerals.{add-one}
use native.Mathlib.Decide.{dec_lt}
use lib.Dec.{ltb, eqb, leb-suc-suc}
use lib.ListN.{length, drop, take, drop_of_length-le, length-drop}
use lib.Seq.{drop-drop}
use borrow.Author.Tests.{lt-ltb, le-ltb}
use Rattle.std.specs.Prelude.{◌==◌, position}
use Rattle.std.specs.List.{position_or_len}
use Rattle.std.specs.Option.{unwrap_or}
use Rattle.std.proofs.lemmas.List.Sums.{prefix_len-le-length}
use Rattle.std.proofs.lemmas.List.Recursion.{is_position_or_len}
use Rattle.lists.proofs.Choice.{cond_all}
use Rattle.rules.specs.Lines.{LF, empty_line, add_byte, lines_of}
use Rattle.line.specs.Line.{find_lf, line_of_bytes}

-- ---- the place of the LF

-- it is the first byte that is one, or the length where none is
pub find_first : (l : List ℕ) → unwrap_or (position (λ b. b == LF) l) (length l) ≡ find_lf l
unfolding find_lf
find_first l = go (dec_lt first (length l)) ∙ sym (is_position_or_len find_lf (λ b. b == LF) refl (λ b bs. ap (cond (b == LF) 0) (omega arith)) l)
  where
    first : ℕ
    first = position_or_len (λ b. b == LF) l

    go : Dec (first < length l) → unwrap_or (position (λ b. b == LF) l) (length l) ≡ first
    go (yes h) = rw (lt-ltb first (length l) h)
    go (no h) = rw (le-ltb first (length l) (omega arith)) (omega (arith, prefix_len-le-length (λ b. not (b == LF)) l))

-- past the end there is none
pub find_end : (s : List ℕ) (i : ℕ) → length s ≤ i → find_lf (drop i s) ≡ 0
unfolding find_lf
find_end s i h = rw (drop_of_length-le s h)

pub find_within : (l : List ℕ) → find_lf l ≤ length l
unfolding find_lf
find_within [] = omega arith
find_within (b ∷ l) = cond_all (λ (n : ℕ). n ≤ suc (length l)) (eqb b LF) (λ _. omega arith) (λ _. omega (arith, find_within l))

-- ---- the first line, and the lines after it

one_line : (b : ℕ) (t : Bool) → cond t (empty_line ∷ []) (line_of_bytes (b ∷ []) false ∷ [])
    ≡ line_of_bytes (take (cond t 0 1) (b ∷ [])) (ltb (cond t 0 1) 1) ∷ lines_of (drop (cond t 0 1 + 1) (b ∷ []))
unfolding lines_of
one_line b true = refl
one_line b false = refl

more_lines : (b : ℕ) (l : List ℕ) (t : Bool) → lines_of l ≡ line_of_bytes (take (find_lf l) l) (ltb (find_lf l) (length l)) ∷ lines_of (drop (find_lf l + 1) l)
    → cond t (empty_line ∷ lines_of l) (add_byte b (lines_of l))
    ≡ line_of_bytes (take (cond t 0 (find_lf l + 1)) (b ∷ l)) (ltb (cond t 0 (find_lf l + 1)) (suc (length l))) ∷ lines_of (drop (cond t 0 (find_lf l + 1) + 1) (b ∷ l))
more_lines b l true ih = rw (lt-ltb 0 (suc (length l)) (suc-le-suc zero-le))
more_lines b l false ih = rw (ih, add-one (find_lf l), add-one (suc (find_lf l)), leb-suc-suc (suc (find_lf l)) (length l))

lines_step : (l : List ℕ) → 0 < length l → lines_of l ≡ line_of_bytes (take (find_lf l) l) (ltb (find_lf l) (length l)) ∷ lines_of (drop (find_lf l + 1) l)
unfolding lines_of find_lf
lines_step [] h = absurd (omega arith)
lines_step (b ∷ []) h = one_line b (eqb b LF)
lines_step (b ∷ (a ∷ bs)) h = more_lines b (a ∷ bs) (eqb b LF) (lines_step (a ∷ bs) (suc-le-suc zero-le))

-- ---- the lines from a place on

module _ (s : List ℕ) (p : ℕ) where
  pub lines_none : length s ≤ p → lines_of (drop p s) ≡ []
  unfolding lines_of
  lines_none h = rw (drop_of_length-le s h)

  -- e is the LF's place or the file's end
  module _ (e : ℕ) (he : e ≡ p + find_lf (drop p s)) where
    pub line_within : p ≤ length s → e ≤ length s
    line_within h = omega (arith, find_within (drop p s), length-drop p s)

    same_test : (m : ℕ) → p + m ≡ length s → ltb e (length s) ≡ ltb (find_lf (drop p s)) m
    same_test m k = go (dec_lt (find_lf (drop p s)) m)
      where
        go : Dec (find_lf (drop p s) < m) → ltb e (length s) ≡ ltb (find_lf (drop p s)) m
        go (yes q) = rw (lt-ltb (find_lf (drop p s)) m q, lt-ltb e (length s) (omega arith))
        go (no q) = rw (le-ltb (find_lf (drop p s)) m (omega arith), le-ltb e (length s) (omega arith))

    pub lines_at : p < length s → lines_of (drop p s) ≡ line_of_bytes (take (e - p) (drop p s)) (ltb e (length s)) ∷ lines_of (drop (e + 1) s)
    lines_at h =
        let a : e - p ≡ find_lf (drop p s) = omega arith in
        let b : p + (find_lf (drop p s) + 1) ≡ e + 1 = omega arith in
        let t = same_test (length (drop p s)) (simp length-drop (omega arith)) in
        rw (lines_step (drop p s) (simp length-drop (omega arith)), a, t, drop-drop (find_lf (drop p s) + 1) p s, b)
