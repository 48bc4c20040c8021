-- The laws of a text written part by part. They ask for no room: what has no room is written by neither side.
use mathlib.Core.Path.{◌≡◌, sym, ap, ap₂, ◌∙◌}
use mathlib.Core.List.{List, [], ◌++◌}
use Prim.Native.Nat.{ℕ, ◌+◌, ◌-◌, ◌≤◌}
use native.Mathlib.Omega.{arith}
use native.Mathlib.Nat.{add-zero}
use lib.ListN.{length, length-append}
use lib.Seq.{take-nil}
use Rattle.lists.specs.Put.{put_at, fitting, put_in}
use Rattle.lists.proofs.Put.{put_none, fitting_all, fitting_past, fitting_append, put_in_length, put_in_more}
use Rattle.text.specs.Wrote.{Wrote}

pub wrote_length : {b b' x : List ℕ} {at r : ℕ} → Wrote b at x b' r → length b' ≡ length b
wrote_length {b} {b'} {x} {at} w = ap length w.bytes ∙ put_in_length b at x

-- one text, and then another
pub wrote_more : {b b₁ b₂ x y : List ℕ} {at r₁ r₂ : ℕ} → Wrote b at x b₁ r₁ → Wrote b₁ r₁ y b₂ r₂ → Wrote b at (x ++ y) b₂ r₂
wrote_more {b} {b₁} {b₂} {x} {y} {at} w v = record {
  bytes = v.bytes ∙ ap₂ (λ (l : List ℕ) (i : ℕ). put_in l i y) w.bytes w.end ∙ put_in_more b at x y;
  end =
      let e = ap length (fitting_append b at x y) ∙ length-append (fitting b at x) (fitting (put_in b at x) (at + length (fitting b at x)) y) in
      v.end ∙ ap₂ (λ (l : List ℕ) (i : ℕ). i + length (fitting l i y)) w.bytes w.end ∙ omega (arith, e);
}

-- ---- the part for which there is room

module _ {b b' : List ℕ} {at r : ℕ} where
  wrote_fit : (x y : List ℕ) → fitting b at x ≡ y → b' ≡ put_at b at y → r ≡ at + length y → Wrote b at x b' r
  wrote_fit x y e f g = record { bytes = f ∙ ap (put_at b at) (sym e); end = g ∙ ap (λ (l : List ℕ). at + length l) (sym e) }

  -- where there is room for all
  pub wrote_all : {x : List ℕ} → at + length x ≤ length b → Wrote b at x b' r → (b' ≡ put_at b at x) × (r ≡ at + length x)
  wrote_all {x} h w = let e = fitting_all b at x h in (w.bytes ∙ ap (put_at b at) e, w.end ∙ ap (λ (l : List ℕ). at + length l) e)

  pub all_wrote : {x : List ℕ} → at + length x ≤ length b → b' ≡ put_at b at x → r ≡ at + length x → Wrote b at x b' r
  all_wrote {x} h e k = wrote_fit x x (fitting_all b at x h) e k

module _ {b : List ℕ} {at : ℕ} where
  nothing : (x : List ℕ) → fitting b at x ≡ [] → Wrote b at x b at
  nothing x e = wrote_fit x [] e (sym (put_none b at)) (sym (add-zero at))

  pub wrote_nothing : Wrote b at [] b at
  wrote_nothing = nothing [] (take-nil {A = ℕ} (length b - at))

  -- past the end
  pub wrote_past : (x : List ℕ) → length b ≤ at → Wrote b at x b at
  wrote_past x h = nothing x (fitting_past b at x h)

-- ---- a loop that writes part by part: whoever writes the rest y on what is there has written the whole x

abbrev pub Rest : List ℕ → ℕ → List ℕ → List ℕ → ℕ → List ℕ → Type 0
Rest b at x b₁ r₁ y = (b₂ : List ℕ) (r₂ : ℕ) → Wrote b₁ r₁ y b₂ r₂ → Wrote b at x b₂ r₂

module _ {b x b₁ : List ℕ} {at r₁ : ℕ} (y : List ℕ) (rest : Rest b at x b₁ r₁ y) where
  pub rest_turn : {z b₂ : List ℕ} {r₂ : ℕ} (y₂ : List ℕ) → y ≡ z ++ y₂ → Wrote b₁ r₁ z b₂ r₂ → Rest b at x b₂ r₂ y₂
  rest_turn y₂ e w b₃ r₃ v = rest b₃ r₃ (rw e (wrote_more w v))

  pub rest_end : y ≡ [] → Wrote b at x b₁ r₁
  rest_end e = rest b₁ r₁ (rw e wrote_nothing)
