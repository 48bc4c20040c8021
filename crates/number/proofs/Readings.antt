-- The form of a number read from a place on: what is held of it, and where the bytes after it are.
use mathlib.Core.Path.{◌≡◌, refl, sym, ap, ◌∙◌}
use mathlib.Core.Bool.{Bool, true, false}
use mathlib.Core.List.{List}
use Prim.Native.Nat.{ℕ, ◌+◌, ◌-◌, ◌*◌, ◌^◌, min}
use Prim.Native.Char.{code}
use native.Mathlib.Omega.{arith}
use borrow.Author.Tests.{eq-eqb, ne_eqb}
use lib.ListN.{length, drop}
use lib.Seq.{drop-drop}
use Rattle.std.specs.Prelude.{Option, Some, None}
use Rattle.lists.specs.Words.{bytes, starts_with}
use Rattle.rules.specs.Numbers.{DigitRun, NumberRead, got, no_number, digits_of, whole_number, with_fraction, magnitude_of, unsigned_of, signed_of}
use Rattle.rules.proofs.Columns.{TailOf, tail_at, unsigned_tail, signed_tail}
use Rattle.number.specs.declared.Run.{Run}
use Rattle.number.specs.declared.Written.{Written}
use Rattle.number.specs.Capped.{cap, held_run, number_at, ReadsTo}
use Rattle.number.proofs.Runs.{pow_pos, capped_more, count_at, run_next, run_rest, run_left, stands_within}

-- ---- digits, a point, digits

-- two numbers with the same parts are one
written : (col : ℕ) (neg : Bool) {a a' b b' c c' : ℕ} → a ≡ a' → b ≡ b' → c ≡ c'
    → ◌≡◌ {A = Option Written} (Some (record { column = col; negative = neg; digits = a; places = b; next = c })) (Some (record { column = col; negative = neg; digits = a'; places = b'; next = c' }))
written col neg p q r = λ i. Some (record { column = col; negative = neg; digits = p i; places = q i; next = r i })

-- w are the digits from at on; after them comes a point, or none. The number's column is col
module _ (col : ℕ) (s : List ℕ) (at : ℕ) (neg : Bool) (w : Run) (e : w ≡ held_run at 0 (digits_of (drop at s))) where
  whole_value : w.value ≡ min (digits_of (drop at s)).value cap
  whole_value = ap (λ (r : Run). r.value) e ∙ omega arith

  module _ {t : Bool} (st : t ≡ starts_with (drop w.next s) (bytes ".")) (h : t ≡ false) where
    no_point : magnitude_of neg (drop at s) ≡ whole_number neg (digits_of (drop at s))
    unfolding magnitude_of
    no_point = rw (run_rest s at 0 e, ← st, h)

    pub whole_none : w.next ≡ at → None ≡ number_at col (length s) (magnitude_of neg (drop at s))
    whole_none k = rw (no_point, eq-eqb (digits_of (drop at s)).count 0 (omega (arith, run_next s at 0 e)))

    pub whole_got : (w.next ≡ at → ⊥)
        → Some (record { column = col; negative = neg; digits = w.value; places = 0; next = w.next }) ≡ number_at col (length s) (magnitude_of neg (drop at s))
    whole_got k =
        rw (no_point, ne_eqb (digits_of (drop at s)).count 0 (λ z. k (omega (arith, run_next s at 0 e))))
        (written col neg whole_value refl (run_left s at 0 e (omega (arith, count_at s at, run_next s at 0 e))))

  module _ {t : Bool} (st : t ≡ starts_with (drop w.next s) (bytes ".")) (h : t ≡ true) (f : Run)
      (q : f ≡ held_run (w.next + 1) w.value (digits_of (drop (w.next + 1) s))) where
    after_point : magnitude_of neg (drop at s) ≡ with_fraction neg (digits_of (drop at s)) (digits_of (drop (w.next + 1) s))
    unfolding magnitude_of
    after_point = rw (run_rest s at 0 e, ← st, h, drop-drop 1 w.next s)

    count : (digits_of (drop at s)).count + (digits_of (drop (w.next + 1) s)).count + (at + 1) ≡ f.next
    count = omega (arith, run_next s at 0 e, run_next s (w.next + 1) w.value q)

    pub point_none : f.next ≡ at + 1 → None ≡ number_at col (length s) (magnitude_of neg (drop at s))
    point_none k = rw (after_point, eq-eqb ((digits_of (drop at s)).count + (digits_of (drop (w.next + 1) s)).count) 0 (omega (arith, count)))

    point_value : f.value ≡ min ((digits_of (drop at s)).value * 10 ^ (digits_of (drop (w.next + 1) s)).count + (digits_of (drop (w.next + 1) s)).value) cap
    point_value = go (digits_of (drop (w.next + 1) s)) q
      where
        go : (d : DigitRun) → f ≡ held_run (w.next + 1) w.value d → f.value ≡ min ((digits_of (drop at s)).value * 10 ^ d.count + d.value) cap
        go d q =
            ap (λ (r : Run). r.value) q
            ∙ ap (λ (z : ℕ). min (z * 10 ^ d.count + d.value) cap) whole_value
            ∙ capped_more (digits_of (drop at s)).value (10 ^ d.count) d.value (pow_pos d.count)

    pub point_got : (f.next ≡ at + 1 → ⊥)
        → Some (record { column = col; negative = neg; digits = f.value; places = f.next - (w.next + 1); next = f.next }) ≡ number_at col (length s) (magnitude_of neg (drop at s))
    point_got k =
        rw (after_point, ne_eqb ((digits_of (drop at s)).count + (digits_of (drop (w.next + 1) s)).count) 0 (λ z. k (omega (arith, count))))
        (written col neg point_value (omega (arith, run_next s (w.next + 1) w.value q))
        (run_left s (w.next + 1) w.value q (omega (arith, stands_within s w.next (code ".") st h))))

pub ruleset magnitudes = (stands_within, whole_none, whole_got, point_none, point_got)

-- ---- for callers: the number that is held, and that the bytes after it begin at its end

reads : (c at : ℕ) (s : List ℕ) (r : NumberRead) {z : (Option Written)} (w : Written) → TailOf (drop at s) r → z ≡ number_at c (length s) r → z ≡ Some w → ReadsTo s c r w
reads c at s (got d rest) w t e g =
    let q : w ≡ record { column = c; negative = d.negative; digits = min d.digits cap; places = d.places; next = length s - length rest } = cc in
    let n : w.next ≡ length s - length rest = ap (λ (z : Written). z.next) q in
    record {
      decimal = d;
      column_is = ap (λ (z : Written). z.column) q;
      reading = ap (got d) (sym (tail_at at s t) ∙ ap (λ (z : ℕ). drop z s) (sym n));
      holds = record { negative_is = ap (λ (z : Written). z.negative) q; digits_is = ap (λ (z : Written). z.digits) q; places_is = ap (λ (z : Written). z.places) q };
      within = omega (arith, n);
    }
reads c at s no_number w t e g = absurd (let z : ◌≡◌ {A = ℕ} 0 1 = cc in omega arith)

module _ (s : List ℕ) (at : ℕ) {z : (Option Written)} (w : Written) where
  pub signed_reads : z ≡ number_at (at + 1) (length s) (signed_of (drop at s)) → z ≡ Some w → ReadsTo s (at + 1) (signed_of (drop at s)) w
  signed_reads = reads (at + 1) at s (signed_of (drop at s)) w (signed_tail (drop at s))

  pub unsigned_reads : z ≡ number_at (at + 1) (length s) (unsigned_of (drop at s)) → z ≡ Some w → ReadsTo s (at + 1) (unsigned_of (drop at s)) w
  unsigned_reads = reads (at + 1) at s (unsigned_of (drop at s)) w (unsigned_tail (drop at s))

pub none_reads : (c n : ℕ) (r : NumberRead) {z : (Option Written)} → z ≡ number_at c n r → z ≡ None → r ≡ no_number
none_reads c n (got d rest) e g = absurd (let z : ◌≡◌ {A = ℕ} 0 1 = cc in omega arith)
none_reads c n no_number e g = refl
