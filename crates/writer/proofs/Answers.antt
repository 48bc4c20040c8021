-- The answer of writing and the bytes it leaves, from what measuring tells.
use mathlib.Core.Path.{◌≡◌, refl, sym, ap, ◌∙◌}
use mathlib.Core.Bool.{Bool, true, false, cond}
use mathlib.Core.List.{List}
use Prim.Native.Nat.{ℕ, ◌+◌, ◌*◌, ◌≤◌}
use native.Mathlib.Omega.{arith}
use borrow.Author.Tests.{leb-true}
use lib.Dec.{leb}
use lib.IntN.{ℤ}
use lib.ListN.{length}
use Rattle.std.specs.Prelude.{Ok, Err}
use Rattle.lists.specs.Put.{put_at, put_in}
use Rattle.lists.proofs.Put.{fitting_all}
use Rattle.runs.specs.Machine.{Verdict, accepted, refused, on_verdict}
use Rattle.rules.specs.declared.Refusal.{Refusal}
use Rattle.rules.specs.Results.{Answer, refused_at}
use Rattle.rules.specs.Refusals.{bad_table, no_room}
use Rattle.rules.specs.State.{start}
use Rattle.rules.specs.Rows.{row_width, entries_of, sizes_fit}
use Rattle.rules.specs.Reading.{Rows}
use Rattle.rules.specs.Writing.{text_of_rows, follow_from, in_block, with_text, rows_of, write_answer, write_leaves}
use Rattle.laws.proofs.Sizes.{sizes_say}
use Rattle.writer.specs.Walk.{bytes_from, text_to}
use Rattle.writer.proofs.Walk.{text_follows}

-- what writing answers, and what it leaves, for what measuring answered
abbrev answered : ℕ → Answer → Answer
answered room (Ok m) = cond (leb m room) (Ok m) (refused_at no_room 0)
answered room (Err r) = Err r

abbrev left : List ℕ → List ℕ → Answer → List ℕ
left b w (Ok m) = cond (leb m (length b)) w b
left b w (Err r) = b

module _ (t : List ℤ) (n : ℕ) (b : List ℕ) where
  abbrev told : Verdict Rows Refusal
  told = follow_from start (entries_of n t) 0

  answer_by : (v : Verdict Rows Refusal) → on_verdict v refused_at (λ rs. in_block b (text_of_rows rs)) ≡ answered (length b) (bytes_from 0 v)
  answer_by (accepted rs) = let e : 0 + length (text_of_rows rs) ≡ length (text_of_rows rs) = omega arith in rw e
  answer_by (refused e i) = refl

  left_by : row_width * n ≤ length t → (v : Verdict Rows Refusal) → told ≡ v
      → on_verdict v (λ _ _. b) (λ rs. with_text b (text_of_rows rs)) ≡ left b (put_in b 0 (text_to t n)) (bytes_from 0 v)
  left_by room (accepted rs) e =
      rw (text_follows t n room rs e) (by (leb (length (text_of_rows rs)) (length b)) refl ∙ ap (λ z. left b (put_in b 0 (text_of_rows rs)) (Ok z)) (omega arith))
    where
      by : (f : Bool) → leb (length (text_of_rows rs)) (length b) ≡ f → cond f (put_at b 0 (text_of_rows rs)) b ≡ cond f (put_in b 0 (text_of_rows rs)) b
      by true g = ap (put_at b 0) (sym (fitting_all b 0 (text_of_rows rs) (omega (arith, leb-true (length (text_of_rows rs)) (length b) g))))
      by false g = refl
  left_by room (refused e i) f = refl

  pub answer_is : write_answer t n b ≡ cond (sizes_fit t n) (answered (length b) (bytes_from 0 told)) (refused_at bad_table 0)
  unfolding write_answer rows_of
  answer_is = by (sizes_fit t n)
    where
      by : (f : Bool) → on_verdict (cond f told (refused bad_table 0)) refused_at (λ rs. in_block b (text_of_rows rs))
          ≡ cond f (answered (length b) (bytes_from 0 told)) (refused_at bad_table 0)
      by true = answer_by told
      by false = refl

  pub leaves_are : write_leaves t n b ≡ cond (sizes_fit t n) (left b (put_in b 0 (text_to t n)) (bytes_from 0 told)) b
  unfolding write_leaves rows_of
  leaves_are = by (sizes_fit t n) refl
    where
      by : (f : Bool) → sizes_fit t n ≡ f
          → on_verdict (cond f told (refused bad_table 0)) (λ _ _. b) (λ rs. with_text b (text_of_rows rs)) ≡ cond f (left b (put_in b 0 (text_to t n)) (bytes_from 0 told)) b
      by true e = left_by (sizes_say t n e).room told refl
      by false e = refl
