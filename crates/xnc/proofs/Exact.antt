-- There is room for each part (Small), so that none runs into another.
use mathlib.Core.Path.{◌≡◌, refl}
use mathlib.Core.List.{List, [], ◌∷◌}
use Prim.Native.Nat.{ℕ, zero, suc, ◌-◌, ◌<◌}
use native.Mathlib.Omega.{arith}
use lib.Dec.{leb}
use lib.IntN.{ℤ}
use lib.ListN.{length, get_or, take, drop}
use Rattle.rules.specs.Refusals.{refusal_number, refusal_column}
use Rattle.rules.specs.Results.{Answer, HoleAnswer}
use Rattle.std.specs.Prelude.{Some, None, Ok, Err}
use Rattle.lists.proofs.Choice.{cond_all}
use Rattle.rules.specs.declared.Revision.{Revision}
use Rattle.rules.specs.Answers.{number_of, column_of, said, hole_numbers, hole_said}
use Rattle.rules.specs.Numbers.{max_tool, is_tool}
use Rattle.rules.specs.Reading.{read_answer}
use Rattle.rules.specs.Counting.{count_of, hits_answer, routs_answer}
use Rattle.rules.specs.Editing.{meeting_answer, edit_answer}
use Rattle.rules.specs.Writing.{write_answer}
use Rattle.rules.specs.Asking.{hole_answer}
use Rattle.answers.proofs.Small as Answers
use Rattle.xnc.specs.Door.{narrow, wide, together, packed, hole_width, with_block, hole_value, hole_packed}
use Rattle.xnc.specs.Counts.{counts_in, has_block, no_block, last_block, read_there, edit_there}
use Rattle.xnc.specs.Exact.{TakenApart, ExactAnswer, Block, DoorExact}

apart : (number column value : ℕ) → number < narrow → column < narrow → value < wide → TakenApart (together number column value) number column value
apart number column value h k m = record { number_is = omega arith; column_is = omega arith; value_is = omega arith }

exact : {b : ℕ} → b < wide → (a : Answer) → Answers.Small b (said a) → ExactAnswer a
unfolding packed
exact h (Ok n) w = record {
  parts = apart 0 0 n (omega arith) (omega arith) (omega (arith, w.value));
  success = (λ _. (n, refl), λ _. omega (arith, w.value));
}
exact h (Err r) w = record {
  parts = apart (refusal_number r.refusal) (refusal_column r.refusal) r.line (omega (arith, w.number)) (omega (arith, w.column)) (omega (arith, w.value));
  success = (λ p. absurd (omega (arith, w.named)), λ p. absurd (let z : ◌≡◌ {A = ℕ} 0 1 = cc p.1 in omega arith));
}

-- ---- the question for a hole

abbrev Exact : HoleAnswer → Type 0
Exact x =
    TakenApart (together (number_of (hole_said x)) (column_of (hole_said x)) (hole_value (hole_said x))) (number_of (hole_said x)) (column_of (hole_said x)) (hole_value (hole_said x))

exact_hole : (t : List ℤ) (n k : ℕ) (b : List ℤ)
    → TakenApart (hole_packed (hole_answer t n k) b) (number_of (hole_said (with_block (hole_answer t n k) b)))
    (column_of (hole_said (with_block (hole_answer t n k) b))) (hole_value (hole_said (with_block (hole_answer t n k) b)))
unfolding hole_packed with_block hole_numbers
exact_hole t n k b = by (hole_answer t n k) refl
  where
    by : (a : HoleAnswer) → hole_answer t n k ≡ a → Exact (with_block a b)
    by (Ok (Some h)) e =
        cond_all Exact (leb hole_width (length b)) (λ _. apart 0 0 1 (omega arith) (omega arith) (omega arith)) (λ _. apart 15 0 0 (omega arith) (omega arith) (omega arith))
    by (Ok None) e =
        cond_all Exact (leb hole_width (length b)) (λ _. apart 0 0 0 (omega arith) (omega arith) (omega arith)) (λ _. apart 15 0 0 (omega arith) (omega arith) (omega arith))
    by (Err r) e = let w = Answers.hole_small t n k r.refusal r.line e in apart (refusal_number r.refusal) (refusal_column r.refusal) r.line (omega (arith, w.number)) (omega (arith, w.column)) (omega (arith, w.value))

-- ---- where a block of counts is lent

small_block : {b : ℕ} (a : Answer) → Answers.Small b (said a) → Answers.Small b (said (no_block a))
small_block (Ok n) w = record { named = omega arith; value = omega arith; number = omega arith; column = omega arith }
small_block (Err r) w = w

exact_read : (rev : Revision) (bs : List ℕ) (t : List ℤ) (b : List ℕ) → ExactAnswer (read_there rev bs t b)
unfolding read_there
exact_read rev bs t b =
    let w = Answers.read_small rev bs t in
    cond_all ExactAnswer (has_block b) (λ _. exact (omega arith) (read_answer rev bs t) w) (λ _. exact (omega arith) (no_block (read_answer rev bs t)) (small_block (read_answer rev bs t) w))

exact_edit : (rev : Revision) (t : List ℤ) (n k : ℕ) (l b : List ℕ) → ExactAnswer (edit_there rev t n k l b)
unfolding edit_there
exact_edit rev t n k l b =
    cond_all ExactAnswer (has_block b) (λ _. exact (omega arith) (edit_answer rev t n k l (counts_in b)) (Answers.edit_small rev t n k l (counts_in b)))
    (λ _. exact (omega arith) (no_block (meeting_answer rev t n k l)) (small_block (meeting_answer rev t n k l) (Answers.meeting_small rev t n k l)))

-- a tool's count, of numbers that have 32 bits
count_small : (l : List ℕ) → ((i : ℕ) → get_or l i 0 < wide) → (tool : ℕ) → Answers.Small (wide - 1) (said (count_of l tool))
count_small l h tool =
    cond_all (λ (a : Answer). Answers.Small (wide - 1) (said a)) (is_tool tool)
    (λ _. record { named = tt; value = omega (arith, h (tool - 1)); number = omega arith; column = omega arith })
    (λ _. record { named = omega arith; value = omega arith; number = omega arith; column = omega arith })

-- past the end of a part there is 0
part_small : (n : ℕ) (b : List ℕ) → Block b → (i : ℕ) → get_or (take n b) i 0 < wide
part_small zero b h i = omega arith
part_small (suc n) [] h i = omega arith
part_small (suc n) (x ∷ xs) h zero = h 0
part_small (suc n) (x ∷ xs) h (suc i) = part_small n xs (λ j. h (suc j)) i

rest_small : (n : ℕ) (b : List ℕ) → Block b → Block (drop n b)
rest_small zero b h = h
rest_small (suc n) [] h = h
rest_small (suc n) (x ∷ xs) h = rest_small n xs (λ j. h (suc j))

exact_count : (l b : List ℕ) → ((i : ℕ) → get_or l i 0 < wide) → (tool : ℕ) → ExactAnswer (last_block b (count_of l tool))
exact_count l b h tool =
    let w = count_small l h tool in
    cond_all ExactAnswer (has_block b) (λ _. exact (omega arith) (count_of l tool) w) (λ _. exact (omega arith) (no_block (count_of l tool)) (small_block (count_of l tool) w))

pub door_exact : DoorExact
unfolding hits_answer routs_answer
door_exact = record {
  read = exact_read;
  edit = exact_edit;
  write = λ t n b. exact (omega arith) (write_answer t n b) (Answers.write_small t n b);
  hits = λ b h tool. exact_count (take max_tool b) b (part_small max_tool b h) tool;
  routs = λ b h tool. exact_count (take max_tool (drop max_tool b)) b (part_small max_tool (drop max_tool b) (rest_small max_tool b h)) tool;
  hole = exact_hole;
}
