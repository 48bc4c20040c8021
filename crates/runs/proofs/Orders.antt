-- Two edits of different lines in either order: the commands are the same in the end, and so is the table. Before the later line the
-- states are told by the earlier edit alone, so both orders agree there on whether its span has ended.
use mathlib.Core.Path.{◌≡◌, refl, sym, ap, ◌∙◌}
use mathlib.Core.Bool.{Bool, true}
use mathlib.Core.List.{List}
use Prim.Native.Nat.{ℕ, ◌+◌, ◌-◌, ◌<◌, ◌≤◌}
use native.Mathlib.Omega.{arith}
use native.Mathlib.Decide.{dec_lt}
use lib.ListN.{length, set, take, drop}
use lib.Seq.{set_comm, take-take}
use Rattle.lists.specs.Exactly.{Exactly}
use Rattle.lists.proofs.Put.{put_before, put_after}
use Rattle.runs.specs.Machine.{Out, Row, commands_of, last_of}
use Rattle.runs.specs.Agreement.{state_after, FirstAgreement}
use Rattle.runs.specs.Edits.{Edited, Afresh, EditsCommute}
use Rattle.runs.proofs.Meeting.{one_meeting}
use Rattle.runs.proofs.Edit.{after_add}
use Rattle.runs.proofs.Given.{line_counted}
use Rattle.runs.proofs.Afresh.{commands_tell, edited_meets, edited_afresh, edited_length, afresh_edited}

-- ---- agreements of rows with the same states

-- the same states after every line from a to b
abbrev SameStates : {C S : Type 0} → S → List (Row C S) → List (Row C S) → ℕ → ℕ → Type 0
SameStates p rs ss a b = (x : ℕ) → a ≤ x → x < b → state_after p rs x ≡ state_after p ss x

module _ {C S : Type 0} {p : S} {old new older newer : List (Row C S)} {k m : ℕ} where
  -- before line j: an agreement there is one of both
  not_later : {n : ℕ} (j : ℕ) → SameStates p old older 0 j → SameStates p new newer 0 j
      → FirstAgreement p old new k m → FirstAgreement p older newer k n → n < j → j ≤ length older → m ≤ n
  not_later {n} j f g a b h u = go (dec_lt n m)
    where
      go : Dec (n < m) → m ≤ n
      go (yes l) = absurd (a.differ n b.from l (f n (omega arith) h ∙ b.agrees (omega arith) ∙ sym (g n (omega arith) h)))
      go (no l) = omega arith

  -- from line k on
  same_agreement : length old ≡ length older → SameStates p old older k (length old + 1) → SameStates p new newer k (length old + 1)
      → FirstAgreement p old new k m → FirstAgreement p older newer k m
  same_agreement e f g a = record {
    from = a.from;
    upto = omega (arith, e, a.upto);
    differ = λ j u v w. a.differ j u v (f j u (omega (arith, a.upto)) ∙ w ∙ sym (g j u (omega (arith, a.upto))));
    agrees = λ u. sym (f m a.from (omega (arith, e))) ∙ a.agrees (omega (arith, e)) ∙ g m a.from (omega (arith, e));
  }

module _ {C S R : Type 0} (step : S → C → Out S R) (same : S → S → Bool) (final : S → Bool) (bad_row short : R)
    (same_eq : (a b : S) → same a b ≡ true → a ≡ b) (same_refl : (a : S) → same a a ≡ true) (p : S) where
  abbrev Edit : List (Row C S) → ℕ → C → ℕ → List (Row C S) → Type 0
  Edit old k c m new = Edited step same final bad_row short p old k c m new

  -- ---- the states outside an edit's span

  module _ {old : List (Row C S)} {k : ℕ} {c : C} {m : ℕ} {new : List (Row C S)} (w : Edit old k c m new) where
    meets : FirstAgreement p old new k m
    meets = edited_meets step same final bad_row short same_eq same_refl p w

    afresh : Afresh step same final bad_row short p old k c new
    afresh = edited_afresh step same final bad_row short same_eq same_refl p w

    as_many : length new ≡ length old
    as_many = edited_length step same final bad_row short same_eq same_refl p w

    before_same : take (k - 1) new ≡ take (k - 1) old
    before_same = ap (take (k - 1)) (sym w.rows) ∙ put_before old (k - 1) w.span.rows (omega (arith, w.upto))

    states_before : SameStates p new old 0 k
    states_before x a b =
        ap (last_of p) (sym (take-take x (k - 1) new (omega arith)) ∙ ap (take x) before_same ∙ take-take x (k - 1) old (omega arith))

    after_same : drop m new ≡ drop m old
    after_same =
        ap (drop m) (sym w.rows)
        ∙ put_after old (k - 1) m w.span.rows (omega (arith, w.meets, line_counted step same final bad_row short same_eq same_refl p old k w.from w.upto c w.span w.verdict)) meets.upto

    states_after : m < length old → SameStates p new old m (length old + 1)
    states_after h x a b =
        let n : m + (x - m) ≡ x = omega arith in
        let l : length new ≡ length old = as_many in
        rw n at (after_add p new m (x - m) (omega arith) ∙ rw (after_same, sym (meets.agrees h)) refl ∙ sym (after_add p old m (x - m) (omega arith)))

  -- ---- two edits

  module _ {old : List (Row C S)} {k j : ℕ} {c d : C} {m i i' : ℕ} {one both other : List (Row C S)}
      (first : Edit old k c m one) (second : Edit one j d i both) (alone : Edit old j d i' other) where
    -- the commands in the end: those of the other order
    swapped : (k ≡ j → ⊥) → commands_of both ≡ set (commands_of other) (k - 1) c
    swapped ne =
        (afresh second).commands ∙ ap (λ (cs : List C). set cs (j - 1) d) (afresh first).commands
        ∙ set_comm (commands_of old) (k - 1) (j - 1) c d (λ e. ne (omega (arith, e, first.from, second.from)))
        ∙ ap (λ (cs : List C). set cs (k - 1) c) (sym (afresh alone).commands)

    fourth : (k ≡ j → ⊥) → (m' : ℕ) × Edit other k c m' both
    fourth ne =
        afresh_edited step same final bad_row short same_eq same_refl p other k c both (afresh alone).table first.from
        (omega (arith, first.upto, as_many alone))
        (record { commands = swapped ne; table = (afresh second).table })

    one_table : {m' : ℕ} {again : List (Row C S)} → (k ≡ j → ⊥) → Edit other k c m' again → both ≡ again
    one_table {again = again} ne last =
        commands_tell step both again (afresh second).table.follows (afresh last).table.follows (swapped ne ∙ sym (afresh last).commands)

    -- line k comes before line j
    module _ (h : k < j) {m' : ℕ} (last : Edit other k c m' both) where
      reach : m < j → m' ≤ m
      reach b = not_later j (states_before alone) (states_before second) (meets last) (meets first) b alone.upto

      reach_back : m' < j → m ≤ m'
      reach_back b =
          not_later j (λ x u v. sym (states_before alone x u v)) (λ x u v. sym (states_before second x u v)) (meets first) (meets last) b
          (omega (arith, alone.upto, as_many alone))

      same_spans : m < j → (m ≡ m') × (i ≡ i')
      same_spans b =
          let e : m ≡ m' = omega (arith, reach b, reach_back (omega (arith, reach b))) in
          let l : length one ≡ length old = as_many first in
          let n : length other ≡ length old = as_many alone in
          let u = alone.upto in (
            e,
            one_meeting
                (same_agreement l
                (λ x y z. states_after first (omega arith) x (omega arith) (omega arith))
                (λ x y z. states_after last (omega arith) x (omega arith) (omega arith)) (meets second)) (meets alone),
          )

      spans : Exactly (m < j) (m' < j) × (m < j → (m ≡ m') × (i ≡ i'))
      spans = ((λ b. omega (arith, reach b), λ b. omega (arith, reach_back b)), same_spans)

  -- TWO EDITS CHANGE PLACES
  pub edits_commute : EditsCommute step same final bad_row short p
  edits_commute = record {
    fourth = λ ne a b c. fourth a b c ne;
    one_table = λ ne a b c d. one_table a b c ne d;
    apart = λ h a b c d. spans a b c h d;
  }
