-- Writing is refused exactly when the table isn't good or the block is short: where the walk over the rows doesn't stop, the
-- table is good, and then only the room is left to test.
use mathlib.Core.Path.{◌≡◌, refl, sym, ap, ◌∙◌, subst, subst₂}
use mathlib.Core.Bool.{Bool, true, false, cond}
use mathlib.Core.List.{List}
use Prim.Native.Nat.{ℕ}
use native.Mathlib.Omega.{arith}
use borrow.Author.Tests.{leb-false}
use lib.Dec.{leb}
use lib.IntN.{ℤ}
use lib.ListN.{length}
use Rattle.std.specs.Prelude.{Ok}
use Rattle.rules.proofs.Said.{refused_same}
use Rattle.runs.specs.Machine.{Verdict, accepted, refused, on_verdict}
use Rattle.rules.specs.declared.Refusal.{Refusal}
use Rattle.rules.specs.Results.{refused_at}
use Rattle.rules.specs.Refusals.{refusal_number, bad_table, no_room}
use Rattle.rules.specs.State.{start}
use Rattle.rules.specs.Rows.{entries_of, sizes_fit, Good}
use Rattle.rules.specs.Reading.{Rows}
use Rattle.rules.specs.Writing.{text_of_rows, follow_from, rows_of, in_block, write_answer}
use Rattle.laws.proofs.Sizes.{sizes_fit_lem, sizes_say, bad_sizes, sizes_bad}
use Rattle.demands.specs.WriteRefused.{WriteRefused, sizes, rows, short, IsWritten, WritesExactly, WriteExactly}
use Rattle.demands.proofs.WalkStops.{Stopped, walk_stops, stops_walk}
use Rattle.answers.proofs.Refused.{Told, rows_told}
use Rattle.answers.proofs.WrittenTable.{good_rows, rows_good, write_accepts, write_short, write_done}

module _ (t : List ℤ) (n : ℕ) (b : List ℕ) where
  done : (m : ℕ) → write_answer t n b ≡ Ok m → IsWritten t n b m
  done m h =
      let d = write_done t n b m h in
      record { rows = d.rows; good = rows_good t n d.rows d.verdict; count = sym d.counted; room = omega (arith, d.counted, d.room) }

  so_done : (m : ℕ) → IsWritten t n b m → write_answer t n b ≡ Ok m
  so_done m w = write_accepts t n b w.rows (good_rows t n w.rows w.good) (omega (arith, w.count, w.room)) ∙ ap Ok (sym w.count)

  module _ (e : Refusal) (i : ℕ) where
    short_block : (rs : Rows) → rows_of t n ≡ accepted rs → (c : Bool) → leb (length (text_of_rows rs)) (length b) ≡ c
        → cond c (Ok (length (text_of_rows rs))) (refused_at no_room 0) ≡ refused_at e i → WriteRefused t n b e i
    short_block rs w true f h = absurd (let z : ◌≡◌ {A = ℕ} 0 1 = cc in omega arith)
    short_block rs w false f h =
        let p : no_room ≡ e = (refused_same h).0 in
        let q : 0 ≡ i = (refused_same h).1 in
        subst₂ (WriteRefused t n b) p q (short (rows_good t n rs w) (leb-false (length (text_of_rows rs)) (length b) f))

    bad_rows : (c : Bool) → sizes_fit t n ≡ c → cond c (follow_from start (entries_of n t) 0) (refused bad_table 0) ≡ refused e i → WriteRefused t n b e i
    bad_rows true f h =
        let s = subst (Stopped start 0 (entries_of n t)) h (walk_stops (entries_of n t) start 0) in
        subst (λ (a : Refusal). WriteRefused t n b a i) (sym s.0) (rows (sizes_say t n f) s.1)
    bad_rows false f h =
        let p : bad_table ≡ e = cc in
        let q : 0 ≡ i = cc in
        subst₂ (WriteRefused t n b) p q (sizes (bad_sizes t n f))

    why : (v : Verdict Rows Refusal) → rows_of t n ≡ v → on_verdict v refused_at (λ rs. in_block b (text_of_rows rs)) ≡ refused_at e i → WriteRefused t n b e i
    unfolding rows_of
    why (accepted rs) w h = short_block rs w (leb (length (text_of_rows rs)) (length b)) refl h
    why (refused a j) w h =
        let p : a ≡ e = (refused_same h).0 in
        let q : j ≡ i = (refused_same h).1 in
        bad_rows (sizes_fit t n) refl (w ∙ ap (λ (x : Refusal). refused x j) p ∙ ap (refused e) q)

  so_refused : {e : Refusal} {i : ℕ} → WriteRefused t n b e i → write_answer t n b ≡ refused_at e i
  unfolding write_answer rows_of
  so_refused (sizes f) = rw (sizes_bad t n f)
  so_refused (rows f w) = rw (sizes_fit_lem t n f, stops_walk w)
  so_refused (short {rs = rs} g h) = write_short t n b rs (good_rows t n rs g) h

  -- ---- 18 exactly where the table isn't good

  unwritten : (v : Verdict Rows Refusal) → rows_of t n ≡ v → ((rs : Rows) → Good t n rs → ⊥) → (i : ℕ) × (write_answer t n b ≡ refused_at bad_table i)
  unfolding write_answer
  unwritten (accepted rs) w h = absurd (h rs (rows_good t n rs w))
  unwritten (refused e i) w h =
      let d : e ≡ bad_table = subst (Told (λ a _. a ≡ bad_table)) w (rows_told (λ a _. a ≡ bad_table) t n refl (λ _ _ _. refl)) in
      (i, rw w (ap (λ (a : Refusal). refused_at a i) d))

  not_18 : (x i : ℕ) (c : Bool) → cond c (Ok x) (refused_at no_room 0) ≡ refused_at bad_table i → ⊥
  not_18 x i true h = let z : ◌≡◌ {A = ℕ} 0 1 = cc in omega arith
  not_18 x i false h =
      let d : no_room ≡ bad_table = (refused_same h).0 in
      let z : refusal_number no_room ≡ refusal_number bad_table = ap refusal_number d in
      omega arith

  written : (rs : Rows) → Good t n rs → (i : ℕ) → write_answer t n b ≡ refused_at bad_table i → ⊥
  unfolding write_answer
  written rs g i h = not_18 (length (text_of_rows rs)) i (leb (length (text_of_rows rs)) (length b)) (rw (good_rows t n rs g) at h)

  writes : WritesExactly t n b
  unfolding write_answer
  writes = record {
    done = λ m. (done m, so_done m);
    refused = λ e i. (λ h. why e i (rows_of t n) refl h, so_refused);
    not_good = unwritten (rows_of t n) refl;
    not_bad = written;
  }

pub write_exactly : WriteExactly
write_exactly = record { writes = writes }
