-- Demand 2. A file is accepted exactly where it obeys and refused exactly where it is faulty (crate obeys); what
-- is left here is the room, and that rows written into numbers are found there again. Writing is in WriteBack.
use mathlib.Core.Path.{◌≡◌, refl, sym, ap, ◌∙◌, subst₂}
use mathlib.Core.Bool.{Bool, true, false, false≢true, cond}
use mathlib.Core.List.{List}
use Prim.Native.Nat.{ℕ, ◌+◌, ◌*◌, ◌≤◌}
use native.Mathlib.Omega.{arith}
use lib.Dec.{eqb}
use lib.IntN.{ℤ}
use lib.ListN.{length, drop}
use Rattle.std.specs.Prelude.{Ok}
use Rattle.rules.proofs.Said.{refused_same}
use Rattle.lists.specs.Put.{put_at}
use Rattle.runs.specs.Machine.{Verdict, accepted, refused, on_verdict}
use Rattle.rules.specs.declared.Refusal.{Refusal}
use Rattle.rules.specs.declared.Revision.{Revision}
use Rattle.rules.specs.Results.{refused_at}
use Rattle.rules.specs.Refusals.{refusal_number, no_room}
use Rattle.rules.specs.Rows.{row_width, table_numbers, Good}
use Rattle.rules.specs.Reading.{Rows, file_of, has_room, in_room, read_answer, read_leaves}
use Rattle.rules.specs.Obeys.{ReadingOf, Obeys}
use Rattle.laws.proofs.Sizes.{no_room_says}
use Rattle.obeys.specs.Faults.{Faulty}
use Rattle.obeys.proofs.Files.{file_iff, one_reading, refused_says}
use Rattle.answers.proofs.Refused.{faulty_told}
use Rattle.answers.proofs.LineHoles.{good_hole}
use Rattle.answers.proofs.AcceptedFile.{file_few, read_done, read_accepts, read_writes, read_short, read_refuses}
use Rattle.answers.proofs.GoodTables.{file_table}
use Rattle.demands.proofs.WriteBack.{write_back}
use Rattle.demands.specs.Demand2.{HoldsReading, ReadRefused, faulty, short, ReadsRight, Demand2}

module _ (rev : Revision) (bs : List ℕ) (t : List ℤ) where
  read_of : (n : ℕ) → read_answer rev bs t ≡ Ok n → Obeys rev bs
  read_of n h = let d = read_done rev bs t n h in record { rows = d.rows; reading = (file_iff bs d.rows).0 d.read }

  holds : (n : ℕ) (rs : Rows) → read_answer rev bs t ≡ Ok n → ReadingOf rev bs rs → HoldsReading rev bs t n rs
  holds n rs h w =
      let d = read_done rev bs t n h in
      let e : file_of rev bs ≡ accepted rs = (file_iff bs rs).1 w in
      let same : d.rows ≡ rs = one_reading ((file_iff bs d.rows).0 d.read) w in
      let c : length rs ≡ n = sym (ap length same) ∙ d.counted in
      let left : read_leaves rev bs t ≡ put_at t 0 (table_numbers rs) = read_writes rev bs t rs e (omega (arith, c, d.counted, d.room)) in
      let g : Good (read_leaves rev bs t) n rs = subst₂ (λ (u : List ℤ) (j : ℕ). Good u j rs) (sym left) c (file_table rev bs rs e (drop (0 + length (table_numbers rs)) t)) in
      record { count = sym c; numbers = left; entries = g.found; good = g; holes = good_hole (read_leaves rev bs t) n rs g (sym c) }

  -- ---- refusals

  short_room : (rs : Rows) → file_of rev bs ≡ accepted rs → (e : Refusal) (i : ℕ) (b : Bool) → has_room t (length rs) ≡ b
      → cond b (Ok (length rs)) (refused_at no_room 0) ≡ refused_at e i → ReadRefused rev bs t e i
  short_room rs w e i true f h = absurd (let z : ◌≡◌ {A = ℕ} 0 1 = cc in omega arith)
  short_room rs w e i false f h =
      let p : no_room ≡ e = (refused_same h).0 in
      let q : 0 ≡ i = (refused_same h).1 in
      subst₂ (ReadRefused rev bs t) p q (short ((file_iff bs rs).0 w) (no_room_says t (length rs) f))

  why : (e : Refusal) (i : ℕ) (v : Verdict Rows Refusal) → file_of rev bs ≡ v → on_verdict v refused_at (in_room t) ≡ refused_at e i → ReadRefused rev bs t e i
  why e i (accepted rs) w h = short_room rs w e i (has_room t (length rs)) refl h
  why e i (refused a j) w h =
      let p : a ≡ e = (refused_same h).0 in
      let q : j ≡ i = (refused_same h).1 in
      faulty (subst₂ (Faulty rev bs) p q ((refused_says bs a j).0 w))

  so_refused : {e : Refusal} {i : ℕ} → ReadRefused rev bs t e i → read_answer rev bs t ≡ refused_at e i
  so_refused (faulty {e = e} {i = i} f) = (read_refuses rev bs t e i ((refused_says bs e i).1 f)).0
  so_refused (short {rs = rs} w h) = read_short rev bs t rs ((file_iff bs rs).1 w) h

  no_fault : (i : ℕ) → Faulty rev bs no_room i → ⊥
  no_fault i f =
      false≢true (sym (faulty_told (λ e _. eqb (refusal_number e) (refusal_number no_room) ≡ false) refl
      (λ j n. record {
        line = record { long = refl; byte = λ _ _ _. refl; form = refl; range = λ _ _ _. refl };
        step = record { phase = refl; motion = refl; again = refl; undeclared = refl; unselected = refl; arc = refl };
        many = refl;
        unended = refl;
        short = refl;
      }) f))

  accepts : (rs : Rows) → ReadingOf rev bs rs → row_width * length rs ≤ length t → read_answer rev bs t ≡ Ok (length rs)
  accepts rs w h = read_accepts rev bs t rs ((file_iff bs rs).1 w) h

  reads_right : ReadsRight rev bs t
  unfolding read_answer
  reads_right = record {
    obeys = read_of;
    accepted = accepts;
    accepted_all = λ h w. accepts w.rows w.reading (omega (arith, file_few rev bs w.rows ((file_iff bs w.rows).1 w.reading)));
    one_reading = λ rs ss v w. one_reading v w;
    holds = holds;
    refused = λ e i. (λ h. why e i (file_of rev bs) refl h, so_refused);
    no_room_last = no_fault;
  }

pub demand_2 : Demand2
demand_2 = record { reads = reads_right; writes_back = write_back }
