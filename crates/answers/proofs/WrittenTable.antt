-- What writing says: rows that follow are those of a good table, and the text is theirs where there is room for it.
use mathlib.Core.Path.{◌≡◌, refl}
use mathlib.Core.Bool.{Bool, true, false, cond}
use mathlib.Core.List.{List}
use Prim.Native.Nat.{ℕ, ◌≤◌, ◌<◌}
use native.Mathlib.Omega.{arith}
use borrow.Author.Tests.{le-leb, lt-leb, leb-true}
use lib.Dec.{leb}
use lib.IntN.{ℤ}
use lib.ListN.{length}
use Rattle.std.specs.Prelude.{Ok}
use Rattle.lists.specs.Put.{put_at}
use Rattle.runs.specs.Machine.{Verdict, accepted, refused, on_verdict}
use Rattle.runs.proofs.Follow.{follows_follow, follow_follows}
use Rattle.rules.specs.declared.Refusal.{Refusal}
use Rattle.rules.specs.Results.{refused_at}
use Rattle.rules.specs.Refusals.{bad_table, no_room}
use Rattle.rules.specs.State.{start, taken, has_ended, same_state}
use Rattle.rules.specs.Rows.{entries_of, sizes_fit, Good}
use Rattle.rules.specs.Reading.{Rows}
use Rattle.rules.specs.Writing.{text_of_rows, follow_from, rows_of, in_block, write_answer, write_leaves}
use Rattle.rules.proofs.Same.{same_state_iff}

-- ---- the rows of a good table

module _ (t : List ℤ) (n : ℕ) (rs : Rows) where
  pub good_rows : Good t n rs → rows_of t n ≡ accepted rs
  unfolding rows_of
  good_rows g =
      rw (g.fits, g.found)
      (follows_follow taken same_state has_ended bad_table (λ a. (same_state_iff a a).1 refl) start rs 0 g.follows g.ends)

  fitting_good : (b : Bool) → sizes_fit t n ≡ b
      → cond b (follow_from start (entries_of n t) 0) (refused bad_table 0) ≡ accepted rs → Good t n rs
  fitting_good true e h =
      let w = follow_follows taken same_state has_ended bad_table (λ a b. (same_state_iff a b).0) start (entries_of n t) 0 rs h in
      record { fits = e; found = w.whole; follows = w.follows; ends = w.ends }
  fitting_good false e h = absurd (let z : ◌≡◌ {A = ℕ} 0 1 = cc in omega arith)

  pub rows_good : rows_of t n ≡ accepted rs → Good t n rs
  unfolding rows_of
  rows_good h = fitting_good (sizes_fit t n) refl h

-- ---- written

module _ (t : List ℤ) (n : ℕ) (b : List ℕ) where
  module _ (rs : Rows) (e : rows_of t n ≡ accepted rs) where
    module _ (h : length (text_of_rows rs) ≤ length b) where
      pub write_accepts : write_answer t n b ≡ Ok (length (text_of_rows rs))
      unfolding write_answer
      write_accepts = rw (e, le-leb (length (text_of_rows rs)) (length b) h)

      pub write_writes : write_leaves t n b ≡ put_at b 0 (text_of_rows rs)
      unfolding write_leaves
      write_writes = rw (e, le-leb (length (text_of_rows rs)) (length b) h)

    pub write_short : length b < length (text_of_rows rs) → write_answer t n b ≡ refused_at no_room 0
    unfolding write_answer
    write_short h = rw (e, lt-leb (length (text_of_rows rs)) (length b) h)

  pub record WriteDone (m : ℕ) : Type 0 where
    pub rows : Rows
    pub verdict : rows_of t n ≡ accepted rows
    pub counted : length (text_of_rows rows) ≡ m
    pub room : length (text_of_rows rows) ≤ length b

  module _ (m : ℕ) where
    done_block : (rs : Rows) → rows_of t n ≡ accepted rs → (c : Bool) → leb (length (text_of_rows rs)) (length b) ≡ c
        → cond c (Ok (length (text_of_rows rs))) (refused_at no_room 0) ≡ Ok m → WriteDone m
    done_block rs e true w h =
        let d : length (text_of_rows rs) ≡ m = cc in
        record { rows = rs; verdict = e; counted = d; room = leb-true (length (text_of_rows rs)) (length b) w }
    done_block rs e false w h = absurd (let z : ◌≡◌ {A = ℕ} 0 1 = cc in omega arith)

    done_rows : (v : Verdict Rows Refusal) → rows_of t n ≡ v → on_verdict v refused_at (λ rs. in_block b (text_of_rows rs)) ≡ Ok m → WriteDone m
    done_rows (accepted rs) e h = done_block rs e (leb (length (text_of_rows rs)) (length b)) refl h
    done_rows (refused a i) e h = absurd (let z : ◌≡◌ {A = ℕ} 0 1 = cc in omega arith)

    pub write_done : write_answer t n b ≡ Ok m → WriteDone m
    unfolding write_answer
    write_done h = done_rows (rows_of t n) refl h
