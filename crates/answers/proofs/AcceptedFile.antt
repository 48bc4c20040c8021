-- What an accepted reading says: the rows, their count, their room, and the lent numbers afterwards.
use mathlib.Core.Path.{◌≡◌, refl}
use mathlib.Core.Bool.{Bool, true, false, cond}
use mathlib.Core.List.{List}
use Prim.Native.Nat.{ℕ, ◌+◌, ◌*◌, ◌<◌, ◌≤◌}
use native.Mathlib.Omega.{arith}
use borrow.Author.Tests.{le-leb}
use lib.Dec.{leb}
use lib.IntN.{ℤ}
use lib.ListN.{length}
use Rattle.std.specs.Prelude.{Ok}
use Rattle.lists.specs.Put.{put_at}
use Rattle.runs.specs.Machine.{Verdict, accepted, refused, on_verdict, nil, link}
use Rattle.runs.proofs.Append.{Reads, Accepts, run_reads}
use Rattle.rules.specs.declared.State.{State}
use Rattle.rules.specs.declared.Refusal.{Refusal}
use Rattle.rules.specs.declared.Revision.{Revision}
use Rattle.rules.specs.Results.{refused_at}
use Rattle.rules.specs.Refusals.{file_too_long, ends_too_soon, no_room}
use Rattle.rules.specs.Numbers.{max_file, max_lines}
use Rattle.rules.specs.Lines.{Line, lines_of, AllEnded}
use Rattle.rules.specs.State.{start, taken, has_ended}
use Rattle.rules.specs.Rows.{row_width, table_numbers}
use Rattle.rules.specs.Reading.{command_in, Rows, run_of, file_of, has_room, in_room, read_answer, read_leaves}
use Rattle.rules.specs.Counting.{counts_of, read_counts}
use Rattle.laws.proofs.Keeps.{start_ok}
use Rattle.laws.proofs.Sizes.{room_says, room_is, no_room_is}
use Rattle.laws.proofs.InRange.{RowsOk, reads_ok}
use Rattle.obeys.proofs.Split.{yields_line}
use Rattle.obeys.proofs.Files.{file_iff}

-- ---- a file's rows

run_of_lem : (t : Bool) (v : Verdict Rows Refusal) (rs : Rows) → cond t v (refused file_too_long 0) ≡ accepted rs → v ≡ accepted rs
run_of_lem true v rs h = h
run_of_lem false v rs h = absurd (let z : ◌≡◌ {A = ℕ} 0 1 = cc in omega arith)

pub file_run : (rev : Revision) (bs : List ℕ) (rs : Rows) → file_of rev bs ≡ accepted rs → run_of rev (lines_of bs) ≡ accepted rs
unfolding file_of
file_run rev bs rs h = run_of_lem (leb (length bs) max_file) (run_of rev (lines_of bs)) rs h

pub file_of_lem : (rev : Revision) (bs : List ℕ) → length bs ≤ max_file → file_of rev bs ≡ run_of rev (lines_of bs)
unfolding file_of
file_of_lem rev bs h = rw (le-leb (length bs) max_file h)

pub file_accepts : (rev : Revision) (bs : List ℕ) (rs : Rows) → file_of rev bs ≡ accepted rs → Accepts (command_in rev) taken has_ended start (lines_of bs) 0 rs
unfolding run_of
file_accepts rev bs rs h = run_reads (command_in rev) taken has_ended ends_too_soon start (lines_of bs) 0 rs (file_run rev bs rs h)

pub file_few : (rev : Revision) (bs : List ℕ) (rs : Rows) → file_of rev bs ≡ accepted rs → length rs ≤ max_lines
file_few rev bs rs h = ((file_iff bs rs).0 h).line_count

-- every line of an accepted file has its end
reads_ended : (rev : Revision) {p : State} {ls : List Line} {i : ℕ} {rs : Rows} → Reads (command_in rev) taken p ls i rs → AllEnded ls
reads_ended rev nil = tt
reads_ended rev (link {l = l} {i = i} {r = r} e f g) = ((yields_line (i + 1) l r.command e).ends, reads_ended rev g)

pub file_ended : (rev : Revision) (bs : List ℕ) (rs : Rows) → file_of rev bs ≡ accepted rs → AllEnded (lines_of bs)
file_ended rev bs rs h = reads_ended rev (file_accepts rev bs rs h).reads

pub file_ok : (rev : Revision) (bs : List ℕ) (rs : Rows) → file_of rev bs ≡ accepted rs → RowsOk rs
file_ok rev bs rs h = reads_ok rev (file_accepts rev bs rs h).reads start_ok

-- ---- an accepted reading

pub record ReadDone (rev : Revision) (bs : List ℕ) (t : List ℤ) (n : ℕ) : Type 0 where
  pub rows : Rows
  pub read : file_of rev bs ≡ accepted rows
  pub counted : length rows ≡ n
  pub room : row_width * length rows ≤ length t

done_room : (rev : Revision) (bs : List ℕ) (t : List ℤ) (n : ℕ) (rs : Rows) → file_of rev bs ≡ accepted rs → (b : Bool) → has_room t (length rs) ≡ b
    → cond b (Ok (length rs)) (refused_at no_room 0) ≡ Ok n → ReadDone rev bs t n
done_room rev bs t n rs e true w h = let m : length rs ≡ n = cc in record { rows = rs; read = e; counted = m; room = room_says t (length rs) w }
done_room rev bs t n rs e false w h = absurd (let z : ◌≡◌ {A = ℕ} 0 1 = cc in omega arith)

done_file : (rev : Revision) (bs : List ℕ) (t : List ℤ) (n : ℕ) (v : Verdict Rows Refusal) → file_of rev bs ≡ v → on_verdict v refused_at (in_room t) ≡ Ok n → ReadDone rev bs t n
done_file rev bs t n (accepted rs) e h = done_room rev bs t n rs e (has_room t (length rs)) refl h
done_file rev bs t n (refused a i) e h = absurd (let z : ◌≡◌ {A = ℕ} 0 1 = cc in omega arith)

pub read_done : (rev : Revision) (bs : List ℕ) (t : List ℤ) (n : ℕ) → read_answer rev bs t ≡ Ok n → ReadDone rev bs t n
unfolding read_answer
read_done rev bs t n h = done_file rev bs t n (file_of rev bs) refl h

-- and the other way: accepted rows for which there is room
module _ (rev : Revision) (bs : List ℕ) (t : List ℤ) (rs : Rows) (e : file_of rev bs ≡ accepted rs) (h : row_width * length rs ≤ length t) where
  pub read_accepts : read_answer rev bs t ≡ Ok (length rs)
  unfolding read_answer
  read_accepts = rw (e, room_is t (length rs) h)

  pub read_writes : read_leaves rev bs t ≡ put_at t 0 (table_numbers rs)
  unfolding read_leaves
  read_writes = rw (e, room_is t (length rs) h)

  pub read_counts_lem : read_counts rev bs t ≡ counts_of rs
  unfolding read_counts
  read_counts_lem = rw (e, room_is t (length rs) h)

-- accepted rows for which there is none
pub read_short : (rev : Revision) (bs : List ℕ) (t : List ℤ) (rs : Rows) → file_of rev bs ≡ accepted rs → length t < row_width * length rs → read_answer rev bs t ≡ refused_at no_room 0
unfolding read_answer
read_short rev bs t rs e h = rw (e, no_room_is t (length rs) h)

-- a refused file
pub read_refuses : (rev : Revision) (bs : List ℕ) (t : List ℤ) (e : Refusal) (i : ℕ) → file_of rev bs ≡ refused e i → (read_answer rev bs t ≡ refused_at e i) × (read_leaves rev bs t ≡ t)
unfolding read_answer read_leaves
read_refuses rev bs t e i h = (rw h, rw h)
