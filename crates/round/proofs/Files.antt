-- A text with a line for each row reads back to the rows: each line is cut off whole, says its row's command, and that
-- command is taken to its row's state. The text that is written is that of the rows without comments, and these follow
-- as all rows did, since a comment leaves the state as it is.
use mathlib.Core.Path.{◌≡◌, refl, sym, ap, subst, ◌∙◌}
use mathlib.Core.Bool.{Bool, true, false}
use mathlib.Core.List.{List, [], ◌∷◌, ◌++◌, append_assoc}
use Prim.Native.Nat.{ℕ, suc, ◌+◌, ◌*◌, ◌≤◌}
use native.Mathlib.Omega.{arith}
use borrow.Author.Tests.{le-leb}
use lib.Dec.{ltb}
use lib.ListN.{length, length-append}
use Rattle.std.specs.Prelude.{Ok}
use Rattle.lists.proofs.Choice.{cond_all}
use Rattle.runs.specs.Machine.{yields, accepted, last_of, nil, link, Follows, StepBy}
use Rattle.runs.proofs.Chains.{follows_head, follows_tail}
use Rattle.runs.proofs.Append.{Reads, reads_run}
use Rattle.rules.specs.declared.Command.{Command}
use Rattle.rules.specs.declared.State.{State}
use Rattle.rules.specs.declared.Revision.{Revision}
use Rattle.rules.specs.Results.{out_of}
use Rattle.rules.specs.Refusals.{wrong_phase, ends_too_soon}
use Rattle.rules.specs.Numbers.{max_file, max_lines}
use Rattle.rules.specs.Lines.{LF, Line, lines_of}
use Rattle.rules.specs.Kinds.{is_comment}
use Rattle.rules.specs.State.{over, start, need, step, taken, has_ended}
use Rattle.rules.specs.Reading.{Rows, command_in, run_of, file_of}
use Rattle.rules.specs.Writing.{spelt, line_text, longest_line, text_of_rows}
use Rattle.laws.proofs.InRange.{RowsOk}
use Rattle.round.specs.Comments.{without_comments, text_with_comments}
use Rattle.round.proofs.Lines.{spelt_fits, spelt_reads, spelt_line, comment_is, line_text_lem, comment_text}

-- rows that a good table has
pub record GoodRows (rs : Rows) : Type 0 where
  pub within_range : RowsOk rs
  pub follows : Follows (StepBy taken) start 0 rs
  pub ends : has_ended (last_of start rs) ≡ true
  pub count : length rs ≤ max_lines

-- ---- a line for each row

commented_length : (rs : Rows) → RowsOk rs → length (text_with_comments rs) ≤ longest_line * length rs
unfolding text_with_comments
commented_length [] h = omega arith
commented_length (r ∷ rs) h =
    omega (arith, length-append (spelt r.command) (LF ∷ text_with_comments rs), (spelt_fits r.command h.0).short, commented_length rs h.2)

lines_back : (rev : Revision) {p : State} (rs : Rows) (i : ℕ) → RowsOk rs → Follows (StepBy taken) p i rs → i + length rs ≤ max_lines
    → Reads (command_in rev) taken p (lines_of (text_with_comments rs)) i rs
unfolding text_with_comments lines_of
lines_back rev [] i h f n = nil
lines_back rev {p} (r ∷ rs) i h f n =
    subst (λ (ls : List Line). Reads (command_in rev) taken p ls i (r ∷ rs)) (sym (spelt_line r.command h.0 (text_with_comments rs)))
    (link (spelt_reads rev (i + 1) r.command (omega arith) h.0) (follows_head f) (lines_back rev rs (i + 1) h.2 (follows_tail f) (omega arith)))

pub commented_file_back : (rev : Revision) (rs : Rows) → GoodRows rs → file_of rev (text_with_comments rs) ≡ accepted rs
unfolding file_of run_of
commented_file_back rev rs g =
    rw (le-leb (length (text_with_comments rs)) max_file (omega (arith, commented_length rs g.within_range, g.count)))
    (reads_run (command_in rev) taken has_ended ends_too_soon (lines_back rev rs 0 g.within_range g.follows (omega (arith, g.count))) g.ends)

-- ---- without comments

comment_stays : (p q : State) (c : Command) → is_comment c ≡ true → taken p c ≡ yields q → q ≡ p
unfolding step need
comment_stays p q c e t = go (ltb p.phase over) (rw (comment_is c e) at t)
  where
    go : (b : Bool) → out_of (need b wrong_phase (Ok p)) ≡ yields q → q ≡ p
    go true f = cc
    go false f = cc

kept_ok : (rs : Rows) → RowsOk rs → RowsOk (without_comments rs)
unfolding without_comments
kept_ok [] h = tt
kept_ok (r ∷ rs) h = cond_all RowsOk (is_comment r.command) (λ _. kept_ok rs h.2) (λ _. (h.0, h.1, kept_ok rs h.2))

-- rows from any place on: without comments they stand earlier
kept_follows : (p : State) (i j : ℕ) (rs : Rows) → Follows (StepBy taken) p i rs → Follows (StepBy taken) p j (without_comments rs)
unfolding without_comments
kept_follows p i j [] f = nil
kept_follows p i j (r ∷ rs) f =
    cond_all (Follows (StepBy taken) p j) (is_comment r.command)
    (λ e. subst (λ (s : State). Follows (StepBy taken) s j (without_comments rs)) (comment_stays p r.state r.command e (follows_head f))
    (kept_follows r.state (i + 1) j rs (follows_tail f)))
    (λ _. link refl (follows_head f) (kept_follows r.state (i + 1) (j + 1) rs (follows_tail f)))

kept_last : (p : State) (i : ℕ) (rs : Rows) → Follows (StepBy taken) p i rs → last_of p (without_comments rs) ≡ last_of p rs
unfolding without_comments last_of
kept_last p i [] f = refl
kept_last p i (r ∷ rs) f =
    let ih = kept_last r.state (i + 1) rs (follows_tail f) in
    cond_all (λ (ks : Rows). last_of p ks ≡ last_of r.state rs) (is_comment r.command)
    (λ e. ap (λ (s : State). last_of s (without_comments rs)) (sym (comment_stays p r.state r.command e (follows_head f))) ∙ ih)
    (λ _. ih)

kept_count : (rs : Rows) → length (without_comments rs) ≤ length rs
unfolding without_comments
kept_count [] = omega arith
kept_count (r ∷ rs) =
    cond_all (λ (ks : Rows). length ks ≤ suc (length rs)) (is_comment r.command) (λ _. omega (arith, kept_count rs)) (λ _. omega (arith, kept_count rs))

pub kept_good : (rs : Rows) → GoodRows rs → GoodRows (without_comments rs)
kept_good rs g =
    record {
      within_range = kept_ok rs g.within_range;
      follows = kept_follows start 0 0 rs g.follows;
      ends = rw (kept_last start 0 rs g.follows) g.ends;
      count = omega (arith, kept_count rs, g.count);
    }

-- ---- what is written

-- it has a line for each row that is no comment
pub text_kept : (rs : Rows) → text_of_rows rs ≡ text_with_comments (without_comments rs)
unfolding text_of_rows without_comments text_with_comments
text_kept [] = refl
text_kept (r ∷ rs) =
    cond_all (λ (ks : Rows). line_text r.command ++ text_of_rows rs ≡ text_with_comments ks) (is_comment r.command)
    (λ e. rw (comment_text r.command e) (text_kept rs))
    (λ e. rw (line_text_lem r.command e, append_assoc (spelt r.command) (LF ∷ []) (text_of_rows rs), text_kept rs))

pub text_length : (rs : Rows) → RowsOk rs → length (text_of_rows rs) ≤ longest_line * length rs
text_length rs h = omega (arith, ap length (text_kept rs), commented_length (without_comments rs) (kept_ok rs h), kept_count rs)

pub file_back : (rev : Revision) (rs : Rows) → GoodRows rs → file_of rev (text_of_rows rs) ≡ accepted (without_comments rs)
file_back rev rs g = ap (file_of rev) (text_kept rs) ∙ commented_file_back rev (without_comments rs) (kept_good rs g)

-- written again it has the same bytes
pub same_bytes : (rs : Rows) → text_of_rows (without_comments rs) ≡ text_of_rows rs
unfolding text_of_rows without_comments
same_bytes [] = refl
same_bytes (r ∷ rs) =
    cond_all (λ (ks : Rows). text_of_rows ks ≡ line_text r.command ++ text_of_rows rs) (is_comment r.command)
    (λ e. rw (comment_text r.command e) (same_bytes rs))
    (λ _. ap (λ (l : List ℕ). line_text r.command ++ l) (same_bytes rs))
