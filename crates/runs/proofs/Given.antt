-- Line k of any rows given another command. The edit is a rerun of the rows from that line on; its meeting line is the first agreement of
-- old and new states; the commands are the old ones but for that line's; and where the old rows make a table, so do the new ones. Where
-- lines run to the rows, the lines so edited run to what the edit gives.
use mathlib.Core.Path.{◌≡◌, refl, sym, ap, ◌∙◌, subst₂}
use mathlib.Core.Bool.{Bool, true}
use mathlib.Core.List.{List, [], ◌∷◌, ◌++◌}
use Prim.Native.Nat.{ℕ, zero, suc, ◌+◌, ◌-◌, ◌≤◌}
use native.Mathlib.Omega.{arith}
use lib.ListN.{length, get_or, set}
use lib.Seq.{take-append_seam, drop-append-add, set_at, set-append_seam}
use Rattle.lists.specs.Put.{put_at}
use Rattle.lists.proofs.Around.{around_line}
use Rattle.runs.specs.Machine.{Out, yields, stops, on_out, Verdict, accepted, refused, Row, holds, all_hold, Span, commands_of, last_of, run, rerun}
use Rattle.runs.specs.Agreement.{FirstAgreement}
use Rattle.runs.specs.Edits.{Ended, edit_to, with_span, LinesAfresh}
use Rattle.runs.proofs.Chains.{chain_length}
use Rattle.runs.proofs.Append.{befores, Accepts, run_reads}
use Rattle.runs.proofs.Rerun.{told}
use Rattle.runs.proofs.Meeting.{Met, rerun_met}
use Rattle.runs.proofs.Edit.{Around, reads_around, last_append, after_append, commands_append, edit_run, edit_unread, splice_put, splice_commands, splice_meets, splice_follows}

pub commands_length : {C S : Type 0} (rs : List (Row C S)) → length (commands_of rs) ≡ length rs
unfolding commands_of
commands_length [] = refl
commands_length (r ∷ rs) = ap suc (commands_length rs)

pub commands_at : {C S : Type 0} (rs : List (Row C S)) (j : ℕ) (z : Row C S) → get_or (commands_of rs) j z.command ≡ (get_or rs j z).command
unfolding commands_of
commands_at [] j z = refl
commands_at (r ∷ rs) zero z = refl
commands_at (r ∷ rs) (suc j) z = commands_at rs j z

module _ {C S R : Type 0} (step : S → C → Out S R) (same : S → S → Bool) (final : S → Bool) (bad_row short : R)
    (same_eq : (a b : S) → same a b ≡ true → a ≡ b) (same_refl : (a : S) → same a a ≡ true) (p : S) where
  abbrev edit : List (Row C S) → ℕ → C → Verdict (Span C S) R
  edit rs k c = edit_to step same final bad_row short p rs k c

  -- ---- the row after others

  module _ (os : List (Row C S)) (r : Row C S) (ys : List (Row C S)) (k : ℕ) (e : k ≡ length os + 1) (c : C) where
    pub edit_here : edit (os ++ (r ∷ ys)) k c
        ≡ rerun step same final bad_row short (last_of p os) (holds (record { command = c; state = r.state }) ∷ all_hold ys) (length os)
    unfolding edit_to last_of
    edit_here =
        let n : k - 1 ≡ length os = omega arith in
        rw (n, e, take-append_seam os (r ∷ ys), after_append p os (r ∷ ys) 1, drop-append-add os (r ∷ ys) 1) refl

    -- the commands with c in line k
    pub here_set : set (commands_of (os ++ (r ∷ ys))) (k - 1) c ≡ commands_of os ++ (c ∷ commands_of ys)
    unfolding commands_of
    here_set =
        ap (λ (cs : List C). set cs (k - 1) c) (commands_append os (r ∷ ys))
        ∙ set_at (commands_of os) r.command (commands_of ys) c (k - 1) (omega (arith, commands_length os))

    module _ (s : Span C S) (h : edit (os ++ (r ∷ ys)) k c ≡ accepted s) where
      pub here_met : Met step final (last_of p os) (record { command = c; state = r.state } ∷ ys) (length os) s
      unfolding all_hold
      here_met =
          rerun_met step same final bad_row short same_eq same_refl (last_of p os) (record { command = c; state = r.state } ∷ ys) (length os) s (sym edit_here ∙ h)

      here_meets : FirstAgreement p (os ++ (r ∷ ys)) (put_at (os ++ (r ∷ ys)) (length os) s.rows) k s.meeting
      here_meets =
          subst₂ (λ (a b : ℕ). FirstAgreement p (os ++ (r ∷ ys)) (put_at (os ++ (r ∷ ys)) (length os) s.rows) a b) (sym e) (sym here_met.counted)
          (splice_meets step final p os r c ys s.rows here_met.redone)

      here_commands : commands_of (put_at (os ++ (r ∷ ys)) (length os) s.rows) ≡ set (commands_of (os ++ (r ∷ ys))) (k - 1) c
      here_commands = splice_commands step final p os r c ys s.rows here_met.redone ∙ sym here_set

      here_table : Ended step final p 0 (os ++ (r ∷ ys)) → Ended step final p 0 (put_at (os ++ (r ∷ ys)) (length os) s.rows)
      here_table t = splice_follows step final p os r c ys s.rows here_met.redone t.follows t.ends

    -- the rows before, and the edit's, as one verdict
    told_span : (v : Verdict (Span C S) R) → edit (os ++ (r ∷ ys)) k c ≡ v
        → befores os (told (record { command = c; state = r.state } ∷ ys) v) ≡ with_span (os ++ (r ∷ ys)) k v
    told_span (refused a i) h = refl
    told_span (accepted s) h =
        let n : length os ≡ k - 1 = omega arith in
        ap accepted (splice_put step final p os r c ys s.rows (here_met s h).redone ∙ ap (λ (j : ℕ). put_at (os ++ (r ∷ ys)) j s.rows) n)

  -- ---- line k

  module _ (rs : List (Row C S)) (k : ℕ) (a : 1 ≤ k) (b : k ≤ length rs) (c : C) (s : Span C S) where
    -- the meeting line by the count of the new rows
    pub line_counted : edit rs k c ≡ accepted s → s.meeting ≡ k - 1 + length s.rows
    line_counted = around_line (λ z j. edit z k c ≡ accepted s → s.meeting ≡ j + length s.rows) rs k a b (λ os r ys e h. (here_met os r ys k e c s h).counted)

    pub line_meets : edit rs k c ≡ accepted s → FirstAgreement p rs (put_at rs (k - 1) s.rows) k s.meeting
    line_meets =
        around_line (λ z j. edit z k c ≡ accepted s → FirstAgreement p z (put_at z j s.rows) k s.meeting) rs k a b
        (λ os r ys e. here_meets os r ys k e c s)

    pub line_commands : edit rs k c ≡ accepted s → commands_of (put_at rs (k - 1) s.rows) ≡ set (commands_of rs) (k - 1) c
    line_commands =
        around_line (λ z j. edit z k c ≡ accepted s → commands_of (put_at z j s.rows) ≡ set (commands_of z) (k - 1) c) rs k a b
        (λ os r ys e. here_commands os r ys k e c s)

    pub line_table : edit rs k c ≡ accepted s → Ended step final p 0 rs → Ended step final p 0 (put_at rs (k - 1) s.rows)
    line_table =
        around_line (λ z j. edit z k c ≡ accepted s → Ended step final p 0 z → Ended step final p 0 (put_at z j s.rows)) rs k a b
        (λ os r ys e. here_table os r ys k e c s)

  -- ---- lines

  module _ {L : Type 0} (read : ℕ → L → Out C R) (l : L) (k : ℕ) where
    -- lines xs, one, and ys, read as rows around line k
    module _ (xs : List L) (o : L) (ys : List L) (e : k ≡ length xs + 1) (rs : List (Row C S)) (g : Accepts read step final p (xs ++ (o ∷ ys)) 0 rs) where
      rows : Around read step p xs o ys 0 rs
      rows = reads_around read step p xs o ys 0 rs g.reads

      ends : final (last_of rows.here.state rows.rest) ≡ true
      unfolding last_of
      ends = rw (rows.parts, last_append p rows.first (rows.here ∷ rows.rest)) at g.ends

      by_rows : k ≡ length rows.first + 1
      by_rows = omega (arith, e, chain_length rows.reads_first)

      around_said : (x : Out C R) → read k l ≡ x
          → run read step final short p (xs ++ (l ∷ ys)) 0 ≡ with_span rs k (on_out x (λ a. refused a k) (λ c. edit rs k c))
      around_said (stops a) w =
          let n : 0 + length xs + 1 ≡ k = omega arith in
          rw n at (edit_unread read step same final short bad_row same_eq p xs ys 0 rows.first rows.rest rows.here.state rows.reads_first rows.reads_rest ends l a (rw n w))
      around_said (yields c) w =
          let n : 0 + length xs + 1 ≡ k = omega arith in
          let m : 0 + length xs ≡ length rows.first = omega (arith, chain_length rows.reads_first) in
          edit_run read step same final short bad_row same_eq p xs ys 0 rows.first rows.rest rows.here.state rows.reads_first rows.reads_rest ends l c (rw n w)
          ∙ ap (λ (j : ℕ). befores rows.first (told (record { command = c; state = rows.here.state } ∷ rows.rest)
          (rerun step same final bad_row short (last_of p rows.first) (holds (record { command = c; state = rows.here.state }) ∷ all_hold rows.rest) j))) m
          ∙ ap (λ (v : Verdict (Span C S) R). befores rows.first (told (record { command = c; state = rows.here.state } ∷ rows.rest) v))
          (sym (edit_here rows.first rows.here rows.rest k by_rows c))
          ∙ told_span rows.first rows.here rows.rest k by_rows c (edit (rows.first ++ (rows.here ∷ rows.rest)) k c) refl
          ∙ ap (λ (z : List (Row C S)). with_span z k (edit z k c)) (sym rows.parts)

    line_afresh : (ls : List L) (rs : List (Row C S)) → run read step final short p ls 0 ≡ accepted rs → 1 ≤ k → k ≤ length ls
        → run read step final short p (set ls (k - 1) l) 0 ≡ with_span rs k (on_out (read k l) (λ a. refused a k) (λ c. edit rs k c))
    line_afresh ls rs h a b =
        around_line (λ z j. Accepts read step final p z 0 rs
        → run read step final short p (set z j l) 0 ≡ with_span rs k (on_out (read k l) (λ a. refused a k) (λ c. edit rs k c))) ls k a b
        (λ xs o ys e g. ap (λ (z : List L). run read step final short p z 0) (set-append_seam xs o ys l) ∙ around_said xs o ys e rs g (read k l) refl)
        (run_reads read step final short p ls 0 rs h)

  -- THE LINES SO EDITED RUN TO WHAT THE EDIT GIVES
  pub lines_afresh : {L : Type 0} (read : ℕ → L → Out C R) → LinesAfresh step same final bad_row short p read
  lines_afresh read = record { edited = λ ls rs h k a b l. line_afresh read l k ls rs h a b }
