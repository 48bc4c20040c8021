-- One line of an accepted run gets another text: the run of the lines so edited is the rows before that line, those of a
-- rerun from it, and the old rows after its meeting line; and that line is the first agreement of old and new states.
use mathlib.Core.Path.{◌≡◌, refl, sym, ap, ap₂, ◌∙◌, subst}
use mathlib.Core.Bool.{Bool, true}
use mathlib.Core.List.{List, [], ◌∷◌, ◌++◌, append_assoc}
use Prim.Native.Nat.{ℕ, zero, suc, ◌+◌, ◌-◌, ◌<◌, ◌≤◌}
use native.Mathlib.Omega.{arith}
use native.Mathlib.Nat.{add-zero}
use lib.ListN.{length, take, drop, length-append, take-append-drop}
use lib.Seq.{take-append-le, take-append-add, take-append_seam, drop-append-add, take_all, length-take-le}
use Rattle.lists.specs.Put.{put_at}
use Rattle.runs.specs.Machine.{Out, yields, stops, refused, Row, holds, all_hold, commands_of, last_of, run, rerun, nil, link, Follows, StepBy}
use Rattle.runs.specs.Agreement.{state_after, FirstAgreement}
use Rattle.runs.specs.Edits.{Ended}
use Rattle.runs.proofs.Chains.{chain_append, follows_tail, follows_first, follows_rest}
use Rattle.runs.proofs.Append.{befores, Reads, run_append}
use Rattle.runs.proofs.Rerun.{told, rerun_line, run_unread}
use Rattle.runs.proofs.Meeting.{Redone, redone_upto, redone_some, redone_commands, redone_differ, redone_agrees, redone_follows}

-- ---- rows around one line

-- the rows of lines xs, l and ys: those before, the one of l, and those after
pub record Around {L C S R : Type 0} (read : ℕ → L → Out C R) (step : S → C → Out S R) (p : S) (xs : List L) (l : L) (ys : List L) (i : ℕ) (rs : List (Row C S)) : Type 0 where
  pub first : List (Row C S)
  pub here : Row C S
  pub rest : List (Row C S)
  pub parts : rs ≡ first ++ (here ∷ rest)
  pub reads_first : Reads read step p xs i first
  pub reads_here : read (i + length xs + 1) l ≡ yields here.command
  pub steps_here : step (last_of p first) here.command ≡ yields here.state
  pub reads_rest : Reads read step here.state ys (i + length xs + 1) rest

module _ {L C S R : Type 0} (read : ℕ → L → Out C R) (step : S → C → Out S R) where
  pub reads_around : (p : S) (xs : List L) (l : L) (ys : List L) (i : ℕ) (rs : List (Row C S)) → Reads read step p (xs ++ (l ∷ ys)) i rs
      → Around read step p xs l ys i rs
  unfolding last_of
  reads_around p [] l ys i rs (link {r = r} {rs = ss} e f h) = record {
    first = [];
    here = r;
    rest = ss;
    parts = refl;
    reads_first = nil;
    reads_here = rw (add-zero i) e;
    steps_here = f;
    reads_rest = rw (add-zero i) h;
  }
  reads_around p (x ∷ xs) l ys i rs (link {r = r} {rs = ss} e f h) =
      let a = reads_around r.state xs l ys (i + 1) ss h in
      let n : i + 1 + length xs ≡ i + suc (length xs) = omega arith in
      record {
        first = r ∷ a.first;
        here = a.here;
        rest = a.rest;
        parts = ap (λ (z : List (Row C S)). r ∷ z) a.parts;
        reads_first = link e f a.reads_first;
        reads_here = rw n at a.reads_here;
        steps_here = a.steps_here;
        reads_rest = rw n at a.reads_rest;
      }

-- ---- states and commands of rows and then others

module _ {C S : Type 0} where
  pub last_append : (p : S) (xs ys : List (Row C S)) → last_of p (xs ++ ys) ≡ last_of (last_of p xs) ys
  unfolding last_of
  last_append p [] ys = refl
  last_append p (x ∷ xs) ys = last_append x.state xs ys

  pub after_append : (p : S) (xs ys : List (Row C S)) (j : ℕ) → state_after p (xs ++ ys) (length xs + j) ≡ state_after (last_of p xs) ys j
  after_append p xs ys j = rw (take-append-add xs ys j) (last_append p xs (take j ys))

  -- the state after line m and then j more
  pub after_add : (p : S) (rs : List (Row C S)) (m j : ℕ) → m ≤ length rs → state_after p rs (m + j) ≡ state_after (state_after p rs m) (drop m rs) j
  after_add p rs m j h =
      let n : length (take m rs) ≡ m = length-take-le m rs h in
      ap₂ (λ (z : List (Row C S)) (i : ℕ). state_after p z (i + j)) (sym (take-append-drop m rs)) (sym n) ∙ after_append p (take m rs) (drop m rs) j

  pub commands_append : (xs ys : List (Row C S)) → commands_of (xs ++ ys) ≡ commands_of xs ++ commands_of ys
  unfolding commands_of
  commands_append [] ys = refl
  commands_append (x ∷ xs) ys = ap (λ (cs : List C). x.command ∷ cs) (commands_append xs ys)

  -- rows from the second on do not ask what the first one's command is
  after_command : (p : S) (r : Row C S) (c : C) (rs : List (Row C S)) (j : ℕ) → state_after p (record { command = c; state = r.state } ∷ rs) (suc j) ≡ state_after p (r ∷ rs) (suc j)
  unfolding last_of
  after_command p r c rs j = refl

  drop_command : (r q : Row C S) (rs : List (Row C S)) (n : ℕ) → 0 < n → drop n (r ∷ rs) ≡ drop n (q ∷ rs)
  drop_command r q rs zero h = absurd (omega arith)
  drop_command r q rs (suc n) h = refl

-- ---- the edited run

module _ {L C S R : Type 0} (read : ℕ → L → Out C R) (step : S → C → Out S R) (same : S → S → Bool) (final : S → Bool) (short bad_row : R)
    (same_eq : (a b : S) → same a b ≡ true → a ≡ b)
    (p : S) (xs : List L) (ys : List L) (i : ℕ) (os bs : List (Row C S)) (o : S)
    (g : Reads read step p xs i os) (h : Reads read step o ys (i + length xs + 1) bs) (d : final (last_of o bs) ≡ true) (l : L) where
  pub edit_run : (c : C) → read (i + length xs + 1) l ≡ yields c
      → run read step final short p (xs ++ (l ∷ ys)) i
      ≡ befores os (told (record { command = c; state = o } ∷ bs) (rerun step same final bad_row short (last_of p os) (holds (record { command = c; state = o }) ∷ all_hold bs) (i + length xs)))
  edit_run c e =
      run_append read step final short g (l ∷ ys)
      ∙ ap (befores os) (rerun_line read step same final short bad_row same_eq l ys (record { command = c; state = o }) bs (i + length xs) e h d (last_of p os))

  pub edit_unread : (e : R) → read (i + length xs + 1) l ≡ stops e → run read step final short p (xs ++ (l ∷ ys)) i ≡ refused e (i + length xs + 1)
  edit_unread e w =
      run_append read step final short g (l ∷ ys)
      ∙ ap (befores os) (run_unread read step same final short bad_row same_eq l ys (i + length xs) e w (last_of p os))

-- ---- the rows of the edited run

-- rows os, r, bs, of which r gets the command c, and the rows ns that a rerun from there makes
module _ {C S R : Type 0} (step : S → C → Out S R) (final : S → Bool) (p : S) (os : List (Row C S)) (r : Row C S) (c : C) (bs ns : List (Row C S))
    (h : Redone step final (last_of p os) (record { command = c; state = r.state } ∷ bs) ns) where
  redone_any : 0 < length ns
  redone_any = redone_some step final h (omega arith)

  -- they stand in the place of as many old ones
  pub splice_put : os ++ (ns ++ drop (length ns) (record { command = c; state = r.state } ∷ bs)) ≡ put_at (os ++ (r ∷ bs)) (length os) ns
  splice_put =
      rw (take-append_seam os (r ∷ bs), drop-append-add os (r ∷ bs) (length ns), drop_command r (record { command = c; state = r.state }) bs (length ns) redone_any)
      (sym (append_assoc os ns (drop (length ns) (record { command = c; state = r.state } ∷ bs))))

  -- their commands are the old ones, but for the first
  pub splice_commands : commands_of (put_at (os ++ (r ∷ bs)) (length os) ns) ≡ commands_of os ++ (c ∷ commands_of bs)
  unfolding commands_of
  splice_commands =
      let old : List (Row C S) = record { command = c; state = r.state } ∷ bs in
      ap commands_of (sym splice_put) ∙ commands_append os (ns ++ drop (length ns) old)
      ∙ ap (λ (cs : List C). commands_of os ++ cs)
      (commands_append ns (drop (length ns) old) ∙ ap (λ (cs : List C). cs ++ commands_of (drop (length ns) old)) (redone_commands step final h)
      ∙ sym (commands_append (take (length ns) old) (drop (length ns) old)) ∙ ap commands_of (take-append-drop (length ns) old))

  splice_after : (j : ℕ) → j ≤ length ns → state_after p (put_at (os ++ (r ∷ bs)) (length os) ns) (length os + j) ≡ state_after (last_of p os) ns j
  splice_after j b =
      ap (λ (z : List (Row C S)). state_after p z (length os + j)) (sym splice_put)
      ∙ after_append p os (ns ++ drop (length ns) (record { command = c; state = r.state } ∷ bs)) j
      ∙ ap (last_of (last_of p os)) (take-append-le j ns (drop (length ns) (record { command = c; state = r.state } ∷ bs)) b)

  splice_differ : (j : ℕ) → suc j < length ns
      → state_after p (os ++ (r ∷ bs)) (length os + suc j) ≡ state_after p (put_at (os ++ (r ∷ bs)) (length os) ns) (length os + suc j) → ⊥
  splice_differ j b e =
      redone_differ step final h (last_of p os) j b
      (after_command (last_of p os) r c bs j ∙ sym (after_append p os (r ∷ bs) (suc j)) ∙ e ∙ splice_after (suc j) (omega arith))

  splice_agrees : (m : ℕ) → m ≡ length ns → m < suc (length bs)
      → state_after p (os ++ (r ∷ bs)) (length os + m) ≡ state_after p (put_at (os ++ (r ∷ bs)) (length os) ns) (length os + m)
  splice_agrees zero e b = absurd (omega (arith, redone_any))
  splice_agrees (suc m) e b =
      after_append p os (r ∷ bs) (suc m) ∙ sym (after_command (last_of p os) r c bs m)
      ∙ ap (state_after (last_of p os) (record { command = c; state = r.state } ∷ bs)) e
      ∙ redone_agrees step final h (last_of p os) (omega arith)
      ∙ ap (last_of (last_of p os)) (sym (take_all (suc m) ns (omega arith))) ∙ sym (splice_after (suc m) (omega arith))

  -- they end at the first agreement of old and new states
  pub splice_meets : FirstAgreement p (os ++ (r ∷ bs)) (put_at (os ++ (r ∷ bs)) (length os) ns) (length os + 1) (length os + length ns)
  splice_meets = record {
    from = omega (arith, redone_any);
    upto = omega (arith, redone_upto step final h, length-append os (r ∷ bs));
    differ = λ j a b e.
        let n : length os + suc (j - (length os + 1)) ≡ j = omega arith in
        splice_differ (j - (length os + 1)) (omega arith) (rw n e);
    agrees = λ b. splice_agrees (length ns) refl (omega (arith, length-append os (r ∷ bs)));
  }

  -- and with the old ones around them they make a table
  pub splice_follows : Follows (StepBy step) p 0 (os ++ (r ∷ bs)) → final (last_of p (os ++ (r ∷ bs))) ≡ true
      → Ended step final p 0 (put_at (os ++ (r ∷ bs)) (length os) ns)
  unfolding last_of
  splice_follows g d =
      let f = follows_rest os (r ∷ bs) g in
      let a = redone_follows step final (0 + length os) h (follows_tail f) (rw (last_append p os (r ∷ bs)) at d) in
      let new : List (Row C S) = ns ++ drop (length ns) (record { command = c; state = r.state } ∷ bs) in
      subst (Ended step final p 0) splice_put (record {
        follows = chain_append (follows_first os (r ∷ bs) g) a.follows;
        ends = rw (last_append p os new) a.ends;
      })
