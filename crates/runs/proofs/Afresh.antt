-- An edit is a fresh run. The commands of a table's rows, read as lines, run to those rows; with another command in line k they run
-- to what the edit gives. So an edit is put back by an edit: the commands are the old ones again, and so is the table.
use mathlib.Core.Path.{◌≡◌, refl, sym, ap, ◌∙◌, subst, subst₂}
use mathlib.Core.Bool.{Bool, true}
use mathlib.Core.List.{List, [], ◌∷◌}
use Prim.Native.Nat.{ℕ, ◌-◌, ◌≤◌}
use native.Mathlib.Omega.{arith}
use lib.ListN.{length, get_or, set, length-set}
use lib.Seq.{set-set, set-get_or}
use Rattle.lists.specs.Put.{put_at}
use Rattle.lists.specs.Exactly.{Exactly}
use Rattle.runs.specs.Machine.{Out, yields, Verdict, accepted, refused, Row, Span, commands_of, run, nil, link, Follows, StepBy}
use Rattle.runs.specs.Agreement.{FirstAgreement}
use Rattle.runs.specs.Edits.{Ended, edit_to, with_span, Edited, Afresh, EditsAreRuns}
use Rattle.runs.proofs.Append.{Reads, reads_run}
use Rattle.runs.proofs.Agree.{reads_same}
use Rattle.runs.proofs.Meeting.{one_meeting}
use Rattle.runs.proofs.Given.{commands_length, commands_at, line_meets, line_commands, line_table, lines_afresh}

-- ---- commands as lines

-- a command is a line that reads as itself
as_itself : {C R : Type 0} → ℕ → C → Out C R
as_itself i c = yields c

module _ {C S R : Type 0} (step : S → C → Out S R) where
  follows_reads : {p : S} {i : ℕ} {rs : List (Row C S)} → Follows (StepBy step) p i rs → Reads as_itself step p (commands_of rs) i rs
  unfolding commands_of as_itself
  follows_reads {rs = []} g = nil
  follows_reads {rs = r ∷ rs} (link e f h) = link refl f (follows_reads h)

  -- rows that follow are told by their commands
  pub commands_tell : {p : S} {i : ℕ} (rs ss : List (Row C S)) → Follows (StepBy step) p i rs → Follows (StepBy step) p i ss
      → commands_of rs ≡ commands_of ss → rs ≡ ss
  commands_tell {p} {i} rs ss g h e =
      reads_same as_itself step (follows_reads g) (subst (λ (cs : List C). Reads as_itself step p cs i ss) (sym e) (follows_reads h))

-- ---- a fresh run is accepted

module _ {C S R : Type 0} (step : S → C → Out S R) (same : S → S → Bool) (final : S → Bool) (bad_row short : R)
    (same_eq : (a b : S) → same a b ≡ true → a ≡ b) (same_refl : (a : S) → same a a ≡ true) (p : S) where
  -- of this machine
  abbrev Table : List (Row C S) → Type 0
  Table rs = Ended step final p 0 rs

  abbrev edit : List (Row C S) → ℕ → C → Verdict (Span C S) R
  edit rs k c = edit_to step same final bad_row short p rs k c

  abbrev Edit : List (Row C S) → ℕ → C → ℕ → List (Row C S) → Type 0
  Edit old k c m new = Edited step same final bad_row short p old k c m new

  abbrev Fresh : List (Row C S) → ℕ → C → List (Row C S) → Type 0
  Fresh old k c new = Afresh step same final bad_row short p old k c new

  -- a verdict that gives the rows new
  gives_new : (rs : List (Row C S)) (k : ℕ) (v : Verdict (Span C S) R) (new : List (Row C S)) → with_span rs k v ≡ accepted new
      → (s : Span C S) × (v ≡ accepted s) × (put_at rs (k - 1) s.rows ≡ new)
  gives_new rs k (accepted s) new h = (s, refl, cc)
  gives_new rs k (refused a i) new h = absurd (let z : ◌≡◌ {A = ℕ} 0 1 = cc in omega arith)

  -- the commands of a table run to its rows
  table_run : (rs : List (Row C S)) → Table rs → run as_itself step final short p (commands_of rs) 0 ≡ accepted rs
  table_run rs t = reads_run as_itself step final short (follows_reads step t.follows) t.ends

  -- ---- an edit of line k, and of what is accepted

  module _ {old : List (Row C S)} {k : ℕ} {c : C} {m : ℕ} {new : List (Row C S)} (w : Edit old k c m new) where
    pub edited_meets : FirstAgreement p old new k m
    edited_meets =
        subst₂ (λ (z : List (Row C S)) (i : ℕ). FirstAgreement p old z k i) w.rows w.meets
        (line_meets step same final bad_row short same_eq same_refl p old k w.from w.upto c w.span w.verdict)

    pub edited_afresh : Fresh old k c new
    edited_afresh =
        subst (Fresh old k c) w.rows (record {
          commands = line_commands step same final bad_row short same_eq same_refl p old k w.from w.upto c w.span w.verdict;
          table = line_table step same final bad_row short same_eq same_refl p old k w.from w.upto c w.span w.verdict w.table;
        })

    pub edited_length : length new ≡ length old
    edited_length =
        sym (commands_length new) ∙ ap length edited_afresh.commands ∙ length-set (commands_of old) (k - 1) c ∙ commands_length old

  module _ (old : List (Row C S)) (k : ℕ) (c : C) (new : List (Row C S)) (t : Table old) (a : 1 ≤ k) (b : k ≤ length old) where
    pub afresh_edited : Fresh old k c new → (m : ℕ) × Edit old k c m new
    unfolding as_itself
    afresh_edited f =
        let run_new = table_run new f.table in
        let run_set = (lines_afresh step same final bad_row short same_eq same_refl p as_itself).edited (commands_of old) old (table_run old t) k a (omega (arith, commands_length old)) c in
        let g = gives_new old k (edit old k c) new (sym run_set ∙ ap (λ (cs : List C). run as_itself step final short p cs 0) (sym f.commands) ∙ run_new) in
        (g.0.meeting, record { table = t; from = a; upto = b; span = g.0; verdict = g.1; meets = refl; rows = g.2 })

    edits_exactly : Exactly ((m : ℕ) × Edit old k c m new) (Fresh old k c new)
    edits_exactly = (λ w. edited_afresh w.1, afresh_edited)

  -- ---- put back

  -- old and new change places
  agreement_back : {old new : List (Row C S)} {k m : ℕ} → length new ≡ length old → FirstAgreement p old new k m → FirstAgreement p new old k m
  agreement_back n f = record {
    from = f.from;
    upto = omega (arith, n, f.upto);
    differ = λ j a b e. f.differ j a b (sym e);
    agrees = λ h. sym (f.agrees (omega (arith, n)));
  }

  pub edited_back : {old : List (Row C S)} {k : ℕ} {c : C} {m : ℕ} {new : List (Row C S)} → Edit old k c m new
      → (z : Row C S) → Edit new k (get_or old (k - 1) z).command m old
  edited_back {old} {k} {c} {m} {new} w z =
      let f = edited_afresh w in
      let o : C = (get_or old (k - 1) z).command in
      let back : commands_of old ≡ set (commands_of new) (k - 1) o
      = sym (ap (λ (cs : List C). set cs (k - 1) o) f.commands ∙ set-set (commands_of old) (k - 1) c o
      ∙ ap (set (commands_of old) (k - 1)) (sym (commands_at old (k - 1) z)) ∙ set-get_or (commands_of old) (k - 1) z.command) in
      let g = afresh_edited new k o old f.table w.from (omega (arith, w.upto, edited_length w)) (record { commands = back; table = w.table }) in
      subst (λ (i : ℕ). Edit new k o i old)
      (one_meeting (edited_meets g.1) (agreement_back (edited_length w) (edited_meets w))) g.1

  afresh_one : {old : List (Row C S)} {k : ℕ} {c : C} {new other : List (Row C S)} → Fresh old k c new
      → Fresh old k c other → new ≡ other
  afresh_one {new = new} {other} f g = commands_tell step new other f.table.follows g.table.follows (f.commands ∙ sym g.commands)

  -- AN EDIT IS A FRESH RUN, AND CAN BE PUT BACK
  pub edits_are_runs : EditsAreRuns step same final bad_row short p
  edits_are_runs = record { exactly = edits_exactly; meeting = edited_meets; one_table = afresh_one; undo = edited_back }
