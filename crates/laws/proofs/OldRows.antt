-- The rows in whose place an accepted edit's rows come are whole: the edited line's was tested, and those after it were rerun.
use mathlib.Core.Path.{◌≡◌, refl, ◌∙◌}
use mathlib.Core.List.{List, ◌∷◌}
use Prim.Native.Nat.{ℕ, zero, suc, ◌-◌, ◌≤◌}
use native.Mathlib.Omega.{arith}
use lib.IntN.{ℤ}
use lib.ListN.{length, take, drop}
use lib.Seq.{drop-cons}
use Rattle.std.specs.Prelude.{Option, Some, None}
use Rattle.lists.proofs.Choice.{cond_all}
use Rattle.runs.specs.Machine.{Verdict, accepted, refused, on_out, Row, Entry, holds, bad, all_hold, Span}
use Rattle.runs.proofs.Ways.{out_all}
use Rattle.runs.proofs.Whole.{AllWhole, whole_all, rerun_whole}
use Rattle.rules.specs.declared.Command.{Command}
use Rattle.rules.specs.declared.State.{State}
use Rattle.rules.specs.declared.Refusal.{Refusal}
use Rattle.rules.specs.declared.Revision.{Revision}
use Rattle.rules.specs.Refusals.{bad_table, ends_too_soon, no_such_line, holds_line_end}
use Rattle.rules.specs.Commands.{line_of}
use Rattle.rules.specs.State.{taken, has_ended, same_state}
use Rattle.rules.specs.Rows.{entries_of, sizes_fit}
use Rattle.rules.specs.Reading.{say_out}
use Rattle.rules.specs.Editing.{is_line, no_line_end, entry_at, state_in, before_line, on_before, edit_from, edit_rows, edit_of, old_rows}
use Rattle.laws.proofs.Sizes.{line_says}
use Rattle.laws.proofs.Entries.{entries_length}
use Rattle.laws.proofs.Ways.{before_all}

state_whole : (e : Entry Command State) (o : State) (es : List (Entry Command State)) → state_in e ≡ Some o → AllWhole es → AllWhole (e ∷ es)
state_whole (holds r) o es h w = w
state_whole bad o es h w = absurd (let z : ◌≡◌ {A = ℕ} 0 1 = cc in omega arith)

module _ (rev : Revision) (t : List ℤ) (n k : ℕ) (l : List ℕ) where
  Stood : Verdict (Span Command State) Refusal → Type 0
  Stood v = (s : Span Command State) → v ≡ accepted s → AllWhole (take (length s.rows) (drop (k - 1) (entries_of n t)))

  none_stood : (e : Refusal) (i : ℕ) → Stood (refused e i)
  unfolding Stood
  none_stood e i s h = absurd (let z : ◌≡◌ {A = ℕ} 0 1 = cc in omega arith)

  module _ (a : 1 ≤ k) (b : k ≤ n) where
    first : drop (k - 1) (entries_of n t) ≡ entry_at (entries_of n t) k ∷ drop k (entries_of n t)
    first =
        let z : suc (k - 1) ≡ k = omega arith in
        drop-cons (entries_of n t) (k - 1) bad (omega (arith, entries_length n t)) ∙ rw z

    -- j rows, of which the first is the edited line's
    again : (o : State) → state_in (entry_at (entries_of n t) k) ≡ Some o → (r : Row Command State) (j : ℕ) → AllWhole (take j (holds r ∷ drop k (entries_of n t)))
        → AllWhole (take j (drop (k - 1) (entries_of n t)))
    again o e r zero h = tt
    again o e r (suc j) h = rw first (state_whole (entry_at (entries_of n t) k) o (take j (drop k (entries_of n t))) e h)

    rerun_stood : (p o : State) → state_in (entry_at (entries_of n t) k) ≡ Some o → (c : Command) → Stood (edit_from (entries_of n t) k p o c)
    unfolding Stood edit_from
    rerun_stood p o e c s h =
        again o e (record { command = c; state = o }) (length s.rows)
        (rerun_whole taken same_state has_ended bad_table ends_too_soon p (holds (record { command = c; state = o }) ∷ drop k (entries_of n t)) (k - 1) s h)

    old_stood : (p : State) (x : Option State) → state_in (entry_at (entries_of n t) k) ≡ x
        → Stood (on_before x (refused bad_table k) (λ o. on_out (say_out (line_of rev l)) (λ e. refused e k) (λ c. edit_from (entries_of n t) k p o c)))
    old_stood p (Some o) e = out_all Stood (say_out (line_of rev l)) (λ a _. none_stood a k) (λ c _. rerun_stood p o e c)
    old_stood p None e = none_stood bad_table k

    rows_stood : Stood (edit_rows rev (entries_of n t) k l)
    unfolding edit_rows
    rows_stood =
        before_all Stood (before_line k (entry_at (entries_of n t) (k - 1))) (none_stood bad_table (k - 1))
        (λ p. old_stood p (state_in (entry_at (entries_of n t) k)) refl)

  all_stood : Stood (edit_of rev t n k l)
  unfolding edit_of
  all_stood =
      cond_all Stood (sizes_fit t n)
      (λ _. cond_all Stood (is_line n k)
      (λ q. cond_all Stood (no_line_end l) (λ _. let p = line_says n k q in rows_stood p.0 p.1) (λ _. none_stood holds_line_end 0)) (λ _. none_stood no_such_line 0))
      (λ _. none_stood bad_table 0)

  pub edit_stood : (s : Span Command State) → edit_of rev t n k l ≡ accepted s
      → take (length s.rows) (drop (k - 1) (entries_of n t)) ≡ all_hold (old_rows (entries_of n t) k s)
  unfolding old_rows Stood
  edit_stood s h = whole_all (take (length s.rows) (drop (k - 1) (entries_of n t))) (all_stood s h)
