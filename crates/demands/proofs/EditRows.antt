-- An edit of rows that stand whole is an edit of rows of this machine: line k gets the command that the text reads as. So what is said of
-- any machine's edits is so of it: its meeting line is the first agreement of old and new states, and where the rows make a table, so do the
-- new ones among them.
use mathlib.Core.Path.{◌≡◌, refl, sym, ◌∙◌}
use mathlib.Core.Bool.{true}
use mathlib.Core.List.{List}
use Prim.Native.Nat.{ℕ, ◌+◌, ◌-◌, ◌≤◌}
use native.Mathlib.Omega.{arith}
use lib.ListN.{length, set}
use Rattle.lists.specs.Put.{put_at}
use Rattle.runs.specs.Machine.{Out, yields, stops, on_out, Verdict, accepted, refused, all_hold, Span, commands_of, last_of, Follows, StepBy}
use Rattle.runs.specs.Agreement.{FirstAgreement}
use Rattle.runs.specs.Edits.{Ended, edit_to}
use Rattle.runs.proofs.Hold.{hold_drop}
use Rattle.runs.proofs.Given.{line_counted, line_meets, line_commands, line_table}
use Rattle.rules.specs.declared.Command.{Command}
use Rattle.rules.specs.declared.State.{State}
use Rattle.rules.specs.declared.Refusal.{Refusal}
use Rattle.rules.specs.declared.Revision.{Revision}
use Rattle.rules.specs.Refusals.{bad_table, ends_too_soon}
use Rattle.rules.specs.Commands.{line_of}
use Rattle.rules.specs.State.{start, taken, has_ended, same_state}
use Rattle.rules.specs.Reading.{say_out, Rows}
use Rattle.rules.specs.Editing.{edit_from, edit_rows}
use Rattle.rules.proofs.Same.{same_state_iff}
use Rattle.answers.proofs.Places.{before_line_lem, state_line}

-- states are compared exactly
pub same_eq : (a b : State) → same_state a b ≡ true → a ≡ b
same_eq a b = (same_state_iff a b).0

pub same_refl : (a : State) → same_state a a ≡ true
same_refl a = (same_state_iff a a).1 refl

module _ (rev : Revision) (rs : Rows) (k : ℕ) (a : 1 ≤ k) (b : k ≤ length rs) (l : List ℕ) where
  -- line k given the command c
  abbrev pub given : Command → Verdict (Span Command State) Refusal
  given c = edit_to taken same_state has_ended bad_table ends_too_soon start rs k c

  pub edit_rows_lem : edit_rows rev (all_hold rs) k l ≡ on_out (say_out (line_of rev l)) (λ e. refused e k) given
  unfolding edit_rows edit_from edit_to
  edit_rows_lem = rw (before_line_lem rs k a b, state_line rs k a b, hold_drop k rs)

  module _ (s : Span Command State) where
    -- the command of an accepted edit
    pub record Given : Type 0 where
      pub command : Command
      pub said : say_out (line_of rev l) ≡ yields command
      pub verdict : given command ≡ accepted s

    said_given : (x : Out Command Refusal) → say_out (line_of rev l) ≡ x → on_out x (λ e. refused e k) given ≡ accepted s → Given
    said_given (yields c) w h = record { command = c; said = w; verdict = h }
    said_given (stops e) w h = absurd (let z : ◌≡◌ {A = ℕ} 0 1 = cc in omega arith)

    pub edit_given : edit_rows rev (all_hold rs) k l ≡ accepted s → Given
    edit_given h = said_given (say_out (line_of rev l)) refl (sym edit_rows_lem ∙ h)

    module _ (h : edit_rows rev (all_hold rs) k l ≡ accepted s) where
      pub edit_counted_lem : s.meeting ≡ k - 1 + length s.rows
      edit_counted_lem = line_counted taken same_state has_ended bad_table ends_too_soon same_eq same_refl start rs k a b (edit_given h).command s (edit_given h).verdict

      pub edit_agreement : FirstAgreement start rs (put_at rs (k - 1) s.rows) k s.meeting
      edit_agreement = line_meets taken same_state has_ended bad_table ends_too_soon same_eq same_refl start rs k a b (edit_given h).command s (edit_given h).verdict

      pub edit_commands : commands_of (put_at rs (k - 1) s.rows) ≡ set (commands_of rs) (k - 1) (edit_given h).command
      edit_commands = line_commands taken same_state has_ended bad_table ends_too_soon same_eq same_refl start rs k a b (edit_given h).command s (edit_given h).verdict

      pub edit_table : Follows (StepBy taken) start 0 rs → has_ended (last_of start rs) ≡ true → Ended taken has_ended start 0 (put_at rs (k - 1) s.rows)
      edit_table f e =
          line_table taken same_state has_ended bad_table ends_too_soon same_eq same_refl start rs k a b (edit_given h).command s (edit_given h).verdict (record { follows = f; ends = e })
