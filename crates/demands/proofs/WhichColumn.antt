-- Each refusal of a line is the one that is answered.
use mathlib.Core.Path.{◌≡◌, refl, sym, ◌∙◌}
use mathlib.Core.List.{List}
use Prim.Native.Nat.{ℕ}
use Rattle.runs.specs.Machine.{Out, stops}
use Rattle.rules.specs.declared.Command.{Command}
use Rattle.rules.specs.declared.Refusal.{Refusal}
use Rattle.rules.specs.declared.Revision.{Revision}
use Rattle.obeys.specs.Faults.{LineRefused}
use Rattle.obeys.proofs.Lines.{line_says}
use Rattle.demands.specs.WhichColumn.{ColumnLines, WhichColumn}
use Rattle.demands.proofs.BenchFile.{computing}

one_refusal : (rev : Revision) (l : List ℕ) (e f : Refusal) → LineRefused rev l e → LineRefused rev l f → e ≡ f
one_refusal rev l e f v w =
    let d : ◌≡◌ {A = Out Command Refusal} (stops e) (stops f) = sym ((line_says rev l (stops e)).1 v) ∙ (line_says rev l (stops f)).1 w in
    cc

column_lines : ColumnLines
unfolding computing
column_lines = record {
  own = refl;
  own_edit = refl;
  first = refl;
  third = refl;
  sign = refl;
  seven_decimals = refl;
  tool = refl;
  declared_tool = refl;
  diameter = refl;
  tab = refl;
  inner_cr = refl;
  formless = refl;
}

pub which_column : WhichColumn
which_column = record { refused = λ rev l e. line_says rev l (stops e); one_refusal = one_refusal; lines = column_lines }
