-- Tool diameters stand with the tools. In a good table a declared tool has one diameter, that of the one row that declares
-- it, and every hole's tool has one; an accepted edit leaves the diameter of each tool that neither the old nor the new
-- command of the edited line declares; and an edited table answers as the freshly read one.
use Rattle.std.specs.Prelude.{◌≡◌, true, List, ℕ, ◌≤◌, ℤ, length, Some, Ok}
use Rattle.rules.specs.declared.Command.{Command}
use Rattle.rules.specs.declared.Command.TheVariants.{Declare}
use Rattle.rules.specs.declared.Hole.{Hole}
use Rattle.rules.specs.declared.Revision.{Revision}
use Rattle.rules.specs.declared.Counts.{Counts}
use Rattle.rules.specs.Numbers.{max_file}
use Rattle.rules.specs.Rows.{Good}
use Rattle.rules.specs.Reading.{Rows, row_of, read_answer, read_leaves}
use Rattle.rules.specs.Counting.{read_counts}
use Rattle.rules.specs.Editing.{no_line_end, edit_answer, edit_leaves}
use Rattle.rules.specs.Asking.{hole_answer, diameter_answer}
use Rattle.rules.specs.Spelling.{SpellsLine}
use Rattle.demands.specs.EditedFile.{LineOf, edited}

-- line j declares a tool, with diameter d
pub record DeclaredAt (rs : Rows) (tool d j : ℕ) : Type 0 where
  pub from : 1 ≤ j
  pub upto : j ≤ length rs
  pub row : (row_of rs j).command ≡ Declare tool d

-- a command that is no declaration of a tool
abbrev pub LeavesTool : ℕ → Command → Type 0
LeavesTool tool c = (d : ℕ) → c ≡ Declare tool d → ⊥

-- the table t of n rows, which are rs
pub record DiametersOf (t : List ℤ) (n : ℕ) (rs : Rows) : Type 0 where
  -- one row, and its diameter
  pub one_row : (tool c d i j : ℕ) → DeclaredAt rs tool c i → DeclaredAt rs tool d j → (i ≡ j) × (c ≡ d)
  pub its_diameter : (tool d j : ℕ) → DeclaredAt rs tool d j → diameter_answer t n tool ≡ Ok d
  pub its_row : (tool d : ℕ) → diameter_answer t n tool ≡ Ok d → (j : ℕ) × DeclaredAt rs tool d j
  -- every hole's tool has one
  pub of_holes : (k : ℕ) (h : Hole) → hole_answer t n k ≡ Ok (Some h) → (d : ℕ) × (diameter_answer t n h.tool ≡ Ok d)
  -- line k gets the text l: each tool that neither its old nor its new command declares
  pub after_edit : (rev : Revision) (k : ℕ) (l : List ℕ) (counts : Counts) (m tool : ℕ) → edit_answer rev t n k l counts ≡ Ok m
      → LeavesTool tool (row_of rs k).command → ((c : Command) → SpellsLine rev l c → LeavesTool tool c)
      → diameter_answer (edit_leaves rev t n k l counts) n tool ≡ diameter_answer t n tool

-- line k of a file read into t gets the text l: each answer, of each line and each tool, is that of the edited file read afresh
pub record AnswersAfresh (rev : Revision) (bs : List ℕ) (t : List ℤ) (n k : ℕ) (w : LineOf bs k) (l : List ℕ) : Type 0 where
  pub diameter : (tool : ℕ)
      → diameter_answer (edit_leaves rev (read_leaves rev bs t) n k l (read_counts rev bs t)) n tool
      ≡ diameter_answer (read_leaves rev (edited w l) (read_leaves rev bs t)) n tool
  pub hole : (j : ℕ)
      → hole_answer (edit_leaves rev (read_leaves rev bs t) n k l (read_counts rev bs t)) n j
      ≡ hole_answer (read_leaves rev (edited w l) (read_leaves rev bs t)) n j

pub record DiametersStand : Type 0 where
  pub good : (t : List ℤ) (n : ℕ) (rs : Rows) → Good t n rs → DiametersOf t n rs
  pub afresh : (rev : Revision) (bs : List ℕ) (t : List ℤ) (n : ℕ) → read_answer rev bs t ≡ Ok n → (k : ℕ) (w : LineOf bs k) (l : List ℕ)
      → no_line_end l ≡ true → length (edited w l) ≤ max_file → AnswersAfresh rev bs t n k w l
