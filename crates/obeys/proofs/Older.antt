-- One revision's forms by another, and what any revision takes, 2019 takes as the same.
use mathlib.Core.Path.{◌≡◌, refl}
use mathlib.Core.List.{List, ◌++◌}
use Prim.Native.Nat.{ℕ, ◌≤◌}
use native.Mathlib.Omega.{arith}
use Rattle.lists.specs.Words.{bytes}
use Rattle.rules.specs.declared.Command.{Command}
use Rattle.rules.specs.declared.Revision.{Revision}
use Rattle.rules.specs.declared.Revision.TheVariants.{Rev2019}
use Rattle.rules.specs.Numbers.{Decimal}
use Rattle.rules.specs.Commands.{fewest_declared, Form}
use Rattle.rules.specs.Spelling.{SpellsDeclared, Spells, comment_is, m48_is, metric_is, inch_is, declare_is, percent_is, g05_is, g00_is, select_is, hit_is, m15_is, m16_is, g01_is, g02_is, g03_is, m30_is, SpellsLine, SpellsFile, empty, line}
use Rattle.rules.specs.Reading.{Rows}
use Rattle.rules.specs.Obeys.{ReadingOf}
use Rattle.rules.proofs.Revisions.{fewer_declared}

-- a form by another revision, where that takes as many digits in a declaration
pub by_other : {v w : Revision} {l : List ℕ} {f : Form} → Spells v l f
    → ((b : List ℕ) (k t : ℕ) (d : Decimal) → l ≡ bytes "T" ++ b → SpellsDeclared b k t d → fewest_declared v ≤ k → fewest_declared w ≤ k)
    → Spells w l f
by_other (comment_is s) h = comment_is s
by_other m48_is h = m48_is
by_other metric_is h = metric_is
by_other inch_is h = inch_is
by_other (declare_is {b = b} {k = k} {t = t} {d = d} s p q) h = declare_is s (h b k t d refl s p) q
by_other percent_is h = percent_is
by_other g05_is h = g05_is
by_other (g00_is s) h = g00_is s
by_other (select_is s p q) h = select_is s p q
by_other (hit_is s) h = hit_is s
by_other m15_is h = m15_is
by_other m16_is h = m16_is
by_other (g01_is s) h = g01_is s
by_other (g02_is s) h = g02_is s
by_other (g03_is s) h = g03_is s
by_other m30_is h = m30_is

-- what any revision takes, 2019 takes
module _ {rev : Revision} where
  pub older_form : {l : List ℕ} {f : Form} → Spells rev l f → Spells Rev2019 l f
  older_form w = by_other w (λ b k t d e s p. omega (arith, fewer_declared rev))

  pub older_line : {l : List ℕ} {c : Command} → SpellsLine rev l c → SpellsLine Rev2019 l c
  older_line w = record {
    short = w.short;
    printable = w.printable;
    command = record { form = w.command.form; spelt = older_form w.command.spelt; means = w.command.means };
  }

  older_file : {bs : List ℕ} {cs : List Command} → SpellsFile rev bs cs → SpellsFile Rev2019 bs cs
  older_file empty = empty
  older_file (line w e f) = line (older_line w) e (older_file f)

  pub older_reading : {bs : List ℕ} {rs : Rows} → ReadingOf rev bs rs → ReadingOf Rev2019 bs rs
  older_reading w = record { file_size = w.file_size; line_count = w.line_count; spelling = older_file w.spelling; follows = w.follows; ends = w.ends }
