-- The first bytes tell which forms are left.
use mathlib.Core.Path.{◌∙◌, ap}
use native.Mathlib.Omega.{arith}
use Rattle.command.specs.Parts.{said}
use Rattle.command.proofs.Lines.{hit_line, g00_line, g01_line, g02_line, g03_line, other_line}
use Rattle.command.proofs.command.Goals as goal

pub returns-in-88 : goal.returns-in-88
returns-in-88 c = let a = c.args in hit_line a.revision a.s.now (grind arith) _ c.point_line-in-88.ensures _ c.map-in-88.ensures.cases

pub returns-in-71 : goal.returns-in-71
returns-in-71 c = let a = c.args in g00_line a.revision a.s.now (omega arith) (omega arith) _ c.point_line.ensures _ (omega arith) c.map.ensures.cases

pub returns-in-71-2 : goal.returns-in-71-2
returns-in-71-2 c = let a = c.args in g01_line a.revision a.s.now (omega arith) (omega arith) _ c.point_line-in-71-2.ensures _ (omega arith) c.map-in-71-2.ensures.cases

pub returns-in-71-3 : goal.returns-in-71-3
returns-in-71-3 c = let a = c.args in g02_line a.revision a.s.now (omega arith) (omega arith) _ c.arc_line.ensures _ (omega arith) c.map-in-71-3.ensures.cases

pub returns-in-71-4 : goal.returns-in-71-4
returns-in-71-4 c = let a = c.args in g03_line a.revision a.s.now (omega arith) (omega arith) _ c.arc_line-in-71-4.ensures _ (omega arith) c.map-in-71-4.ensures.cases

pub returns-in_default : goal.returns-in_default
returns-in_default c =
    let a = c.args in
    ap said c.ok_or.ensures.value
    ∙ other_line a.revision a.s.now (λ l e. grind arith) (λ l e. grind arith) (λ l e. grind arith) (λ l e z p q. grind arith) c.word.result c.word.ensures
