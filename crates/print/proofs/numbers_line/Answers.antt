-- The room is tested first; then the line has room.
use mathlib.Core.Path.{sym, ◌∙◌}
use native.Mathlib.Omega.{arith}
use Rattle.print.specs.Line.{decimals}
use Rattle.print.proofs.Lines.{line_put, line_length, fits_says}
use Rattle.print.proofs.Turns.{numbers_high}
use Rattle.print.proofs.numbers_line.Goals as goal

pub returns : goal.returns
returns c =
    let e = sym c.has_room.ensures ∙ c.if-not-has_room.false in
    let ns = c.args.numbers.now in
    line_put _ e c.put_numbers_line.ensures
    (omega (arith, fits_says _ _ _ e, line_length c.args.word.now (decimals ns), numbers_high ns))
