-- The square of the distance is the sum of two, which is compared with the square of 2 r + u.
use borrow.Author.Rules.{rules}
use Rattle.points.specs.Points.{square_of_distance}
use Rattle.points.proofs.Arc.reaches.Goals as goal

pub returns : goal.returns
unfolding square_of_distance
returns c =
    search (rules, c.square_of_difference-x.ensures.0, c.square_of_difference-y.ensures.0, c.last_unit-unit.ensures.0, c.at_most_square.ensures)
