-- Document 02, #104: half circles that come out short. An arc that was possible by document 01's own rule stays possible; and what the
-- decimals of a radius do, computed on the definitions.
use Rattle.std.specs.Prelude.{◌≡◌, true, false, ℕ, ◌*◌, ◌≤◌, Ok}
use Rattle.lists.specs.Words.{bytes}
use Rattle.points.specs.declared.Point.{Point}
use Rattle.points.specs.declared.Arc.{Arc}
use Rattle.points.specs.Points.{origin, square_of_distance, last_unit, is_possible}
use Rattle.rules.specs.declared.Command.TheVariants.{G02}
use Rattle.rules.specs.declared.Revision.TheVariants.{Rev2021}
use Rattle.rules.specs.Results.{refused_at}
use Rattle.rules.specs.Refusals.{impossible_arc}
use Rattle.rules.specs.Commands.{says, line_of}
use Rattle.rules.specs.Editing.{edit_answer}
use Rattle.rules.specs.Writing.{spelt}
use Rattle.rules.specs.Bench.{bench_counts, bench_table}
use Rattle.rules.specs.Obeys.{Possible}
use Rattle.demands.specs.BenchFile.{whole}

-- document 01's own rule: the square of the distance is at most four times that of the radius
pub record PossibleBefore (s : Point) (a : Arc) : Type 0 where
  pub apart : s ≡ a.to → ⊥
  pub near : square_of_distance s a.to ≤ 4 * (a.radius * a.radius)

-- one unit of the last written place, in millionths
pub record Units : Type 0 where
  pub up_to_three : (d : ℕ) → d ≤ 3 → last_unit d ≡ 1000
  pub four : last_unit 4 ≡ 100
  pub five : last_unit 5 ≡ 10
  pub six : last_unit 6 ≡ 1

-- to 1, 1, with a radius of so many millionths, written with so many decimals
abbrev pub to11 : ℕ → ℕ → Arc
to11 r d = record { to = whole 1 1; radius = r; decimals = d }

pub record ArcLines : Type 0 where
  -- a half circle from 0, 0 whose radius was rounded to three places, the next smaller radius, and the same to six places
  pub rounded : is_possible origin (to11 707000 3) ≡ true
  pub one_less : is_possible origin (to11 706000 3) ≡ false
  pub to_six : is_possible origin (to11 707107 6) ≡ true
  pub one_less_of_six : is_possible origin (to11 707106 6) ≡ false
  -- the bench file's arc from 4, 0: at most 4 and 0.001 apart, by no decimals and by four
  pub furthest : edit_answer Rev2021 bench_table 15 13 (bytes "G03X8.001Y0A2") bench_counts ≡ Ok 15
  pub too_far : edit_answer Rev2021 bench_table 15 13 (bytes "G03X8.001001Y0A2") bench_counts ≡ refused_at impossible_arc 13
  pub four_decimals : edit_answer Rev2021 bench_table 15 13 (bytes "G03X8.001Y0A2.0000") bench_counts ≡ refused_at impossible_arc 13
  -- the decimals are read and written as they are; a point without any is not
  pub zeros_read : line_of Rev2021 (bytes "G02X1Y1A2.50") ≡ says (G02 (to11 2500000 2))
  pub zeros_written : spelt (G02 (to11 2500000 2)) ≡ bytes "G02X1Y1A2.50"
  pub point_read : line_of Rev2021 (bytes "G02X1Y1A2.") ≡ says (G02 (to11 2000000 0))
  pub point_dropped : spelt (G02 (to11 2000000 0)) ≡ bytes "G02X1Y1A2"

pub record MoreArcs : Type 0 where
  pub stays_possible : (s : Point) (a : Arc) → PossibleBefore s a → Possible s a
  pub units : Units
  pub lines : ArcLines
