-- What is written is the one text that document 01's rule allows: number by number and line by line (crate round), as a good
-- table's numbers are in range.
use Rattle.round.proofs.OneNumber.{number_allowed, number_only, radius_allowed, radius_only}
use Rattle.round.proofs.OneText.{coordinate_allowed, coordinate_only, tool_allowed, tool_only, rows_allowed, rows_only}
use Rattle.demands.specs.OneSpelling.{OneSpelling}
use Rattle.answers.proofs.GoodTables.{good_whole}

pub one_spelling : OneSpelling
one_spelling = record {
  number = λ v h. record { allowed = number_allowed v h; only = λ b w. number_only h w };
  radius = λ v d h m e. record { allowed = radius_allowed d v (record { most = m; exact = e }) h; only = λ b w. radius_only h w };
  coordinate = λ z h. record { allowed = coordinate_allowed z h; only = λ b w. coordinate_only h w };
  tool = λ t h. record { allowed = tool_allowed t h; only = λ b w. tool_only w };
  text = λ t n rs g.
      let h = (good_whole t n rs g).rows.within_range in
      record { allowed = rows_allowed rs h; only = λ b w. rows_only h w };
}
