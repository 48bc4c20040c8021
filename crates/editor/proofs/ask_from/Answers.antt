-- The state that the new command leaves is in range.
use Rattle.std.proofs.Common.{rules}
use Rattle.laws.proofs.Keeps.{keeps}
use Rattle.editor.proofs.ask_from.Goals as goal

pub ask_row-requires : goal.ask_row-requires
ask_row-requires c = let f = c.requires in (f.0, f.2, keeps c.args.before _ c.args.command f.1 f.2 (search rules))
