-- For laws; no promise rests on it. The range that the words of a set have in a row that passes its test: no bit above 24, and
-- no tool 0.
use Rattle.std.specs.Prelude.{◌≡◌, ◌%◌, ◌≤◌}
use Rattle.tools.specs.declared.Tools.{Tools}
use Rattle.tools.specs.Set.{max_word}

pub record ToolsOk (d : Tools) : Type 0 where
  pub a_range : d.a ≤ max_word
  pub b_range : d.b ≤ max_word
  pub c_range : d.c ≤ max_word
  pub d_range : d.d ≤ max_word
  pub no_zero : d.a % 2 ≡ 0
