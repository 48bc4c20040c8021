-- For a contract of a private function alone: the revision that an argument names.
use Rattle.std.specs.Prelude.{Bool, ◌&&◌, cond, List, ℕ, eqb, length, Option, Some, None}
use Rattle.lists.specs.Words.{bytes, starts_with}
use Rattle.rules.specs.declared.Revision.{Revision}
use Rattle.rules.specs.declared.Revision.TheVariants.{Rev2019, Rev2021}

abbrev pub is_word : List ℕ → List ℕ → Bool
is_word l w = eqb (length l) (length w) && starts_with l w

abbrev pub named_by : List ℕ → Option Revision
named_by l = cond (is_word l (bytes "2019")) (Some Rev2019) (cond (is_word l (bytes "2021")) (Some Rev2021) None)
