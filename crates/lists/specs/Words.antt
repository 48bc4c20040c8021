-- Words of a format as bytes: a text of ASCII characters, and the test that a list begins with one.
use Rattle.std.specs.Prelude.{Bool, true, false, ◌&&◌, List, [], ◌∷◌, ℕ, eqb}
use Prim.Native.Char.{code}
use Prim.Native.String as S
use Prim.Native.String.{String}

abbrev pub bytes : String → List ℕ
bytes S.[] = []
bytes (S.◌∷◌ c s) = code c ∷ bytes s

unfoldable pub starts_with : List ℕ → List ℕ → Bool
starts_with l [] = true
starts_with [] (w ∷ ws) = false
starts_with (a ∷ l) (w ∷ ws) = eqb a w && starts_with l ws
