-- Document 01, "A row": the set of declared tools, kept in four words. Tool t is bit t mod 25 of word t div 25.
use Rattle.std.specs.Prelude.{ℕ, ◌/◌, ◌%◌, ◌^◌, Bool, cond, ◌&&◌, eqb}
use Rattle.std.specs.Int.Bits.{bit_or}
use Rattle.tools.specs.declared.Tools.{Tools}

-- a word, which has twenty-five bits, is at most
abbrev pub max_word : ℕ
max_word = 33554431

-- bit b of the word w is set
abbrev pub bit_of : ℕ → ℕ → Bool
bit_of w b = eqb (w / 2 ^ b % 2) 1

-- word k of the four
abbrev pub word_of : Tools → ℕ → ℕ
word_of s k = cond (eqb k 0) s.a (cond (eqb k 1) s.b (cond (eqb k 2) s.c s.d))

-- tool t is in the set
unfoldable pub has : Tools → ℕ → Bool
has s t = bit_of (word_of s (t / 25)) (t % 25)

-- word k, which is w, with the bit of tool t set where t belongs to word k
abbrev pub set_bit : ℕ → ℕ → ℕ → ℕ
set_bit w k t = cond (eqb (t / 25) k) (bit_or w (2 ^ (t % 25))) w

-- the set with tool t added
unfoldable pub insert : Tools → ℕ → Tools
insert s t = record { a = set_bit s.a 0 t; b = set_bit s.b 1 t; c = set_bit s.c 2 t; d = set_bit s.d 3 t }

abbrev pub no_tools : Tools
no_tools = record { a = 0; b = 0; c = 0; d = 0 }

-- two sets agree in all four words
unfoldable pub same_tools : Tools → Tools → Bool
same_tools s t = eqb s.a t.a && (eqb s.b t.b && (eqb s.c t.c && eqb s.d t.d))
