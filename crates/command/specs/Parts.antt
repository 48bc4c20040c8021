-- For contracts of private functions alone: the parts of a line as the code holds them, numbers as they are written, a point, an arc.
use Rattle.rules.specs.declared.Refusal.{Refusal}
use Rattle.std.specs.Prelude.{◌≡◌, ℤ, cond, List, [], ◌∷◌, ℕ, ◌+◌, ◌≤◌, length, drop, Option, Some, None, Result, Ok, Err}
use Prim.Native.Char.{code}
use Rattle.lists.specs.Words.{bytes, starts_with}
use Rattle.points.specs.declared.Point.{Point}
use Rattle.points.specs.declared.Arc.{Arc}
use Rattle.rules.specs.declared.Command.{Command}
use Rattle.rules.specs.declared.LineAnswer.{LineAnswer}
use Rattle.rules.specs.declared.Revision.{Revision}
use Rattle.rules.specs.Numbers.{Decimal, on_number, signed_of, unsigned_of}
use Rattle.rules.specs.Commands.{Form, declare, Formed, is, no_form, at_end, point_form, arc_form, tool_form, column_after, says, says_no, point_of, arc_of, point_in_range, arc_in_range, meaning_of, on_form}
use Rattle.number.specs.declared.Written.{Written}
use Rattle.number.specs.Capped.{HeldAs, number_at}
use Rattle.command.specs.declared.Pair.{Pair}

abbrev pub said : Result Command Refusal → LineAnswer
said r = record { command = r }

-- ---- X, a number, Y, a number

abbrev pub number_behind : List ℕ → ℕ → ℕ → Option Written
number_behind s at b = cond (starts_with (drop at s) (b ∷ [])) (number_at (at + 1 + 1) (length s) (signed_of (drop (at + 1) s))) None

-- the bytes from at on have a point's form: its two numbers are held, each with the column behind its letter, and the bytes after it begin
-- where the second ends; no A stands before
pub record HasPair (s : List ℕ) (at : ℕ) (p : Pair) : Type 0 where
  pub x_is : Decimal
  pub y_is : Decimal
  pub form : (f : Decimal → Decimal → List ℕ → Formed) → point_form (drop at s) f ≡ f x_is y_is (drop p.y.next s)
  pub x_column : p.x.column ≡ column_after at (drop at s) (code "X")
  pub y_column : p.y.column ≡ column_after at (drop at s) (code "Y")
  pub past : column_after at (drop at s) (code "A") ≡ column_after p.y.next (drop p.y.next s) (code "A")
  pub x_holds : HeldAs p.x x_is
  pub y_holds : HeldAs p.y y_is
  pub within : p.y.next ≤ length s

abbrev pub PairAt : List ℕ → ℕ → Option Pair → Type 0
PairAt s at (Some p) = HasPair s at p
PairAt s at None = (f : Decimal → Decimal → List ℕ → Formed) → point_form (drop at s) f ≡ no_form

abbrev pub placed : Result ℤ Refusal → Result ℤ Refusal → Result Point Refusal
placed (Ok x) (Ok y) = Ok (record { x = x; y = y })
placed (Ok x) (Err e) = Err e
placed (Err e) b = Err e

-- ---- a diameter or a radius to the line's end

abbrev pub last_size : List ℕ → (Decimal → Form) → Formed
last_size l f = on_number (unsigned_of l) no_form (λ d rest. at_end rest (f d))

abbrev pub declare_at : List ℕ → ℕ → Formed
declare_at l t = last_size l (declare t)

pub record HasSize (s : List ℕ) (at : ℕ) (w : Written) : Type 0 where
  pub size_is : Decimal
  pub form : (f : Decimal → Form) → last_size (drop at s) f ≡ is (f size_is)
  pub column_is : w.column ≡ at + 1
  pub holds : HeldAs w size_is

abbrev pub SizeAt : List ℕ → ℕ → Option Written → Type 0
SizeAt s at (Some w) = HasSize s at w
SizeAt s at None = (f : Decimal → Form) → last_size (drop at s) f ≡ no_form

-- ---- a line that is a point, or an arc, whatever kind k of command it is, with the form f

abbrev pub answer_of : {A : Type 0} → (A → Command) → Result A Refusal → LineAnswer
answer_of k (Ok x) = says (k x)
answer_of k (Err e) = says_no e

unfoldable pub PointLine : List ℕ → ℕ → Result Point Refusal → Type 0
PointLine s at r =
    (k : Point → Command) (f : Decimal → Decimal → Form)
    → ((after : ℕ → ℕ) (x y : Decimal) → meaning_of after (f x y) ≡ point_in_range after x y (says (k (point_of x y))))
    → answer_of k r ≡ on_form (column_after at (drop at s)) (point_form (drop at s) (λ x y rest. at_end rest (f x y)))

unfoldable pub ArcLine : List ℕ → ℕ → Result Arc Refusal → Type 0
ArcLine s at r =
    (k : Arc → Command) (f : Decimal → Decimal → Decimal → Form)
    → ((after : ℕ → ℕ) (x y a : Decimal) → meaning_of after (f x y a) ≡ arc_in_range after x y a (says (k (arc_of x y a))))
    → answer_of k r ≡ on_form (column_after at (drop at s)) (arc_form (drop at s) f)

-- ---- what declares a tool from a place on, and a line from its tool's number on

unfoldable pub DeclareLine : List ℕ → ℕ → ℕ → Result Command Refusal → Type 0
DeclareLine s at t r = said r ≡ on_form (λ _. at + 1) (declare_at (drop at s) t)

unfoldable pub ToolLine : Revision → List ℕ → Result Command Refusal → Type 0
ToolLine rev s r = said r ≡ on_form (column_after 1 (drop 1 s)) (tool_form rev (drop 1 s))

-- ---- lines that are a word

abbrev pub NoWord : List ℕ → Type 0
NoWord l =
    (l ≡ bytes "M48" → ⊥) × (l ≡ bytes "METRIC" → ⊥) × (l ≡ bytes "INCH" → ⊥) × (l ≡ bytes "%" → ⊥)
    × (l ≡ bytes "G05" → ⊥) × (l ≡ bytes "M15" → ⊥) × (l ≡ bytes "M16" → ⊥) × (l ≡ bytes "M30" → ⊥)
