-- Two answers of the same number and values are the same; and what two equal refusals, or two equal rows, have in common.
use mathlib.Core.Path.{◌≡◌, refl, sym, ap, ap₂, ◌∙◌}
use mathlib.Core.Bool.{cond}
use Prim.Native.Nat.{ℕ}
use lib.Dec.{eqb}
use Rattle.std.specs.Prelude.{Result, Some, None, Ok, Err}
use Rattle.rules.specs.declared.Command.{Command}
use Rattle.rules.specs.declared.State.{State}
use Rattle.rules.specs.declared.Row.{Row}
use Rattle.rules.specs.declared.Refusal.{Refusal}
use Rattle.rules.specs.declared.Refusal.TheVariants as R
use Rattle.rules.specs.Results.{Answer, DiameterAnswer, HoleAnswer, at_line, refused_at, row_found}
use Rattle.rules.specs.Refusals.{refusal_number, refusal_column}
use Rattle.rules.specs.declared.Hole.{Hole}
use Rattle.rules.specs.declared.Refused.{Refused}
use Rattle.rules.specs.declared.Counted.{Counted}
use Rattle.rules.specs.Answers.{refused, said, hole_numbers, hole_said, diameter_said}

-- the refusal of a number and a column
refusal_of : ℕ → ℕ → Refusal
refusal_of n c =
    cond (eqb n 1) R.FileTooLong
    (cond (eqb n 2) R.TooManyLines
    (cond (eqb n 3) R.LineNotEnded
    (cond (eqb n 6) R.LineTooLong
    (cond (eqb n 4) (R.ForbiddenByte c)
    (cond (eqb n 5) R.NoSuchForm
    (cond (eqb n 7) (R.OutOfRange c)
    (cond (eqb n 8) R.WrongPhase
    (cond (eqb n 12) R.WrongMotion
    (cond (eqb n 9) R.DeclaredAlready
    (cond (eqb n 10) R.NotDeclared
    (cond (eqb n 11) R.NoToolSelected
    (cond (eqb n 13) R.ImpossibleArc
    (cond (eqb n 14) R.EndsTooSoon
    (cond (eqb n 15) R.NoRoom
    (cond (eqb n 16) R.NoSuchLine
    (cond (eqb n 17) R.HoldsLineEnd
    R.BadTable))))))))))))))))

refusal_is : (e : Refusal) → refusal_of (refusal_number e) (refusal_column e) ≡ e
unfolding refusal_of
refusal_is R.FileTooLong = refl
refusal_is R.TooManyLines = refl
refusal_is R.LineNotEnded = refl
refusal_is R.LineTooLong = refl
refusal_is (R.ForbiddenByte c) = refl
refusal_is R.NoSuchForm = refl
refusal_is (R.OutOfRange c) = refl
refusal_is R.WrongPhase = refl
refusal_is R.WrongMotion = refl
refusal_is R.DeclaredAlready = refl
refusal_is R.NotDeclared = refl
refusal_is R.NoToolSelected = refl
refusal_is R.ImpossibleArc = refl
refusal_is R.EndsTooSoon = refl
refusal_is R.NoRoom = refl
refusal_is R.NoSuchLine = refl
refusal_is R.HoldsLineEnd = refl
refusal_is R.BadTable = refl

pub refusal_one : (e f : Refusal) → refusal_number e ≡ refusal_number f → refusal_column e ≡ refusal_column f → e ≡ f
refusal_one e f n c = sym (refusal_is e) ∙ ap₂ refusal_of n c ∙ refusal_is f

refused_by : (r s : Refused) → refused r.refusal r.line ≡ refused s.refusal s.line → r ≡ s
refused_by r s h =
    let number : refusal_number r.refusal ≡ refusal_number s.refusal = cc in
    let column : refusal_column r.refusal ≡ refusal_column s.refusal = cc in
    let line : r.line ≡ s.line = cc in
    let refusal : r.refusal ≡ s.refusal = refusal_one r.refusal s.refusal number column in
    λ i. record { refusal = refusal i; line = line i }

answer_by : (a b : Answer) → said a ≡ said b → a ≡ b
answer_by (Ok n) (Ok m) h = cc
answer_by (Ok n) (Err r) h = cc
answer_by (Err r) (Ok m) h = cc
answer_by (Err r) (Err r') h = cc (refused_by r r' h)

pub said_one : {a b : Answer} → said a ≡ said b → a ≡ b
said_one {a} {b} h = answer_by a b h

hole_by : (g h : Hole) → hole_numbers g ≡ hole_numbers h → g ≡ h
unfolding hole_numbers
hole_by g h e =
    let kind : g.kind ≡ h.kind = cc in
    let tool : g.tool ≡ h.tool = cc in
    let start_x : g.start.x ≡ h.start.x = cc in
    let start_y : g.start.y ≡ h.start.y = cc in
    let end_x : g.end.x ≡ h.end.x = cc in
    let end_y : g.end.y ≡ h.end.y = cc in
    let radius : g.radius ≡ h.radius = cc in
    λ i. record {
      kind = kind i;
      tool = tool i;
      start = record { x = start_x i; y = start_y i };
      end = record { x = end_x i; y = end_y i };
      radius = radius i;
    }

hole_answer_by : (a b : HoleAnswer) → hole_said a ≡ hole_said b → a ≡ b
unfolding hole_numbers
hole_answer_by (Ok (Some g)) (Ok (Some h)) e = cc (hole_by g h cc)
hole_answer_by (Ok (Some g)) (Ok None) e = cc
hole_answer_by (Ok (Some g)) (Err r) e = cc
hole_answer_by (Ok None) (Ok (Some h)) e = cc
hole_answer_by (Ok None) (Ok None) e = refl
hole_answer_by (Ok None) (Err r) e = cc
hole_answer_by (Err r) (Ok (Some h)) q = cc
hole_answer_by (Err r) (Ok None) q = cc
hole_answer_by (Err r) (Err r') q = cc (refused_by r r' q)

pub hole_said_one : {a b : HoleAnswer} → hole_said a ≡ hole_said b → a ≡ b
hole_said_one {a} {b} h = hole_answer_by a b h

diameter_by_lem : (a b : DiameterAnswer) → diameter_said a ≡ diameter_said b → a ≡ b
diameter_by_lem (Ok d) (Ok c) h = cc
diameter_by_lem (Ok d) (Err r) h = cc
diameter_by_lem (Err r) (Ok c) h = cc
diameter_by_lem (Err r) (Err r') h = cc (refused_by r r' h)

pub diameter_said_one : {a b : DiameterAnswer} → diameter_said a ≡ diameter_said b → a ≡ b
diameter_said_one {a} {b} h = diameter_by_lem a b h

counted_by : (a b : Counted) → a.answer ≡ b.answer → a.counts ≡ b.counts → a ≡ b
counted_by a b e f = λ i. record { answer = e i; counts = f i }

pub counted_one : {a b : Counted} → said a.answer ≡ said b.answer → a.counts ≡ b.counts → a ≡ b
counted_one {a} {b} e f = counted_by a b (said_one e) f

pub refused_same : {A : Type 0} {e f : Refusal} {i j : ℕ} → ◌≡◌ {A = Result A Refused} (refused_at e i) (refused_at f j) → (e ≡ f) × (i ≡ j)
refused_same {A} {e} {f} {i} {j} h =
    let r : at_line e i ≡ at_line f j = cc in
    (ap (λ (z : Refused). z.refusal) r, ap (λ (z : Refused). z.line) r)

pub row_same : {c d : Command} {s q : State} → row_found c s ≡ row_found d q → (c ≡ d) × (s ≡ q)
row_same {c} {d} {s} {q} h =
    let r : ◌≡◌ {A = Row} (record { command = c; state = s }) (record { command = d; state = q }) = cc in
    (ap (λ (z : Row). z.command) r, ap (λ (z : Row). z.state) r)
