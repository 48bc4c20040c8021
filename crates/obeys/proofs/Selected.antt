-- The tool that a hole is made with has been declared: a selected tool has, and a hit, or a rout's lowering, needs one selected.
use mathlib.Core.Path.{◌≡◌, refl, ap, ◌∙◌, subst}
use mathlib.Core.Bool.{true}
use mathlib.Core.List.{[], ◌∷◌, ◌++◌}
use Prim.Native.Nat.{ℕ, ◌+◌, ◌≤◌}
use native.Mathlib.Omega.{arith}
use lib.ListN.{length}
use Rattle.std.specs.Prelude.{Some, None, Ok, Err}
use Rattle.runs.specs.Machine.{Row, last_of, Follows, StepBy}
use Rattle.runs.proofs.Chains.{follows_head, follows_tail, follows_first, follows_rest}
use Rattle.runs.proofs.Edit.{last_append}
use Rattle.points.specs.declared.Point.{Point}
use Rattle.tools.specs.declared.Tools.{Tools}
use Rattle.rules.specs.declared.Command.{Command}
use Rattle.rules.specs.declared.State.{State}
use Rattle.rules.specs.declared.Hole.{Hole}
use Rattle.rules.specs.Results.{HoleAnswer}
use Rattle.rules.specs.Numbers.{max_tool}
use Rattle.rules.specs.Ranges.{StateOk}
use Rattle.tools.specs.Set.{has}
use Rattle.rules.specs.State.{tool_down, no_tool, start, taken}
use Rattle.rules.specs.Reading.{Rows}
use Rattle.rules.specs.Holes.{hole_of}
use Rattle.rules.specs.Obeys.{Takes, comment, m48, metric, inch, declare, percent, g05, g00, select, hit, m15, m16, g01, g02, g03, m30}
use Rattle.tools.proofs.Set.{has_none}
use Rattle.laws.proofs.Keeps.{start_ok}
use Rattle.laws.proofs.InRange.{RowsOk, rows_first, rows_rest}
use Rattle.laws.proofs.Declared.{insert_keeps, declared_stays}
use Rattle.laws.proofs.Diameters.{HasDiameter}
use Rattle.obeys.proofs.Files.{taken_takes}
use Rattle.obeys.proofs.Declares.{has_diameter}

-- a selected tool has been declared, and a tool that is down has been selected
abbrev Held : State → Type 0
Held s = ((s.tool ≡ no_tool → ⊥) → has s.tools s.tool ≡ true) × (s.motion ≡ tool_down → s.tool ≡ no_tool → ⊥)

takes_held : {s q : State} {c : Command} → Takes s c q → s.tool ≤ max_tool → Held s → Held q
takes_held (comment h) b k = k
takes_held (m48 h) b k = k
takes_held (metric h) b k = k
takes_held (inch h) b k = k
takes_held {s} (declare {t = t} h n) b k = (λ z. insert_keeps s.tool b s.tools t (k.0 z), k.1)
takes_held (percent h) b k = k
takes_held (g05 h) b k = (k.0, λ d. absurd (omega arith))
takes_held (g00 h) b k = (k.0, λ d. absurd (omega arith))
takes_held (select h n) b k = (λ _. n, λ d. absurd (h.not_down d))
takes_held (hit h n) b k = k
takes_held (m15 h n) b k = (k.0, λ _. n)
takes_held (m16 h) b k = (k.0, λ d. absurd (omega arith))
takes_held (g01 h) b k = k
takes_held (g02 h w) b k = k
takes_held (g03 h w) b k = k
takes_held (m30 h) b k = k

last_held : (rs : Rows) {p : State} {i : ℕ} → Follows (StepBy taken) p i rs → RowsOk rs → StateOk p → Held p → Held (last_of p rs)
unfolding last_of
last_held [] f ok s k = k
last_held (r ∷ rs) {p} f ok s k =
    last_held rs (follows_tail f) ok.2 ok.1 (takes_held (taken_takes p r.command r.state (follows_head f)) s.tool_range k)

start_held : Held start
start_held = (λ n. absurd (n refl), λ d. absurd (omega arith))

-- ---- a hole

abbrev Known : Tools → HoleAnswer → Type 0
Known ts (Ok (Some h)) = has ts h.tool ≡ true
Known ts (Ok None) = Unit {0}
Known ts (Err r) = Unit {0}

hole_known : {p q : State} {c : Command} (from : Point) → Held p → Takes p c q → Known q.tools (hole_of from c q)
unfolding hole_of
hole_known from k (comment h) = tt
hole_known from k (m48 h) = tt
hole_known from k (metric h) = tt
hole_known from k (inch h) = tt
hole_known from k (declare h n) = tt
hole_known from k (percent h) = tt
hole_known from k (g05 h) = tt
hole_known from k (g00 h) = tt
hole_known from k (select h n) = tt
hole_known from k (hit h n) = k.0 n
hole_known from k (m15 h n) = tt
hole_known from k (m16 h) = tt
hole_known from k (g01 h) = k.0 (k.1 h.motion)
hole_known from k (g02 h w) = k.0 (k.1 h.motion)
hole_known from k (g03 h w) = k.0 (k.1 h.motion)
hole_known from k (m30 h) = tt

-- the tool of a row's hole has a diameter among the rows
pub hole_diameter : (os : Rows) (r : Row Command State) (ys : Rows) → Follows (StepBy taken) start 0 (os ++ (r ∷ ys)) → RowsOk (os ++ (r ∷ ys))
    → (h : Hole) → h.tool ≤ max_tool → hole_of (last_of start os).at r.command r.state ≡ Ok (Some h)
    → HasDiameter h.tool (os ++ (r ∷ ys))
unfolding last_of
hole_diameter os r ys f ok h low e =
    let g = follows_rest os (r ∷ ys) f in
    let k = last_held os (follows_first os (r ∷ ys) f) (rows_first os (r ∷ ys) ok) start_ok start_held in
    let w = taken_takes (last_of start os) r.command r.state (follows_head g) in
    let here : has r.state.tools h.tool ≡ true = subst (Known r.state.tools) e (hole_known (last_of start os).at k w) in
    let last = declared_stays h.tool low ys r.state (0 + length os + 1) (follows_tail g) (rows_rest os (r ∷ ys) ok).2 here in
    has_diameter h.tool low (os ++ (r ∷ ys)) f (has_none h.tool)
    (ap (λ (s : State). has s.tools h.tool) (last_append start os (r ∷ ys)) ∙ last)
