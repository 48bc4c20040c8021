-- Document 01, "The answers", hole query; and "Holes": a tool's diameter, looked up from its declaration.
use Rattle.std.specs.Prelude.{cond, List, [], ◌∷◌, ℕ, ◌+◌, ◌-◌, eqb, ℤ, Option, Some, None, Ok}
use Rattle.runs.specs.Machine.{Entry, holds, bad}
use Rattle.runs.specs.Machine as M
use Rattle.rules.specs.declared.Command.{Command}
use Rattle.rules.specs.declared.Command.TheVariants.{Comment, M48, Metric, Inch, Declare, Percent, G05, G00, Select, Hit, M15, M16, G01, G02, G03, M30}
use Rattle.rules.specs.declared.State.{State}
use Rattle.rules.specs.Results.{DiameterAnswer, HoleAnswer, refused_at}
use Rattle.rules.specs.Refusals.{no_such_line, no_such_tool, bad_table, not_declared}
use Rattle.rules.specs.Numbers.{is_tool}
use Rattle.rules.specs.Rows.{entries_of, sizes_fit}
use Rattle.rules.specs.Holes.{hole_of}
use Rattle.rules.specs.Editing.{is_line, entry_at, before_line, on_before}

-- the hole of line k: the row before is tested, if there is one, then the row itself
abbrev pub on_row {ℓ} : {A : Type ℓ} → Entry Command State → A → (M.Row Command State → A) → A
on_row bad z f = z
on_row (holds r) z f = f r

unfoldable pub hole_in : List (Entry Command State) → ℕ → HoleAnswer
hole_in es k =
    on_before (before_line k (entry_at es (k - 1))) (refused_at bad_table (k - 1))
    (λ p. on_row (entry_at es k) (refused_at bad_table k) (λ r. hole_of p.at r.command r.state))

unfoldable pub hole_answer : List ℤ → ℕ → ℕ → HoleAnswer
hole_answer t n k =
    cond (sizes_fit t n) (cond (is_line n k) (hole_in (entries_of n t) k) (refused_at no_such_line 0)) (refused_at bad_table 0)

-- the diameter that a command declares for tool t
unfoldable pub declared_by : ℕ → Command → Option ℕ
declared_by t Comment = None
declared_by t M48 = None
declared_by t Metric = None
declared_by t Inch = None
declared_by t (Declare u d) = cond (eqb u t) (Some d) None
declared_by t Percent = None
declared_by t G05 = None
declared_by t (G00 p) = None
declared_by t (Select u) = None
declared_by t (Hit p) = None
declared_by t M15 = None
declared_by t M16 = None
declared_by t (G01 p) = None
declared_by t (G02 a) = None
declared_by t (G03 a) = None
declared_by t M30 = None

abbrev pub on_declared : Option ℕ → DiameterAnswer → DiameterAnswer
on_declared (Some d) z = Ok d
on_declared None z = z

-- rows after i others, each tested, up to the first that declares tool t
unfoldable pub diameter_in : ℕ → List (Entry Command State) → ℕ → DiameterAnswer
diameter_in t [] i = refused_at not_declared 0
diameter_in t (bad ∷ es) i = refused_at bad_table (i + 1)
diameter_in t (holds r ∷ es) i = on_declared (declared_by t r.command) (diameter_in t es (i + 1))

-- ours: 18 at line 0 for the sizes, 7 at line 0 and in no column for a tool not 1 to 99, then the rows, then 10 at line 0
unfoldable pub diameter_answer : List ℤ → ℕ → ℕ → DiameterAnswer
diameter_answer t n tool =
    cond (sizes_fit t n) (cond (is_tool tool) (diameter_in tool (entries_of n t) 0) (refused_at no_such_tool 0)) (refused_at bad_table 0)
