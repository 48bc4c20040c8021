-- Document 02, #103: how many hits and how many routs each tool makes. One count for each tool from 1 to 99 stands beside the table.
use Rattle.std.specs.Prelude.{Bool, true, ◌&&◌, cond, List, [], ◌∷◌, ℕ, zero, suc, ◌+◌, ◌-◌, leb, eqb, ℤ, length, get_or, Ok}
use Rattle.runs.specs.Machine.{on_verdict}
use Rattle.rules.specs.declared.Command.{Command}
use Rattle.rules.specs.declared.Revision.{Revision}
use Rattle.rules.specs.declared.Way.{Way}
use Rattle.rules.specs.declared.Counts.{Counts}
use Rattle.rules.specs.Results.{Answer, refused_at}
use Rattle.rules.specs.Refusals.{no_such_tool}
use Rattle.rules.specs.Numbers.{max_tool, is_tool}
use Rattle.rules.specs.Kinds as Kinds
use Rattle.rules.specs.Reading.{Rows, file_of, has_room}

-- ---- a number for each tool

-- those of k tools, from tool t on
unfoldable pub from_tool : ℕ → ℕ → (ℕ → ℕ) → List ℕ
from_tool t zero f = []
from_tool t (suc k) f = f t ∷ from_tool (t + 1) k f

abbrev pub each_tool : (ℕ → ℕ) → List ℕ
each_tool f = from_tool 1 max_tool f

-- tool t's
abbrev pub of_tool : List ℕ → ℕ → ℕ
of_tool l t = get_or l (t - 1) 0

-- whether something is so for each of k tools, from tool t on
unfoldable pub from_tool_all : ℕ → ℕ → (ℕ → Bool) → Bool
from_tool_all t zero p = true
from_tool_all t (suc k) p = p t && from_tool_all (t + 1) k p

abbrev pub for_each_tool : (ℕ → Bool) → Bool
for_each_tool p = from_tool_all 1 max_tool p

-- ---- counting the holes of rows afresh

-- the ways of making holes: hits, and routs, which are G01, G02 and G03
abbrev pub hits : Way
hits = record { first = Kinds.hit; last = Kinds.hit }

abbrev pub routs : Way
routs = record { first = Kinds.g01; last = Kinds.g03 }

abbrev pub is_by : Way → Command → Bool
is_by w c = leb w.first (Kinds.kind_of c) && leb (Kinds.kind_of c) w.last

-- one where it is so
abbrev pub one : Bool → ℕ
one b = cond b 1 0

-- how many holes the rows make that way with tool t, the one selected in the row itself; one made with tool 0 is no tool's
unfoldable pub how_many : Way → Rows → ℕ → ℕ
how_many w [] t = 0
how_many w (r ∷ rs) t = one (is_by w r.command && eqb r.state.tool t) + how_many w rs t

unfoldable pub counts_of : Rows → Counts
counts_of rs = record { hits = each_tool (how_many hits rs); routs = each_tool (how_many routs rs) }

abbrev pub no_counts : Counts
no_counts = counts_of []

-- ---- reading hands out the counts of the file that it read, and none where it is refused

unfoldable pub read_counts : Revision → List ℕ → List ℤ → Counts
read_counts rev bs t = on_verdict (file_of rev bs) (λ e i. no_counts) (λ rs. cond (has_room t (length rs)) (counts_of rs) no_counts)

-- ---- an edit puts new rows in the place of old ones

-- the largest count that it takes in
abbrev pub max_count : ℕ
max_count = 1000

-- no count of a way is over that, or under what the old rows take from it
unfoldable pub way_fits : Way → Rows → List ℕ → Bool
way_fits w old l = for_each_tool (λ t. leb (of_tool l t) max_count && leb (how_many w old t) (of_tool l t))

unfoldable pub counts_fit : Rows → Counts → Bool
counts_fit old c = way_fits hits old c.hits && way_fits routs old c.routs

-- tool by tool, the old rows' holes are taken away, and then the new ones' added
abbrev pub replaced : Way → Rows → Rows → List ℕ → List ℕ
replaced w old new l = each_tool (λ t. of_tool l t - how_many w old t + how_many w new t)

unfoldable pub counts_after : Rows → Rows → Counts → Counts
counts_after old new c = record { hits = replaced hits old new c.hits; routs = replaced routs old new c.routs }

-- ---- the question: the hits, or the routs, of a tool; 7 at line 0 for a tool not 1 to 99

abbrev pub count_of : List ℕ → ℕ → Answer
count_of l tool = cond (is_tool tool) (Ok (of_tool l tool)) (refused_at no_such_tool 0)

unfoldable pub hits_answer : Counts → ℕ → Answer
hits_answer c tool = count_of c.hits tool

unfoldable pub routs_answer : Counts → ℕ → Answer
routs_answer c tool = count_of c.routs tool
