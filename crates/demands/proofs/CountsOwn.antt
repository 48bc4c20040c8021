-- The counts are the table's own, since a good table has one list of rows; each line's hole is counted by its row alone, so that counting
-- the holes afresh is counting the rows; and every hole has a tool, so that over all tools the counts sum to the holes.
use mathlib.Core.Path.{◌≡◌, refl, sym, ap, ap₂, ◌∙◌, subst}
use mathlib.Core.Bool.{Bool, true, false, ◌&&◌, cond, false≢true}
use mathlib.Core.List.{List, [], ◌∷◌, ◌++◌}
use Prim.Native.Nat.{ℕ, zero, suc, ◌+◌, ◌-◌, ◌<◌, ◌≤◌}
use native.Mathlib.Omega.{arith}
use native.Mathlib.Decide.{ℕ_discrete}
use borrow.Author.Tests.{eq-eqb, ne_eqb, le-leb, leb-true}
use lib.Dec.{leb, eqb}
use lib.IntN.{ℤ}
use lib.ListN.{length, get_or, take, drop}
use lib.Seq.{take-suc, take-length}
use Rattle.std.specs.Prelude.{Some, Ok}
use Rattle.lists.specs.Put.{put_at}
use Rattle.runs.specs.Machine.{Verdict, accepted, refused, Row, Entry, Span}
use Rattle.runs.proofs.Whole.{hold_one}
use Rattle.points.specs.declared.Point.{Point}
use Rattle.rules.specs.declared.Command.{Command}
use Rattle.rules.specs.declared.Command.TheVariants.{Comment, M48, Metric, Inch, Declare, Percent, G05, G00, Select, Hit, M15, M16, G01, G02, G03, M30}
use Rattle.rules.specs.declared.State.{State}
use Rattle.rules.specs.declared.Refusal.{Refusal}
use Rattle.rules.specs.declared.Revision.{Revision}
use Rattle.rules.specs.declared.Way.{Way}
use Rattle.rules.specs.declared.Hole.{Hole}
use Rattle.rules.specs.Results.{refused_at}
use Rattle.rules.specs.Refusals.{bad_table, no_such_tool}
use Rattle.rules.specs.Numbers.{max_tool, is_tool}
use Rattle.rules.specs.Kinds.{kind_of}
use Rattle.rules.specs.Rows.{entries_of, sizes_fit, table_numbers, Good}
use Rattle.rules.specs.Reading.{Rows, no_row, state_before, read_answer, read_leaves}
use Rattle.rules.specs.Holes.{hole_of}
use Rattle.rules.specs.Asking.{hole_answer, diameter_answer, diameter_in}
use Rattle.rules.specs.Counting.{one, from_tool, each_tool, hits, routs, is_by, how_many, counts_of, counts_fit, read_counts, hits_answer, routs_answer}
use Rattle.rules.specs.Editing.{edit_of, meeting_of, meeting_answer, old_rows, edit_counted, edit_answer, edit_leaves, edit_counts}
use Rattle.rules.specs.Printing.{one_hole}
use Rattle.laws.proofs.EachTool.{of_each}
use Rattle.laws.proofs.HowMany.{how_many-append}
use Rattle.answers.proofs.AcceptedFile.{read_done, read_writes, read_counts_lem}
use Rattle.answers.proofs.GoodTables.{file_table, good_whole}
use Rattle.answers.proofs.LineHoles.{hole_from, good_hole}
use Rattle.answers.proofs.EditSpan.{edit_done, counted_fit, counted_refused}
use Rattle.answers.proofs.OwnCounts.{own_fit, own_after}
use Rattle.demands.specs.CountsOwn.{one_of, afresh, all_holes, total, CountsOwn, CountsSum}
use Rattle.demands.proofs.GoodStays.{edit_good}
use Rattle.demands.proofs.DiametersStand.{diameters_stand}

-- ---- a good table has one list of rows

pub one_rows : (t : List ℤ) (n : ℕ) (rs ss : Rows) → Good t n rs → Good t n ss → rs ≡ ss
one_rows t n rs ss g h = hold_one rs ss (sym g.found ∙ h.found)

-- those of a table that was read are the file's
module _ (rev : Revision) (bs : List ℕ) (t : List ℤ) (n : ℕ) (rs : Rows) (h : read_answer rev bs t ≡ Ok n) (g : Good (read_leaves rev bs t) n rs) where
  pub read_rows : (read_done rev bs t n h).rows ≡ rs
  read_rows =
      let d = read_done rev bs t n h in
      let w : Good (read_leaves rev bs t) (length d.rows) d.rows
      = subst (λ (u : List ℤ). Good u (length d.rows) d.rows) (sym (read_writes rev bs t d.rows d.read d.room))
      (file_table rev bs d.rows d.read (drop (0 + length (table_numbers d.rows)) t)) in
      one_rows (read_leaves rev bs t) n d.rows rs (subst (λ (m : ℕ). Good (read_leaves rev bs t) m d.rows) d.counted w) g

  read_own : read_counts rev bs t ≡ counts_of rs
  read_own = let d = read_done rev bs t n h in read_counts_lem rev bs t d.rows d.read d.room ∙ ap counts_of read_rows

module _ (rev : Revision) (t : List ℤ) (n : ℕ) (rs : Rows) (g : Good t n rs) (k : ℕ) (l : List ℕ) where
  fits : (s : Span Command State) → counts_fit (old_rows (entries_of n t) k s) (counts_of rs) ≡ true
  fits s = ap (λ (es : List (Entry Command State)). counts_fit (old_rows es k s) (counts_of rs)) g.found ∙ own_fit rs k s (good_whole t n rs g).rows.count

  own_verdict : (v : Verdict (Span Command State) Refusal) → edit_of rev t n k l ≡ v → edit_counted rev t n k l (counts_of rs) ≡ v
  own_verdict (accepted s) e = counted_fit rev t n k l (counts_of rs) s e (fits s)
  own_verdict (refused a i) e = counted_refused rev t n k l (counts_of rs) a i e

  own_answer : edit_answer rev t n k l (counts_of rs) ≡ meeting_answer rev t n k l
  unfolding edit_answer meeting_answer
  own_answer = ap meeting_of (own_verdict (edit_of rev t n k l) refl)

  edit_own : (m : ℕ) (ss : Rows) → edit_answer rev t n k l (counts_of rs) ≡ Ok m → Good (edit_leaves rev t n k l (counts_of rs)) n ss
      → edit_counts rev t n k l (counts_of rs) ≡ counts_of ss
  unfolding edit_counts
  edit_own m ss h w =
      let d = edit_done rev t n k l (counts_of rs) m h in
      let e = edit_good rev t n rs g k l (counts_of rs) d.span d.verdict d.fit in
      let q : put_at rs (k - 1) d.span.rows ≡ ss = one_rows (edit_leaves rev t n k l (counts_of rs)) n (put_at rs (k - 1) d.span.rows) ss e.good w in
      rw (counted_fit rev t n k l (counts_of rs) d.span d.verdict d.fit, g.found) (own_after rs k d.span ∙ ap counts_of q)

-- ---- a line's hole by its row

-- both ways, and as a hole at all
row_hole : (c : Command) (from : Point) (s : State) (tool : ℕ)
    → (one_of hits tool (hole_of from c s) ≡ one (is_by hits c && eqb s.tool tool)) × (one_of routs tool (hole_of from c s) ≡ one (is_by routs c && eqb s.tool tool))
    × (one_hole (hole_of from c s) ≡ one (is_by hits c) + one (is_by routs c))
unfolding hole_of
row_hole Comment from s tool = (refl, refl, refl)
row_hole M48 from s tool = (refl, refl, refl)
row_hole Metric from s tool = (refl, refl, refl)
row_hole Inch from s tool = (refl, refl, refl)
row_hole (Declare u d) from s tool = (refl, refl, refl)
row_hole Percent from s tool = (refl, refl, refl)
row_hole G05 from s tool = (refl, refl, refl)
row_hole (G00 p) from s tool = (refl, refl, refl)
row_hole (Select u) from s tool = (refl, refl, refl)
row_hole (Hit p) from s tool = (refl, refl, refl)
row_hole M15 from s tool = (refl, refl, refl)
row_hole M16 from s tool = (refl, refl, refl)
row_hole (G01 p) from s tool = (refl, refl, refl)
row_hole (G02 a) from s tool = (refl, refl, refl)
row_hole (G03 a) from s tool = (refl, refl, refl)
row_hole M30 from s tool = (refl, refl, refl)

-- of rows
unfoldable holes_of : Rows → ℕ
holes_of [] = 0
holes_of (r ∷ rs) = one (is_by hits r.command) + one (is_by routs r.command) + holes_of rs

holes_append : (xs ys : Rows) → holes_of (xs ++ ys) ≡ holes_of xs + holes_of ys
unfolding holes_of
holes_append [] ys = omega arith
holes_append (x ∷ xs) ys = omega (arith, holes_append xs ys)

module _ (t : List ℤ) (n : ℕ) (rs : Rows) (g : Good t n rs) where
  count : n ≡ length rs
  count = sym (good_whole t n rs g).count

  next : (j : ℕ) → j < n → take (suc j) rs ≡ take j rs ++ (get_or rs j no_row ∷ [])
  next j h = take-suc rs j no_row (omega (arith, count))

  line_hole : (j : ℕ) → j < n → hole_answer t n (suc j) ≡ hole_from (state_before rs (suc j)) (get_or rs j no_row)
  line_hole j h =
      let z : suc j - 1 ≡ j = omega arith in
      good_hole t n rs g count (suc j) (omega arith) (omega arith) ∙ ap (λ (i : ℕ). hole_from (state_before rs (suc j)) (get_or rs i no_row)) z

  one_row : (r : Row Command State) → holes_of (r ∷ []) ≡ one (is_by hits r.command) + one (is_by routs r.command)
  unfolding holes_of
  one_row r = omega arith

  all_upto : (j : ℕ) → j ≤ n → all_holes t n j ≡ holes_of (take j rs)
  unfolding all_holes holes_of
  all_upto zero h = refl
  all_upto (suc j) h =
      let r = get_or rs j no_row in
      let e = ap one_hole (line_hole j (omega arith)) ∙ (row_hole r.command (state_before rs (suc j)).at r.state 0).2 in
      ap₂ ◌+◌ (all_upto j (omega arith)) e ∙ sym (ap holes_of (next j (omega arith)) ∙ holes_append (take j rs) (r ∷ []) ∙ ap (λ (m : ℕ). holes_of (take j rs) + m) (one_row r))

  module _ (tool : ℕ) where
    how_many-one : (w : Way) (r : Row Command State) → how_many w (r ∷ []) tool ≡ one (is_by w r.command && eqb r.state.tool tool)
    unfolding how_many
    how_many-one w r = omega arith

    hits_upto : (j : ℕ) → j ≤ n → afresh hits tool t n j ≡ how_many hits (take j rs) tool
    unfolding afresh how_many
    hits_upto zero h = refl
    hits_upto (suc j) h =
        let r = get_or rs j no_row in
        let e = ap (one_of hits tool) (line_hole j (omega arith)) ∙ (row_hole r.command (state_before rs (suc j)).at r.state tool).0 in
        ap₂ ◌+◌ (hits_upto j (omega arith)) e
        ∙ sym (ap (λ (z : Rows). how_many hits z tool) (next j (omega arith)) ∙ how_many-append hits tool (take j rs) (r ∷ []) ∙ ap (λ (m : ℕ). how_many hits (take j rs) tool + m) (how_many-one hits r))

    routs_upto : (j : ℕ) → j ≤ n → afresh routs tool t n j ≡ how_many routs (take j rs) tool
    unfolding afresh how_many
    routs_upto zero h = refl
    routs_upto (suc j) h =
        let r = get_or rs j no_row in
        let e = ap (one_of routs tool) (line_hole j (omega arith)) ∙ (row_hole r.command (state_before rs (suc j)).at r.state tool).1 in
        ap₂ ◌+◌ (routs_upto j (omega arith)) e
        ∙ sym (ap (λ (z : Rows). how_many routs z tool) (next j (omega arith)) ∙ how_many-append routs tool (take j rs) (r ∷ []) ∙ ap (λ (m : ℕ). how_many routs (take j rs) tool + m) (how_many-one routs r))

  all_rows : take n rs ≡ rs
  all_rows = ap (λ (j : ℕ). take j rs) count ∙ take-length rs

  module _ (tool : ℕ) (p : 1 ≤ tool) (q : tool ≤ max_tool) where
    is_tool_lem : is_tool tool ≡ true
    unfolding is_tool
    is_tool_lem = rw (le-leb 1 tool p, le-leb tool max_tool q)

    hits_asked : hits_answer (counts_of rs) tool ≡ Ok (afresh hits tool t n n)
    unfolding hits_answer counts_of
    hits_asked = rw is_tool_lem (ap Ok (of_each (how_many hits rs) tool p q ∙ sym (hits_upto tool n (omega arith) ∙ ap (λ (z : Rows). how_many hits z tool) all_rows)))

    routs_asked : routs_answer (counts_of rs) tool ≡ Ok (afresh routs tool t n n)
    unfolding routs_answer counts_of
    routs_asked = rw is_tool_lem (ap Ok (of_each (how_many routs rs) tool p q ∙ sym (routs_upto tool n (omega arith) ∙ ap (λ (z : Rows). how_many routs z tool) all_rows)))

pub counts_own : CountsOwn
counts_own = record { read = read_own; fit = own_answer; edit = edit_own; hits = hits_asked; routs = routs_asked }

-- ---- the sum over all tools

total_add : (k t : ℕ) (f g : ℕ → ℕ) → total (from_tool t k (λ u. f u + g u)) ≡ total (from_tool t k f) + total (from_tool t k g)
unfolding total from_tool
total_add zero t f g = refl
total_add (suc k) t f g = omega (arith, total_add k (t + 1) f g)

total_none : (k t : ℕ) → total (from_tool t k (λ _. 0)) ≡ 0
unfolding total from_tool
total_none zero t = refl
total_none (suc k) t = omega (arith, total_none k (t + 1))

-- a tool that is past, and one that comes
total_past : (k t u : ℕ) → u < t → total (from_tool t k (λ v. one (eqb u v))) ≡ 0
unfolding total from_tool
total_past zero t u h = refl
total_past (suc k) t u h = rw (ne_eqb u t (omega arith)) (omega (arith, total_past k (t + 1) u (omega arith)))

total_once : (k t u : ℕ) → t ≤ u → u < t + k → total (from_tool t k (λ v. one (eqb u v))) ≡ 1
unfolding total from_tool
total_once zero t u a b = absurd (omega arith)
total_once (suc k) t u a b = by (ℕ_discrete u t) (λ n. total_once k (t + 1) u (omega arith) (omega arith))
  where
    by : Dec (u ≡ t) → ((u ≡ t → ⊥) → total (from_tool (t + 1) k (λ v. one (eqb u v))) ≡ 1) → one (eqb u t) + total (from_tool (t + 1) k (λ v. one (eqb u v))) ≡ 1
    by (yes e) f = rw (eq-eqb u t e) (omega (arith, total_past k (t + 1) u (omega arith)))
    by (no n) f = rw (ne_eqb u t n) (omega (arith, f n))

-- what a row adds, where a hole's tool is one of all
total_row : (b : Bool) (u : ℕ) → (b ≡ true → (1 ≤ u) × (u ≤ max_tool)) → total (each_tool (λ v. one (b && eqb u v))) ≡ one b
total_row true u h = let w = h refl in total_once max_tool 1 u w.0 (omega (arith, w.1))
total_row false u h = total_none max_tool 1

-- each row's tool is one of all where it makes a hole
abbrev ToolsOk : Rows → Type 0
ToolsOk [] = Unit {0}
ToolsOk (r ∷ rs) = (one_hole (hole_of r.state.at r.command r.state) ≡ 1 → (1 ≤ r.state.tool) × (r.state.tool ≤ max_tool)) × ToolsOk rs

module _ (w : Way) where
  total_cons : (r : Row Command State) (rs : Rows) → (is_by w r.command ≡ true → (1 ≤ r.state.tool) × (r.state.tool ≤ max_tool))
      → total (each_tool (how_many w (r ∷ rs))) ≡ one (is_by w r.command) + total (each_tool (how_many w rs))
  unfolding how_many
  total_cons r rs h =
      total_add max_tool 1 (λ v. one (is_by w r.command && eqb r.state.tool v)) (how_many w rs)
      ∙ ap (λ (m : ℕ). m + total (each_tool (how_many w rs))) (total_row (is_by w r.command) r.state.tool h)

-- a hit is no rout
one_way : (c : Command) → (is_by hits c ≡ true → is_by routs c ≡ false) × (is_by routs c ≡ true → is_by hits c ≡ false)
one_way Comment = (λ h. absurd (false≢true h), λ h. absurd (false≢true h))
one_way M48 = (λ h. absurd (false≢true h), λ h. absurd (false≢true h))
one_way Metric = (λ h. absurd (false≢true h), λ h. absurd (false≢true h))
one_way Inch = (λ h. absurd (false≢true h), λ h. absurd (false≢true h))
one_way (Declare u d) = (λ h. absurd (false≢true h), λ h. absurd (false≢true h))
one_way Percent = (λ h. absurd (false≢true h), λ h. absurd (false≢true h))
one_way G05 = (λ h. absurd (false≢true h), λ h. absurd (false≢true h))
one_way (G00 p) = (λ h. absurd (false≢true h), λ h. absurd (false≢true h))
one_way (Select u) = (λ h. absurd (false≢true h), λ h. absurd (false≢true h))
one_way (Hit p) = (λ _. refl, λ h. absurd (false≢true h))
one_way M15 = (λ h. absurd (false≢true h), λ h. absurd (false≢true h))
one_way M16 = (λ h. absurd (false≢true h), λ h. absurd (false≢true h))
one_way (G01 p) = (λ h. absurd (false≢true h), λ _. refl)
one_way (G02 a) = (λ h. absurd (false≢true h), λ _. refl)
one_way (G03 a) = (λ h. absurd (false≢true h), λ _. refl)
one_way M30 = (λ h. absurd (false≢true h), λ h. absurd (false≢true h))

none_of : (w : Way) → total (each_tool (how_many w [])) ≡ 0
unfolding how_many
none_of w = total_none max_tool 1

sum_rows : (rs : Rows) → ToolsOk rs → total (each_tool (how_many hits rs)) + total (each_tool (how_many routs rs)) ≡ holes_of rs
unfolding holes_of
sum_rows [] h = omega (arith, none_of hits, none_of routs)
sum_rows (r ∷ rs) h =
    let e = (row_hole r.command r.state.at r.state 0).2 in
    let x = total_cons hits r rs (λ q. h.0 (e ∙ rw (q, (one_way r.command).0 q))) in
    let y = total_cons routs r rs (λ q. h.0 (e ∙ rw ((one_way r.command).1 q, q))) in
    omega (arith, x, y, sum_rows rs h.1)

-- the tools of a good table's holes: each has a diameter
has_tool : (t : List ℤ) (n tool d : ℕ) → diameter_answer t n tool ≡ Ok d → (1 ≤ tool) × (tool ≤ max_tool)
unfolding diameter_answer is_tool
has_tool t n tool d h = by (sizes_fit t n) (leb 1 tool) (leb tool max_tool) refl refl h
  where
    by : (a b c : Bool) → leb 1 tool ≡ b → leb tool max_tool ≡ c → cond a (cond (b && c) (diameter_in tool (entries_of n t) 0) (refused_at no_such_tool 0)) (refused_at bad_table 0) ≡ Ok d
        → (1 ≤ tool) × (tool ≤ max_tool)
    by true true true f q e = (leb-true 1 tool f, leb-true tool max_tool q)
    by true true false f q e = absurd (let z : ◌≡◌ {A = ℕ} 0 1 = cc in omega arith)
    by true false c f q e = absurd (let z : ◌≡◌ {A = ℕ} 0 1 = cc in omega arith)
    by false b c f q e = absurd (let z : ◌≡◌ {A = ℕ} 0 1 = cc in omega arith)

-- whatever the point before, a row that makes a hole makes it with its own tool
hole_made : (c : Command) (from at : Point) (s : State) → one_hole (hole_of at c s) ≡ 1 → (h : Hole) × ((hole_of from c s ≡ Ok (Some h)) × (h.tool ≡ s.tool))
unfolding hole_of
hole_made Comment from at s h = absurd (omega arith)
hole_made M48 from at s h = absurd (omega arith)
hole_made Metric from at s h = absurd (omega arith)
hole_made Inch from at s h = absurd (omega arith)
hole_made (Declare u d) from at s h = absurd (omega arith)
hole_made Percent from at s h = absurd (omega arith)
hole_made G05 from at s h = absurd (omega arith)
hole_made (G00 p) from at s h = absurd (omega arith)
hole_made (Select u) from at s h = absurd (omega arith)
hole_made (Hit p) from at s h = (record { kind = kind_of (Hit p); tool = s.tool; start = p; end = p; radius = 0 }, (refl, refl))
hole_made M15 from at s h = absurd (omega arith)
hole_made M16 from at s h = absurd (omega arith)
hole_made (G01 p) from at s h = (record { kind = kind_of (G01 p); tool = s.tool; start = from; end = p; radius = 0 }, (refl, refl))
hole_made (G02 a) from at s h = (record { kind = kind_of (G02 a); tool = s.tool; start = from; end = a.to; radius = a.radius }, (refl, refl))
hole_made (G03 a) from at s h = (record { kind = kind_of (G03 a); tool = s.tool; start = from; end = a.to; radius = a.radius }, (refl, refl))
hole_made M30 from at s h = absurd (omega arith)

tools_from : (rs : Rows)
    → ((j : ℕ) → j < length rs → one_hole (hole_of (get_or rs j no_row).state.at (get_or rs j no_row).command (get_or rs j no_row).state) ≡ 1
    → (1 ≤ (get_or rs j no_row).state.tool) × ((get_or rs j no_row).state.tool ≤ max_tool)) → ToolsOk rs
tools_from [] h = tt
tools_from (r ∷ rs) h = (h 0 (omega arith), tools_from rs (λ j q. h (suc j) (omega arith)))

module _ (t : List ℤ) (n : ℕ) (rs : Rows) (g : Good t n rs) where
  line_tool : (j : ℕ) → j < length rs → one_hole (hole_of (get_or rs j no_row).state.at (get_or rs j no_row).command (get_or rs j no_row).state) ≡ 1
      → (1 ≤ (get_or rs j no_row).state.tool) × ((get_or rs j no_row).state.tool ≤ max_tool)
  line_tool j q h =
      let r = get_or rs j no_row in
      let m = hole_made r.command (state_before rs (suc j)).at r.state.at r.state h in
      let d = (diameters_stand.good t n rs g).of_holes (suc j) m.0 (line_hole t n rs g j (omega (arith, count t n rs g)) ∙ m.1.0) in
      let w = has_tool t n m.0.tool d.0 d.1 in
      (omega (arith, w.0, m.1.1), omega (arith, w.1, m.1.1))

  sum_is : total (counts_of rs).hits + total (counts_of rs).routs ≡ all_holes t n n
  unfolding counts_of
  sum_is = sum_rows rs (tools_from rs line_tool) ∙ sym (all_upto t n rs g n (omega arith) ∙ ap holes_of (all_rows t n rs g))

pub counts_sum : CountsSum
counts_sum = record { sum = sum_is }
