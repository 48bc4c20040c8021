-- What stands of diameters. A good table's answer is told by its rows' commands; no two of these declare the same tool, a
-- hole's tool is declared by one, and an edit leaves all but its own line's.
use mathlib.Core.Path.{◌≡◌, refl, sym, ap, ◌∙◌, subst}
use mathlib.Core.Bool.{Bool, true, false, cond}
use mathlib.Core.List.{List}
use Prim.Native.Nat.{ℕ, suc, ◌-◌, ◌≤◌}
use native.Mathlib.Omega.{arith}
use lib.IntN.{ℤ}
use lib.ListN.{length, get_or, set}
use lib.Seq.{get_or-append_seam, set-append_seam}
use Rattle.std.specs.Prelude.{Some, Ok}
use Rattle.lists.specs.Put.{put_at}
use Rattle.lists.proofs.Around.{around_line}
use Rattle.runs.specs.Machine.{yields, accepted, all_hold, Span, commands_of, Follows, StepBy}
use Rattle.runs.proofs.Given.{commands_length, commands_at}
use Rattle.rules.specs.declared.Command.{Command}
use Rattle.rules.specs.declared.Command.TheVariants.{Comment}
use Rattle.rules.specs.declared.State.{State}
use Rattle.rules.specs.declared.Hole.{Hole}
use Rattle.rules.specs.declared.Revision.{Revision}
use Rattle.rules.specs.declared.Counts.{Counts}
use Rattle.rules.specs.Results.{DiameterAnswer, refused_at}
use Rattle.rules.specs.Refusals.{no_such_line, no_such_tool}
use Rattle.rules.specs.Numbers.{max_tool, is_tool}
use Rattle.rules.specs.Ranges.{NumberOk, CommandOk}
use Rattle.rules.specs.State.{start, taken}
use Rattle.rules.specs.Spelling.{SpellsLine}
use Rattle.rules.specs.Rows.{Good}
use Rattle.rules.specs.Reading.{Rows, no_row, row_of}
use Rattle.rules.specs.Editing.{is_line, edit_rows, edit_answer, edit_leaves}
use Rattle.rules.specs.Asking.{hole_in, hole_answer, diameter_answer}
use Rattle.laws.proofs.Sizes.{line_says}
use Rattle.laws.proofs.InRange.{RowsOk, row_ok}
use Rattle.laws.proofs.Diameters.{diameter_by, HasDiameter, diameter_rows, passed_over, found_row}
use Rattle.obeys.proofs.Ranges.{tool_read}
use Rattle.obeys.proofs.Lines as Lines
use Rattle.obeys.proofs.Declares.{one_declaration, declared_diameter}
use Rattle.obeys.proofs.Selected.{hole_diameter}
use Rattle.answers.proofs.GoodTables.{good_whole}
use Rattle.answers.proofs.LineHoles.{hole_here}
use Rattle.answers.proofs.HoleRanges.{hole_in_range}
use Rattle.answers.proofs.EditSpan.{edit_done}
use Rattle.demands.specs.DiametersStand.{DeclaredAt, LeavesTool, DiametersStand}
use Rattle.demands.proofs.EditRows.{edit_given, edit_commands}
use Rattle.demands.proofs.Demand3.{demand_3}
use Rattle.demands.proofs.GoodStays.{edit_good}

-- the answer, by the rows' commands
abbrev diameter_of : ℕ → List Command → DiameterAnswer
diameter_of tool cs = cond (is_tool tool) (diameter_by tool cs) (refused_at no_such_tool 0)

good_diameter : (t : List ℤ) (n : ℕ) (rs : Rows) → Good t n rs → (tool : ℕ) → diameter_answer t n tool ≡ diameter_of tool (commands_of rs)
unfolding diameter_answer
good_diameter t n rs g tool = rw (g.fits, g.found, diameter_rows tool rs 0)

-- ---- a good table

module _ (t : List ℤ) (n : ℕ) (rs : Rows) (g : Good t n rs) where
  ok : RowsOk rs
  ok = (good_whole t n rs g).rows.within_range

  module _ {tool d j : ℕ} (w : DeclaredAt rs tool d j) where
    within_range : NumberOk 1 max_tool tool
    within_range = (subst CommandOk w.row (row_ok rs (j - 1) ok)).0

    its_diameter : diameter_answer t n tool ≡ Ok d
    its_diameter =
        good_diameter t n rs g tool
        ∙ rw (tool_read (record { low = within_range.low; high = within_range.high }))
        (declared_diameter tool within_range.high rs g.follows ok (j - 1) d w.row)

  one_row : (tool c d i j : ℕ) → DeclaredAt rs tool c i → DeclaredAt rs tool d j → (i ≡ j) × (c ≡ d)
  one_row tool c d i j v w =
      let e = one_declaration tool (within_range v).high rs g.follows ok (i - 1) (j - 1) c d v.row w.row in
      let f : Ok c ≡ Ok d = sym (its_diameter v) ∙ its_diameter w in
      (omega (arith, e, v.from, w.from), cc)

  by_row : (tool d : ℕ) → diameter_by tool (commands_of rs) ≡ Ok d → (j : ℕ) × DeclaredAt rs tool d j
  by_row tool d e =
      let w = found_row tool rs d e in
      let n : suc w.0 - 1 ≡ w.0 = omega arith in
      (suc w.0, record { from = omega arith; upto = omega (arith, w.1); row = rw n w.2 })

  its_row : (tool d : ℕ) → diameter_answer t n tool ≡ Ok d → (j : ℕ) × DeclaredAt rs tool d j
  its_row tool d e = by (is_tool tool) (sym (good_diameter t n rs g tool) ∙ e)
    where
      by : (b : Bool) → cond b (diameter_by tool (commands_of rs)) (refused_at no_such_tool 0) ≡ Ok d → (j : ℕ) × DeclaredAt rs tool d j
      by true f = by_row tool d f
      by false f = absurd (let z : ◌≡◌ {A = ℕ} 0 1 = cc in omega arith)

  -- ---- a hole's tool

  hole_row : (k : ℕ) (h : Hole) → h.tool ≤ max_tool → 1 ≤ k → k ≤ length rs → hole_in (all_hold rs) k ≡ Ok (Some h) → HasDiameter h.tool rs
  hole_row k h low a b e =
      around_line (λ z _. Follows (StepBy taken) start 0 z → RowsOk z → hole_in (all_hold z) k ≡ Ok (Some h) → HasDiameter h.tool z) rs k a b
      (λ os r ys f g w q. hole_diameter os r ys g w h low (sym (hole_here os r ys k f) ∙ q)) g.follows ok e

  of_holes : (k : ℕ) (h : Hole) → hole_answer t n k ≡ Ok (Some h) → (d : ℕ) × (diameter_answer t n h.tool ≡ Ok d)
  unfolding hole_answer
  of_holes k h e = by (is_line n k) refl (rw (g.fits, g.found) at e)
    where
      by : (b : Bool) → is_line n k ≡ b → cond b (hole_in (all_hold rs) k) (refused_at no_such_line 0) ≡ Ok (Some h)
          → (d : ℕ) × (diameter_answer t n h.tool ≡ Ok d)
      by true f q =
          let p = line_says n k f in
          let w = hole_row k h (hole_in_range t n k h e).tool_range p.0 (omega (arith, p.1, (good_whole t n rs g).count)) q in
          (w.0, its_diameter (by_row h.tool w.0 w.1).1)
      by false f q = absurd (let z : ◌≡◌ {A = ℕ} 0 1 = cc in omega arith)

-- ---- an accepted edit

-- a command that leaves the tool, in the place of another
diameter_set : (tool : ℕ) (c : Command) → LeavesTool tool c → (cs : List Command) (k : ℕ) → 1 ≤ k → k ≤ length cs → LeavesTool tool (get_or cs (k - 1) Comment)
    → diameter_by tool (set cs (k - 1) c) ≡ diameter_by tool cs
diameter_set tool c new cs k a b =
    around_line (λ z j. LeavesTool tool (get_or z j Comment) → diameter_by tool (set z j c) ≡ diameter_by tool z) cs k a b
    (λ os o ys e old. ap (diameter_by tool) (set-append_seam os o ys c) ∙ passed_over tool os ys c new
    ∙ sym (passed_over tool os ys o (subst (LeavesTool tool) (get_or-append_seam os o ys Comment) old)))

diameter_left : {rev : Revision} (tool k : ℕ) (l : List ℕ) (s : Span Command State) → ((c : Command) → SpellsLine rev l c → LeavesTool tool c)
    → (rs : Rows) → 1 ≤ k → k ≤ length rs → edit_rows rev (all_hold rs) k l ≡ accepted s → LeavesTool tool (row_of rs k).command
    → diameter_by tool (commands_of (put_at rs (k - 1) s.rows)) ≡ diameter_by tool (commands_of rs)
diameter_left {rev} tool k l s new rs a b h old =
    let g = edit_given rev rs k a b l s h in
    ap (diameter_by tool) (edit_commands rev rs k a b l s h)
    ∙ diameter_set tool g.command (new g.command ((Lines.line_says rev l (yields g.command)).0 g.said)) (commands_of rs) k a (omega (arith, commands_length rs))
    (subst (LeavesTool tool) (sym (commands_at rs (k - 1) no_row)) old)

after_edit : {rev : Revision} (t : List ℤ) (n : ℕ) (rs : Rows) → Good t n rs → (k : ℕ) (l : List ℕ) (counts : Counts) (m tool : ℕ) → edit_answer rev t n k l counts ≡ Ok m
    → LeavesTool tool (row_of rs k).command → ((c : Command) → SpellsLine rev l c → LeavesTool tool c)
    → diameter_answer (edit_leaves rev t n k l counts) n tool ≡ diameter_answer t n tool
after_edit {rev} t n rs g k l counts m tool h old new =
    let d = edit_done rev t n k l counts m h in
    let e = edit_good rev t n rs g k l counts d.span d.verdict d.fit in
    good_diameter (edit_leaves rev t n k l counts) n (put_at rs (k - 1) d.span.rows) e.good tool
    ∙ ap (λ (a : DiameterAnswer). cond (is_tool tool) a (refused_at no_such_tool 0))
    (diameter_left tool k l d.span new rs e.from e.upto e.made old)
    ∙ sym (good_diameter t n rs g tool)

-- ---- all of it

pub diameters_stand : DiametersStand
diameters_stand = record {
  good = λ t n rs g. record {
    one_row = one_row t n rs g;
    its_diameter = λ tool d j w. its_diameter t n rs g w;
    its_row = its_row t n rs g;
    of_holes = of_holes t n rs g;
    after_edit = λ rev. after_edit t n rs g;
  };
  afresh = λ rev bs t n h k w l hl hb.
      let same = ((demand_3 rev).as_read_afresh bs t n h k w l hl hb).table in
      record {
        diameter = λ tool. ap (λ (u : List ℤ). diameter_answer u n tool) same;
        hole = λ j. ap (λ (u : List ℤ). hole_answer u n j) same;
      };
}
