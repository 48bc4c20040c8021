-- Which refusals come, and at which lines: a property of a refusal and its line that each one which can come has is one of that
-- which comes. One walk through reading, editing, writing and asking.
use mathlib.Core.Path.{◌≡◌, ap, subst}
use mathlib.Core.List.{List, [], ◌∷◌, ◌++◌}
use Prim.Native.Nat.{ℕ, ◌+◌, ◌-◌, ◌≤◌}
use native.Mathlib.Omega.{arith}
use lib.IntN.{ℤ}
use lib.ListN.{length, drop, length-append, length-drop}
use Rattle.std.specs.Prelude.{Some, None, Ok, Err}
use Rattle.lists.proofs.Choice.{cond_all}
use Rattle.runs.specs.Machine.{stops, Verdict, accepted, refused, Row, Entry, holds, bad, Span, widen, rerun, follow, before}
use Rattle.runs.proofs.Ways.{out_all}
use Rattle.rules.specs.declared.Command.{Command}
use Rattle.rules.specs.declared.State.{State}
use Rattle.rules.specs.declared.Refusal.{Refusal}
use Rattle.rules.specs.declared.Revision.{Revision}
use Rattle.rules.specs.Results.{DiameterAnswer, HoleAnswer}
use Rattle.rules.specs.Refusals.{file_too_long, too_many_lines, line_not_ended, line_too_long, forbidden_byte, no_such_form, out_of_range, wrong_phase, wrong_motion, declared_already, not_declared, no_tool_selected, impossible_arc, ends_too_soon, no_such_line, no_such_tool, holds_line_end, bad_table}
use Rattle.rules.specs.Numbers.{max_lines, max_line, is_tool}
use Rattle.rules.specs.Commands.{line_of}
use Rattle.rules.specs.State.{start, taken, has_ended, same_state}
use Rattle.rules.specs.Rows.{entries_of, sizes_fit}
use Rattle.rules.specs.Reading.{say_out, Rows}
use Rattle.rules.specs.Editing.{is_line, no_line_end, entry_at, state_in, before_line, rerun_from, edit_from, edit_rows, edit_of}
use Rattle.rules.specs.Asking.{hole_in, hole_answer, declared_by, diameter_in, diameter_answer}
use Rattle.rules.specs.Writing.{follow_from, rows_of}
use Rattle.laws.proofs.Sizes.{sizes_say}
use Rattle.laws.proofs.Sizes as Sizes
use Rattle.laws.proofs.Entries.{entries_length}
use Rattle.laws.proofs.Ways.{before_all, row_all, declared_all, hole_all}
use Rattle.obeys.specs.Faults.{Untaken, in_wrong_phase, in_wrong_motion, declared, undeclared, hit_without, down_without, g02_impossible, g03_impossible, LineRefused, too_long, forbidden, no_form, number_out_of_range, Fault, missing, too_many, not_ended, unread, untaken, Faulty, too_large, at_line}
use Rattle.obeys.proofs.Ranges.{out_within}
use Rattle.obeys.proofs.Lines.{line_says}
use Rattle.obeys.proofs.Files.{taken_refused}

-- ---- a property of every refusal that comes

abbrev pub Told : {A : Type 0} → (Refusal → ℕ → Type 0) → Verdict A Refusal → Type 0
Told P (accepted a) = Unit {0}
Told P (refused e i) = P e i

abbrev pub HoleTold : (Refusal → ℕ → Type 0) → HoleAnswer → Type 0
HoleTold P (Ok (Some h)) = Unit {0}
HoleTold P (Ok None) = Unit {0}
HoleTold P (Err r) = P r.refusal r.line

abbrev pub DiameterTold : (Refusal → ℕ → Type 0) → DiameterAnswer → Type 0
DiameterTold P (Ok d) = Unit {0}
DiameterTold P (Err r) = P r.refusal r.line

-- of those of a line's bytes, where a column lies in the longest line; and of a step
pub record OfLine (P : Refusal → Type 0) : Type 0 where
  pub long : P line_too_long
  pub byte : (c : ℕ) → 1 ≤ c → c ≤ max_line → P (forbidden_byte c)
  pub form : P no_such_form
  pub range : (c : ℕ) → 1 ≤ c → c ≤ max_line → P (out_of_range c)

pub record OfStep (P : Refusal → Type 0) : Type 0 where
  pub phase : P wrong_phase
  pub motion : P wrong_motion
  pub again : P declared_already
  pub undeclared : P not_declared
  pub unselected : P no_tool_selected
  pub arc : P impossible_arc

-- and of the rows of a table, up to row n
pub record OfRows (P : Refusal → ℕ → Type 0) (n : ℕ) : Type 0 where
  pub steps : (j : ℕ) → j ≤ n → OfStep (λ e. P e j)
  pub damaged : (j : ℕ) → j ≤ n → P bad_table j
  pub short : P ends_too_soon (n + 1)

-- ---- a line

module _ (P : Refusal → Type 0) (h : OfLine P) where
  refused_of : {rev : Revision} {l : List ℕ} {e : Refusal} → LineRefused rev l e → P e
  refused_of (too_long n) = h.long
  refused_of {l = l} (forbidden rest {a = a} {b = b} s e p n) =
      let k : length l ≡ length (a ++ (b ∷ rest)) = ap length e in
      h.byte (length a + 1) (omega arith) (omega (arith, k, length-append a (b ∷ rest)))
  refused_of (no_form s p n) = h.form
  refused_of (number_out_of_range {c = c} s p w o) = let k = out_within w o in h.range c k.0 (omega (arith, k.1))

-- ---- a step

module _ (P : Refusal → Type 0) (h : OfStep P) where
  untaken_of : {s : State} {c : Command} {e : Refusal} → Untaken s c e → P e
  untaken_of (in_wrong_phase n) = h.phase
  untaken_of (in_wrong_motion p n) = h.motion
  untaken_of (declared p n) = h.again
  untaken_of (undeclared p n) = h.undeclared
  untaken_of (hit_without m n) = h.unselected
  untaken_of (down_without m n) = h.unselected
  untaken_of (g02_impossible m n) = h.arc
  untaken_of (g03_impossible m n) = h.arc

-- ---- a file

-- at line i, which a file may have or which is missing after its last
pub record OfFile (P : Refusal → ℕ → Type 0) (i : ℕ) : Type 0 where
  pub line : OfLine (λ e. P e i)
  pub step : OfStep (λ e. P e i)
  pub many : P too_many_lines i
  pub unended : P line_not_ended i
  pub short : P ends_too_soon i

module _ (P : Refusal → ℕ → Type 0) (large : P file_too_long 0) (lines : (i : ℕ) → i ≤ max_lines + 1 → OfFile P i) where
  fault_of : {rev : Revision} {i : ℕ} {p : State} {bs : List ℕ} {e : Refusal} → OfFile P i → Fault rev i p bs e → P e i
  fault_of h (missing d n) = h.short
  fault_of h (too_many m n) = h.many
  fault_of h (not_ended m n f) = h.unended
  fault_of {rev} {i} h (unread n w r) = refused_of (λ e. P e i) h.line r
  fault_of {rev} {i} h (untaken n w s u) = untaken_of (λ e. P e i) h.step u

  pub faulty_told : {rev : Revision} {bs : List ℕ} {e : Refusal} {i : ℕ} → Faulty rev bs e i → P e i
  faulty_told (too_large n) = large
  faulty_told (at_line {rs = rs} m d n w g f) = fault_of (lines (length rs + 1) (omega arith)) f

-- ---- rows rerun, and rows that must follow

module _ (P : Refusal → ℕ → Type 0) (n : ℕ) where
  widen_told : (r : Row Command State) (v : Verdict (Span Command State) Refusal) → Told P v → Told P (widen r v)
  widen_told r (accepted s) h = tt
  widen_told r (refused e i) h = h

  rerun_told : OfRows P n → (p : State) (es : List (Entry Command State)) (i : ℕ) → i + length es ≡ n → Told P (rerun_from p es i)
  unfolding rerun
  rerun_told o p [] i h =
      let m : n + 1 ≡ i + 1 = omega arith in
      cond_all (Told P) (has_ended p) (λ _. tt) (λ _. subst (P ends_too_soon) m o.short)
  rerun_told o p (bad ∷ es) i h = o.damaged (i + 1) (omega arith)
  rerun_told o p (holds r ∷ es) i h =
      out_all (Told P) (taken p r.command)
      (λ e d. untaken_of (λ a. P a (i + 1)) (o.steps (i + 1) (omega arith)) (taken_refused p r.command e d))
      (λ q _. cond_all (Told P) (same_state q r.state) (λ _. tt)
      (λ _. widen_told (record { command = r.command; state = q }) (rerun_from q es (i + 1)) (rerun_told o q es (i + 1) (omega arith))))

  before_told : (r : Row Command State) (v : Verdict Rows Refusal) → Told P v → Told P (before r v)
  before_told r (accepted rs) h = tt
  before_told r (refused e i) h = h

  follow_told : ((j : ℕ) → j ≤ n → P bad_table j) → (p : State) (es : List (Entry Command State)) (i : ℕ) → i + length es ≡ n → Told P (follow_from p es i)
  unfolding follow
  follow_told o p [] i h = cond_all (Told P) (has_ended p) (λ _. tt) (λ _. o i (omega arith))
  follow_told o p (bad ∷ es) i h = o (i + 1) (omega arith)
  follow_told o p (holds r ∷ es) i h =
      out_all (Told P) (taken p r.command) (λ _ _. o (i + 1) (omega arith))
      (λ q _. cond_all (Told P) (same_state q r.state)
      (λ _. before_told r (follow_from q es (i + 1)) (follow_told o q es (i + 1) (omega arith))) (λ _. o (i + 1) (omega arith)))

  diameter_told : ((j : ℕ) → j ≤ n → P bad_table j) → P not_declared 0 → (t : ℕ) (es : List (Entry Command State)) (i : ℕ) → i + length es ≡ n
      → DiameterTold P (diameter_in t es i)
  unfolding diameter_in
  diameter_told o z t [] i h = z
  diameter_told o z t (bad ∷ es) i h = o (i + 1) (omega arith)
  diameter_told o z t (holds r ∷ es) i h = declared_all (DiameterTold P) (declared_by t r.command) (diameter_told o z t es (i + 1) (omega arith)) (λ _. tt)

-- ---- the answers: the sizes are tested first, so a line after that is also one that a file may have

module _ (P : Refusal → ℕ → Type 0) (t : List ℤ) (n : ℕ) (sizes : P bad_table 0) where
  pub edit_told : (rev : Revision) (k : ℕ) (l : List ℕ) → P no_such_line 0 → P holds_line_end 0 → (n ≤ max_lines → OfRows P n) → (n ≤ max_lines → k ≤ n → OfLine (λ e. P e k))
      → Told P (edit_of rev t n k l)
  unfolding edit_of edit_rows edit_from
  edit_told rev k l a b rows line =
      cond_all (Told P) (sizes_fit t n)
      (λ s. cond_all (Told P) (is_line n k)
      (λ q. cond_all (Told P) (no_line_end l)
      (λ _.
      let few = (sizes_say t n s).few in
      let o = rows few in
      let p = Sizes.line_says n k q in
      let m = entries_length n t in
      before_all (Told P) (before_line k (entry_at (entries_of n t) (k - 1))) (o.damaged (k - 1) (omega arith))
      (λ s. before_all (Told P) (state_in (entry_at (entries_of n t) k)) (o.damaged k p.1)
      (λ z. out_all (Told P) (say_out (line_of rev l)) (λ e d. refused_of (λ a. P a k) (line few p.1) ((line_says rev l (stops e)).0 d))
      (λ c _. rerun_told P n o s (holds (record { command = c; state = z }) ∷ drop k (entries_of n t)) (k - 1) (omega (arith, length-drop k (entries_of n t)))))))
      (λ _. b)) (λ _. a)) (λ _. sizes)

  module _ (damaged : n ≤ max_lines → (j : ℕ) → j ≤ n → P bad_table j) where
    pub rows_told : Told P (rows_of t n)
    unfolding rows_of
    rows_told =
        cond_all (Told P) (sizes_fit t n)
        (λ s. follow_told P n (damaged (sizes_say t n s).few) start (entries_of n t) 0 (omega (arith, entries_length n t))) (λ _. sizes)

    pub hole_told : (k : ℕ) → P no_such_line 0 → HoleTold P (hole_answer t n k)
    unfolding hole_answer hole_in
    hole_told k a =
        cond_all (HoleTold P) (sizes_fit t n)
        (λ s. cond_all (HoleTold P) (is_line n k)
        (λ q.
        let o = damaged (sizes_say t n s).few in
        let p = Sizes.line_says n k q in
        before_all (HoleTold P) (before_line k (entry_at (entries_of n t) (k - 1))) (o (k - 1) (omega arith))
        (λ z. row_all (HoleTold P) (entry_at (entries_of n t) k) (o k p.1) (λ r. hole_all (HoleTold P) z.at r.state r.command tt (λ _. tt))))
        (λ _. a)) (λ _. sizes)

    pub diameter_of_told : (tool : ℕ) → P no_such_tool 0 → P not_declared 0 → DiameterTold P (diameter_answer t n tool)
    unfolding diameter_answer
    diameter_of_told tool a b =
        cond_all (DiameterTold P) (sizes_fit t n)
        (λ s. cond_all (DiameterTold P) (is_tool tool)
        (λ _. diameter_told P n (damaged (sizes_say t n s).few) b tool (entries_of n t) 0 (omega (arith, entries_length n t))) (λ _. a)) (λ _. sizes)
