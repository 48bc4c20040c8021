-- Reading, a line at a time: what is left to read, told from where we are, is what the whole file tells.
use mathlib.Core.Path.{◌≡◌, refl, sym, ap, ◌∙◌}
use mathlib.Core.Bool.{Bool, true, false, cond}
use mathlib.Core.List.{List, [], ◌∷◌}
use Prim.Native.Nat.{ℕ, suc, ◌+◌, ◌*◌, ◌<◌, ◌≤◌}
use native.Mathlib.Omega.{arith}
use native.Mathlib.Decide.{dec_lt}
use lib.IntN.{ℤ}
use lib.ListN.{length}
use Rattle.rules.specs.Results.{refused_at}
use Rattle.std.specs.Prelude.{Result, Ok, Err}
use Rattle.lists.proofs.Put.{put_none}
use Rattle.runs.specs.Machine.{yields, stops, Verdict, accepted, refused, before, run}
use Rattle.runs.specs.Machine as M
use Rattle.rules.specs.declared.Command.{Command}
use Rattle.rules.specs.declared.State.{State}
use Rattle.rules.specs.declared.Refusal.{Refusal}
use Rattle.rules.specs.declared.LineAnswer.{LineAnswer}
use Rattle.rules.specs.declared.Revision.{Revision}
use Rattle.rules.specs.Refusals.{ends_too_soon}
use Rattle.rules.specs.Numbers.{max_lines}
use Rattle.rules.specs.Lines.{Line, lines_of}
use Rattle.rules.specs.State.{start, step, has_ended}
use Rattle.rules.specs.Rows.{row_width, table_room, table_numbers}
use Rattle.rules.specs.Reading.{Rows, answer_in, command_in, run_from, run_of}
use Rattle.rules.specs.Ranges.{StateOk, CommandOk}
use Rattle.laws.proofs.Keeps.{keeps, start_ok}
use Rattle.laws.proofs.InRange.{read_ok}
use Rattle.line.proofs.Lines.{lines_none}
use Rattle.line.proofs.Texts.{too_many}
use Rattle.put.specs.PutRow.{put_row}
use Rattle.put.proofs.Puts.{put_next}
use Rattle.reader.specs.Parts.{told_from, left_from, LinesRead}

-- ---- what a line says

module _ (rev : Revision) (i : ℕ) (l : Line) {a : LineAnswer} (ha : a ≡ answer_in rev i l) where
  says_no_lem : (f : Refusal) → a.command ≡ Err f → command_in rev i l ≡ stops f
  unfolding command_in
  says_no_lem f e = rw (← ha, e)

  module _ (c : Command) (e : a.command ≡ Ok c) where
    says_it : command_in rev i l ≡ yields c
    unfolding command_in
    says_it = rw (← ha, e)

    -- a line that says a command is one of the first thousand
    counts : i ≤ max_lines
    counts = go (dec_lt max_lines i)
      where
        go : Dec (max_lines < i) → i ≤ max_lines
        go (yes h) = absurd (let z : ◌≡◌ {A = ℕ} 0 1 = cc (ap (λ (b : LineAnswer). b.command) (too_many rev i l.bytes l.ended h ∙ sym ha) ∙ e) in omega arith)
        go (no h) = omega arith

-- ---- the lines that are left: r holds their bytes

module _ (rev : Revision) (r : List ℕ) (p : State) (n : ℕ) where
  lines_over : length r ≤ 0 → run_from rev p (lines_of r) n ≡ cond (has_ended p) (accepted []) (refused ends_too_soon (n + 1))
  unfolding run
  lines_over h = rw (lines_none r 0 h)

  module _ (l : Line) (r' : List ℕ) (d : lines_of r ≡ l ∷ lines_of r') where
    line_refused : (f : Refusal) → command_in rev (n + 1) l ≡ stops f → run_from rev p (lines_of r) n ≡ refused f (n + 1)
    unfolding run
    line_refused f e = rw (d, e)

    module _ (c : Command) (e : command_in rev (n + 1) l ≡ yields c) where
      step_refused : (f : Refusal) → step p c ≡ Err f → run_from rev p (lines_of r) n ≡ refused f (n + 1)
      unfolding run
      step_refused f w = rw (d, e, w)

      step_taken : (q : State) → step p c ≡ Ok q → run_from rev p (lines_of r) n ≡ before (record { command = c; state = q }) (run_from rev q (lines_of r') (n + 1))
      unfolding run
      step_taken q w = rw (d, e, w)

-- ---- one row more

told_before : (n : ℕ) (r : M.Row Command State) (v : Verdict Rows Refusal) → told_from (n + 1) v ≡ told_from n (before r v)
told_before n r (accepted rs) = let a : n + 1 + length rs ≡ n + suc (length rs) = omega arith in rw a
told_before n r (refused e i) = refl

left_before : (t : List ℤ) (n : ℕ) (c : Command) (q : State) → CommandOk c → StateOk q → row_width * n + row_width ≤ length t
    → (v : Verdict Rows Refusal) → left_from (put_row t n c q) (n + 1) v ≡ left_from t n (before (record { command = c; state = q }) v)
left_before t n c q cok sok h (accepted rs) = put_next t n c q cok sok h rs
left_before t n c q cok sok h (refused e i) = refl

-- ---- the loop: n lines read, their rows in t, which was t₀; p is the state after them, and r is what is left of the file

pub record Going (rev : Revision) (s : List ℕ) (t₀ t : List ℤ) (p : State) (n : ℕ) (r : List ℕ) : Type 0 where
  pub count : n ≤ max_lines
  pub ok : StateOk p
  pub told : told_from n (run_from rev p (lines_of r) n) ≡ told_from 0 (run_of rev (lines_of s))
  pub left : left_from t n (run_from rev p (lines_of r) n) ≡ left_from t₀ 0 (run_of rev (lines_of s))

pub going_start : {rev : Revision} (s : List ℕ) (t : List ℤ) {p : State} → p ≡ start → (r : List ℕ) → r ≡ s → Going rev s t t p 0 r
unfolding run_of
going_start s t e r w = rw (e, w) (record { count = omega arith; ok = start_ok; told = refl; left = refl })

module _ {rev : Revision} (s : List ℕ) (t₀ t : List ℤ) (p : State) (n : ℕ) (r : List ℕ) (g : Going rev s t₀ t p n r) where
  -- where the run from here refuses, the whole does
  refuses : (f : Refusal) (i : ℕ) → run_from rev p (lines_of r) n ≡ refused f i → LinesRead rev s t₀ (refused_at f i) t
  refuses f i e = record { answer = ap (told_from n) (sym e) ∙ g.told; block = tt }

  pub turn_ended : length r ≤ 0 → {b : Bool} → b ≡ has_ended p → b ≡ true → LinesRead rev s t₀ (Ok n) t
  unfolding table_numbers
  turn_ended h e w =
      let d : run_from rev p (lines_of r) n ≡ accepted [] = lines_over rev r p n h ∙ rw (sym e ∙ w) in
      let a : n + 0 ≡ n = omega arith in
      record { answer = rw a at (ap (told_from n) (sym d) ∙ g.told); block = (g.count, sym (put_none t (row_width * n)) ∙ ap (left_from t n) (sym d) ∙ g.left) }

  pub turn_short : length r ≤ 0 → {b : Bool} → b ≡ has_ended p → b ≡ false → LinesRead rev s t₀ (refused_at ends_too_soon (n + 1)) t
  turn_short h e w = refuses ends_too_soon (n + 1) (lines_over rev r p n h ∙ rw (sym e ∙ w))

  module _ (l : Line) (r' : List ℕ) (d : lines_of r ≡ l ∷ lines_of r') {a : LineAnswer} (ha : a ≡ answer_in rev (n + 1) l) where
    pub turn_refused : (f : Refusal) → a.command ≡ Err f → LinesRead rev s t₀ (refused_at f (n + 1)) t
    turn_refused f e = refuses f (n + 1) (line_refused rev r p n l r' d f (says_no_lem rev (n + 1) l ha f e))

    module _ (c : Command) (e : a.command ≡ Ok c) {x : Result State Refusal} (xe : x ≡ step p c) where
      pub turn_stopped : (f : Refusal) → x ≡ Err f → LinesRead rev s t₀ (refused_at f (n + 1)) t
      turn_stopped f w = refuses f (n + 1) (step_refused rev r p n l r' d c (says_it rev (n + 1) l ha c e) f (sym xe ∙ w))

      pub turn_on : (q : State) → x ≡ Ok q → table_room ≤ length t → (t' : List ℤ) → t' ≡ put_row t n c q → Going rev s t₀ t' q (n + 1) r'
      turn_on q w room t' te =
          let few : n + 1 ≤ max_lines = counts rev (n + 1) l ha c e in
          let said : command_in rev (n + 1) l ≡ yields c = says_it rev (n + 1) l ha c e in
          let cok : CommandOk c = read_ok rev (n + 1) l c said in
          let sok : StateOk q = keeps p q c g.ok cok (sym xe ∙ w) in
          let w' = step_taken rev r p n l r' d c said q (sym xe ∙ w) in
          let v = run_from rev q (lines_of r') (n + 1) in
          record {
            count = few;
            ok = sok;
            told = told_before n (record { command = c; state = q }) v ∙ ap (told_from n) (sym w') ∙ g.told;
            left = ap (λ (z : List ℤ). left_from z (n + 1) v) te ∙ left_before t n c q cok sok (omega arith) v ∙ ap (left_from t n) (sym w') ∙ g.left;
          }
