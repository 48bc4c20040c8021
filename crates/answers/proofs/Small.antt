-- No line, no count and no column is large: how far the parts of each answer go.
use mathlib.Core.Path.{◌≡◌, refl, subst}
use mathlib.Core.Bool.{cond}
use mathlib.Core.List.{List}
use Prim.Native.Nat.{ℕ, ◌+◌, ◌*◌, ◌≤◌}
use native.Mathlib.Omega.{arith}
use lib.Dec.{leb}
use lib.IntN.{ℤ}
use lib.ListN.{length}
use Rattle.std.specs.Prelude.{Ok}
use Rattle.lists.proofs.Choice.{cond_all}
use Rattle.runs.specs.Machine.{Verdict, accepted, refused, on_verdict, Span}
use Rattle.rules.specs.declared.Command.{Command}
use Rattle.rules.specs.declared.State.{State}
use Rattle.rules.specs.declared.Refusal.{Refusal}
use Rattle.rules.specs.declared.Counts.{Counts}
use Rattle.rules.specs.declared.Revision.{Revision}
use Rattle.rules.specs.Results.{Answer, refused_at}
use Rattle.rules.specs.Numbers.{max_lines, max_line}
use Rattle.rules.specs.declared.Refusal.TheVariants as R
use Rattle.rules.specs.Refusals.{refusal_number, refusal_column, file_too_long, too_many_lines, line_not_ended, ends_too_soon, no_room, no_such_line, bad_table}
use Rattle.rules.specs.Answers.{Said, success, number_of, value_of, column_of, said}
use Rattle.rules.specs.Answers as Answers
use Rattle.rules.specs.Reading.{Rows, file_of, has_room, in_room, read_answer}
use Rattle.rules.specs.Rows.{entries_of}
use Rattle.rules.specs.Counting.{counts_fit}
use Rattle.rules.specs.Editing.{edit_of, meeting_of, meeting_answer, old_rows, edit_counted, edit_answer}
use Rattle.rules.specs.Asking.{hole_answer}
use Rattle.rules.specs.Writing.{longest_line, text_of_rows, rows_of, in_block, write_answer}
use Rattle.laws.proofs.Sizes.{sizes_say, line_says}
use Rattle.laws.proofs.Entries.{entries_length}
use Rattle.obeys.proofs.Files.{refused_says}
use Rattle.round.proofs.Files.{text_length}
use Rattle.answers.proofs.Refused.{OfLine, OfStep, Told, HoleTold, faulty_told, edit_told, rows_told, hole_told}
use Rattle.answers.proofs.AcceptedFile.{file_few}
use Rattle.answers.proofs.GoodTables.{good_whole}
use Rattle.answers.proofs.WrittenTable.{rows_good}
use Rattle.answers.proofs.EditSpan.{SpanOf, edit_spans, edit_tests}

-- the largest refusal
abbrev pub max_refusal : ℕ
max_refusal = 18

-- a refusal has a number
abbrev pub Named : Said → Type 0
Named (success vs) = Unit {0}
Named (Answers.refusal e i c) = 1 ≤ e

-- an answer: its count or line up to b
pub record Small (b : ℕ) (s : Said) : Type 0 where
  pub named : Named s
  pub value : value_of s ≤ b
  pub number : number_of s ≤ max_refusal
  pub column : column_of s ≤ max_line

Upto : ℕ → Refusal → ℕ → Type 0
Upto b e i = Small b (Answers.refused e i)

numbered : (e : Refusal) → (1 ≤ refusal_number e) × (refusal_number e ≤ max_refusal)
numbered R.FileTooLong = (omega arith, omega arith)
numbered R.TooManyLines = (omega arith, omega arith)
numbered R.LineNotEnded = (omega arith, omega arith)
numbered R.LineTooLong = (omega arith, omega arith)
numbered (R.ForbiddenByte c) = (omega arith, omega arith)
numbered R.NoSuchForm = (omega arith, omega arith)
numbered (R.OutOfRange c) = (omega arith, omega arith)
numbered R.WrongPhase = (omega arith, omega arith)
numbered R.WrongMotion = (omega arith, omega arith)
numbered R.DeclaredAlready = (omega arith, omega arith)
numbered R.NotDeclared = (omega arith, omega arith)
numbered R.NoToolSelected = (omega arith, omega arith)
numbered R.ImpossibleArc = (omega arith, omega arith)
numbered R.EndsTooSoon = (omega arith, omega arith)
numbered R.NoRoom = (omega arith, omega arith)
numbered R.NoSuchLine = (omega arith, omega arith)
numbered R.HoldsLineEnd = (omega arith, omega arith)
numbered R.BadTable = (omega arith, omega arith)

module _ (b i : ℕ) (h : i ≤ b) where
  upto : (e : Refusal) → refusal_column e ≤ max_line → Upto b e i
  unfolding Upto
  upto e m = let k = numbered e in record { named = k.0; value = h; number = k.1; column = m }

  of_line : OfLine (λ e. Upto b e i)
  of_line = record {
    long = upto _ (omega arith);
    byte = λ c _ m. upto _ m;
    form = upto _ (omega arith);
    range = λ c _ m. upto _ m;
  }

  of_step : OfStep (λ e. Upto b e i)
  of_step = record {
    phase = upto _ (omega arith);
    motion = upto _ (omega arith);
    again = upto _ (omega arith);
    undeclared = upto _ (omega arith);
    unselected = upto _ (omega arith);
    arc = upto _ (omega arith);
  }

-- a success
done : (b n : ℕ) → n ≤ b → Small b (said (Ok n))
done b n h = record { named = tt; value = h; number = omega arith; column = omega arith }

abbrev most : ℕ
most = max_lines + 1

module _ (rev : Revision) (bs : List ℕ) (t : List ℤ) where
  of_file : (v : Verdict Rows Refusal) → file_of rev bs ≡ v → Small most (said (on_verdict v refused_at (in_room t)))
  unfolding Upto
  of_file (accepted rs) e =
      cond_all (λ (a : Answer). Small most (said a)) (has_room t (length rs)) (λ _. done most (length rs) (omega (arith, file_few rev bs rs e)))
      (λ _. upto most 0 (omega arith) no_room (omega arith))
  of_file (refused e i) d =
      faulty_told (Upto most) (upto most 0 (omega arith) file_too_long (omega arith))
      (λ j h. record {
        line = of_line most j h;
        step = of_step most j h;
        many = upto most j h too_many_lines (omega arith);
        unended = upto most j h line_not_ended (omega arith);
        short = upto most j h ends_too_soon (omega arith);
      }) ((refused_says bs e i).0 d)

  pub read_small : Small most (said (read_answer rev bs t))
  unfolding read_answer
  read_small = of_file (file_of rev bs) refl

module _ (rev : Revision) (t : List ℤ) (n k : ℕ) (l : List ℕ) where
  edit_lines : Told (Upto most) (edit_of rev t n k l)
  edit_lines =
      let z : 0 ≤ most = omega arith in
      edit_told (Upto most) t n (upto most 0 z _ (omega arith)) rev k l (upto most 0 z _ (omega arith)) (upto most 0 z _ (omega arith))
      (λ h. record {
        steps = λ j m. of_step most j (omega arith);
        damaged = λ j m. upto most j (omega arith) _ (omega arith);
        short = upto most (n + 1) (omega arith) _ (omega arith);
      })
      (λ h m. of_line most k (omega arith))

  -- the span's lines, and the sizes that were tested before
  pub span_of : (s : Span Command State) → edit_of rev t n k l ≡ accepted s → SpanOf n k s
  span_of s h =
      let d = edit_tests rev t n k l s h in
      let p = line_says n k d.line in
      let c = entries_length n t in
      subst (λ (j : ℕ). SpanOf j k s) c (edit_spans rev (entries_of n t) k p.0 (omega arith) l s d.made)

  of_edit : (v : Verdict (Span Command State) Refusal) → edit_of rev t n k l ≡ v → Told (Upto most) v → Small most (said (meeting_of v))
  unfolding Upto
  of_edit (accepted s) e h =
      let z = span_of s e in
      done most s.meeting (omega (arith, z.counted, z.upto, (sizes_say t n (edit_tests rev t n k l s e).sizes).few))
  of_edit (refused e i) d h = h

  pub meeting_small : Small most (said (meeting_answer rev t n k l))
  unfolding meeting_answer
  meeting_small = of_edit (edit_of rev t n k l) refl edit_lines

  -- the counts c handed in
  of_counted : (c : Counts) (v : Verdict (Span Command State) Refusal) → edit_of rev t n k l ≡ v → Small most (said (meeting_of v))
      → Small most (said (meeting_of (on_verdict v refused (λ s. cond (counts_fit (old_rows (entries_of n t) k s) c) (accepted s) (refused bad_table 0)))))
  unfolding Upto
  of_counted c (accepted s) e h =
      cond_all (λ (v : Verdict (Span Command State) Refusal). Small most (said (meeting_of v))) (counts_fit (old_rows (entries_of n t) k s) c) (λ _. h)
      (λ _. upto most 0 (omega arith) bad_table (omega arith))
  of_counted c (refused e i) d h = h

  pub edit_small : (c : Counts) → Small most (said (edit_answer rev t n k l c))
  unfolding edit_answer edit_counted meeting_answer
  edit_small c = of_counted c (edit_of rev t n k l) refl meeting_small

module _ (t : List ℤ) (n : ℕ) where
  module _ (b : List ℕ) where
    of_write : (v : Verdict Rows Refusal) → rows_of t n ≡ v → Told (Upto (longest_line * max_lines)) v → Small (longest_line * max_lines) (said (on_verdict v refused_at (λ rs. in_block b (text_of_rows rs))))
    unfolding Upto
    of_write (accepted rs) e h =
        let g = good_whole t n rs (rows_good t n rs e) in
        cond_all (λ (a : Answer). Small (longest_line * max_lines) (said a)) (leb (length (text_of_rows rs)) (length b))
        (λ _. done (longest_line * max_lines) (length (text_of_rows rs)) (omega (arith, text_length rs g.rows.within_range, g.rows.count)))
        (λ _. upto (longest_line * max_lines) 0 (omega arith) no_room (omega arith))
    of_write (refused e i) d h = h

    pub write_small : Small (longest_line * max_lines) (said (write_answer t n b))
    unfolding write_answer
    write_small =
        of_write (rows_of t n) refl
        (rows_told (Upto (longest_line * max_lines)) t n (upto (longest_line * max_lines) 0 (omega arith) _ (omega arith))
        (λ h j m. upto (longest_line * max_lines) j (omega arith) _ (omega arith)))

  pub hole_small : (k : ℕ) (e : Refusal) (i : ℕ) → hole_answer t n k ≡ refused_at e i → Small max_lines (Answers.refused e i)
  unfolding Upto
  hole_small k e i h =
      subst (HoleTold (Upto max_lines)) h
      (hole_told (Upto max_lines) t n (upto max_lines 0 (omega arith) bad_table (omega arith)) (λ h j m. upto max_lines j (omega arith) bad_table (omega arith)) k
      (upto max_lines 0 (omega arith) no_such_line (omega arith)))
