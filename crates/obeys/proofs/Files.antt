-- A file is accepted exactly where it has a reading, and with the rows of that; it is refused exactly at its lowest faulty
-- line. Every run of lines ends in one of these two ways.
use mathlib.Core.Path.{◌≡◌, refl, sym, ap, ◌∙◌, subst, subst₂}
use mathlib.Core.Bool.{true, false, false≢true}
use mathlib.Core.List.{List, [], ◌∷◌, ◌++◌, append_assoc}
use Prim.Native.Nat.{ℕ, ◌+◌, ◌≤◌}
use native.Mathlib.Omega.{arith}
use borrow.Author.Tests.{eq-eqb, ne_eqb, eqb-true, eqb-false, le-leb, lt-leb, leb-true, leb-false}
use lib.Dec.{leb}
use lib.ListN.{length, length-append}
use Rattle.std.specs.Prelude.{Result, Ok, Err}
use Rattle.lists.proofs.Choice.{cond_all}
use Rattle.runs.specs.Machine.{yields, stops, Verdict, accepted, refused, before, commands_of, last_of, run, Chain, nil, link, Follows}
use Rattle.runs.proofs.Ways.{out_all}
use Rattle.runs.proofs.Chains.{chain_length, chain_map, chain_follows, follows_head, follows_tail}
use Rattle.runs.proofs.Append.{befores, Reads, run_append, reads_run}
use Rattle.rules.specs.declared.Command.{Command}
use Rattle.rules.specs.declared.State.{State}
use Rattle.rules.specs.declared.Refusal.{Refusal}
use Rattle.rules.specs.declared.Revision.{Revision}
use Rattle.rules.specs.Results.{out_of}
use Rattle.rules.specs.Refusals.{ends_too_soon}
use Rattle.rules.specs.Numbers.{max_file, max_lines}
use Rattle.rules.specs.Lines.{LF, Line, lines_of, text_of, NoLF, AllEnded}
use Rattle.rules.specs.State.{over, start, step, taken, has_ended}
use Rattle.rules.specs.Spelling.{SpellsLine, FirstLine, SpellsFile, empty}
use Rattle.rules.specs.Spelling as S
use Rattle.rules.specs.Reading.{Rows, command_in, run_from, run_of, file_of}
use Rattle.rules.specs.Obeys.{Takes, ReadingOf, Obeys}
use Rattle.laws.proofs.Lines.{no_byte_rest, line_with, lines_append, First, ended, last, FirstOf, first_of, first_line, first_falls, first_text, join_of, join_lines}
use Rattle.obeys.specs.Faults.{Untaken, Fault, missing, too_many, not_ended, unread, untaken, Faulty, too_large, at_line}
use Rattle.obeys.proofs.Split as Split
use Rattle.obeys.proofs.Steps.{step_iff, refused_iff}
use Rattle.obeys.proofs.Split.{LineReads, LineFault, beyond, unended, line_fault, yields_line, line_yields, spells_first, spelled_falls, spelled_text}

-- ---- one command

pub taken_takes : (p : State) (c : Command) (q : State) → taken p c ≡ yields q → Takes p c q
taken_takes p c q e = (step_iff p c q).0 (by (step p c) e)
  where
    by : (n : Result State Refusal) → out_of n ≡ yields q → n ≡ Ok q
    by (Ok s) e = let f : s ≡ q = cc in ap Ok f
    by (Err r) e = absurd (let z : ◌≡◌ {A = ℕ} 0 1 = cc in omega arith)

pub takes_taken : {p q : State} {c : Command} → Takes p c q → taken p c ≡ yields q
takes_taken {p} {q} {c} w = ap out_of ((step_iff p c q).1 w)

pub taken_refused : (p : State) (c : Command) (e : Refusal) → taken p c ≡ stops e → Untaken p c e
taken_refused p c e d = (refused_iff p c e).0 (by (step p c) d)
  where
    by : (n : Result State Refusal) → out_of n ≡ stops e → n ≡ Err e
    by (Ok s) d = absurd (let z : ◌≡◌ {A = ℕ} 0 1 = cc in omega arith)
    by (Err r) d = let f : r ≡ e = cc in ap Err f

pub refused_taken : {p : State} {c : Command} {e : Refusal} → Untaken p c e → taken p c ≡ stops e
refused_taken {p} {c} {e} w = ap out_of ((refused_iff p c e).1 w)

-- ---- a run of lines: how it ends

-- lines that read as rows, by the relations and by the machine
abbrev pub ReadsAs : Revision → State → ℕ → List Line → Rows → Type 0
ReadsAs rev = Chain (LineReads rev) Takes

by_machine : {rev : Revision} {p : State} {i : ℕ} {ls : List Line} {rs : Rows} → ReadsAs rev p i ls rs → Reads (command_in rev) taken p ls i rs
by_machine = chain_map (λ i l c w. line_yields w) (λ p c q w. takes_taken w)

-- line i, the first of those left, is no command; or is one that may not come in state p; or is missing
data Stuck (rev : Revision) (i : ℕ) (p : State) : List Line → Refusal → Type 0 where
  no_line : (p.phase ≡ over → ⊥) → Stuck rev i p [] ends_too_soon
  no_command : {l : Line} {ls : List Line} {e : Refusal} → LineFault rev i l e → Stuck rev i p (l ∷ ls) e
  not_here : {l : Line} {ls : List Line} {c : Command} {e : Refusal} → LineReads rev i l c → Untaken p c e → Stuck rev i p (l ∷ ls) e

-- from state p, after i lines: all lines read and the run has ended, or one is at fault
data Outcome (rev : Revision) (p : State) (i : ℕ) : List Line → Verdict Rows Refusal → Type 0 where
  reads : {ls : List Line} {rs : Rows} → ReadsAs rev p i ls rs → has_ended (last_of p rs) ≡ true → Outcome rev p i ls (accepted rs)
  fault : {xs ys : List Line} {rs : Rows} {e : Refusal} {j : ℕ} → ReadsAs rev p i xs rs → i + length xs + 1 ≡ j → Stuck rev j (last_of p rs) ys e
      → Outcome rev p i (xs ++ ys) (refused e j)

first : {rev : Revision} (p : State) (i : ℕ) (ls : List Line) (e : Refusal) → Stuck rev (i + 1) p ls e → Outcome rev p i ls (refused e (i + 1))
unfolding last_of
first p i ls e f = fault {xs = []} {j = i + 1} nil (omega arith) f

more : {rev : Revision} (p q : State) (i : ℕ) (l : Line) (ls : List Line) (c : Command) (v : Verdict Rows Refusal) → LineReads rev (i + 1) l c → Takes p c q
    → Outcome rev q (i + 1) ls v → Outcome rev p i (l ∷ ls) (before (record { command = c; state = q }) v)
unfolding last_of
more p q i l ls c v h k (reads w e) = reads (link h k w) e
more p q i l ls c v h k (fault {xs = xs} {j = j} w n f) = fault {xs = l ∷ xs} {j = j} (link h k w) (omega (arith, n)) f

run_outcome : {rev : Revision} (ls : List Line) (p : State) (i : ℕ) → Outcome rev p i ls (run_from rev p ls i)
unfolding run last_of
run_outcome {rev} [] p i = cond_all (Outcome rev p i []) (has_ended p) (λ e. reads nil e) (λ e. first p i [] ends_too_soon (no_line (eqb-false p.phase over e)))
run_outcome {rev} (l ∷ ls) p i =
    out_all (Outcome rev p i (l ∷ ls)) (command_in rev (i + 1) l) (λ e h. first p i (l ∷ ls) e (no_command ((line_fault (i + 1) l e).0 h)))
    (λ c h. let w : LineReads rev (i + 1) l c = yields_line (i + 1) l c h in
    out_all (Outcome rev p i (l ∷ ls)) (taken p c) (λ e k. first p i (l ∷ ls) e (not_here w (taken_refused p c e k)))
    (λ q k. more p q i l ls c (run_from rev q ls (i + 1)) w (taken_takes p c q k) (run_outcome ls q (i + 1))))

stuck_first : {rev : Revision} {p : State} {ys : List Line} {e : Refusal} (i : ℕ) → Stuck rev (i + 1) p ys e → run_from rev p ys i ≡ refused e (i + 1)
unfolding run
stuck_first {e = e} i (no_command {l = l} h) = rw ((line_fault (i + 1) l e).1 h)
stuck_first i (not_here h k) = rw (line_yields h, refused_taken k)
stuck_first {rev} {p} i (no_line h) = rw (ne_eqb p.phase over h)

stuck_run : {rev : Revision} {p : State} {i : ℕ} {xs ys : List Line} {rs : Rows} {e : Refusal} → ReadsAs rev p i xs rs → Stuck rev (i + length xs + 1) (last_of p rs) ys e
    → run_from rev p (xs ++ ys) i ≡ refused e (i + length xs + 1)
stuck_run {rev} {i = i} {xs} {ys} {rs} w f =
    run_append (command_in rev) taken has_ended ends_too_soon (by_machine w) ys ∙ ap (befores rs) (stuck_first (i + length xs) f)

-- ---- lines that read are a reading

reads_spelled : {rev : Revision} {p : State} {i : ℕ} {ls : List Line} {rs : Rows} → ReadsAs rev p i ls rs → SpellsFile rev (join_of ls) (commands_of rs)
unfolding commands_of
reads_spelled nil = empty
reads_spelled (link {l = l} {ls = ls} {r = r} {rs = rs} h k w) = spells_first l (join_of ls) r.command (commands_of rs) h (reads_spelled w)

-- no file has more lines than the limit
pub chain_counted : {rev : Revision} {p : State} {i : ℕ} {ls : List Line} {rs : Rows} → ReadsAs rev p i ls rs → i ≤ max_lines → i + length rs ≤ max_lines
chain_counted nil h = omega arith
chain_counted (link r t w) h = omega (arith, chain_counted w r.counted)

spelled_reads : {rev : Revision} {p : State} {bs : List ℕ} {cs : List Command} (rs : Rows) (i : ℕ) → SpellsFile rev bs cs → cs ≡ commands_of rs → Follows Takes p i rs
    → i + length rs ≤ max_lines → ReadsAs rev p i (lines_of bs) rs
unfolding lines_of commands_of
spelled_reads [] i empty d g b = nil
spelled_reads [] i (S.line w e f) d g b = absurd (let z : ◌≡◌ {A = ℕ} 0 1 = cc in omega arith)
spelled_reads (r ∷ rs) i empty d g b = absurd (let z : ◌≡◌ {A = ℕ} 0 1 = cc in omega arith)
spelled_reads {rev} {p} (r ∷ rs) i (S.line {l = l} {rest = rest} {c = c} {cs = cs} w e f) d g b =
    let same : c ≡ r.command = cc in
    let others : cs ≡ commands_of rs = cc in
    let v : LineReads rev (i + 1) (line_with l e) r.command = record {
      counted = omega arith;
      ends = refl;
      spelling = subst₂ (SpellsLine rev) (sym (spelled_text w.printable e)) same w;
    } in
    subst (λ (z : List Line). ReadsAs rev p i z (r ∷ rs)) (sym (spelled_falls w.printable e rest))
    (link v (follows_head g) (spelled_reads rs (i + 1) f others (follows_tail g) (omega arith)))

-- ---- a line at fault, in lines and in bytes

reads_ended : {rev : Revision} {p : State} {i : ℕ} {ls : List Line} {rs : Rows} → ReadsAs rev p i ls rs → AllEnded ls
reads_ended nil = tt
reads_ended (link r t w) = (r.ends, reads_ended w)

-- lines of which the first are ended: the bytes of these, and those left
record Parted (bs : List ℕ) (xs ys : List Line) : Type 0 where
  left : List ℕ
  parts : bs ≡ join_of xs ++ left
  lines : lines_of left ≡ ys

parted_more : (bs : List ℕ) (x : Line) (xs ys : List Line) → x.ended ≡ true → ((rest : List ℕ) → lines_of rest ≡ xs ++ ys → Parted rest xs ys)
    → First bs x (xs ++ ys) → Parted bs (x ∷ xs) ys
parted_more bs x xs ys h ih (ended rest t p f r) =
    let w = ih rest r in
    record {
      left = w.left;
      parts = rw h (p ∙ ap (λ (z : List ℕ). x.bytes ++ (LF ∷ z)) w.parts ∙ sym (append_assoc x.bytes (LF ∷ join_of xs) w.left));
      lines = w.lines;
    }
parted_more bs x xs ys h ih (last t m f) = absurd (false≢true (sym t ∙ h))

parted : (bs : List ℕ) (xs ys : List Line) → lines_of bs ≡ xs ++ ys → AllEnded xs → Parted bs xs ys
parted bs [] ys d h = record { left = bs; parts = refl; lines = d }
parted bs (x ∷ xs) ys d h = parted_more bs x xs ys h.0 (λ rest r. parted rest xs ys r h.1) (subst (FirstOf bs) d (first_of bs))

module _ (i : ℕ) (p : State) (bs : List ℕ) where
  some_bytes : {l : Line} {ls : List Line} → First bs l ls → bs ≡ [] → ⊥
  some_bytes {l} (ended rest t q f r) e = omega (arith, ap length (sym q ∙ e), length-append l.bytes (LF ∷ rest))
  some_bytes (last t m f) e = m e

  -- what the first line's bytes are where it is ended
  ended_line_lem : {l : Line} {ls : List Line} → First bs l ls → l.ended ≡ true → (rest : List ℕ) × FirstLine bs (text_of l.bytes) rest
  ended_line_lem {l} (ended rest t q f r) e = (rest, first_line bs l.bytes rest q f)
  ended_line_lem (last t m f) e = absurd (false≢true (sym t ∙ e))

  not_lf : {l : Line} {ls : List Line} → First bs l ls → l.ended ≡ false → NoLF bs
  not_lf (ended rest t q f r) e = absurd (false≢true (sym e ∙ t))
  not_lf (last t m f) e = f

  line_bytes : {rev : Revision} {l : Line} {ls : List Line} {e : Refusal} → First bs l ls → LineFault rev i l e → Fault rev i p bs e
  line_bytes w (beyond n) = too_many (some_bytes w) n
  line_bytes w (unended n e) = not_ended (some_bytes w) n (not_lf w e)
  line_bytes w (Split.unread n e r) = unread n (ended_line_lem w e).1 r

  stuck_bytes : {rev : Revision} {ls : List Line} {e : Refusal} → FirstOf bs ls → Stuck rev i p ls e → Fault rev i p bs e
  stuck_bytes h (no_line n) = missing h n
  stuck_bytes h (no_command f) = line_bytes h f
  stuck_bytes h (not_here r u) = untaken r.counted (ended_line_lem h r.ends).1 r.spelling u

  -- the bytes' first line, where there is one
  with_first : {rev : Revision} {e : Refusal} → (bs ≡ [] → ⊥) → ((l : Line) (ls : List Line) → First bs l ls → LineFault rev i l e) → Stuck rev i p (lines_of bs) e
  with_first {rev} {e} n f = by (lines_of bs) (first_of bs)
    where
      by : (ls : List Line) → FirstOf bs ls → Stuck rev i p ls e
      by [] h = absurd (n h)
      by (l ∷ ls) h = no_command (f l ls h)

  bytes_stuck : {rev : Revision} {e : Refusal} → Fault rev i p bs e → Stuck rev i p (lines_of bs) e
  unfolding lines_of
  bytes_stuck (missing d n) = rw d (no_line n)
  bytes_stuck (too_many m n) = with_first m (λ l ls w. beyond n)
  bytes_stuck (not_ended m n f) = with_first m (λ l ls w. unended n (unlined w f))
    where
      unlined : {l : Line} {ls : List Line} → First bs l ls → NoLF bs → l.ended ≡ false
      unlined {l} (ended rest t q g r) f = absurd ((no_byte_rest LF l.bytes (LF ∷ rest) (subst NoLF q f)).0 refl)
      unlined (last t m f) g = t
  bytes_stuck (unread {l = l} {e = e} n w r) =
      rw (first_falls w) (no_command {l = line_with l w.ends} (Split.unread {e = e} n refl (rw (first_text w) r)))
  bytes_stuck (untaken {l = l} {c = c} n w s u) =
      rw (first_falls w) (not_here {l = line_with l w.ends} {c = c} (record { counted = n; ends = refl; spelling = rw (first_text w) s }) u)

-- ---- a file

abbrev FileSays : Revision → List ℕ → Verdict Rows Refusal → Type 0
FileSays rev bs (accepted rs) = ReadingOf rev bs rs
FileSays rev bs (refused e i) = Faulty rev bs e i

file_sound : (rev : Revision) (bs : List ℕ) → FileSays rev bs (file_of rev bs)
unfolding file_of run_of
file_sound rev bs =
    cond_all (FileSays rev bs) (leb (length bs) max_file)
    (λ h. by (leb-true (length bs) max_file h) (lines_of bs) (run_from rev start (lines_of bs) 0) refl (run_outcome (lines_of bs) start 0))
    (λ h. too_large (leb-false (length bs) max_file h))
  where
    by : length bs ≤ max_file → (ls : List Line) (v : Verdict Rows Refusal) → lines_of bs ≡ ls → Outcome rev start 0 ls v → FileSays rev bs v
    by h ls v d (reads {rs = rs} w e) =
        record {
          file_size = h;
          line_count = omega (arith, chain_counted w (omega arith));
          spelling = subst (λ (z : List ℕ). SpellsFile rev z (commands_of rs)) (ap join_of (sym d) ∙ join_lines bs) (reads_spelled w);
          follows = chain_follows w;
          ends = eqb-true (last_of start rs).phase over e;
        }
    by h ls v d (fault {xs = xs} {ys = ys} {rs = rs} {e = e} {j = j} w n f) =
        let q = parted bs xs ys d (reads_ended w) in
        let m : j ≡ length rs + 1 = omega (arith, n, chain_length w) in
        let g : Fault rev j (last_of start rs) q.left e = stuck_bytes j (last_of start rs) q.left (subst (FirstOf q.left) q.lines (first_of q.left)) f in
        subst (Faulty rev bs e) (sym m)
        (at_line h q.parts (omega (arith, chain_counted w (omega arith))) (reads_spelled w) (chain_follows w)
        (subst (λ (z : ℕ). Fault rev z (last_of start rs) q.left e) m g))

file_read : {rev : Revision} {bs : List ℕ} {rs : Rows} → ReadingOf rev bs rs → file_of rev bs ≡ accepted rs
unfolding file_of run_of
file_read {rev} {bs} {rs} w =
    rw (le-leb (length bs) max_file w.file_size)
    (reads_run (command_in rev) taken has_ended ends_too_soon (by_machine (spelled_reads rs 0 w.spelling refl w.follows (omega (arith, w.line_count)))) (eq-eqb (last_of start rs).phase over w.ends))

faulty_refused : {rev : Revision} {bs : List ℕ} {e : Refusal} {i : ℕ} → Faulty rev bs e i → file_of rev bs ≡ refused e i
unfolding file_of run_of
faulty_refused {rev} {bs} (too_large h) = rw (lt-leb (length bs) max_file h)
faulty_refused {rev} {bs} (at_line {head = head} {left = left} {rs = rs} {e = e} h d n w g f) =
    let r : ReadsAs rev start 0 (lines_of head) rs = spelled_reads rs 0 w refl g (omega arith) in
    let c : length rs ≡ length (lines_of head) = chain_length r in
    let m : length rs + 1 ≡ 0 + length (lines_of head) + 1 = omega (arith, c) in
    rw (le-leb (length bs) max_file h, d, lines_append head left (reads_ended r))
    (stuck_run r (bytes_stuck _ (last_of start rs) left (subst (λ (z : ℕ). Fault rev z (last_of start rs) left e) m f)) ∙ ap (refused e) (sym m))

pub file_iff : {rev : Revision} (bs : List ℕ) (rs : Rows) → (file_of rev bs ≡ accepted rs → ReadingOf rev bs rs) × (ReadingOf rev bs rs → file_of rev bs ≡ accepted rs)
file_iff {rev} bs rs = (λ e. subst (FileSays rev bs) e (file_sound rev bs), file_read)

pub one_reading : {rev : Revision} {bs : List ℕ} {rs rs' : Rows} → ReadingOf rev bs rs → ReadingOf rev bs rs' → rs ≡ rs'
one_reading v w = let e = sym (file_read v) ∙ file_read w in cc

-- a file obeys exactly where it is accepted
pub obeys_iff : {rev : Revision} (bs : List ℕ) → (Obeys rev bs → (rs : Rows) × (file_of rev bs ≡ accepted rs)) × ((rs : Rows) → file_of rev bs ≡ accepted rs → Obeys rev bs)
obeys_iff bs = (λ w. (w.rows, file_read w.reading), λ rs e. record { rows = rs; reading = (file_iff bs rs).0 e })

-- a file is refused exactly where it is faulty, and so
pub refused_says : {rev : Revision} (bs : List ℕ) (e : Refusal) (i : ℕ) → (file_of rev bs ≡ refused e i → Faulty rev bs e i) × (Faulty rev bs e i → file_of rev bs ≡ refused e i)
refused_says {rev} bs e i = (λ h. subst (FileSays rev bs) h (file_sound rev bs), faulty_refused)
