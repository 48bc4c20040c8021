-- The counts in a lent block: a tool's count in a part of it, and what a block that is too short does to each answer.
use mathlib.Core.Path.{◌≡◌, refl, sym, ap, ap₂, ◌∙◌}
use mathlib.Core.Bool.{false}
use mathlib.Core.List.{List, [], ◌++◌, append-nil}
use Prim.Native.Nat.{ℕ, ◌+◌, ◌/◌, ◌<◌, ◌≤◌}
use native.Mathlib.Omega.{arith}
use borrow.Author.Tests.{le-leb, lt-leb}
use lib.Dec.{leb}
use lib.IntN.{ℤ}
use lib.ListN.{length, get_or, take, drop, length-append, length-drop, take-append-drop}
use lib.Seq.{get_or-take, get_or-drop, take-length, drop-length, take-add, take_at, drop_at, take_all, length-take-le}
use Rattle.std.proofs.lemmas.List.{drop_all}
use Rattle.rules.specs.Results.{Answer, refused_at}
use Rattle.std.specs.Prelude.{Ok, Err}
use Rattle.lists.specs.Put.{put_at}
use Rattle.lists.proofs.Choice.{cond_all}
use Rattle.runs.specs.Machine.{Verdict, accepted, refused, on_verdict}
use Rattle.rules.specs.declared.Refusal.{Refusal}
use Rattle.rules.specs.declared.Revision.{Revision}
use Rattle.rules.specs.declared.Counts.{Counts}
use Rattle.rules.specs.declared.Counted.{Counted}
use Rattle.rules.specs.Refusals.{no_room}
use Rattle.rules.specs.Numbers.{max_tool}
use Rattle.rules.specs.Answers.{said}
use Rattle.rules.specs.Rows.{row_width}
use Rattle.rules.specs.Reading.{Rows, file_of, has_room, in_room, with_rows, read_answer, read_leaves}
use Rattle.rules.specs.Counting.{read_counts}
use Rattle.rules.specs.Editing.{meeting_answer, edit_answer, edit_leaves, edit_counts}
use Rattle.rules.proofs.Said.{said_one}
use Rattle.laws.proofs.Sizes.{sizes_say}
use Rattle.answers.proofs.GoodTables.{file_table}
use Rattle.reader.specs.Read.{ReadIs}
use Rattle.editor.specs.Edit.{EditIs}
use Rattle.xnc.specs.Door.{revision_of, packed}
use Rattle.xnc.specs.Counts.{counts_width, counts_numbers, counts_in, no_block, counts_left, room_for, read_there, read_there_leaves, ReadDoor, edit_there, edit_there_leaves, EditDoor}

-- ---- a tool's count

pub part_get : (b : List ℕ) (at i : ℕ) → i < max_tool → get_or b (at + i) 0 ≡ get_or (take max_tool (drop at b)) i 0
part_get b at i k = sym (get_or-take max_tool (drop at b) i 0 k ∙ get_or-drop at b i 0)

-- ---- the front of a block that is long enough

abbrev counts_of : List ℕ → List ℕ → Counts
counts_of x y = record { hits = x; routs = y }

-- its two halves
pub halves : (b : List ℕ) {x y : List ℕ} → x ≡ take max_tool b → y ≡ drop max_tool b → length y ≡ max_tool → counts_of x y ≡ counts_in b
halves b {x} {y} e f n = ap₂ counts_of e (sym (take_all max_tool y (omega (arith, n))) ∙ ap (take max_tool) f)

module _ (b : List ℕ) (h : counts_width ≤ length b) where
  front_counts : counts_in (take counts_width b) ≡ counts_in b
  front_counts =
      let x = take max_tool b in
      let y = take max_tool (drop max_tool b) in
      let n : length x ≡ max_tool = length-take-le max_tool b (omega arith) in
      let m : length y ≡ max_tool = length-take-le max_tool (drop max_tool b) (omega (arith, length-drop max_tool b)) in
      ap counts_in (take-add max_tool max_tool b) ∙ ap₂ counts_of (take_at x y max_tool n) (ap (take max_tool) (drop_at x y max_tool n) ∙ take_all max_tool y (omega (arith, m)))

  put_front : (vs : List ℕ) → length vs ≡ counts_width → put_at (take counts_width b) 0 vs ++ drop counts_width b ≡ put_at b 0 vs
  put_front vs e = rw (e, drop_all counts_width (take counts_width b) (omega (arith, length-take-le counts_width b h)), append-nil vs) refl

  front_left : (c : Counts) → length c.hits ≡ max_tool → length c.routs ≡ max_tool → (a : Answer) → counts_left a (take counts_width b) c ++ drop counts_width b ≡ counts_left a b c
  front_left c n m (Ok _) = put_front (counts_numbers c) (length-append c.hits c.routs ∙ omega (arith, n, m))
  front_left c n m (Err _) = take-append-drop counts_width b

-- ---- a file read where the block is too short: in no room at all every file is refused, for a fault of its own first

module _ (rev : Revision) (bs : List ℕ) (t : List ℤ) where
  some_rows : (rs : Rows) → file_of rev bs ≡ accepted rs → 1 ≤ length rs
  some_rows rs h = (sizes_say _ _ (file_table rev bs rs h []).fits).some

  none_read : (v : Verdict Rows Refusal) → file_of rev bs ≡ v
      → (on_verdict v refused_at (in_room []) ≡ no_block (on_verdict v refused_at (in_room t))) × (on_verdict v (λ e i. []) (with_rows []) ≡ [])
  unfolding has_room
  none_read (accepted rs) e =
      let z : leb (length rs) 0 ≡ false = lt-leb (length rs) 0 (some_rows rs e) in
      (rw z (cond_all (λ (a : Answer). refused_at no_room 0 ≡ no_block a) (leb (length rs) (length t / row_width)) (λ _. refl) (λ _. refl)), rw z)
  none_read (refused a i) e = (refl, refl)

  no_room_answer : read_answer rev bs [] ≡ no_block (read_answer rev bs t)
  unfolding read_answer
  no_room_answer = (none_read (file_of rev bs) refl).0

  no_room_leaves : read_leaves rev bs [] ≡ []
  unfolding read_leaves
  no_room_leaves = (none_read (file_of rev bs) refl).1

-- ---- an edit

no_block_left : (a : Answer) (b : List ℕ) (c : Counts) → counts_left (no_block a) b c ≡ b
no_block_left (Ok n) b c = refl
no_block_left (Err r) b c = refl

module _ (t : List ℤ) (n k : ℕ) (l : List ℕ) (revision : ℕ) (b : List ℕ) where
  module _ {by : Revision} (re : by ≡ revision_of revision) where
    pub edit_short : length b < counts_width → (a : Answer) → said a ≡ said (meeting_answer by t n k l) → {r : ℕ} → r ≡ packed (no_block a) → EditDoor t n k l revision b r t b
    unfolding edit_there edit_there_leaves
    edit_short h a e f =
        let z = lt-leb counts_width (length b) h in
        let d : a ≡ meeting_answer (revision_of revision) t n k l = said_one e ∙ ap (λ (v : Revision). meeting_answer v t n k l) re in
        record {
          answer = rw z (f ∙ ap (λ (x : Answer). packed (no_block x)) d);
          table = rw z;
          counts = rw z (sym (no_block_left (meeting_answer (revision_of revision) t n k l) b (edit_counts (revision_of revision) t n k l (counts_in b))));
        }

    module _ (h : counts_width ≤ length b) {s : List ℕ} (se : s ≡ take counts_width b) {c : Counts} (ce : c ≡ counts_in s) {x : Counted} {t' : List ℤ}
        (w : EditIs by t n k l c x t') where
      all_counts : c ≡ counts_in b
      all_counts = ce ∙ ap counts_in se ∙ front_counts b h

      done : x.answer ≡ edit_answer (revision_of revision) t n k l (counts_in b)
      done = said_one w.answer ∙ ap₂ (λ (v : Revision) (d : Counts). edit_answer v t n k l d) re all_counts

      left : t' ≡ edit_leaves (revision_of revision) t n k l (counts_in b)
      left = w.leaves ∙ ap₂ (λ (v : Revision) (d : Counts). edit_leaves v t n k l d) re all_counts

      counts_lem : x.counts ≡ edit_counts (revision_of revision) t n k l (counts_in b)
      counts_lem = w.counts ∙ ap₂ (λ (v : Revision) (d : Counts). edit_counts v t n k l d) re all_counts

      pub edit_is : length x.counts.hits ≡ max_tool → length x.counts.routs ≡ max_tool → {r : ℕ} → r ≡ packed x.answer → {s' : List ℕ} → s' ≡ counts_left x.answer s x.counts
          → EditDoor t n k l revision b r t' (s' ++ drop counts_width b)
      unfolding edit_there edit_there_leaves
      edit_is i j e f =
          let z = le-leb counts_width (length b) h in
          let g = ap (λ (u : List ℕ). u ++ drop counts_width b) (f ∙ ap (λ (u : List ℕ). counts_left x.answer u x.counts) se) ∙ front_left b h x.counts i j x.answer in
          record { answer = rw z (e ∙ ap packed done); table = rw z left; counts = rw z (g ∙ ap₂ (λ (a : Answer) (d : Counts). counts_left a b d) done counts_lem) }

-- ---- a reading: t₁ is what it leaves of the numbers that it may write

module _ (revision : ℕ) (bs : List ℕ) (t : List ℤ) (b : List ℕ) {by : Revision} (re : by ≡ revision_of revision) {room : ℕ} (me : room ≡ room_for (length t) (length b))
    {x : Counted} {t₁ : List ℤ} (w : ReadIs by bs (take room t) x t₁) where
  module _ (h : length b < counts_width) where
    no_room_lem : take room t ≡ []
    no_room_lem = rw (me, lt-leb counts_width (length b) h)

    short_answer : x.answer ≡ no_block (read_answer (revision_of revision) bs t)
    short_answer = said_one w.answer ∙ ap₂ (λ (v : Revision) (u : List ℤ). read_answer v bs u) re no_room_lem ∙ no_room_answer (revision_of revision) bs t

    short_left : t₁ ++ drop room t ≡ t
    short_left =
        ap₂ ◌++◌ (w.leaves ∙ ap₂ (λ (v : Revision) (u : List ℤ). read_leaves v bs u) re no_room_lem ∙ no_room_leaves (revision_of revision) bs t)
        (rw (me, lt-leb counts_width (length b) h))

    pub read_short : {r : ℕ} → r ≡ packed x.answer → ReadDoor revision bs t b r (t₁ ++ drop room t) b
    unfolding read_there read_there_leaves
    read_short e =
        let z = lt-leb counts_width (length b) h in
        let a = read_answer (revision_of revision) bs t in
        record { answer = rw z (e ∙ ap packed short_answer); table = rw z short_left; counts = rw z (sym (no_block_left a b (read_counts (revision_of revision) bs t))) }

  module _ (h : counts_width ≤ length b) where
    all_room : take room t ≡ t
    all_room = rw (me, le-leb counts_width (length b) h) (take-length t)

    whole_answer : x.answer ≡ read_answer (revision_of revision) bs t
    whole_answer = said_one w.answer ∙ ap₂ (λ (v : Revision) (u : List ℤ). read_answer v bs u) re all_room

    whole_left : t₁ ++ drop room t ≡ read_leaves (revision_of revision) bs t
    whole_left =
        ap₂ ◌++◌ (w.leaves ∙ ap₂ (λ (v : Revision) (u : List ℤ). read_leaves v bs u) re all_room) (rw (me, le-leb counts_width (length b) h) (drop-length t))
        ∙ append-nil (read_leaves (revision_of revision) bs t)

    whole_counts : x.counts ≡ read_counts (revision_of revision) bs t
    whole_counts = w.counts ∙ ap₂ (λ (v : Revision) (u : List ℤ). read_counts v bs u) re all_room

    pub read_is : length x.counts.hits ≡ max_tool → length x.counts.routs ≡ max_tool → {r : ℕ} → r ≡ packed x.answer
        → {s s' : List ℕ} → s ≡ take counts_width b → s' ≡ counts_left x.answer s x.counts → ReadDoor revision bs t b r (t₁ ++ drop room t) (s' ++ drop counts_width b)
    unfolding read_there read_there_leaves
    read_is i j e se f =
        let z = le-leb counts_width (length b) h in
        let g = ap (λ (u : List ℕ). u ++ drop counts_width b) (f ∙ ap (λ (u : List ℕ). counts_left x.answer u x.counts) se) ∙ front_left b h x.counts i j x.answer in
        record {
          answer = rw z (e ∙ ap packed whole_answer);
          table = rw z whole_left;
          counts = rw z (g ∙ ap₂ (λ (y : Answer) (c : Counts). counts_left y b c) whole_answer whole_counts);
        }
