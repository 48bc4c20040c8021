-- The demands once more, of the code: of calls as the functions' contracts allow them. A call of `read` is handed a file and a
-- revision and lent a table, and so on (Calls); its answer, the counts that it hands out and what it leaves are whatever the contract
-- allows.
use Rattle.std.specs.Prelude.{◌≡◌, true, List, ℕ, ◌*◌, ◌≤◌, ℤ, length, take, Ok}
use Rattle.lists.specs.Put.{put_at}
use Rattle.lists.specs.Exactly.{Exactly}
use Rattle.rules.specs.declared.Refusal.{Refusal}
use Rattle.rules.specs.declared.Revision.{Revision}
use Rattle.rules.specs.declared.Counts.{Counts}
use Rattle.rules.specs.Results.{Answer, HoleAnswer, refused_at}
use Rattle.rules.specs.Numbers.{max_file, max_tool}
use Rattle.rules.specs.Rows.{row_width, table_numbers, Good}
use Rattle.rules.specs.Reading.{Rows, row_of, state_before}
use Rattle.rules.specs.Counting.{hits, routs, counts_of, no_counts}
use Rattle.rules.specs.Editing.{no_line_end}
use Rattle.rules.specs.Holes.{hole_of}
use Rattle.rules.specs.Spelling.{SpellsLine}
use Rattle.rules.specs.Obeys.{ReadingOf, Obeys}
use Rattle.round.specs.Comments.{without_comments}
use Rattle.demands.specs.EditedFile.{LineOf, edited}
use Rattle.demands.specs.Demand1.{ColumnOnly}
use Rattle.demands.specs.Demand2.{ReadRefused}
use Rattle.demands.specs.Demand3.{SameVerdict, SpanIs, SameCounts}
use Rattle.demands.specs.WriteRefused.{WriteRefused}
use Rattle.demands.specs.HoleRefused.{HoleRefused}
use Rattle.demands.specs.EditRefused.{EditRefused}
use Rattle.demands.specs.CountsOwn.{afresh}
use Rattle.promises.specs.Calls.{ReadCall, EditCall, HitsCall, RoutsCall, HoleCall, WriteCall}

-- a call of read: its refusals, and what it does with a file's reading
pub record ReadsFile (file : List ℕ) (rev : Revision) (table : List ℤ) (answer : Answer) (counts : Counts) (left : List ℤ) : Type 0 where
  -- demand 1
  pub refused : (e : Refusal) (i : ℕ) → answer ≡ refused_at e i → (left ≡ table) × (counts ≡ no_counts)
  pub column_only : (e : Refusal) (i : ℕ) → answer ≡ refused_at e i → ColumnOnly e
  -- demand 2: accepted only where it obeys, and there where the numbers lent hold its rows
  pub obeys : (n : ℕ) → answer ≡ Ok n → Obeys rev file
  pub accepted : (rs : Rows) → ReadingOf rev file rs → row_width * length rs ≤ length table
      → (answer ≡ Ok (length rs)) × (left ≡ put_at table 0 (table_numbers rs)) × Good left (length rs) rs × (counts ≡ counts_of rs)
  pub refused_exactly : (e : Refusal) (i : ℕ) → Exactly (answer ≡ refused_at e i) (ReadRefused rev file table e i)
  -- each line's hole, asked for afterwards
  pub holes : (n : ℕ) (rs : Rows) → answer ≡ Ok n → ReadingOf rev file rs → (k : ℕ) → 1 ≤ k → k ≤ n
      → (hole : HoleAnswer) → HoleCall left n k hole
      → hole ≡ hole_of (state_before rs k).at (row_of rs k).command (row_of rs k).state

pub record OfTheCode : Type 0 where
  pub read : (file : List ℕ) (rev : Revision) (table : List ℤ) (answer : Answer) (counts : Counts) (left : List ℤ)
      → ReadCall file rev table answer counts left → ReadsFile file rev table answer counts left
  -- demand 1: a refused call leaves what was lent, and the counts, as it was; each refusal is given exactly when
  pub refused_edit : (table : List ℤ) (n line : ℕ) (text : List ℕ) (rev : Revision) (counts : Counts) (e : Refusal) (i : ℕ) (counts_remaining : Counts) (left : List ℤ)
      → EditCall table n line text rev counts (refused_at e i) counts_remaining left → (left ≡ table) × (counts_remaining ≡ counts)
  pub edit_column_only : (table : List ℤ) (n line : ℕ) (text : List ℕ) (rev : Revision) (counts : Counts) (e : Refusal) (i : ℕ) (counts_remaining : Counts) (left : List ℤ)
      → EditCall table n line text rev counts (refused_at e i) counts_remaining left → ColumnOnly e
  pub refused_write : (table : List ℤ) (n : ℕ) (block : List ℕ) (e : Refusal) (i : ℕ) (left : List ℕ)
      → WriteCall table n block (refused_at e i) left → left ≡ block
  pub edit_exactly : (table : List ℤ) (n line : ℕ) (text : List ℕ) (rev : Revision) (counts : Counts) (answer : Answer) (counts_remaining : Counts) (left : List ℤ)
      → EditCall table n line text rev counts answer counts_remaining left
      → (e : Refusal) (i : ℕ) → Exactly (answer ≡ refused_at e i) (EditRefused rev table n line text counts e i)
  pub hole_exactly : (table : List ℤ) (n line : ℕ) (answer : HoleAnswer) → HoleCall table n line answer
      → (e : Refusal) (i : ℕ) → Exactly (answer ≡ refused_at e i) (HoleRefused table n line e i)
  pub write_exactly : (table : List ℤ) (n : ℕ) (block : List ℕ) (answer : Answer) (left : List ℕ)
      → WriteCall table n block answer left
      → (e : Refusal) (i : ℕ) → Exactly (answer ≡ refused_at e i) (WriteRefused table n block e i)
  -- demand 2: what was written of a good table reads back, by either revision, as its rows without their comments
  pub written_read_back : (table : List ℤ) (n : ℕ) (rs : Rows) → Good table n rs → (block : List ℕ) (m : ℕ) (text : List ℕ)
      → WriteCall table n block (Ok m) text → (lent : List ℤ) → row_width * length (without_comments rs) ≤ length lent
      → (rev : Revision) (answer : Answer) (counts : Counts) (left : List ℤ) → ReadCall (take m text) rev lent answer counts left
      → (answer ≡ Ok (length (without_comments rs))) × (left ≡ put_at lent 0 (table_numbers (without_comments rs)))
  -- demand 3: an edit of a table read from an accepted file, from the counts that were read with it, and the edited file read afresh into
  -- that same table, by one revision
  pub edited_as_read_afresh : (file : List ℕ) (rev : Revision) (lent : List ℤ) (n : ℕ) (counts : Counts) (table : List ℤ)
      → ReadCall file rev lent (Ok n) counts table
      → (k : ℕ) (w : LineOf file k) (text : List ℕ) → no_line_end text ≡ true → length (edited w text) ≤ max_file
      → (answer_of_edit : Answer) (counts_then : Counts) (after : List ℤ) → EditCall table n k text rev counts answer_of_edit counts_then after
      → (fresh_answer : Answer) (fresh_counts : Counts) (fresh : List ℤ) → ReadCall (edited w text) rev table fresh_answer fresh_counts fresh
      → SameVerdict n answer_of_edit fresh_answer × (after ≡ fresh) × SpanIs rev file (edited w text) table after n k answer_of_edit
      × SameCounts counts answer_of_edit counts_then fresh_counts
  -- an accepted edit from a good table's own counts leaves a good table, and its own counts
  pub edit_own : (table : List ℤ) (n : ℕ) (rs : Rows) → Good table n rs → (line : ℕ) (text : List ℕ) (rev : Revision) (m : ℕ) (counts_remaining : Counts) (left : List ℤ)
      → EditCall table n line text rev (counts_of rs) (Ok m) counts_remaining left → (ss : Rows) × (Good left n ss × (counts_remaining ≡ counts_of ss))
  -- the question, asked from them, is counting the table's holes afresh
  pub asked_hits : (table : List ℤ) (n : ℕ) (rs : Rows) → Good table n rs → (tool : ℕ) → 1 ≤ tool → tool ≤ max_tool → (answer : Answer)
      → HitsCall (counts_of rs) tool answer → answer ≡ Ok (afresh hits tool table n n)
  pub asked_routs : (table : List ℤ) (n : ℕ) (rs : Rows) → Good table n rs → (tool : ℕ) → 1 ≤ tool → tool ≤ max_tool → (answer : Answer)
      → RoutsCall (counts_of rs) tool answer → answer ≡ Ok (afresh routs tool table n n)

-- a line that was tried is put back, and two changes come in either order
pub record UndoOfTheCode : Type 0 where
  -- a file is read, a line is tried, and the file's own line is put back
  pub tried_and_put_back : (file : List ℕ) (rev : Revision) (lent : List ℤ) (n : ℕ) (counts : Counts) (table : List ℤ)
      → ReadCall file rev lent (Ok n) counts table → (k : ℕ) (w : LineOf file k) (text : List ℕ) (m : ℕ) (counts_remaining : Counts) (left : List ℤ)
      → EditCall table n k text rev counts (Ok m) counts_remaining left
      → (answer : Answer) (counts_back : Counts) (former : List ℤ) → EditCall left n k w.line rev counts_remaining answer counts_back former
      → (answer ≡ Ok m) × (former ≡ table) × (counts_back ≡ counts)
  -- an edit of any good table put back: the same line gets any text that reads as the old row's command
  pub edit_undone : (table : List ℤ) (n : ℕ) (rs : Rows) → Good table n rs → (line : ℕ) (text : List ℕ) (rev : Revision) (m : ℕ) (counts_remaining : Counts) (left : List ℤ)
      → EditCall table n line text rev (counts_of rs) (Ok m) counts_remaining left → (back : List ℕ) → SpellsLine rev back (row_of rs line).command
      → (answer : Answer) (counts_back : Counts) (former : List ℤ) → EditCall left n line back rev counts_remaining answer counts_back former
      → (answer ≡ Ok m) × (former ≡ table) × (counts_back ≡ counts_of rs)
  -- two different lines in either order, each step accepted
  pub edits_commute : (table : List ℤ) (n : ℕ) (rs : Rows) → Good table n rs → (k j : ℕ) → (k ≡ j → ⊥) → (l b : List ℕ) (rev : Revision)
      → {m i i' m' : ℕ} {c d e f : Counts} {u v w x : List ℤ}
      → EditCall table n k l rev (counts_of rs) (Ok m) c u → EditCall u n j b rev c (Ok i) d v
      → EditCall table n j b rev (counts_of rs) (Ok i') e w → EditCall w n k l rev e (Ok m') f x → (v ≡ x) × (d ≡ f)
