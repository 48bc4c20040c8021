-- A call, as its function's contract allows it: what is handed in and lent, the answer, and what is left of what was lent.
use Rattle.std.specs.Prelude.{◌≡◌, List, ℕ, ℤ}
use contract.Lifetimes.{Lfts}
use borrow.Fn.Kinds.{Dens, ended_of}
use denote.Triple.Clauses.{AtExit}
use Rattle.rules.specs.declared.Revision.{Revision}
use Rattle.rules.specs.declared.Counts.{Counts}
use Rattle.rules.specs.Results.{Answer, HoleAnswer}
use Rattle.reader.proofs.read.Kinds as read_kinds
use Rattle.reader.proofs.read.Reads as read_reads
use Rattle.editor.proofs.edit.Kinds as edit_kinds
use Rattle.editor.proofs.edit.Reads as edit_reads
use Rattle.tally.proofs.hits.Kinds as hits_kinds
use Rattle.tally.proofs.hits.Reads as hits_reads
use Rattle.tally.proofs.routs.Kinds as routs_kinds
use Rattle.tally.proofs.routs.Reads as routs_reads
use Rattle.query.proofs.hole.Kinds as hole_kinds
use Rattle.query.proofs.hole.Reads as hole_reads
use Rattle.writer.proofs.write.Kinds as write_kinds
use Rattle.writer.proofs.write.Reads as write_reads

-- read(file, revision, table)
pub record ReadCall (file : List ℕ) (rev : Revision) (table : List ℤ) (answer : Answer) (counts : Counts) (left : List ℤ) : Type 0 where
  pub lifetimes : Lfts 2
  pub given : Dens lifetimes read_kinds.ps
  pub after : AtExit (ended_of 2 read_kinds.ps read_kinds.r) lifetimes
  pub file_is : given.0.now ≡ file
  pub revision_is : given.1.0 ≡ rev
  pub table_is : given.1.1.0.now ≡ table
  pub left_is : after.1.1.0.now ≡ left
  pub promised : read_reads.Post lifetimes given (record { answer = answer; counts = counts }) after

-- edit(table, n, line, text, revision, counts)
pub record EditCall (table : List ℤ) (n line : ℕ) (text : List ℕ) (rev : Revision) (counts : Counts) (answer : Answer) (counts_remaining : Counts) (left : List ℤ) : Type 0 where
  pub lifetimes : Lfts 2
  pub given : Dens lifetimes edit_kinds.ps
  pub after : AtExit (ended_of 2 edit_kinds.ps edit_kinds.r) lifetimes
  pub table_is : given.0.now ≡ table
  pub n_is : given.1.0 ≡ n
  pub line_is : given.1.1.0 ≡ line
  pub text_is : given.1.1.1.0.now ≡ text
  pub revision_is : given.1.1.1.1.0 ≡ rev
  pub counts_is : given.1.1.1.1.1.0 ≡ counts
  pub left_is : after.0.now ≡ left
  pub promised : edit_reads.Post lifetimes given (record { answer = answer; counts = counts_remaining }) after

-- hits(counts, tool), and routs(counts, tool)
pub record HitsCall (counts : Counts) (tool : ℕ) (answer : Answer) : Type 0 where
  pub lifetimes : Lfts 0
  pub given : Dens lifetimes hits_kinds.ps
  pub after : AtExit (ended_of 0 hits_kinds.ps hits_kinds.r) lifetimes
  pub counts_is : given.0 ≡ counts
  pub tool_is : given.1.0 ≡ tool
  pub promised : hits_reads.Post lifetimes given answer after

pub record RoutsCall (counts : Counts) (tool : ℕ) (answer : Answer) : Type 0 where
  pub lifetimes : Lfts 0
  pub given : Dens lifetimes routs_kinds.ps
  pub after : AtExit (ended_of 0 routs_kinds.ps routs_kinds.r) lifetimes
  pub counts_is : given.0 ≡ counts
  pub tool_is : given.1.0 ≡ tool
  pub promised : routs_reads.Post lifetimes given answer after

-- hole(table, n, line)
pub record HoleCall (table : List ℤ) (n line : ℕ) (answer : HoleAnswer) : Type 0 where
  pub lifetimes : Lfts 1
  pub given : Dens lifetimes hole_kinds.ps
  pub after : AtExit (ended_of 1 hole_kinds.ps hole_kinds.r) lifetimes
  pub table_is : given.0.now ≡ table
  pub n_is : given.1.0 ≡ n
  pub line_is : given.1.1.0 ≡ line
  pub promised : hole_reads.Post lifetimes given answer after

-- write(table, n, text)
pub record WriteCall (table : List ℤ) (n : ℕ) (text : List ℕ) (answer : Answer) (left : List ℕ) : Type 0 where
  pub lifetimes : Lfts 2
  pub given : Dens lifetimes write_kinds.ps
  pub after : AtExit (ended_of 2 write_kinds.ps write_kinds.r) lifetimes
  pub table_is : given.0.now ≡ table
  pub n_is : given.1.0 ≡ n
  pub text_is : given.1.1.0.now ≡ text
  pub left_is : after.1.1.0.now ≡ left
  pub promised : write_reads.Post lifetimes given answer after
