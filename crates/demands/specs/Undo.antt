-- Document 02, #107: a line that was tried is put back, and two changes may come in either order. For a good table, and by one revision
-- with itself. Both are laws of any machine (runs: Edits).
use Rattle.std.specs.Prelude.{◌≡◌, List, ℕ, ◌<◌, ℤ, Ok}
use Rattle.lists.specs.Exactly.{Exactly}
use Rattle.lists.specs.Words.{bytes}
use Rattle.rules.specs.declared.Revision.{Revision}
use Rattle.rules.specs.declared.Revision.TheVariants.{Rev2021}
use Rattle.rules.specs.declared.Counts.{Counts}
use Rattle.rules.specs.Results.{refused_at}
use Rattle.rules.specs.Refusals.{not_declared}
use Rattle.rules.specs.Rows.{Good}
use Rattle.rules.specs.Reading.{Rows, row_of, read_answer, read_leaves}
use Rattle.rules.specs.Counting.{counts_of}
use Rattle.rules.specs.Editing.{edit_answer, edit_leaves, edit_counts}
use Rattle.rules.specs.Spelling.{SpellsLine}
use Rattle.rules.specs.Writing.{spelt}
use Rattle.rules.specs.Bench.{bench_table, bench_counts}
use Rattle.demands.specs.EditedFile.{LineOf}

-- an accepted edit: line k of a table of n rows in numbers t gets the text l, and the counts c are handed in; it meets at line m, and
-- leaves the numbers u and the counts d
pub record EditsTo (rev : Revision) (n : ℕ) (t : List ℤ) (c : Counts) (k : ℕ) (l : List ℕ) (m : ℕ) (u : List ℤ) (d : Counts) : Type 0 where
  pub answer : edit_answer rev t n k l c ≡ Ok m
  pub table : edit_leaves rev t n k l c ≡ u
  pub counts : edit_counts rev t n k l c ≡ d

-- ---- undo

pub record Undo : Type 0 where
  -- From the table's own counts: an edit of the same line, with any text that reads as the old row's command, is accepted. Every number
  -- lent and the counts are the former ones, and its meeting line is the first one's.
  pub undo : (rev : Revision) (t : List ℤ) (n : ℕ) (rs : Rows) → Good t n rs → (k : ℕ) (l : List ℕ) (m : ℕ) (u : List ℤ) (d : Counts)
      → EditsTo rev n t (counts_of rs) k l m u d → (b : List ℕ) → SpellsLine rev b (row_of rs k).command → EditsTo rev n u d k b m t (counts_of rs)
  -- whatever counts are handed in, where both are accepted
  pub any_counts : (rev : Revision) (t : List ℤ) (n : ℕ) (rs : Rows) → Good t n rs → (k : ℕ) (l : List ℕ) (m : ℕ) (u : List ℤ) (c d : Counts)
      → EditsTo rev n t c k l m u d → (b : List ℕ) → SpellsLine rev b (row_of rs k).command
      → (e f : Counts) (i : ℕ) (v : List ℤ) → EditsTo rev n u e k b i v f → (i ≡ m) × (v ≡ t)

-- such texts
pub record UndoText : Type 0 where
  -- of a table that was read from a file: the file's own line
  pub own_line : (rev : Revision) (bs : List ℕ) (t : List ℤ) (n : ℕ) (rs : Rows) → read_answer rev bs t ≡ Ok n → Good (read_leaves rev bs t) n rs
      → (k : ℕ) (w : LineOf bs k) → SpellsLine rev w.line (row_of rs k).command
  -- of every good table, by each revision: what the writer writes, and ";" for a comment
  pub written_line : (rev : Revision) (t : List ℤ) (n : ℕ) (rs : Rows) → Good t n rs
      → (k : ℕ) → SpellsLine rev (spelt (row_of rs k).command) (row_of rs k).command

-- ---- either order

-- That each step is accepted must be asked for. Of the bench file line 4 declares tool 7 and line 9 selects it: both may become
-- comments, but not the declaration first.
pub record OneOrder : Type 0 where
  pub selection_first : edit_answer Rev2021 bench_table 15 9 (bytes ";") bench_counts ≡ Ok 15
  pub then_declaration : edit_answer Rev2021 (edit_leaves Rev2021 bench_table 15 9 (bytes ";") bench_counts) 15 4 (bytes ";")
      (edit_counts Rev2021 bench_table 15 9 (bytes ";") bench_counts) ≡ Ok 15
  pub declaration_first : edit_answer Rev2021 bench_table 15 4 (bytes ";") bench_counts ≡ refused_at not_declared 9

-- Two different lines, k and j, each step accepted:
--   t  -- k gets l, meets at m -->   u  -- j gets b, meets at i -->   v
--   t  -- j gets b, meets at i' -->  w  -- k gets l, meets at m' -->  x
pub record Commute : Type 0 where
  -- one table, whatever counts are handed in at each step
  pub same_table : (rev : Revision) (t : List ℤ) (n : ℕ) (rs : Rows) → Good t n rs → (k j : ℕ) → (k ≡ j → ⊥) → (l b : List ℕ)
      → {c₁ d₁ c₂ d₂ c₃ d₃ c₄ d₄ : Counts} {m i i' m' : ℕ} {u v w x : List ℤ}
      → EditsTo rev n t c₁ k l m u d₁ → EditsTo rev n u c₂ j b i v d₂
      → EditsTo rev n t c₃ j b i' w d₃ → EditsTo rev n w c₄ k l m' x d₄ → v ≡ x
  -- from the table's own counts, which are handed on, the same counts
  pub same_counts : (rev : Revision) (t : List ℤ) (n : ℕ) (rs : Rows) → Good t n rs → (k j : ℕ) → (k ≡ j → ⊥) → (l b : List ℕ)
      → {c d e f : Counts} {m i i' m' : ℕ} {u v w x : List ℤ}
      → EditsTo rev n t (counts_of rs) k l m u c → EditsTo rev n u c j b i v d
      → EditsTo rev n t (counts_of rs) j b i' w e → EditsTo rev n w e k l m' x f → d ≡ f
  -- the fourth step follows from the other three
  pub fourth : (rev : Revision) (t : List ℤ) (n : ℕ) (rs : Rows) → Good t n rs → (k j : ℕ) → (k ≡ j → ⊥) → (l b : List ℕ)
      → {c d e : Counts} {m i i' : ℕ} {u v w : List ℤ}
      → EditsTo rev n t (counts_of rs) k l m u c → EditsTo rev n u c j b i v d
      → EditsTo rev n t (counts_of rs) j b i' w e → (m' : ℕ) × EditsTo rev n w e k l m' v d
  -- The earlier line's span reaches the later line in both orders or in neither. If it doesn't, both orders have the same two spans.
  pub spans : (rev : Revision) (t : List ℤ) (n : ℕ) (rs : Rows) → Good t n rs → (k j : ℕ) → k < j → (l b : List ℕ)
      → {c₁ d₁ c₂ d₂ c₃ d₃ c₄ d₄ : Counts} {m i i' m' : ℕ} {u v w x : List ℤ}
      → EditsTo rev n t c₁ k l m u d₁ → EditsTo rev n u c₂ j b i v d₂
      → EditsTo rev n t c₃ j b i' w d₃ → EditsTo rev n w c₄ k l m' x d₄
      → Exactly (m < j) (m' < j) × (m < j → (m ≡ m') × (i ≡ i'))
  pub one_order : OneOrder
