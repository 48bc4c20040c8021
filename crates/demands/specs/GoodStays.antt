-- A good table stays good after every accepted edit, by either revision, whatever counts were handed in.
use Rattle.std.specs.Prelude.{◌≡◌, List, ℕ, ℤ, Ok}
use Rattle.rules.specs.declared.Revision.{Revision}
use Rattle.rules.specs.declared.Counts.{Counts}
use Rattle.rules.specs.Editing.{edit_answer, edit_leaves}
use Rattle.demands.specs.GoodTable.{GoodTable}

pub record GoodStays : Type 0 where
  pub stays : (rev : Revision) (t : List ℤ) (n : ℕ) → GoodTable t n → (k : ℕ) (l : List ℕ) (c : Counts) (m : ℕ)
      → edit_answer rev t n k l c ≡ Ok m → GoodTable (edit_leaves rev t n k l c) n
