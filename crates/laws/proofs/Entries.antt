-- A table as the list of its entries: each entry is the look at its row, and rows are found again in their numbers. All by
-- recursion on how many rows come before.
use mathlib.Core.Path.{◌≡◌, refl, sym, ap, ap₂, ◌∙◌}
use mathlib.Core.List.{List, [], ◌∷◌, ◌++◌, append_assoc, append-nil}
use Prim.Native.Nat.{ℕ, zero, suc, ◌+◌, ◌-◌, ◌*◌, ◌≤◌}
use native.Mathlib.Omega.{arith}
use lib.IntN.{ℤ}
use lib.ListN.{length, take, drop, length-append, length-drop, take-append-drop}
use lib.Seq.{drop-drop, drop_at, length-take-le}
use Rattle.std.specs.Prelude.{Some, None}
use Rattle.runs.specs.Machine.{Row, holds, all_hold}
use Rattle.rules.specs.declared.Command.{Command}
use Rattle.rules.specs.declared.State.{State}
use Rattle.rules.specs.Results.{Looked, row_found}
use Rattle.rules.specs.Rows.{row_width, row_numbers, table_numbers, look_of, entry_of, entries_of}
use Rattle.laws.proofs.InRange.{RowsOk}
use Rattle.laws.proofs.Rows.{row_length, look_numbers, look_holds}

-- ---- rows one after another

pub table_length : (rs : List (Row Command State)) → length (table_numbers rs) ≡ row_width * length rs
unfolding table_numbers
table_length [] = refl
table_length (r ∷ rs) = length-append (row_numbers r) (table_numbers rs) ∙ omega (arith, row_length r, table_length rs)

pub table_append : (xs ys : List (Row Command State)) → table_numbers (xs ++ ys) ≡ table_numbers xs ++ table_numbers ys
unfolding table_numbers
table_append [] ys = refl
table_append (r ∷ xs) ys = ap (◌++◌ (row_numbers r)) (table_append xs ys) ∙ sym (append_assoc (row_numbers r) (table_numbers xs) (table_numbers ys))

pub table_one : (r : Row Command State) → table_numbers (r ∷ []) ≡ row_numbers r
unfolding table_numbers
table_one r = append-nil (row_numbers r)

-- ---- the entries, one by one

pub entries_length : (n : ℕ) (t : List ℤ) → length (entries_of n t) ≡ n
unfolding entries_of
entries_length zero t = refl
entries_length (suc n) t = ap suc (entries_length n (drop row_width t))

pub entries_add : (k m : ℕ) (t : List ℤ) → entries_of (k + m) t ≡ entries_of k t ++ entries_of m (drop (row_width * k) t)
unfolding entries_of
entries_add zero m t = let e : 0 + m ≡ m = omega arith in rw e
entries_add (suc k) m t =
    let e : suc k + m ≡ suc (k + m) = omega arith in
    let f : row_width * suc k ≡ row_width + row_width * k = omega arith in
    rw (e, f, ← drop-drop (row_width * k) row_width t) (ap (◌∷◌ (entry_of (look_of (take row_width t)))) (entries_add k m (drop row_width t)))

module _ (n : ℕ) (t : List ℤ) (k : ℕ) where
  split : k ≤ n → entries_of n t ≡ entries_of k t ++ entries_of (n - k) (drop (row_width * k) t)
  split h = let e : n ≡ k + (n - k) = omega arith in ap (λ (z : ℕ). entries_of z t) e ∙ entries_add k (n - k) t

  pub entries_drop : k ≤ n → drop k (entries_of n t) ≡ entries_of (n - k) (drop (row_width * k) t)
  entries_drop h = rw (split h) (drop_at (entries_of k t) (entries_of (n - k) (drop (row_width * k) t)) k (entries_length k t))

-- ---- rows found again

pub entries_table : (rs : List (Row Command State)) (rest : List ℤ) → RowsOk rs → entries_of (length rs) (table_numbers rs ++ rest) ≡ all_hold rs
unfolding entries_of table_numbers all_hold
entries_table [] rest h = refl
entries_table (r ∷ rs) rest h =
    rw (
      append_assoc (row_numbers r) (table_numbers rs) rest,
      look_numbers r h.0 h.1 (table_numbers rs ++ rest),
      drop_at (row_numbers r) (table_numbers rs ++ rest) row_width (row_length r),
    )
    (ap (◌∷◌ (holds r)) (entries_table rs rest h.2))

-- ---- a table of whole rows is their numbers

entry_holds : (l : Looked) (r : Row Command State) → entry_of l ≡ holds r → l ≡ row_found r.command r.state
entry_holds (Some r') r e =
    let same : ◌≡◌ {A = Row Command State} (record { command = r'.command; state = r'.state }) r = cc in
    ap (λ (z : Row Command State). row_found z.command z.state) same
entry_holds None r e = absurd (let z : ◌≡◌ {A = ℕ} 0 1 = cc in omega arith)

pub table_whole : (n : ℕ) (t : List ℤ) (rs : List (Row Command State)) → entries_of n t ≡ all_hold rs → row_width * n ≤ length t
    → (t ≡ table_numbers rs ++ drop (row_width * n) t) × RowsOk rs × (length rs ≡ n)
unfolding entries_of table_numbers all_hold
table_whole zero t [] e h = (refl, tt, refl)
table_whole zero t (r ∷ rs) e h = absurd (let z : ◌≡◌ {A = ℕ} 0 1 = cc in omega arith)
table_whole (suc n) t [] e h = absurd (let z : ◌≡◌ {A = ℕ} 0 1 = cc in omega arith)
table_whole (suc n) t (r ∷ rs) e h =
    let first : entry_of (look_of (take row_width t)) ≡ holds r = cc in
    let others : entries_of n (drop row_width t) ≡ all_hold rs = cc in
    let row = look_holds (take row_width t) r.command r.state (length-take-le row_width t (omega arith)) (entry_holds (look_of (take row_width t)) r first) in
    let rows = table_whole n (drop row_width t) rs others (simp length-drop (omega arith)) in
    let f : row_width * suc n ≡ row_width + row_width * n = omega arith in (
      sym (take-append-drop row_width t) ∙ ap₂ ◌++◌ row.numbers (rows.0 ∙ ap (◌++◌ (table_numbers rs)) (drop-drop (row_width * n) row_width t ∙ ap (λ (z : ℕ). drop z t) (sym f)))
          ∙ sym (append_assoc (row_numbers r) (table_numbers rs) (drop (row_width * suc n) t)),
      (row.command_ok, row.state_ok, rows.1),
      omega (arith, rows.2),
    )
