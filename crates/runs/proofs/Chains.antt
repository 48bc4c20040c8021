-- Chains of rows, whatever reads as what and whatever is taken: their length, their parts, and what follows of a chain over
-- one relation for a chain over another.
use mathlib.Core.Path.{◌≡◌, refl, ap}
use mathlib.Core.List.{List, [], ◌∷◌, ◌++◌}
use Prim.Native.Nat.{ℕ, zero, suc, ◌+◌, ◌≤◌}
use native.Mathlib.Omega.{arith}
use native.Mathlib.Nat.{add-zero}
use lib.ListN.{length, take, drop}
use Rattle.runs.specs.Machine.{Row, last_of, Chain, nil, link, Follows}
use Rattle.runs.specs.Agreement.{state_after}

module _ {L C S : Type 0} {Reads : ℕ → L → C → Type 0} {Takes : S → C → S → Type 0} where
  pub chain_length : {p : S} {i : ℕ} {ls : List L} {rs : List (Row C S)} → Chain Reads Takes p i ls rs → length rs ≡ length ls
  chain_length nil = refl
  chain_length (link e f h) = ap suc (chain_length h)

  -- a chain and then another
  pub chain_append : {p : S} {i : ℕ} {xs ys : List L} {rs ss : List (Row C S)} → Chain Reads Takes p i xs rs
      → Chain Reads Takes (last_of p rs) (i + length xs) ys ss → Chain Reads Takes p i (xs ++ ys) (rs ++ ss)
  unfolding last_of
  chain_append {i = i} nil k = rw (add-zero i) at k
  chain_append (link {ls = ls} {i = i} e f h) k =
      let n : i + suc (length ls) ≡ i + 1 + length ls = omega arith in
      link e f (chain_append h (rw n at k))

  -- the first m lines and rows, and the others, from the state after line m
  pub chain_take : {p : S} {i : ℕ} {ls : List L} {rs : List (Row C S)} (m : ℕ) → Chain Reads Takes p i ls rs → Chain Reads Takes p i (take m ls) (take m rs)
  chain_take zero h = nil
  chain_take (suc m) nil = nil
  chain_take {p = p} (suc m) (link {r = r} e f h) = link e f (chain_take {p = r.state} m h)

  pub chain_drop : {p : S} {i : ℕ} {ls : List L} {rs : List (Row C S)} (m : ℕ) → Chain Reads Takes p i ls rs → m ≤ length ls
      → Chain Reads Takes (state_after p rs m) (i + m) (drop m ls) (drop m rs)
  unfolding last_of
  chain_drop {i = i} zero h b = rw (add-zero i) h
  chain_drop (suc m) nil b = absurd (omega arith)
  chain_drop {p = p} (suc m) (link {i = i} {r = r} e f h) b = let n : i + 1 + m ≡ i + suc m = omega arith in rw n at (chain_drop {p = r.state} m h (omega arith))

  -- the rows by themselves
  pub chain_follows : {p : S} {i : ℕ} {ls : List L} {rs : List (Row C S)} → Chain Reads Takes p i ls rs → Follows Takes p i rs
  chain_follows nil = nil
  chain_follows (link e f h) = link refl f (chain_follows h)

-- relations that say more
pub chain_map : {L C S : Type 0} {Reads Reads' : ℕ → L → C → Type 0} {Takes Takes' : S → C → S → Type 0}
    → ((i : ℕ) (l : L) (c : C) → Reads i l c → Reads' i l c) → ((p : S) (c : C) (q : S) → Takes p c q → Takes' p c q)
    → {p : S} {i : ℕ} {ls : List L} {rs : List (Row C S)} → Chain Reads Takes p i ls rs → Chain Reads' Takes' p i ls rs
chain_map f g nil = nil
chain_map f g {p} (link {l = l} {i = i} {r = r} e t h) = link (f (i + 1) l r.command e) (g p r.command r.state t) (chain_map f g h)

-- ---- rows that follow

module _ {C S : Type 0} {Takes : S → C → S → Type 0} where
  pub follows_head : {p : S} {i : ℕ} {r : Row C S} {rs : List (Row C S)} → Follows Takes p i (r ∷ rs) → Takes p r.command r.state
  follows_head (link e f h) = f

  pub follows_tail : {p : S} {i : ℕ} {r : Row C S} {rs : List (Row C S)} → Follows Takes p i (r ∷ rs) → Follows Takes r.state (i + 1) rs
  follows_tail (link e f h) = h

  pub follows_first : {p : S} {i : ℕ} (xs ys : List (Row C S)) → Follows Takes p i (xs ++ ys) → Follows Takes p i xs
  follows_first [] ys g = nil
  follows_first {p = p} (x ∷ xs) ys g = link refl (follows_head g) (follows_first {p = x.state} xs ys (follows_tail g))

  pub follows_rest : {p : S} {i : ℕ} (xs ys : List (Row C S)) → Follows Takes p i (xs ++ ys) → Follows Takes (last_of p xs) (i + length xs) ys
  unfolding last_of
  follows_rest {i = i} [] ys g = rw (add-zero i) g
  follows_rest {p = p} {i = i} (x ∷ xs) ys g =
      let n : i + 1 + length xs ≡ i + suc (length xs) = omega arith in
      rw n at (follows_rest {p = x.state} xs ys (follows_tail g))
