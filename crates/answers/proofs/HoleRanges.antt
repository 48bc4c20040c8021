-- The numbers of a hole that a table gives are in range, since a row that is looked at is.
use mathlib.Core.Path.{◌≡◌, refl, subst}
use mathlib.Core.List.{List}
use Prim.Native.Nat.{ℕ, zero, suc, ◌-◌, ◌*◌, ◌≤◌}
use native.Mathlib.Omega.{arith}
use lib.IntN.{ℤ}
use lib.ListN.{length, get_or, take, drop, length-drop}
use lib.Seq.{length-take-le}
use Rattle.std.specs.Prelude.{Some, None, Ok, Err}
use Rattle.lists.proofs.Choice.{cond_all}
use Rattle.runs.specs.Machine.{Entry, holds, bad}
use Rattle.points.specs.declared.Point.{Point}
use Rattle.rules.specs.declared.Command.{Command}
use Rattle.rules.specs.declared.State.{State}
use Rattle.rules.specs.declared.Hole.{Hole}
use Rattle.rules.specs.Results.{HoleAnswer, Looked, refused_at}
use Rattle.rules.specs.Refusals.{bad_table}
use Rattle.rules.specs.Numbers.{max_number, max_tool}
use Rattle.rules.specs.Kinds as Kinds
use Rattle.rules.specs.Rows.{row_width, look_of, entry_of, entries_of, sizes_fit}
use Rattle.rules.specs.Ranges.{StateOk, CommandOk}
use Rattle.rules.specs.Holes.{hole_of}
use Rattle.rules.specs.Editing.{is_line, entry_at, before_line}
use Rattle.rules.specs.Asking.{on_row, hole_in, hole_answer}
use Rattle.laws.proofs.Sizes.{sizes_say}
use Rattle.laws.proofs.Ways.{before_all, hole_cases}
use Rattle.laws.proofs.Rows.{look_holds}

-- ---- a row that is looked at

abbrev EntryOk : Entry Command State → Type 0
EntryOk (holds r) = CommandOk r.command × StateOk r.state
EntryOk bad = Unit {0}

looked_ok : (a : List ℤ) → length a ≡ row_width → (x : Looked) → look_of a ≡ x → EntryOk (entry_of x)
looked_ok a n (Some r') e = let r = look_holds a r'.command r'.state n e in (r.command_ok, r.state_ok)
looked_ok a n None e = tt

entries_ok : (n : ℕ) (t : List ℤ) → row_width * n ≤ length t → (i : ℕ) → EntryOk (get_or (entries_of n t) i bad)
unfolding entries_of
entries_ok zero t h i = tt
entries_ok (suc n) t h zero = looked_ok (take row_width t) (length-take-le row_width t (omega arith)) (look_of (take row_width t)) refl
entries_ok (suc n) t h (suc i) = entries_ok n (drop row_width t) (simp length-drop (omega arith)) i

-- ---- its hole

pub record HoleInRange (h : Hole) : Type 0 where
  pub kind_range : h.kind ≤ Kinds.m30
  pub tool_range : h.tool ≤ max_tool
  pub radius_range : h.radius ≤ max_number

abbrev Ranged : HoleAnswer → Type 0
Ranged (Ok (Some h)) = HoleInRange h
Ranged (Ok None) = Unit {0}
Ranged (Err r) = Unit {0}

row_ranged : (from : Point) (k : ℕ) (e : Entry Command State) → EntryOk e → Ranged (on_row e (refused_at bad_table k) (λ r. hole_of from r.command r.state))
row_ranged from k bad w = tt
row_ranged from k (holds r) w =
    hole_cases Ranged from r.state r.command tt
    (λ p _. record { kind_range = omega arith; tool_range = w.1.tool_range; radius_range = omega arith })
    (λ p _. record { kind_range = omega arith; tool_range = w.1.tool_range; radius_range = omega arith })
    (λ a e. record { kind_range = omega arith; tool_range = w.1.tool_range; radius_range = (subst CommandOk e w.0).radius_range.high })
    (λ a e. record { kind_range = omega arith; tool_range = w.1.tool_range; radius_range = (subst CommandOk e w.0).radius_range.high })

hole_ranged : (t : List ℤ) (n k : ℕ) → Ranged (hole_answer t n k)
unfolding hole_answer hole_in
hole_ranged t n k =
    cond_all Ranged (sizes_fit t n)
    (λ s. cond_all Ranged (is_line n k)
    (λ _. before_all Ranged (before_line k (entry_at (entries_of n t) (k - 1))) tt
    (λ p. row_ranged p.at k (entry_at (entries_of n t) k) (entries_ok n t (sizes_say t n s).room (k - 1))))
    (λ _. tt)) (λ _. tt)

pub hole_in_range : (t : List ℤ) (n k : ℕ) (h : Hole) → hole_answer t n k ≡ Ok (Some h) → HoleInRange h
hole_in_range t n k h e = subst Ranged e (hole_ranged t n k)
