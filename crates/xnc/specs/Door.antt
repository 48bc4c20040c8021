-- The revision that a number names, and an answer as one number of 64 bits: its number in document 01, its column, and the count or line.
use Rattle.rules.specs.Results.{Answer, HoleAnswer, refused_at}
use Rattle.std.specs.Prelude.{cond, List, [], ◌∷◌, ℕ, ◌+◌, ◌*◌, ◌<◌, ◌≤◌, leb, eqb, ℤ, length, Some, None, Ok, Err}
use Rattle.lists.specs.Put.{put_at}
use Rattle.rules.specs.declared.Revision.{Revision}
use Rattle.rules.specs.declared.Revision.TheVariants.{Rev2019, Rev2021}
use Rattle.rules.specs.declared.Hole.{Hole}
use Rattle.rules.specs.Refusals.{no_room}
use Rattle.rules.specs.Answers.{Said, success, refusal, number_of, value_of, column_of, refused, said, hole_said}
use Rattle.rules.specs.declared.Refusal.{Refusal}

-- 2019 is that revision, any other number 2021
abbrev pub revision_of : ℕ → Revision
revision_of n = cond (eqb n 2019) Rev2019 Rev2021

-- 2 ^ 16, the room of a number and of a column, and 2 ^ 32, the room of a value
abbrev pub narrow : ℕ
narrow = 65536

abbrev pub wide : ℕ
wide = 4294967296

-- a number of document 01, a column, and the value beside them
abbrev pub together : ℕ → ℕ → ℕ → ℕ
together number column value = number * (narrow * wide) + column * wide + value

-- parts for which there is room: then each is found again
pub record Narrow (s : Said) : Type 0 where
  pub number : number_of s < narrow
  pub column : column_of s < narrow
  pub value : value_of s < wide

abbrev pub packed_said : Said → ℕ
packed_said s = together (number_of s) (column_of s) (value_of s)

abbrev pub packed_refusal : Refusal → ℕ → ℕ
packed_refusal e i = packed_said (refused e i)

unfoldable pub packed : Answer → ℕ
packed a = packed_said (said a)

-- ---- a hole as seven numbers

abbrev pub hole_width : ℕ
hole_width = 7

-- its numbers fit the block's
pub record HoleOk (h : Hole) : Type 0 where
  pub kind_range : h.kind ≤ 2147483647
  pub tool_range : h.tool ≤ 2147483647
  pub radius_range : h.radius ≤ 2147483647

-- a short block is 15 at line 0, after all other refusals
unfoldable pub with_block : HoleAnswer → List ℤ → HoleAnswer
with_block (Ok (Some h)) b = cond (leb hole_width (length b)) (Ok (Some h)) (refused_at no_room 0)
with_block (Ok None) b = cond (leb hole_width (length b)) (Ok None) (refused_at no_room 0)
with_block (Err r) b = refused_at r.refusal r.line

-- 1 where there is a hole, 0 where there is none; else the refusal's line
abbrev pub hole_value : Said → ℕ
hole_value (success []) = 0
hole_value (success (v ∷ vs)) = 1
hole_value (refusal e i c) = i

unfoldable pub hole_packed : HoleAnswer → List ℤ → ℕ
hole_packed a b = together (number_of (hole_said (with_block a b))) (column_of (hole_said (with_block a b))) (hole_value (hole_said (with_block a b)))

-- the values of the answer, put first
abbrev pub left_of : Said → List ℤ → List ℤ
left_of (success vs) b = put_at b 0 vs
left_of (refusal e i c) b = b

unfoldable pub hole_leaves : HoleAnswer → List ℤ → List ℤ
hole_leaves a b = left_of (hole_said (with_block a b)) b
