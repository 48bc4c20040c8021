-- The numbers of a row: a row in range looks whole, and what looks whole is a row in range.
use mathlib.Core.Path.{◌≡◌, refl, sym, ap, ap₂, ◌∙◌}
use mathlib.Core.Bool.{Bool, true, false, ◌&&◌, cond}
use mathlib.Core.List.{List, [], ◌∷◌, ◌++◌}
use Prim.Native.Nat.{ℕ, zero, suc, ◌+◌, ◌%◌, ◌≤◌}
use native.Mathlib.Omega.{arith}
use borrow.Author.Tests.{eqb-true, eq-eqb}
use lib.Dec.{eqb}
use lib.IntN.{ℤ, pos, nat_abs}
use lib.ListN.{length, take, drop, drop_of_length-le, length-append}
use lib.Seq.{drop-cons, take_at}
use Rattle.std.specs.Prelude.{None}
use Rattle.rules.proofs.Said.{row_same}
use Rattle.lists.proofs.Choice.{both}
use Rattle.runs.specs.Machine.{Row}
use Rattle.points.specs.declared.Point.{Point}
use Rattle.points.specs.declared.Arc.{Arc}
use Rattle.points.specs.Points.{place_of}
use Rattle.rules.specs.declared.State.{State}
use Rattle.rules.specs.declared.Command.{Command}
use Rattle.rules.specs.declared.Command.TheVariants.{Comment, M48, Metric, Inch, Declare, Percent, G05, G00, Select, Hit, M15, M16, G01, G02, G03, M30}
use Rattle.rules.specs.Results.{row_found}
use Rattle.rules.specs.Numbers.{max_number, max_tool, max_places}
use Rattle.rules.specs.Kinds as Kinds
use Rattle.rules.specs.State.{over, inch_unit, tool_down}
use Rattle.tools.specs.Set.{max_word}
use Rattle.rules.specs.Rows.{row_width, five_of, command_numbers, decimals_of, state_numbers, row_numbers, within, is_coord, is_zero, legal_tool, legal_point, legal_size, legal_decimals, field, field_n, legal_command, legal_state, row_test, command_from, command_at, state_at, look_of}
use Rattle.rules.specs.Ranges.{PointOk, StateOk, NumberOk, ArcOk, CommandOk}
use Rattle.laws.proofs.RowTests.{both_true, within_yes, within_says, zero_says, coord_yes, coord_says, even_yes, even_says, command_tested, state_tested}

-- ---- how many they are

pub command_length : (c : Command) → length (command_numbers c) ≡ 5
unfolding command_numbers
command_length Comment = refl
command_length M48 = refl
command_length Metric = refl
command_length Inch = refl
command_length (Declare t d) = refl
command_length Percent = refl
command_length G05 = refl
command_length (G00 p) = refl
command_length (Select t) = refl
command_length (Hit p) = refl
command_length M15 = refl
command_length M16 = refl
command_length (G01 p) = refl
command_length (G02 a) = refl
command_length (G03 a) = refl
command_length M30 = refl

pub state_length : (s : State) → length (state_numbers s) ≡ 10
unfolding state_numbers
state_length s = refl

pub row_length : (r : Row Command State) → length (row_numbers r) ≡ row_width
unfolding row_numbers
row_length r =
    let s = state_numbers r.state in
    let d = pos (decimals_of r.command) ∷ [] in
    omega (arith, length-append (command_numbers r.command) (s ++ d), length-append s d, command_length r.command, state_length r.state)

-- ---- numbers one by one

-- m numbers from place j on
abbrev fields_from : List ℤ → ℕ → ℕ → List ℤ
fields_from a j zero = []
fields_from a j (suc m) = field a j ∷ fields_from a (suc j) m

drop_fields : (a : List ℤ) (j m : ℕ) → length a ≡ j + m → drop j a ≡ fields_from a j m
drop_fields a j zero e = drop_of_length-le a {i = j} (omega arith)
drop_fields a j (suc m) e = drop-cons a j (pos 0) (omega arith) ∙ ap (◌∷◌ (field a j)) (drop_fields a (suc j) m (omega arith))

pub list_fields : (a : List ℤ) (m : ℕ) → length a ≡ m → a ≡ fields_from a 0 m
list_fields a m e = drop_fields a 0 m (omega arith)

-- ---- a row in range looks whole

point_yes : (p : Point) → PointOk p → (is_coord p.x && is_coord p.y) ≡ true
point_yes p h = both_true (is_coord p.x) (is_coord p.y) (coord_yes p.x h.x_range) (coord_yes p.y h.y_range)

number_yes : (lo hi n : ℕ) → NumberOk lo hi n → within lo hi (pos n) ≡ true
number_yes lo hi n h = within_yes lo hi n h.low h.high

-- a row's numbers are its command's, in range or not
pub command_back : (c : Command) (s : State) → command_at (row_numbers (record { command = c; state = s })) ≡ c
unfolding row_numbers command_numbers state_numbers decimals_of command_at command_from
command_back Comment s = refl
command_back M48 s = refl
command_back Metric s = refl
command_back Inch s = refl
command_back (Declare t d) s = refl
command_back Percent s = refl
command_back G05 s = refl
command_back (G00 p) s = refl
command_back (Select t) s = refl
command_back (Hit p) s = refl
command_back M15 s = refl
command_back M16 s = refl
command_back (G01 p) s = refl
command_back (G02 a) s = refl
command_back (G03 a) s = refl
command_back M30 s = refl

-- the numbers of a state are that state's, whatever five come before them and whatever comes after
state_between : (a : List ℤ) (s : State) (rest : List ℤ) → length a ≡ 5 → state_at (a ++ (state_numbers s ++ rest)) ≡ s
unfolding state_numbers state_at
state_between a s rest e = rw (list_fields a 5 e)

-- and a row's numbers are its state's
pub state_back : (c : Command) (s : State) → state_at (row_numbers (record { command = c; state = s })) ≡ s
unfolding row_numbers
state_back c s = state_between (command_numbers c) s (pos (decimals_of c) ∷ []) (command_length c)

decimals_yes : (a : Arc) → ArcOk a → (within 0 max_places (pos a.decimals) && eqb (a.radius % place_of a.decimals) 0) ≡ true
decimals_yes a h =
    both_true (within 0 max_places (pos a.decimals)) (eqb (a.radius % place_of a.decimals) 0)
    (within_yes 0 max_places a.decimals (omega arith) h.decimals_range) (eq-eqb (a.radius % place_of a.decimals) 0 h.whole_places)

arc_yes : (a : Arc) → ArcOk a
    → ((is_coord a.to.x && is_coord a.to.y)
    && (within 1 max_number (pos a.radius) && (within 0 max_places (pos a.decimals) && eqb (a.radius % place_of a.decimals) 0))) ≡ true
arc_yes a h =
    both_true (is_coord a.to.x && is_coord a.to.y) _ (point_yes a.to h.to_range)
    (both_true (within 1 max_number (pos a.radius)) _ (number_yes 1 max_number a.radius h.radius_range) (decimals_yes a h))

command_legal : (c : Command) → CommandOk c → (s : State) → legal_command (row_numbers (record { command = c; state = s })) ≡ true
unfolding row_numbers command_numbers state_numbers decimals_of legal_command legal_tool legal_point legal_size legal_decimals within is_coord
command_legal Comment h s = refl
command_legal M48 h s = refl
command_legal Metric h s = refl
command_legal Inch h s = refl
command_legal (Declare t d) h s =
    both_true (within 1 max_tool (pos t)) (within 1 max_number (pos d) && true) (number_yes 1 max_tool t h.0)
    (both_true (within 1 max_number (pos d)) true (number_yes 1 max_number d h.1) refl)
command_legal Percent h s = refl
command_legal G05 h s = refl
command_legal (G00 p) h s = both_true (is_coord p.x && is_coord p.y) true (point_yes p h) refl
command_legal (Select t) h s = both_true (within 1 max_tool (pos t)) true (number_yes 1 max_tool t h) refl
command_legal (Hit p) h s = both_true (is_coord p.x && is_coord p.y) true (point_yes p h) refl
command_legal M15 h s = refl
command_legal M16 h s = refl
command_legal (G01 p) h s = both_true (is_coord p.x && is_coord p.y) true (point_yes p h) refl
command_legal (G02 a) h s = arc_yes a h
command_legal (G03 a) h s = arc_yes a h
command_legal M30 h s = refl

five_state : (k t x y d : ℤ) (s : State) (rest : List ℤ) → StateOk s → legal_state (k ∷ t ∷ x ∷ y ∷ d ∷ (state_numbers s ++ rest)) ≡ true
unfolding state_numbers legal_state
five_state k t x y d s rest h =
    let w = h.tools_range in
    all (within_yes 0 over s.phase (omega arith) h.phase_range)
    (all (within_yes 0 inch_unit s.unit (omega arith) h.unit_range)
    (all (within_yes 0 tool_down s.motion (omega arith) h.motion_range)
    (all (within_yes 0 max_tool s.tool (omega arith) h.tool_range)
    (all (point_yes s.at h.at_range)
    (all (all (within_yes 0 max_word s.tools.a (omega arith) w.a_range) (even_yes s.tools.a w.no_zero))
    (all (within_yes 0 max_word s.tools.b (omega arith) w.b_range)
    (all (within_yes 0 max_word s.tools.c (omega arith) w.c_range)
    (within_yes 0 max_word s.tools.d (omega arith) w.d_range))))))))
  where
    all : {p q : Bool} → p ≡ true → q ≡ true → (p && q) ≡ true
    all {p} {q} e f = both_true p q e f

state_legal : (c : Command) (s : State) → StateOk s → legal_state (row_numbers (record { command = c; state = s })) ≡ true
unfolding row_numbers
state_legal c s h =
    let a = command_numbers c in
    rw (list_fields a 5 (command_length c)) (five_state (field a 0) (field a 1) (field a 2) (field a 3) (field a 4) s (pos (decimals_of c) ∷ []) h)

pub look_yes : (a : List ℤ) (c : Command) (s : State) → row_test a ≡ true → command_at a ≡ c → state_at a ≡ s → look_of a ≡ row_found c s
unfolding look_of
look_yes a c s e f g = rw e (λ i. row_found (f i) (g i))

pub look_row : (r : Row Command State) → CommandOk r.command → StateOk r.state → look_of (row_numbers r) ≡ row_found r.command r.state
unfolding row_test
look_row r h k =
    look_yes (row_numbers r) r.command r.state
    (both_true (legal_command (row_numbers r)) (legal_state (row_numbers r)) (command_legal r.command h r.state) (state_legal r.command r.state k))
    (command_back r.command r.state) (state_back r.command r.state)

pub look_numbers : (r : Row Command State) → CommandOk r.command → StateOk r.state → (rest : List ℤ)
    → look_of (take row_width (row_numbers r ++ rest)) ≡ row_found r.command r.state
look_numbers r h k rest = rw (take_at (row_numbers r) rest row_width (row_length r)) (look_row r h k)

-- ---- what looks whole is a row in range

number_says : (lo hi : ℕ) (z : ℤ) → within lo hi z ≡ true → NumberOk lo hi (nat_abs z)
number_says lo hi z e = let w = within_says lo hi z e in record { low = w.low; high = w.high }

point_says : (x y : ℤ) → (is_coord x && is_coord y) ≡ true → PointOk (record { x = x; y = y })
point_says x y e = let h = both (is_coord x) (is_coord y) e in record { x_range = coord_says x h.0; y_range = coord_says y h.1 }

natural : (lo hi : ℕ) (z : ℤ) → within lo hi z ≡ true → pos (nat_abs z) ≡ z
natural lo hi z e = (within_says lo hi z e).natural

-- five numbers, equal one by one
five_eq : (k : ℕ) {t t' x x' y y' d d' : ℤ} → t ≡ t' → x ≡ x' → y ≡ y' → d ≡ d'
    → pos k ∷ t ∷ x ∷ y ∷ d ∷ [] ≡ pos k ∷ t' ∷ x' ∷ y' ∷ d' ∷ []
five_eq k e f g h = λ i. pos k ∷ e i ∷ f i ∷ g i ∷ h i ∷ []

-- the five numbers of a kind, by what it carries
module _ (k : ℕ) (t x y d : ℤ) where
  bare : is_zero t ≡ true → (is_zero x && is_zero y) ≡ true → is_zero d ≡ true → five_of k 0 (pos 0) (pos 0) 0 ≡ pos k ∷ t ∷ x ∷ y ∷ d ∷ []
  bare ht hp hd = let h = both (is_zero x) (is_zero y) hp in five_eq k (sym (zero_says t ht)) (sym (zero_says x h.0)) (sym (zero_says y h.1)) (sym (zero_says d hd))

  pointed : is_zero t ≡ true → is_zero d ≡ true → five_of k 0 x y 0 ≡ pos k ∷ t ∷ x ∷ y ∷ d ∷ []
  pointed ht hd = five_eq k (sym (zero_says t ht)) refl refl (sym (zero_says d hd))

  curved : is_zero t ≡ true → within 1 max_number d ≡ true → five_of k 0 x y (nat_abs d) ≡ pos k ∷ t ∷ x ∷ y ∷ d ∷ []
  curved ht hd = five_eq k (sym (zero_says t ht)) refl refl (natural 1 max_number d hd)

  selected : within 1 max_tool t ≡ true → (is_zero x && is_zero y) ≡ true → is_zero d ≡ true → five_of k (nat_abs t) (pos 0) (pos 0) 0 ≡ pos k ∷ t ∷ x ∷ y ∷ d ∷ []
  selected ht hp hd = let h = both (is_zero x) (is_zero y) hp in five_eq k (natural 1 max_tool t ht) (sym (zero_says x h.0)) (sym (zero_says y h.1)) (sym (zero_says d hd))

  declared : within 1 max_tool t ≡ true → (is_zero x && is_zero y) ≡ true → within 1 max_number d ≡ true → five_of k (nat_abs t) (pos 0) (pos 0) (nat_abs d) ≡ pos k ∷ t ∷ x ∷ y ∷ d ∷ []
  declared ht hp hd = let h = both (is_zero x) (is_zero y) hp in five_eq k (natural 1 max_tool t ht) (sym (zero_says x h.0)) (sym (zero_says y h.1)) (natural 1 max_number d hd)

arc_says : (x y r d : ℤ) → (is_coord x && is_coord y) ≡ true → within 1 max_number r ≡ true
    → (within 0 max_places d && eqb (nat_abs r % place_of (nat_abs d)) 0) ≡ true
    → ArcOk (record { to = record { x = x; y = y }; radius = nat_abs r; decimals = nat_abs d })
arc_says x y r d hp hr hd =
    let h = both (within 0 max_places d) (eqb (nat_abs r % place_of (nat_abs d)) 0) hd in
    record {
      to_range = point_says x y hp;
      radius_range = number_says 1 max_number r hr;
      decimals_range = (within_says 0 max_places d h.0).high;
      whole_places = eqb-true (nat_abs r % place_of (nat_abs d)) 0 h.1;
    }

-- the numbers k, t, x, y, d and e are those of the command that they are read as, which is in range
abbrev Command-says : ℕ → ℤ → ℤ → ℤ → ℤ → ℤ → Command → Type 0
Command-says k t x y d e c = (command_numbers c ≡ pos k ∷ t ∷ x ∷ y ∷ d ∷ []) × (pos (decimals_of c) ≡ e) × CommandOk c

no_decimals : (e : ℤ) → is_zero e ≡ true → pos 0 ≡ e
no_decimals e h = sym (zero_says e h)

some_decimals : (r e : ℤ) → (within 0 max_places e && eqb (nat_abs r % place_of (nat_abs e)) 0) ≡ true → pos (nat_abs e) ≡ e
some_decimals r e h = natural 0 max_places e (both (within 0 max_places e) _ h).0

command_says : (k : ℕ) (t x y d e : ℤ) → k ≤ Kinds.m30 → legal_tool k t ≡ true → legal_point k x y ≡ true → legal_size k d ≡ true
    → legal_decimals k d e ≡ true → Command-says k t x y d e (command_from k (nat_abs t) (record { x = x; y = y }) (nat_abs d) (nat_abs e))
unfolding legal_tool legal_point legal_size legal_decimals command_from command_numbers decimals_of
command_says zero t x y d e h ht hp hd he = (bare 0 t x y d ht hp hd, no_decimals e he, tt)
command_says (suc zero) t x y d e h ht hp hd he = (bare 1 t x y d ht hp hd, no_decimals e he, tt)
command_says (suc (suc zero)) t x y d e h ht hp hd he = (bare 2 t x y d ht hp hd, no_decimals e he, tt)
command_says (suc (suc (suc zero))) t x y d e h ht hp hd he = (bare 3 t x y d ht hp hd, no_decimals e he, tt)
command_says (suc (suc (suc (suc zero)))) t x y d e h ht hp hd he = (declared 4 t x y d ht hp hd, no_decimals e he, (number_says 1 max_tool t ht, number_says 1 max_number d hd))
command_says (suc (suc (suc (suc (suc zero))))) t x y d e h ht hp hd he = (bare 5 t x y d ht hp hd, no_decimals e he, tt)
command_says (suc (suc (suc (suc (suc (suc zero)))))) t x y d e h ht hp hd he = (bare 6 t x y d ht hp hd, no_decimals e he, tt)
command_says (suc (suc (suc (suc (suc (suc (suc zero))))))) t x y d e h ht hp hd he = (pointed 7 t x y d ht hd, no_decimals e he, point_says x y hp)
command_says (suc (suc (suc (suc (suc (suc (suc (suc zero)))))))) t x y d e h ht hp hd he = (selected 8 t x y d ht hp hd, no_decimals e he, number_says 1 max_tool t ht)
command_says (suc (suc (suc (suc (suc (suc (suc (suc (suc zero))))))))) t x y d e h ht hp hd he = (pointed 9 t x y d ht hd, no_decimals e he, point_says x y hp)
command_says (suc (suc (suc (suc (suc (suc (suc (suc (suc (suc zero)))))))))) t x y d e h ht hp hd he = (bare 10 t x y d ht hp hd, no_decimals e he, tt)
command_says (suc (suc (suc (suc (suc (suc (suc (suc (suc (suc (suc zero))))))))))) t x y d e h ht hp hd he = (bare 11 t x y d ht hp hd, no_decimals e he, tt)
command_says (suc (suc (suc (suc (suc (suc (suc (suc (suc (suc (suc (suc zero)))))))))))) t x y d e h ht hp hd he = (pointed 12 t x y d ht hd, no_decimals e he, point_says x y hp)
command_says (suc (suc (suc (suc (suc (suc (suc (suc (suc (suc (suc (suc (suc zero))))))))))))) t x y d e h ht hp hd he = (curved 13 t x y d ht hd, some_decimals d e he, arc_says x y d e hp hd he)
command_says (suc (suc (suc (suc (suc (suc (suc (suc (suc (suc (suc (suc (suc (suc zero)))))))))))))) t x y d e h ht hp hd he = (curved 14 t x y d ht hd, some_decimals d e he, arc_says x y d e hp hd he)
command_says (suc (suc (suc (suc (suc (suc (suc (suc (suc (suc (suc (suc (suc (suc (suc zero))))))))))))))) t x y d e h ht hp hd he = (bare 15 t x y d ht hp hd, no_decimals e he, tt)
command_says (suc (suc (suc (suc (suc (suc (suc (suc (suc (suc (suc (suc (suc (suc (suc (suc k)))))))))))))))) t x y d e h ht hp hd he = absurd (omega arith)

-- the ten numbers of a state, equal one by one
state_says : (a : List ℤ) → legal_state a ≡ true
    → (state_numbers (state_at a) ≡ fields_from a 5 10) × StateOk (state_at a)
unfolding state_numbers state_at
state_says a e =
    let t = state_tested a e in
    let f5 = within_says 0 over (field a 5) t.phase in
    let f6 = within_says 0 inch_unit (field a 6) t.unit in
    let f7 = within_says 0 tool_down (field a 7) t.motion in
    let f8 = within_says 0 max_tool (field a 8) t.tool in
    let f11 = within_says 0 max_word (field a 11) t.word_a in
    let f12 = within_says 0 max_word (field a 12) t.word_b in
    let f13 = within_says 0 max_word (field a 13) t.word_c in
    let f14 = within_says 0 max_word (field a 14) t.word_d in (
      λ i. f5.natural i ∷ f6.natural i ∷ f7.natural i ∷ f8.natural i ∷ field a 9 ∷ field a 10
          ∷ f11.natural i ∷ f12.natural i ∷ f13.natural i ∷ f14.natural i ∷ [],
      record {
        phase_range = f5.high;
        unit_range = f6.high;
        motion_range = f7.high;
        tool_range = f8.high;
        at_range = point_says (field a 9) (field a 10) t.point;
        tools_range = record {
          a_range = f11.high;
          b_range = f12.high;
          c_range = f13.high;
          d_range = f14.high;
          no_zero = even_says (field a 11) t.even_a;
        };
      },
    )

-- numbers that pass the test
test_says : (a : List ℤ) → length a ≡ row_width → row_test a ≡ true
    → (a ≡ row_numbers (record { command = command_at a; state = state_at a })) × CommandOk (command_at a) × StateOk (state_at a)
unfolding row_test row_numbers command_at
test_says a n e =
    let f = both (legal_command a) (legal_state a) e in
    let g = command_tested a f.0 in
    let k = within_says 0 Kinds.m30 (field a 0) g.kind in
    let c
    = command_says (field_n a 0) (field a 1) (field a 2) (field a 3) (field a 4) (field a 15) k.high g.tool g.point g.size g.decimals in
    let s = state_says a f.1 in (
      list_fields a row_width n
          ∙ sym (ap₂ ◌++◌ (c.0 ∙ ap (λ (z : ℤ). z ∷ field a 1 ∷ field a 2 ∷ field a 3 ∷ field a 4 ∷ []) k.natural)
          (ap₂ ◌++◌ s.0 (ap (λ (z : ℤ). z ∷ []) c.1))),
      c.2,
      s.1,
    )

module _ (a : List ℤ) (c : Command) (s : State) (n : length a ≡ row_width) where
  -- the row that numbers are: they are its numbers, and it is in range
  pub record IsRow : Type 0 where
    pub numbers : a ≡ row_numbers (record { command = c; state = s })
    pub command_ok : CommandOk c
    pub state_ok : StateOk s

  look_passes : (t : Bool) → row_test a ≡ t → cond t (row_found (command_at a) (state_at a)) None ≡ row_found c s → IsRow
  look_passes true e q =
      let same = row_same q in
      let w = rw (same.0, same.1) at (test_says a n e) in
      record { numbers = w.0; command_ok = w.1; state_ok = w.2 }
  look_passes false e q = absurd (let z : ◌≡◌ {A = ℕ} 0 1 = cc in omega arith)

  pub look_holds : look_of a ≡ row_found c s → IsRow
  unfolding look_of
  look_holds e = look_passes (row_test a) refl e
