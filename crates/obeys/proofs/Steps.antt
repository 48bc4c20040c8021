-- A command is taken exactly where the rules let it come, and to the state they say; it is refused exactly as they say, the
-- phase before the motion, both before the rest: a test of a command is one fact of the relations.
use mathlib.Core.Path.{◌≡◌, refl, sym, ◌∙◌, subst}
use mathlib.Core.Bool.{Bool, true, false, not, false≢true}
use Prim.Native.Nat.{ℕ, ◌+◌, ◌*◌}
use borrow.Author.Tests.{eq-eqb, ne_eqb, eqb-true, eqb-false, lt-ltb, ltb-true, le-leb, leb-true, not-true, not-false}
use lib.Dec.{eqb, ltb, leb}
use Rattle.std.specs.Prelude.{Result, Ok, Err}
use Rattle.lists.proofs.Choice.{both}
use Rattle.points.specs.declared.Point.{Point}
use Rattle.points.specs.declared.Arc.{Arc}
use Rattle.rules.specs.declared.Command.{Command}
use Rattle.rules.specs.declared.Command.TheVariants.{Comment, M48, Metric, Inch, Declare, Percent, G05, G00, Select, Hit, M15, M16, G01, G02, G03, M30}
use Rattle.rules.specs.declared.State.{State}
use Rattle.rules.specs.declared.Refusal.{Refusal}
use Rattle.rules.specs.Refusals.{wrong_phase, wrong_motion, declared_already, not_declared, no_tool_selected, impossible_arc}
use Rattle.tools.specs.Set.{has}
use Rattle.points.specs.Points.{same_point, square_of_distance, square, last_unit, is_possible}
use Rattle.rules.specs.State.{before_m48, bare_header, header, body, over, drill, tool_up, tool_down, no_tool, phase_is, motion_is, is_selected, need, step}
use Rattle.points.proofs.Same.{same_point_iff}
use Rattle.rules.specs.Obeys.{Free, Moving, Possible, Takes, comment, m48, metric, inch, declare, percent, g05, g00, select, hit, m15, m16, g01, g02, g03, m30}
use Rattle.obeys.specs.Faults.{InItsPhase, InItsMotion, Untaken, in_wrong_phase, in_wrong_motion, declared, undeclared, hit_without, down_without, g02_impossible, g03_impossible}

so : (t : Bool) → (t ≡ false → ⊥) → t ≡ true
so true h = refl
so false h = absurd (h refl)

not_so : (t : Bool) → (t ≡ true → ⊥) → t ≡ false
not_so true h = absurd (h refl)
not_so false h = refl

-- ---- arcs

-- the square of the furthest distance
abbrev furthest : Arc → ℕ
furthest a = square (2 * a.radius + last_unit a.decimals)

possible_read : {s : Point} {a : Arc} → Possible s a → is_possible s a ≡ true
unfolding is_possible
possible_read {s} {a} w =
    rw (not_so (same_point s a.to) (λ e. w.apart ((same_point_iff s a.to).0 e)), le-leb (square_of_distance s a.to) (furthest a) w.near)

read_possible : (s : Point) (a : Arc) → is_possible s a ≡ true → Possible s a
unfolding is_possible
read_possible s a e =
    let h = both (not (same_point s a.to)) (leb (square_of_distance s a.to) (furthest a)) e in
    record {
      apart = λ q. false≢true (sym (not-true (same_point s a.to) h.0) ∙ (same_point_iff s a.to).1 q);
      near = leb-true (square_of_distance s a.to) (furthest a) h.1;
    }

-- ---- what may come is taken

step_read : {s q : State} {c : Command} → Takes s c q → step s c ≡ Ok q
unfolding step need
step_read {s} (comment h) = rw (lt-ltb s.phase over h)
step_read {s} (m48 h) = rw (eq-eqb s.phase before_m48 h)
step_read {s} (metric h) = rw (eq-eqb s.phase bare_header h)
step_read {s} (inch h) = rw (eq-eqb s.phase bare_header h)
step_read {s} (declare h n) = rw (eq-eqb s.phase header h, n)
step_read {s} (percent h) = rw (eq-eqb s.phase header h)
step_read {s} (g05 h) = rw (eq-eqb s.phase body h.in_body, ne_eqb s.motion tool_down h.not_down)
step_read {s} (g00 h) = rw (eq-eqb s.phase body h.in_body, ne_eqb s.motion tool_down h.not_down)
step_read {s} (select h n) = rw (eq-eqb s.phase body h.in_body, ne_eqb s.motion tool_down h.not_down, n)
step_read {s} (hit h n) = rw (eq-eqb s.phase body h.in_body, eq-eqb s.motion drill h.motion, ne_eqb s.tool no_tool n)
step_read {s} (m15 h n) = rw (eq-eqb s.phase body h.in_body, eq-eqb s.motion tool_up h.motion, ne_eqb s.tool no_tool n)
step_read {s} (m16 h) = rw (eq-eqb s.phase body h.in_body, eq-eqb s.motion tool_down h.motion)
step_read {s} (g01 h) = rw (eq-eqb s.phase body h.in_body, eq-eqb s.motion tool_down h.motion)
step_read {s} (g02 h w) = rw (eq-eqb s.phase body h.in_body, eq-eqb s.motion tool_down h.motion, possible_read w)
step_read {s} (g03 h w) = rw (eq-eqb s.phase body h.in_body, eq-eqb s.motion tool_down h.motion, possible_read w)
step_read {s} (m30 h) = rw (eq-eqb s.phase body h.in_body, ne_eqb s.motion tool_down h.not_down)

-- ---- what may not come is refused

phase_read : (s : State) (c : Command) → (InItsPhase c s.phase → ⊥) → step s c ≡ Err wrong_phase
unfolding step need
phase_read s Comment h = rw (not_so (ltb s.phase over) (λ e. h (ltb-true s.phase over e)))
phase_read s M48 h = rw (ne_eqb s.phase before_m48 h)
phase_read s Metric h = rw (ne_eqb s.phase bare_header h)
phase_read s Inch h = rw (ne_eqb s.phase bare_header h)
phase_read s (Declare t d) h = rw (ne_eqb s.phase header h)
phase_read s Percent h = rw (ne_eqb s.phase header h)
phase_read s G05 h = rw (ne_eqb s.phase body h)
phase_read s (G00 p) h = rw (ne_eqb s.phase body h)
phase_read s (Select t) h = rw (ne_eqb s.phase body h)
phase_read s (Hit p) h = rw (ne_eqb s.phase body h)
phase_read s M15 h = rw (ne_eqb s.phase body h)
phase_read s M16 h = rw (ne_eqb s.phase body h)
phase_read s (G01 p) h = rw (ne_eqb s.phase body h)
phase_read s (G02 a) h = rw (ne_eqb s.phase body h)
phase_read s (G03 a) h = rw (ne_eqb s.phase body h)
phase_read s M30 h = rw (ne_eqb s.phase body h)

-- the tool is down
is_down : (m : ℕ) → ((m ≡ tool_down → ⊥) → ⊥) → eqb m tool_down ≡ true
is_down m h = so (eqb m tool_down) (λ e. h (eqb-false m tool_down e))

motion_read : (s : State) (c : Command) → InItsPhase c s.phase → (InItsMotion c s.motion → ⊥) → step s c ≡ Err wrong_motion
unfolding step need
motion_read s Comment p h = absurd (h tt)
motion_read s M48 p h = absurd (h tt)
motion_read s Metric p h = absurd (h tt)
motion_read s Inch p h = absurd (h tt)
motion_read s (Declare t d) p h = absurd (h tt)
motion_read s Percent p h = absurd (h tt)
motion_read s G05 p h = rw (eq-eqb s.phase body p, is_down s.motion h)
motion_read s (G00 q) p h = rw (eq-eqb s.phase body p, is_down s.motion h)
motion_read s (Select t) p h = rw (eq-eqb s.phase body p, is_down s.motion h)
motion_read s (Hit q) p h = rw (eq-eqb s.phase body p, ne_eqb s.motion drill h)
motion_read s M15 p h = rw (eq-eqb s.phase body p, ne_eqb s.motion tool_up h)
motion_read s M16 p h = rw (eq-eqb s.phase body p, ne_eqb s.motion tool_down h)
motion_read s (G01 q) p h = rw (eq-eqb s.phase body p, ne_eqb s.motion tool_down h)
motion_read s (G02 a) p h = rw (eq-eqb s.phase body p, ne_eqb s.motion tool_down h)
motion_read s (G03 a) p h = rw (eq-eqb s.phase body p, ne_eqb s.motion tool_down h)
motion_read s M30 p h = rw (eq-eqb s.phase body p, is_down s.motion h)

impossible_read : (s : Point) (a : Arc) → (Possible s a → ⊥) → is_possible s a ≡ false
impossible_read s a h = not_so (is_possible s a) (λ e. h (read_possible s a e))

step_refuses : {s : State} {c : Command} {e : Refusal} → Untaken s c e → step s c ≡ Err e
unfolding step need
step_refuses {s} (in_wrong_phase {c = c} h) = phase_read s c h
step_refuses {s} (in_wrong_motion {c = c} p h) = motion_read s c p h
step_refuses {s} (declared h n) = rw (eq-eqb s.phase header h, n)
step_refuses {s} (undeclared h n) = rw (eq-eqb s.phase body h.in_body, ne_eqb s.motion tool_down h.not_down, n)
step_refuses {s} (hit_without h n) = rw (eq-eqb s.phase body h.in_body, eq-eqb s.motion drill h.motion, eq-eqb s.tool no_tool n)
step_refuses {s} (down_without h n) = rw (eq-eqb s.phase body h.in_body, eq-eqb s.motion tool_up h.motion, eq-eqb s.tool no_tool n)
step_refuses {s} (g02_impossible {a = a} h w) = rw (eq-eqb s.phase body h.in_body, eq-eqb s.motion tool_down h.motion, impossible_read s.at a w)
step_refuses {s} (g03_impossible {a = a} h w) = rw (eq-eqb s.phase body h.in_body, eq-eqb s.motion tool_down h.motion, impossible_read s.at a w)

-- ---- and the other way: what a step says is so

need_all : (P : Result State Refusal → Type 0) (t : Bool) (e : Refusal) {x : (Result State Refusal)} → (t ≡ false → P (Err e)) → (t ≡ true → P x) → P (need t e x)
unfolding need
need_all P true e z g = g refl
need_all P false e z g = z refl

abbrev Says : State → Command → Result State Refusal → Type 0
Says s c (Ok q) = Takes s c q
Says s c (Err e) = Untaken s c e

-- the tests that more than one command has
module _ (s : State) (P : Result State Refusal → Type 0) {x : (Result State Refusal)} where
  in_phase_lem : (n : ℕ) → ((s.phase ≡ n → ⊥) → P (Err wrong_phase)) → (s.phase ≡ n → P x) → P (need (phase_is n s) wrong_phase x)
  in_phase_lem n z g = need_all P (phase_is n s) wrong_phase (λ e. z (eqb-false s.phase n e)) (λ e. g (eqb-true s.phase n e))

  selected : (s.tool ≡ no_tool → P (Err no_tool_selected)) → ((s.tool ≡ no_tool → ⊥) → P x) → P (need (is_selected s) no_tool_selected x)
  selected z g =
      need_all P (is_selected s) no_tool_selected (λ t. z (eqb-true s.tool no_tool (not-false (eqb s.tool no_tool) t)))
      (λ t. g (eqb-false s.tool no_tool (not-true (eqb s.tool no_tool) t)))

  possible : (a : Arc) → ((Possible s.at a → ⊥) → P (Err impossible_arc)) → (Possible s.at a → P x) → P (need (is_possible s.at a) impossible_arc x)
  possible a z g =
      need_all P (is_possible s.at a) impossible_arc (λ t. z (λ w. false≢true (sym t ∙ possible_read w))) (λ t. g (read_possible s.at a t))

module _ (s : State) (P : Result State Refusal → Type 0) (phase : (s.phase ≡ body → ⊥) → P (Err wrong_phase)) {x : (Result State Refusal)} where
  in_motion_lem : (n : ℕ) → (s.phase ≡ body → (s.motion ≡ n → ⊥) → P (Err wrong_motion)) → (Moving n s → P x)
      → P (need (phase_is body s) wrong_phase (need (motion_is n s) wrong_motion x))
  in_motion_lem n z g =
      in_phase_lem s P body phase
      (λ p. need_all P (motion_is n s) wrong_motion (λ m. z p (eqb-false s.motion n m)) (λ m. g (record { in_body = p; motion = eqb-true s.motion n m })))

  free : (s.phase ≡ body → ((s.motion ≡ tool_down → ⊥) → ⊥) → P (Err wrong_motion)) → (Free s → P x)
      → P (need (phase_is body s) wrong_phase (need (not (motion_is tool_down s)) wrong_motion x))
  free z g =
      in_phase_lem s P body phase
      (λ p. need_all P (not (motion_is tool_down s)) wrong_motion (λ m. z p (λ n. n (eqb-true s.motion tool_down (not-false (motion_is tool_down s) m))))
      (λ m. g (record { in_body = p; not_down = eqb-false s.motion tool_down (not-true (motion_is tool_down s) m) })))

step_sound : (s : State) (c : Command) → Says s c (step s c)
unfolding step
step_sound s Comment =
    need_all (Says s Comment) (ltb s.phase over) wrong_phase (λ e. in_wrong_phase (λ h. false≢true (sym e ∙ lt-ltb s.phase over h)))
    (λ e. comment (ltb-true s.phase over e))
step_sound s M48 = in_phase_lem s (Says s M48) before_m48 (λ n. in_wrong_phase n) (λ h. m48 h)
step_sound s Metric = in_phase_lem s (Says s Metric) bare_header (λ n. in_wrong_phase n) (λ h. metric h)
step_sound s Inch = in_phase_lem s (Says s Inch) bare_header (λ n. in_wrong_phase n) (λ h. inch h)
step_sound s (Declare t d) =
    in_phase_lem s (Says s (Declare t d)) header (λ n. in_wrong_phase n)
    (λ h. need_all (Says s (Declare t d)) (not (has s.tools t)) declared_already (λ n. declared h (not-false (has s.tools t) n))
    (λ n. declare h (not-true (has s.tools t) n)))
step_sound s Percent = in_phase_lem s (Says s Percent) header (λ n. in_wrong_phase n) (λ h. percent h)
step_sound s G05 = free s (Says s G05) (λ n. in_wrong_phase n) (λ p n. in_wrong_motion p n) (λ h. g05 h)
step_sound s (G00 q) = free s (Says s (G00 q)) (λ n. in_wrong_phase n) (λ p n. in_wrong_motion p n) (λ h. g00 h)
step_sound s (Select t) =
    free s (Says s (Select t)) (λ n. in_wrong_phase n) (λ p n. in_wrong_motion p n)
    (λ h. need_all (Says s (Select t)) (has s.tools t) not_declared (λ n. undeclared h n) (λ n. select h n))
step_sound s (Hit q) =
    in_motion_lem s (Says s (Hit q)) (λ n. in_wrong_phase n) drill (λ p n. in_wrong_motion p n) (λ h. selected s (Says s (Hit q)) (λ n. hit_without h n) (λ n. hit h n))
step_sound s M15 =
    in_motion_lem s (Says s M15) (λ n. in_wrong_phase n) tool_up (λ p n. in_wrong_motion p n) (λ h. selected s (Says s M15) (λ n. down_without h n) (λ n. m15 h n))
step_sound s M16 = in_motion_lem s (Says s M16) (λ n. in_wrong_phase n) tool_down (λ p n. in_wrong_motion p n) (λ h. m16 h)
step_sound s (G01 q) = in_motion_lem s (Says s (G01 q)) (λ n. in_wrong_phase n) tool_down (λ p n. in_wrong_motion p n) (λ h. g01 h)
step_sound s (G02 a) =
    in_motion_lem s (Says s (G02 a)) (λ n. in_wrong_phase n) tool_down (λ p n. in_wrong_motion p n) (λ h. possible s (Says s (G02 a)) a (λ w. g02_impossible h w) (λ w. g02 h w))
step_sound s (G03 a) =
    in_motion_lem s (Says s (G03 a)) (λ n. in_wrong_phase n) tool_down (λ p n. in_wrong_motion p n) (λ h. possible s (Says s (G03 a)) a (λ w. g03_impossible h w) (λ w. g03 h w))
step_sound s M30 = free s (Says s M30) (λ n. in_wrong_phase n) (λ p n. in_wrong_motion p n) (λ h. m30 h)

pub step_iff : (s : State) (c : Command) (q : State) → (step s c ≡ Ok q → Takes s c q) × (Takes s c q → step s c ≡ Ok q)
step_iff s c q = (λ e. subst (Says s c) e (step_sound s c), step_read)

pub refused_iff : (s : State) (c : Command) (e : Refusal) → (step s c ≡ Err e → Untaken s c e) × (Untaken s c e → step s c ≡ Err e)
refused_iff s c e = (λ d. subst (Says s c) d (step_sound s c), step_refuses)
