-- Nothing for a whole number, else the point and then the decimals. The invariant: whoever writes the decimals of what is left has
-- written all. The measure: how many there are.
use native.Mathlib.Omega.{arith}
use Rattle.rules.specs.Writing.{places_of}
use Rattle.millionths.proofs.Numbers.{no_decimals, no_fraction, some_fraction, no_places, places_turn, decimals_turn}
use Rattle.text.proofs.Wrote.{wrote_nothing, wrote_more, rest_turn, rest_end}
use Rattle.millionths.proofs.put_fraction.Goals as goal

pub returns-then-millionths-eq0 : goal.returns-then-millionths-eq0
returns-then-millionths-eq0 c = rw (no_fraction _ _ (no_places _ c.if-millionths-eq0.true)) wrote_nothing

pub loop-rest-smaller : goal.loop-rest-smaller
loop-rest-smaller c = let l = c.loop-rest in omega (arith, places_turn l.rest (omega arith) l.invariant.0)

pub loop-rest-preserved : goal.loop-rest-preserved
loop-rest-preserved c =
    let l = c.loop-rest in
    let p = places_turn l.rest c.loop-rest-test.true l.invariant.0 in
    (omega arith, rest_turn _ l.invariant.1 _ (decimals_turn l.rest p.0 p.1) c.put_digit-end.ensures)

pub returns : goal.returns
returns c =
    let l = c.loop-rest in
    let m = c.args.millionths in
    rw (some_fraction (places_of m) m (λ z. omega (arith, places_turn m (omega arith) (omega arith))))
    (wrote_more c.put_byte-end.ensures (rest_end _ l.invariant.1 (no_decimals _ _ (no_places _ (omega arith)))))
