-- What holds of both ways out holds of the one taken.
use mathlib.Core.Path.{◌≡◌, refl}
use Rattle.runs.specs.Machine.{Out, yields, stops, on_out}

pub out_all : {A R B : Type 0} (P : B → Type 0) (o : Out A R) {f : R → B} {g : A → B}
    → ((e : R) → o ≡ stops e → P (f e)) → ((a : A) → o ≡ yields a → P (g a)) → P (on_out o f g)
out_all P (yields a) s y = y a refl
out_all P (stops e) s y = s e refl
