-- What a good answer says of the steps that led to it.
use Rattle.std.proofs.Common.{◌≡◌, Bool, true, false, cond, Result, Ok, Err, refl}
use Rattle.lab_model.specs.Steps.{◌>>=◌, map_ok}

-- a step and what follows it went well
pub then_ok : {A B E : Type 0} (r : Result A E) (f : A → Result B E) (y : B) → (r >>= f) ≡ Ok y → (x : A) × (r ≡ Ok x) × (f x ≡ Ok y)
then_ok (Ok x) f y h = (x, refl, h)
then_ok (Err e) f y h = absurd cc

-- what a good answer under `f` was made of
pub map_ok-ok : {A B E : Type 0} (f : A → B) (r : Result A E) (y : B) → map_ok f r ≡ Ok y → (x : A) × (r ≡ Ok x) × (f x ≡ y)
map_ok-ok f (Ok x) y h = (x, refl, cc)
map_ok-ok f (Err e) y h = absurd cc

-- a refusal under `f` is the refusal
pub map_ok-err : {A B E : Type 0} (f : A → B) (r : Result A E) (y : E) → map_ok f r ≡ Err y → r ≡ Err y
map_ok-err f (Ok x) y h = absurd cc
map_ok-err f (Err e) y h = cc

-- a test that has to pass went well
pub test_ok : {A E : Type 0} (b : Bool) (r : Result A E) (y : A) (e : E) → cond b r (Err e) ≡ Ok y → (b ≡ true) × (r ≡ Ok y)
test_ok true r y e h = (refl, h)
test_ok false r y e h = absurd cc

-- a test that has to fail went well
pub test_err : {A E : Type 0} (b : Bool) (r : Result A E) (y : A) (e : E) → cond b (Err e) r ≡ Ok y → (b ≡ false) × (r ≡ Ok y)
test_err true r y e h = absurd cc
test_err false r y e h = (refl, h)
