-- The tests of a setup and of a rule decide whether it fits.
use Rattle.std.proofs.Common.{◌≡◌, ◌↔◌, ◌<◌, ℕ, Bool, true, List, arith, refl, nat_lt}
use Rattle.std.specs.Bool.{IsTrue, Decides}
use Rattle.std.specs.List.{All, list_all}
use Rattle.std.proofs.lemmas.Bool.Decides.{nat_tests, Decides-ltb, Decides-by_and}
use Rattle.lab_model.specs.declared.setup.Setup.{Setup}
use Rattle.lab_model.specs.Film.{Film, rungs_of}
use Rattle.lab_model.specs.Fit.{SetupFits, buffer_fits, utilities_fit}
use Rattle.lab_model.specs.Rules.{RuleKind, KindFits, fixed, listed, throughput, bola, mpc, kind_fits}

below_all : (n : ℕ) (rungs : List ℕ) → Decides (list_all (λ q. nat_lt q n) rungs) (All (λ q. q < n) rungs)
below_all n rungs = Decides-by_and (λ q. nat_lt q n) (λ q. q < n) (list_all (λ q. nat_lt q n)) (λ q. Decides-ltb q n) refl (λ _ _. refl) rungs

-- what tells whether a rule can be asked about a film is the model's test
pub kind_test : (b : Bool) (kind : RuleKind) (f : Film) → (IsTrue b ↔ KindFits kind f) → b ≡ kind_fits kind f
kind_test b (fixed q) f h = grind (arith, nat_tests)
kind_test b (listed rungs) f h = let d = below_all (rungs_of f) rungs in grind (arith, nat_tests)
kind_test b (throughput windows) f h = grind arith
kind_test b (bola g) f h = grind arith
kind_test b (mpc horizon) f h = grind arith

-- a rule that passes the test can be asked about the film
pub kind_passes : (kind : RuleKind) (f : Film) → kind_fits kind f ≡ true → KindFits kind f
kind_passes (fixed q) f h = grind (arith, nat_tests)
kind_passes (listed rungs) f h = let d = below_all (rungs_of f) rungs in grind (arith, nat_tests)
kind_passes (throughput windows) f h = tt
kind_passes (bola g) f h = tt
kind_passes (mpc horizon) f h = tt

-- a setup that passes both tests fits
pub setup_passes : (s : Setup) (f : Film) → buffer_fits s f ≡ true → utilities_fit s f ≡ true → SetupFits s f
setup_passes s f h k = record { buffer = grind (arith, nat_tests); utilities = record { rungs = grind (arith, nat_tests); rows = grind (arith, nat_tests) } }
