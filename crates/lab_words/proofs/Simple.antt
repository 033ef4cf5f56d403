-- The commands are simple ones, and what `clap` then says of them.
use Rattle.std.proofs.Common.{◌≡◌, ◌≢◌, true, false, refl, subst, List, [], ◌∷◌, Some, None, inl, inr}
use Rattle.clap.specs.Faults.{fault_of, is_simple_and_free}
use Rattle.clap.specs.Kinds.{Kinds, HasKind}
use Rattle.clap.specs.Values.{kind_of}
use Rattle.clap.specs.Walk.{Text, rows_of}
use Rattle.clap.specs.Matches.{found_of}
use Rattle.clap.specs.Simple.{App, HasMatchesOf, is_simple}
use Rattle.clap.specs.declared.error.Error.{Error}
use Rattle.clap.specs.declared.error.kind.ErrorKind.TheVariants.{OutOfMemory}
use Rattle.clap.specs.declared.parser.matches.ArgMatches.{ArgMatches}
use Rattle.clap.proofs.WalkLemmas.{both}
use Rattle.lab_words.specs.Check.{check_app}
use Rattle.lab_words.specs.Compare.{compare_app}
use Rattle.lab_words.specs.Demo.{demo_app}
use Rattle.lab_words.specs.Plan.{plan_app}
use Rattle.lab_words.specs.Simulate.{simulate_app}
use Rattle.lab_words.specs.Table.{accepted_words, is_fault_free, table_app, with_words}

-- the command line of `simulate` is of the simple kind
pub simulate_simple : is_simple_and_free simulate_app ≡ true
unfolding simulate_app table_app with_words
simulate_simple = refl

-- the command line of `compare` is of the simple kind
pub compare_simple : is_simple_and_free compare_app ≡ true
unfolding compare_app table_app with_words
compare_simple = refl

-- the command line of `plan` is of the simple kind
pub plan_simple : is_simple_and_free plan_app ≡ true
unfolding plan_app table_app with_words
plan_simple = refl

-- the command line of `check` is of the simple kind
pub check_simple : is_simple_and_free check_app ≡ true
unfolding check_app table_app with_words
check_simple = refl

-- the command line of `demo` is of the simple kind
pub demo_simple : is_simple_and_free demo_app ≡ true
unfolding demo_app table_app with_words
demo_simple = refl

-- the matches of a command that is the simple one b
pub matched : (a b : App) (ws : List Text) (m : ArgMatches) → a ≡ b → is_simple_and_free b ≡ true → (is_simple_and_free a ≡ true → fault_of a ws ≡ []) → HasMatchesOf a ws m
    → accepted_words b ws ≡ Some (rows_of (found_of m))
unfolding accepted_words
matched a b ws m e simple faults matches =
    let F : App → Type 0 = λ x. (is_simple_and_free x ≡ true → fault_of x ws ≡ []) in
    let M : App → Type 0 = λ x. HasMatchesOf x ws m in
    let none = subst F e faults simple in
    let rows = (subst M e matches (both (is_simple b) _ simple).0).0 in
    rw (none, rows) refl

none_among : (ks : Kinds) (e : Error) → HasKind ks e → (kind_of e ≢ OutOfMemory) → is_fault_free ks ≡ false
none_among [] e (inl m) other = absurd (other m)
none_among [] e (inr x) other = absurd x
none_among (k ∷ ks) e h other = refl

-- the refusal of a command that is the simple one b
pub refused : (a b : App) (ws : List Text) (e : Error) → a ≡ b → is_simple_and_free b ≡ true → (is_simple_and_free a ≡ true → HasKind (fault_of a ws) e) → (kind_of e ≢ OutOfMemory)
    → accepted_words b ws ≡ None
unfolding accepted_words
refused a b ws e same simple kinds other =
    let K : App → Type 0 = λ x. (is_simple_and_free x ≡ true → HasKind (fault_of x ws) e) in
    rw (none_among (fault_of b ws) e (subst K same kinds simple) other) refl
