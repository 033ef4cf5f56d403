-- What a command line asks for keeps its limits.
use Rattle.std.proofs.Common.{◌≡◌, ◌++◌, length-append, ◌&&◌, ◌<◌, ◌≤◌, ◌+◌, ◌⊎◌, ℕ, List, [], ◌∷◌, Bool, true, false, Option, Some, None, Result, Ok, Err, IfOk, IfSome, length, refl, sym, ap, subst, arith, cond, inl, inr, zero, suc, option_map, option_and_then, codes, lit≤, if◌then◌else◌}
use Rattle.std.proofs.lemmas.Bool.Decides.{nat_tests}
use Rattle.std.proofs.lemmas.List.Splits.{length-slice_split}
use Rattle.std.specs.List.{All, after_first, before_first, list_any, slice_split}
use Rattle.std.specs.Prelude.{nat_le, slice_index, unwrap_or, ◌==◌}
use Rattle.std.specs.Str.{bytes_eq}
use Rattle.std.specs.Str.Parse.{digits_value}
use Rattle.clap.specs.Walk.{Row, all_of}
use Rattle.indexmap.specs.IndexSet.{insert_all, insert_key}
use Rattle.lab_model.specs.Film.{IsWithin}
use Rattle.lab_model.specs.Limits.{all_ahead, most_budget, most_buffer}
use Rattle.lab_model.specs.Rules.{RuleKind, fixed, listed, throughput, bola, mpc}
use Rattle.lab_model.proofs.Rows.{weighing_within}
use Rattle.lab_model.specs.Row.{AreWeights}
use Rattle.lab_model.specs.Weighing.{IsWeighing, weighing}
use Rattle.lab_words.specs.Limits.{AreWeighed, IsBudget, AreGridWords, IsRuleWithin, IsWithinLimits}
use Rattle.lab_words.specs.Rules.{has_colon, named_rule, named_rules, rule_of, rule_of_kind}
use Rattle.lab_words.specs.Spelling.{Text, all_numbers, at_most, grid_by, grid_of, has_comma, in_range, is_number, never_falls, number_of, numbers_of, pieces_of, unless_falling, utilities_spelled}
use Rattle.lab_words.specs.Check.{check_agrees, check_app, check_in}
use Rattle.lab_words.specs.Command.{CommandWords, blank, view}
use Rattle.lab_words.specs.Demo.{demo_app, demo_in}
use Rattle.lab_words.specs.Plan.{grid_if, grid_words_in, plan_agrees, plan_app, plan_in}
use Rattle.lab_words.specs.Settings.{SettingsWords, UtilitiesWords, settings_in, utilities_by, utilities_in, with_settings}
use Rattle.lab_words.specs.Compare.{budget_in, compare_agrees, compare_app, compare_in, distinct, few, rules_in, traces_in}
use Rattle.lab_words.specs.Simulate.{players_by, players_in, several_players, simulate_agrees, simulate_app, simulate_in}
use Rattle.lab_words.specs.Table.{accepted_words}
use Rattle.lab_model.specs.OptionSteps.{◌>>=◌}
use Rattle.lab_model.proofs.OptionSteps.{then_some}
use Rattle.lab_words.specs.Values.{Either, first, second, Understands, if_agreed, is_given, one_of, is_stray, several, some_plain, number_in, number_if, number_unless, unless_barred, optional, optional_number, required_text}
use Rattle.lab_words.specs.Words.{asked_of, command_of, has_dashes, verb_of}
use Rattle.lab_words.specs.declared.Command.{Command}
use Rattle.lab_words.specs.declared.Verb.{Verb}
use Rattle.lab_words.specs.declared.Verb.TheVariants as verb
use Rattle.lab_words.specs.declared.WordsErr.{WordsErr}

-- ---- what an option is made of

chosen : {A : Type 0} (b : Bool) (o : Option A) (y : A) → cond b o None ≡ Some y → (b ≡ true) × (o ≡ Some y)
chosen true o y h = (refl, h)
chosen false o y h = cc

unchosen : {A : Type 0} (b : Bool) (o : Option A) (y : A) → cond b None o ≡ Some y → o ≡ Some y
unchosen true o y h = cc
unchosen false o y h = h

went : {A B : Type 0} (f : A → Option B) (o : Option A) (y : B) → option_and_then f o ≡ Some y → (x : A) × (o ≡ Some x) × (f x ≡ Some y)
went f (Some x) y h = (x, refl, h)
went f None y h = cc

mapped : {A B : Type 0} (f : A → B) (o : Option A) (y : B) → option_map f o ≡ Some y → (x : A) × (o ≡ Some x) × (y ≡ f x)
mapped f (Some x) y h = (x, refl, cc)
mapped f None y h = cc

-- ---- numbers

both_true : (a b : Bool) → (a && b) ≡ true → (a ≡ true) × (b ≡ true)
both_true true b h = (refl, h)
both_true false b h = cc

le_from : (a b : ℕ) → nat_le a b ≡ true → a ≤ b
le_from a b h = grind (arith, nat_tests)

in_range_within : (least most n m : ℕ) → in_range least most n ≡ Some m → IsWithin least most m
in_range_within least most n m h =
    let split = chosen (nat_le least n && nat_le n most) (Some n) m h in
    let parts = both_true (nat_le least n) (nat_le n most) split.0 in
    let same : n ≡ m = cc (split.1) in
    subst (λ (k : ℕ). IsWithin least most k) same (le_from least n parts.0, le_from n most parts.1)

-- a number that was read keeps its limits
pub number_within : (least most : ℕ) (text : Text) (m : ℕ) → number_of least most text ≡ Some m → IsWithin least most m
unfolding number_of
number_within least most text m h = in_range_within least most (digits_value 10 text) m (chosen (is_number text) _ m h).1

all_none : (P : ℕ → Type 0) → All P []
all_none P = λ k d lt. absurd (omega arith)

all_more : (P : ℕ → Type 0) (n : ℕ) (ns : List ℕ) → P n → All P ns → All P (n ∷ ns)
all_more P n ns p ps zero d lt = p
all_more P n ns p ps (suc k) d lt = ps k d (omega arith)

-- numbers that were read keep their limits, and there is one for each text
pub numbers_within : (least most : ℕ) (texts : List Text) (ns : List ℕ) → all_numbers least most texts ≡ Some ns → All (IsWithin least most) ns × (length ns ≡ length texts)
numbers_within least most [] ns h =
    let none : [] ≡ ns = cc in
    subst (λ (xs : List ℕ). All (IsWithin least most) xs × (length xs ≡ 0)) none (all_none (IsWithin least most), refl)
numbers_within least most (text ∷ texts) ns h =
    let first = went _ (number_of least most text) ns h in
    let rest = mapped (λ xs. first.0 ∷ xs) (all_numbers least most texts) ns first.2 in
    let later = numbers_within least most texts rest.0 rest.1 in
    subst (λ (xs : List ℕ). All (IsWithin least most) xs × (length xs ≡ suc (length texts))) (sym rest.2)
    (all_more (IsWithin least most) first.0 rest.0 (number_within least most text first.0 first.1) later.0, ap suc later.1)

some_piece : (text : Text) → 1 ≤ length (pieces_of text)
some_piece text = omega (arith, length-slice_split (λ b. b == 44) text)

-- a list that was read has one number to the most, and each keeps its limits
pub list_within : (count least most : ℕ) (text : Text) (ns : List ℕ) → numbers_of count least most text ≡ Some ns → IsWithin 1 count (length ns) × All (IsWithin least most) ns
unfolding numbers_of
list_within count least most text ns h =
    let split = chosen (nat_le (length (pieces_of text)) count) _ ns h in
    let short = le_from (length (pieces_of text)) count split.0 in
    let each = numbers_within least most (pieces_of text) ns split.1 in
    ((omega (arith, some_piece text, each.1), omega (arith, short, each.1)), each.0)

-- ---- utilities

risen : (ns : List ℕ) → never_falls ns ≡ true → (k : ℕ) → k + 1 < length ns → slice_index ns k ≤ slice_index ns (k + 1)
risen [] h k lt = absurd (omega arith)
risen (x ∷ []) h k lt = absurd (omega arith)
risen (x ∷ y ∷ ys) h zero lt = le_from x y (both_true (nat_le x y) _ h).0
risen (x ∷ y ∷ ys) h (suc k) lt =
    let e : suc k + 1 ≡ suc (k + 1) = omega arith in
    rw e (risen (y ∷ ys) (both_true (nat_le x y) _ h).1 k (omega arith))

-- one to 16 utilities that keep their limits, and none is below the one before it
pub record IsRising (ns : List ℕ) : Type 0 where
  pub count : IsWithin 1 16 (length ns)
  pub each : All (IsWithin 0 1000000) ns
  pub rise : (k : ℕ) → k + 1 < length ns → slice_index ns k ≤ slice_index ns (k + 1)

utilities_within : (text : Text) (ns : List ℕ) → utilities_spelled text ≡ Some ns → IsRising ns
unfolding utilities_spelled
utilities_within text ns h =
    let read = went unless_falling (numbers_of 16 0 1000000 text) ns h in
    let kept = chosen (never_falls read.0) (Some read.0) ns read.2 in
    let same : read.0 ≡ ns = cc (kept.1) in
    let listed' = list_within 16 0 1000000 text read.0 read.1 in
    subst (λ (xs : List ℕ). IsRising xs) same (record { count = listed'.0; each = listed'.1; rise = risen read.0 kept.0 })

weighing_of : (ns : List ℕ) (switch stall startup : ℕ) → IsRising ns → AreWeights switch stall startup → IsWeighing (weighing ns switch stall startup)
weighing_of ns switch stall startup up weights =
    weighing_within ns switch stall startup up.count (record { limits = λ k d lt. (up.each k d lt).1; rise = up.rise }) weights

weighed_by : (given : Either) (u : UtilitiesWords) (switch stall startup : ℕ) → utilities_by given ≡ Some u → AreWeights switch stall startup → AreWeighed u.1 u.0 switch stall startup
weighed_by (first text) u switch stall startup h weights =
    let read = mapped (λ (ns : List ℕ). (ns, None)) (utilities_spelled text) u h in
    let W : UtilitiesWords → Type 0 = λ v. AreWeighed v.1 v.0 switch stall startup in
    subst W (sym read.2) (weighing_of read.0 switch stall startup (utilities_within text read.0 read.1) weights)
weighed_by (second name) u switch stall startup h weights =
    let same : ([], Some name) ≡ u = cc in
    let W : UtilitiesWords → Type 0 = λ v. AreWeighed v.1 v.0 switch stall startup in
    subst W same (refl, weights)

-- ---- rules

either : {A : Type 0} (b : Bool) (x y : Option A) (z : A) → cond b x y ≡ Some z → (x ≡ Some z) ⊎ (y ≡ Some z)
either true x y z h = inl h
either false x y z h = inr h

kind_within : (kind numbers : Text) (r : RuleKind) → rule_of_kind kind numbers ≡ Some r → IsRuleWithin r
kind_within kind numbers r h =
    elim (either (bytes_eq kind (codes "fixed")) _ _ r h) [
      | inl h1 ↦ let got = mapped fixed (number_of 0 15 numbers) r h1 in
          rw got.2 (number_within 0 15 numbers got.0 got.1)
      | inr h1 ↦ elim (either (bytes_eq kind (codes "list")) _ _ r h1) [
        | inl h2 ↦ let got = mapped listed (numbers_of 2000 0 15 numbers) r h2 in
            rw got.2 (list_within 2000 0 15 numbers got.0 got.1)
        | inr h2 ↦ elim (either (bytes_eq kind (codes "throughput")) _ _ r h2) [
          | inl h3 ↦ let got = mapped throughput (numbers_of 4 1 100 numbers) r h3 in
              rw got.2 (list_within 4 1 100 numbers got.0 got.1)
          | inr h3 ↦ elim (either (bytes_eq kind (codes "bola")) _ _ r h3) [
            | inl h4 ↦ let got = mapped bola (number_of 1 1000000 numbers) r h4 in
                rw got.2 (number_within 1 1000000 numbers got.0 got.1)
            | inr h4 ↦ let last = chosen (bytes_eq kind (codes "mpc")) _ r h4 in
                let got = mapped mpc (number_of 1 5 numbers) r last.1 in
                rw got.2 (number_within 1 5 numbers got.0 got.1)
          ]
        ]
      ]
    ]

rule_within : (text : Text) (r : RuleKind) → rule_of text ≡ Some r → IsRuleWithin r
unfolding rule_of
rule_within text r h = kind_within (before_first (λ b. b == 58) text) (after_first (λ b. b == 58) text) r (chosen (has_colon text) _ r h).1

-- ---- options

optional_within : (least most : ℕ) (name : Text) (rows : List Row) (o : Option ℕ) → optional_number least most name rows ≡ Some o → IfSome o (IsWithin least most)
unfolding optional_number
optional_within least most name rows o h =
    let given = went (number_if least most) (optional name rows) o h in
    by_given given.0 given.2
  where
    by_given : (text : Option Text) → number_if least most text ≡ Some o → IfSome o (IsWithin least most)
    by_given None e = let same : None ≡ o = cc in subst (λ (x : Option ℕ). IfSome x (IsWithin least most)) same tt
    by_given (Some text) e =
        let read = mapped (λ (n : ℕ). Some n) (number_of least most text) o e in
        subst (λ (x : Option ℕ). IfSome x (IsWithin least most)) (sym read.2) (number_within least most text read.0 read.1)

live_within : (rows : List Row) (live : Option ℕ) → optional_number 0 all_ahead (codes "live") rows ≡ Some live → IfSome live (λ ms. ms ≤ all_ahead)
live_within rows live h = below live (optional_within 0 all_ahead (codes "live") rows live h)
  where
    below : (o : Option ℕ) → IfSome o (IsWithin 0 all_ahead) → IfSome o (λ ms. ms ≤ all_ahead)
    below None w = tt
    below (Some ms) w = w.1

unless_within : (barred : Bool) (default least most : ℕ) (name : Text) (rows : List Row) (n : ℕ) → IsWithin least most default → number_unless barred default least most name rows ≡ Some n → IsWithin least most n
unfolding number_unless
unless_within barred default least most name rows n d h =
    let given = went (unless_barred barred default) (optional_number least most name rows) n h in
    by_given given.0 (optional_within least most name rows given.0 given.1) given.2
  where
    by_given : (o : Option ℕ) → IfSome o (IsWithin least most) → unless_barred barred default o ≡ Some n → IsWithin least most n
    by_given None w e =
        let same : default ≡ n = cc ((chosen _ (Some default) n e).1) in
        subst (IsWithin least most) same d
    by_given (Some m) w e =
        let same : m ≡ n = cc ((chosen _ (Some m) n e).1) in
        subst (IsWithin least most) same w

barred_default : (default least most : ℕ) (name : Text) (rows : List Row) (n : ℕ) → number_unless true default least most name rows ≡ Some n → default ≡ n
unfolding number_unless
barred_default default least most name rows n h =
    let given = went (unless_barred true default) (optional_number least most name rows) n h in
    by_given given.0 given.2
  where
    by_given : (o : Option ℕ) → unless_barred true default o ≡ Some n → default ≡ n
    by_given None e = cc
    by_given (Some m) e = cc

budget_within : (regret near : Bool) (rows : List Row) (n : ℕ) → budget_in regret near rows ≡ Some n → IsBudget regret n
budget_within true near rows n h = unless_within near 200000 1 most_budget (codes "budget") rows n (lit≤ tt, lit≤ tt) h
budget_within false near rows n h = sym (barred_default 0 1 most_budget (codes "budget") rows n h)

grid_by_within : (time value : Text) (g : ℕ × ℕ) → grid_by time value ≡ Some g → AreGridWords g.0 g.1
grid_by_within time value g h =
    let ms = then_some (number_of 1 10000 time) _ g h in
    let thousandths = then_some (number_of 1 1000000 value) _ g ms.2 in
    let same : (ms.0, thousandths.0) ≡ g = cc (thousandths.2) in
    subst (λ (p : ℕ × ℕ). AreGridWords p.0 p.1) same (inr (number_within 1 10000 time ms.0 ms.1, number_within 1 1000000 value thousandths.0 thousandths.1))

grid_of_within : (text : Text) (g : ℕ × ℕ) → grid_of text ≡ Some g → AreGridWords g.0 g.1
unfolding grid_of
grid_of_within text g h = grid_by_within (before_first (λ b. b == 44) text) (after_first (λ b. b == 44) text) g (chosen (has_comma text) _ g h).1

grid_within : (rows : List Row) (g : ℕ × ℕ) → grid_words_in rows ≡ Some g → AreGridWords g.0 g.1
unfolding grid_words_in
grid_within rows g h =
    let given = then_some (optional (codes "coarse") rows) grid_if g h in
    by_given given.0 given.2
  where
    by_given : (text : Option Text) → grid_if text ≡ Some g → AreGridWords g.0 g.1
    by_given None e = let same : (0, 0) ≡ g = cc in subst (λ (p : ℕ × ℕ). AreGridWords p.0 p.1) same (inl (refl, refl))
    by_given (Some text) e = grid_of_within text g e

were_agreed : (agrees : CommandWords → Bool) (x y : CommandWords) → if_agreed agrees x ≡ Some y → (agrees x ≡ true) × (x ≡ y)
were_agreed agrees x y h =
    let split = chosen (agrees x) (Some x) y h in
    let same : x ≡ y = cc (split.1) in
    (split.0, same)

option_within : (default least most : ℕ) (name : Text) (rows : List Row) (n : ℕ) → IsWithin least most default → number_in default least most name rows ≡ Some n → IsWithin least most n
unfolding number_in
option_within default least most name rows n d h =
    let given = mapped (λ (o : Option ℕ). unwrap_or o default) (optional_number least most name rows) n h in
    subst (IsWithin least most) (sym given.2) (or_default given.0 (optional_within least most name rows given.0 given.1))
  where
    or_default : (o : Option ℕ) → IfSome o (IsWithin least most) → IsWithin least most (unwrap_or o default)
    or_default None w = d
    or_default (Some m) w = w

-- ---- a command

record AreWithin (s : SettingsWords) : Type 0 where
  buffer : IsWithin 1 most_buffer s.buffer_ms
  weights : AreWeighed s.table s.utilities s.switch s.stall s.startup

settings_within : (rows : List Row) (s : SettingsWords) → settings_in rows ≡ Some s → AreWithin s
unfolding settings_in utilities_in
settings_within rows s h =
    let buffer = then_some (number_in 25000 1 most_buffer (codes "buffer") rows) _ s h in
    let utilities = then_some (utilities_in rows) _ s buffer.2 in
    let switch = then_some (number_in 0 0 1000000 (codes "switch") rows) _ s utilities.2 in
    let stall = then_some (number_in 100 0 1000000 (codes "stall") rows) _ s switch.2 in
    let startup = then_some (number_in 1 0 1000000 (codes "startup") rows) _ s stall.2 in
    let given = then_some (one_of (codes "utilities") (codes "utility-table") rows) _ utilities.0 utilities.1 in
    let made : SettingsWords = record { buffer_ms = buffer.0; utilities = utilities.0.0; table = utilities.0.1; switch = switch.0; stall = stall.0; startup = startup.0 } in
    let same : made ≡ s = cc (startup.2) in
    subst AreWithin same (record {
      buffer = option_within 25000 1 most_buffer (codes "buffer") rows buffer.0 (lit≤ tt, lit≤ tt) buffer.1;
      weights = weighed_by given.0 utilities.0 switch.0 stall.0 startup.0 given.2 (record {
        switch_fits = (option_within 0 0 1000000 (codes "switch") rows switch.0 (lit≤ tt, lit≤ tt) switch.1).1;
        stall_fits = (option_within 100 0 1000000 (codes "stall") rows stall.0 (lit≤ tt, lit≤ tt) stall.1).1;
        startup_fits = (option_within 1 0 1000000 (codes "startup") rows startup.0 (lit≤ tt, lit≤ tt) startup.1).1;
      });
    })

at_most_within : (most : ℕ) (texts kept : List Text) → at_most most texts ≡ Some kept → (texts ≡ kept) × (length kept ≤ most)
at_most_within most texts kept h =
    let split = chosen (nat_le (length texts) most) (Some texts) kept h in
    let same : texts ≡ kept = cc (split.1) in
    (same, subst (λ (ts : List Text). length ts ≤ most) same (le_from (length texts) most split.0))

named_within_all : (texts : List Text) (rules : List (Text × RuleKind)) → named_rules texts ≡ Some rules → All (λ r. IsRuleWithin r.1) rules × (length rules ≡ length texts)
named_within_all [] rules h =
    let none : [] ≡ rules = cc in
    subst (λ (rs : List (Text × RuleKind)). All (λ r. IsRuleWithin r.1) rs × (length rs ≡ 0)) none ((λ k d lt. absurd (omega arith)), refl)
named_within_all (text ∷ texts) rules h =
    let first = went _ (named_rule text) rules h in
    let kind = mapped (λ rule. (text, rule)) (rule_of text) first.0 first.1 in
    let rest = mapped (λ rs. first.0 ∷ rs) (named_rules texts) rules first.2 in
    let later = named_within_all texts rest.0 rest.1 in
    let here = subst (λ (r : Text × RuleKind). IsRuleWithin r.1) (sym kind.2) (rule_within text kind.0 kind.1) in
    subst (λ (rs : List (Text × RuleKind)). All (λ r. IsRuleWithin r.1) rs × (length rs ≡ suc (length texts))) (sym rest.2)
    (both_within first.0 rest.0 here later.0, ap suc later.1)
  where
    both_within : (r : Text × RuleKind) (rs : List (Text × RuleKind)) → IsRuleWithin r.1 → All (λ q. IsRuleWithin q.1) rs → All (λ q. IsRuleWithin q.1) (r ∷ rs)
    both_within r rs here there zero d lt = here
    both_within r rs here there (suc k) d lt = there k d (omega arith)

alone : {X : Type 0} (P : X → Type 0) (x : X) → P x → All P (x ∷ [])
alone P x p zero d lt = p
alone P x p (suc k) d lt = absurd (omega arith)

abbrev ArePlayers : List (Text × RuleKind) × Bool → Type 0
ArePlayers p = IsWithin 1 8 (length p.0) × (p.1 ≡ false → length p.0 ≡ 1) × All (λ r. IsRuleWithin r.1) p.0

several_within : (text : Text) (rules : List (Text × RuleKind)) → several_players text ≡ Some rules → IsWithin 1 8 (length rules) × All (λ r. IsRuleWithin r.1) rules
unfolding several_players
several_within text rules h =
    let texts = then_some (at_most 8 (slice_split (λ b. b == 47) text)) _ rules h in
    let few = at_most_within 8 (slice_split (λ b. b == 47) text) texts.0 texts.1 in
    let each = named_within_all texts.0 rules texts.2 in
    let some : 1 ≤ length texts.0 = subst (λ (ts : List Text). 1 ≤ length ts) few.0 (omega (arith, length-slice_split (λ b. b == 47) text)) in
    (subst (IsWithin 1 8) (sym each.1) (some, few.1), each.0)

by_players_within : (given : Either) (p : List (Text × RuleKind) × Bool) → players_by given ≡ Some p → ArePlayers p
by_players_within (first text) p h =
    let word = mapped (λ (rule : Text × RuleKind). (rule ∷ [], false)) (named_rule text) p h in
    let kind = mapped (λ rule. (text, rule)) (rule_of text) word.0 word.1 in
    let here = subst (λ (r : Text × RuleKind). IsRuleWithin r.1) (sym kind.2) (rule_within text kind.0 kind.1) in
    subst ArePlayers (sym word.2) ((lit≤ tt, lit≤ tt), (λ off. refl), alone (λ (r : Text × RuleKind). IsRuleWithin r.1) word.0 here)
by_players_within (second text) p h =
    let rules = mapped (λ (rs : List (Text × RuleKind)). (rs, true)) (several_players text) p h in
    let within = several_within text rules.0 rules.1 in
    subst ArePlayers (sym rules.2) (within.0, (λ on. absurd (cc)), within.1)

players_within : (rows : List Row) (p : List (Text × RuleKind) × Bool) → players_in rows ≡ Some p → ArePlayers p
unfolding players_in
players_within rows p h =
    let given = then_some (one_of (codes "rule") (codes "players") rows) players_by p h in
    by_players_within given.0 p given.2

simulate_within : (rows : List Row) (c : CommandWords) → simulate_in rows ≡ Some c → IsWithinLimits c
unfolding simulate_in
simulate_within rows c h =
    let manifest = then_some (required_text (codes "manifest") rows) _ c h in
    let trace = then_some (required_text (codes "trace") rows) _ c manifest.2 in
    let players = then_some (players_in rows) _ c trace.2 in
    let settings = then_some (settings_in rows) _ c players.2 in
    let seeks = then_some (optional (codes "seeks") rows) _ c settings.2 in
    let live = then_some (optional_number 0 all_ahead (codes "live") rows) _ c seeks.2 in
    let within = settings_within rows settings.0 settings.1 in
    let made : CommandWords = record (with_settings settings.0 (blank verb.Simulate)) {
      manifest = manifest.0;
      traces = trace.0 ∷ [];
      rules = players.0.0;
      abandon = is_given (codes "abandon") rows;
      seeks = seeks.0;
      live = live.0;
      players = players.0.1;
    } in
    let agreed = were_agreed simulate_agrees made c live.2 in
    let rules = players_within rows players.0 players.1 in
    let same : made ≡ c = agreed.1 in
    subst IsWithinLimits same (record {
      counts = (refl, rules.0);
      spoken = rules.2;
      buffer = λ film. within.buffer;
      weights = λ film. within.weights;
      own = rules.1;
      live = live_within rows live.0 live.1;
      grid = inl (refl, refl);
      agreed = agreed.0;
    })

-- ---- rules and traces without repeats

insert_keeps : (ks : List Text) (k : Text) → length ks ≤ length (insert_key bytes_eq ks k)
insert_keeps ks k = go (list_any (bytes_eq k) ks)
  where
    go : (b : Bool) → length ks ≤ length (cond b ks (ks ++ k ∷ []))
    go true = omega arith
    go false = let more = length-append ks (k ∷ []) in omega (arith, more)

all_keep : (ks texts : List Text) → length ks ≤ length (insert_all bytes_eq ks texts)
all_keep ks [] = omega arith
all_keep ks (text ∷ texts) = let here = insert_keeps ks text in let later = all_keep (insert_key bytes_eq ks text) texts in omega (arith, here, later)

some_distinct : (texts : List Text) → 1 ≤ length texts → 1 ≤ length (distinct texts)
some_distinct [] h = absurd (omega (arith, h))
some_distinct (text ∷ texts) h = let later = all_keep (text ∷ []) texts in omega (arith, later)

few_within : (most : ℕ) (texts kept : List Text) → 1 ≤ length texts → few most texts ≡ Some kept → IsWithin 1 most (length kept)
unfolding few
few_within most texts kept some h =
    let got = at_most_within most (distinct texts) kept h in
    (subst (λ (ts : List Text). 1 ≤ length ts) got.0 (some_distinct texts some), got.1)

abbrev AreRulesWithin : List (Text × RuleKind) → Type 0
AreRulesWithin rules = IsWithin 1 32 (length rules) × All (λ r. IsRuleWithin r.1) rules

rules_within : (rows : List Row) (rules : List (Text × RuleKind)) → rules_in rows ≡ Some rules → AreRulesWithin rules
unfolding rules_in
rules_within rows rules h =
    let text = then_some (required_text (codes "rules") rows) _ rules h in
    let names = then_some (few 32 (slice_split (λ b. b == 47) text.0)) _ rules text.2 in
    let each = named_within_all names.0 rules names.2 in
    let count = few_within 32 (slice_split (λ b. b == 47) text.0) names.0 (omega (arith, length-slice_split (λ b. b == 47) text.0)) names.1 in
    (subst (IsWithin 1 32) (sym each.1) count, each.0)

plain_some : (texts kept : List Text) → some_plain texts ≡ Some kept → 1 ≤ length kept
plain_some [] kept h = cc
plain_some (text ∷ texts) kept h =
    let split = unchosen (list_any is_stray (text ∷ texts)) (Some (text ∷ texts)) kept h in
    let same : (text ∷ texts) ≡ kept = cc (split) in
    subst (λ (ts : List Text). 1 ≤ length ts) same (omega arith)

traces_within : (rows : List Row) (traces : List Text) → traces_in rows ≡ Some traces → IsWithin 1 64 (length traces)
unfolding traces_in several
traces_within rows traces h =
    let given = went (few 64) (several (codes "trace") rows) traces h in
    let texts = went some_plain (all_of (codes "trace") rows) given.0 given.1 in
    few_within 64 given.0 traces (plain_some texts.0 given.0 texts.2) given.2

compare_within : (rows : List Row) (c : CommandWords) → compare_in rows ≡ Some c → IsWithinLimits c
unfolding compare_in
compare_within rows c h =
    let manifest = then_some (required_text (codes "manifest") rows) _ c h in
    let rules = then_some (rules_in rows) _ c manifest.2 in
    let settings = then_some (settings_in rows) _ c rules.2 in
    let seeks = then_some (optional (codes "seeks") rows) _ c settings.2 in
    let budget = then_some (budget_in (is_given (codes "regret") rows) (is_given (codes "near") rows) rows) _ c seeks.2 in
    let traces = then_some (traces_in rows) _ c budget.2 in
    let within = settings_within rows settings.0 settings.1 in
    let named' = rules_within rows rules.0 rules.1 in
    let made : CommandWords = record (with_settings settings.0 (blank verb.Compare)) {
      manifest = manifest.0;
      traces = traces.0;
      rules = rules.0;
      abandon = is_given (codes "abandon") rows;
      seeks = seeks.0;
      budget = budget.0;
      regret = is_given (codes "regret") rows;
      near = is_given (codes "near") rows;
    } in
    let agreed = were_agreed compare_agrees made c traces.2 in
    let same : made ≡ c = agreed.1 in
    subst IsWithinLimits same (record {
      counts = (traces_within rows traces.0 traces.1, named'.0);
      spoken = named'.1;
      buffer = λ film. within.buffer;
      weights = λ film. within.weights;
      own = budget_within (is_given (codes "regret") rows) (is_given (codes "near") rows) rows budget.0 budget.1;
      live = tt;
      grid = inl (refl, refl);
      agreed = agreed.0;
    })

no_rules : All (λ (r : Text × RuleKind). IsRuleWithin r.1) []
no_rules = λ k d lt. absurd (omega arith)

plan_within : (rows : List Row) (c : CommandWords) → plan_in rows ≡ Some c → IsWithinLimits c
unfolding plan_in
plan_within rows c h =
    let manifest = then_some (required_text (codes "manifest") rows) _ c h in
    let trace = then_some (required_text (codes "trace") rows) _ c manifest.2 in
    let settings = then_some (settings_in rows) _ c trace.2 in
    let budget = then_some (number_unless (is_given (codes "near") rows) 200000 1 most_budget (codes "budget") rows) _ c settings.2 in
    let live = then_some (optional_number 0 all_ahead (codes "live") rows) _ c budget.2 in
    let grid = then_some (grid_words_in rows) _ c live.2 in
    let within = settings_within rows settings.0 settings.1 in
    let made : CommandWords = record (with_settings settings.0 (blank verb.Plan)) {
      manifest = manifest.0;
      traces = trace.0 ∷ [];
      budget = budget.0;
      as_certificate = is_given (codes "as-certificate") rows;
      live = live.0;
      coarse_time = grid.0.0;
      coarse_value = grid.0.1;
      near = is_given (codes "near") rows;
    } in
    let agreed = were_agreed plan_agrees made c grid.2 in
    let same : made ≡ c = agreed.1 in
    subst IsWithinLimits same (record {
      counts = (refl, refl);
      spoken = no_rules;
      buffer = λ film. within.buffer;
      weights = λ film. within.weights;
      own = unless_within (is_given (codes "near") rows) 200000 1 most_budget (codes "budget") rows budget.0 (lit≤ tt, lit≤ tt) budget.1;
      live = live_within rows live.0 live.1;
      grid = grid_within rows grid.0 grid.1;
      agreed = agreed.0;
    })

check_within : (rows : List Row) (c : CommandWords) → check_in rows ≡ Some c → IsWithinLimits c
unfolding check_in
check_within rows c h =
    let manifest = then_some (required_text (codes "manifest") rows) _ c h in
    let trace = then_some (required_text (codes "trace") rows) _ c manifest.2 in
    let settings = then_some (settings_in rows) _ c trace.2 in
    let certificate = then_some (required_text (codes "certificate") rows) _ c settings.2 in
    let live = then_some (optional_number 0 all_ahead (codes "live") rows) _ c certificate.2 in
    let within = settings_within rows settings.0 settings.1 in
    let made : CommandWords = record (with_settings settings.0 (blank verb.Check)) {
      manifest = manifest.0;
      traces = trace.0 ∷ [];
      certificate = Some certificate.0;
      live = live.0;
      gap = is_given (codes "gap") rows;
      near = is_given (codes "near") rows;
    } in
    let agreed = were_agreed check_agrees made c live.2 in
    let same : made ≡ c = agreed.1 in
    subst IsWithinLimits same (record {
      counts = (refl, refl);
      spoken = no_rules;
      buffer = λ film. within.buffer;
      weights = λ film. within.weights;
      own = refl;
      live = live_within rows live.0 live.1;
      grid = inl (refl, refl);
      agreed = agreed.0;
    })

demo_within : (rows : List Row) (c : CommandWords) → demo_in rows ≡ Some c → IsWithinLimits c
unfolding demo_in
demo_within rows c h =
    let text = then_some (required_text (codes "number") rows) _ c h in
    let number = then_some (number_of 0 2147483647 text.0) _ c text.2 in
    let made : CommandWords = record (blank verb.Demo) { number = number.0 } in
    let same : made ≡ c = cc (number.2) in
    subst IsWithinLimits same (record {
      counts = (refl, refl);
      spoken = no_rules;
      buffer = λ film. absurd film;
      weights = λ film. absurd film;
      own = (number_within 0 2147483647 text.0 number.0 number.1).1;
      live = tt;
      grid = inl (refl, refl);
      agreed = refl;
    })

asked_within : (v : Verb) (words : List Text) (c : CommandWords) → asked_of v words ≡ Some c → IsWithinLimits c
asked_within verb.Simulate words c h = let rows = went simulate_in (accepted_words simulate_app words) c h in simulate_within rows.0 c rows.2
asked_within verb.Compare words c h = let rows = went compare_in (accepted_words compare_app words) c h in compare_within rows.0 c rows.2
asked_within verb.Plan words c h = let rows = went plan_in (accepted_words plan_app words) c h in plan_within rows.0 c rows.2
asked_within verb.Check words c h = let rows = went check_in (accepted_words check_app words) c h in check_within rows.0 c rows.2
asked_within verb.Demo words c h = let rows = went demo_in (accepted_words demo_app words) c h in demo_within rows.0 c rows.2

-- a call that gave what the words behind a command's name ask for
pub gives_within : (v : Verb) (words : List Text) (r : Result Command WordsErr) → Understands view r (asked_of v words) → IfOk r (λ c. IsWithinLimits (view c))
gives_within v words (Ok c) h = asked_within v words (view c) h
gives_within v words (Err e) h = tt

-- what words ask for is within the limits
pub command_within : (words : List Text) (c : CommandWords) → command_of words ≡ Some c → IsWithinLimits c
unfolding command_of
command_within [] c h = cc
command_within (word ∷ words) c h = by_verb (has_dashes words) (verb_of word) h
  where
    by_verb : (dashes : Bool) (v : Option Verb) → (if dashes then None else option_and_then (λ verb. asked_of verb words) v) ≡ Some c → IsWithinLimits c
    by_verb true v h = cc
    by_verb false None h = cc
    by_verb false (Some v) h = asked_within v words c h
