-- The networks of `compare`, each with its line and its rows.
use Rattle.std.proofs.Common.{◌≡◌, List, [], ◌∷◌, map, Result, Ok, Err, ap, ◌∙◌, sym, refl, arith, subst}
use Rattle.std.specs.Prelude.{codes}
use Rattle.std.specs.List.{All, flat_map}
use Rattle.std.specs.Result.{IsErrAnd}
use Rattle.std.proofs.lemmas.List.{get_or-map, length-map}
use Rattle.lab_io.specs.declared.PutErr.{PutErr}
use Rattle.lab_io.specs.Piece.{fields_line}
use Rattle.lab_io.specs.Sink.{Text, Seen, Puts}
use Rattle.lab_model.specs.declared.context.Seek.{Seek}
use Rattle.lab_model.specs.declared.setup.Setup.{Setup}
use Rattle.lab_model.specs.declared.trace.Period.{Period}
use Rattle.lab_model.specs.Film.{Film}
use Rattle.lab_model.specs.Rules.{RuleKind, KindFits}
use Rattle.lab_words.specs.declared.NamedRule.{NamedRule}
use Rattle.lab_words.specs.Command.{named}
use Rattle.lab_words.specs.Limits.{IsRuleWithin}
use Rattle.lab_words.specs.Rules.{spoken}
use Rattle.lab_inputs.specs.declared.stop.Stop.{Stop}
use Rattle.lab_inputs.specs.Inputs.{InputValues}
use Rattle.lab_inputs.specs.Settings.{settled}
use Rattle.abrlab_top.specs.declared.ending.Ending.TheVariants as ending
use Rattle.abrlab_top.specs.Answer.{printed}
use Rattle.abrlab_top.specs.Compare.{bench_on, compare, network_rows}
use Rattle.abrlab_top.specs.Rows.{BenchValue, session_row}
use Rattle.abrlab_top.specs.Stages.{WritesRows}
use Rattle.abrlab_top.proofs.RowByRow.{rows_as, rows_failed, rows_more, rows_put}

-- what holds of each image holds of each element by its image
pub all_mapped : {A B : Type 0} (P : B → Type 0) (f : A → B) (xs : List A) → All P (map f xs) → All (λ x. P (f x)) xs
all_mapped P f xs h = λ k d lt. let count = length-map xs f in subst P (get_or-map f xs k d (f d) lt) (h k (f d) (omega (arith, count)))

-- the numbers of each rule are within their limits
pub rules_within : (i : InputValues) (seen : List NamedRule) → map named seen ≡ i.rules → All (λ (r : Text × RuleKind). IsRuleWithin r.1) i.rules → All (λ (rule : NamedRule). IsRuleWithin (spoken rule.rule)) seen
rules_within i seen e h = all_mapped (λ (r : Text × RuleKind). IsRuleWithin r.1) named seen (subst (All (λ (r : Text × RuleKind). IsRuleWithin r.1)) (sym e) h)

-- each rule can be asked about the film
pub rules_fit : (i : InputValues) (seen : List NamedRule) (b : BenchValue) → map named seen ≡ i.rules → b.film ≡ i.film → All (λ (r : Text × RuleKind). KindFits r.1 i.film) i.rules → All (λ (rule : NamedRule). KindFits (spoken rule.rule) b.film) seen
rules_fit i seen b e f h = rw f (all_mapped (λ (r : Text × RuleKind). KindFits r.1 i.film) named seen (subst (All (λ (r : Text × RuleKind). KindFits r.1 i.film)) (sym e) h))

-- the line of a network did not go out
pub network_failed : (i : InputValues) (n : Text × List Period) (old new : Seen) (r q : Result (Unit {0}) PutErr) (e : PutErr) → r ≡ Err e → IsErrAnd q (λ y. y ≡ e)
    → Puts old (fields_line (codes "trace" ∷ n.0 ∷ [])) new r → WritesRows old (network_rows i n) q new
network_failed i n old new r q e h k x =
    rows_failed old new (fields_line (codes "trace" ∷ n.0 ∷ [])) (flat_map (session_row (bench_on i n.1)) i.rules) r q e h k (rows_put old new (fields_line (codes "trace" ∷ n.0 ∷ [])) r x)

-- the line of a network and what its rows came to
pub network_written : (i : InputValues) (n : Text × List Period) (b : BenchValue) (seen : List NamedRule) (old mid new : Seen) (r q : Result (Unit {0}) PutErr) (u : Unit {0})
    → r ≡ Ok u → b ≡ bench_on i n.1 → map named seen ≡ i.rules
    → Puts old (fields_line (codes "trace" ∷ n.0 ∷ [])) mid r → WritesRows mid (flat_map (session_row b) (map named seen)) q new → WritesRows old (network_rows i n) q new
network_written i n b seen old mid new r q u went on rest line rows =
    let all : flat_map (session_row b) (map named seen) ≡ flat_map (session_row (bench_on i n.1)) i.rules = ap (λ x. flat_map (session_row x) (map named seen)) on ∙ ap (flat_map (session_row (bench_on i n.1))) rest in
    rows_more old mid new (fields_line (codes "trace" ∷ n.0 ∷ [])) (flat_map (session_row (bench_on i n.1)) i.rules) r q u went
    (rows_put old mid (fields_line (codes "trace" ∷ n.0 ∷ [])) r line) (rows_as mid new _ _ q all rows)

-- the bench is the one of the network
pub bench_is : (i : InputValues) (periods clock : List Period) (film : Film) (setup : Setup) (seeks : List Seek) (b : BenchValue) → b ≡ record { film = film; periods = clock; setup = setup; seeks = seeks }
    → film ≡ i.film → clock ≡ periods → setup ≡ i.setup → seeks ≡ i.seeks → b ≡ bench_on i periods
bench_is i periods clock film setup seeks b on f p s k = on ∙ rw (f, p, s, k) refl

-- `compare` prints these rows
pub compared : (i : InputValues) → settled i ≡ Ok i → compare i ≡ Ok (printed (flat_map (network_rows i) i.networks))
unfolding compare
compared i e = rw e refl

-- or it stops at a setting
pub compare_stopped : (i : InputValues) (why : Stop) → settled i ≡ Err why → compare i ≡ Err (ending.Stopped why)
unfolding compare
compare_stopped i why e = rw e refl
