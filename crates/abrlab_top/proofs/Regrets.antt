-- What `compare --regret` plays, plans and writes, network by network and rule by rule.
use Rattle.std.proofs.Common.{◌≡◌, ◌∙◌, ◌+◌, false, ◌<◌, ◌≤◌, ◌++◌, ◌∷◌, [], ℕ, List, Option, Some, None, Result, Ok, Err, Vec, length, map, take, drop, get_or, string_bytes, ap, sym, refl, subst, arith, add-one, drop-cons, take-suc}
use Rattle.std.specs.Prelude.{ℤ, pos, option_map, slice_index_or}
use Rattle.std.specs.Global.{Global}
use Rattle.std.specs.List.{All, flat_map}
use Rattle.std.specs.Option.{option_or}
use Rattle.std.specs.Result.{IsErrAnd}
use Rattle.std.proofs.lemmas.Result.{err_from_is_err_and}
use Rattle.std.proofs.lemmas.List.{drop_all, get_or-map, get_or_default, length-take-le, length-map, map-append, take_all}
use Rattle.std.proofs.lemmas.List.Elements.{All-map}
use Rattle.lab_io.specs.Sink.{Text, Seen}
use Rattle.lab_model.specs.declared.trace.Period.{Period}
use Rattle.lab_model.specs.Rules.{KindFits, RuleKind}
use Rattle.lab_words.specs.declared.NamedRule.{NamedRule}
use Rattle.lab_words.specs.Command.{named}
use Rattle.lab_words.specs.Limits.{IsRuleWithin}
use Rattle.lab_words.specs.Rules.{spoken}
use Rattle.lab_inputs.specs.declared.contents.Network.{Network}
use Rattle.lab_inputs.specs.declared.stop.Stop.{Stop}
use Rattle.lab_inputs.specs.Inputs.{InputValues}
use Rattle.lab_inputs.specs.Settings.{settled}
use Rattle.lab_inputs.specs.Stages.{network_of}
use Rattle.player_core.specs.Scene.{IsTask}
use Rattle.frontier_planner.specs.declared.plans.BoundedList.{BoundedList}
use Rattle.frontier_planner.specs.declared.plans.PlanErr.TheVariants as planned
use Rattle.labels.specs.Frontier.{frontier}
use Rattle.labels.specs.Grid.{exact}
use Rattle.labels.specs.Read.{SpentAt}
use Rattle.frontier_planner.specs.Planned.{IsListOf}
use Rattle.session_report.specs.Regret.{AreScores, Scores, IsTotalOf, sums_line, top_line, total_of}
use Rattle.session_report.specs.declared.regret.Top.{Top}
use Rattle.session_report.specs.declared.regret.Top.TheVariants as top
use Rattle.session_report.specs.declared.regret.Total.{Total}
use Rattle.session_report.proofs.Totals.{stands_is}
use Rattle.abrlab_top.specs.declared.ending.Ending.{Ending}
use Rattle.abrlab_top.specs.declared.ending.Ending.TheVariants as ending
use Rattle.abrlab_top.specs.declared.regret.Scored.{Scored}
use Rattle.abrlab_top.specs.Answer.{printed}
use Rattle.abrlab_top.specs.Choice.{AreBounds, IsBound}
use Rattle.abrlab_top.specs.Plan.{IsListFound, PlanAsked, task_on}
use Rattle.abrlab_top.specs.Regret.{AreCompared, AreRanked, AreTops, CanRank, IsTop, RankingValue, SpentBy, Unspent, best_on, first_spent, near_regret, network_rows, networks_rows, ranked_row, ranked_text, regret, regret_text, rows_of, score_on, scored_on, scores_at, scores_over, seen_scored, spent_there, sums_row, tops_of, unless_any_spent}
use Rattle.abrlab_top.specs.Stages.{Writes, at_the_end}
use Rattle.abrlab_top.proofs.Behind.{are_scores, best_bounds}
use Rattle.abrlab_top.proofs.Networks.{all_mapped, rules_within}
use Rattle.abrlab_top.proofs.Plans.{never_spent, spent_at}
use Rattle.abrlab_top.proofs.Whole.{wanting}

cons_same : {A : Type 0} {x y : A} {xs ys : List A} → x ∷ xs ≡ y ∷ ys → (x ≡ y) × (xs ≡ ys)
cons_same e = (cc, cc)

-- ---- one element more

-- an element is the next of a list
dropped : {A : Type 0} (xs : List A) (k : ℕ) (x : A) → k < length xs → x ≡ get_or xs k x → drop k xs ≡ x ∷ drop (k + 1) xs
dropped xs k x lt e = rw (add-one, drop-cons xs k x lt, ← e) refl

-- what is made of the elements up to this one
pub map_more : {A B : Type 0} (f : A → B) (xs : List A) (k : ℕ) (x : A) → k < length xs → x ≡ get_or xs k x → map f (take (k + 1) xs) ≡ map f (take k xs) ++ f x ∷ []
map_more f xs k x lt e = ap (map f) (rw (add-one, take-suc xs k x lt, ← e) refl) ∙ map-append f (take k xs) (x ∷ [])

-- ---- on one network

-- the list has the best score, and no budget is spent
pub best_listed : (i : InputValues) (periods : List Period) (budget place : ℕ) (o : PlanAsked) (b : BoundedList) → o ≡ record { grid = None; budget = budget; as_certificate = false } → IsListFound o.grid (task_on i periods) o.budget (Ok b)
    → (spent_there i (Some budget) place periods ≡ None) × (b.score ≡ best_on i periods)
best_listed i periods budget place o b asked of =
    let list : IsListOf exact (task_on i periods) (frontier (task_on i periods)) budget b = subst (λ (a : PlanAsked). IsListFound a.grid (task_on i periods) a.budget (Ok b)) asked of in
    let few = never_spent None (task_on i periods) budget (let most = list.within in let counted = list.labels in omega (arith, most, counted)) in
    (ap (option_map (λ segment. (place, segment))) few, list.score)

-- the budget is spent there
pub best_spent : (i : InputValues) (periods : List Period) (budget place segment : ℕ) (o : PlanAsked) → o ≡ record { grid = None; budget = budget; as_certificate = false } → IsListFound o.grid (task_on i periods) o.budget (Err (planned.BudgetSpent segment))
    → spent_there i (Some budget) place periods ≡ Some (place, segment)
best_spent i periods budget place segment o asked of =
    let spent : SpentAt (task_on i periods) (frontier (task_on i periods)) budget segment = subst (λ (a : PlanAsked). IsListFound a.grid (task_on i periods) a.budget (Err (planned.BudgetSpent segment))) asked of in
    ap (option_map (λ segment. (place, segment))) (spent_at None (task_on i periods) budget segment spent)

-- a top of a network under a budget, or without one, is a bound there
pub top_bounds : (i : InputValues) (budget : Option ℕ) (periods : List Period) (top : ℤ) → IsTask (task_on i periods) → IsTop i budget periods top → IsBound (task_on i periods) top
top_bounds i (Some budget) periods top is h = subst (IsBound (task_on i periods)) (sym h) (best_bounds i periods is)
top_bounds i None periods top is h = h

-- scores that are those of the rules can be summed beside a bound
pub ranked : (i : InputValues) (periods : List Period) (s : Scored) → CanRank i → IsTask (task_on i periods) → IsBound (task_on i periods) s.top → s.scores.items ≡ map (λ (rule : Text × RuleKind). score_on i periods rule.1) i.rules → AreRanked s
ranked i periods s can is top scores =
    subst (All (λ score. AreScores (score, s.top))) (sym scores)
    (All-map (λ score. AreScores (score, s.top)) (λ (rule : Text × RuleKind). score_on i periods rule.1) i.rules (λ k d low. are_scores i periods _ s.top is top (can.fits.rules k d low) can.calm))

-- the rules that are at hand are those of the inputs, by which they can be ranked
pub rules_seen : (i seen : InputValues) (rules : List NamedRule) → seen ≡ i → map named rules ≡ seen.rules → map named rules ≡ i.rules
rules_seen i seen rules e h = h ∙ ap (λ (v : InputValues). v.rules) e

-- each of them is within its limits
pub rule_within : (i : InputValues) (rules : List NamedRule) (k : ℕ) (rule : NamedRule) → map named rules ≡ i.rules → All (λ (r : Text × RuleKind). IsRuleWithin r.1) i.rules → k < length rules → rule ≡ get_or rules k rule → IsRuleWithin (spoken rule.rule)
rule_within i rules k rule same all lt e = subst (λ (r : NamedRule). IsRuleWithin (spoken r.rule)) (sym e) (rules_within i rules same all k rule lt)

-- and can be asked about the film
pub rule_asks : (i : InputValues) (rules : List NamedRule) (k : ℕ) (rule : NamedRule) → map named rules ≡ i.rules → CanRank i → k < length rules → rule ≡ get_or rules k rule → KindFits (spoken rule.rule) i.film
rule_asks i rules k rule same can lt e =
    let all = all_mapped (λ (r : Text × RuleKind). KindFits r.1 i.film) named rules (subst (All (λ (r : Text × RuleKind). KindFits r.1 i.film)) (sym same) can.fits.rules) in
    subst (λ (r : NamedRule). KindFits (spoken r.rule) i.film) (sym e) (all k rule lt)

-- the score of one rule more
pub scores_more : (i : InputValues) (clock : List Period) (rules : List NamedRule) (k : ℕ) (rule : NamedRule) (scores more : List ℤ) (score : ℤ) → k < length rules → rule ≡ get_or rules k rule → more ≡ scores ++ score ∷ []
    → scores ≡ map (λ (r : Text × RuleKind). score_on i clock r.1) (map named (take k rules)) → score ≡ score_on i clock (spoken rule.rule) → more ≡ map (λ (r : Text × RuleKind). score_on i clock r.1) (map named (take (k + 1) rules))
scores_more i clock rules k rule scores more score lt e pushed so here =
    pushed ∙ ap (λ ss. ss ++ score ∷ []) so ∙ ap (λ v. map (λ (r : Text × RuleKind). score_on i clock r.1) (map named (take k rules)) ++ v ∷ []) here
    ∙ sym (ap (map (λ (r : Text × RuleKind). score_on i clock r.1)) (map_more named rules k rule lt e) ∙ map-append (λ (r : Text × RuleKind). score_on i clock r.1) (map named (take k rules)) (named rule ∷ []))

-- the scores of all rules
pub scores_all : (i : InputValues) (clock : List Period) (rules : List NamedRule) (k : ℕ) (scores : List ℤ) → map named rules ≡ i.rules → length rules ≤ k → scores ≡ map (λ (r : Text × RuleKind). score_on i clock r.1) (map named (take k rules))
    → scores ≡ map (λ (r : Text × RuleKind). score_on i clock r.1) i.rules
scores_all i clock rules k scores same over so = so ∙ ap (λ rs. map (λ (r : Text × RuleKind). score_on i clock r.1) (map named rs)) (take_all k rules over) ∙ ap (map (λ (r : Text × RuleKind). score_on i clock r.1)) same

-- what was played and compared is what the network asks for
pub network_scored : (i : InputValues) (budget : Option ℕ) (n : Text × List Period) (clock : List Period) (s : Scored) → clock ≡ n.1 → CanRank i → IsTask (task_on i clock) → IsTop i budget clock s.top
    → s.scores.items ≡ map (λ (rule : Text × RuleKind). score_on i clock rule.1) i.rules → (seen_scored s ≡ scored_on i n) × IsTop i budget n.1 s.top × AreRanked s
network_scored i budget n clock s on can is top scores =
    (scores ∙ ap (λ periods. scored_on i (n.0, periods)) on, subst (λ periods. IsTop i budget periods s.top) on top, ranked i clock s can is (top_bounds i budget clock s.top is top) scores)

-- how planning ended, at the exit of a `?`
pub unspent_exit : {B : Type 0} (spent : Option (ℕ × ℕ)) (After : B → Type 0) (q : Result B Ending) (e : Ending) → IsErrAnd q (λ y. y ≡ e) → SpentBy spent e → Unspent spent After q
unspent_exit spent After q e k s =
    let p = err_from_is_err_and q k in
    subst (Unspent spent After) (sym p.1) (subst (SpentBy spent) (sym p.2) s)

-- memory was wanting
pub unspent_wanting : {B : Type 0} (spent : Option (ℕ × ℕ)) (After : B → Type 0) (q : Result B Ending) → IsErrAnd q (λ y. y ≡ ending.NoMemory) → Unspent spent After q
unspent_wanting spent After q k = unspent_exit spent After q ending.NoMemory k tt

-- how it failed
pub unspent_err : {A : Type 0} (spent : Option (ℕ × ℕ)) (Holds : A → Type 0) (r : Result A Ending) (e : Ending) → r ≡ Err e → Unspent spent Holds r → SpentBy spent e
unspent_err spent Holds r e was h = rw was at h

-- a stage that failed before
pub unspent_failed : {A B : Type 0} (spent : Option (ℕ × ℕ)) (Holds : A → Type 0) (After : B → Type 0) (r : Result A Ending) (q : Result B Ending) (e : Ending) → r ≡ Err e → IsErrAnd q (λ y. y ≡ e) → Unspent spent Holds r → Unspent spent After q
unspent_failed spent Holds After r q e was k h = unspent_exit spent After q e k (unspent_err spent Holds r e was h)

-- ---- network by network

-- the networks that are at hand are those of the inputs
pub networks_seen : (i seen : InputValues) (networks : List Network) → seen ≡ i → map network_of networks ≡ seen.networks → map network_of networks ≡ i.networks
networks_seen i seen networks e h = h ∙ ap (λ (v : InputValues). v.networks) e

-- the budget on the networks from here on
pub spent_from : (i : InputValues) (budget : Option ℕ) (place k : ℕ) (xs : List Network) (x : Network) → k < length xs → x ≡ get_or xs k x
    → first_spent i budget place (map network_of (drop k xs)) ≡ option_or (spent_there i budget place x.trace) (first_spent i budget (place + 1) (map network_of (drop (k + 1) xs)))
spent_from i budget place k xs x lt e = ap (λ later. first_spent i budget place (map network_of later)) (dropped xs k x lt e)

-- where this network does not spend it, it is for the later ones to say
pub spent_later : (i : InputValues) (budget : Option ℕ) (k : ℕ) (xs : List Network) (x : Network) (o : Option (ℕ × ℕ)) → k < length xs → x ≡ get_or xs k x → o ≡ first_spent i budget (k + 1) (map network_of (drop k xs)) → spent_there i budget (k + 1) x.trace ≡ None
    → o ≡ first_spent i budget (k + 1 + 1) (map network_of (drop (k + 1) xs))
spent_later i budget k xs x o lt e so none =
    so ∙ spent_from i budget (k + 1) k xs x lt e ∙ ap (λ here. option_or here (first_spent i budget (k + 1 + 1) (map network_of (drop (k + 1) xs)))) none

-- none is spent behind the last network
pub spent_end : (i : InputValues) (budget : Option ℕ) (place k : ℕ) (xs : List Network) → length xs ≤ k → first_spent i budget place (map network_of (drop k xs)) ≡ None
spent_end i budget place k xs h = rw (drop_all k xs h) refl

-- a budget that is spent by the next network is spent by this one first
pub spent_first : (first later : Option (ℕ × ℕ)) (e : Ending) → SpentBy first e → SpentBy (option_or first later) e
spent_first None later e h = by_ending e h
  where
    by_ending : (e : Ending) → SpentBy None e → SpentBy later e
    by_ending ending.NoMemory h = tt
    by_ending (ending.Spent (Some place) segment) h = cc
    by_ending e h = absurd h
spent_first (Some x) later e h = h

-- planning the network at a place did not come to its end
pub spent_here : (i : InputValues) (budget : Option ℕ) (k : ℕ) (xs : List Network) (x : Network) (o : Option (ℕ × ℕ)) (e : Ending) → k < length xs → x ≡ get_or xs k x → o ≡ first_spent i budget (k + 1) (map network_of (drop k xs)) → SpentBy (spent_there i budget (k + 1) x.trace) e
    → SpentBy o e
spent_here i budget k xs x o e lt is so s =
    subst (λ spent. SpentBy spent e) (sym (so ∙ spent_from i budget (k + 1) k xs x lt is)) (spent_first (spent_there i budget (k + 1) x.trace) (first_spent i budget (k + 1 + 1) (map network_of (drop (k + 1) xs))) e s)

-- there are as many scores as networks
pub table_count : (i : InputValues) (networks : List Network) (table : List Scored) → map network_of networks ≡ i.networks → map seen_scored table ≡ map (scored_on i) i.networks → length table ≡ length networks
table_count i networks table all same = sym (length-map table seen_scored) ∙ ap length same ∙ length-map i.networks (scored_on i) ∙ ap length (sym all) ∙ length-map networks network_of

-- what the tables of networks and of their scores have at one place
pub at_place : (i : InputValues) (networks : List Network) (table : List Scored) (k : ℕ) (n : Network) (s : Scored) → map network_of networks ≡ i.networks → map seen_scored table ≡ map (scored_on i) i.networks → k < length networks → n ≡ get_or networks k n → s ≡ get_or table k s
    → seen_scored s ≡ scored_on i (network_of n)
at_place i networks table k n s all same lt e f =
    let count = table_count i networks table all same in
    let there : k < length (map network_of networks) = subst (λ m. k < m) (sym (length-map networks network_of)) lt in
    ap seen_scored f ∙ sym (get_or-map seen_scored table k s (seen_scored s) (subst (λ m. k < m) (sym count) lt)) ∙ ap (λ xs. get_or xs k (seen_scored s)) (same ∙ ap (map (scored_on i)) (sym all))
    ∙ get_or-map (scored_on i) (map network_of networks) k (network_of n) (seen_scored s) there ∙ ap (scored_on i) (get_or-map network_of networks k n (network_of n) lt ∙ ap network_of (sym e))

-- the scores at one place can be summed
pub ranked_at : (table : List Scored) (k : ℕ) (s : Scored) → k < length table → s ≡ get_or table k s → All AreRanked table → AreRanked s
ranked_at table k s lt e all = subst AreRanked (sym e) (all k s lt)

-- tops of networks, and of one more
tops_more : (i : InputValues) (budget : Option ℕ) (networks : List (Text × List Period)) (tops : List ℤ) (n : Text × List Period) (top : ℤ) → AreTops i budget networks tops → IsTop i budget n.1 top → AreTops i budget (networks ++ n ∷ []) (tops ++ top ∷ [])
tops_more i budget [] [] n top h here = (here, tt)
tops_more i budget [] (z ∷ tops) n top h here = absurd h
tops_more i budget (m ∷ networks) [] n top h here = absurd h
tops_more i budget (m ∷ networks) (z ∷ tops) n top h here = (h.0, tops_more i budget networks tops n top h.1 here)

-- the top of one network more
pub top_more : (i : InputValues) (budget : Option ℕ) (xs : List Network) (k : ℕ) (x : Network) (table more : List Scored) (s : Scored) → k < length xs → x ≡ get_or xs k x → more ≡ table ++ s ∷ []
    → AreTops i budget (map network_of (take k xs)) (tops_of table) → IsTop i budget x.trace s.top → AreTops i budget (map network_of (take (k + 1) xs)) (tops_of more)
top_more i budget xs k x table more s lt e pushed so here =
    subst (λ ns. AreTops i budget ns (tops_of more)) (sym (map_more network_of xs k x lt e))
    (subst (AreTops i budget (map network_of (take k xs) ++ network_of x ∷ [])) (sym (ap tops_of pushed ∙ map-append (λ (t : Scored). t.top) table (s ∷ [])))
    (tops_more i budget (map network_of (take k xs)) (tops_of table) (network_of x) s.top so here))

-- one network more
pub table_more : (i : InputValues) (xs : List Network) (k : ℕ) (x : Network) (table more : List Scored) (s : Scored) → k < length xs → x ≡ get_or xs k x → more ≡ table ++ s ∷ [] → map seen_scored table ≡ map (scored_on i) (map network_of (take k xs)) → seen_scored s ≡ scored_on i (network_of x)
    → map seen_scored more ≡ map (scored_on i) (map network_of (take (k + 1) xs))
table_more i xs k x table more s lt e pushed so here =
    ap (map seen_scored) pushed ∙ map-append seen_scored table (s ∷ []) ∙ ap (λ vs. vs ++ seen_scored s ∷ []) so ∙ ap (λ v. map (scored_on i) (map network_of (take k xs)) ++ v ∷ []) here
    ∙ sym (ap (map (scored_on i)) (map_more network_of xs k x lt e) ∙ map-append (scored_on i) (map network_of (take k xs)) (network_of x ∷ []))

-- all networks were played and compared
pub all_scored : (i : InputValues) (budget : Option ℕ) (k : ℕ) (xs : List Network) (table : List Scored) → map network_of xs ≡ i.networks → length xs ≤ 64 → length xs ≤ k
    → first_spent i budget 1 i.networks ≡ first_spent i budget (k + 1) (map network_of (drop k xs)) → map seen_scored table ≡ map (scored_on i) (map network_of (take k xs)) → All AreRanked table
    → AreTops i budget (map network_of (take k xs)) (tops_of table) → (first_spent i budget 1 i.networks ≡ None) × AreCompared i budget table
all_scored i budget k xs table same few over spent values ranks tops =
    let whole = ap (map network_of) (take_all k xs over) ∙ same in
    let all = values ∙ ap (map (scored_on i)) whole in
    let count = table_count i xs table same all in (
      spent ∙ spent_end i budget (k + 1) k xs over,
      record { scored = record { values = all; ranked = ranks; few = omega (arith, count, few) }; tops = subst (λ ns. AreTops i budget ns (tops_of table)) whole tops },
    )

-- what a ranking gave, by the inputs and the budget that it is made of
pub ranking_gives : (i : InputValues) (budget : Option ℕ) (v : RankingValue) (r : Result (Vec Scored Global) Ending) → v ≡ record { inputs = i; budget = budget }
    → Unspent (first_spent v.inputs v.budget 1 v.inputs.networks) (λ (table : Vec Scored Global). AreCompared v.inputs v.budget table.items) r
    → Unspent (first_spent i budget 1 i.networks) (λ (table : Vec Scored Global). AreCompared i budget table.items) r
ranking_gives i budget v r e h = subst (λ (w : RankingValue). Unspent (first_spent w.inputs w.budget 1 w.inputs.networks) (λ (table : Vec Scored Global). AreCompared w.inputs w.budget table.items) r) e h

-- what was gained where a table was given
pub table_given : (i : InputValues) (budget : Option ℕ) (r : Result (Vec Scored Global) Ending) (table : Vec Scored Global) → r ≡ Ok table
    → Unspent (first_spent i budget 1 i.networks) (λ (t : Vec Scored Global). AreCompared i budget t.items) r → (first_spent i budget 1 i.networks ≡ None) × AreCompared i budget table.items
table_given i budget r table was h = subst (Unspent (first_spent i budget 1 i.networks) (λ (t : Vec Scored Global). AreCompared i budget t.items)) was h

-- the tops under a budget are the best scores
tops_best : (i : InputValues) (budget : ℕ) (networks : List (Text × List Period)) (tops : List ℤ) → AreTops i (Some budget) networks tops → tops ≡ map (λ (n : Text × List Period). best_on i n.1) networks
tops_best i budget [] [] h = refl
tops_best i budget [] (z ∷ tops) h = absurd h
tops_best i budget (n ∷ networks) [] h = absurd h
tops_best i budget (n ∷ networks) (z ∷ tops) h = ap (λ t. t ∷ tops) h.0 ∙ ap (λ ts. best_on i n.1 ∷ ts) (tops_best i budget networks tops h.1)

-- without a budget they are bounds
tops_bound : (i : InputValues) (networks : List (Text × List Period)) (tops : List ℤ) → AreTops i None networks tops → AreBounds i networks tops
tops_bound i [] [] h = tt
tops_bound i [] (z ∷ tops) h = absurd h
tops_bound i (n ∷ networks) [] h = absurd h
tops_bound i (n ∷ networks) (z ∷ tops) h = (h.0, tops_bound i networks tops h.1)

-- the text beside the tops under a budget is that beside the best scores
pub best_text : (i : InputValues) (budget : ℕ) (table : List Scored) → AreCompared i (Some budget) table → ranked_text top.Best i (tops_of table) ≡ regret_text i
best_text i budget table h = ap (ranked_text top.Best i) (tops_best i budget i.networks (tops_of table) h.tops)

-- the tops without a budget bound the values on each network
pub bounds_of : (i : InputValues) (table : List Scored) → AreCompared i None table → AreBounds i i.networks (tops_of table)
bounds_of i table h = tops_bound i i.networks (tops_of table) h.tops

-- ---- rows

-- the row of equal scores
pub row_as : (by : Top) (name other : Text) (score top points best : ℤ) → name ≡ other → score ≡ points → top ≡ best → top_line by name score top ≡ top_line by other points best
row_as by name other score top points best e f h = ap (λ n. top_line by n score top) e ∙ ap (λ z. top_line by other z top) f ∙ ap (top_line by other points) h

-- the row of a rule, and those behind it
pub rows_next : (by : Top) (rules : List NamedRule) (scores : List ℤ) (top : ℤ) (k : ℕ) (rule : NamedRule) (score : ℤ) → k < length rules → rule ≡ get_or rules k rule → k < length scores → score ≡ get_or scores k score
    → rows_of by (map named (drop k rules)) (drop k scores) top ≡ top_line by (string_bytes rule.name) score top ++ rows_of by (map named (drop (k + 1) rules)) (drop (k + 1) scores) top
rows_next by rules scores top k rule score lt e low f =
    ap (λ rs. rows_of by (map named rs) (drop k scores) top) (dropped rules k rule lt e) ∙ ap (λ ss. rows_of by (named rule ∷ map named (drop (k + 1) rules)) ss top) (dropped scores k score low f)

-- behind the last rule there is no row
pub rows_over : (by : Top) (rules : List NamedRule) (scores : List ℤ) (top : ℤ) (k : ℕ) → length rules ≤ k → rows_of by (map named (drop k rules)) (drop k scores) top ≡ []
rows_over by rules scores top k h = rw (drop_all k rules h) refl

rows_on : (by : Top) (i : InputValues) (periods : List Period) (top : ℤ) (rules : List (Text × RuleKind)) → rows_of by rules (map (λ (rule : Text × RuleKind). score_on i periods rule.1) rules) top ≡ flat_map (ranked_row by i periods top) rules
rows_on by i periods top [] = refl
rows_on by i periods top (rule ∷ rules) = ap (λ later. ranked_row by i periods top rule ++ later) (rows_on by i periods top rules)

-- the rows of these scores are those of the network
pub rows_are : (by : Top) (i : InputValues) (n : Text × List Period) (rules : List NamedRule) (s : Scored) → map named rules ≡ i.rules → seen_scored s ≡ scored_on i n
    → rows_of by (map named rules) s.scores.items s.top ≡ flat_map (ranked_row by i n.1 s.top) i.rules
rows_are by i n rules s same seen =
    ap (λ rs. rows_of by rs s.scores.items s.top) same ∙ ap (λ ss. rows_of by i.rules ss s.top) seen ∙ rows_on by i n.1 s.top i.rules

-- the rows of the networks from here on: this one's, and those behind it
pub networks_next : (by : Top) (i : InputValues) (xs : List Network) (table : List Scored) (k : ℕ) (x : Network) (s : Scored) → k < length xs → x ≡ get_or xs k x → k < length table → s ≡ get_or table k s
    → networks_rows by i (map network_of (drop k xs)) (tops_of (drop k table)) ≡ network_rows by i (network_of x) s.top ++ networks_rows by i (map network_of (drop (k + 1) xs)) (tops_of (drop (k + 1) table))
networks_next by i xs table k x s lt e low f =
    ap (λ ns. networks_rows by i (map network_of ns) (tops_of (drop k table))) (dropped xs k x lt e)
    ∙ ap (λ ts. networks_rows by i (network_of x ∷ map network_of (drop (k + 1) xs)) (tops_of ts)) (dropped table k s low f)

-- behind the last network there are none
pub networks_over : (by : Top) (i : InputValues) (xs : List Network) (table : List Scored) (k : ℕ) → length xs ≤ k → networks_rows by i (map network_of (drop k xs)) (tops_of (drop k table)) ≡ []
networks_over by i xs table k h = rw (drop_all k xs h) refl

-- there is a score for each rule
pub scores_count : (i : InputValues) (n : Text × List Period) (rules : List NamedRule) (s : Scored) → map named rules ≡ i.rules → seen_scored s ≡ scored_on i n → length s.scores.items ≡ length rules
scores_count i n rules s same seen =
    ap length seen ∙ length-map i.rules (λ (rule : Text × RuleKind). score_on i n.1 rule.1) ∙ sym (ap length same) ∙ length-map rules named

-- ---- totals

-- each network has a score of the rule at an index
pub all_wide : (i : InputValues) (table : List Scored) (rules : List NamedRule) (rule : ℕ) → map named rules ≡ i.rules → map seen_scored table ≡ map (scored_on i) i.networks → rule < length rules → All (λ (s : Scored). rule < length s.scores.items) table
all_wide i table rules rule all same lt =
    let count : length i.rules ≡ length rules = sym (ap length all) ∙ length-map rules named in
    all_mapped (λ (v : List ℤ). rule < length v) seen_scored table
    (subst (All (λ (v : List ℤ). rule < length v)) (sym same)
    (All-map (λ (v : List ℤ). rule < length v) (scored_on i) i.networks
    (λ k d low. subst (λ m. rule < m) (sym (length-map i.rules (λ (r : Text × RuleKind). score_on i (get_or i.networks k d).1 r.1) ∙ count)) lt)))

-- the scores of a rule in the table are those over all networks
column_on : (i : InputValues) (rule : ℕ) (r : Text × RuleKind) → rule < length i.rules → r ≡ get_or i.rules rule r → (networks : List (Text × List Period)) (table : List Scored) → map seen_scored table ≡ map (scored_on i) networks
    → map (scores_at rule) table ≡ scores_over i networks (tops_of table) r.1
column_on i rule r lt e [] [] same = refl
column_on i rule r lt e [] (s ∷ table) same = cc
column_on i rule r lt e (n ∷ networks) [] same = cc
column_on i rule r lt e (n ∷ networks) (s ∷ table) same =
    let parts = cons_same same in
    let here : slice_index_or s.scores.items rule (pos 0) ≡ score_on i n.1 r.1 =
    ap (λ ss. slice_index_or ss rule (pos 0)) parts.0
    ∙ get_or-map (λ (q : Text × RuleKind). score_on i n.1 q.1) i.rules rule r (pos 0) lt ∙ ap (λ (q : Text × RuleKind). score_on i n.1 q.1) (sym e)
    in
    ap (λ z. (z, s.top) ∷ map (scores_at rule) table) here ∙ ap (λ ps. (score_on i n.1 r.1, s.top) ∷ ps) (column_on i rule r lt e networks table parts.1)

-- the same over all networks
pub column_is : (i : InputValues) (table : List Scored) (rule : ℕ) (r : Text × RuleKind) → map seen_scored table ≡ map (scored_on i) i.networks → rule < length i.rules → r ≡ get_or i.rules rule r
    → map (scores_at rule) table ≡ scores_over i i.networks (tops_of table) r.1
column_is i table rule r same lt e = column_on i rule r lt e i.networks table same

-- the total of the networks before one counts fewer than all
pub total_short : (rule k : ℕ) (table : List Scored) (t : Total) → IsTotalOf (map (scores_at rule) (take k table)) t → k < length table → length table ≤ 64 → t.count < 64
total_short rule k table t stands lt few =
    let count = stands.count in
    let mapped = length-map (take k table) (scores_at rule) in
    let taken = length-take-le k table (omega (arith, lt)) in
    omega (arith, count, mapped, taken, lt, few)

-- a network has a score of the rule at an index
pub wide_at : (table : List Scored) (rule k : ℕ) (s : Scored) → k < length table → s ≡ get_or table k s → All (λ (x : Scored). rule < length x.scores.items) table → rule < length s.scores.items
wide_at table rule k s lt e all = subst (λ (x : Scored). rule < length x.scores.items) (sym e) (all k s lt)

-- which can be summed
pub score_ranked : (s : Scored) (rule : ℕ) (score : ℤ) → AreRanked s → rule < length s.scores.items → score ≡ get_or s.scores.items rule score → AreScores (score, s.top)
score_ranked s rule score all lt e = subst (λ z. AreScores (z, s.top)) (sym e) (all rule score lt)

-- equal scores can be summed
pub scores_as : (score best points top : ℤ) → score ≡ points → best ≡ top → AreScores (points, top) → AreScores (score, best)
scores_as score best points top e f h = subst (λ z. AreScores (z, best)) (sym e) (subst (λ z. AreScores (points, z)) (sym f) h)

-- a total of equal scores
pub total_as : (ps : List Scores) (t : Total) (score best points top : ℤ) → score ≡ points → best ≡ top → IsTotalOf (ps ++ (score, best) ∷ []) t → IsTotalOf (ps ++ (points, top) ∷ []) t
total_as ps t score best points top e f h = subst (λ z. IsTotalOf (ps ++ (points, z) ∷ []) t) f (subst (λ z. IsTotalOf (ps ++ (z, best) ∷ []) t) e h)

-- one network more in the total
pub total_more : (rule k : ℕ) (table : List Scored) (x : Scored) (score : ℤ) (t : Total) → k < length table → x ≡ get_or table k x → rule < length x.scores.items → score ≡ get_or x.scores.items rule score
    → IsTotalOf (map (scores_at rule) (take k table) ++ (score, x.top) ∷ []) t → IsTotalOf (map (scores_at rule) (take (k + 1) table)) t
total_more rule k table x score t lt e low f stands =
    let here : score ≡ slice_index_or x.scores.items rule (pos 0) = f ∙ get_or_default x.scores.items rule score (pos 0) low in
    subst (λ ps. IsTotalOf ps t) (ap (λ z. map (scores_at rule) (take k table) ++ (z, x.top) ∷ []) here ∙ sym (map_more (scores_at rule) table k x lt e)) stands

-- the total is that of the rule
pub total_is : (by : Top) (i : InputValues) (table : List Scored) (rule : ℕ) (rules : List NamedRule) (r : NamedRule) (t : Total) → map named rules ≡ i.rules → map seen_scored table ≡ map (scored_on i) i.networks → rule < length rules → r ≡ get_or rules rule r
    → IsTotalOf (map (scores_at rule) table) t → sums_line by (string_bytes r.name) t ≡ sums_row by i (tops_of table) (named r)
total_is by i table rule rules r t same seen lt e stands =
    let count : length i.rules ≡ length rules = sym (ap length same) ∙ length-map rules named in
    let here : named r ≡ get_or i.rules rule (named r) = ap named e ∙ sym (get_or-map named rules rule r (named r) lt) ∙ ap (λ rs. get_or rs rule (named r)) same in
    let column = column_is i table rule (named r) seen (subst (λ m. rule < m) (sym count) lt) here in
    ap (sums_line by (string_bytes r.name)) (stands_is (map (scores_at rule) table) t stands ∙ ap total_of column)

-- ---- what the command answers

-- a setting does not fit
pub regret_stopped : (budget : ℕ) (i : InputValues) (why : Stop) → settled i ≡ Err why → regret budget i ≡ Err (ending.Stopped why)
unfolding regret
regret_stopped budget i why h = rw h refl

-- the text
pub regretted : (budget : ℕ) (i : InputValues) → settled i ≡ Ok i → first_spent i (Some budget) 1 i.networks ≡ None → regret budget i ≡ Ok (printed (regret_text i))
unfolding regret
regretted budget i h none = rw h (ap (unless_any_spent i) none)

-- planning did not come to its end
pub regret_spent : (budget : ℕ) (i : InputValues) (old : Seen) (e : Ending) → settled i ≡ Ok i → SpentBy (first_spent i (Some budget) 1 i.networks) e → Writes at_the_end (regret budget i) old e old
unfolding regret
regret_spent budget i old ending.NoMemory h s = wanting at_the_end (regret budget i) old
regret_spent budget i old (ending.Spent (Some place) segment) h s = (rw h (ap (unless_any_spent i) s), refl)
regret_spent budget i old e h s = absurd s

-- a setting does not fit, beside bounds
pub bounds_stopped : (bounds : List ℤ) (i : InputValues) (why : Stop) → settled i ≡ Err why → near_regret bounds i ≡ Err (ending.Stopped why)
unfolding near_regret
bounds_stopped bounds i why h = rw h refl

-- the text beside bounds
pub bounded : (bounds : List ℤ) (i : InputValues) → settled i ≡ Ok i → near_regret bounds i ≡ Ok (printed (ranked_text top.Bound i bounds))
unfolding near_regret
bounded bounds i h = rw h refl

never_any : (i : InputValues) (place : ℕ) (networks : List (Text × List Period)) → first_spent i None place networks ≡ None
never_any i place [] = refl
never_any i place (n ∷ networks) = never_any i (place + 1) networks

-- without a budget it is memory that was wanting
pub only_memory : (i : InputValues) (e : Ending) → SpentBy (first_spent i None 1 i.networks) e → e ≡ ending.NoMemory
only_memory i e s = by_ending e (subst (λ spent. SpentBy spent e) (never_any i 1 i.networks) s)
  where
    by_ending : (e : Ending) → SpentBy None e → e ≡ ending.NoMemory
    by_ending ending.NoMemory h = refl
    by_ending (ending.Spent (Some place) segment) h = cc
    by_ending e h = absurd h
