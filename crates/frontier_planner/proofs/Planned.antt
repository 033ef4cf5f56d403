-- What is read off coarse frontiers is a coarse plan, and on the grid 1, 1 the plan.
use Rattle.std.proofs.Common.{◌≡◌, ◌∙◌, ℕ, suc, ◌-◌, ◌≤◌, List, Bool, length, sym, ap, subst, arith}
use Rattle.std.specs.Prelude.{ℤ, Result, Ok, Err, IfOk}
use Rattle.std.specs.Result.{IsErrAnd}
use Rattle.std.specs.List.{Contains}
use Rattle.lab_model.specs.declared.label.Label.{Label}
use Rattle.lab_model.specs.Film.{rungs_of, segments_of}
use Rattle.frontier_planner.specs.declared.frontiers.Frontiers.{Frontiers}
use Rattle.frontier_planner.specs.declared.frontiers.Layer.{Layer}
use Rattle.frontier_planner.specs.declared.planner.Outline.{Outline}
use Rattle.frontier_planner.specs.declared.plans.BoundedList.{BoundedList}
use Rattle.frontier_planner.specs.declared.plans.CoarsePlan.{CoarsePlan}
use Rattle.labels.specs.declared.plans.Plan.{Plan}
use Rattle.frontier_planner.specs.declared.plans.PlanErr.{PlanErr}
use Rattle.frontier_planner.specs.declared.plans.PlanErr.TheVariants as fault
use Rattle.player_core.specs.Scene.{Task}
use Rattle.labels.specs.Frontier.{frontier}
use Rattle.labels.specs.Grid.{Rounding, exact}
use Rattle.labels.specs.Grown.{grown, CanPlan, grown_labels}
use Rattle.frontier_planner.specs.Layers.{FrontiersAnswer, HoldAll, HoldPlan, rungs_read}
use Rattle.labels.specs.Parts.{ChainParts, plan_parts}
use Rattle.labels.specs.Read.{SpentAt, bound_of, certificate_from, chain_list, end_of_plan, has_table, labels_in, list_of_plan, list_value, starts_of}
use Rattle.labels.specs.Form.{HasSignedDigits, IsCertificate, score_digits}
use Rattle.labels.specs.Valid.{IsValid}
use Rattle.labels.specs.Best.{Settles}
use Rattle.frontier_planner.specs.Planned.{CoarseAnswer, ExactAnswer, IsListOf, IsPlanOf, ListAnswer, OutlineAnswer, PlanAnswer, list_in, without_bound}
use Rattle.labels.proofs.Accepts.{accepted}
use Rattle.labels.proofs.ReadBack.{end_found, list_scores}
use Rattle.labels.proofs.Same.{before_same, bound_same, certificate_same, list_same}
use Rattle.labels.proofs.HasForm.{bound_short, certificate_form}
use Rattle.labels.proofs.Sound.{coarse_settles, exact_agrees}

module _ (d : Rounding) (g : Task) (case : CanPlan d g) (budget : ℕ) where
  -- the list that is read from the end is the plan's
  pub list_is : (last : ℕ) (c : ℕ × Label) (rungs : List ℕ) → last ≡ segments_of g.film - 1 → c ≡ end_of_plan g (grown d g) → rungs ≡ rungs_read d g last c → rungs ≡ list_of_plan d g (grown d g)
  unfolding list_of_plan
  list_is last c rungs at end is = is ∙ ap (λ n. rungs_read d g n c) at ∙ ap (rungs_read d g (segments_of g.film - 1)) end

  -- the layers of frontiers whose list was read are those of a plan
  pub plan_held : (layers : List Layer) (b : BoundedList) → budget ≤ 1000000 → IsListOf d g (grown d g) budget b → HoldAll d g layers → length layers ≡ segments_of g.film → HoldPlan d g layers
  plan_held layers b small list holds count = let sum = list.labels in let most = list.within in record { case = case; holds = holds; count = count; few = omega (arith, sum, most, small) }

  -- the end stands in the last segment
  pub end_there : (last : ℕ) (c : ℕ × Label) → last ≡ segments_of g.film - 1 → c ≡ end_of_plan g (grown d g) → Contains (grown_labels d g last) c
  end_there last c at end =
      subst (λ n. Contains (grown_labels d g n) c) (sym at) (subst (Contains (grown_labels d g (segments_of g.film - 1))) (sym end) (end_found d g case.grid case.task).0)

  -- a list that is read off the coarse frontiers is the one to answer
  pub list_read : (b : BoundedList) → b.rungs.items ≡ list_of_plan d g (grown d g) → b.score ≡ list_value g b.rungs.items → b.labels ≡ labels_in g (grown d g) → b.labels ≤ budget → b.bound ≡ bound_of g (grown d g)
      → IsListOf d g (grown d g) budget b
  list_read b rungs value labels within bound =
      let list = list_of_plan d g (grown d g) in
      let score : b.score ≡ list_value g list = value ∙ ap (list_value g) rungs in
      let own : Settles g list (list_value g list) (bound_of g (grown d g)) = coarse_settles d case.grid g case.task in
      let scored : Settles g list b.score (bound_of g (grown d g)) = subst (λ v. Settles g list v (bound_of g (grown d g))) (sym score) own in
      let listed : Settles g b.rungs.items b.score (bound_of g (grown d g)) = subst (λ l. Settles g l b.score (bound_of g (grown d g))) (sym rungs) scored in
      record { rungs = rungs; score = score; labels = labels; within = within; bound = bound; settles = subst (Settles g b.rungs.items b.score) (sym bound) listed }

  -- a plan with this list and the certificate of the coarse frontiers is the coarse plan
  pub coarse_is : budget ≤ 1000000 → (p : Plan) (most : ℤ) → IsListOf d g (grown d g) budget (list_in p most) → plan_parts g.film p ≡ certificate_from d g (grown d g) → IsPlanOf d g (grown d g) budget p most
  coarse_is small p most list parts =
      let b = bound_of g (grown d g) in
      let labels = list.labels in
      let within = list.within in
      let few : labels_in g (grown d g) ≤ 1000000 = omega (arith, labels, within, small) in
      record {
        list = list;
        parts = parts;
        valid = subst (IsValid g (plan_parts g.film p)) (sym list.bound) (subst (λ c. IsValid g c b) (sym parts) (accepted d case.grid g case.task));
        form = subst IsCertificate (sym parts) (certificate_form d g case few);
        short = subst (HasSignedDigits score_digits) (sym list.bound) (bound_short d g case few);
      }

  -- the parts of its certificate, one by one
  pub parts_are : (table : Bool) (rungs starts : List ℕ) (score : ℤ) (chains : List ChainParts) → table ≡ has_table g.setup → rungs ≡ list_of_plan d g (grown d g) → score ≡ list_value g (list_of_plan d g (grown d g))
      → starts ≡ starts_of g (grown d g) → chains ≡ chain_list g (grown d g)
      → record { table = table; segments = segments_of g.film; rungs = rungs_of g.film; score = score; plan = rungs; starts = starts; chains = chains } ≡ certificate_from d g (grown d g)
  parts_are table rungs starts score chains a b e f h =
      let n = segments_of g.film in
      let r = rungs_of g.film in
      let list = list_of_plan d g (grown d g) in
      ap (λ (x : Bool). record { table = x; segments = n; rungs = r; score = score; plan = rungs; starts = starts; chains = chains }) a
      ∙ ap (λ (x : ℤ). record { table = has_table g.setup; segments = n; rungs = r; score = x; plan = rungs; starts = starts; chains = chains }) e
      ∙ ap (λ (x : List ℕ). record { table = has_table g.setup; segments = n; rungs = r; score = list_value g list; plan = x; starts = starts; chains = chains }) b
      ∙ ap (λ (x : List ℕ). record { table = has_table g.setup; segments = n; rungs = r; score = list_value g list; plan = list; starts = x; chains = chains }) f
      ∙ ap (λ (x : List ChainParts). record { table = has_table g.setup; segments = n; rungs = r; score = list_value g list; plan = list; starts = starts_of g (grown d g); chains = x }) h

  -- where there are no frontiers there is no list
  pub frontiers_stop : (r : Result Frontiers PlanErr) (s : Result Outline PlanErr) (e : PlanErr) → r ≡ Err e → IsErrAnd s (λ x. x ≡ e) → FrontiersAnswer d g budget r → OutlineAnswer d g budget s
  frontiers_stop r (Ok o) e is same h = absurd same
  frontiers_stop r (Err x) e is same h = stopped x (subst (FrontiersAnswer d g budget) (is ∙ ap Err (sym same)) h)
    where
      stopped : (x : PlanErr) → FrontiersAnswer d g budget (Err x) → OutlineAnswer d g budget (Err x)
      stopped (fault.BudgetSpent segment) k = k
      stopped fault.Memory k = tt

  -- where there is no list there is no plan
  pub outline_stops : (r : Result Outline PlanErr) (s : Result CoarsePlan PlanErr) (e : PlanErr) → r ≡ Err e → IsErrAnd s (λ x. x ≡ e) → OutlineAnswer d g budget r → CoarseAnswer d g budget s
  outline_stops r (Ok c) e is same h = absurd same
  outline_stops r (Err x) e is same h = stopped x (subst (OutlineAnswer d g budget) (is ∙ ap Err (sym same)) h)
    where
      stopped : (x : PlanErr) → OutlineAnswer d g budget (Err x) → CoarseAnswer d g budget (Err x)
      stopped (fault.BudgetSpent segment) k = k
      stopped fault.Memory k = tt

  -- and no list is answered
  pub list_stops : (r : Result Outline PlanErr) (s : Result BoundedList PlanErr) (e : PlanErr) → r ≡ Err e → IsErrAnd s (λ x. x ≡ e) → OutlineAnswer d g budget r → ListAnswer d g (grown d g) budget s
  list_stops r (Ok b) e is same h = absurd same
  list_stops r (Err x) e is same h = stopped x (subst (OutlineAnswer d g budget) (is ∙ ap Err (sym same)) h)
    where
      stopped : (x : PlanErr) → OutlineAnswer d g budget (Err x) → ListAnswer d g (grown d g) budget (Err x)
      stopped (fault.BudgetSpent segment) k = k
      stopped fault.Memory k = tt

-- on the grid 1, 1
module _ (g : Task) (case : CanPlan exact g) (budget : ℕ) where
  -- the list of the coarse frontiers is that of the frontiers
  pub list_is_best : (b : BoundedList) → IsListOf exact g (grown exact g) budget b → IsListOf exact g (frontier g) budget b
  list_is_best b h =
      let agree = exact_agrees g case.task in
      let list = list_same exact g (grown exact g) (frontier g) agree case.task in
      record {
        rungs = h.rungs ∙ list;
        score = h.score ∙ ap (list_value g) list;
        labels = h.labels ∙ before_same exact g (grown exact g) (frontier g) agree (segments_of g.film) (omega arith);
        within = h.within;
        bound = h.bound ∙ bound_same exact g (grown exact g) (frontier g) agree case.task;
        settles = h.settles;
      }

  -- its bound is its score
  pub bound_is_score : (b : BoundedList) → IsListOf exact g (grown exact g) budget b → b.bound ≡ b.score
  bound_is_score b h = h.bound ∙ sym (list_scores g case.task) ∙ sym h.score

  -- the coarse plan is the plan
  pub plan_is : (p : Plan) (most : ℤ) → IsPlanOf exact g (grown exact g) budget p most → IsPlanOf exact g (frontier g) budget p p.score
  plan_is p most h =
      let agree = exact_agrees g case.task in
      let same : most ≡ p.score = bound_is_score (list_in p most) h.list in
      record {
        list = subst (λ m. IsListOf exact g (frontier g) budget (list_in p m)) same (list_is_best (list_in p most) h.list);
        parts = h.parts ∙ certificate_same exact g (grown exact g) (frontier g) agree case.task;
        valid = subst (IsValid g (plan_parts g.film p)) same h.valid;
        form = h.form;
        short = subst (HasSignedDigits score_digits) same h.short;
      }

  -- and the budget is spent at the same segment
  pub spent_is : (s : ℕ) → SpentAt g (grown exact g) budget s → SpentAt g (frontier g) budget s
  spent_is s h =
      let agree = exact_agrees g case.task in
      let low = h.inside in
      let one = before_same exact g (grown exact g) (frontier g) agree s (omega (arith, low)) in
      let two = before_same exact g (grown exact g) (frontier g) agree (suc s) (omega (arith, low)) in
      let before = h.before in
      let above = h.above in
      record { inside = low; before = omega (arith, one, before); above = omega (arith, two, above) }

  -- the coarse answer without its bound is the planner's answer
  pub plan_answer : (r : Result CoarsePlan PlanErr) → CoarseAnswer exact g budget r → PlanAnswer g budget (without_bound r)
  plan_answer (Ok c) h = plan_is c.plan c.bound h
  plan_answer (Err (fault.BudgetSpent s)) h = spent_is s h
  plan_answer (Err fault.Memory) h = tt

  -- the answer of a list is that of the frontiers
  pub list_answer : (r : Result BoundedList PlanErr) → ListAnswer exact g (grown exact g) budget r → ListAnswer exact g (frontier g) budget r
  list_answer (Ok b) h = list_is_best b h
  list_answer (Err (fault.BudgetSpent s)) h = spent_is s h
  list_answer (Err fault.Memory) h = tt

-- on a grid that is 1, 1 the bound of a list is its score
pub list_bound : (d : Rounding) (g : Task) → CanPlan d g → (budget : ℕ) (r : Result BoundedList PlanErr) → ListAnswer d g (grown d g) budget r → d ≡ exact → IfOk r (λ b. b.bound ≡ b.score)
list_bound d g case budget (Ok b) h e = bound_is_score g (subst (λ x. CanPlan x g) e case) budget b (subst (λ x. IsListOf x g (grown x g) budget b) e h)
list_bound d g case budget (Err x) h e = tt

-- on a grid that is 1, 1 the list is that of the frontiers
pub exact_list : (d : Rounding) (g : Task) → CanPlan d g → (budget : ℕ) (r : Result BoundedList PlanErr) → ListAnswer d g (grown d g) budget r → d ≡ exact → ListAnswer exact g (frontier g) budget r
exact_list d g case budget r h e = list_answer g (subst (λ x. CanPlan x g) e case) budget r (subst (λ x. ListAnswer x g (grown x g) budget r) e h)

-- on a grid that is 1, 1 the bound is the score
pub exact_bound : (d : Rounding) (g : Task) → CanPlan d g → (budget : ℕ) (r : Result CoarsePlan PlanErr) → CoarseAnswer d g budget r → d ≡ exact → IfOk r (λ c. c.bound ≡ c.plan.score)
exact_bound d g case budget (Ok c) h e =
    bound_is_score g (subst (λ x. CanPlan x g) e case) budget (list_in c.plan c.bound) (subst (λ x. IsListOf x g (grown x g) budget (list_in c.plan c.bound)) e h.list)
exact_bound d g case budget (Err x) h e = tt

-- on a grid that is 1, 1
pub exact_answer : (d : Rounding) (g : Task) → CanPlan d g → (budget : ℕ) (r : Result CoarsePlan PlanErr) → CoarseAnswer d g budget r → ExactAnswer d g budget r
exact_answer d g case budget r h e = plan_answer g (subst (λ x. CanPlan x g) e case) budget r (subst (λ x. CoarseAnswer x g budget r) e h)

-- on a grid that is 1, 1 the coarse plan is the plan, and its score is the bound
pub exact_plan : (d : Rounding) (g : Task) → CanPlan d g → (budget : ℕ) (p : Plan) (most : ℤ) → d ≡ exact → IsPlanOf d g (grown d g) budget p most → IsPlanOf exact g (frontier g) budget p p.score
exact_plan d g case budget p most e h = plan_is g (subst (λ x. CanPlan x g) e case) budget p most (subst (λ x. IsPlanOf x g (grown x g) budget p most) e h)
