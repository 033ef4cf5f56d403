-- Reading a plan off the arena: the best end, the parent that a link leads to, and the labels along a list.
use Rattle.std.proofs.Common.{◌≡◌, ◌∙◌, ℕ, zero, suc, ◌+◌, ◌-◌, ◌*◌, ◌<◌, ◌≤◌, ⊎_elim, List, [], ◌∷◌, ◌++◌, length, get_or, map, cond, Bool, true, false, Option, Some, None, refl, sym, ap, subst, arith}
use Rattle.std.specs.Prelude.{◌↔◌, IsTrue, slice_index, unwrap_or}
use Rattle.std.specs.Bool.{MatchBool}
use Rattle.std.specs.List.{AllWithin, Contains, HoldsAt, best_of}
use Rattle.std.proofs.lemmas.Bool.{cases_lt, false≢true}
use Rattle.std.proofs.lemmas.List.{get_or-map, length-map}
use Rattle.label_arena.specs.Chains.{HasLabel, HasLink, Holdings, IsSound, Standing, Stands, StandsIn, chain_at, ids_of, standing, steps_of}
use Rattle.label_arena.specs.declared.walk.Step.{Step}
use Rattle.label_arena.specs.declared.node.NodeId.{NodeId}
use Rattle.label_arena.proofs.Parents.{in_ids}
use Rattle.frontier_planner.specs.declared.chains.Reached.{Reached}
use Rattle.frontier_planner.specs.Linked.{HoldsAll, HoldsFrontier, StandsAt, StandsOn, pair_of}
use Rattle.frontier_planner.proofs.Linking.{number_inside}
use Rattle.lab_model.specs.declared.label.Label.{Label}
use Rattle.lab_model.specs.Film.{rungs_of, segments_of}
use Rattle.labels.specs.Grid.{Rounding}
use Rattle.labels.specs.Labels.{AreRungs, label_at, next_label}
use Rattle.player_core.specs.Scene.{IsTask, Task}
use Rattle.labels.specs.Near.{CanFollow}
use Rattle.labels.specs.Grown.{grown, CanPlan, grown_labels}
use Rattle.frontier_planner.specs.Layers.{rungs_read}
use Rattle.labels.specs.Read.{best_in, ends_higher, no_label, parent_of}
use Rattle.labels.proofs.Follows.{label_follows}
use Rattle.labels.proofs.Grown.{grown_covers}
use Rattle.labels.proofs.Path.{label_next}
use Rattle.labels.proofs.ReadBack.{back_next, some_label}
use Rattle.labels.proofs.Reached.{label_reach, reach_follows}
use Rattle.labels.proofs.Walks.{in_by_rung, in_map}

-- ---- the end

cond_same : {X : Type 0} (b : Bool) (x : X) → cond b x x ≡ x
cond_same true x = refl
cond_same false x = refl

-- the best of a list, begun with its first
pub best_whole : (g : Task) (cs : List (ℕ × Label)) → 0 < length cs → best_of (ends_higher g) (get_or cs 0 (0, no_label)) cs ≡ best_in g cs
best_whole g [] some = absurd (omega (arith, some))
best_whole g (c ∷ cs) some = ap (λ b. best_of (ends_higher g) b cs) (cond_same (ends_higher g c c) c)

-- a coarse frontier's segment has a label
pub labels_some : (d : Rounding) (g : Task) → CanPlan d g → (i : ℕ) → i < segments_of g.film → 0 < length (grown_labels d g i)
labels_some d g case i low =
    let rungs = case.task.film.rungs.0 in
    let rung : 0 < rungs_of g.film = omega (arith, rungs) in
    let l = some_label g (grown d g) case.task (grown_covers d g case.grid) i low 0 rung in
    let there = in_by_rung (rungs_of g.film) (grown d g i) 0 l.0 rung l.1 in
    let inside = there.1 in
    omega (arith, inside)

-- and so has the last segment
pub last_some : (d : Rounding) (g : Task) → CanPlan d g → (last : List Reached) → map pair_of last ≡ grown_labels d g (segments_of g.film - 1) → 0 < length last
last_some d g case last is =
    let some = case.task.film.segments.0 in
    let many = labels_some d g case (segments_of g.film - 1) (omega (arith, some)) in
    let same = sym (length-map last pair_of) ∙ ap length is in
    omega (arith, many, same)

-- a label of the last segment weighs no more than this
pub end_fits : (d : Rounding) (g : Task) → CanPlan d g → (last : List Reached) → map pair_of last ≡ grown_labels d g (segments_of g.film - 1) → (x : Reached) → Contains last x → x.label.p ≤ 2000000000000000
end_fits d g case last is x there =
    let some = case.task.film.segments.0 in
    let delay = (label_follows d g case (segments_of g.film - 1) (pair_of x) (omega (arith, some)) (subst (λ cs. Contains cs (pair_of x)) is (in_map pair_of last x there))).delay in
    omega (arith, delay)

-- ---- nodes

abbrev step_of : Standing → Step
step_of s = record { node = s.node; label = s.label }

-- whether a node stands in a chain, by what a walk along it gives
pub stands_in : (ns : List Standing) (k : NodeId) (b : Bool) → MatchBool b ((x : ℕ) × (x < length (steps_of ns)) × HoldsAt (λ (s : Step). s.node ≡ k) (steps_of ns) x) (AllWithin (λ (s : Step). s.node ≡ k → ⊥) (steps_of ns) 0 (length (steps_of ns)))
    → IsTrue b ↔ Contains (ids_of ns) k
stands_in ns k true h =
    let none = standing k no_label None in
    let steps = length-map ns step_of in
    let ids = length-map ns (λ (s : Standing). s.node) in
    let inside = h.1 in
    let low : h.0 < length ns = omega (arith, steps, inside) in (
      λ yes. (
        h.0,
        omega (arith, ids, low),
        get_or-map (λ (s : Standing). s.node) ns h.0 none k low ∙ sym (ap (λ (s : Step). s.node) (get_or-map step_of ns h.0 none (step_of none) low)) ∙ h.2 (step_of none),
      ),
      λ there. refl,
    )
stands_in ns k false h =
    let none = standing k no_label None in
    let steps = length-map ns step_of in
    let ids = length-map ns (λ (s : Standing). s.node) in (
      λ yes. absurd (false≢true yes),
      λ there.
          let inside = there.1 in
          let low : there.0 < length ns = omega (arith, ids, inside) in
          absurd (h there.0 (step_of none) (omega arith) (omega (arith, steps, low))
          (ap (λ (s : Step). s.node) (get_or-map step_of ns there.0 none (step_of none) low) ∙ sym (get_or-map (λ (s : Standing). s.node) ns there.0 none k low) ∙ there.2)),
    )

-- a node whose label stands in a segment stands in a chain
pub stands_own : (g : Task) (a : Holdings) (i : ℕ) (x : Reached) → StandsAt g a i x → Stands a x.node
stands_own g a i x h =
    let number = i * rungs_of g.film + x.rung in
    (number, subst (StandsIn a number) h.4 (in_ids (chain_at a number).nodes h.1 h.2))

-- one rung more in whose chain a node doesn't stand
pub none_more : (a : Holdings) (base r c : ℕ) (k : NodeId) (b : Bool) → ((q : ℕ) → q < r → StandsIn a (base + q) k → ⊥) → c ≡ base + r → (IsTrue b ↔ StandsIn a c k) → b ≡ false
    → (q : ℕ) → q < r + 1 → StandsIn a (base + q) k → ⊥
none_more a base r c k b none at tells fails q low there =
    ⊎_elim (λ (before : q < r). none q before there)
    (λ (late : r ≤ q).
    let e : base + q ≡ base + r = omega (arith, low, late) in
    false≢true (sym fails ∙ tells.1 (subst (λ n. StandsIn a n k) (e ∙ sym at) there))) (cases_lt q r)

-- ---- parents

module _ (d : Rounding) (g : Task) (a : Holdings) (h : HoldsAll d g a) (i : ℕ) (some : 1 ≤ i) (low : i < segments_of g.film) (x : Reached) (stands : StandsAt g a i x) where
  -- the frontier in which the label stands
  own_frontier : HoldsFrontier d g a i x.rung
  own_frontier = h.holds i x.rung stands.0 (number_inside (segments_of g.film) (rungs_of g.film) i x.rung low stands.0)

  -- its link leads to its parent
  linked : (y : Reached) × (stands.1.parent ≡ Some y.node) × (pair_of y ≡ parent_of d g (grown d g) (i - 1) (pair_of x)) × StandsAt g a (i - 1) y
  linked =
      let l = own_frontier.linked stands.1 stands.2 some in
      (l.0, l.1, l.2 ∙ ap (λ (m : Label). parent_of d g (grown d g) (i - 1) (x.rung, m)) stands.3, l.3)

  -- so does what the arena says of it
  link_is : (parent : Option NodeId) → HasLink a x.node parent → parent ≡ Some linked.0.node
  link_is parent has = has (i * rungs_of g.film + x.rung) stands.1 stands.2 stands.4 ∙ linked.1

  -- the node that it leads to stands in the segment before
  pub link_stands : (k : NodeId) → HasLink a x.node (Some k) → StandsOn g a (i - 1) k × Stands a k
  link_stands k has =
      let y = linked.0 in
      let at = linked.3 in
      let same : y.node ≡ k = sym (ap (λ o. unwrap_or o y.node) (link_is (Some k) has)) in
      let number = (i - 1) * rungs_of g.film + y.rung in
      let inside = subst (StandsIn a number) (at.4 ∙ same) (in_ids (chain_at a number).nodes at.1 at.2) in
      ((y.rung, at.0, inside), (number, inside))

  -- a label has a link
  pub link_some : HasLink a x.node None → ⊥
  link_some has = let clash = link_is None has in cc

  -- the label with its rung is the parent
  pub link_parent : (k : NodeId) (q : ℕ) (label : Label) → HasLink a x.node (Some k) → IsSound a → q < rungs_of g.film → StandsIn a ((i - 1) * rungs_of g.film + q) k → HasLabel a k label
      → ((q, label) ≡ parent_of d g (grown d g) (i - 1) (pair_of x)) × (let z : Reached = record { rung = q; label = label; node = k } in StandsAt g a (i - 1) z)
  link_parent k q label has sound rung inside held =
      let y = linked.0 in
      let at = linked.3 in
      let same : y.node ≡ k = sym (ap (λ o. unwrap_or o y.node) (link_is (Some k) has)) in
      let number = (i - 1) * rungs_of g.film + y.rung in
      let own = subst (StandsIn a number) (at.4 ∙ same) (in_ids (chain_at a number).nodes at.1 at.2) in
      let one = sound.apart ((i - 1) * rungs_of g.film + q) number k inside own in
      let rungs : q ≡ y.rung = omega (arith, one) in
      let labels : label ≡ y.label = held number at.1 at.2 (at.4 ∙ same) ∙ at.3 in
      let z : Reached = record { rung = q; label = label; node = k } in
      let all : y ≡ z = ap (λ (n : ℕ). let w : Reached = record { rung = n; label = y.label; node = y.node } in w) (sym rungs)
      ∙ ap (λ (l : Label). let w : Reached = record { rung = q; label = l; node = y.node } in w) (sym labels) ∙ ap (λ (n : NodeId). let w : Reached = record { rung = q; label = label; node = n } in w) same in
      (sym (ap pair_of all) ∙ linked.2, subst (StandsAt g a (i - 1)) all at)

-- the rungs up to a label are those up to its parent, and its own
pub rungs_next : (d : Rounding) (g : Task) (i : ℕ) (c b : ℕ × Label) → 1 ≤ i → b ≡ parent_of d g (grown d g) (i - 1) c → rungs_read d g i c ≡ rungs_read d g (i - 1) b ++ c.0 ∷ []
rungs_next d g zero c b some is = absurd (omega (arith, some))
rungs_next d g (suc i) c b some is =
    let e : suc i - 1 ≡ i = omega arith in
    subst (λ n. b ≡ parent_of d g (grown d g) n c → rungs_read d g (suc i) c ≡ rungs_read d g n b ++ c.0 ∷ []) (sym e)
    (λ same. back_next d g (grown d g) i c ∙ ap (λ x. rungs_read d g i x ++ c.0 ∷ []) (sym same)) is

-- ---- the labels along a list

-- they can be followed
pub list_follows : (g : Task) → IsTask g → (rungs : List ℕ) → AreRungs g (segments_of g.film) rungs → (i : ℕ) → i < segments_of g.film → CanFollow (label_at g rungs i)
list_follows g is rungs fits i low = let few = is.film.segments.1 in reach_follows i (label_at g rungs i) (omega (arith, few, low)) (label_reach g is rungs fits i low)

-- the next is the successor of the one before
pub list_next : (g : Task) (rungs : List ℕ) (i : ℕ) → 1 ≤ i → label_at g rungs i ≡ next_label g i (slice_index rungs (i - 1)) (label_at g rungs (i - 1)) (slice_index rungs i)
list_next g rungs zero some = absurd (omega (arith, some))
list_next g rungs (suc i) some = let e : suc i - 1 ≡ i = omega arith in label_next g rungs i ∙ ap (λ n. next_label g (suc i) (slice_index rungs n) (label_at g rungs n) (slice_index rungs (suc i))) (sym e)
