-- Names and chains as they are read off layers.
use Rattle.std.proofs.Common.{◌≡◌, ◌∙◌, ℕ, suc, ◌+◌, ◌<◌, ◌≤◌, List, [], ◌∷◌, ◌++◌, length, get_or, take, sym, ap, subst, arith, add-one, lt-ltb}
use Rattle.std.specs.Prelude.{Vec, nat_lt, vec_len}
use Rattle.std.specs.Global.{Global}
use Rattle.std.specs.List.{Contains, flat_map}
use Rattle.std.proofs.lemmas.Bool.{cond-true, cond-false, le-ltb}
use Rattle.std.proofs.lemmas.Grind.{flat_map-append}
use Rattle.std.proofs.lemmas.List.{append-nil, length-map, take_more}
use Rattle.std.proofs.lemmas.List.Elements.{Contains-get_or}
use Rattle.std.proofs.lemmas.List.FromFn.{length-map-range_with_len}
use Rattle.lab_model.specs.declared.label.Label.{Label}
use Rattle.lab_model.specs.Film.{rungs_of, segments_of}
use Rattle.labels.specs.Grid.{Rounding}
use Rattle.frontier_planner.specs.declared.frontiers.Layer.{Layer}
use Rattle.labels.specs.Grown.{grown, grown_labels}
use Rattle.player_core.specs.Scene.{Task}
use Rattle.labels.specs.Labels.{next_label, start_label}
use Rattle.frontier_planner.specs.Layers.{HoldPlan, chain_read, names_read}
use Rattle.labels.specs.Read.{names_of, names_of_label, place_above}
use Rattle.labels.proofs.Counted.{chain_within}
use Rattle.frontier_planner.proofs.Layers.{held_at}
use Rattle.labels.proofs.Walks.{in_by_rung}

-- ---- lists that grow by one

module _ {Y : Type 0} where
  -- the lists of one label more
  pub label_pushed : (f : Label → List Y) (xs ys : List Label) (i : ℕ) (e : Label) (so more : List Y) → ys ≡ xs → i < length ys → so ≡ flat_map f (take i xs) → more ≡ so ++ f (get_or ys i e) → more ≡ flat_map f (take (i + 1) xs)
  label_pushed f xs ys i e so more same low old new =
      let long = ap length same in
      new ∙ ap (λ zs. zs ++ f (get_or ys i e)) old ∙ ap (λ zs. flat_map f (take i xs) ++ f (get_or zs i e)) same
      ∙ ap (λ zs. flat_map f (take i xs) ++ zs) (sym (append-nil (f (get_or xs i e)))) ∙ sym (flat_map-append f (take i xs) (get_or xs i e ∷ []))
      ∙ ap (flat_map f) (sym (take_more xs i e (omega (arith, long, low))))

-- ---- the chains of the layers

module _ (d : Rounding) (g : Task) (layers : List Layer) (h : HoldPlan d g layers) where
  inside : (i : ℕ) → i < segments_of g.film → i < length layers
  inside i low = let count = h.count in omega (arith, count, low)

  -- a layer has a chain for each rung
  pub chains_count : (i : ℕ) (x : Layer) → i < segments_of g.film → length (get_or layers i x).chains.items ≡ rungs_of g.film
  chains_count i x low =
      let l = get_or layers i x in
      let two = ap length (h.holds i x (inside i low)).chains in
      sym (length-map l.chains.items (λ (v : Vec Label Global). v.items)) ∙ two ∙ length-map-range_with_len (grown d g i) 0 (rungs_of g.film)

  -- which is its coarse frontier
  pub chain_held : (i q : ℕ) (x : Layer) (v : Vec Label Global) → i < segments_of g.film → q < rungs_of g.film → (get_or (get_or layers i x).chains.items q v).items ≡ grown d g i q
  chain_held i q x v low rung = held_at (get_or layers i x).chains.items (grown d g i) (rungs_of g.film) q v (h.holds i x (inside i low)).chains rung

  -- a rung is a place among its chains
  pub rung_inside : (i q : ℕ) (x : Layer) → i < segments_of g.film → q < rungs_of g.film → q < vec_len (get_or layers i x).chains
  rung_inside i q x low rung =
      let count = chains_count i x low in
      let ok = (get_or layers i x).chains.ok.0 in
      omega (arith, count, ok, rung)

  -- what stands there is the chain
  pub chain_is : (i q : ℕ) (x : Layer) (v : Vec Label Global) → i < segments_of g.film → q < rungs_of g.film → v ≡ get_or (get_or layers i x).chains.items q v → v.items ≡ grown d g i q
  chain_is i q x v low rung read = ap (λ (w : Vec Label Global). w.items) read ∙ chain_held i q x v low rung

  -- and has few labels
  pub chain_few : (i q : ℕ) → i < segments_of g.film → q < rungs_of g.film → length (grown d g i q) ≤ 1000000
  chain_few i q low rung = let most = h.few in let within = chain_within g (grown d g) i q low rung in omega (arith, most, within)

-- a label of a chain stands among the segment's
pub label_there : (d : Rounding) (g : Task) (i q k : ℕ) (e : Label) (chain : List Label) → chain ≡ grown d g i q → q < rungs_of g.film → k < length chain → Contains (grown_labels d g i) (q, get_or chain k e)
label_there d g i q k e chain is rung low =
    in_by_rung (rungs_of g.film) (grown d g i) q (get_or chain k e) rung (subst (λ ls. Contains ls (get_or chain k e)) is (Contains-get_or chain k e low))

-- ---- a chain with its names

-- of a segment that has a next one
pub named_yes : (d : Rounding) (g : Task) (i q : ℕ) (labels : List Label) (names : List ℕ) → i + 1 < segments_of g.film → labels ≡ grown d g i q → names ≡ flat_map (λ l. names_read d g i (q, l)) (grown d g i q)
    → record { labels = labels; names = names } ≡ chain_read d g i q
named_yes d g i q labels names low is are =
    let more = nat_lt (suc i) (segments_of g.film) in
    let made = flat_map (names_of_label g (grown d g) i q) (grown d g i q) in
    let all : names ≡ names_of g (grown d g) i q = are ∙ sym (cond-true more made [] (lt-ltb (suc i) (segments_of g.film) (omega (arith, low)))) in
    ap (λ (ls : List Label). record { labels = ls; names = names }) is ∙ ap (λ (ns : List ℕ). record { labels = grown d g i q; names = ns }) all

-- and of the last one
pub named_no : (d : Rounding) (g : Task) (i q : ℕ) (labels : List Label) (names : List ℕ) → segments_of g.film ≤ i + 1 → labels ≡ grown d g i q → names ≡ [] → record { labels = labels; names = names } ≡ chain_read d g i q
named_no d g i q labels names late is none =
    let more = nat_lt (suc i) (segments_of g.film) in
    let made = flat_map (names_of_label g (grown d g) i q) (grown d g i q) in
    let all : names ≡ names_of g (grown d g) i q = none ∙ sym (cond-false more made [] (le-ltb (suc i) (segments_of g.film) (omega (arith, late)))) in
    ap (λ (ls : List Label). record { labels = ls; names = names }) is ∙ ap (λ (ns : List ℕ). record { labels = grown d g i q; names = ns }) all

-- a name
pub name_one : (d : Rounding) (g : Task) (i r : ℕ) (c : ℕ × Label) (n : ℕ) (chain : List Label) (l : Label) → n ≡ place_above chain l → chain ≡ grown d g (i + 1) r → l ≡ next_label g (i + 1) c.0 c.1 r
    → n ≡ place_above (grown d g (suc i) r) (next_label g (suc i) c.0 c.1 r)
name_one d g i r c n chain l is same next =
    is ∙ ap (λ ls. place_above ls l) same ∙ ap (place_above (grown d g (i + 1) r)) next ∙ ap (λ k. place_above (grown d g k r) (next_label g k c.0 c.1 r)) (add-one i)

-- a start
pub start_one : (d : Rounding) (g : Task) (q n : ℕ) (chain : List Label) (l : Label) → n ≡ place_above chain l → chain ≡ grown d g 0 q → l ≡ start_label g q → n ≡ place_above (grown d g 0 q) (start_label g q)
start_one d g q n chain l is same start = is ∙ ap (λ ls. place_above ls l) same ∙ ap (place_above (grown d g 0 q)) start
