-- What the verdict on a certificate by prices proves.
use Rattle.std.proofs.Common.{◌≡◌, ◌∙◌, ℕ, suc, ◌+◌, ◌≤◌, ◌<◌, List, [], ◌∷◌, length, drop, get_or, Bool, true, false, cond, not, ◌&&◌, refl, sym, ap, subst, arith, add-one}
use Rattle.std.specs.Prelude.{◌↔◌, IsTrue, Option, Some, None, ℤ, ◌<ℤ◌, ◌≤ℤ◌, int_le, nat_le, nat_lt, if◌then◌else◌, ◌==◌}
use Rattle.std.specs.List.{All}
use Rattle.std.specs.Option.{is_some}
use Rattle.std.proofs.Math.Seq.{drop-cons}
use Rattle.std.proofs.lemmas.Bool.{and_from, and_parts, cond-false, cond-true, cond_both, eq-eqb, eqb-true, le-ltb, leb-true, lt-ltb, ltb-true}
use Rattle.std.proofs.lemmas.Int.{by_lt_z, ints}
use Rattle.std.proofs.Math.Bool.{and-false}
use Rattle.std.proofs.lemmas.List.{drop_all}
use Rattle.std.proofs.lemmas.List.Elements.{All-cons, All-head, All-nil, All-tail}
use Rattle.lab_model.proofs.Orders.{≤ℤ_trans}
use Rattle.lab_model.specs.Film.{rungs_of, segments_of}
use Rattle.player_core.specs.Scene.{IsTask, Task}
use Rattle.labels.specs.Best.{Settles, task_value}
use Rattle.labels.specs.Labels.{AreRungs}
use Rattle.price_bounds.specs.declared.verdict.PriceVerdict.{PriceVerdict}
use Rattle.price_bounds.specs.declared.verdict.PriceVerdict.TheVariants.{BadRung, BadWindow, BoundAbove, OtherFilm, OtherScore, Yes}
use Rattle.price_bounds.specs.declared.window.Window.{Window}
use Rattle.price_bounds.specs.Bound.{bound_of}
use Rattle.price_bounds.specs.Verdict.{AreInOrder, IsValid, PriceParts, bad_rung, bad_window, bound_verdict, comes_after, is_of_film, is_window, of_place, range_verdict, score_verdict, verdict_of}
use Rattle.price_bounds.specs.Windows.{AreWindows, CanBound, IsWindow, most_price, most_windows}
use Rattle.price_bounds.proofs.Law.{no_list_passes}

-- ---- numbers

le_true : (a b : ℤ) → int_le a b ≡ true → a ≤ℤ b
le_true a b h = grind (arith, ints)

le_yes : (a b : ℤ) → a ≤ℤ b → int_le a b ≡ true
le_yes a b h = grind (arith, ints)

z_both : (a b : ℤ) → a ≤ℤ b → b ≤ℤ a → a ≡ b
z_both a b h k = omega (arith, ints)

z_itself : (a b : ℤ) → a ≡ b → a ≤ℤ b
z_itself a b e = omega (arith, ints, e)

-- equal numbers pass both tests
both_ways : (a b : ℤ) → a ≡ b → (int_le a b && int_le b a) ≡ true
both_ways a b e = and_from (int_le a b) (int_le b a) (le_yes a b (z_itself a b e)) (le_yes b a (z_itself b a (sym e)))

-- ---- rungs

-- a rung of the film is passed
pub rung_passed : (rungs segment q : ℕ) (qs : List ℕ) → q < rungs → bad_rung rungs segment (q ∷ qs) ≡ bad_rung rungs (segment + 1) qs
rung_passed rungs segment q qs low = cond-true (nat_lt q rungs) (bad_rung rungs (segment + 1) qs) (Some segment) (lt-ltb q rungs low)

-- and another is found
pub rung_bad : (rungs segment q : ℕ) (qs : List ℕ) → rungs ≤ q → bad_rung rungs segment (q ∷ qs) ≡ Some segment
rung_bad rungs segment q qs high = cond-false (nat_lt q rungs) (bad_rung rungs (segment + 1) qs) (Some segment) (le-ltb q rungs high)

module _ (rungs k : ℕ) (plan : List ℕ) where
  -- the same along a list from a place on
  pub rung_more : k < length plan → get_or plan k 0 < rungs → bad_rung rungs k (drop k plan) ≡ bad_rung rungs (k + 1) (drop (k + 1) plan)
  rung_more inside low =
      ap (bad_rung rungs k) (drop-cons plan k 0 inside) ∙ rung_passed rungs k (get_or plan k 0) (drop (suc k) plan) low ∙ ap (λ n. bad_rung rungs (k + 1) (drop n plan)) (sym (add-one k))

  pub rung_stop : k < length plan → rungs ≤ get_or plan k 0 → bad_rung rungs k (drop k plan) ≡ Some k
  rung_stop inside high = ap (bad_rung rungs k) (drop-cons plan k 0 inside) ∙ rung_bad rungs k (get_or plan k 0) (drop (suc k) plan) high

  pub rung_end : length plan ≤ k → bad_rung rungs k (drop k plan) ≡ None
  rung_end past = ap (bad_rung rungs k) (drop_all k plan past)

-- where none is found, all are the film's
pub rungs_fit : (rungs segment : ℕ) (qs : List ℕ) → bad_rung rungs segment qs ≡ None → All (λ q. q < rungs) qs
rungs_fit rungs segment [] h = All-nil (λ q. q < rungs)
rungs_fit rungs segment (q ∷ qs) found =
    cond_both (nat_lt q rungs) (bad_rung rungs (segment + 1) qs) (Some segment) (λ o. o ≡ None → All (λ r. r < rungs) (q ∷ qs))
    (λ passes h. All-cons (λ r. r < rungs) q qs (ltb-true q rungs passes) (rungs_fit rungs (segment + 1) qs h))
    (λ fails h. absurd (cc h)) found

-- and where all are, none is found
pub rungs_none : (rungs segment : ℕ) (qs : List ℕ) → All (λ q. q < rungs) qs → bad_rung rungs segment qs ≡ None
rungs_none rungs segment [] h = refl
rungs_none rungs segment (q ∷ qs) h = rung_passed rungs segment q qs (All-head (λ r. r < rungs) q qs h) ∙ rungs_none rungs (segment + 1) qs (All-tail (λ r. r < rungs) q qs h)

-- ---- windows

-- a window that passes the test is within the limits
pub window_fits : (segments : ℕ) (w : Window) → is_window segments w ≡ true → IsWindow segments w
window_fits segments w h =
    let a = and_parts (nat_le 1 w.first) (nat_le w.first w.last && (nat_lt w.last segments && (nat_le 1 w.price && nat_le w.price most_price))) h in
    let b = and_parts (nat_le w.first w.last) (nat_lt w.last segments && (nat_le 1 w.price && nat_le w.price most_price)) a.1 in
    let c = and_parts (nat_lt w.last segments) (nat_le 1 w.price && nat_le w.price most_price) b.1 in
    let d = and_parts (nat_le 1 w.price) (nat_le w.price most_price) c.1 in
    record { begins = leb-true _ _ a.0; order = leb-true _ _ b.0; inside = ltb-true _ _ c.0; price = (leb-true _ _ d.0, leb-true _ _ d.1) }

-- behind the last window none is found
pub window_end : (segments first last k : ℕ) (ws : List Window) → length ws ≤ k → bad_window segments first last k (drop k ws) ≡ None
window_end segments first last k ws past = ap (bad_window segments first last k) (drop_all k ws past)

-- where none is found, all are in range
pub windows_fit : (segments first last number : ℕ) (ws : List Window) → bad_window segments first last number ws ≡ None → AreWindows segments ws
windows_fit segments first last number [] h = All-nil (IsWindow segments)
windows_fit segments first last number (w ∷ ws) found =
    cond_both (is_window segments w && comes_after first last w) (bad_window segments w.first w.last (number + 1) ws) (Some number) (λ o. o ≡ None → AreWindows segments (w ∷ ws))
    (λ passes h. All-cons (IsWindow segments) w ws (window_fits segments w (and_parts (is_window segments w) (comes_after first last w) passes).0) (windows_fit segments w.first w.last (number + 1) ws h))
    (λ fails h. absurd (cc h)) found

-- windows that are not too many are in order exactly where none is found
pub order_is : (segments : ℕ) (ws : List Window) → length ws ≤ most_windows → (bad_window segments 0 0 0 ws ≡ None) ↔ AreInOrder segments ws
order_is segments ws few = (λ none. record { range = record { windows = windows_fit segments 0 0 0 ws none; few = few }; order = none }, λ h. h.order)

-- the test for it
pub order_test : (segments : ℕ) (ws : List Window) (found : Option ℕ) (b : Bool) → length ws ≤ most_windows → found ≡ bad_window segments 0 0 0 ws → is_some found ≡ not b → IsTrue b ↔ AreInOrder segments ws
order_test segments ws None true few e h = (λ t. (order_is segments ws few).0 (sym e), λ order. refl)
order_test segments ws None false few e h = absurd (cc h)
order_test segments ws (Some k) true few e h = absurd (cc h)
order_test segments ws (Some k) false few e h = (λ t. absurd (cc t), λ order. absurd (cc (e, order.order)))

-- ---- the verdict

-- a yes is said of the rest, where no place is bad
of_rest : (says : ℕ → PriceVerdict) (o : Option ℕ) (rest : PriceVerdict) → ((k : ℕ) → says k ≡ Yes → ⊥) → of_place says o rest ≡ Yes → (o ≡ None) × (rest ≡ Yes)
of_rest says None rest never h = (refl, h)
of_rest says (Some k) rest never h = absurd (never k h)

module _ (g : Task) (c : PriceParts) where
  -- P4: the value is the score
  pub score_is : (value : ℤ) → value ≡ task_value g c.plan → value ≡ c.score → Yes ≡ score_verdict g c
  score_is value is same =
      let own = task_value g c.plan in
      sym (cond-true (int_le own c.score && int_le c.score own) Yes (OtherScore own) (both_ways own c.score (sym is ∙ same)))

  -- P3: the bound is at most the certificate's
  pub bound_passed : (bound : ℤ) (rest : PriceVerdict) → bound ≡ bound_of g c.windows → bound ≤ℤ c.bound → rest ≡ score_verdict g c → rest ≡ bound_verdict g c
  bound_passed bound rest is low e =
      let own = bound_of g c.windows in
      e ∙ sym (cond-true (int_le own c.bound) (score_verdict g c) (BoundAbove own) (le_yes own c.bound (subst (λ b. b ≤ℤ c.bound) is low)))

  -- P1: the counts aren't the film's
  pub other_film : is_of_film g c ≡ false → OtherFilm ≡ verdict_of g c
  unfolding verdict_of
  other_film h = sym (cond-false (is_of_film g c) (range_verdict g c) OtherFilm h)

  film_passed : is_of_film g c ≡ true → range_verdict g c ≡ verdict_of g c
  unfolding verdict_of
  film_passed h = sym (cond-true (is_of_film g c) (range_verdict g c) OtherFilm h)

  -- the counts are then the film's
  same_segments : is_of_film g c ≡ true → c.segments ≡ segments_of g.film
  same_segments h = eqb-true _ _ (and_parts (c.segments == segments_of g.film) (c.rungs == rungs_of g.film) h).0

  same_rungs : is_of_film g c ≡ true → c.rungs ≡ rungs_of g.film
  same_rungs h = eqb-true _ _ (and_parts (c.segments == segments_of g.film) (c.rungs == rungs_of g.film) h).1

  -- P2: a rung isn't the film's
  pub rung_verdict : (k : ℕ) → is_of_film g c ≡ true → Some k ≡ bad_rung c.rungs 0 c.plan → BadRung k ≡ verdict_of g c
  rung_verdict k h found =
      ap (λ o. of_place BadRung o (of_place BadWindow (bad_window (segments_of g.film) 0 0 0 c.windows) (bound_verdict g c))) (found ∙ ap (λ n. bad_rung n 0 c.plan) (same_rungs h))
      ∙ film_passed h

  -- or a window is out of range or order
  pub window_verdict : (k : ℕ) → is_of_film g c ≡ true → None ≡ bad_rung c.rungs 0 c.plan → Some k ≡ bad_window c.segments 0 0 0 c.windows → BadWindow k ≡ verdict_of g c
  window_verdict k h none found =
      ap (λ o. of_place BadWindow o (bound_verdict g c)) (found ∙ ap (λ n. bad_window n 0 0 0 c.windows) (same_segments h))
      ∙ ap (λ o. of_place BadRung o (of_place BadWindow (bad_window (segments_of g.film) 0 0 0 c.windows) (bound_verdict g c))) (none ∙ ap (λ n. bad_rung n 0 c.plan) (same_rungs h))
      ∙ film_passed h

  -- behind P2 the verdict is that of bound and score
  pub range_passed : (rest : PriceVerdict) → is_of_film g c ≡ true → None ≡ bad_rung c.rungs 0 c.plan → None ≡ bad_window c.segments 0 0 0 c.windows → rest ≡ bound_verdict g c → rest ≡ verdict_of g c
  range_passed rest h none all e =
      e ∙ ap (λ o. of_place BadWindow o (bound_verdict g c)) (all ∙ ap (λ n. bad_window n 0 0 0 c.windows) (same_segments h))
      ∙ ap (λ o. of_place BadRung o (of_place BadWindow (bad_window (segments_of g.film) 0 0 0 c.windows) (bound_verdict g c))) (none ∙ ap (λ n. bad_rung n 0 c.plan) (same_rungs h))
      ∙ film_passed h

  -- the list is then a rung list
  pub rungs_passed : is_of_film g c ≡ true → length c.plan ≡ c.segments → None ≡ bad_rung c.rungs 0 c.plan → AreRungs g (segments_of g.film) c.plan
  rungs_passed h long none = (long ∙ same_segments h, subst (λ n. All (λ q. q < n) c.plan) (same_rungs h) (rungs_fit c.rungs 0 c.plan (sym none)))

  -- and the windows are in range
  pub windows_passed : is_of_film g c ≡ true → length c.windows ≤ most_windows → None ≡ bad_window c.segments 0 0 0 c.windows → CanBound (segments_of g.film) c.windows
  windows_passed h few all = record { windows = subst (λ n. AreWindows n c.windows) (same_segments h) (windows_fit c.segments 0 0 0 c.windows (sym all)); few = few }

  score_yes : score_verdict g c ≡ Yes → task_value g c.plan ≡ c.score
  score_yes =
      let value = task_value g c.plan in
      cond_both (int_le value c.score && int_le c.score value) Yes (OtherScore value) (λ v. v ≡ Yes → value ≡ c.score)
      (λ passes h. let both = and_parts (int_le value c.score) (int_le c.score value) passes in z_both value c.score (le_true value c.score both.0) (le_true c.score value both.1))
      (λ fails h. absurd (cc h))

  bound_yes : bound_verdict g c ≡ Yes → (bound_of g c.windows ≤ℤ c.bound) × (task_value g c.plan ≡ c.score)
  bound_yes =
      let bound = bound_of g c.windows in
      cond_both (int_le bound c.bound) (score_verdict g c) (BoundAbove bound) (λ v. v ≡ Yes → (bound ≤ℤ c.bound) × (task_value g c.plan ≡ c.score))
      (λ passes h. (le_true bound c.bound passes, score_yes h))
      (λ fails h. absurd (cc h))

  -- a yes is said only where the claims hold
  pub yes_valid : length c.plan ≡ c.segments → length c.windows ≤ most_windows → verdict_of g c ≡ Yes → IsValid g c
  unfolding verdict_of
  yes_valid long few =
      cond_both (is_of_film g c) (range_verdict g c) OtherFilm (λ v. v ≡ Yes → IsValid g c)
      (λ same h.
      let counts = and_parts (c.segments == segments_of g.film) (c.rungs == rungs_of g.film) same in
      let segments = eqb-true _ _ counts.0 in
      let rungs = of_rest BadRung (bad_rung (rungs_of g.film) 0 c.plan) (of_place BadWindow (bad_window (segments_of g.film) 0 0 0 c.windows) (bound_verdict g c)) (λ k e. cc e) h in
      let windows = of_rest BadWindow (bad_window (segments_of g.film) 0 0 0 c.windows) (bound_verdict g c) (λ k e. cc e) rungs.1 in
      let parts = bound_yes windows.1 in
      record {
        segments = segments;
        rungs = eqb-true _ _ counts.1;
        list = (long ∙ segments, rungs_fit (rungs_of g.film) 0 c.plan rungs.0);
        windows = record { range = record { windows = windows_fit (segments_of g.film) 0 0 0 c.windows windows.0; few = few }; order = windows.0 };
        bound = parts.0;
        score = parts.1;
      })
      (λ fails h. absurd (cc h))

  -- and wherever they hold
  pub valid_yes : IsValid g c → verdict_of g c ≡ Yes
  valid_yes h =
      let film = and_from (c.segments == segments_of g.film) (c.rungs == rungs_of g.film) (eq-eqb _ _ h.segments) (eq-eqb _ _ h.rungs) in
      let score = score_is (task_value g c.plan) refl h.score in
      let bound = bound_passed (bound_of g c.windows) Yes refl h.bound score in
      let rungs = subst (λ n. None ≡ bad_rung n 0 c.plan) (sym h.rungs) (sym (rungs_none (rungs_of g.film) 0 c.plan h.list.1)) in
      let windows = subst (λ n. None ≡ bad_window n 0 0 0 c.windows) (sym h.segments) (sym h.windows.order) in
      sym (range_passed Yes film rungs windows bound)

  -- then the list has the score, and no list has more than the bound
  pub valid_settles : IsTask g → IsValid g c → Settles g c.plan c.score c.bound
  valid_settles is h = record {
    list = h.list;
    value = h.score;
    most = λ others fits. ≤ℤ_trans (task_value g others) (bound_of g c.windows) c.bound (no_list_passes g is c.windows h.windows.range.windows others fits) h.bound;
  }

  -- what is said of a certificate, that is so
  pub said : IsTask g → length c.plan ≡ c.segments → length c.windows ≤ most_windows → (v : PriceVerdict) → v ≡ verdict_of g c → ((v ≡ Yes) ↔ IsValid g c) × (v ≡ Yes → Settles g c.plan c.score c.bound)
  said is long few v e =
      (((λ h. yes_valid long few (sym e ∙ h)), (λ h. e ∙ valid_yes h)), λ h. valid_settles is (yes_valid long few (sym e ∙ h)))
