-- A loop over members or records, and what `each_after` makes of them.
use Rattle.std.proofs.Common.{◌≡◌, ◌∙◌, ◌+◌, ◌<◌, ◌≤◌, ⊎_elim, ℕ, zero, suc, take, List, [], ◌∷◌, ◌++◌, Option, Some, None, Result, Ok, Err, All, drop, get_or, length, map, refl, sym, ap, subst, add-one, drop-cons, arith}
use Rattle.std.proofs.lemmas.Bool.{cases_lt}
use Rattle.std.proofs.lemmas.List.{drop_all}
use Rattle.std.proofs.lemmas.List.Elements.{All-cons, All-nil}
use Rattle.lab_model.specs.Steps.{◌>>=◌, map_ok}
use Rattle.lab_model.proofs.Steps.{then_ok}
use Rattle.reader_faults.specs.Each.{each_after}

seen_from : {V X : Type 0} (seen : V → X) (vs : List V) (i : ℕ) (d : V) → i < length vs → map seen (drop i vs) ≡ seen (get_or vs i d) ∷ map seen (drop (i + 1) vs)
seen_from seen vs i d lt = rw (add-one, drop-cons vs i d) refl

one_then : {X A B E : Type 0} (f : Option A → ℕ → X → Result A E) (k later : List A → B) (x : A) (r : Result (List A) E) (before : Option A) (place : ℕ) (d : X) (ds : List X)
    → f before place d ≡ Ok x → r ≡ each_after f (Some x) (place + 1) ds → ((xs : List A) → later xs ≡ k (x ∷ xs))
    → map_ok later r ≡ map_ok k (each_after f before place (d ∷ ds))
unfolding each_after
one_then f k later x (Ok xs) before place d ds e h same = rw (e, ← h) (ap Ok (same xs))
one_then f k later x (Err y) before place d ds e h same = rw (e, ← h) refl

one_stops : {X A B E : Type 0} (f : Option A → ℕ → X → Result A E) (k : List A → B) (y : E) (before : Option A) (place : ℕ) (d : X) (ds : List X)
    → f before place d ≡ Err y → map_ok k (each_after f before place (d ∷ ds)) ≡ Err y
unfolding each_after
one_stops f k y before place d ds e = rw e refl

-- one more was read
pub each_went : {V X A B E : Type 0} (seen : V → X) (f : Option A → ℕ → X → Result A E) (k later : List A → B) (vs : List V) (i : ℕ) (d v : V) (before : Option A) (place next : ℕ) (x : A)
    → i < length vs → v ≡ get_or vs i d → next ≡ place + 1 → f before place (seen v) ≡ Ok x → ((xs : List A) → later xs ≡ k (x ∷ xs))
    → map_ok later (each_after f (Some x) next (map seen (drop (i + 1) vs))) ≡ map_ok k (each_after f before place (map seen (drop i vs)))
each_went {X = X} seen f k later vs i d v before place next x lt e n h same =
    ap (λ (p : ℕ). map_ok later (each_after f (Some x) p (map seen (drop (i + 1) vs)))) n
    ∙ one_then f k later x _ before place (seen (get_or vs i d)) (map seen (drop (i + 1) vs)) (rw e at h) refl same
    ∙ sym (ap (λ (ds : List X). map_ok k (each_after f before place ds)) (seen_from seen vs i d lt))

-- the next is refused
pub each_stopped : {V X A B E : Type 0} (seen : V → X) (f : Option A → ℕ → X → Result A E) (k : List A → B) (vs : List V) (i : ℕ) (d v : V) (before : Option A) (place : ℕ) (y : E)
    → i < length vs → v ≡ get_or vs i d → f before place (seen v) ≡ Err y
    → map_ok k (each_after f before place (map seen (drop i vs))) ≡ Err y
each_stopped {X = X} seen f k vs i d v before place y lt e h =
    ap (λ (ds : List X). map_ok k (each_after f before place ds)) (seen_from seen vs i d lt)
    ∙ one_stops f k y before place (seen (get_or vs i d)) (map seen (drop (i + 1) vs)) (rw e at h)

-- there is no next one
pub each_ended : {V X A B E : Type 0} (seen : V → X) (f : Option A → ℕ → X → Result A E) (k : List A → B) (vs : List V) (i : ℕ) (before : Option A) (place : ℕ)
    → length vs ≤ i → map_ok k (each_after f before place (map seen (drop i vs))) ≡ Ok (k [])
unfolding each_after
each_ended seen f k vs i before place h = rw (drop_all i vs h) refl

-- a read that doesn't look at the one before answers the same behind any
pub each_any : {X A E : Type 0} (f : ℕ → X → Result A E) (before after : Option A) (place : ℕ) (ds : List X)
    → each_after (λ (_ : Option A). f) before place ds ≡ each_after (λ (_ : Option A). f) after place ds
unfolding each_after
each_any f before after place [] = refl
each_any f before after place (d ∷ ds) = refl

-- one more was read by a read that doesn't look at the one before
pub each_next : {V X A B E : Type 0} (seen : V → X) (f : ℕ → X → Result A E) (k later : List A → B) (vs : List V) (i : ℕ) (d v : V) (place next : ℕ) (x : A)
    → i < length vs → v ≡ get_or vs i d → next ≡ place + 1 → f place (seen v) ≡ Ok x → ((xs : List A) → later xs ≡ k (x ∷ xs))
    → map_ok later (each_after (λ (_ : Option A). f) None next (map seen (drop (i + 1) vs))) ≡ map_ok k (each_after (λ (_ : Option A). f) None place (map seen (drop i vs)))
each_next {A = A} seen f k later vs i d v place next x lt e n h same =
    ap (map_ok later) (each_any f None (Some x) next (map seen (drop (i + 1) vs)))
    ∙ each_went seen (λ (_ : Option A). f) k later vs i d v None place next x lt e n h same

-- where each answer has a property, all of them do
pub each_all : {X A E : Type 0} (P : A → Type 0) (f : Option A → ℕ → X → Result A E) (before : Option A) (place : ℕ) (ds : List X) (xs : List A)
    → ((b : Option A) (p : ℕ) (d : X) (x : A) → f b p d ≡ Ok x → P x) → each_after f before place ds ≡ Ok xs → All P xs
unfolding each_after
each_all P f before place [] xs good h = let e : [] ≡ xs = cc in subst (λ ys. All P ys) e (All-nil P)
each_all P f before place (d ∷ ds) xs good h =
    let one = then_ok (f before place d) (λ x. each_after f (Some x) (place + 1) ds >>= (λ ys. Ok (x ∷ ys))) xs h in
    let rest = then_ok (each_after f (Some one.0) (place + 1) ds) (λ ys. Ok (one.0 ∷ ys)) xs one.2 in
    let e : one.0 ∷ rest.0 ≡ xs = cc in
    subst (λ ys. All P ys) e (All-cons P one.0 rest.0 (good before place d one.0 one.1) (each_all P f (Some one.0) (place + 1) ds rest.0 good rest.1))

-- where no record behind this place is read, there are no more answers
pub each_most : {X A E : Type 0} (f : Option A → ℕ → X → Result A E) (most : ℕ) (before : Option A) (place : ℕ) (ds : List X) (xs : List A)
    → ((b : Option A) (p : ℕ) (d : X) (x : A) → f b p d ≡ Ok x → p ≤ most) → each_after f before place ds ≡ Ok xs → place ≤ most + 1 → length xs + place ≤ most + 1
unfolding each_after
each_most f most before place [] xs good h few = let e : [] ≡ xs = cc in omega (arith, ap length e)
each_most f most before place (d ∷ ds) xs good h few =
    let one = then_ok (f before place d) (λ x. each_after f (Some x) (place + 1) ds >>= (λ ys. Ok (x ∷ ys))) xs h in
    let rest = then_ok (each_after f (Some one.0) (place + 1) ds) (λ ys. Ok (one.0 ∷ ys)) xs one.2 in
    let e : one.0 ∷ rest.0 ≡ xs = cc in
    let here : place ≤ most = good before place d one.0 one.1 in
    let more : length rest.0 + (place + 1) ≤ most + 1 = each_most f most (Some one.0) (place + 1) ds rest.0 good rest.1 (omega arith) in
    omega (arith, ap length e, more)

-- no record behind this place is read
abbrev pub EndsAt : {X A E : Type 0} → ℕ → (Option A → ℕ → X → Result A E) → Type 0
EndsAt {X = X} {A = A} {E = E} most f = (b : Option A) (p : ℕ) (d : X) → most < p → (y : E) × (f b p d ≡ Err y)

-- what is refused alike over some records and over the first of them alone
abbrev pub FailsAlike : {A E : Type 0} → Result (List A) E → Result (List A) E → Type 0
FailsAlike {A = A} {E = E} cut all = (y : E) × (cut ≡ Err y) × (all ≡ Err y)

past_one : {X A E : Type 0} (f : Option A → ℕ → X → Result A E) (n : ℕ) (before : Option A) (place : ℕ) (d : X) (ds : List X) (r : Result A E) → f before place d ≡ r
    → ((x : A) → f before place d ≡ Ok x → FailsAlike (each_after f (Some x) (place + 1) (take n ds)) (each_after f (Some x) (place + 1) ds))
    → FailsAlike (each_after f before place (d ∷ take n ds)) (each_after f before place (d ∷ ds))
unfolding each_after
past_one f n before place d ds (Err y) is later = (y, rw is refl, rw is refl)
past_one f n before place d ds (Ok x) is later = let (y, cut, all) = later x is in (y, rw (is, cut) refl, rw (is, all) refl)

read_within : {X A E : Type 0} (f : Option A → ℕ → X → Result A E) (most : ℕ) → EndsAt most f → (before : Option A) (place : ℕ) (d : X) (x : A) → f before place d ≡ Ok x → place ≤ most
read_within f most past before place d x is =
    ⊎_elim (λ (late : most < place). let (y, bad) = past before place d late in absurd (differ (sym is ∙ bad))) (λ (early : place ≤ most). early) (cases_lt most place)
  where
    differ : {A E : Type 0} {x : A} {y : E} → Ok x ≡ Err y → ⊥
    differ e = absurd cc

-- where no record behind a place is read, those up to the one behind it are refused as all are, if there are so many
pub each_past : {X A E : Type 0} (f : Option A → ℕ → X → Result A E) (most : ℕ) → EndsAt most f → (n : ℕ) (before : Option A) (place : ℕ) (ds : List X)
    → place + n ≡ most + 2 → place ≤ most + 1 → n ≤ length ds → FailsAlike (each_after f before place (take n ds)) (each_after f before place ds)
each_past f most past zero before place ds e few le = absurd (omega arith)
each_past f most past (suc n) before place [] e few le = absurd (omega arith)
each_past f most past (suc n) before place (d ∷ ds) e few le =
    past_one f n before place d ds (f before place d) refl
    (λ x is. let here = read_within f most past before place d x is in each_past f most past n (Some x) (place + 1) ds (omega (arith, e)) (omega (arith, here)) (omega (arith, le)))

-- nothing was read yet
pub each_start : {A E : Type 0} (r : Result (List A) E) → map_ok (λ xs. [] ++ xs) r ≡ r
each_start (Ok xs) = refl
each_start (Err y) = refl

-- there is an answer for each
pub each_count : {X A E : Type 0} (f : Option A → ℕ → X → Result A E) (before : Option A) (place : ℕ) (ds : List X) (xs : List A)
    → each_after f before place ds ≡ Ok xs → length xs ≡ length ds
unfolding each_after
each_count f before place [] xs h = let e : [] ≡ xs = cc in sym (ap length e)
each_count f before place (d ∷ ds) xs h =
    let one = then_ok (f before place d) (λ x. each_after f (Some x) (place + 1) ds >>= (λ ys. Ok (x ∷ ys))) xs h in
    let rest = then_ok (each_after f (Some one.0) (place + 1) ds) (λ ys. Ok (one.0 ∷ ys)) xs one.2 in
    let e : one.0 ∷ rest.0 ≡ xs = cc in
    sym (ap length e) ∙ ap suc (each_count f (Some one.0) (place + 1) ds rest.0 rest.1)

one_read : {X A E : Type 0} (f : ℕ → X → Result A E) (before : Option A) (place : ℕ) (c : X) (ds : List X) (x : A) (xs : List A)
    → f place c ≡ Ok x → each_after (λ (_ : Option A). f) (Some x) (place + 1) ds ≡ Ok xs → each_after (λ (_ : Option A). f) before place (c ∷ ds) ≡ Ok (x ∷ xs)
unfolding each_after
one_read f before place c ds x xs e h = rw (e, h) refl

one_passed : {X A E : Type 0} (f : ℕ → X → Result A E) (before : Option A) (place : ℕ) (c : X) (ds : List X) (x : A) (y : E)
    → f place c ≡ Ok x → each_after (λ (_ : Option A). f) (Some x) (place + 1) ds ≡ Err y → each_after (λ (_ : Option A). f) before place (c ∷ ds) ≡ Err y
unfolding each_after
one_passed f before place c ds x y e h = rw (e, h) refl

one_refused : {X A E : Type 0} (f : ℕ → X → Result A E) (before : Option A) (place : ℕ) (c : X) (ds : List X) (y : E)
    → f place c ≡ Err y → each_after (λ (_ : Option A). f) before place (c ∷ ds) ≡ Err y
unfolding each_after
one_refused f before place c ds y e = rw e refl

none_read : {X A E : Type 0} (f : Option A → ℕ → X → Result A E) (before : Option A) (place : ℕ) → each_after f before place [] ≡ Ok []
unfolding each_after
none_read f before place = refl

-- one more is read behind those that were
pub each_more : {X A E : Type 0} (f : ℕ → X → Result A E) (before : Option A) (place : ℕ) (ds : List X) (xs : List A) (d : X) (x : A)
    → each_after (λ (_ : Option A). f) before place ds ≡ Ok xs → f (place + length ds) d ≡ Ok x → each_after (λ (_ : Option A). f) before place (ds ++ d ∷ []) ≡ Ok (xs ++ x ∷ [])
unfolding each_after
each_more {A = A} f before place [] xs d x h e =
    let none : [] ≡ xs = cc in
    let here : place + 0 ≡ place = omega arith in
    let one : f place d ≡ Ok x = subst (λ p. f p d ≡ Ok x) here e in
    one_read f before place d [] x [] one (none_read (λ (_ : Option A). f) (Some x) (place + 1)) ∙ ap (λ (ys : List A). Ok (ys ++ x ∷ [])) none
each_more {A = A} f before place (c ∷ ds) xs d x h e =
    let one = then_ok (f place c) (λ y. each_after (λ (_ : Option A). f) (Some y) (place + 1) ds >>= (λ ys. Ok (y ∷ ys))) xs h in
    let rest = then_ok (each_after (λ (_ : Option A). f) (Some one.0) (place + 1) ds) (λ ys. Ok (one.0 ∷ ys)) xs one.2 in
    let same : one.0 ∷ rest.0 ≡ xs = cc in
    let next : place + suc (length ds) ≡ place + 1 + length ds = omega arith in
    let later = each_more f (Some one.0) (place + 1) ds rest.0 d x rest.1 (subst (λ p. f p d ≡ Ok x) next e) in
    one_read f before place c (ds ++ d ∷ []) one.0 (rest.0 ++ x ∷ []) one.1 later ∙ ap (λ (ys : List A). Ok (ys ++ x ∷ [])) same

-- the one behind those that were read is refused, and so are they with it, whatever follows
pub each_fails : {X A E : Type 0} (f : ℕ → X → Result A E) (before : Option A) (place : ℕ) (ds : List X) (xs : List A) (d : X) (later : List X) (y : E)
    → each_after (λ (_ : Option A). f) before place ds ≡ Ok xs → f (place + length ds) d ≡ Err y → each_after (λ (_ : Option A). f) before place (ds ++ d ∷ later) ≡ Err y
unfolding each_after
each_fails {A = A} f before place [] xs d later y h e =
    let here : place + 0 ≡ place = omega arith in
    one_refused f before place d later y (subst (λ p. f p d ≡ Err y) here e)
each_fails {A = A} f before place (c ∷ ds) xs d later y h e =
    let one = then_ok (f place c) (λ z. each_after (λ (_ : Option A). f) (Some z) (place + 1) ds >>= (λ zs. Ok (z ∷ zs))) xs h in
    let rest = then_ok (each_after (λ (_ : Option A). f) (Some one.0) (place + 1) ds) (λ zs. Ok (one.0 ∷ zs)) xs one.2 in
    let next : place + suc (length ds) ≡ place + 1 + length ds = omega arith in
    let stops = each_fails f (Some one.0) (place + 1) ds rest.0 d later y rest.1 (subst (λ p. f p d ≡ Err y) next e) in
    one_passed f before place c (ds ++ d ∷ later) one.0 y one.1 stops
