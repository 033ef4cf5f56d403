-- A set of texts, seen by what they say.
use Rattle.std.proofs.Common.{◌≡◌, ◌∙◌, ◌+◌, ◌<◌, ℕ, List, [], ◌∷◌, ◌++◌, Bool, true, false, Bor, map, take, length, get_or, refl, sym, ap, cond}
use Rattle.std.specs.List.{list_any}
use Rattle.std.specs.Str.{bytes_eq}
use Rattle.std.proofs.lemmas.List.{map-append, take_more}
use Rattle.std.proofs.lemmas.Grind.{fold-append}
use Rattle.indexmap.specs.IndexSet.{insert_key}
use Rattle.lab_words.specs.Compare.{distinct}
use Rattle.lab_words.specs.Spelling.{Text}

abbrev says : List (Bor Text) → List Text
says = map (λ t. t.now)

abbrev same : Bor Text → Bor Text → Bool
same a b = bytes_eq a.now b.now

any_says : (k : Text) (ks : List (Bor Text)) → list_any (λ b. bytes_eq k b.now) ks ≡ list_any (bytes_eq k) (says ks)
any_says k [] = refl
any_says k (x ∷ xs) = let e = any_says k xs in rw e refl

insert_says : (ks : List (Bor Text)) (k : Bor Text) → says (insert_key same ks k) ≡ insert_key bytes_eq (says ks) k.now
insert_says ks k = rw (← any_says k.now ks) (go (list_any (λ b. bytes_eq k.now b.now) ks))
  where
    go : (b : Bool) → says (cond b ks (ks ++ k ∷ [])) ≡ cond b (says ks) (says ks ++ k.now ∷ [])
    go true = refl
    go false = map-append (λ (t : Bor Text). t.now) ks (k ∷ [])

-- one more text was put in
pub distinct_more : (old new ts : List (Bor Text)) (i : ℕ) (d : Bor Text) → i < length ts → new ≡ insert_key same old (get_or ts i d)
    → says old ≡ distinct (says (take i ts)) → says new ≡ distinct (says (take (i + 1) ts))
distinct_more old new ts i d lt e h =
    let k = get_or ts i d in
    ap says e ∙ insert_says old k ∙ ap (λ (ks : List Text). insert_key bytes_eq ks k.now) h
    ∙ sym (ap (λ (xs : List (Bor Text)). distinct (says xs)) (take_more ts i d lt) ∙ ap distinct (map-append (λ (t : Bor Text). t.now) (take i ts) (k ∷ []))
    ∙ fold-append (insert_key bytes_eq) [] (says (take i ts)) (k.now ∷ []))
