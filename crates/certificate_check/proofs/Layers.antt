-- The chains of a layer as the code reads them.
use Rattle.std.proofs.Common.{◌≡◌, ◌∙◌, ℕ, ◌<◌, ◌≤◌, List, length, get_or, sym, ap, subst}
use Rattle.std.proofs.lemmas.List.{get_or-map}
use Rattle.labels.specs.declared.plans.Chain.{Chain}
use Rattle.labels.specs.Parts.{chain_parts}
use Rattle.labels.specs.Valid.{no_chain}
use Rattle.labels.specs.Form.{IsChain}
use Rattle.certificate_check.specs.Clauses.{count_of, chains_by_rung}
use Rattle.certificate_check.specs.Layers.{IsLayer}

-- the chain at a place, whatever stands for none
pub layer_at : (chains : List Chain) (q : ℕ) (d : Chain) → q < length chains → chains_by_rung chains q ≡ chain_parts (get_or chains q d)
layer_at chains q d low = get_or-map chain_parts chains q d no_chain low

-- the chain that was read there
pub layer_read : (chains : List Chain) (q : ℕ) (x : Chain) → q < length chains → x ≡ get_or chains q x → chain_parts x ≡ chains_by_rung chains q
layer_read chains q x low is = ap chain_parts is ∙ sym (layer_at chains q x low)

-- its number of labels
pub count_read : (chains : List Chain) (q n : ℕ) (x : Chain) → q < length chains → n ≡ count_of (chain_parts (get_or chains q x)) → n ≡ count_of (chains_by_rung chains q)
count_read chains q n x low is = is ∙ ap count_of (sym (layer_at chains q x low))

-- its form
pub chain_read : (per : ℕ) (chains : List Chain) (q : ℕ) (x : Chain) → IsLayer per chains → q < length chains → x ≡ get_or chains q x → IsChain per (chain_parts x)
chain_read per chains q x form low is = subst (IsChain per) (sym (layer_read chains q x low is)) (form.chain q low)

-- its number of labels is within the most
pub few_read : (per : ℕ) (chains : List Chain) (q : ℕ) (x : Chain) → IsLayer per chains → q < length chains → x ≡ get_or chains q x → length x.labels.items ≤ 1000000
few_read per chains q x form low is = subst (λ c. count_of c ≤ 1000000) (sym (layer_read chains q x low is)) (form.count q low)
