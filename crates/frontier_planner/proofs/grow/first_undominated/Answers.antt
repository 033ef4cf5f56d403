use Rattle.std.proofs.Common.{◌≡◌, ◌∙◌, ◌++◌, ℕ, List, drop, length, take, ap, sym, subst}
use Rattle.std.proofs.Math.Seq.{take-append_seam}
use Rattle.std.specs.List.Sorted.{IsPermutation, IsSortedBy}
use Rattle.std.specs.Ordering.{is_lt}
use Rattle.std.proofs.lemmas.List.Sorted.{length_permutation}
use Rattle.std.proofs.lemmas.Result.{IfOk-weaker}
use Rattle.frontier_planner.specs.declared.grow.Candidate.{Candidate}
use Rattle.frontier_planner.specs.Parents.{AreFirst, candidate_cmp}
use Rattle.frontier_planner.proofs.FirstParents.{first_moved}
use Rattle.frontier_planner.proofs.grow.first_undominated.Goals as goal

-- what is written over all of a vector is what stands there
written : (old now new : List Candidate) (len : ℕ) → length now ≡ len → IsPermutation now new → take len (new ++ drop (length new) old) ≡ new
written old now new len long same = ap (λ n. take n (new ++ drop (length new) old)) (sym (length_permutation now new same ∙ long)) ∙ take-append_seam new (drop (length new) old)

pub sweep-requires : goal.sweep-requires
sweep-requires c =
    subst (λ xs. IsSortedBy (λ a b. is_lt (candidate_cmp a b)) xs)
    (sym (c.deref.ensures.value ∙ written c.args.candidates.items _ c.put_in_order.new.candidates c.args.candidates.len c.deref_mut.ensures.len c.put_in_order.ensures.same))
    c.put_in_order.ensures.sorted

pub returns : goal.returns
returns c =
    let same = c.deref.ensures.value ∙ written c.args.candidates.items _ c.put_in_order.new.candidates c.args.candidates.len c.deref_mut.ensures.len c.put_in_order.ensures.same in
    IfOk-weaker c.sweep.result (λ v. AreFirst c.deref.result.now v.items) (λ v. AreFirst c.args.candidates.items v.items)
    (λ v h. first_moved _ _ v.items (subst (λ xs. IsPermutation xs c.put_in_order.new.candidates) c.deref_mut.ensures.value c.put_in_order.ensures.same) (subst (λ xs. AreFirst xs v.items) same h)) c.sweep.ensures
