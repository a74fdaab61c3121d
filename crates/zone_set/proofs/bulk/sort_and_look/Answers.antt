use Rattle.zone_set.proofs.Common.{IsPermutation, IsPermutation-trans, drop, length, length_permutation, subst, sym, take_at, ◌∙◌}
use Rattle.zone_set.proofs.bulk.sort_and_look.Goals as goal

pub returns-clause-moved : goal.returns-clause-moved
returns-clause-moved g c =
    let sorted = IsPermutation-trans _ _ _ c.put_runs.ensures.moved c.sort_all.ensures in
    let all = subst (λ es. IsPermutation es c.sort_all.new.entries) c.as_mut_slice-entries.ensures.value sorted in
    let len = length_permutation _ _ sorted ∙ c.as_mut_slice-entries.ensures.len in
    subst (IsPermutation c.args.entries.now.items) (sym (take_at c.sort_all.new.entries (drop (length c.sort_all.new.entries) c.args.entries.now.items) c.args.entries.now.len len)) all
