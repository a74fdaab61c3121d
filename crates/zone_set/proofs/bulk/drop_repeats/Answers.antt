use Rattle.std.proofs.Common.{rules}
use Rattle.std.proofs.lemmas.Fn.{dedup_same}
use Rattle.zone_set.proofs.bulk.drop_repeats.Goals as goal

pub returns : goal.returns
returns c = dedup_same _ _ _ (λ x y b f' x' y' k. search rules) _ _ c.dedup_by.ensures.filtered
