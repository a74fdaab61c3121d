use Rattle.std.proofs.lemmas.Map.Lookups.{exact_bytes}
use Rattle.zone_rdata.specs.Lent.{record_of}
use Rattle.zone_difference.proofs.Keys.{adds_key}
use Rattle.zone_difference.proofs.folded_sets.keep_key.Goals as goal

pub returns : goal.returns
returns c = adds_key _ (λ a b. exact_bytes a.items b.items) (record_of c.args.rr.now) _ _ c.in_ok-key.key c.in_ok-key.ensures c.in-Ok.ensures.keys
