use Rattle.std.proofs.Common.{arith, ◌∙◌, ◌≡◌, ◌++◌, sym, ap, subst}
use Rattle.std.proofs.lemmas.Map.Lookups.{exact_bytes}
use Rattle.zone_rdata.specs.Lent.{record_of}
use Rattle.zone_digest.proofs.Sets.{one_more, lowered_more, own_form}
use Rattle.data_names.specs.NamesInData.{IsLowered, names_of}
use Rattle.zone_digest.proofs.emit.lowered_set.Goals as goal

pub loop-rr-preserved : goal.loop-rr-preserved
loop-rr-preserved c =
    let item = one_more c.args.set.now c.loop-rr.rr-index c.rr-item.result c.rr-item.is (omega (arith, c.loop-rr-test.true)) in
    let pushed = c.in_ok-push_lowered.ensures in
    let low = own_form (λ k o l. IsLowered (names_of k o) o l) c.rr-item.result c.number.result c.octets.result.now pushed.0 c.number.ensures.value c.octets.ensures pushed.2 in
    let own : pushed.0 ≡ c.push_lowered.new.out.items = sym (pushed.1 ∙ ap (λ x. x ++ pushed.0) c.new-octets.ensures.items) in
    lowered_more _ (λ a b e. exact_bytes a.items b.items e) c.loop-rr.lowered.keys c.push_lowered.new.out c.insert.new.self.keys _ _ (record_of c.rr-item.result) c.in_default.ensures.keys item (subst (IsLowered (names_of c.rr-item.result.kind c.rr-item.result.rdata.octets) c.rr-item.result.rdata.octets) own low) c.loop-rr.invariant
