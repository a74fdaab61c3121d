use Rattle.zone_name.proofs.Common.{arith, ◌<◌}
use Rattle.zone_name.proofs.InOctets.Pushing.{AllByRecursion-from_places, Joined, label_joined, left_out}
use Rattle.zone_name.proofs.reading.append_label.Goals as goal

joined : (c : goal.After-loop-octet) → Joined c.args.letters c.args.octets.now.items c.args.label.now c.loop-octet.octets.items
joined c =
    let label = c.args.label.now in
    label_joined c.args.letters c.args.octets.now.items label c.push.new.self.items c.loop-octet.octets.items c.loop-octet.octet-index c.requires.holds c.requires.some c.requires.short
    (AllByRecursion-from_places (λ x. x < 256) label (λ k h. let f = c.type_inv.label k in omega arith)) (omega arith) c.push.ensures.items c.loop-octet.invariant c.loop-octet-test.false

pub returns : goal.returns
returns c = let j = joined c in record { holds = j.holds; joins = j.joins }

pub returns-then-remaining_capacity-label-clause-joins : goal.returns-then-remaining_capacity-label-clause-joins
returns-then-remaining_capacity-label-clause-joins c = left_out c.args.letters c.args.octets.now.items c.args.label.now c.requires.holds (omega arith)
