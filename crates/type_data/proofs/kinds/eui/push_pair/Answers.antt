use Rattle.type_data.proofs.Common.{Ok, ap}
use Rattle.type_data.proofs.OfKinds.Eui.Pairs.{pair_pushed}
use Rattle.type_data.proofs.kinds.eui.push_pair.Goals as goal

pub returns-clause-states : goal.returns-clause-states
returns-clause-states c = pair_pushed c.args.text.now c.args.out.now.items c.push_octets_of_hex.new.out.items c.if-text-ne2.false (c.in_ok-push_octets_of_hex.ensures.yes (ap Ok c.if-not-branch.false))
