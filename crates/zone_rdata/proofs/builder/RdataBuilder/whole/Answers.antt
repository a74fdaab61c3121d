use Rattle.zone_rdata.proofs.Common.{AreOctets, subst, arith}
use Rattle.zone_rdata.proofs.Octets.Building.{finish_made, parts_data}
use Rattle.zone_rdata.proofs.builder.RdataBuilder.whole.Goals as goal

pub of_octets-requires : goal.of_octets-requires
of_octets-requires c = rw c.deref-2.ensures.value (parts_data c.self.inside.class c.self.inside.kind _ c.self.inside.count c.self.inside.octets.items c.self.invariant (grind arith) (subst AreOctets c.deref.ensures.value c.are_octets.ensures.each))

pub returns-clause-whole : goal.returns-clause-whole
returns-clause-whole c = (finish_made c.self.inside.class c.self.inside.kind _ c.self.inside.count c.self.inside.octets.items _ _ c.self.view_is c.self.invariant (grind arith) (rw c.deref-2.ensures.value at c.of_octets.ensures)).0
