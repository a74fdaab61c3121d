use Rattle.zone_rdata.proofs.Common.{value_of}
use Rattle.zone_rdata.proofs.Octets.Building.{push_built, push_made}
use Rattle.zone_rdata.proofs.builder.RdataBuilder.push.Goals as goal

pub invariant_of-self-2 : goal.invariant_of-self-2
invariant_of-self-2 c = push_built c.self.inside.class c.self.inside.kind _ c.self.inside.count c.self.inside.octets.items _ (value_of c.args.part) c.self.invariant (c.is_next.ensures.0 c.if-not-is_next.false) c.in_ok-append.ensures.real c.in_ok-append.ensures.ok

pub returns-clause-ok : goal.returns-clause-ok
returns-clause-ok c = push_made c.self.inside.class c.self.inside.kind _ c.self.inside.count c.self.inside.octets.items _ _ (value_of c.args.part) c.self.view_is c.self.invariant (c.is_next.ensures.0 c.if-not-is_next.false) c.in_ok-append.ensures.real c.in_ok-append.ensures.ok
