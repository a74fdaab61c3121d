use Rattle.std.proofs.Common.{◌++◌, sym, map, subst, inl, refl}
use Rattle.zone_set.specs.Zone.{Has}
use Rattle.zone_rdata.specs.Lent.{record_of}
use Rattle.zone_digest.proofs.Sets.{all_short, as_octets, lower_as, sorted_lowered, stay_lowered}
use Rattle.zone_digest.proofs.emit.add_set.Goals as goal

pub returns-then-all_stay : goal.returns-then-all_stay
returns-then-all_stay g c = (map record_of c.args.set.now, stay_lowered (map record_of c.args.set.now) c.requires.ascend (c.all_stay.ensures c.if-all_stay.true), c.add_all.ensures)

pub add_lowered-requires : goal.add_lowered-requires
add_lowered-requires g c = all_short (map record_of c.args.set.now) c.in_ok-lowered.lowered.keys c.requires.each c.in_ok-lowered.ensures

pub returns : goal.returns
returns g c = (
  map (λ v. lower_as (record_of c.in-Some.first.now) v.items) c.in_ok-lowered.lowered.keys,
  sorted_lowered (record_of c.in-Some.first.now) (map record_of c.args.set.now) c.in_ok-lowered.lowered.keys (subst (λ rs. Has (map record_of rs) (record_of c.in-Some.first.now)) (sym c.in-Some.ensures.cases.0) (inl refl)) c.requires.alike c.len.ensures.ordered c.in_ok-lowered.ensures,
  λ m held. subst (λ o. g.D.Digest.holds c.add_lowered.new.hasher (m ++ o)) (sym (as_octets (record_of c.in-Some.first.now) c.in_ok-lowered.lowered.keys)) (c.add_lowered.ensures m held),
)
