use Rattle.std.proofs.Common.{refl, map, ◌++◌, arith}
use Rattle.zone_name.specs.Name.{folded_octet}
use Rattle.data_names.proofs.Walks.{joined, lowered_names}
use Rattle.data_names.proofs.lowering.push_lowered.Goals as goal

pub returns : goal.returns
returns c =
    let f = c.in-Some.ensures.found in (
      c.in-Some.front.now ++ (map folded_octet c.in-Some.names.now ++ c.in-Some.rest.now),
      joined c.args.out.now.items _ _ _ c.in-Some.front.now (map folded_octet c.in-Some.names.now) c.in-Some.rest.now c.in_ok-extend_from_slice-2.ensures.items c.in_ok-push_low.ensures (grind (arith, c.extend_from_slice-3.ensures)),
      lowered_names _ c.args.octets.now c.in-Some.front.now c.in-Some.names.now c.in-Some.rest.now _ f.0 f.1 f.2 f.3 f.4 refl,
    )
