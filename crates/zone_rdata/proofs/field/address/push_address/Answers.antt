use Rattle.zone_rdata.proofs.Common.{subst, IfSome, IsIpv4Address, IsIpv6Address, of_ipv4, of_ipv6, fault_answered}
use Rattle.zone_rdata.proofs.Addresses.AddressOctets.{missing, no_ipv4, no_ipv6}
use Rattle.zone_rdata.proofs.field.address.push_address.Goals as goal
use Rattle.zone_rdata.proofs.field.address.push_address.Goals.{in-4+in_ok-address-in-4+in_ok-extend_from_slice-in-4, in-16+in_ok-address-in-16+in_ok-extend_from_slice-in-16}

pub returns-in_err-address-in-4-clause-fault : goal.returns-in_err-address-in-4-clause-fault
returns-in_err-address-in-4-clause-fault c =
    fault_answered c.from_residual.result _ _ c.from_residual.ensures.1
    (missing _ _ _ c.args.text.now _ (no_ipv4 _ _ c.in-4.is) c.in_err-address-in-4.ensures.value c.ipv4_octets_of.ensures.none)

pub returns-in_err-address-in-16-clause-fault : goal.returns-in_err-address-in-16-clause-fault
returns-in_err-address-in-16-clause-fault c =
    fault_answered c.from_residual-in_err-address-in-16.result _ _ c.from_residual-in_err-address-in-16.ensures.1
    (missing _ _ _ c.args.text.now _ (no_ipv6 _ _ c.in-16.is) c.in_err-address-in-16.ensures.value c.ipv6_octets_of.ensures.none)

pub returns-clause-found : goal.returns-clause-found
returns-clause-found c =
    elim c.match-count.branch [
      | in-4+in_ok-address-in-4+in_ok-extend_from_slice-in-4 w ↦ record {
        value = w.in_ok-address-in-4.address;
        stated = of_ipv4 w.in-4.is (subst (λ found. IfSome found (IsIpv4Address c.args.text.now)) w.in_ok-address-in-4.ensures.ok_part w.ipv4_octets_of.ensures.found);
        written = rw w.octets-is w.in_ok-extend_from_slice-in-4.ensures.items;
      }
      | in-16+in_ok-address-in-16+in_ok-extend_from_slice-in-16 w ↦ record {
        value = w.in_ok-address-in-16.address;
        stated = of_ipv6 w.in-16.is (subst (λ found. IfSome found (IsIpv6Address c.args.text.now)) w.in_ok-address-in-16.ensures.ok_part w.ipv6_octets_of.ensures.found);
        written = rw w.octets-is w.in_ok-extend_from_slice-in-16.ensures.items;
      }
    ]
