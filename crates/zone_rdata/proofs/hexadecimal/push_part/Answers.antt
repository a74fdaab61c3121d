use Rattle.zone_rdata.proofs.Common.{length, take, ◌/◌}
use Rattle.zone_rdata.proofs.Items.ReadDigits.{few_read}
use Rattle.zone_rdata.proofs.hexadecimal.push_part.Goals as goal

pub returns-in_ok-extend_from_slice-in-Some-clause-yes :
    goal.returns-in_ok-extend_from_slice-in-Some-clause-yes
returns-in_ok-extend_from_slice-in-Some-clause-yes c =
    λ is. record {
      value = take (length c.args.text.now / 2) c.in-Some.octets;
      stated = few_read c.args.text.now c.copy_from_slice.new.self c.in-Some.octets _ c.copy_from_slice.ensures.after c.in-Some.ensures c.if-text-eq0.true;
      written = c.in_ok-extend_from_slice-in-Some.ensures.items;
    }
