use Rattle.zone_rdata.proofs.Common.{◌≡◌, ◌+◌, ◌/◌, ◌%◌, ◌++◌, arith, append_assoc, nat_le, append-nil, nat_tests}
use Rattle.zone_rdata.proofs.Addresses.AddressLaws.{number_written, shown}
use Rattle.zone_rdata.proofs.address.printing.push_number.Goals as goal
use Rattle.zone_rdata.proofs.address.printing.push_number.Goals.{then-octet-ge100, else-octet-ge100, then-octet-ge10, else-octet-ge10}

pub returns-clause-written : goal.returns-clause-written
returns-clause-written c =
    let n = c.args.octet in
    let first : c.if-octet-ge100.text.items ≡ c.args.text.now.items ++ shown (nat_le 100 n) (48 + n / 100) = elim c.if-octet-ge100.branch [
      | then-octet-ge100 w ↦ grind (arith, nat_tests, w.if-octet-ge100, w.push.ensures.items, w.text-is)
      | else-octet-ge100 w ↦ grind (arith, nat_tests, w.if-octet-ge100, w.text-is, append-nil c.args.text.now.items)
    ] in
    let second : c.if-octet-ge10.text.items ≡ c.if-octet-ge100.text.items ++ shown (nat_le 10 n) (48 + n / 10 % 10) = elim c.if-octet-ge10.branch [
      | then-octet-ge10 w ↦ grind (arith, nat_tests, w.if-octet-ge10, w.push-then-octet-ge10.ensures.items, w.text-is)
      | else-octet-ge10 w ↦ grind (arith, nat_tests, w.if-octet-ge10, w.text-is, append-nil c.if-octet-ge100.text.items)
    ] in
    grind (arith, c.push-2.ensures.items, first, second, append_assoc, number_written n c.ranges.octet.fits)
