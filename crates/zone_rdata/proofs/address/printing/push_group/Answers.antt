use Rattle.zone_rdata.proofs.Common.{◌≡◌, ◌/◌, ◌%◌, ◌++◌, arith, append_assoc, nat_le, digit_char, append-nil, nat_tests}
use Rattle.zone_rdata.proofs.Addresses.AddressLaws.{group_written, shown}
use Rattle.zone_rdata.proofs.address.printing.push_group.Goals as goal
use Rattle.zone_rdata.proofs.address.printing.push_group.Goals.{then-group-ge4096, else-group-ge4096, then-group-ge256, else-group-ge256, then-group-ge16, else-group-ge16}

pub returns-clause-written : goal.returns-clause-written
returns-clause-written c =
    let n = c.args.group in
    let first : c.if-group-ge4096.text.items ≡ c.args.text.now.items ++ shown (nat_le 0x1000 n) (digit_char (n / 0x1000 % 16)) = elim c.if-group-ge4096.branch [
      | then-group-ge4096 w ↦ grind (arith, nat_tests, w.if-group-ge4096, w.push_digit.ensures.written, w.text-is)
      | else-group-ge4096 w ↦ grind (arith, nat_tests, w.if-group-ge4096, w.text-is, append-nil c.args.text.now.items)
    ] in
    let second : c.if-group-ge256.text.items ≡ c.if-group-ge4096.text.items ++ shown (nat_le 0x100 n) (digit_char (n / 0x100 % 16)) = elim c.if-group-ge256.branch [
      | then-group-ge256 w ↦ grind (arith, nat_tests, w.if-group-ge256, w.push_digit-then-group-ge256.ensures.written, w.text-is)
      | else-group-ge256 w ↦ grind (arith, nat_tests, w.if-group-ge256, w.text-is, append-nil c.if-group-ge4096.text.items)
    ] in
    let third : c.if-group-ge16.text.items ≡ c.if-group-ge256.text.items ++ shown (nat_le 0x10 n) (digit_char (n / 0x10 % 16)) = elim c.if-group-ge16.branch [
      | then-group-ge16 w ↦ grind (arith, nat_tests, w.if-group-ge16, w.push_digit-then-group-ge16.ensures.written, w.text-is)
      | else-group-ge16 w ↦ grind (arith, nat_tests, w.if-group-ge16, w.text-is, append-nil c.if-group-ge256.text.items)
    ] in
    grind (arith, c.push_digit-2.ensures.written, first, second, third, append_assoc, group_written n c.ranges.group.fits)
