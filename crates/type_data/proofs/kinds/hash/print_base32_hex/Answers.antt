use Rattle.type_data.proofs.Common.{arith, nat_tests}
use Rattle.type_data.proofs.OfKinds.Hash.Printed.{block_more, none_printed}
use Rattle.type_data.proofs.kinds.hash.print_base32_hex.Goals as goal

pub loop-rest-preserved : goal.loop-rest-preserved
loop-rest-preserved c =
    block_more c.args.octets.now c.loop-rest.rest.now _ _ c.args.out.now.items c.loop-rest.out.items c.print_block.new.out.items _ c.min.ensures c.split_at.ensures.front c.split_at.ensures.back (grind (arith, nat_tests, c.is_empty.ensures, c.loop-rest-test.true)) c.loop-rest.invariant c.in_ok-print_block.ensures

pub loop-rest-init : goal.loop-rest-init
loop-rest-init c = none_printed c.args.octets.now c.args.out.now.items
