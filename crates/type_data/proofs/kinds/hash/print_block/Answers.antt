use Rattle.type_data.proofs.Common.{ap, arith, bytes_each, on_ok_weaker, take, ◌++◌, ◌∙◌}
use Rattle.type_data.proofs.OfKinds.Hash.Printed.{block_printed, on_ok_appended}
use Rattle.type_data.proofs.kinds.hash.print_block.Goals as goal

pub returns : goal.returns
returns c =
    on_ok_weaker c.extend_from_slice.result
    (λ pushed. block_printed c.args.block.now c.digits_of-digits.result c.args.out.now.items c.extend_from_slice.new.self.items c.requires.some c.requires.few (bytes_each c.args.block.now (λ i. omega (arith, c.type_inv.block i))) (rw c.copy_from_slice.ensures.after at c.digits_of-digits.ensures) (pushed ∙ ap (λ k. c.args.out.now.items ++ take k c.digits_of-digits.result) c.div_ceil.ensures))
    (on_ok_appended c.extend_from_slice.result _ _ _ c.extend_from_slice.ensures.items)
