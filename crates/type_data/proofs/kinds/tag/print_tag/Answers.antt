use Rattle.std.proofs.Common.{rules}
use Rattle.type_data.proofs.OfKinds.Tag.Printed.{no_tag, tag_front}
use Rattle.type_data.proofs.kinds.tag.print_tag.Goals as goal

pub returns-then-not-is_tag-clause-none : goal.returns-then-not-is_tag-clause-none
returns-then-not-is_tag-clause-none c = no_tag c.args.octets.now c.in_ok-tag.rest.now c.in_ok-tag.tag.now c.in_ok-tag.ensures.whole (search (rules, c.is_tag.ensures, c.if-not-is_tag.true))

pub returns-clause-printed : goal.returns-clause-printed
returns-clause-printed c = tag_front c.args.octets.now c.in_ok-tag.rest.now c.args.out.now.items c.extend_from_slice.new.self.items c.in_ok-tag.tag.now c.in_ok-tag.ensures.whole (search (rules, c.is_tag.ensures, c.if-not-is_tag.false)) c.in_ok-extend_from_slice.ensures.items
