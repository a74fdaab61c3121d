use Rattle.std.proofs.Common.{◌∙◌, map, sym}
use Rattle.zone_rdata.specs.Item.{raw}
use Rattle.zone_generate.proofs.OneLines.{broken_line, no_line, open_line, whole_or_part}
use Rattle.zone_generate.proofs.one_line.is_one_line.Goals as goal

pub returns-in-Whole : goal.returns-in-Whole
returns-in-Whole c = whole_or_part c.args.octets.now c.in-Whole.len (map raw c.first_entry.new.items.items) (rw c.in-Whole.is at c.in_ok-len.ensures.found) (sym c.line_feeds.ensures.count ∙ c.if-line_feeds-ne1.false)

pub returns-in-Open : goal.returns-in-Open
returns-in-Open c = no_line _ (open_line c.args.octets.now (rw c.in-Open.is at c.in_ok-len.ensures.found).0)

pub returns-in-BadEscape : goal.returns-in-BadEscape
returns-in-BadEscape c = no_line _ (broken_line c.args.octets.now _ (rw c.in-BadEscape.is at c.in_ok-len.ensures.found).0)

pub returns : goal.returns
returns c = no_line _ (broken_line c.args.octets.now _ (rw c.in-UnbalancedParenthesis.is at c.in_ok-len.ensures.found).0)
