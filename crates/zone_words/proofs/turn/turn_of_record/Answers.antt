use Rattle.zone_words.proofs.Common.{arith, both_ways, length-map, map, raw}
use Rattle.zone_words.proofs.Turns.{lines_fail, many_fail}
use Rattle.zone_words.proofs.turn.turn_of_record.Goals as goal

pub returns-then-is_generic : goal.returns-then-is_generic
returns-then-is_generic c =
    c.turn_in_generic_form.ensures c.args.line c.args.above.now c.args.stated.now (c.is_generic.ensures.0 c.if-is_generic.true)

pub returns-then-items-ge-MOST_ITEMS : goal.returns-then-items-ge-MOST_ITEMS
returns-then-items-ge-MOST_ITEMS c origin before tokens cut there =
    many_fail origin before c.args.line tokens c.args.found.now (map raw c.args.items.now) c.args.above.now _ there (omega (arith, length-map c.args.items.now raw, c.if-items-ge-MOST_ITEMS.true))
    (λ is. both_ways c.is_generic.result c.if-is_generic.false (c.is_generic.ensures.1 is)) c.refusal.ensures

pub returns-then-not-are_on_one_line : goal.returns-then-not-are_on_one_line
returns-then-not-are_on_one_line c origin before tokens cut there =
    lines_fail origin before c.args.line tokens c.args.found.now (map raw c.args.items.now) c.args.above.now _ there (omega (arith, length-map c.args.items.now raw, c.if-items-ge-MOST_ITEMS.false))
    (λ is. both_ways c.is_generic.result c.if-is_generic.false (c.is_generic.ensures.1 is))
    (λ is. both_ways c.are_on_one_line.result c.if-not-are_on_one_line.true (c.are_on_one_line.ensures.1 is)) c.refusal-then-not-are_on_one_line.ensures
