use Rattle.zone_words.proofs.Common.{arith, both_ways, length-map, map, raw}
use Rattle.zone_words.proofs.Turns.{quotes_too, renamed_there, stays_generic}
use Rattle.zone_words.proofs.turn.turn_in_generic_form.Goals as goal

pub returns-then-items-ge-MOST_ITEMS : goal.returns-then-items-ge-MOST_ITEMS
returns-then-items-ge-MOST_ITEMS c line above stated generic origin before tokens cut there =
    stays_generic origin before line tokens c.args.found.now (map raw c.args.items.now) above stated there generic
    (λ few same one. absurd (omega (arith, few, length-map c.args.items.now raw, c.if-items-ge-MOST_ITEMS.true)))

pub returns-then-not-has_mnemonic : goal.returns-then-not-has_mnemonic
returns-then-not-has_mnemonic c line above stated generic origin before tokens cut there =
    stays_generic origin before line tokens c.args.found.now (map raw c.args.items.now) above stated there generic
    (λ few same one. both_ways c.has_mnemonic.result c.if-not-has_mnemonic.true (c.has_mnemonic.ensures.1 same))

pub returns-then-not-are_on_one_line : goal.returns-then-not-are_on_one_line
returns-then-not-are_on_one_line c line above stated generic origin before tokens cut there =
    stays_generic origin before line tokens c.args.found.now (map raw c.args.items.now) above stated there generic
    (λ few same one. both_ways c.are_on_one_line.result c.if-not-are_on_one_line.true (c.are_on_one_line.ensures.1 (quotes_too (map raw c.args.found.now.items.now) one)))

pub returns : goal.returns
returns c line above stated generic origin before tokens cut there =
    renamed_there c.args.entry.now origin before line tokens c.args.found.now (map raw c.args.items.now) above c.around_type.result cut there
    (omega (arith, length-map c.args.items.now raw, c.if-items-ge-MOST_ITEMS.false)) c.around_type.ensures generic
    (c.has_mnemonic.ensures.0 c.if-not-has_mnemonic.false)
    (c.are_on_one_line.ensures.0 c.if-not-are_on_one_line.false)
