use Rattle.zone_words.proofs.Common.{ap, ◌∙◌, ◌∷◌}
use Rattle.zone_words.proofs.KnownItems.{one_blank_kept, one_blank_passed}
use Rattle.zone_words.proofs.known_items.past_one_blank.Goals as goal

pub returns-then-begins_item-clause-passed : goal.returns-then-begins_item-clause-passed
returns-then-begins_item-clause-passed c =
    one_blank_passed c.args.octets.now c.in_ok-first.rest.now _ c.in_ok-next.next.now (c.in_ok-first.ensures.cases.0 ∙ ap (λ d. d ∷ c.in_ok-first.rest.now) c.if-first-ne32.false) c.in_ok-next.ensures.cases.0
    (c.begins_item.ensures.between c.if-begins_item.true) (c.begins_item.ensures.comment c.if-begins_item.true)

pub returns-then-begins_item-clause-kept : goal.returns-then-begins_item-clause-kept
returns-then-begins_item-clause-kept c =
    one_blank_kept c.args.octets.now c.in_ok-first.rest.now _ c.in_ok-next.next.now (c.in_ok-first.ensures.cases.0 ∙ ap (λ d. d ∷ c.in_ok-first.rest.now) c.if-first-ne32.false) c.in_ok-next.ensures.cases.0
    (c.begins_item.ensures.between c.if-begins_item.true) (c.begins_item.ensures.comment c.if-begins_item.true)
