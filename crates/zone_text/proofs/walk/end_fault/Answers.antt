use Rattle.zone_text.proofs.Common.{arith, length, refl, subst, ◌-◌, ◌<◌}
use Rattle.zone_text.proofs.Scanning.Unfinished.{end_between, end_in_escape, end_in_parentheses, end_in_quotes}
use Rattle.zone_text.proofs.walk.end_fault.Goals as goal

pub returns-then-at-rest : goal.returns-then-at-rest
returns-then-at-rest c = end_in_escape c.args.octets.now c.args.at c.requires (subst (λ t. c.args.at.seen - c.args.at.start < length t) c.split_at.ensures.back c.if-at-rest.true)

pub returns-then-begins_with_quote : goal.returns-then-begins_with_quote
returns-then-begins_with_quote c =
    let quote = c.begins_with_quote.ensures.yes c.if-begins_with_quote.true in
    end_in_quotes c.args.octets.now c.split_at.result.1.now quote.0 34 c.args.at c.requires c.split_at.ensures.back (λ less. omega (arith, less, c.if-at-rest.false)) quote.1 refl

pub returns-then-at-gt0 : goal.returns-then-at-gt0
returns-then-at-gt0 c =
    end_in_parentheses c.args.octets.now c.split_at.result.1.now c.args.at c.requires c.split_at.ensures.back (λ less. omega (arith, less, c.if-at-rest.false)) (c.begins_with_quote.ensures.no c.if-begins_with_quote.false) c.if-at-gt0.true

pub returns : goal.returns
returns c =
    end_between c.args.octets.now c.split_at.result.1.now c.args.at c.requires c.split_at.ensures.back (λ less. omega (arith, less, c.if-at-rest.false)) (c.begins_with_quote.ensures.no c.if-begins_with_quote.false) (omega (arith, c.if-at-gt0.false))
