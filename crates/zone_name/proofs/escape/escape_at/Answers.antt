use Rattle.zone_name.proofs.Common.{sym, ◌∙◌}
use Rattle.zone_name.proofs.Spelling.Units.{valued_escape}
use Rattle.zone_name.proofs.escape.escape_at.Goals as goal

pub returns-then-is_ascii_digit-clause-found : goal.returns-then-is_ascii_digit-clause-found
returns-then-is_ascii_digit-clause-found c =
    valued_escape (λ read. (read.0, read.1.now)) c.digits_at.result c.in_ok-first.first.now c.in_ok-first.rest.now c.args.after.now c.in_ok-first.ensures.cases.0 (sym c.is_ascii_digit.ensures.value ∙ c.if-is_ascii_digit.true) c.digits_at.ensures
