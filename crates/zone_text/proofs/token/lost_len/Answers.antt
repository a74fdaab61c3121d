use Rattle.zone_text.proofs.Common.{arith, sym, ◌∙◌}
use Rattle.zone_text.proofs.Tokens.Spans.{cut_off_by, lost_by_one, lost_by_three, lost_by_two}
use Rattle.zone_text.proofs.token.lost_len.Goals as goal

pub returns-in-len1-up : goal.returns-in-len1-up
returns-in-len1-up c bad = lost_by_one c.args.after.now c.in-len1-up.len_at_least (sym c.is_ascii_digit.ensures.value ∙ c.if-not-is_ascii_digit.true) bad

pub returns-in-len2-up : goal.returns-in-len2-up
returns-in-len2-up c bad = lost_by_two c.args.after.now c.in-len2-up.len_at_least (sym c.is_ascii_digit.ensures.value ∙ c.if-not-is_ascii_digit.false) (sym c.is_ascii_digit-2.ensures.value ∙ c.if-not-is_ascii_digit-2.true)

pub returns-in-len3-up : goal.returns-in-len3-up
returns-in-len3-up c bad = lost_by_three c.args.after.now c.in-len3-up.len_at_least (sym c.is_ascii_digit.ensures.value ∙ c.if-not-is_ascii_digit.false) (sym c.is_ascii_digit-2.ensures.value ∙ c.if-not-is_ascii_digit-2.false) bad

pub returns-in_default-2 : goal.returns-in_default-2
returns-in_default-2 c bad = cut_off_by c.args.after.now (omega (arith, c.in_default.len_below)) (λ some. sym c.is_ascii_digit.ensures.value ∙ c.if-not-is_ascii_digit.false) (λ two. absurd (omega (arith, two, c.in_default.len_below)))

pub returns-in_default-3 : goal.returns-in_default-3
returns-in_default-3 c bad = cut_off_by c.args.after.now (omega (arith, c.in_default.len_below)) (λ some. sym c.is_ascii_digit.ensures.value ∙ c.if-not-is_ascii_digit.false) (λ two. sym c.is_ascii_digit-2.ensures.value ∙ c.if-not-is_ascii_digit-2.false)
