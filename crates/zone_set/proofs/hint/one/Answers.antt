use Rattle.std.proofs.lemmas.Bool.{agree_below_at}
use Rattle.zone_set.proofs.Common.{eqb-true, get_or, refl, subst, sym, true, ◌<◌, ◌==◌}
use Rattle.zone_set.proofs.Hints.LabelKey.{inner_low}
use Rattle.zone_set.specs.Machine.LabelKey.{inner_digit}
use Rattle.zone_set.specs.declared.hint.TheConstants.{INNER_DIGITS}
use Rattle.zone_set.proofs.hint.one.Goals as goal

pub returns-clause-digit : goal.returns-clause-digit
returns-clause-digit c =
    eqb-true (get_or INNER_DIGITS c.args.octet 0) (inner_digit c.args.octet)
    (agree_below_at (λ octet. get_or INNER_DIGITS octet 0 == inner_digit octet) (λ octet. true) 256 c.args.octet refl c.ranges.octet.fits)

pub returns-clause-low : goal.returns-clause-low
returns-clause-low c = subst (λ d. d < 128) (sym (returns-clause-digit c)) (inner_low c.args.octet)
