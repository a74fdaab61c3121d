use Rattle.std.proofs.lemmas.Result.{MatchResult-weaker}
use Rattle.std.specs.Prelude.{None}
use Rattle.zonefile_command.proofs.Zones.{not_of_files, not_of_transfer, not_opened, of_files}
use Rattle.zonefile_command.proofs.input.zone_of.Goals as goal

pub returns-in_default-clause-none : goal.returns-in_default-clause-none
returns-in_default-clause-none g c = not_opened _ _ c.args.source.now _ _ c.as_str-path.result.now c.as_str-path.ensures.value c.in_default.ensures

pub returns-in-Some-origin-clause-zone : goal.returns-in-Some-origin-clause-zone
returns-in-Some-origin-clause-zone g c =
    MatchResult-weaker c.zone_of_files.result c.zone_of_files.ensures.zone
    (λ z given. of_files _ _ c.args.source.now _ _ c.as_str-path.result.now c.as_str-path.ensures.value c.in-Some-origin.origin c.in-Some-origin.is c.in-Some.main c.open_main.new.self z c.in-Some.ensures given)
    (λ e h. h)

pub returns-in-Some-origin-clause-short : goal.returns-in-Some-origin-clause-short
returns-in-Some-origin-clause-short g c = c.zone_of_files.ensures.short

pub returns-in-Some-origin-clause-none : goal.returns-in-Some-origin-clause-none
returns-in-Some-origin-clause-none g c =
    MatchResult-weaker c.zone_of_files.result c.zone_of_files.ensures.none (λ x h. h)
    (λ stop why. not_of_files _ _ c.args.source.now _ _ c.as_str-path.result.now c.as_str-path.ensures.value c.in-Some-origin.origin c.in-Some-origin.is c.in-Some.main c.open_main.new.self stop c.in-Some.ensures why)

pub returns-in-None-clause-none : goal.returns-in-None-clause-none
returns-in-None-clause-none g c =
    MatchResult-weaker c.zone_of_transfer.result c.zone_of_transfer.ensures.none (λ x h. h)
    (λ stop why. not_of_transfer _ _ c.args.source.now _ _ c.as_str-path.result.now c.as_str-path.ensures.value c.in-None.is c.in-Some.main stop c.in-Some.ensures why)
