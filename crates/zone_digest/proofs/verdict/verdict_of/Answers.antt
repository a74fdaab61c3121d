-- Each test decides what its verdict says.
use Rattle.std.proofs.Common.{◌≡◌, ◌∙◌, arith, subst, sym}
use Rattle.zone_digest.specs.Machine.Reading.{fields_of}
use Rattle.zone_digest.specs.Verdict.{IsWellFormed, malformed, other_serial, repeated, unknown_algorithm, unknown_scheme}
use Rattle.zone_digest.proofs.verdict.verdict_of.Goals as goal

pub returns-in_default : goal.returns-in_default
returns-in_default c = malformed (λ f well. c.in_default.ensures.none f (subst (λ o. IsWellFormed o f) (sym c.octets.ensures) well))

pub returns-then-not-has_serial : goal.returns-then-not-has_serial
returns-then-not-has_serial c =
    let f = fields_of c.in-Some.fields in
    let well = subst (λ o. IsWellFormed o f) c.octets.ensures c.in-Some.ensures.found in
    other_serial f well (λ serial. (let is = c.has_serial.ensures.1 serial in grind (arith, is, c.if-not-has_serial.true)))

-- the data is well formed and has the zone's serial
pub returns-in_default-algorithm_of : goal.returns-in_default-algorithm_of
returns-in_default-algorithm_of c =
    let f = fields_of c.in-Some.fields in
    let well = subst (λ o. IsWellFormed o f) c.octets.ensures c.in-Some.ensures.found in
    let serial = c.has_serial.ensures.0 c.if-not-has_serial.false in
    let simple : f.scheme ≡ 1 = omega (arith, c.if-fields-ne-SIMPLE.false) in
    unknown_algorithm f (well, serial) simple (c.in_default-algorithm_of.ensures.none simple)

pub returns-then-fields-ne-SIMPLE : goal.returns-then-fields-ne-SIMPLE
returns-then-fields-ne-SIMPLE c =
    let f = fields_of c.in-Some.fields in
    let well = subst (λ o. IsWellFormed o f) c.octets.ensures c.in-Some.ensures.found in
    let serial = c.has_serial.ensures.0 c.if-not-has_serial.false in
    unknown_scheme f (well, serial) (λ one. omega (arith, c.if-fields-ne-SIMPLE.true, one))

pub supported_verdict-requires-clause-supported : goal.supported_verdict-requires-clause-supported
supported_verdict-requires-clause-supported c =
    let f = fields_of c.in-Some.fields in
    let well = subst (λ o. IsWellFormed o f) c.octets.ensures c.in-Some.ensures.found in
    let serial = c.has_serial.ensures.0 c.if-not-has_serial.false in
    let pair = c.in-Some-algorithm_of.ensures.found in
    record { serial = (well, serial); scheme = pair.0; algorithm = pair.1 }

pub returns-then-has : goal.returns-then-has
returns-then-has c =
    let f = fields_of c.in-Some.fields in
    let well = subst (λ o. IsWellFormed o f) c.octets.ensures c.in-Some.ensures.found in
    let serial = c.has_serial.ensures.0 c.if-not-has_serial.false in
    let pair = c.in-Some-algorithm_of.ensures.found in
    let again = c.requires.seen c.in-Some-algorithm_of.algorithm (sym c.has.ensures ∙ c.if-has.true) f pair.0 pair.1 in
    repeated f c.in-Some-algorithm_of.algorithm (record { serial = (well, serial); scheme = pair.0; algorithm = pair.1 }) again
