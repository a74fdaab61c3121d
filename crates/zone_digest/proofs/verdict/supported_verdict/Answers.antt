use Rattle.std.proofs.Common.{◌≡◌, map, arith, sym, ap, ◌∙◌}
use Rattle.zone_rdata.specs.Lent.{record_of}
use Rattle.zone_digest.specs.Machine.Reading.{fields_of}
use Rattle.zone_digest.specs.Verdict.{differs, digest_octets, repeated, verified}
use Rattle.zone_digest.proofs.OneDigest.{one_digest}
use Rattle.zone_digest.proofs.Zonemds.{not_repeated, repeated_is}
use Rattle.zone_digest.proofs.verdict.supported_verdict.Goals as goal

pub returns-then-is_repeated : goal.returns-then-is_repeated
returns-then-is_repeated c =
    repeated _ c.args.algorithm c.requires.supported (repeated_is c.args.zone.now (map record_of c.args.found.now) (record_of c.args.rr.now) (fields_of c.args.fields.now) c.requires.found (c.is_repeated.ensures.0 c.if-is_repeated.true))

pub returns-then-not-are_same : goal.returns-then-not-are_same
returns-then-not-are_same c =
    differs _ c.args.algorithm c.requires.supported (not_repeated _ _ _ _ _ c.is_repeated.ensures c.if-is_repeated.false c.requires.zone c.requires.found c.requires.zonemd) (λ d. (
    let one : d.0 ≡ c.in_ok-digest.digest = one_digest c.args.zone.now c.args.algorithm d.0 c.in_ok-digest.digest d.1 c.in_ok-digest.ensures.digest in
    let is = c.are_same.ensures.1 (d.2 ∙ ap digest_octets one ∙ sym c.octets.ensures) in
    grind (arith, is, c.if-not-are_same.true)))

pub returns : goal.returns
returns c = verified _ c.args.algorithm c.requires.supported (not_repeated _ _ _ _ _ c.is_repeated.ensures c.if-is_repeated.false c.requires.zone c.requires.found c.requires.zonemd) (c.in_ok-digest.digest, c.in_ok-digest.ensures.digest, c.are_same.ensures.0 c.if-not-are_same.false ∙ c.octets.ensures)
