-- The fields that are read are the only ones.
use Rattle.std.proofs.Common.{arith}
use Rattle.zone_digest.specs.Machine.Reading.{fields_of}
use Rattle.zone_digest.proofs.FieldsOf.{read_formed}
use Rattle.zone_digest.proofs.verdict.well_formed.Goals as goal

pub returns-then-not-has_its_size-clause-none : goal.returns-then-not-has_its_size-clause-none
returns-then-not-has_its_size-clause-none c f well =
    let own = read_formed c.args.octets.now (fields_of c.in_ok-fields.fields) f c.in_ok-fields.ensures.found well in
    let is = c.has_its_size.ensures.1 own.size in
    grind (arith, is, c.if-not-has_its_size.true)
