use Rattle.faulty_items.proofs.Common.{map, raw, sym}
use Rattle.zone_rdata.specs.Layout.{fields_of}
use Rattle.faulty_items.specs.FieldNames.{field_name}
use Rattle.faulty_items.specs.LaidOutStop.{opaque_words}
use Rattle.faulty_items.proofs.Reading.{laid_answer, not_marked}
use Rattle.faulty_items.proofs.laid_out.laid_out_stop.Goals as goal

pub returns-in-Some : goal.returns-in-Some
returns-in-Some c =
    laid_answer c.fields_stop.result c.args.origin.now c.args.class c.args.kind c.number.result (map raw c.args.items.now) (fields_of c.in-Some.layout) c.in-Some.ensures.fields
    (not_marked c.is_generic.result _ c.is_generic.ensures c.if-is_generic.false) c.number.ensures.value c.fields_stop.ensures

pub returns : goal.returns
returns c = opaque_words (sym c.in-None.ensures.fields) (not_marked c.is_generic.result _ c.is_generic.ensures c.if-is_generic.false) (c.stop_after.ensures c.args.origin.now (field_name c.args.kind) 0)
