use Rattle.faulty_items.proofs.Common.{map, raw, refl}
use Rattle.faulty_items.proofs.EntryParts.{rest_answer, valueless_stop}
use Rattle.faulty_items.proofs.entry.record_stop.Goals as goal

pub returns-in-Some : goal.returns-in-Some
returns-in-Some c = λ ends. valueless_stop c.args.origin.now c.args.held c.args.all.now c.args.after.now c.record_parts-parts.result c.in-Some.text _ c.record_parts-parts.ensures (c.in-Some.ensures.found (map raw c.args.after.now) c.record_parts-parts.ensures) refl ends

pub returns : goal.returns
returns c = λ ends. rest_answer c.rest_stop.result c.args.origin.now c.args.held c.class_of-class.result c.args.all.now _ c.args.after.now c.record_parts-parts.result _ c.saturating_sub.ensures c.split_at.ensures.back c.record_parts-parts.ensures (c.in_default.ensures.none (map raw c.args.after.now) c.record_parts-parts.ensures) c.class_of-class.ensures c.rest_stop.ensures ends
