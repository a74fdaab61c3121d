use Rattle.zone_words.proofs.Common.{none_left, on_ok_weaker, refl, some_left}
use Rattle.zone_words.proofs.Walks.{generic_more, generic_none}
use Rattle.zone_words.proofs.writing.push_generic.Goals as goal

pub returns-then-is_empty : goal.returns-then-is_empty
returns-then-is_empty c = generic_none c.args.number c.args.octets.now _ _ _ _ (none_left c.args.octets.now _ c.is_empty.result refl c.is_empty.ensures c.if-is_empty.true) c.in_ok-push_type.ensures c.in_ok-extend_from_slice.ensures.items (rw (c.as_bytes.ensures.value, c.format.ensures.text) at c.in_ok-extend_from_slice-2.ensures.items)

pub returns : goal.returns
returns c = on_ok_weaker c.push_hex.result (λ e. generic_more c.args.number c.args.octets.now _ _ _ _ _ _ (some_left c.args.octets.now _ c.is_empty.result refl c.is_empty.ensures c.if-is_empty.false) c.in_ok-push_type.ensures c.in_ok-extend_from_slice.ensures.items (rw (c.as_bytes.ensures.value, c.format.ensures.text) at c.in_ok-extend_from_slice-2.ensures.items) c.in_ok-push.ensures.items e) c.push_hex.ensures.ok
