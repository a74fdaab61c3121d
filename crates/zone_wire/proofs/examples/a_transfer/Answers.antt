use Rattle.zone_wire.proofs.Common.{[], answer_record, data_at, frame, header_fault, next_message, outcome, own_record, placed_soa, refl, sections_of, soa_message, standing_in, stream_records, strings_of, value_at, walk, walk_by, ◌∷◌}
use Rattle.zone_wire.proofs.Names.Computing.{octets_below, reads}
use Rattle.zone_wire.proofs.examples.a_transfer.Goals as goal

pub returns : goal.returns
unfolding stream_records next_message sections_of header_fault value_at data_at strings_of own_record answer_record outcome standing_in walk_by walk
returns c = c.a_transfer_is_read.ensures.found (frame soa_message) (placed_soa 12 ∷ []) (octets_below (frame soa_message) refl) (reads (soa_message ∷ []) [] _ refl refl refl refl)
