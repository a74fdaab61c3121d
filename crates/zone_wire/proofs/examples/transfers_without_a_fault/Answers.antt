use Rattle.zone_wire.proofs.Common.{[], answer_record, data_at, first_message, header_fault, message_with, next_message, outcome, own_record, record_x, refl, second_message, sections_of, small_message, standing_in, stream_records, strings_of, value_at, walk, walk_by, ◌∷◌}
use Rattle.zone_wire.proofs.Names.Computing.{reads}
use Rattle.zone_wire.proofs.examples.transfers_without_a_fault.Goals as goal

pub returns : goal.returns
unfolding stream_records next_message sections_of header_fault value_at data_at strings_of own_record answer_record outcome standing_in walk_by walk
returns c = record {
  small = reads (small_message ∷ []) [] _ refl refl refl refl;
  service = reads ((message_with (record_x 33 (0 ∷ 0 ∷ 0 ∷ 5 ∷ 19 ∷ 196 ∷ 192 ∷ 31 ∷ []))) ∷ []) [] _ refl refl refl refl;
  strings = reads ((message_with (record_x 35 (0 ∷ 100 ∷ 0 ∷ 10 ∷ 1 ∷ 85 ∷ 0 ∷ 0 ∷ 192 ∷ 31 ∷ []))) ∷ []) [] _ refl refl refl refl;
  two_messages = reads (first_message ∷ second_message ∷ []) [] _ refl refl refl refl;
}
