use Rattle.zone_wire.proofs.Common.{[], answer_header, answer_record, data_at, first_message, header_fault, next_message, outcome, own_record, refl, sections_of, small_message, standing_in, stream_records, strings_of, value_at, walk, walk_by, ◌∷◌}
use Rattle.zone_wire.proofs.Names.Computing.{reads}
use Rattle.zone_wire.proofs.examples.streams_cut_short.Goals as goal

pub returns : goal.returns
unfolding stream_records next_message sections_of header_fault value_at data_at strings_of own_record answer_record outcome standing_in walk_by walk
returns c = record {
  empty = reads [] [] _ refl refl refl refl;
  no_answers = reads ((0 ∷ 1 ∷ 132 ∷ 0 ∷ 0 ∷ 0 ∷ 0 ∷ 0 ∷ 0 ∷ 0 ∷ 0 ∷ 0 ∷ []) ∷ []) [] _ refl refl refl refl;
  first_of_two = reads (first_message ∷ []) [] _ refl refl refl refl;
  one_octet_more = reads (small_message ∷ []) (0 ∷ []) _ refl refl refl refl;
  half_a_length = reads [] (0 ∷ []) _ refl refl refl refl;
  half_a_message = reads [] (0 ∷ 109 ∷ answer_header 1 3 0) _ refl refl refl refl;
}
