use Rattle.zone_wire.proofs.Common.{[], answer_header, answer_record, closing_x, data_at, ends_with, header_fault, message_with, next_message, outcome, own_record, question_x, record_of_class, record_x, refl, sections_of, small_body, standing_in, stream_records, strings_of, value_at, walk, walk_by, ◌++◌, ◌∷◌}
use Rattle.zone_wire.proofs.Names.Computing.{reads}
use Rattle.zone_wire.proofs.examples.answers_with_two_faults.Goals as goal

pub returns : goal.returns
unfolding stream_records next_message sections_of header_fault value_at data_at strings_of own_record answer_record outcome standing_in walk_by walk
returns c = record {
  class_and_type = reads ((ends_with (record_of_class 0 41 [])) ∷ []) [] _ refl refl refl refl;
  name_past_the_message = reads ((ends_with (record_x 2 [])) ∷ []) [] _ refl refl refl refl;
  name_past_the_data = reads ((message_with (record_x 2 [])) ∷ []) [] _ refl refl refl refl;
  bad_data_first = reads ((answer_header 1 1 0 ++ question_x ++ record_x 16 []) ∷ []) [] _ refl refl refl refl;
  no_opening_of_other_class = reads ((answer_header 1 1 0 ++ (1 ∷ 120 ∷ 0 ∷ 0 ∷ 252 ∷ 0 ∷ 3 ∷ []) ++ record_x 2 (192 ∷ 12 ∷ [])) ∷ []) [] _ refl refl refl refl;
  differing_soa_after_closing = reads ((answer_header 1 4 0 ++ small_body ++ closing_x 2) ∷ []) [] _ refl refl refl refl;
  class_after_closing = reads ((answer_header 1 4 0 ++ small_body ++ record_of_class 255 1 []) ∷ []) [] _ refl refl refl refl;
}
