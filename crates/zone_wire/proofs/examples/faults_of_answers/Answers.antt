use Rattle.zone_wire.proofs.Common.{[], answer_header, answer_record, closing_x, data_at, header_fault, message_with, next_message, opening_x, outcome, own_record, question_x, record_x, refl, sections_of, server_x, small_body, small_message, standing_in, stream_records, strings_of, value_at, walk, walk_by, ◌++◌, ◌∷◌}
use Rattle.zone_wire.proofs.Names.Computing.{reads}
use Rattle.zone_wire.proofs.examples.faults_of_answers.Goals as goal

pub returns : goal.returns
unfolding stream_records next_message sections_of header_fault value_at data_at strings_of own_record answer_record outcome standing_in walk_by walk
returns c = record {
  no_opening = reads ((answer_header 1 1 0 ++ question_x ++ record_x 2 (192 ∷ 12 ∷ [])) ∷ []) [] _ refl refl refl refl;
  question_class = reads ((answer_header 1 3 0 ++ (1 ∷ 120 ∷ 0 ∷ 0 ∷ 252 ∷ 0 ∷ 3 ∷ []) ++ opening_x ++ server_x ++ closing_x 1) ∷ []) [] _ refl refl refl refl;
  other_serial = reads ((answer_header 1 3 0 ++ question_x ++ opening_x ++ server_x ++ closing_x 2) ∷ []) [] _ refl refl refl refl;
  after_closing = reads ((answer_header 1 4 0 ++ small_body ++ server_x) ∷ []) [] _ refl refl refl refl;
  given_twice = reads (small_message ∷ small_message ∷ []) [] _ refl refl refl refl;
  compressible = reads ((message_with (record_x 7 (192 ∷ 31 ∷ []))) ∷ []) [] _ refl refl refl refl;
  left_over = reads ((message_with (record_x 2 (192 ∷ 31 ∷ 0 ∷ []))) ∷ []) [] _ refl refl refl refl;
  no_string = reads ((message_with (record_x 16 [])) ∷ []) [] _ refl refl refl refl;
  short_service = reads ((message_with (record_x 33 (192 ∷ 31 ∷ []))) ∷ []) [] _ refl refl refl refl;
  points_to_itself = reads ((message_with (record_x 2 (192 ∷ 71 ∷ []))) ∷ []) [] _ refl refl refl refl;
}
