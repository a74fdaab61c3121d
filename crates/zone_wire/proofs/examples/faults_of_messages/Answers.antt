use Rattle.zone_wire.proofs.Common.{[], answer_header, answer_record, closing_x, data_at, first_message, header_fault, message_with, next_message, numbers, opening_x, outcome, own_record, question_x, record_x, refl, sections_of, server_x, small_body, small_message, standing_in, stream_records, strings_of, value_at, walk, walk_by, ◌++◌, ◌∷◌}
use Rattle.zone_wire.proofs.Names.Computing.{reads}
use Rattle.zone_wire.proofs.examples.faults_of_messages.Goals as goal

pub returns : goal.returns
unfolding stream_records next_message sections_of header_fault value_at data_at strings_of own_record answer_record outcome standing_in walk_by walk
returns c = record {
  no_octets = reads ([] ∷ []) [] _ refl refl refl refl;
  query = reads (((0 ∷ 1 ∷ 4 ∷ 0 ∷ 0 ∷ 1 ∷ 0 ∷ 3 ∷ 0 ∷ 0 ∷ 0 ∷ 0 ∷ []) ++ small_body) ∷ []) [] _ refl refl refl refl;
  opcode = reads (((0 ∷ 1 ∷ 140 ∷ 0 ∷ 0 ∷ 1 ∷ 0 ∷ 3 ∷ 0 ∷ 0 ∷ 0 ∷ 0 ∷ []) ++ small_body) ∷ []) [] _ refl refl refl refl;
  truncated = reads (((0 ∷ 1 ∷ 134 ∷ 0 ∷ 0 ∷ 1 ∷ 0 ∷ 3 ∷ 0 ∷ 0 ∷ 0 ∷ 0 ∷ []) ++ small_body) ∷ []) [] _ refl refl refl refl;
  error = reads (((0 ∷ 1 ∷ 132 ∷ 5 ∷ 0 ∷ 1 ∷ 0 ∷ 3 ∷ 0 ∷ 0 ∷ 0 ∷ 0 ∷ []) ++ small_body) ∷ []) [] _ refl refl refl refl;
  two_questions = reads ((answer_header 2 3 0 ++ small_body) ∷ []) [] _ refl refl refl refl;
  authority = reads (((0 ∷ 1 ∷ 132 ∷ 0 ∷ 0 ∷ 1 ∷ 0 ∷ 3 ∷ 0 ∷ 1 ∷ 0 ∷ 0 ∷ []) ++ small_body) ∷ []) [] _ refl refl refl refl;
  too_many_answers = reads ((answer_header 1 4 0 ++ small_body) ∷ []) [] _ refl refl refl refl;
  trailing = reads ((answer_header 1 3 0 ++ small_body ++ 0 ∷ []) ∷ []) [] _ refl refl refl refl;
  question_type = reads ((answer_header 1 3 0 ++ (1 ∷ 120 ∷ 0 ∷ 0 ∷ 1 ∷ 0 ∷ 1 ∷ []) ++ opening_x ++ server_x ++ closing_x 1) ∷ []) [] _ refl refl refl refl;
  reserved_owner = reads ((message_with (64 ∷ 12 ∷ 0 ∷ 2 ∷ 0 ∷ 1 ∷ 0 ∷ 0 ∷ 14 ∷ 16 ∷ 0 ∷ 2 ∷ 192 ∷ 31 ∷ [])) ∷ []) [] _ refl refl refl refl;
  owner_at_itself = reads ((message_with (192 ∷ 59 ∷ 0 ∷ 2 ∷ 0 ∷ 1 ∷ 0 ∷ 0 ∷ 14 ∷ 16 ∷ 0 ∷ 2 ∷ 192 ∷ 31 ∷ [])) ∷ []) [] _ refl refl refl refl;
  before_bad_data = reads ((answer_header 1 3 0 ++ question_x ++ opening_x ++ record_x 2 (192 ∷ 71 ∷ []) ++ (192 ∷ 73 ∷ 0 ∷ 6 ∷ 0 ∷ 1 ∷ 0 ∷ 0 ∷ 14 ∷ 16 ∷ 0 ∷ 24 ∷ 192 ∷ 31 ∷ 192 ∷ 35 ∷ []) ++ numbers 1) ∷ []) [] _ refl refl refl refl;
  second_id = reads (small_message ∷ ((0 ∷ 2 ∷ 132 ∷ 0 ∷ 0 ∷ 1 ∷ 0 ∷ 3 ∷ 0 ∷ 0 ∷ 0 ∷ 0 ∷ []) ++ small_body) ∷ []) [] _ refl refl refl refl;
  later_question = reads (first_message ∷ (answer_header 1 0 0 ++ 1 ∷ 121 ∷ 0 ∷ 0 ∷ 252 ∷ 0 ∷ 1 ∷ []) ∷ []) [] _ refl refl refl refl;
}
