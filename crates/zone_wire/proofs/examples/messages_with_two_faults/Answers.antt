use Rattle.zone_wire.proofs.Common.{[], answer_record, data_at, first_message, header_fault, next_message, outcome, own_record, refl, sections_of, small_body, standing_in, stream_records, strings_of, value_at, walk, walk_by, ◌++◌, ◌∷◌}
use Rattle.zone_wire.proofs.Names.Computing.{reads}
use Rattle.zone_wire.proofs.examples.messages_with_two_faults.Goals as goal

pub returns : goal.returns
unfolding stream_records next_message sections_of header_fault value_at data_at strings_of own_record answer_record outcome standing_in walk_by walk
returns c = record {
  query_cut_off = reads ((0 ∷ 1 ∷ 4 ∷ 0 ∷ []) ∷ []) [] _ refl refl refl refl;
  truncated_query = reads (((0 ∷ 1 ∷ 6 ∷ 0 ∷ 0 ∷ 1 ∷ 0 ∷ 3 ∷ 0 ∷ 0 ∷ 0 ∷ 0 ∷ []) ++ small_body) ∷ []) [] _ refl refl refl refl;
  truncated_error = reads (((0 ∷ 1 ∷ 134 ∷ 5 ∷ 0 ∷ 1 ∷ 0 ∷ 3 ∷ 0 ∷ 0 ∷ 0 ∷ 0 ∷ []) ++ small_body) ∷ []) [] _ refl refl refl refl;
  error_with_two_questions = reads (((0 ∷ 1 ∷ 132 ∷ 5 ∷ 0 ∷ 2 ∷ 0 ∷ 3 ∷ 0 ∷ 0 ∷ 0 ∷ 0 ∷ []) ++ small_body) ∷ []) [] _ refl refl refl refl;
  trailing_under_other_id = reads (first_message ∷ (0 ∷ 2 ∷ 132 ∷ 0 ∷ 0 ∷ 0 ∷ 0 ∷ 0 ∷ 0 ∷ 0 ∷ 0 ∷ 0 ∷ 0 ∷ []) ∷ []) [] _ refl refl refl refl;
  question_under_other_id = reads (first_message ∷ ((0 ∷ 2 ∷ 132 ∷ 0 ∷ 0 ∷ 1 ∷ 0 ∷ 0 ∷ 0 ∷ 0 ∷ 0 ∷ 0 ∷ []) ++ 1 ∷ 121 ∷ 0 ∷ 0 ∷ 252 ∷ 0 ∷ 1 ∷ []) ∷ []) [] _ refl refl refl refl;
}
