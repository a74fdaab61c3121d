use Rattle.zone_wire.proofs.Common.{[], answer_record, data_at, header_fault, next_message, outcome, own_record, refl, sections_of, standing_in, stream_records, strings_of, value_at, walk, walk_by}
use Rattle.zone_wire.proofs.Names.Computing.{reads, with_type}
use Rattle.zone_wire.proofs.examples.types_of_no_record.Goals as goal

pub returns : goal.returns
unfolding stream_records next_message sections_of header_fault value_at data_at strings_of own_record answer_record outcome standing_in walk_by walk
returns c = (reads (with_type 0) [] _ refl refl refl refl, (reads (with_type 41) [] _ refl refl refl refl, (reads (with_type 128) [] _ refl refl refl refl, (reads (with_type 255) [] _ refl refl refl refl, tt))))
