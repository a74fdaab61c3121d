use Rattle.zone_wire.proofs.Common.{[], answer_record, data_at, header_fault, next_message, outcome, own_record, refl, sections_of, standing_in, stream_records, strings_of, value_at, walk, walk_by}
use Rattle.zone_wire.proofs.Names.Computing.{reads, with_type}
use Rattle.zone_wire.proofs.examples.types_with_compressed_names.Goals as goal

pub returns : goal.returns
unfolding stream_records next_message sections_of header_fault value_at data_at strings_of own_record answer_record outcome standing_in walk_by walk
returns c = (reads (with_type 3) [] _ refl refl refl refl, (reads (with_type 4) [] _ refl refl refl refl, (reads (with_type 7) [] _ refl refl refl refl, (reads (with_type 8) [] _ refl refl refl refl, (reads (with_type 9) [] _ refl refl refl refl, (reads (with_type 14) [] _ refl refl refl refl, (reads (with_type 17) [] _ refl refl refl refl, (reads (with_type 18) [] _ refl refl refl refl, (reads (with_type 21) [] _ refl refl refl refl, (reads (with_type 24) [] _ refl refl refl refl, (reads (with_type 26) [] _ refl refl refl refl, (reads (with_type 30) [] _ refl refl refl refl, tt))))))))))))
