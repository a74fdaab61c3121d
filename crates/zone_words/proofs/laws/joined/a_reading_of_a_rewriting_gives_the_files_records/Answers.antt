use Rattle.zone_words.proofs.JoinedFaults.{file_read}
use Rattle.zone_words.proofs.laws.joined.a_reading_of_a_rewriting_gives_the_files_records.Goals as goal

pub returns : goal.returns
returns c cased origin = file_read c.an_entry_has_one_outcome.ensures.record_or_fault c.an_entry_has_one_outcome.ensures.nothing_or_fault cased origin
