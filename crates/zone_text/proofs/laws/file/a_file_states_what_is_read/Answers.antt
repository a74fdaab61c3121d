use Rattle.zone_text.proofs.Files.Decides.{file_states_read, file_reads_state}
use Rattle.zone_text.proofs.laws.file.a_file_states_what_is_read.Goals as goal

pub returns : goal.returns
returns c = λ origin octets placed. (file_states_read origin octets placed, file_reads_state origin octets placed)
