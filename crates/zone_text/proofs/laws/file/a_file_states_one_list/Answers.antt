use Rattle.zone_text.proofs.Files.Decides.{file_reads_once, file_states_read}
use Rattle.zone_text.proofs.Common.{None}
use Rattle.zone_text.proofs.laws.file.a_file_states_one_list.Goals as goal

pub returns : goal.returns
returns c = λ origin octets a b x y. (file_reads_once c.lower_laws.ensures origin octets a b None None (file_states_read origin octets a x) (file_states_read origin octets b y)).0
