use Rattle.zone_text.proofs.Files.Decides.{file_reads_once}
use Rattle.zone_text.proofs.laws.file.a_file_has_one_reading.Goals as goal

pub returns : goal.returns
returns c = file_reads_once c.lower_laws.ensures
