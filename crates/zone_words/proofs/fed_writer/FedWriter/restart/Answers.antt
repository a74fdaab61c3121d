use Rattle.zone_words.proofs.Common.{refl}
use Rattle.zone_words.proofs.FedTexts.{new_written}
use Rattle.zone_words.proofs.fed_writer.FedWriter.restart.Goals as goal

pub returns-clause-so_far : goal.returns-clause-so_far
returns-clause-so_far c = new_written _ _ refl c.clear.ensures.octets c.restart.ensures.written c.restart.ensures.line c.restart.ensures.inherited c.restart.ensures.first c.restart.ensures.count
