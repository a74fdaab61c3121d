use Rattle.zone_words.proofs.Common.{refl}
use Rattle.zone_words.proofs.FedTexts.{new_written}
use Rattle.zone_words.proofs.fed_writer.FedWriter.new.Goals as goal

pub returns-clause-so_far : goal.returns-clause-so_far
returns-clause-so_far c = new_written _ _ refl c.new-2.ensures.octets c.new.ensures.written c.new.ensures.line c.new.ensures.inherited c.new.ensures.first c.new.ensures.count
