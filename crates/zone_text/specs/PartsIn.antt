-- The parts of a record after its owner, as the code holds them.
use Rattle.std.specs.Prelude.{◌≡◌, map, option_map}
use Rattle.zone_rdata.specs.Item.{raw}
use Rattle.zone_text.specs.Statements.{Parts, ttl_among, class_among}
use Rattle.zone_text.specs.declared.parts.RecordParts.{RecordParts}

-- the texts of the TTL and the class among the words, and the items from the type on
pub record ArePartsIn (parts : Parts) (found : RecordParts) : Type 0 where
  pub ttl : ttl_among parts.words ≡ option_map (λ text. text.now) found.ttl
  pub class : class_among parts.words ≡ option_map (λ text. text.now) found.class
  pub rest : parts.rest ≡ map raw found.rest.now
