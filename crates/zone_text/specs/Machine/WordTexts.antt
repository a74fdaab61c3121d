-- The texts of the words before a record's type as they are found, from the left.
use Rattle.std.specs.Prelude.{◌≡◌, List, option_map}
use Rattle.zone_text.specs.Statements.{Word, ttl_among, class_among}
use Rattle.zone_text.specs.declared.parts.RecordParts.{RecordParts}

-- these are the texts of the words
pub record HaveTexts (words : List Word) (texts : RecordParts) : Type 0 where
  pub ttl : ttl_among words ≡ option_map (λ text. text.now) texts.ttl
  pub class : class_among words ≡ option_map (λ text. text.now) texts.class
