-- The words before a record's type as they are read, from the left.
use Rattle.std.specs.Prelude.{◌≡◌, List, None, MatchOption, IsSomeAnd}
use Rattle.std.specs.List.{AllByRecursion}
use Rattle.zone_rdata.specs.Spelling.{RawItem}
use Rattle.zone_rdata.specs.Words.{IsClassWord}
use Rattle.zone_text.specs.ParserState.{IsTtlOrNone}
use Rattle.zone_text.specs.Statements.{Word, Parts, ttl_among, class_among}
use Rattle.zone_text.specs.Records.{HasValue}
use Rattle.zone_text.specs.declared.words.Words.{Words}

-- each of the words has a value, and these are the values
pub record HaveValues (words : List Word) (values : Words) : Type 0 where
  pub each : AllByRecursion HasValue words
  pub ttl : IsTtlOrNone (ttl_among words) values.ttl
  pub class : MatchOption (class_among words) (values.class ≡ None)
      (λ word. IsSomeAnd values.class (IsClassWord word))

-- the parts are words of these values and the items from the type on
pub record AreWordsOf (parts : Parts) (values : Words) (left : List RawItem) : Type 0 where
  pub words : HaveValues parts.words values
  pub rest : parts.rest ≡ left
