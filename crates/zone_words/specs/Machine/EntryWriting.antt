-- What one more entry makes of what is written and told.
use Rattle.std.specs.Prelude.{◌≡◌, ℕ, ◌+◌, List, ◌∷◌, ◌++◌, count_by, ◌==◌}
use Rattle.std.specs.List.{flat_map}
use Rattle.zone_name.specs.Common.{Labels}
use Rattle.zone_rdata.specs.Item.{RawItem}
use Rattle.zone_text.specs.Entries.{Entry, entry_of, item_of}
use Rattle.zone_text.specs.Kept.{AreKept}
use Rattle.zone_text.specs.Tokens.{Token, Cuts, text}
use Rattle.zone_words.specs.Entry.{BecomesUnder}
use Rattle.zone_words.specs.Inherited.{IsInherited}
use Rattle.zone_words.specs.Refusal.{AddsTold}
use Rattle.zone_words.specs.Rewriting.{Outcome}
use Rattle.zone_words.specs.declared.entry_writer.EntryWriter.{EntryWriter}

-- what becomes of the entry of these tokens is written and told, and what it leaves is held
pub record IsPushed (origin : Labels) (before : List Entry) (tokens : List Token)
    (old new : EntryWriter) : Type 0 where
  pub outcome : Outcome
  pub becomes : BecomesUnder origin before old.line tokens outcome
  pub written : new.written.items ≡ old.written.items ++ text outcome.written
  pub told : AddsTold outcome.told old.refusals new.refusals
  pub inherited : IsInherited origin (entry_of old.line tokens ∷ before) new.inherited
  pub line : new.line ≡ old.line + count_by (λ c. c == 10) (text tokens)

-- it is so for whatever tokens the octets are cut into, of whose items these are kept, and whatever
-- entries before them left what was held
abbrev pub PushesEntry : List ℕ → List RawItem → EntryWriter → EntryWriter → Type 0
PushesEntry octets kept old new =
    (origin : Labels) (before : List Entry) (tokens : List Token)
    → IsInherited origin before old.inherited → Cuts octets tokens
    → AreKept (flat_map item_of tokens) kept → IsPushed origin before tokens old new
