-- Entries whose outcome is known (RFC 1035 5.1), and items of octets.
use Rattle.std.specs.Prelude.{List, [], ◌∷◌, ⊤, ◌⊎◌}
use Rattle.std.specs.List.{AllByRecursion}
use Rattle.zone_name.specs.Common.{Labels, AreOctets}
use Rattle.zone_rdata.specs.Record.{Record}
use Rattle.zone_rdata.specs.Spelling.{RawItem}
use Rattle.zone_rdata.specs.Strings.{item_text}
use Rattle.zone_text.specs.Entries.{Entry}
use Rattle.zone_text.specs.Statements.{statement_of}
use Rattle.zone_text.specs.Records.{StatesNothing, EntryStates}

-- each entry states nothing or a record, those before it known, the latest first
abbrev pub AllState : Labels → List Entry → Type 0
AllState origin [] = ⊤
AllState origin (entry ∷ before) =
    (StatesNothing origin before (statement_of entry)
    ⊎ ((r : Record) × EntryStates origin before entry r)) × AllState origin before

-- items of octets
abbrev pub AreOctetItems : List RawItem → Type 0
AreOctetItems items = AllByRecursion (λ item. AreOctets (item_text item)) items
