-- The canonical text of a zone: a line for each record, in canonical order.
use Rattle.std.specs.Prelude.{ℕ, List, [], ◌∷◌, ◌++◌, decimal}
use Rattle.std.specs.List.{flat_map}
use Rattle.zone_name.specs.Text.{name_text}
use Rattle.zone_rdata.specs.Words.{class_text, kind_text}
use Rattle.zone_rdata.specs.Record.{Record, data_of}
use Rattle.zone_rdata.specs.Text.{data_text}
use Rattle.zone_set.specs.Zone.{Zone}

-- owner, TTL, class, type and data, parted by single spaces, and a line feed
abbrev pub line : Record → List ℕ
line r =
    name_text r.owner ++ 32 ∷ decimal r.ttl ++ 32 ∷ class_text r.class
    ++ 32 ∷ kind_text r.class r.kind ++ 32 ∷ data_text (data_of r) ++ 10 ∷ []

-- the lines of records in their order
abbrev pub lines : List Record → List ℕ
lines records = flat_map line records

-- the canonical text: the lines of the zone's one strictly ascending list
abbrev pub canon : Zone → List ℕ
canon z = lines z.records

-- how long an input and a canonical text may be, in octets
abbrev pub text_limit : ℕ
text_limit = 1073741824
