-- The canonical text of a record.
use Rattle.std.specs.Prelude.{ℕ, List, ◌∷◌, ◌++◌, decimal}
use Rattle.zone_name.specs.Text.{name_text}
use Rattle.zone_rdata.specs.Record.{Record, data_of}
use Rattle.zone_rdata.specs.Text.{data_text}
use Rattle.zone_rdata.specs.Words.{class_text, kind_text}

-- owner, TTL, class, type and data, parted by single spaces
abbrev pub record_text : Record → List ℕ
record_text r =
    name_text r.owner ++ 32 ∷ decimal r.ttl ++ 32 ∷ class_text r.class
    ++ 32 ∷ kind_text r.class r.kind ++ 32 ∷ data_text (data_of r)
