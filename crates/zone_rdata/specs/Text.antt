-- The canonical text of record data: its items, parted by single spaces (RFC 1035 5.1; RFC 3597 5).
use Rattle.std.specs.Prelude.{ℕ, List, [], ◌∷◌, ◌++◌, length, map, codes, decimal, Option, Some, None}
use Rattle.std.specs.List.{flat_map, join_with_byte}
use Rattle.hex.specs.Hex.{encode_lower}
use Rattle.zone_rdata.specs.declared.field.Field.{Field}
use Rattle.zone_rdata.specs.Field.{field_items, values_of}
use Rattle.zone_rdata.specs.Generic.{generic_items}
use Rattle.zone_rdata.specs.Item.{RawItem, bare, quoted}
use Rattle.zone_rdata.specs.Layout.{layout}
use Rattle.zone_rdata.specs.Record.{Data}

-- an item as it is written, a quoted one in its quotes
abbrev pub written_item : RawItem → List ℕ
written_item (bare text) = text
written_item (quoted text) = 34 ∷ text ++ 34 ∷ []

abbrev pub laid_out_items : Option (List Field) → List ℕ → List RawItem
laid_out_items None octets = generic_items octets
laid_out_items (Some fields) octets = flat_map field_items (values_of fields octets)

-- those of each field in order, and opaque octets in the generic form
abbrev pub data_items : Data → List RawItem
data_items d = laid_out_items (layout d.class d.kind) d.octets

abbrev pub data_text : Data → List ℕ
data_text d = join_with_byte 32 (map written_item (data_items d))

-- opaque octets in the generic form (RFC 3597 5)
abbrev pub generic_text : List ℕ → List ℕ
generic_text [] = codes "\\# 0"
generic_text (c ∷ octets) =
    codes "\\# " ++ decimal (length (c ∷ octets)) ++ 32 ∷ encode_lower (c ∷ octets)
