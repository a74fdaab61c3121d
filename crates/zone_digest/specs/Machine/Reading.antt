-- What is read of ZONEMD records.
use Rattle.std.specs.Prelude.{◌≡◌, ◌≢◌, List, [], ◌∷◌, ◌⊎◌}
use Rattle.zone_rdata.specs.Record.{Record}
use Rattle.zone_digest.specs.Verdict.{Fields, HasFields}
use Rattle.zone_digest.specs.declared.fields.ParsedFields.{ParsedFields}

abbrev pub fields_of : ParsedFields → Fields
fields_of p = record {
  serial = p.serial.now;
  scheme = p.scheme;
  algorithm = p.algorithm;
  digest = p.digest.now;
}

-- other data than the record's, with this scheme and hash algorithm
abbrev pub IsOtherLike : Record → Fields → Record → Type 0
IsOtherLike r f other = (other.octets ≢ r.octets) × ((g : Fields) × HasFields other.octets g
    × (g.scheme ≡ f.scheme) × (g.algorithm ≡ f.algorithm))

-- one of the records is so
abbrev pub HasOtherLike : List Record → Record → Fields → Type 0
HasOtherLike [] r f = ⊥
HasOtherLike (other ∷ records) r f = IsOtherLike r f other ⊎ HasOtherLike records r f
