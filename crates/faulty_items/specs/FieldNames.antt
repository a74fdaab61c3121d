-- The fields of the types that zone_rdata lays out, by their names in the RFC of the type, in lower
-- case.
use Rattle.std.specs.Prelude.{ℕ, List, [], ◌∷◌, codes, ◌==◌, if◌then◌else◌, slice_get, Option, Some, None}

-- the names of a type's fields, in order (RFC 1035 3.3, 3.4.1, and as noted)
abbrev pub field_names : ℕ → List (List ℕ)
field_names kind =
    if kind == 1 then codes "address" ∷ []
    else if kind == 2 then codes "nsdname" ∷ []
    else if kind == 5 then codes "cname" ∷ []
    else if kind == 6 then codes "mname" ∷ codes "rname" ∷ codes "serial" ∷ codes "refresh"
    ∷ codes "retry" ∷ codes "expire" ∷ codes "minimum" ∷ []
    else if kind == 12 then codes "ptrdname" ∷ []
    else if kind == 15 then codes "preference" ∷ codes "exchange" ∷ []
    else if kind == 16 then codes "txt-data" ∷ []
    else if kind == 28 then codes "address" ∷ []  -- RFC 3596 2.2
    else if kind == 33 then codes "priority" ∷ codes "weight" ∷ codes "port" ∷ codes "target" ∷ []  -- RFC 2782
    else if kind == 35 then codes "order" ∷ codes "preference" ∷ codes "flags" ∷ codes "services"
    ∷ codes "regexp" ∷ codes "replacement" ∷ []  -- RFC 3403 4.1
    else []

abbrev pub or_data : Option (List ℕ) → List ℕ
or_data None = codes "data"
or_data (Some name) = name

-- the name of the field at a place, from 0; `data` where it has none
abbrev pub field_name : ℕ → ℕ → List ℕ
field_name kind place = or_data (slice_get (field_names kind) place)
