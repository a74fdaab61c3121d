-- The types and the classes that have a mnemonic, a row each (RFC 1035 3.2.2, 3.2.4). Which ones
-- are read is this project's own choice.
use Rattle.std.specs.Prelude.{ℕ, List, [], ◌∷◌, Bool, true, ◌==◌, ◌&&◌, nat_lt, bytes_eq, codes, map, Option, option_map}
use Rattle.std.specs.List.{find}
use Rattle.zone_name.specs.Name.{folded_label}
use Rattle.zone_rdata.specs.declared.field.Field.{Field}
use Rattle.zone_rdata.specs.declared.field.Field.TheVariants.{Name, Serial, Time, U16, Octets, OneString, Strings}

-- the number of class IN
abbrev pub in_class : ℕ
in_class = 1

-- a number and the mnemonic that stands for it
pub record Named : Type 0 where
  pub number : ℕ
  pub mnemonic : List ℕ

-- a type: its number, its mnemonic, and its fields in every class or in class IN alone
pub data NamedType : Type 0 where
  in_every : ℕ → List ℕ → List Field → NamedType
  in_one : ℕ → List ℕ → List Field → NamedType

-- the classes, their numbers ascending (RFC 1035 3.2.4)
abbrev pub classes : List Named
classes =
    record { number = 1; mnemonic = codes "IN" }
    ∷ record { number = 2; mnemonic = codes "CS" }
    ∷ record { number = 3; mnemonic = codes "CH" }
    ∷ record { number = 4; mnemonic = codes "HS" }
    ∷ []

-- the types, their numbers ascending (RFC 1035 3.3, 3.4.1, and as noted)
abbrev pub types : List NamedType
types =
    in_one 1 (codes "A") (Octets 4 ∷ [])
    ∷ in_every 2 (codes "NS") (Name ∷ [])
    ∷ in_every 5 (codes "CNAME") (Name ∷ [])
    ∷ in_every 6 (codes "SOA") (Name ∷ Name ∷ Serial ∷ Time ∷ Time ∷ Time ∷ Time ∷ [])
    ∷ in_every 12 (codes "PTR") (Name ∷ [])
    ∷ in_every 15 (codes "MX") (U16 ∷ Name ∷ [])
    ∷ in_every 16 (codes "TXT") (Strings ∷ [])
    ∷ in_one 28 (codes "AAAA") (Octets 16 ∷ [])  -- RFC 3596 2.2
    ∷ in_every 33 (codes "SRV") (U16 ∷ U16 ∷ U16 ∷ Name ∷ [])  -- RFC 2782
    ∷ in_every 35 (codes "NAPTR")
    (U16 ∷ U16 ∷ OneString ∷ OneString ∷ OneString ∷ Name ∷ [])  -- RFC 3403 4.1
    ∷ []

abbrev pub named : NamedType → Named
named (in_every number mnemonic fields) = record { number = number; mnemonic = mnemonic }
named (in_one number mnemonic fields) = record { number = number; mnemonic = mnemonic }

-- the numbers and mnemonics of the types
abbrev pub type_names : List Named
type_names = map named types

-- the mnemonic of a number
abbrev pub mnemonic_among : List Named → ℕ → Option (List ℕ)
mnemonic_among rows n = option_map (λ row. row.mnemonic) (find (λ row. n == row.number) rows)

-- the number of a mnemonic in any case
abbrev pub number_among : List Named → List ℕ → Option ℕ
number_among rows word =
    option_map (λ row. row.number)
    (find (λ row. bytes_eq (folded_label word) (folded_label row.mnemonic)) rows)

-- the numbers ascend from above one
abbrev pub ascend : ℕ → List Named → Bool
ascend above [] = true
ascend above (row ∷ rows) = nat_lt above row.number && ascend row.number rows

-- the numbers ascend
abbrev pub ascends : List Named → Bool
ascends [] = true
ascends (row ∷ rows) = ascend row.number rows
