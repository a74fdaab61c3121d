-- A prefix's text, without the `!` that may begin it; a prefix at the front of octets.
use Rattle.std.specs.Prelude.{◌≡◌, ℕ, ◌*◌, ◌≤◌, List, [], ◌∷◌, ◌++◌, length, Bool, false}
use Rattle.zone_rdata.specs.Item.{RawItem, bare, quoted}
use Rattle.type_data.specs.Kinds.Prefixes.{IsAddress, IsPrefixOctets, IsTrimmed, SpellsPrefix, family_of, mark, octets_of}
use Rattle.type_data.specs.declared.kinds.prefixes.Address.{Address}
use Rattle.type_data.specs.declared.kinds.prefixes.Prefix.{Prefix}

abbrev pub BeginsWithMark : List ℕ → Type 0
BeginsWithMark [] = ⊥
BeginsWithMark (c ∷ text) = c ≡ 33

-- the mark, or none where the text begins with none
pub record IsAfterMark (text : List ℕ) (negated : Bool) (rest : List ℕ) : Type 0 where
  pub parts : text ≡ mark negated ++ rest
  pub first : negated ≡ false → BeginsWithMark text → ⊥

abbrev pub IsItemPrefix : RawItem → Prefix → Type 0
IsItemPrefix (bare text) p = SpellsPrefix text p
IsItemPrefix (quoted text) p = ⊥

-- the address of a family of which `part` is without the zeros that end it
pub record IsAddressIn (family : ℕ) (part : List ℕ) (a : Address) : Type 0 where
  pub own : family_of a ≡ family
  pub trimmed : IsTrimmed (octets_of a) part
  pub is : IsAddress a

-- a prefix's octets stand at the front of others, and `rest` is left
pub record BeginsWithPrefix (octets : List ℕ) (p : Prefix) (rest : List ℕ) : Type 0 where
  pub front : List ℕ
  pub address : IsAddress p.address
  pub few : p.bits ≤ 8 * length (octets_of p.address)
  pub value : IsPrefixOctets p front
  pub whole : octets ≡ front ++ rest
