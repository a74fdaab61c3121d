-- Types by their words, which a bitmap has (RFC 4034 4.1.2).
use Rattle.std.specs.Prelude.{◌≡◌, ℕ, ◌<◌, ◌⊎◌, List, [], ◌∷◌, length, map}
use Rattle.std.specs.List.{AllByRecursion, Contains}
use Rattle.std.specs.List.Sorted.{IsStrictlyIncreasing}
use Rattle.zone_rdata.specs.Item.{RawItem, bare, quoted}
use Rattle.zone_rdata.specs.Words.{IsKind}
use Rattle.type_data.specs.Fault.{NothingStated}
use Rattle.type_data.specs.Kinds.Bitmap.{IsBitmapOf}
use Rattle.type_data.specs.Kinds.Joined.{FailsAs}
use Rattle.type_data.specs.Kinds.Word.{type_word}
use Rattle.type_data.specs.Mnemonics.{IsTypeWord}
use Rattle.type_data.specs.declared.fault.WordsFault.{WordsFault}
use Rattle.type_data.specs.declared.fault.WordsFault.TheVariants.{NotAType}
pub mod Machine

-- the item is the word of the type
abbrev pub NamesType : RawItem → ℕ → Type 0
NamesType (bare word) n = IsTypeWord word n
NamesType (quoted text) n = ⊥

abbrev pub NamesAType : RawItem → Type 0
NamesAType item = (n : ℕ) × NamesType item n

-- one of the items is the word of the type
abbrev pub NameType : List RawItem → ℕ → Type 0
NameType [] n = ⊥
NameType (item ∷ items) n = NamesType item n ⊎ NameType items n

-- each item is the word of a type, and the bitmap has these types: in any order, and more than once
pub record StatesPerhapsTypes (items : List RawItem) (octets : List ℕ) : Type 0 where
  pub each : AllByRecursion NamesAType items
  pub bitmap : IsBitmapOf (NameType items) octets

-- the same of one item or more
pub record StatesTypes (items : List RawItem) (octets : List ℕ) : Type 0 where
  pub some : 0 < length items
  pub types : StatesPerhapsTypes items octets

abbrev pub FailsPerhapsTypes : List RawItem → WordsFault → Type 0
FailsPerhapsTypes items fault = NothingStated NotAType (StatesPerhapsTypes items) fault

abbrev pub FailsTypes : List RawItem → WordsFault → Type 0
FailsTypes items fault = FailsAs NotAType StatesTypes items fault

abbrev pub type_item : ℕ → RawItem
type_item n = bare (type_word n)

-- The words of the types that a bitmap has, ascending. Records can be of each (RFC 4034 4.1.2).
pub record PrintsPerhapsTypes (items : List RawItem) (octets : List ℕ) : Type 0 where
  pub types : List ℕ
  pub ascending : IsStrictlyIncreasing types
  pub kinds : AllByRecursion IsKind types
  pub bitmap : IsBitmapOf (Contains types) octets
  pub words : items ≡ map type_item types

-- the same of one type or more
pub record PrintsTypes (items : List RawItem) (octets : List ℕ) : Type 0 where
  pub some : 0 < length items
  pub types : PrintsPerhapsTypes items octets
