-- The words of classes and types (RFC 1035 3.2.2, 3.2.4; RFC 3597 5), read in any case, and those
-- that are printed.
use Rattle.std.specs.Prelude.{◌≡◌, ◌≢◌, ℕ, ◌<◌, ◌≤◌, List, codes, ◌++◌, decimal, ◌==◌, ◌&&◌, ◌||◌, nat_le, Bool, false, Option, Some, None}
use Rattle.zone_name.specs.Name.{folded_label}
use Rattle.zone_rdata.specs.declared.fault.Fault.{Fault}
use Rattle.zone_rdata.specs.declared.fault.Fault.TheVariants.{UnknownType, MetaType}
use Rattle.zone_rdata.specs.declared.field.Field.{Field}
use Rattle.zone_rdata.specs.Number.{IsDecimal}
use Rattle.zone_rdata.specs.Layout.{layout}
use Rattle.zone_rdata.specs.Table.{Named, classes, type_names, mnemonic_among}

-- a class that can hold zone data: not 0, NONE 254, ANY 255 (RFC 6895 3.2)
pub record IsClass (n : ℕ) : Type 0 where
  pub short : n < 65536
  pub not_zero : n ≢ 0
  pub not_none : n ≢ 254
  pub not_any : n ≢ 255

-- a type that no record has: 0, OPT 41 and the query and meta types 128 to 255 (RFC 6895 3.1)
abbrev pub is_meta : ℕ → Bool
is_meta n = n == 0 || n == 41 || (nat_le 128 n && nat_le n 255)

-- a type of which records can be
pub record IsKind (n : ℕ) : Type 0 where
  pub short : n < 65536
  pub stored : is_meta n ≡ false

-- a name in any letter case, and a number in decimal digits right after it
pub record IsNumbered (name word : List ℕ) (n : ℕ) : Type 0 where
  pub front : List ℕ
  pub digits : List ℕ
  pub parts : word ≡ front ++ digits
  pub named : folded_label front ≡ folded_label name
  pub number : IsDecimal digits n

-- the mnemonic of a class
abbrev pub class_mnemonic : ℕ → Option (List ℕ)
class_mnemonic n = mnemonic_among classes n

-- the mnemonic of a type
abbrev pub kind_mnemonic : ℕ → Option (List ℕ)
kind_mnemonic n = mnemonic_among type_names n

-- the word is the mnemonic of the number in any case
pub record IsMnemonic (rows : List Named) (word : List ℕ) (n : ℕ) : Type 0 where
  pub name : List ℕ
  pub row : mnemonic_among rows n ≡ Some name
  pub same : folded_label word ≡ folded_label name

-- the word of a number, however great it is: its mnemonic, or a name and then the number
pub data IsWordAmong (rows : List Named) (name word : List ℕ) (n : ℕ) : Type 0 where
  by_mnemonic : IsMnemonic rows word n → IsWordAmong rows name word n
  by_number : IsNumbered name word n → IsWordAmong rows name word n

-- the word of a class by its number
abbrev pub IsClassWord : List ℕ → ℕ → Type 0
IsClassWord = IsWordAmong classes (codes "CLASS")

-- the word of a type by its number
abbrev pub IsKindWord : List ℕ → ℕ → Type 0
IsKindWord = IsWordAmong type_names (codes "TYPE")

abbrev pub word_or_numbered : Option (List ℕ) → List ℕ → ℕ → List ℕ
word_or_numbered None name n = name ++ decimal n
word_or_numbered (Some word) name n = word

-- the word that is printed for a class
abbrev pub class_text : ℕ → List ℕ
class_text n = word_or_numbered (class_mnemonic n) (codes "CLASS") n

-- the mnemonic where the class and type have a layout
abbrev pub laid_out_mnemonic : Option (List Field) → ℕ → Option (List ℕ)
laid_out_mnemonic None n = None
laid_out_mnemonic (Some fields) n = kind_mnemonic n

-- the word that is printed for a type in a class
abbrev pub kind_text : ℕ → ℕ → List ℕ
kind_text class n = word_or_numbered (laid_out_mnemonic (layout class n) n) (codes "TYPE") n

-- why a word is the word of no type of which records can be
pub data IsWordFault (word : List ℕ) : Fault → Type 0 where
  nameless : ((n : ℕ) → IsKindWord word n → ⊥) → IsWordFault word UnknownType
  beyond : (n : ℕ) → IsKindWord word n → 65536 ≤ n → IsWordFault word UnknownType
  for_queries : (n : ℕ) → IsKindWord word n → n < 65536 → (IsKind n → ⊥) → IsWordFault word MetaType
