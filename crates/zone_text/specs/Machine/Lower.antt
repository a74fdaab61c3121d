-- The laws of names, words and data on which those of entries stand.
use Rattle.std.specs.Prelude.{◌≡◌, ◌⊎◌, ℕ, List, Some}
use Rattle.std.specs.List.{AllByRecursion}
use Rattle.zone_name.specs.Common.{Labels, AreOctets}
use Rattle.zone_name.specs.Name.{IsName}
use Rattle.zone_name.specs.Spelling.{Spells, SpellingFault}
use Rattle.zone_name.specs.declared.fault.NameFault.{NameFault}
use Rattle.zone_rdata.specs.DataFault.{IsDataFault}
use Rattle.zone_rdata.specs.Layout.{IsData}
use Rattle.zone_rdata.specs.Number.{IsTime}
use Rattle.zone_rdata.specs.Spelling.{RawItem, States}
use Rattle.zone_rdata.specs.Strings.{item_text}
use Rattle.zone_rdata.specs.Words.{IsClassWord, IsKind, IsKindWord, IsWordFault}
use Rattle.zone_rdata.specs.declared.fault.Fault.{Fault}

-- the relation holds of one value at most
abbrev pub Once : (A : Type 0) → (A → Type 0) → Type 0
Once A P = (a b : A) → P a → P b → a ≡ b

pub record Lower : Type 0 where
  pub name : (above : Labels) (text : List ℕ) → Once Labels (Spells (Some above) text)
  pub name_or_fault : (above : Labels) (text : List ℕ) (name : Labels)
      (fault : NameFault) → Spells (Some above) text name → SpellingFault (Some above) text fault
      → ⊥
  pub name_fault : (above : Labels) (text : List ℕ)
      → Once NameFault (SpellingFault (Some above) text)
  pub time : (text : List ℕ) → Once ℕ (IsTime text)
  pub class : (word : List ℕ) → Once ℕ (IsClassWord word)
  pub kind : (word : List ℕ) → Once ℕ (IsKindWord word)
  pub kind_or_fault : (word : List ℕ) (n : ℕ) (fault : Fault) → IsKindWord word n → IsKind n
      → IsWordFault word fault → ⊥
  pub kind_fault : (word : List ℕ) → Once Fault (IsWordFault word)
  pub rdata : (above : Labels) (class kind : ℕ) (items : List RawItem)
      → Once (List ℕ) (States above class kind items)
  pub rdata_or_fault : (above : Labels) (class kind : ℕ) (items : List RawItem)
      (octets : List ℕ) (fault : Fault) → States above class kind items octets
      → IsDataFault above class kind items fault → ⊥
  pub rdata_fault : (above : Labels) (class kind : ℕ) (items : List RawItem)
      → Once Fault (IsDataFault above class kind items)

-- Each text of octets, word and list of items has its value or its first fault.
pub record Choices : Type 0 where
  pub name : (above : Labels) (text : List ℕ) → IsName above → AreOctets text
      → ((name : Labels) × Spells (Some above) text name)
      ⊎ ((fault : NameFault) × SpellingFault (Some above) text fault)
  pub time : (text : List ℕ) → ((seconds : ℕ) × IsTime text seconds)
      ⊎ ((seconds : ℕ) → IsTime text seconds → ⊥)
  pub kind : (word : List ℕ) → ((n : ℕ) × (IsKindWord word n × IsKind n))
      ⊎ ((fault : Fault) × IsWordFault word fault)
  pub rdata : (above : Labels) (class kind : ℕ) (items : List RawItem) → IsName above
      → AllByRecursion (λ item. AreOctets (item_text item)) items
      → ((octets : List ℕ) × States above class kind items octets)
      ⊎ ((fault : Fault) × IsDataFault above class kind items fault)
  pub stated : (above : Labels) (class kind : ℕ) (items : List RawItem) (octets : List ℕ)
      → States above class kind items octets → IsData class kind octets
