-- Items whose texts are read as one: white space may part digits anywhere (RFC 4034 2.2, 5.3).
use Rattle.std.specs.Prelude.{◌≡◌, ℕ, List, [], ◌∷◌, ⊤}
use Rattle.std.specs.List.{AllByRecursion, flat_map}
use Rattle.zone_rdata.specs.Item.{RawItem, bare, quoted}
use Rattle.zone_rdata.specs.Strings.{item_text}
use Rattle.type_data.specs.Fault.{NothingStated}
use Rattle.type_data.specs.declared.fault.WordsFault.{WordsFault}
use Rattle.type_data.specs.declared.fault.WordsFault.TheVariants.{NothingLeft}

-- no quotes enclose the item
abbrev pub IsBare : RawItem → Type 0
IsBare (bare text) = ⊤
IsBare (quoted text) = ⊥

-- the items are bare, and the text is their texts, one after the other
pub record Joined (items : List RawItem) (text : List ℕ) : Type 0 where
  pub each : AllByRecursion IsBare items
  pub joins : text ≡ flat_map item_text items

-- the joined text of the items stands for the octets
pub record StatesJoined (StandsFor : List ℕ → List ℕ → Type 0) (items : List RawItem)
    (octets : List ℕ) : Type 0 where
  pub text : List ℕ
  pub joined : Joined items text
  pub stands : StandsFor text octets

-- no item is left, or those that are left state nothing, which is the field's own fault
abbrev pub FailsAs : WordsFault → (List RawItem → List ℕ → Type 0) → List RawItem → WordsFault
    → Type 0
FailsAs own States [] fault = fault ≡ NothingLeft
FailsAs own States (item ∷ items) fault = NothingStated own (States (item ∷ items)) fault

-- one bare item, whose text is the one that is printed for the octets
abbrev pub PrintsOneItem : (List ℕ → List ℕ → Type 0) → List RawItem → List ℕ → Type 0
PrintsOneItem Prints items octets =
    (text : List ℕ) × Prints text octets × (items ≡ bare text ∷ [])
