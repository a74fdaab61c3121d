-- Where a reading of data of a further type in presentation format stops.
use Rattle.std.specs.Prelude.{◌≡◌, ◌⊎◌, ℕ, List, [], ◌∷◌, ◌++◌, codes, true, false, Option, Some, None, option_map}
use Rattle.std.specs.List.{Any}
use Rattle.zone_name.specs.Common.{Labels}
use Rattle.zone_rdata.specs.Item.{RawItem, bare, quoted}
use Rattle.type_data.specs.Data.{DataFails, StatesData, joined}
use Rattle.type_data.specs.DataItem.{TouchingItem}
use Rattle.type_data.specs.Field.{items_after, own_items}
use Rattle.type_data.specs.Table.{NamedField}
use Rattle.type_data.specs.declared.fault.WordsFault.{WordsFault}
use Rattle.type_data.specs.declared.fault.WordsFault.TheVariants.{ItemsLeftOver, MandatoryKeyMissing, NothingLeft, TooLong}
use Rattle.type_data.specs.declared.field.FieldKind.{FieldKind}
use Rattle.type_data.specs.declared.field.FieldKind.TheVariants.{Base64, Hex, Location, Parameters}
use Rattle.faulty_items.specs.StopsAt.{StopsAt}

-- ---- how items of a field may go on

-- bare items, parted from those before them
abbrev pub parted : List (List ℕ) → List TouchingItem
parted [] = []
parted (text ∷ texts) = record { item = bare text; touches = false } ∷ parted texts

-- a quoted item right after the one before it
abbrev pub in_quotes : List ℕ → List TouchingItem
in_quotes text = record { item = quoted text; touches = true } ∷ []

-- What may come after items of a field: nothing; the second digit of a pair (RFC 4648 8); the rest
-- of a group of four (RFC 4648 4); the rest of a location (RFC 1876 3); the value of a parameter
-- whose key ends with `=` (RFC 9460 2.1), one for each kind of value.
abbrev pub continuations : FieldKind → List (List TouchingItem)
continuations Hex = [] ∷ parted (codes "0" ∷ []) ∷ []
continuations Base64 =
    [] ∷ parted (codes "A" ∷ []) ∷ parted (codes "AA" ∷ []) ∷ parted (codes "AAA" ∷ [])
    ∷ parted (codes "=" ∷ []) ∷ []
continuations Location =
    [] ∷ parted (codes "0m" ∷ []) ∷ parted (codes "E" ∷ codes "0m" ∷ [])
    ∷ parted (codes "0" ∷ codes "E" ∷ codes "0m" ∷ [])
    ∷ parted (codes "N" ∷ codes "0" ∷ codes "E" ∷ codes "0m" ∷ []) ∷ []
continuations Parameters =
    [] ∷ in_quotes (codes "1") ∷ in_quotes (codes "192.0.2.1") ∷ in_quotes (codes "2001:db8::1")
    ∷ in_quotes (codes "AAAA") ∷ in_quotes (codes "alpn") ∷ in_quotes (codes "port") ∷ []
continuations kind = [] ∷ []

-- what is wrong is that something is missing, which may come
abbrev pub IsOfWhatIsMissing : WordsFault → Type 0
IsOfWhatIsMissing fault = (fault ≡ NothingLeft) ⊎ (fault ≡ MandatoryKeyMissing)

-- the items state data of the field alone
abbrev pub StateItsData : Labels → NamedField → List TouchingItem → Type 0
StateItsData origin f items =
    (octets : List ℕ) × StatesData origin (f ∷ []) joined items octets

-- what is wrong with the items as data of the field alone
abbrev pub FailAlone : Labels → NamedField → List TouchingItem → List ℕ → WordsFault → Type 0
FailAlone origin f items field fault = DataFails origin (f ∷ []) joined items field fault

-- they state it, or only lack something
abbrev pub AreSoFar : Labels → NamedField → List TouchingItem → Type 0
AreSoFar origin f items =
    StateItsData origin f items
    ⊎ ((field : List ℕ) × ((fault : WordsFault)
    × (FailAlone origin f items field fault × IsOfWhatIsMissing fault)))

-- items of the field can go on: with one of its continuations after them
abbrev pub CanGoOn : Labels → NamedField → List TouchingItem → Type 0
CanGoOn origin f items =
    Any (λ more. AreSoFar origin f (items ++ more)) (continuations f.kind)

-- ---- the fields

-- the field by its name, what is wrong with it, and the item at fault, if there is one
pub record FurtherStop : Type 0 where
  pub field : List ℕ
  pub fault : WordsFault
  pub item : Option RawItem

abbrev pub further_stop : List ℕ → WordsFault → Option RawItem → FurtherStop
further_stop field fault item = record { field = field; fault = fault; item = item }

-- The first field of which its own items state no data; or the first item after all fields, which is
-- told of the last. Where no field fails and no item is left over, the last field and no item: the
-- data as a whole has too many octets.
abbrev pub FurtherFieldsStop
    : Labels → List ℕ → List NamedField → List TouchingItem → FurtherStop → Type 0
FurtherFieldsStop origin last [] [] stop = stop ≡ further_stop last TooLong None
FurtherFieldsStop origin last [] (t ∷ items) stop =
    stop ≡ further_stop last ItemsLeftOver (Some t.item)
FurtherFieldsStop origin last (f ∷ fields) items stop =
    (FailAlone origin f (own_items f.kind items) stop.field stop.fault
    × ((found : Option TouchingItem) × (StopsAt (CanGoOn origin f) (own_items f.kind items) found
    × (stop.item ≡ option_map (λ (t : TouchingItem). t.item) found))))
    ⊎ (StateItsData origin f (own_items f.kind items)
    × FurtherFieldsStop origin f.name fields (items_after f.kind items) stop)
