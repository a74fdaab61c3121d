-- The words that are printed for a type's data, field after field, and data that has none.
use Rattle.std.specs.Prelude.{◌≡◌, ◌≤◌, ℕ, List, [], ◌∷◌, ◌++◌, length, map, false, Some}
use Rattle.zone_name.specs.Common.{Labels}
use Rattle.zone_rdata.specs.Item.{RawItem}
use Rattle.zone_rdata.specs.Limits.{longest_data}
use Rattle.type_data.specs.Data.{StateParts, StatesData, in_order, joined, left_over}
use Rattle.type_data.specs.DataItem.{TouchingItem}
use Rattle.type_data.specs.EachItem.{EachIsPrinted}
use Rattle.type_data.specs.Field.{text_meaning}
use Rattle.type_data.specs.Kinds.Address.{PrintsIpv4, PrintsIpv6}
use Rattle.type_data.specs.Kinds.Base64.{PrintsBase64}
use Rattle.type_data.specs.Kinds.Eui.{PrintsEui}
use Rattle.type_data.specs.Kinds.Gateway.{PrintsAddressType, PrintsDiscovery, StatesNoAddress, StatesNothing}
use Rattle.type_data.specs.Kinds.Hash.{PrintsHash}
use Rattle.type_data.specs.Kinds.Hexadecimal.{PrintsHex}
use Rattle.type_data.specs.Kinds.HostIdentity.{PrintsHostIdentityTag, PrintsPublicKey}
use Rattle.type_data.specs.Kinds.Joined.{PrintsOneItem}
use Rattle.type_data.specs.Kinds.Location.{PrintsLocation}
use Rattle.type_data.specs.Kinds.Name.{PrintsName}
use Rattle.type_data.specs.Kinds.NodeId.{PrintsNodeId}
use Rattle.type_data.specs.Kinds.Number.{PrintsU16, PrintsU32, PrintsU8}
use Rattle.type_data.specs.Kinds.Prefixes.{PrintsPrefixes}
use Rattle.type_data.specs.Kinds.Salt.{PrintsSalt}
use Rattle.type_data.specs.Kinds.Strings.{PrintsPerhaps, PrintsStringItem, PrintsStrings}
use Rattle.type_data.specs.Kinds.Tag.{PrintsTag}
use Rattle.type_data.specs.Kinds.Time.{PrintsTime}
use Rattle.type_data.specs.Kinds.Types.{PrintsPerhapsTypes, PrintsTypes}
use Rattle.type_data.specs.Kinds.Value.{PrintsValue}
use Rattle.type_data.specs.Kinds.Word.{PrintsAlgorithm, PrintsCertificateType, PrintsNotifyScheme, PrintsType}
use Rattle.type_data.specs.Parameters.Printed.{PrintsParameters, written_touching}
use Rattle.type_data.specs.Parameters.Text.{placed}
use Rattle.type_data.specs.Table.{Fields, FurtherType, NamedField, fields_in, further_type}
use Rattle.type_data.specs.declared.field.BareKind.{BareKind}
use Rattle.type_data.specs.declared.field.BareKind.TheVariants.{AddressType, Algorithm, CertificateType, Discovery, Eui48, Eui64, Hash, HostIdentityTag, Ipv4, Ipv6, Name, NoAddress, NodeId, NotifyScheme, PublicKey, RecordType, Salt, Tag, Time, U8, U16, U32}
use Rattle.type_data.specs.declared.field.FieldKind.{FieldKind}
use Rattle.type_data.specs.declared.field.FieldKind.TheVariants.{Bare, Base64, Each, Hex, Location, Nothing, OneString, Parameters, PerhapsOneString, PerhapsTypes, Prefixes, QuotedValue, Strings, Types, Value}

-- the text that is printed for the octets of a bare item
abbrev pub PrintsBare : BareKind → List ℕ → List ℕ → Type 0
PrintsBare U8 = PrintsU8
PrintsBare U16 = PrintsU16
PrintsBare U32 = PrintsU32
PrintsBare Algorithm = PrintsAlgorithm
PrintsBare CertificateType = PrintsCertificateType
PrintsBare NotifyScheme = PrintsNotifyScheme
PrintsBare RecordType = PrintsType
PrintsBare Time = PrintsTime
PrintsBare Name = PrintsName
PrintsBare Salt = PrintsSalt
PrintsBare Hash = PrintsHash
PrintsBare Tag = PrintsTag
PrintsBare Ipv4 = PrintsIpv4
PrintsBare Ipv6 = PrintsIpv6
PrintsBare (AddressType optional) = PrintsAddressType optional
PrintsBare Discovery = PrintsDiscovery
PrintsBare NoAddress = StatesNoAddress
PrintsBare NodeId = PrintsNodeId
PrintsBare Eui48 = PrintsEui 6
PrintsBare Eui64 = PrintsEui 8
PrintsBare HostIdentityTag = PrintsHostIdentityTag
PrintsBare PublicKey = PrintsPublicKey

-- what a bare text states under some origin
abbrev pub StatesSomewhere : BareKind → List ℕ → List ℕ → Type 0
StatesSomewhere kind text octets = (origin : Labels) × (text_meaning origin kind).States text octets

-- items of which none touches another
abbrev pub apart : List RawItem → List TouchingItem
apart items = map (λ item. placed item false) items

pub record PrintsApart (Prints : List RawItem → List ℕ → Type 0) (items : List TouchingItem)
    (octets : List ℕ) : Type 0 where
  pub alone : List RawItem
  pub printed : Prints alone octets
  pub are_apart : items ≡ apart alone

-- the items that are printed for the octets of a field
abbrev pub PrintsField : FieldKind → List TouchingItem → List ℕ → Type 0
PrintsField (Bare kind) = PrintsApart (PrintsOneItem (PrintsBare kind))
PrintsField (Each kind) = PrintsApart (EachIsPrinted (PrintsBare kind))
PrintsField OneString = PrintsApart PrintsStringItem
PrintsField PerhapsOneString = PrintsApart PrintsPerhaps
PrintsField Value = PrintsApart PrintsValue
PrintsField QuotedValue = PrintsApart PrintsValue
PrintsField Strings = PrintsApart PrintsStrings
PrintsField Hex = PrintsApart PrintsHex
PrintsField Base64 = PrintsApart PrintsBase64
PrintsField Types = PrintsApart PrintsTypes
PrintsField PerhapsTypes = PrintsApart PrintsPerhapsTypes
PrintsField Prefixes = PrintsApart PrintsPrefixes
PrintsField Location = PrintsApart PrintsLocation
PrintsField Nothing = PrintsApart StatesNothing
PrintsField Parameters = PrintsParameters

-- items are those of the fields, one after another, each printed for its part of the octets
abbrev pub PrintParts : List NamedField → List TouchingItem → List (List ℕ) → Type 0
PrintParts [] items [] = items ≡ []
PrintParts (f ∷ fields) items (part ∷ parts) =
    (own rest : List TouchingItem) × (items ≡ own ++ rest) × PrintsField f.kind own part
    × PrintParts fields rest parts
PrintParts fields items parts = ⊥

-- the same of fields whose octets stand in their order
pub record PrintsFields (fields : List NamedField) (items : List TouchingItem) (octets : List ℕ)
    : Type 0 where
  pub parts : List (List ℕ)
  pub each : PrintParts fields items parts
  pub value : octets ≡ joined parts

-- The items that are printed for a type's data, of 65,535 octets at most (RFC 1035 3.2.1).
pub record PrintsData (fields : Fields) (items : List TouchingItem) (octets : List ℕ) : Type 0
  where
    pub parts : List (List ℕ)
    pub each : PrintParts (fields_in fields items) items parts
    pub value : octets ≡ in_order fields parts
    pub short : length octets ≤ longest_data

-- these items as they are written
pub record AreItsWords (fields : Fields) (octets words : List ℕ) : Type 0 where
  pub items : List TouchingItem
  pub printed : PrintsData fields items octets
  pub written : words ≡ written_touching items

-- no items state the octets, field after field
abbrev pub NoItemsOf : List NamedField → List ℕ → Type 0
NoItemsOf fields octets =
    (origin : Labels) (items : List TouchingItem) (parts : List (List ℕ))
    → StateParts origin fields items parts → left_over fields items ≡ [] → octets ≡ joined parts
    → ⊥

-- no items state the octets as data of these fields
abbrev pub HasNoWords : Fields → List ℕ → Type 0
HasNoWords fields octets =
    (origin : Labels) (items : List TouchingItem)
    → StatesData origin (fields_in fields items) (in_order fields) items octets → ⊥

-- the fields are those of a further type
pub record AreOfAType (fields : Fields) : Type 0 where
  pub further : FurtherType
  pub row : further_type further.number ≡ Some further
  pub are : further.fields ≡ fields
