-- The kinds of fields: which items are a field's own, what they state, and why they state nothing.
use Rattle.std.specs.Prelude.{◌≡◌, ℕ, Bool, true, false, if◌then◌else◌, List, length, min, take, drop, None}
use Rattle.zone_name.specs.Common.{Labels}
use Rattle.zone_rdata.specs.Spelling.{RawItem, bare, quoted}
use Rattle.type_data.specs.Kinds.Gateway.{FailsAddressType, FailsDiscovery, FailsNoAddress, FailsNothing, StatesAddressType, StatesDiscovery, StatesNoAddress, StatesNothing}
use Rattle.type_data.specs.Kinds.Location.{FailsLocation, StatesLocation}
use Rattle.type_data.specs.Kinds.Prefixes.{FailsPrefixes, StatesPrefixes}
use Rattle.type_data.specs.DataItem.{TouchingItem, items_of}
use Rattle.type_data.specs.EachItem.{OneFails, EachStates}
use Rattle.type_data.specs.FirstItem.{FirstFails, FirstStates}
use Rattle.type_data.specs.Kinds.Address.{FailsIpv4, FailsIpv6, StatesIpv4, StatesIpv6}
use Rattle.type_data.specs.Kinds.Base64.{FailsBase64, StatesBase64}
use Rattle.type_data.specs.Kinds.Eui.{FailsEui, StatesEui}
use Rattle.type_data.specs.Kinds.Hash.{FailsHash, StatesHash}
use Rattle.type_data.specs.Kinds.Hexadecimal.{FailsHex, StatesHex}
use Rattle.type_data.specs.Kinds.HostIdentity.{FailsHostIdentityTag, FailsPublicKey, StatesHostIdentityTag, StatesPublicKey}
use Rattle.type_data.specs.Kinds.Name.{FailsName, StatesName}
use Rattle.type_data.specs.Kinds.NodeId.{FailsNodeId, StatesNodeId}
use Rattle.type_data.specs.Kinds.Number.{FailsU8, FailsU16, FailsU32, StatesU8, StatesU16, StatesU32}
use Rattle.type_data.specs.Kinds.Salt.{FailsSalt, StatesSalt}
use Rattle.type_data.specs.Kinds.Strings.{FailsPerhaps, FailsString, FailsStrings, StatesPerhaps, StatesString, StatesStrings}
use Rattle.type_data.specs.Kinds.Tag.{FailsTag, StatesTag}
use Rattle.type_data.specs.Kinds.Time.{FailsTime, StatesTime}
use Rattle.type_data.specs.Kinds.Types.{FailsPerhapsTypes, FailsTypes, StatesPerhapsTypes, StatesTypes}
use Rattle.type_data.specs.Kinds.Value.{FailsQuotedValue, FailsValue, StatesQuotedValue, StatesValue}
use Rattle.type_data.specs.Kinds.Word.{FailsAlgorithm, FailsCertificateType, FailsNotifyScheme, FailsType, StatesAlgorithm, StatesCertificateType, StatesNotifyScheme, StatesType}
use Rattle.type_data.specs.Parameters.{FailsParameters, StatesParameters}
use Rattle.type_data.specs.declared.fault.WordsFault.{WordsFault}
use Rattle.type_data.specs.declared.fault.WordsFault.TheVariants.{NoBase32Hex, NoBase64, NoHexadecimal, NotAName, NotANumber, NotATag, NotATime, NotAType, NotAnAddress}
use Rattle.type_data.specs.declared.field.BareKind.{BareKind}
use Rattle.type_data.specs.declared.field.BareKind.TheVariants.{AddressType, Algorithm, CertificateType, Discovery, Eui48, Eui64, Hash, HostIdentityTag, Ipv4, Ipv6, Name, NoAddress, NodeId, NotifyScheme, PublicKey, RecordType, Salt, Tag, Time, U8, U16, U32}
use Rattle.type_data.specs.declared.field.FieldKind.{FieldKind}
use Rattle.type_data.specs.declared.field.FieldKind.TheVariants.{Bare, Base64, Each, Hex, Location, Nothing, OneString, Parameters, PerhapsOneString, PerhapsTypes, Prefixes, QuotedValue, Strings, Types, Value}

-- what is wrong with a quoted item where a bare one is due
abbrev pub quoted_fault : BareKind → WordsFault
quoted_fault RecordType = NotAType
quoted_fault Time = NotATime
quoted_fault Name = NotAName None
quoted_fault Salt = NoHexadecimal
quoted_fault Hash = NoBase32Hex
quoted_fault Tag = NotATag
quoted_fault Ipv4 = NotAnAddress
quoted_fault Ipv6 = NotAnAddress
quoted_fault NoAddress = NotAName None
quoted_fault NodeId = NotAnAddress
quoted_fault Eui48 = NotAnAddress
quoted_fault Eui64 = NotAnAddress
quoted_fault HostIdentityTag = NoHexadecimal
quoted_fault PublicKey = NoBase64
quoted_fault kind = NotANumber

-- what a text or items state, and why they state nothing
pub record Meaning (Given : Type 0) : Type 1 where
  pub States : Given → List ℕ → Type 0
  pub Fails : Given → WordsFault → Type 0

abbrev pub meaning : {Given : Type 0} → (Given → List ℕ → Type 0) → (Given → WordsFault → Type 0)
    → Meaning Given
meaning States Fails = record { States = States; Fails = Fails }

-- that of a bare text under an origin
abbrev pub text_meaning : Labels → BareKind → Meaning (List ℕ)
text_meaning origin U8 = meaning StatesU8 FailsU8
text_meaning origin U16 = meaning StatesU16 FailsU16
text_meaning origin U32 = meaning StatesU32 FailsU32
text_meaning origin Algorithm = meaning StatesAlgorithm FailsAlgorithm
text_meaning origin CertificateType = meaning StatesCertificateType FailsCertificateType
text_meaning origin NotifyScheme = meaning StatesNotifyScheme FailsNotifyScheme
text_meaning origin RecordType = meaning StatesType FailsType
text_meaning origin Time = meaning StatesTime FailsTime
text_meaning origin Name = meaning (StatesName origin) (FailsName origin)
text_meaning origin Salt = meaning StatesSalt FailsSalt
text_meaning origin Hash = meaning StatesHash FailsHash
text_meaning origin Tag = meaning StatesTag FailsTag
text_meaning origin Ipv4 = meaning StatesIpv4 FailsIpv4
text_meaning origin Ipv6 = meaning StatesIpv6 FailsIpv6
text_meaning origin (AddressType optional) =
    meaning (StatesAddressType optional) FailsAddressType
text_meaning origin Discovery = meaning StatesDiscovery FailsDiscovery
text_meaning origin NoAddress = meaning StatesNoAddress FailsNoAddress
text_meaning origin NodeId = meaning StatesNodeId FailsNodeId
text_meaning origin Eui48 = meaning (StatesEui 6) (FailsEui 6)
text_meaning origin Eui64 = meaning (StatesEui 8) (FailsEui 8)
text_meaning origin HostIdentityTag = meaning StatesHostIdentityTag FailsHostIdentityTag
text_meaning origin PublicKey = meaning StatesPublicKey FailsPublicKey

-- that of an item, which has to be bare
abbrev pub StatesBare : Labels → BareKind → RawItem → List ℕ → Type 0
StatesBare origin kind (bare text) octets = (text_meaning origin kind).States text octets
StatesBare origin kind (quoted text) octets = ⊥

abbrev pub FailsBare : Labels → BareKind → RawItem → WordsFault → Type 0
FailsBare origin kind (bare text) fault = (text_meaning origin kind).Fails text fault
FailsBare origin kind (quoted text) fault = fault ≡ quoted_fault kind

-- the field has one item at most
abbrev pub takes_one : FieldKind → Bool
takes_one (Bare kind) = true
takes_one OneString = true
takes_one PerhapsOneString = true
takes_one Value = true
takes_one QuotedValue = true
takes_one kind = false

-- how many of the items that are left are the field's own: the first, if any is left, or all
abbrev pub own_count : FieldKind → ℕ → ℕ
own_count kind left = if takes_one kind then min 1 left else left

abbrev pub own_items : FieldKind → List TouchingItem → List TouchingItem
own_items kind items = take (own_count kind (length items)) items

-- those after them
abbrev pub items_after : FieldKind → List TouchingItem → List TouchingItem
items_after kind items = drop (own_count kind (length items)) items

-- that of the first item, where there has to be one
abbrev pub first : (RawItem → List ℕ → Type 0) → (RawItem → WordsFault → Type 0)
    → Meaning (List RawItem)
first States Fails = meaning (FirstStates States) (FirstFails Fails)

-- that of items of which each states octets, if there are any
abbrev pub each : (RawItem → List ℕ → Type 0) → (RawItem → WordsFault → Type 0)
    → Meaning (List RawItem)
each States Fails = meaning (EachStates States) (OneFails States Fails)

-- items, without and with whether they touch
abbrev pub Items : Type 0
Items = List RawItem × List TouchingItem

-- that of items whether they touch or not
abbrev pub alone : Meaning (List RawItem) → Meaning Items
alone m = meaning (λ items. m.States items.0) (λ items. m.Fails items.0)

-- that of a field's own items under an origin
abbrev pub field_meaning : Labels → FieldKind → Meaning Items
field_meaning origin (Bare kind) = alone (first (StatesBare origin kind) (FailsBare origin kind))
field_meaning origin (Each kind) = alone (each (StatesBare origin kind) (FailsBare origin kind))
field_meaning origin OneString = alone (first StatesString FailsString)
field_meaning origin PerhapsOneString = alone (meaning StatesPerhaps FailsPerhaps)
field_meaning origin Value = alone (first StatesValue FailsValue)
field_meaning origin QuotedValue = alone (first StatesQuotedValue FailsQuotedValue)
field_meaning origin Strings = alone (meaning StatesStrings FailsStrings)
field_meaning origin Hex = alone (meaning StatesHex FailsHex)
field_meaning origin Base64 = alone (meaning StatesBase64 FailsBase64)
field_meaning origin Types = alone (meaning StatesTypes FailsTypes)
field_meaning origin PerhapsTypes = alone (meaning StatesPerhapsTypes FailsPerhapsTypes)
field_meaning origin Prefixes = alone (meaning StatesPrefixes FailsPrefixes)
field_meaning origin Location = alone (meaning StatesLocation FailsLocation)
field_meaning origin Nothing = alone (meaning StatesNothing FailsNothing)
field_meaning origin Parameters =
    meaning (λ items. StatesParameters items.1) (λ items. FailsParameters items.1)

-- the octets that they state
abbrev pub StatesField : Labels → FieldKind → List TouchingItem → List ℕ → Type 0
StatesField origin kind items octets =
    (field_meaning origin kind).States (items_of items, items) octets

-- why they state none
abbrev pub FailsField : Labels → FieldKind → List TouchingItem → WordsFault → Type 0
FailsField origin kind items fault =
    (field_meaning origin kind).Fails (items_of items, items) fault
