-- The registered types, a row each, their numbers ascending: the further types, with the section of
-- the RFC that gives the words of each, and the rest, which stand in data alone.
use Rattle.std.specs.Prelude.{◌≡◌, ℕ, List, [], ◌∷◌, ◌++◌, ◌==◌, Bool, true, false, codes, filter_map, map, Option, Some, None, if◌then◌else◌}
use Rattle.std.specs.List.{find, slice_get}
use Rattle.zone_rdata.specs.Table.{Named}
use Rattle.zone_rdata.specs.Words.{IsWordAmong}
use Rattle.type_data.specs.DataItem.{TouchingItem}
use Rattle.type_data.specs.Kinds.Number.{stated_number}
use Rattle.type_data.specs.declared.field.BareKind.{BareKind}
use Rattle.type_data.specs.declared.field.BareKind.TheVariants.{AddressType, Algorithm, CertificateType, Discovery, Eui48, Eui64, Hash, HostIdentityTag, Ipv4, Ipv6, Name, NoAddress, NodeId, NotifyScheme, PublicKey, RecordType, Salt, Tag, Time, U16, U32, U8}
use Rattle.type_data.specs.declared.field.Field.{Field}
use Rattle.type_data.specs.declared.field.FieldKind.{FieldKind}
use Rattle.type_data.specs.declared.field.FieldKind.TheVariants.{Bare, Base64, Each, Hex, Location, Nothing, OneString, Parameters, PerhapsOneString, PerhapsTypes, Prefixes, QuotedValue, Strings, Types, Value}
use Rattle.type_data.specs.declared.fields.Fields as coded_fields
use Rattle.type_data.specs.declared.fields.Fields.TheVariants as coded
use Rattle.type_data.specs.declared.table.FurtherType as code
use Rattle.type_data.specs.declared.table.RegisteredType as coded_types
use Rattle.type_data.specs.declared.table.RegisteredType.TheVariants as coded_type

-- a field by its name in the RFC, in lower case, and what its items state
pub record NamedField : Type 0 where
  pub name : List ℕ
  pub kind : FieldKind

-- the fields of a type's data: the same for all its data, or some depend on the items before them,
-- or their octets stand in another order
pub data Fields : Type 0 where
  same : List NamedField → Fields
  of_ipseckey : Fields
  of_amtrelay : Fields
  of_hip : Fields

-- a type: its number, its mnemonic, whether it is one of class IN alone, and the fields of its data
pub record FurtherType : Type 0 where
  pub number : ℕ
  pub mnemonic : List ℕ
  pub in_internet_alone : Bool
  pub fields : Fields

-- a registered type: a further one, or one by its number and its mnemonic alone
pub data RegisteredType : Type 0 where
  in_words : FurtherType → RegisteredType
  name_only : ℕ → List ℕ → RegisteredType

abbrev pub field : List ℕ → FieldKind → NamedField
field name kind = record { name = name; kind = kind }

abbrev pub in_every : ℕ → List ℕ → List NamedField → RegisteredType
in_every number mnemonic fields =
    in_words record {
      number = number;
      mnemonic = mnemonic;
      in_internet_alone = false;
      fields = same fields;
    }

abbrev pub in_internet : ℕ → List ℕ → List NamedField → RegisteredType
in_internet number mnemonic fields =
    in_words record {
      number = number;
      mnemonic = mnemonic;
      in_internet_alone = true;
      fields = same fields;
    }

abbrev pub of_its_own : ℕ → List ℕ → Fields → RegisteredType
of_its_own number mnemonic fields =
    in_words
    record { number = number; mnemonic = mnemonic; in_internet_alone = false; fields = fields }

-- ---- fields that depend on the items before them

-- the number that the item at a place states in digits
abbrev pub number_of_item : Option TouchingItem → Option ℕ
number_of_item None = None
number_of_item (Some t) = stated_number t.item

abbrev pub number_at : List TouchingItem → ℕ → Option ℕ
number_at items place = number_of_item (slice_get items place)

-- what an address of a type is: type 0 none, 1 four octets, 2 sixteen octets, 3 a name; where it is
-- no type, the field of the type fails
abbrev pub address_kind : Option ℕ → BareKind
address_kind None = Name
address_kind (Some n) =
    if n == 0 then NoAddress else if n == 1 then Ipv4 else if n == 2 then Ipv6 else Name

-- the key of an algorithm: 0 is none
abbrev pub key_kind : Option ℕ → FieldKind
key_kind None = Base64
key_kind (Some n) = if n == 0 then Nothing else Base64

abbrev pub is_one : Option ℕ → Bool
is_one None = false
is_one (Some n) = n == 1

-- those of IPSECKEY by the type of its gateway and the algorithm of its key (RFC 4025 2, 3)
abbrev pub ipseckey_by : Option ℕ → Option ℕ → List NamedField
ipseckey_by gateway algorithm =
    field (codes "precedence") (Bare U8) ∷ field (codes "gateway type") (Bare (AddressType false))
    ∷ field (codes "algorithm") (Bare U8) ∷ field (codes "gateway") (Bare (address_kind gateway))
    ∷ field (codes "public key") (key_kind algorithm) ∷ []

abbrev pub ipseckey_fields : List TouchingItem → List NamedField
ipseckey_fields items = ipseckey_by (number_at items 1) (number_at items 2)

-- those of AMTRELAY by whether its discovery is optional, 1 or 0, and the type of its relay (RFC
-- 8777 4)
abbrev pub amtrelay_by : Option ℕ → Option ℕ → List NamedField
amtrelay_by discovery relay =
    field (codes "precedence") (Bare U8) ∷ field (codes "discovery optional") (Bare Discovery)
    ∷ field (codes "type") (Bare (AddressType (is_one discovery)))
    ∷ field (codes "relay") (Bare (address_kind relay)) ∷ []

abbrev pub amtrelay_fields : List TouchingItem → List NamedField
amtrelay_fields items = amtrelay_by (number_at items 1) (number_at items 2)

-- ---- fields whose octets stand in another order

-- RFC 8005 5, 6
abbrev pub hip_fields : List NamedField
hip_fields =
    field (codes "pk algorithm") (Bare U8) ∷ field (codes "hit") (Bare HostIdentityTag)
    ∷ field (codes "public key") (Bare PublicKey)
    ∷ field (codes "rendezvous servers") (Each Name) ∷ []

-- the fields of data with these items
abbrev pub fields_in : Fields → List TouchingItem → List NamedField
fields_in (same fields) items = fields
fields_in of_ipseckey items = ipseckey_fields items
fields_in of_amtrelay items = amtrelay_fields items
fields_in of_hip items = hip_fields

-- ---- the table

-- the registered types (RFC 6895 3.1), their numbers ascending: those before DS
unfoldable pub early_types : List RegisteredType
early_types =
    name_only 1 (codes "A")
    ∷ name_only 2 (codes "NS")
    ∷ in_every 3 (codes "MD") (field (codes "madname") (Bare Name) ∷ [])  -- RFC 1035 3.3.4
    ∷ in_every 4 (codes "MF") (field (codes "madname") (Bare Name) ∷ [])  -- RFC 1035 3.3.5
    ∷ name_only 5 (codes "CNAME")
    ∷ name_only 6 (codes "SOA")
    ∷ in_every 7 (codes "MB") (field (codes "madname") (Bare Name) ∷ [])  -- RFC 1035 3.3.3
    ∷ in_every 8 (codes "MG") (field (codes "mgmname") (Bare Name) ∷ [])  -- RFC 1035 3.3.6
    ∷ in_every 9 (codes "MR") (field (codes "newname") (Bare Name) ∷ [])  -- RFC 1035 3.3.8
    ∷ name_only 10 (codes "NULL")
    ∷ name_only 11 (codes "WKS")
    ∷ name_only 12 (codes "PTR")
    ∷ in_every 13 (codes "HINFO")  -- RFC 1035 3.3.2
    (field (codes "cpu") OneString ∷ field (codes "os") OneString ∷ [])
    ∷ in_every 14 (codes "MINFO")  -- RFC 1035 3.3.7
    (field (codes "rmailbx") (Bare Name) ∷ field (codes "emailbx") (Bare Name) ∷ [])
    ∷ name_only 15 (codes "MX")
    ∷ name_only 16 (codes "TXT")
    ∷ in_every 17 (codes "RP")  -- RFC 1183 2.2
    (field (codes "mailbox") (Bare Name) ∷ field (codes "text") (Bare Name) ∷ [])
    ∷ in_every 18 (codes "AFSDB")  -- RFC 1183 1
    (field (codes "subtype") (Bare U16) ∷ field (codes "host") (Bare Name) ∷ [])
    ∷ in_every 19 (codes "X25") (field (codes "psdn-address") OneString ∷ [])  -- RFC 1183 3.1
    ∷ in_every 20 (codes "ISDN")  -- RFC 1183 3.2
    (field (codes "isdn-address") OneString ∷ field (codes "sa") PerhapsOneString ∷ [])
    ∷ in_every 21 (codes "RT")  -- RFC 1183 3.3
    (field (codes "preference") (Bare U16) ∷ field (codes "host") (Bare Name) ∷ [])
    ∷ name_only 22 (codes "NSAP")
    ∷ in_internet 23 (codes "NSAP-PTR") (field (codes "data") (Bare Name) ∷ [])  -- RFC 1348
    ∷ in_every 24 (codes "SIG")  -- RFC 2535 4.1
    (field (codes "type covered") (Bare RecordType) ∷ field (codes "algorithm") (Bare Algorithm)
    ∷ field (codes "labels") (Bare U8) ∷ field (codes "original ttl") (Bare U32)
    ∷ field (codes "expiration") (Bare Time) ∷ field (codes "inception") (Bare Time)
    ∷ field (codes "key tag") (Bare U16) ∷ field (codes "signer") (Bare Name)
    ∷ field (codes "signature") Base64 ∷ [])
    ∷ in_every 25 (codes "KEY")  -- RFC 2535 3
    (field (codes "flags") (Bare U16) ∷ field (codes "protocol") (Bare U8)
    ∷ field (codes "algorithm") (Bare Algorithm) ∷ field (codes "public key") Base64 ∷ [])
    ∷ in_internet 26 (codes "PX")  -- RFC 2163 4
    (field (codes "preference") (Bare U16) ∷ field (codes "map822") (Bare Name)
    ∷ field (codes "mapx400") (Bare Name) ∷ [])
    ∷ in_every 27 (codes "GPOS")  -- RFC 1712 3
    (field (codes "longitude") OneString ∷ field (codes "latitude") OneString
    ∷ field (codes "altitude") OneString ∷ [])
    ∷ name_only 28 (codes "AAAA")
    ∷ in_every 29 (codes "LOC") (field (codes "data") Location ∷ [])  -- RFC 1876 3
    ∷ name_only 30 (codes "NXT")
    ∷ in_every 31 (codes "EID") (field (codes "data") Hex ∷ [])  -- the IANA registry of types, 1995
    ∷ in_every 32 (codes "NIMLOC")  -- the IANA registry of types, 1995
    (field (codes "data") Hex ∷ [])
    ∷ name_only 33 (codes "SRV")
    ∷ name_only 34 (codes "ATMA")
    ∷ name_only 35 (codes "NAPTR")
    ∷ in_internet 36 (codes "KX")  -- RFC 2230 3.1
    (field (codes "preference") (Bare U16) ∷ field (codes "exchanger") (Bare Name) ∷ [])
    ∷ in_every 37 (codes "CERT")  -- RFC 4398 2.2
    (field (codes "type") (Bare CertificateType) ∷ field (codes "key tag") (Bare U16)
    ∷ field (codes "algorithm") (Bare Algorithm) ∷ field (codes "certificate") Base64 ∷ [])
    ∷ name_only 38 (codes "A6")
    ∷ in_every 39 (codes "DNAME") (field (codes "target") (Bare Name) ∷ [])  -- RFC 6672 2.1
    ∷ in_every 40 (codes "SINK")  -- the IANA registry of types, 1997
    (field (codes "meaning") (Bare U8) ∷ field (codes "coding") (Bare U8)
    ∷ field (codes "subcoding") (Bare U8) ∷ field (codes "data") Base64 ∷ [])
    ∷ in_internet 42 (codes "APL") (field (codes "data") Prefixes ∷ [])  -- RFC 3123 4, 5
    ∷ []

-- the types of signed zones, from DS on
unfoldable pub signed_types : List RegisteredType
signed_types =
    in_every 43 (codes "DS")  -- RFC 4034 5.3
    (field (codes "key tag") (Bare U16) ∷ field (codes "algorithm") (Bare Algorithm)
    ∷ field (codes "digest type") (Bare U8) ∷ field (codes "digest") Hex ∷ [])
    ∷ in_every 44 (codes "SSHFP")  -- RFC 4255 3.2
    (field (codes "algorithm") (Bare U8) ∷ field (codes "type") (Bare U8)
    ∷ field (codes "fingerprint") Hex ∷ [])
    ∷ of_its_own 45 (codes "IPSECKEY") of_ipseckey
    ∷ in_every 46 (codes "RRSIG")  -- RFC 4034 3.2
    (field (codes "type covered") (Bare RecordType) ∷ field (codes "algorithm") (Bare Algorithm)
    ∷ field (codes "labels") (Bare U8) ∷ field (codes "original ttl") (Bare U32)
    ∷ field (codes "expiration") (Bare Time) ∷ field (codes "inception") (Bare Time)
    ∷ field (codes "key tag") (Bare U16) ∷ field (codes "signer") (Bare Name)
    ∷ field (codes "signature") Base64 ∷ [])
    ∷ in_every 47 (codes "NSEC")  -- RFC 4034 4.2
    (field (codes "next") (Bare Name) ∷ field (codes "types") Types ∷ [])
    ∷ in_every 48 (codes "DNSKEY")  -- RFC 4034 2.2
    (field (codes "flags") (Bare U16) ∷ field (codes "protocol") (Bare U8)
    ∷ field (codes "algorithm") (Bare Algorithm) ∷ field (codes "public key") Base64 ∷ [])
    ∷ in_internet 49 (codes "DHCID") (field (codes "data") Base64 ∷ [])  -- RFC 4701 3.2
    ∷ in_every 50 (codes "NSEC3")  -- RFC 5155 3.3
    (field (codes "hash algorithm") (Bare U8) ∷ field (codes "flags") (Bare U8)
    ∷ field (codes "iterations") (Bare U16) ∷ field (codes "salt") (Bare Salt)
    ∷ field (codes "next") (Bare Hash) ∷ field (codes "types") PerhapsTypes ∷ [])
    ∷ in_every 51 (codes "NSEC3PARAM")  -- RFC 5155 4.3
    (field (codes "hash algorithm") (Bare U8) ∷ field (codes "flags") (Bare U8)
    ∷ field (codes "iterations") (Bare U16) ∷ field (codes "salt") (Bare Salt) ∷ [])
    ∷ in_every 52 (codes "TLSA")  -- RFC 6698 2.2
    (field (codes "usage") (Bare U8) ∷ field (codes "selector") (Bare U8)
    ∷ field (codes "matching type") (Bare U8) ∷ field (codes "data") Hex ∷ [])
    ∷ []

-- those from SMIMEA on
unfoldable pub late_types : List RegisteredType
late_types =
    in_every 53 (codes "SMIMEA")  -- RFC 8162 2
    (field (codes "usage") (Bare U8) ∷ field (codes "selector") (Bare U8)
    ∷ field (codes "matching type") (Bare U8) ∷ field (codes "data") Hex ∷ [])
    ∷ of_its_own 55 (codes "HIP") of_hip
    ∷ in_every 56 (codes "NINFO")  -- the IANA registry of types, 2008
    (field (codes "data") Strings ∷ [])
    ∷ in_every 57 (codes "RKEY")  -- the IANA registry of types, 2008
    (field (codes "flags") (Bare U16) ∷ field (codes "protocol") (Bare U8)
    ∷ field (codes "algorithm") (Bare Algorithm) ∷ field (codes "public key") Base64 ∷ [])
    ∷ in_every 58 (codes "TALINK")  -- the IANA registry of types, 2010
    (field (codes "previous") (Bare Name) ∷ field (codes "next") (Bare Name) ∷ [])
    ∷ in_every 59 (codes "CDS")  -- RFC 7344 3.1
    (field (codes "key tag") (Bare U16) ∷ field (codes "algorithm") (Bare Algorithm)
    ∷ field (codes "digest type") (Bare U8) ∷ field (codes "digest") Hex ∷ [])
    ∷ in_every 60 (codes "CDNSKEY")  -- RFC 7344 3.2
    (field (codes "flags") (Bare U16) ∷ field (codes "protocol") (Bare U8)
    ∷ field (codes "algorithm") (Bare Algorithm) ∷ field (codes "public key") Base64 ∷ [])
    ∷ in_every 61 (codes "OPENPGPKEY") (field (codes "key") Base64 ∷ [])  -- RFC 7929 2.3
    ∷ in_every 62 (codes "CSYNC")  -- RFC 7477 2.1.2
    (field (codes "serial") (Bare U32) ∷ field (codes "flags") (Bare U16)
    ∷ field (codes "types") PerhapsTypes ∷ [])
    ∷ in_every 63 (codes "ZONEMD")  -- RFC 8976 2.3
    (field (codes "serial") (Bare U32) ∷ field (codes "scheme") (Bare U8)
    ∷ field (codes "hash algorithm") (Bare U8) ∷ field (codes "digest") Hex ∷ [])
    ∷ in_internet 64 (codes "SVCB")  -- RFC 9460 2.1
    (field (codes "priority") (Bare U16) ∷ field (codes "target") (Bare Name)
    ∷ field (codes "parameters") Parameters ∷ [])
    ∷ in_internet 65 (codes "HTTPS")  -- RFC 9460 9
    (field (codes "priority") (Bare U16) ∷ field (codes "target") (Bare Name)
    ∷ field (codes "parameters") Parameters ∷ [])
    ∷ in_every 66 (codes "DSYNC")  -- RFC 9859 2.1
    (field (codes "rrtype") (Bare RecordType) ∷ field (codes "scheme") (Bare NotifyScheme)
    ∷ field (codes "port") (Bare U16) ∷ field (codes "target") (Bare Name) ∷ [])
    ∷ name_only 67 (codes "HHIT")
    ∷ name_only 68 (codes "BRID")
    ∷ in_every 99 (codes "SPF") (field (codes "data") Strings ∷ [])  -- RFC 4408 3.1.1
    ∷ name_only 100 (codes "UINFO")
    ∷ name_only 101 (codes "UID")
    ∷ name_only 102 (codes "GID")
    ∷ name_only 103 (codes "UNSPEC")
    ∷ in_every 104 (codes "NID")  -- RFC 6742 2.1
    (field (codes "preference") (Bare U16) ∷ field (codes "nodeid") (Bare NodeId) ∷ [])
    ∷ in_every 105 (codes "L32")  -- RFC 6742 2.2
    (field (codes "preference") (Bare U16) ∷ field (codes "locator32") (Bare Ipv4) ∷ [])
    ∷ in_every 106 (codes "L64")  -- RFC 6742 2.3
    (field (codes "preference") (Bare U16) ∷ field (codes "locator64") (Bare NodeId) ∷ [])
    ∷ in_every 107 (codes "LP")  -- RFC 6742 2.4
    (field (codes "preference") (Bare U16) ∷ field (codes "fqdn") (Bare Name) ∷ [])
    ∷ in_every 108 (codes "EUI48") (field (codes "address") (Bare Eui48) ∷ [])  -- RFC 7043 3.2
    ∷ in_every 109 (codes "EUI64") (field (codes "address") (Bare Eui64) ∷ [])  -- RFC 7043 4.2
    ∷ in_every 256 (codes "URI")  -- RFC 7553 4.4
    (field (codes "priority") (Bare U16) ∷ field (codes "weight") (Bare U16)
    ∷ field (codes "target") QuotedValue ∷ [])
    ∷ in_every 257 (codes "CAA")  -- RFC 8659 4.1.1
    (field (codes "flags") (Bare U8) ∷ field (codes "tag") (Bare Tag)
    ∷ field (codes "value") Value ∷ [])
    ∷ name_only 258 (codes "AVC")
    ∷ name_only 259 (codes "DOA")
    ∷ of_its_own 260 (codes "AMTRELAY") of_amtrelay
    ∷ in_every 261 (codes "RESINFO") (field (codes "data") Strings ∷ [])  -- RFC 9606 4
    ∷ in_every 262 (codes "WALLET")  -- the IANA registry of types, 2024
    (field (codes "data") Strings ∷ [])
    ∷ name_only 263 (codes "CLA")
    ∷ name_only 264 (codes "IPN")
    ∷ in_every 32768 (codes "TA")  -- the IANA registry of types, 2005
    (field (codes "key tag") (Bare U16) ∷ field (codes "algorithm") (Bare Algorithm)
    ∷ field (codes "digest type") (Bare U8) ∷ field (codes "digest") Hex ∷ [])
    ∷ in_every 32769 (codes "DLV")  -- RFC 4431 2
    (field (codes "key tag") (Bare U16) ∷ field (codes "algorithm") (Bare Algorithm)
    ∷ field (codes "digest type") (Bare U8) ∷ field (codes "digest") Hex ∷ [])
    ∷ []

abbrev pub type_registry : List RegisteredType
type_registry = early_types ++ (signed_types ++ late_types)

-- their numbers and mnemonics
abbrev pub named : RegisteredType → Named
named (in_words f) = record { number = f.number; mnemonic = f.mnemonic }
named (name_only number mnemonic) = record { number = number; mnemonic = mnemonic }

abbrev pub registered_types : List Named
registered_types = map named type_registry

-- the registered type of a number
abbrev pub registered_type : ℕ → Option RegisteredType
registered_type n = find (λ (row : RegisteredType). n == (named row).number) type_registry

-- the further types among them
abbrev pub further_in : RegisteredType → Option FurtherType
further_in (in_words f) = Some f
further_in (name_only number mnemonic) = None

abbrev pub further_types : List FurtherType
further_types = filter_map further_in type_registry

-- the numbers and mnemonics of these
abbrev pub further_names : List Named
further_names =
    map (λ (f : FurtherType). record { number = f.number; mnemonic = f.mnemonic }) further_types

-- the rows of the code are these
abbrev pub field_of : Field → NamedField
field_of f = field f.0.now f.1

abbrev pub of_code : coded_fields.Fields → Fields
of_code (coded.Same fields) = same (map field_of fields.now)
of_code coded.Ipseckey = of_ipseckey
of_code coded.Amtrelay = of_amtrelay
of_code coded.Hip = of_hip

abbrev pub further_of : code.FurtherType → FurtherType
further_of row =
    record {
      number = row.number;
      mnemonic = row.mnemonic.now;
      in_internet_alone = row.in_internet_alone;
      fields = of_code row.fields;
    }

abbrev pub registered_of : coded_types.RegisteredType → RegisteredType
registered_of (coded_type.InWords row) = in_words (further_of row)
registered_of (coded_type.NameOnly name) = name_only name.0 name.1.now

-- the further type of a number
abbrev pub further_type : ℕ → Option FurtherType
further_type n = find (λ (f : FurtherType). n == f.number) further_types

-- the word of a further type: its mnemonic in any letter case, or `TYPE` and its number
pub record IsFurtherWord (word : List ℕ) (further : FurtherType) : Type 0 where
  pub named : IsWordAmong further_names (codes "TYPE") word further.number
  pub row : further_type further.number ≡ Some further
