-- Numbers in digits or by their mnemonics, and types by their words.
use Rattle.std.specs.Prelude.{◌≡◌, List, [], ℕ, codes}
use Rattle.std.specs.Int.{w8, w16}
use Rattle.zone_rdata.specs.Table.{mnemonic_among}
use Rattle.zone_rdata.specs.Words.{IsKind, word_or_numbered}
use Rattle.type_data.specs.Fault.{NothingStated}
use Rattle.type_data.specs.Kinds.Number.{IsInOctets, NumberFails, PrintsU8}
use Rattle.type_data.specs.Mnemonics.{IsAlgorithm, IsNumberOrMnemonic, IsTypeWord, certificate_types, notify_schemes}
use Rattle.type_data.specs.Table.{registered_types}
use Rattle.type_data.specs.declared.fault.WordsFault.{WordsFault}
use Rattle.type_data.specs.declared.fault.WordsFault.TheVariants.{NotAType}

-- an algorithm of DNSSEC, in one octet (RFC 4034 A.1)
abbrev pub StatesAlgorithm : List ℕ → List ℕ → Type 0
StatesAlgorithm text octets = IsInOctets (IsAlgorithm text) w8 octets

abbrev pub FailsAlgorithm : List ℕ → WordsFault → Type 0
FailsAlgorithm text fault = NumberFails (IsAlgorithm text) w8 fault

-- the type of a certificate, in two octets (RFC 4398 2.1)
abbrev pub StatesCertificateType : List ℕ → List ℕ → Type 0
StatesCertificateType text octets =
    IsInOctets (IsNumberOrMnemonic certificate_types text) w16 octets

abbrev pub FailsCertificateType : List ℕ → WordsFault → Type 0
FailsCertificateType text fault =
    NumberFails (IsNumberOrMnemonic certificate_types text) w16 fault

-- the scheme of DSYNC, in one octet (RFC 9859 2.1)
abbrev pub StatesNotifyScheme : List ℕ → List ℕ → Type 0
StatesNotifyScheme text octets = IsInOctets (IsNumberOrMnemonic notify_schemes text) w8 octets

abbrev pub FailsNotifyScheme : List ℕ → WordsFault → Type 0
FailsNotifyScheme text fault = NumberFails (IsNumberOrMnemonic notify_schemes text) w8 fault

-- a type of which records can be, in two octets (RFC 4034 3.1.1)
abbrev pub StatesType : List ℕ → List ℕ → Type 0
StatesType word octets = IsInOctets (IsTypeWord word) w16 octets

abbrev pub FailsType : List ℕ → WordsFault → Type 0
FailsType word fault = NothingStated NotAType (IsTypeWord word) fault

-- an algorithm is printed by its number: servers differ in some mnemonics
abbrev pub PrintsAlgorithm : List ℕ → List ℕ → Type 0
PrintsAlgorithm text octets = PrintsU8 text octets

-- the mnemonic of a type of certificates, or its number where it has none (RFC 4398 2.1)
abbrev pub certificate_word : ℕ → List ℕ
certificate_word n = word_or_numbered (mnemonic_among certificate_types n) [] n

abbrev pub PrintsCertificateType : List ℕ → List ℕ → Type 0
PrintsCertificateType text octets = IsInOctets (λ n. text ≡ certificate_word n) w16 octets

-- the mnemonic of a scheme, or its number where it has none (RFC 9859 2.1)
abbrev pub notify_scheme_word : ℕ → List ℕ
notify_scheme_word n = word_or_numbered (mnemonic_among notify_schemes n) [] n

abbrev pub PrintsNotifyScheme : List ℕ → List ℕ → Type 0
PrintsNotifyScheme text octets = IsInOctets (λ n. text ≡ notify_scheme_word n) w8 octets

-- the mnemonic of a registered type, or `TYPE` and its number (RFC 3597 5)
abbrev pub type_word : ℕ → List ℕ
type_word n = word_or_numbered (mnemonic_among registered_types n) (codes "TYPE") n

abbrev pub PrintsType : List ℕ → List ℕ → Type 0
PrintsType word octets = IsInOctets (λ n. (word ≡ type_word n) × IsKind n) w16 octets
