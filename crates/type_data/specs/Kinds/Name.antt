-- A domain name, with the letters of the file (RFC 1035 3.1, 5.1).
use Rattle.std.specs.Prelude.{◌≡◌, ℕ, List, Some}
use Rattle.zone_name.specs.Common.{Labels}
use Rattle.zone_name.specs.Name.{IsCasedName, wire}
use Rattle.zone_name.specs.Spelling.{SpellingFault, SpellsCased}
use Rattle.zone_name.specs.Text.{name_text}
use Rattle.zone_name.specs.declared.fault.NameFault.{NameFault}
use Rattle.type_data.specs.declared.fault.WordsFault.{WordsFault}
use Rattle.type_data.specs.declared.fault.WordsFault.TheVariants.{NotAName}
pub mod Machine

-- the text spells a name under the origin, and these are its uncompressed octets
abbrev pub StatesName : Labels → List ℕ → List ℕ → Type 0
StatesName origin text octets =
    (labels : Labels) × SpellsCased (Some origin) text labels × (octets ≡ wire labels)

-- the text spells none, and the fault is the first of the name
abbrev pub FailsName : Labels → List ℕ → WordsFault → Type 0
FailsName origin text fault =
    (f : NameFault) × SpellingFault (Some origin) text f × (fault ≡ NotAName (Some f))

-- the same under some origin
abbrev pub StatesSomeName : List ℕ → List ℕ → Type 0
StatesSomeName text octets = (origin : Labels) × StatesName origin text octets

-- the name with its letters and a dot at its end, which no origin is put after
abbrev pub PrintsName : List ℕ → List ℕ → Type 0
PrintsName text octets =
    (labels : Labels) × IsCasedName labels × (text ≡ name_text labels) × (octets ≡ wire labels)
