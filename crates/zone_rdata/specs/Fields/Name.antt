-- A field that is a domain name (RFC 1035 3.3).
use Rattle.std.specs.Prelude.{◌≡◌, ℕ, List, Some}
use Rattle.zone_name.specs.Common.{Labels}
use Rattle.zone_name.specs.Name.{folded, wire}
use Rattle.zone_name.specs.Spelling.{SpellingFault}
use Rattle.zone_name.specs.declared.fault.NameFault.{NameFault}
use Rattle.zone_rdata.specs.declared.fault.Fault.{Fault}
use Rattle.zone_rdata.specs.Fault.{fault_of}

-- the fault of a bare text that is no name under the origin: the name's own first fault
abbrev pub IsNameFault : Labels → List ℕ → Fault → Type 0
IsNameFault origin text fault =
    (f : NameFault) × SpellingFault (Some origin) text f × (fault ≡ fault_of f)

-- a name as it is sent: its labels in any letter case (RFC 4343 3)
abbrev pub IsSentName : Labels → List ℕ → Type 0
IsSentName labels octets = (sent : Labels) × (folded sent ≡ labels) × (octets ≡ wire sent)
