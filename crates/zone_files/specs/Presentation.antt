-- The zone that a master file denotes, with the records of all types in presentation format (RFC
-- 1035 5, RFC 3597 5) or in the generic form.
use Rattle.std.specs.Prelude.{ℕ, ◌<◌, ◌≤◌, List, length}
use Rattle.zone_name.specs.Common.{AreOctets, Labels}
use Rattle.zone_name.specs.Name.{IsCasedName, folded}
use Rattle.zone_rdata.specs.declared.fault.Fault.{Fault}
use Rattle.zone_rdata.specs.declared.fault.Fault.TheVariants.{InputTooLong}
use Rattle.zone_rdata.specs.declared.fault.Place.{Place}
use Rattle.zone_rdata.specs.declared.fault.Place.TheVariants.{Whole}
use Rattle.zone_rdata.specs.declared.record.Placed.{Placed}
use Rattle.zone_set.specs.Zone.{Zone}
use Rattle.zone_print.specs.Canonical.{text_limit}
use Rattle.zone_print.specs.Denotes.{MakesZone}
use Rattle.zone_engine.specs.Input.{InputDenotes, file, transfer}
use Rattle.zone_engine.specs.Refusal.{IsRefusal}
use Rattle.zone_words.specs.Entry.{IsRewriting}
use Rattle.zone_words.specs.Rewriting.{Refused}
use Rattle.zone_words.specs.WithWords.{FileStatesWithWords}

-- The file with the data of its further types in the generic form: what the reader of plain master
-- files is given.
pub record HasGenericForm (origin : Labels) (octets generic : List ℕ) : Type 0 where
  pub refused : List Refused
  pub rewriting : IsRewriting origin octets generic refused

-- A master file denotes a zone: the one of the records that it states, in presentation format or in
-- the generic form, under its origin. Names in data keep the letters of the origin. Neither the file
-- nor its generic form has more octets than the limit.
pub record PresentationDenotes (origin : Labels) (octets : List ℕ) (z : Zone) : Type 0 where
  pub within : length octets ≤ text_limit
  pub placed : List Placed
  pub states : FileStatesWithWords origin (folded origin) octets placed
  pub makes : MakesZone placed z
  pub short : (generic : List ℕ) → HasGenericForm origin octets generic
      → length generic ≤ text_limit

-- what refuses a master file, and where: it is longer than the limit, or else its generic form is
-- refused
pub data RefusesPresentation (origin : Labels) (octets : List ℕ) : Fault → Place → Type 0 where
  too_long : text_limit < length octets → RefusesPresentation origin octets InputTooLong Whole
  in_generic_form : (generic : List ℕ) (fault : Fault) (place : Place)
      → length octets ≤ text_limit → HasGenericForm origin octets generic
      → IsRefusal (file (folded origin) generic) fault place
      → RefusesPresentation origin octets fault place

-- where a zone comes from: a master file with its origin, or the octets of a zone transfer
pub data Source : Type 0 where
  master_file : Labels → List ℕ → Source
  zone_transfer : List ℕ → Source

-- octets, a file's under an origin that is a name
abbrev pub IsSource : Source → Type 0
IsSource (master_file origin octets) = IsCasedName origin × AreOctets octets
IsSource (zone_transfer octets) = AreOctets octets

abbrev pub SourceDenotes : Source → Zone → Type 0
SourceDenotes (master_file origin octets) z = PresentationDenotes origin octets z
SourceDenotes (zone_transfer octets) z = InputDenotes (transfer octets) z

abbrev pub IsSourceRefusal : Source → Fault → Place → Type 0
IsSourceRefusal (master_file origin octets) fault place =
    RefusesPresentation origin octets fault place
IsSourceRefusal (zone_transfer octets) fault place = IsRefusal (transfer octets) fault place

-- the source is refused
abbrev pub IsRefusedSource : Source → Type 0
IsRefusedSource source = (fault : Fault) × (place : Place) × IsSourceRefusal source fault place

-- both sources denote the same zone
abbrev pub AreOneZone : Source → Source → Type 0
AreOneZone a b = (z : Zone) × SourceDenotes a z × SourceDenotes b z
