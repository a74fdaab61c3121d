-- A loader of a master file that is fed in pieces: what it holds, and what it stands for. This is
-- this project's own: RFC 1035 speaks of whole files.
use Rattle.std.specs.Prelude.{◌≡◌, ℕ, ◌-◌, ◌^◌, ◌<◌, ◌≤◌, List, [], ◌++◌, length, min, Bool, false, Option, Some, None, IfSome}
use Rattle.zone_name.specs.Common.{AreOctets, Labels}
use Rattle.zone_name.specs.Name.{IsName}
use Rattle.zone_rdata.specs.FedSource.{SourceState}
use Rattle.zone_rdata.specs.declared.fault.Fault.{Fault}
use Rattle.zone_rdata.specs.declared.fault.Fault.TheVariants.{InputTooLong}
use Rattle.zone_rdata.specs.declared.fault.Place.{Place}
use Rattle.zone_rdata.specs.declared.fault.Place.TheVariants.{Whole}
use Rattle.zone_rdata.specs.declared.record.Placed.{Placed}
use Rattle.zone_set.specs.ZoneList.{Tells}
use Rattle.zone_print.specs.Canonical.{text_limit}
use Rattle.zone_text.specs.TextSource.{FileKept, StandsForFile}
use Rattle.zone_engine.specs.Input.{file}
use Rattle.zone_engine.specs.Refusal.{IsRefusal}

-- What a loader holds: the source of the file's records, the records that it took of it, why the
-- file is refused and where, if that is decided, the number of octets fed, and whether it was
-- refused memory
pub record LoaderState : Type 0 where
  pub source : SourceState FileKept
  pub listed : List Placed
  pub refusal : Option (Fault × Place)
  pub fed : ℕ
  pub failed : Bool

-- all records that the octets decide were taken, and no fault is decided
pub record HasTaken (origin : Labels) (loader : LoaderState) (fed : List ℕ) : Type 0 where
  pub given : List Placed
  pub stands : StandsForFile origin loader.source fed given
  pub tells : Tells given loader.listed
  pub none_left : loader.source.pending.records ≡ []
  pub unbroken : loader.source.pending.ending ≡ None

-- a file that begins with these octets is refused so, whatever follows them, unless it is too long
abbrev pub RefusesBeginning : Labels → List ℕ → Fault → Place → Type 0
RefusesBeginning origin front fault place =
    (more : List ℕ) → AreOctets (front ++ more) → length (front ++ more) ≤ text_limit
    → IsRefusal (file origin (front ++ more)) fault place

-- The loader, made under an origin, stands for the octets that it was fed: they decide no refusal
-- and it took all their records; or it holds what refuses every file that begins with them.
pub record StandsForFed (origin : Labels) (loader : LoaderState) (fed : List ℕ) : Type 0 where
  pub name : IsName origin
  pub octets : AreOctets fed
  pub count : loader.fed ≡ min (length fed) (2 ^ 64 - 1)
  pub works : loader.failed ≡ false
  pub taken : loader.refusal ≡ None → HasTaken origin loader fed
  pub refused : IfSome loader.refusal (λ it. RefusesBeginning origin fed it.0 it.1)
  pub too_long : text_limit < length fed → loader.refusal ≡ Some (InputTooLong, Whole)
