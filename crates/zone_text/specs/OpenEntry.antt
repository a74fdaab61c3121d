-- An entry that comes in pieces (RFC 1035 5.1).
use Rattle.std.specs.Prelude.{◌≡◌, ℕ, zero, ◌<◌, ◌≤◌, List, [], ◌++◌, length, take, Option, Some, None}
use Rattle.zone_rdata.specs.declared.fault.Fault.{Fault}
use Rattle.zone_text.specs.Breaks.{Breaks}
use Rattle.zone_text.specs.Entries.{cut_from}
use Rattle.zone_text.specs.FirstEntry.{IsBrokenOff, IsOneEntry, IsOpen}
use Rattle.zone_text.specs.Tokens.{Token, Cuts}
use Rattle.zone_text.specs.declared.open_entry.EntryState.{EntryState}
use Rattle.zone_text.specs.declared.open_entry.EntryState.TheVariants.{Open, Ended, Broken}
use Rattle.zone_text.specs.declared.open_entry.Taken.{Taken}

-- the octets of an entry so far, and where they leave it
pub record HeldEntry : Type 0 where
  pub octets : List ℕ
  pub state : EntryState

-- the octets are open, one entry with the line feed that ends it, or broken off
abbrev pub EntryIs : List ℕ → EntryState → Type 0
EntryIs octets Open = IsOpen octets
EntryIs octets Ended = (tokens : List Token) × IsOneEntry octets tokens
EntryIs octets (Broken fault) = IsBrokenOff octets fault

-- what the input's end makes of octets that are open: the last entry or nothing, or a fault
abbrev pub EndIs : List ℕ → Option Fault → Type 0
EndIs octets None =
    (tokens : List Token) × Cuts octets tokens × ((cut_from zero tokens).ended ≡ [])
EndIs octets (Some fault) =
    (tokens : List Token) × Breaks octets tokens fault × ((cut_from zero tokens).ended ≡ [])

-- The first octets of a piece go on with an open entry: all of them, or those up to its end or to
-- what breaks it. An entry that is open no more takes nothing.
pub record TakesFrom (old : HeldEntry) (piece : List ℕ) (taken : Taken)
    (new : HeldEntry) : Type 0 where
  pub within : taken.len ≤ length piece
  pub octets : new.octets ≡ old.octets ++ take taken.len piece
  pub state : new.state ≡ taken.state
  pub is : EntryIs new.octets new.state
  pub all : taken.state ≡ Open → taken.len ≡ length piece
  pub some : old.state ≡ Open → 0 < length piece → 0 < taken.len
  pub settled : (old.state ≡ Open → ⊥) → (taken.len ≡ 0) × (new ≡ old)
