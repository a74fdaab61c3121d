-- What the sets of a zone hold: octets of records, and entries in canonical order that tell where
-- each record stands in them.
use Rattle.std.specs.Prelude.{◌≡◌, ◌≢◌, ℕ, ◌-◌, ◌^◌, ◌<◌, min, Bool, true, false, List, ◌∷◌, ◌++◌, map}
use Rattle.std.specs.List.{AllByRecursion}
use Rattle.std.specs.List.Sorted.{IsPermutation}
use Rattle.std.specs.declared.cmp.Ordering.TheVariants.{Less}
use Rattle.zone_name.specs.Name.{IsWithin}
use Rattle.zone_rdata.specs.Record.{Record, IsRecord}
use Rattle.zone_set.specs.Machine.Hint.{IsHint}
use Rattle.zone_set.specs.Machine.Stored.{record_from, AreKept, IsHead, IsStored}
use Rattle.zone_set.specs.Message.{message_octets}
use Rattle.zone_set.specs.Order.{canonical_cmp, Ascends}
use Rattle.zone_set.specs.Zone.{Has, AreCompatible, InOneSet}
use Rattle.zone_set.specs.declared.entry.Entry.{Entry}
use Rattle.zone_set.specs.declared.stored.Head.{Head}

-- the record of an entry
abbrev pub entry_record : ℕ → List ℕ → Entry → Record
entry_record class octets e = record_from class octets e.at

abbrev pub all_records : ℕ → List ℕ → List Entry → List Record
all_records class octets entries = map (entry_record class octets) entries

-- octets of a record stand where the entry says
pub record IsLinked (class : ℕ) (octets : List ℕ) (e : Entry) : Type 0 where
  pub stands : IsStored class octets e.at
  pub whole : IsRecord (entry_record class octets e)

-- the record whose head was read
abbrev pub seen_record : ℕ → List ℕ → Head → Record
seen_record class octets h = record_from class octets h.at

-- its head is what the octets have there
pub record IsSeen (class : ℕ) (octets : List ℕ) (h : Head) : Type 0 where
  pub stands : IsStored class octets h.at
  pub whole : IsRecord (seen_record class octets h)
  pub head : IsHead octets h

-- and its hint is that of the record
pub record IsEntry (base : List (List ℕ)) (class : ℕ) (octets : List ℕ) (e : Entry) : Type 0 where
  pub linked : IsLinked class octets e
  pub hinted :
      IsHint base (entry_record class octets e).owner (entry_record class octets e).kind e.hint

-- an entry that can be compared with a record of a hint: where the hints differ, they decide, and
-- the records are not of one set
pub record IsComparable (octets : List ℕ) (hint : ℕ) (r : Record) (e : Entry) : Type 0 where
  pub linked : IsLinked r.class octets e
  pub before : e.hint < hint → canonical_cmp (entry_record r.class octets e) r ≡ Less
  pub after : hint < e.hint → canonical_cmp r (entry_record r.class octets e) ≡ Less
  pub one_set : InOneSet (entry_record r.class octets e) r → e.hint ≡ hint

-- entries of records that can stand together
pub record HoldsEntries (base : List (List ℕ)) (class : ℕ) (octets : List ℕ)
    (entries : List Entry) : Type 0 where
  pub each : AllByRecursion (IsEntry base class octets) entries
  pub compatible : AreCompatible (all_records class octets entries)

-- the octets keep these records and no others, one after another in some order
abbrev pub AreAllKept : ℕ → List ℕ → List Record → Type 0
AreAllKept class octets records =
    (kept : List Record) × AreKept class octets kept × IsPermutation kept records

-- such entries, the octets that their records take in messages, as far as 64 bits count them, and
-- whether the octets are known to keep these records alone
pub record KeepsSets (class : ℕ) (base : List (List ℕ)) (octets : List ℕ) (entries : List Entry)
    (counted : ℕ) (alone : Bool) : Type 0 where
  pub holds : HoldsEntries base class octets entries
  pub counts : counted ≡ min (message_octets (all_records class octets entries)) (2 ^ 64 - 1)
  pub kept : alone ≡ true → AreAllKept class octets (all_records class octets entries)

-- records of one set whose TTLs differ
abbrev pub HasOtherTtl : Record → Record → Type 0
HasOtherTtl s r = InOneSet s r × (s.ttl ≢ r.ttl)

-- a record was put at its place among others, or an equal one was held
abbrev pub IsPut : List Record → Record → Bool → List Record → Type 0
IsPut old r true new =
    (before after : List Record) × (old ≡ before ++ after) × (new ≡ before ++ r ∷ after)
    × Ascends new
IsPut old r false new = (new ≡ old) × Has old r

-- the owner of the first of these records that lies outside the zone of the apex
pub record IsFirstOutside (records : List Record) (apex owner : List (List ℕ)) : Type 0 where
  pub before : List Record
  pub first : Record
  pub others : List Record
  pub parts : records ≡ before ++ first ∷ others
  pub inside : AllByRecursion (λ r. IsWithin r.owner apex) before
  pub named : first.owner ≡ owner
  pub outside : IsWithin owner apex → ⊥
