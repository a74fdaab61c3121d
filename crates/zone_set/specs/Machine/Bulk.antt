-- Entries that were sorted at once: what their neighbours have to show.
use Rattle.std.specs.Prelude.{◌≡◌, ℕ, ◌+◌, ◌==◌, Bool, false, if◌then◌else◌, List, [], ◌∷◌, ⊤, length, take, drop, slice_index, bytes_eq}
use Rattle.std.specs.Int.{from_be_bytes, w16}
use Rattle.std.specs.declared.cmp.Ordering.TheVariants.{Less}
use Rattle.std.specs.List.{AllByRecursion}
use Rattle.zone_rdata.specs.Record.{Record}
use Rattle.zone_rdata.specs.declared.fault.Place.{Place}
use Rattle.zone_rdata.specs.declared.record.Placed.{Placed}
use Rattle.zone_set.specs.Builder.{AreTwoSoas}
use Rattle.zone_set.specs.Machine.Held.{all_records, HasOtherTtl, IsEntry}
use Rattle.zone_set.specs.Machine.Stored.{AreKept}
use Rattle.zone_set.specs.Order.{canonical_cmp}
use Rattle.zone_set.specs.declared.entry.Entry.{Entry}

-- the first stands before the second, and both may stand in one zone
pub record StandNext (r s : Record) : Type 0 where
  pub before : canonical_cmp r s ≡ Less
  pub one_ttl : HasOtherTtl r s → ⊥
  pub one_soa : AreTwoSoas r s → ⊥

-- so do all neighbours
abbrev pub AreNeighbours : List Record → Type 0
AreNeighbours [] = ⊤
AreNeighbours (r ∷ []) = ⊤
AreNeighbours (r ∷ (s ∷ records)) = StandNext r s × AreNeighbours (s ∷ records)

-- how many octets keep the record whose octets these begin with
abbrev pub span_len : List ℕ → ℕ
span_len octets = 9 + slice_index octets 6 + from_be_bytes w16 (take 2 (drop 7 octets))

-- the octets that keep the record at a place, as far as there are any
abbrev pub span : List ℕ → ℕ → List ℕ
span octets at = take (span_len (drop at octets)) (drop at octets)

-- two entries have one hint, and the same octets keep their records
abbrev pub is_repeat : List ℕ → Entry → Entry → Bool
is_repeat octets a b =
    if a.hint == b.hint then bytes_eq (span octets a.at) (span octets b.at) else false

-- an entry with a hint in the place of its own
abbrev pub with_hint : ℕ → Entry → Entry
with_hint hint e = record { hint = hint; at = e.at }

-- records, each at its place
abbrev pub placed_at : List Record → List Place → List Placed
placed_at [] places = []
placed_at (r ∷ records) [] = []
placed_at (r ∷ records) (place ∷ places) =
    record { rr = r; place = place } ∷ placed_at records places

-- entries and places as the records that came
abbrev pub listed : ℕ → List ℕ → List Entry → List Place → List Placed
listed class octets entries places = placed_at (all_records class octets entries) places

-- what a list of records keeps: each entry's record in its turn, and a place for each
pub record KeepsList (class : ℕ) (base : List (List ℕ)) (octets : List ℕ) (entries : List Entry)
    (places : List Place) : Type 0 where
  pub each : AllByRecursion (IsEntry base class octets) entries
  pub kept : AreKept class octets (all_records class octets entries)
  pub count : length places ≡ length entries
