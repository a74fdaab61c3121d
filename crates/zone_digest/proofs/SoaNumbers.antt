-- The numbers that end the SOA's data (RFC 1035 3.3.13).
use Rattle.zone_set.proofs.Common.{◌≡◌, ◌≤◌, ℕ, List, [], ◌∷◌, length, ◌-◌, length-append, length-drop, drop, take, arith, subst, sym, ◌∙◌, AreLow, low_drop, low_take}
use Rattle.std.proofs.lemmas.Nat.{be_bytes_4}
use Rattle.std.specs.Int.{from_be_bytes, to_be_bytes, w32}
use Rattle.std.specs.Prelude.{MatchOption, ◌↔◌}
use Rattle.zone_name.specs.Common.{Labels, Octets}
use Rattle.zone_rdata.proofs.Fields.FieldLaws.{low_at}
use Rattle.zone_rdata.specs.Field.{name, octets_of, u32_value}
use Rattle.zone_rdata.specs.Layout.{AreLaidOut, layout}
use Rattle.zone_rdata.specs.Record.{IsRecord, Record}
use Rattle.zone_rdata.specs.declared.field.Field.TheVariants.{Name, Serial, Time}
use Rattle.zone_set.specs.Zone.{IsZone, Zone}
use Rattle.zone_set.proofs.Holding.Together.{each_Has}
use Rattle.zone_digest.specs.Verdict.{IsSerial}
use Rattle.zone_digest.proofs.Zonemds.{first_is, the_serial}

five : (a b : Labels) (v w x y t : ℕ) → 20 ≤ length (octets_of (name a ∷ name b ∷ u32_value v ∷ u32_value w ∷ u32_value x ∷ u32_value y ∷ u32_value t ∷ []))
five a b v w x y t = grind (arith, length-append)

laid_long : (octets : List ℕ) → AreLaidOut (Name ∷ Name ∷ Serial ∷ Time ∷ Time ∷ Time ∷ Time ∷ []) octets → 20 ≤ length octets
laid_long octets laid = subst (λ o. 20 ≤ length o) laid.whole (five _ _ _ _ _ _ _)

pub soa_numbers : (z : Zone) → IsZone z → (first : Record) (others : List Record) → z.records ≡ first ∷ others → 20 ≤ length first.octets
soa_numbers z is first others known =
    let own = first_is z is first others known in
    let stored = (each_Has IsRecord z.records first is.compatible.each own.1).rdata.octets in
    laid_long first.octets (subst (λ k. MatchOption (layout first.class k) (Unit {0}) (λ fields. AreLaidOut fields first.octets)) own.0 stored.value)

-- the octets of a serial are those of its number
pub serial_number : (z : Zone) (is : IsZone z) (first : Record) (others : List Record) → z.records ≡ first ∷ others → (numbers found : List ℕ) (n : ℕ) → numbers ≡ drop (length first.octets - 20) first.octets → found ≡ take 4 numbers → n ≡ from_be_bytes w32 found
    → (octets : Octets) → IsSerial z octets ↔ (octets ≡ to_be_bytes w32 n)
serial_number z is first others known numbers found n back front number octets =
    let long = soa_numbers z is first others known in
    let serial = the_serial z is first others known numbers found long back front octets in
    let own = first_is z is first others known in
    let each = (each_Has IsRecord z.records first is.compatible.each own.1).rdata.octets.each in
    let low : AreLow found = subst AreLow (sym front) (low_take 4 numbers (subst AreLow (sym back) (low_drop (length first.octets - 20) first.octets each))) in
    let size : length found ≡ 4 = grind (arith, front, back, length-drop, long) in
    let same : to_be_bytes w32 n ≡ found = be_bytes_4 found n size (low_at found low) number in
    (λ s. serial.0 s ∙ sym same, λ e. serial.1 (e ∙ same))
