-- Values of a layout are data: their octets hold them, are octets, and without strings few.
use Rattle.zone_rdata.proofs.Common.{[], List, Option, Some, ap, length, refl, ℕ, ◌++◌, ◌∙◌, ◌∷◌, ◌≡◌, ◌≤◌, arith, ◌≢◌, AllByRecursion, MatchOption, drop_at, Field, FieldValue, HoldEach, Holds, field_octets, octets_of, values_of, AreLaidOut, IsData, StringsLast, layout, IsCanonicalOf, AllByRecursion-append, common_steps, Strings, None, subst, sym, IfSome, AreOctets, Fault, IsSized, fields_of, option_map, BadRdata, Layout}
use Rattle.zone_rdata.proofs.Fields.AnyField.{field_back, field_low}
use Rattle.zone_rdata.proofs.Octets.Taken.{uncompressed_length}
use Rattle.zone_rdata.proofs.Words.Tables.{table_row}
use Rattle.zone_rdata.proofs.Fields.FieldLaws.{AreLow}
use Rattle.zone_rdata.specs.Wire.{IsWireFault, no_value}

-- the first field of octets, and the fields after it
values_next : (f : Field) (row : List Field) (v : FieldValue) (octets : List ℕ) → Holds f v → (f ≡ Strings → octets ≡ []) → values_of (f ∷ row) (field_octets v ++ octets) ≡ v ∷ values_of row octets
values_next f row v octets h last = grind (arith, field_back, ℕ, drop_at)

pub values_back : (row : List Field) (values : List FieldValue) → StringsLast row → HoldEach row values → values_of row (octets_of values) ≡ values
values_back (f ∷ []) (v ∷ []) last h = values_next f [] v [] h.0 (λ e. refl)
values_back (f ∷ g ∷ row) (v ∷ values) last h = values_next f (g ∷ row) v (octets_of values) h.0 (λ e. absurd (last.0 e)) ∙ ap (λ vs. v ∷ vs) (values_back (g ∷ row) values last.1 h.1)
values_back row values last h = grind arith

pub laid_out : (row : List Field) (values : List FieldValue) → StringsLast row → HoldEach row values → AreLaidOut row (octets_of values)
laid_out row values last h = grind (arith, values_back)

-- data for a layout, if there is one: octets that are one value
abbrev pub AreFor : Option (List Field) → List ℕ → Type 0
AreFor laid octets = MatchOption laid (Unit {0}) (λ fields. AreLaidOut fields octets)

-- the canonical octets of what is stated are data, and as many
pub canonical_laid : (class kind : ℕ) (laid : Option (List Field)) (octets canonical : List ℕ) → laid ≡ layout class kind → IsCanonicalOf laid octets canonical → AreFor laid canonical
canonical_laid class kind None octets canonical e is = tt
canonical_laid class kind (Some fields) octets canonical e is = subst (AreLaidOut fields) (sym is.whole) (laid_out fields is.values (table_row class kind fields (sym e)).last is.held)

pub canonical_length : (laid : Option (List Field)) (octets canonical : List ℕ) → IsCanonicalOf laid octets canonical → length canonical ≡ length octets
canonical_length laid octets canonical is = grind (arith, uncompressed_length)

pub low_values : (row : List Field) (values : List FieldValue) → HoldEach row values → AreLow (octets_of values)
low_values (f ∷ row) (v ∷ values) held = grind (arith, AllByRecursion-append, field_low, low_values row values held.1)
low_values row values held = grind arith

pub held_data : (class kind : ℕ) (row : List Field) (values : List FieldValue) → layout class kind ≡ Some row → HoldEach row values → length (octets_of values) ≤ 65535 → IsData class kind (octets_of values)
held_data class kind row values e held short = grind (arith, low_values, laid_out, table_row)

pub stringless_short : (class kind : ℕ) (row : List Field) (values : List FieldValue) → layout class kind ≡ Some row → AllByRecursion (λ f. f ≢ Strings) row → HoldEach row values → length (octets_of values) ≤ 65535
stringless_short class kind row values e others held = grind (arith, common_steps)

pub equal_values : (class kind : ℕ) (row : List Field) (values others : List FieldValue) → layout class kind ≡ Some row → HoldEach row values → HoldEach row others → octets_of values ≡ octets_of others → values ≡ others
equal_values class kind row values others e held other_held same =
    let last = (table_row class kind row e).last in
    cc (values_back row values last held, values_back row others last other_held)

pub got_back : (class kind : ℕ) (row : List Field) (values : List FieldValue) → layout class kind ≡ Some row → HoldEach row values → values_of row (octets_of values) ≡ values
got_back class kind row values e held = grind (arith, values_back, table_row)

-- ---- from uncompressed octets

-- in a layout of the table octets of a fixed number are an address
pub table_sized : (class kind : ℕ) (laid : Option Layout) → option_map fields_of laid ≡ layout class kind → IfSome laid (λ l. AllByRecursion IsSized (fields_of l))
table_sized class kind laid e = grind (arith, common_steps)

pub canonical_data : (class kind : ℕ) (laid : Option (List Field)) (octets canonical : List ℕ) → laid ≡ layout class kind → IsCanonicalOf laid octets canonical → length octets ≤ 65535 → AreOctets canonical → IsData class kind canonical
canonical_data class kind laid octets canonical e is short each = grind (arith, canonical_length, canonical_laid)

pub wire_fault : (class kind : ℕ) (laid : Option (List Field)) (octets : List ℕ) (fault : Fault) → laid ≡ layout class kind → length octets ≤ 65535 → (fault ≡ BadRdata) × ((canonical : List ℕ) → IsCanonicalOf laid octets canonical → ⊥) → IsWireFault (layout class kind) octets fault
wire_fault class kind laid octets fault e short bad = grind (arith, no_value, layout)
