-- What items state for a layout, if there is one, and why they state nothing.
use Rattle.zone_rdata.proofs.Common.{◌≡◌, ℕ, ◌≤◌, List, length, sym, ap, subst, Bool, false, IsTrue, ◌↔◌, Option, Some, Result, Ok, Err, arith, OnOk, Labels, Failing, Fault, IsGenericDataFault, no_value, IfFault, StatesGeneric, RawItem, IsGeneric, fields_of, AreSpelt, StatesFor, in_words, IsUncompressed, option_map, BadRdata, Layout, IfErr-fault, in_generic_form, opaque_words, [], ◌∷◌, AreOctets, Field, FieldValue, HoldEach, items_after, own_items, IsData, layout, SpellEach, States, None, in_octets, ◌∙◌, AreLaidOut}
use Rattle.zone_rdata.specs.DataFault.{in_words as words_faulty}
use Rattle.zone_rdata.proofs.Fields.AnyField.{field_holds}
use Rattle.zone_rdata.proofs.Words.Tables.{table_row}
use Rattle.zone_rdata.proofs.Fields.FieldLaws.{AreLow}
use Rattle.zone_rdata.proofs.Items.ItemLaws.{joined_low}
use Rattle.zone_rdata.proofs.Octets.Layouts.{AreFor, canonical_laid, canonical_length, laid_out, low_values}
use Rattle.zone_rdata.specs.declared.fault.Failing.TheVariants as failings

-- octets in the generic form that are no value of the layout
pub form_value : (laid : Option Layout) (own : Layout) (items : List RawItem) (stated octets : List ℕ) (fault : Fault) → laid ≡ Some own → StatesGeneric items stated → octets ≡ stated → (fault ≡ BadRdata) × ((canonical : List ℕ) → IsUncompressed (fields_of own) octets canonical → ⊥) → IsGenericDataFault (option_map fields_of laid) items fault
form_value laid own items stated octets fault e form is bad =
    let laid_is : option_map fields_of laid ≡ Some (fields_of own) = ap (option_map fields_of) e in
    subst (IsGenericDataFault (option_map fields_of laid) items) (sym bad.0) (no_value (fields_of own) stated laid_is form (λ canonical u. bad.1 canonical (subst (λ o. IsUncompressed (fields_of own) o canonical) (sym is) u)))

pub not_marked : (items : List RawItem) (b : Bool) → b ≡ false → (IsTrue b ↔ IsGeneric items) → IsGeneric items → ⊥
not_marked items b plain_items test g = grind arith

-- items in words
pub words_read : {T : Type 0} (r : Result T Failing) (origin : Labels) (laid : Option Layout) (own : Layout) (items : List RawItem) (b : Bool) (octets : List ℕ) → laid ≡ Some own → b ≡ false → (IsTrue b ↔ IsGeneric items) → OnOk r (AreSpelt origin (fields_of own) items octets) → OnOk r (length octets ≤ 65535) → OnOk r (StatesFor origin (option_map fields_of laid) items octets)
words_read (Ok _) origin laid own items b octets e plain_items test spelt short = in_words (fields_of own) spelt.values (ap (option_map fields_of) e) (not_marked items b plain_items test) spelt.spelt spelt.written short
words_read (Err failing) origin laid own items b octets e plain_items test spelt short = tt

-- items that state a value are refused for want of memory alone
pub memory_left : (e : Failing) (P : Fault → Type 0) → IfFault P e → ((fault : Fault) → P fault → ⊥) → e ≡ failings.Memory
memory_left e P bad none = grind arith

pub ruleset octets_read = (IfErr-fault, in_generic_form, opaque_words, words_faulty, not_marked, words_read)

-- ---- what is stated is data

pub spelt_hold : (origin : Labels) (row : List Field) (items : List RawItem) (values : List FieldValue) → SpellEach origin row items values → HoldEach row values
spelt_hold origin (f ∷ row) items (v ∷ values) h = (field_holds origin f (own_items f items) v h.0, spelt_hold origin row (items_after f items) values h.1)
spelt_hold origin row items values h = grind arith

-- the octets that items state for a layout of the table are data
stated_laid : (origin : Labels) (class kind : ℕ) (laid : Option (List Field)) (items : List RawItem) (octets : List ℕ) → laid ≡ layout class kind → StatesFor origin laid items octets → AreFor laid octets
stated_laid origin class kind laid items octets e (in_words fields values some bare spelt is short) =
    subst (λ l. AreFor l octets) (sym some) (subst (AreLaidOut fields) (sym is) (laid_out fields values (table_row class kind fields (sym e ∙ some)).last (spelt_hold origin fields items values spelt)))
stated_laid origin class kind laid items octets e (in_octets (stated, form, is)) = canonical_laid class kind laid stated octets e is

stated_short : (origin : Labels) (laid : Option (List Field)) (items : List RawItem) (octets : List ℕ) → StatesFor origin laid items octets → length octets ≤ 65535
stated_short origin laid items octets h = grind (arith, canonical_length)

-- what items state for the layout of a class and type is their data
pub stated_data : (origin : Labels) (class kind : ℕ) (laid : Option (List Field)) (items : List RawItem) (octets : List ℕ) → laid ≡ layout class kind → StatesFor origin laid items octets → AreOctets octets → IsData class kind octets
stated_data origin class kind laid items octets e stated each = grind (arith, stated_short origin laid items octets stated, stated_laid origin class kind laid items octets e stated)

pub states_for : (origin : Labels) (class kind : ℕ) (laid : Option (List Field)) (items : List RawItem) (octets : List ℕ) → laid ≡ layout class kind → StatesFor origin laid items octets → States origin class kind items octets
states_for origin class kind laid items octets e stated = grind arith

pub stated_low : (origin : Labels) (laid : Option (List Field)) (items : List RawItem) (octets : List ℕ) → StatesFor origin laid items octets → AreLow octets
stated_low origin laid items octets (in_words fields values e bare spelt is short) = subst AreLow (sym is) (low_values fields values (spelt_hold origin fields items values spelt))
stated_low origin None items octets (in_octets (stated, form, is)) = subst AreLow (sym is) (joined_low form.digits stated form.joined)
stated_low origin (Some fields) items octets (in_octets (stated, form, is)) = subst AreLow (sym is.whole) (low_values fields is.values is.held)
