-- The laws of strings.
use Rattle.zone_rdata.proofs.Common.{[], ◌≡◌, ◌≢◌, ℕ, ◌<◌, Bool, ◌||◌, ◌==◌, List, ◌∷◌, refl, sym, ◌∙◌, arith, AllByRecursion, AreOctets, Written, text_of, IsUnit, no_octet, written_text, written_octets, Fault, RawItem, quoted, IsString, SpellsString, StringFault, StandsInQuotes, is_quote, inside_text, is_shown, map, printed_text, value_by, each_weaker}
use Rattle.zone_name.proofs.Texts.Lawful.{written_by}
use Rattle.zone_rdata.proofs.Strings.Units.{string_reads, fault_reads}
pub use Rattle.zone_rdata.proofs.Strings.Units.{string_or_fault}

pub string-once : (item : RawItem) (a b : List ℕ) → SpellsString item a → SpellsString item b → a ≡ b
string-once item a b s t = let e = sym (string_reads item a s) ∙ string_reads item b t in cc

pub string-never_both : (item : RawItem) (octets : List ℕ) (fault : Fault) → SpellsString item octets → StringFault item fault → ⊥
string-never_both item octets fault s f = cc (string_reads item octets s, fault_reads item fault f)

pub fault-once : (item : RawItem) (a b : Fault) → StringFault item a → StringFault item b → a ≡ b
fault-once item a b f g = let e = sym (fault_reads item a f) ∙ fault_reads item b g in cc

-- ---- what is printed
abbrev is_special : ℕ → Bool
is_special c = c == 34 || c == 92

abbrev printed_unit : ℕ → Written
printed_unit c = written_by (is_special c) (is_shown c) c

quoted_by : (special shown : Bool) (c : ℕ) → is_special c ≡ special → is_shown c ≡ shown → c < 256 → IsUnit is_quote (written_by special shown c)
unfolding written_by
quoted_by special shown c e s low = grind arith

line_by : (special shown : Bool) (c : ℕ) → is_special c ≡ special → is_shown c ≡ shown → AllByRecursion (λ d. d ≢ 10) (text_of (written_by special shown c))
unfolding written_by
line_by special shown c e s = grind arith

abbrev printed_units : List ℕ → List Written
printed_units octets = map printed_unit octets

quoted_units : (octets : List ℕ) → AreOctets octets → AllByRecursion (IsUnit is_quote) (printed_units octets)
quoted_units [] each = tt
quoted_units (c ∷ octets) each = (quoted_by (is_special c) (is_shown c) c refl refl each.0, quoted_units octets each.1)

units_text : (octets : List ℕ) → inside_text octets ≡ written_text (printed_units octets)
units_text [] = refl
units_text (c ∷ octets) = cc (printed_text (is_special c) (is_shown c) c, units_text octets)

units_octets : (octets : List ℕ) → octets ≡ written_octets (printed_units octets)
units_octets [] = refl
units_octets (c ∷ octets) = cc (value_by (is_special c) (is_shown c) c, units_octets octets)

units_line : (octets : List ℕ) → AllByRecursion (λ d. d ≢ 10) (written_text (printed_units octets))
units_line [] = tt
units_line (c ∷ octets) = grind (arith, printed_unit, printed_units, line_by (is_special c) (is_shown c) c refl refl, units_line octets)

unit_of_quoted : (w : Written) → IsUnit is_quote w → IsUnit no_octet w
unit_of_quoted w is = grind arith

pub printed_spells : (octets : List ℕ) → IsString octets → SpellsString (quoted (inside_text octets)) octets
printed_spells octets is = grind (arith, printed_units, each_weaker, unit_of_quoted, quoted_units, units_text, units_octets)

pub printed_stands : (octets : List ℕ) → IsString octets → StandsInQuotes (inside_text octets)
printed_stands octets is = grind (arith, printed_units, quoted_units, units_text, units_line)

pub ruleset printed_strings = (printed_spells, printed_stands)
