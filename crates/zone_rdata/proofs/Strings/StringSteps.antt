-- The octets of a string as the code reads them, unit by unit.
use Rattle.zone_rdata.proofs.Common.{[], ◌≡◌, ℕ, ◌<◌, ◌≤◌, List, ◌∷◌, ◌++◌, length, sym, ap, ◌∙◌, subst, arith, append_assoc, length-append, flat_map_more, map_push, length-map, Written, text_of, octet_of, IsUnit, no_octet, BeginsWithUnit, written_text, written_octets, RawItem, ReachesUnit, StringFault, long_string, item_text, AllByRecursion-append, StringTooLong, AllByRecursion, false, map, refl, nat_eq, eqb-false, or_parts, list_any, AreOctets, SpellsString, bad_escape}
use Rattle.zone_name.specs.Spelling.{plain}

-- the octets of the units up to a place of an item's text
pub record HasRead (item : RawItem) (octets rest : List ℕ) : Type 0 where
  pub before : List Written
  pub reaches : ReachesUnit (item_text item) before rest
  pub value : octets ≡ written_octets before

-- as many octets as units
read_length : (item : RawItem) (octets rest : List ℕ) (read : HasRead item octets rest) → length octets ≡ length read.before
read_length item octets rest read = ap length read.value ∙ length-map read.before octet_of

pub read_more : (item : RawItem) (octets rest after new : List ℕ) (c : ℕ) → HasRead item octets rest → BeginsWithUnit no_octet rest c after → length octets < 255 → new ≡ octets ++ c ∷ [] → HasRead item new after
read_more item octets rest after new c read begins room grown = record {
  before = read.before ++ begins.unit ∷ [];
  reaches = record {
    units = AllByRecursion-append (IsUnit no_octet) read.before (begins.unit ∷ []) read.reaches.units (begins.is_unit, tt);
    room = omega (arith, read_length item octets rest read, length-append read.before (begins.unit ∷ []));
    parts = read.reaches.parts ∙ ap (λ t. written_text read.before ++ t) begins.parts ∙ sym (append_assoc (written_text read.before) (text_of begins.unit) after) ∙ ap (λ t. t ++ after) (flat_map_more text_of [] read.before begins.unit);
  };
  value = grown ∙ ap (λ t. t ++ c ∷ []) read.value ∙ ap (λ t. written_octets read.before ++ t ∷ []) (sym begins.value) ∙ sym (map_push octet_of read.before begins.unit);
}

pub read_full : (item : RawItem) (octets rest after : List ℕ) (c : ℕ) → HasRead item octets rest → BeginsWithUnit no_octet rest c after → 255 ≤ length octets → StringFault item StringTooLong
read_full item octets rest after c read begins full =
    let P : List ℕ → Type 0 = ReachesUnit (item_text item) read.before in
    long_string read.before begins.unit after (subst P begins.parts read.reaches) (omega (arith, read_length item octets rest read, read.reaches.room)) begins.is_unit

-- ---- a text without a backslash

plain_written : (text : List ℕ) → (text ≡ written_text (map plain text)) × (text ≡ written_octets (map plain text))
plain_written [] = (refl, refl)
plain_written (c ∷ text) = grind (arith, plain_written text)

plain_units : (text : List ℕ) → list_any (λ y. nat_eq y 92) text ≡ false → AllByRecursion (IsUnit no_octet) (map plain text)
plain_units [] none = tt
plain_units (c ∷ text) none = let p = or_parts (nat_eq c 92) (list_any (λ y. nat_eq y 92) text) none in ((refl, eqb-false c 92 p.0), plain_units text p.1)

-- the text is the string
pub spells_itself : (item : RawItem) (text : List ℕ) → text ≡ item_text item → list_any (λ y. nat_eq y 92) text ≡ false → length text ≤ 255 → AreOctets text → SpellsString item text
spells_itself item text e none short octets = record {
  units = map plain text;
  each = plain_units text none;
  text = sym e ∙ (plain_written text).0;
  value = (plain_written text).1;
  string = record { short = short; each = octets };
}

pub ruleset steps_read = (bad_escape, read_more)
