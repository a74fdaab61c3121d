-- The string of an item, or its first fault, as an answer on lists: of the units at the beginning
-- of its text.
use Rattle.zone_rdata.proofs.Common.{[], cases_lt, drop, length-drop, length-take, take, take-append-drop, ◌≡◌, ℕ, ◌<◌, ◌≤◌, nat_le, List, ◌∷◌, ◌++◌, length, Result, Ok, Err, ◌⊎◌, inl, inr, refl, sym, ap, ◌∙◌, subst, arith, append_assoc, length-append, AllByRecursion, le-leb, lt-leb, append-nil, length-map, flat_map-append, AreOctets, Written, text_of, octet_of, IsUnit, no_octet, written_text, written_octets, Fault, RawItem, SpellsString, StringFault, bad_escape, long_string, item_text, AllByRecursion-append, AllByRecursion-front, AllByRecursion-back, if◌then◌else◌, BadEscape, StringTooLong}
use Rattle.zone_name.specs.Machine.Units.{Units, units_first}
use Rattle.zone_name.proofs.Spelling.Units.{NoUnit, at_end, at_octet, at_backslash, UnitsAre, units_first_are, units_first_only}

-- what follows the last unit is nothing, or a backslash that begins no escape
abbrev ended : List Written → List ℕ → Result (List ℕ) Fault
ended units [] = Ok (written_octets units)
ended units (c ∷ rest) = Err BadEscape

abbrev answer : Units → Result (List ℕ) Fault
answer found = if nat_le (length found.units) 255 then ended found.units found.rest else Err StringTooLong

abbrev pub reading : List ℕ → Result (List ℕ) Fault
reading text = answer (units_first no_octet text)

-- ---- what is spelled is the answer

pub string_reads : (item : RawItem) (octets : List ℕ) → SpellsString item octets → reading (item_text item) ≡ Ok octets
string_reads item octets spells = grind (arith, length-map spells.units octet_of, units_first_only no_octet (item_text item) spells.units [] refl (spells.text ∙ sym (append-nil (written_text spells.units))) spells.each (at_end refl))

pub fault_reads : (item : RawItem) (fault : Fault) → StringFault item fault → reading (item_text item) ≡ Err fault
fault_reads item _ (bad_escape before rest r bad) = grind (arith, units_first_only, at_backslash, le-leb)
fault_reads item _ (long_string before w rest r full is) =
    let found : Units = units_first no_octet rest in
    let are : UnitsAre no_octet rest found = units_first_are no_octet rest in
    let units : List Written = before ++ (w ∷ found.units) in
    let whole : item_text item ≡ written_text units ++ found.rest = grind (arith, r.parts, are.whole, append_assoc, flat_map-append text_of before (w ∷ found.units)) in
    grind (arith, units_first_are, AllByRecursion-append, append_assoc, flat_map-append, units_first_only, lt-leb, length-append)

-- ---- the answer is spelled, or is the first fault

octets_each : (units : List Written) → AllByRecursion (IsUnit no_octet) units → AreOctets (written_text units) → AreOctets (written_octets units)
octets_each [] each low = tt
octets_each (w ∷ units) each low = grind (arith, octets_each units)

long_by : (item : RawItem) (units before after : List Written) (w : Written) (rest : List ℕ) → item_text item ≡ written_text units ++ rest → AllByRecursion (IsUnit no_octet) units → units ≡ before ++ w ∷ after → length before ≡ 255 → StringFault item StringTooLong
long_by item units before after w rest whole each parts count = grind (arith, flat_map-append, append_assoc, AllByRecursion-front, AllByRecursion-back, no_octet, written_text, text_of, long_string)

long_units : (item : RawItem) (found : Units) (last : List Written) → UnitsAre no_octet (item_text item) found → 255 < length found.units → drop 255 found.units ≡ last → StringFault item StringTooLong
long_units item found [] are long e = absurd (omega (arith, ap length e, length-drop 255 found.units))
long_units item found (w ∷ after) are long e = long_by item found.units (take 255 found.units) after w found.rest are.whole are.each (rw (← e) (sym (take-append-drop 255 found.units))) (omega (arith, length-take 255 found.units, long))

short_units : (item : RawItem) (units : List Written) (rest : List ℕ) → item_text item ≡ written_text units ++ rest → AllByRecursion (IsUnit no_octet) units → NoUnit no_octet rest → length units ≤ 255 → AreOctets (item_text item) → ((octets : List ℕ) × SpellsString item octets) ⊎ ((fault : Fault) × StringFault item fault)
short_units item units [] whole each none short low =
    let text : item_text item ≡ written_text units = whole ∙ append-nil (written_text units) in
    inl (written_octets units, record { units = units; each = each; text = text; value = refl; string = record { short = omega (arith, short, length-map units octet_of); each = octets_each units each (subst AreOctets text low) } })
short_units item units (c ∷ rest) whole each (at_end e) short low = absurd (cc)
short_units item units (c ∷ rest) whole each (at_octet d more e end) short low = cc
short_units item units (c ∷ rest) whole each (at_backslash bad) short low = inr (BadEscape, bad_escape units (c ∷ rest) (record { units = each; room = short; parts = whole }) bad)

pub string_or_fault : (item : RawItem) → AreOctets (item_text item) → ((octets : List ℕ) × SpellsString item octets) ⊎ ((fault : Fault) × StringFault item fault)
string_or_fault item low =
    let found = units_first no_octet (item_text item) in
    let are = units_first_are no_octet (item_text item) in
    elim (cases_lt 255 (length found.units)) [ inr short ↦ short_units item found.units found.rest are.whole are.each are.none short low | inl long ↦ inr (StringTooLong, long_units item found (drop 255 found.units) are long refl) ]
