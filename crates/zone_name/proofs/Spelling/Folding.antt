-- Names that are read with their letters kept, and then folded.
use Rattle.zone_name.proofs.Common.{nat_tests, Written, WritesBy, common_steps, ◌≡◌, ℕ, List, [], ◌∷◌, ◌++◌, Option, IfSome, option_map, inl, inr, refl, sym, ap, ◌∙◌, arith, map-append, length-map, folded, folded_label, folded_octet, flat_map, with_length, wire, labels_of, HoldsCasedName, HoldsName, IsCasedName, IsName, kept, named, Writes, root, at_origin, absolute, relative, Spells, SpellsCased, SpellingFault, within, unfounded, long_name, NameFault, Folded, Kept}
use Rattle.std.proofs.Common.{map}
use Rattle.zone_name.specs.Common.{AreOctets, Labels}
use Rattle.zone_name.proofs.Spelling.Answered.{ShortLabels, either_by, faultless_by, once_by}
use Rattle.zone_name.proofs.InOctets.Octets.{HoldsName-wire, labels_of-wire}
use Rattle.zone_name.proofs.InOctets.Pushing.{folded_frames, folded_labels, folded_size}

-- a name in lower case is one
pub IsName-folded : (labels : Labels) → IsCasedName labels → IsName (folded labels)
IsName-folded labels name = record { each = folded_labels labels name.each; short = rw (folded_size labels) name.short }

-- ---- octets

octets_folded : (octets : List ℕ) → HoldsCasedName octets → map folded_octet octets ≡ wire (folded (labels_of octets))
octets_folded octets holds = ap (map folded_octet) (sym holds.whole) ∙ map-append folded_octet (flat_map with_length (labels_of octets)) (0 ∷ []) ∙ ap (λ t. t ++ 0 ∷ []) (folded_frames (labels_of octets) holds.name.each)

pub folded_name : (octets new : List ℕ) → HoldsCasedName octets → new ≡ map folded_octet octets → HoldsName new × (labels_of new ≡ folded (labels_of octets))
folded_name octets new holds e =
    grind (arith, common_steps, IsName-folded, octets_folded, HoldsName-wire, labels_of-wire)

-- ---- texts

writes_folded : (taken : List (List Written) → Labels) → ((written : List (List Written)) → folded (taken written) ≡ named written) → (origin : Option Labels) (text : List ℕ) (labels : Labels) → WritesBy taken origin text labels → Writes (option_map folded origin) text (folded labels)
writes_folded taken same origin text labels (root e none) = root e (ap folded none)
writes_folded taken same origin text labels (at_origin e is) = at_origin e (ap (option_map folded) is)
writes_folded taken same origin text labels (absolute written are e is) = absolute written are e (ap folded is ∙ same written)
writes_folded taken same origin text labels (relative written above are other e is joined) =
    relative written (folded above) are other e (ap (option_map folded) is) (ap folded joined ∙ map-append folded_label (taken written) above ∙ ap (λ t. t ++ folded above) (same written))

pub Spells-folded : (origin : Option Labels) (text : List ℕ) (labels : Labels) → SpellsCased origin text labels → Spells (option_map folded origin) text (folded labels)
Spells-folded origin text labels spells = record { written = writes_folded kept (λ written. refl) origin text labels spells.written; name = IsName-folded labels spells.name }

short_folded : (labels : Labels) → ShortLabels labels → ShortLabels (folded labels)
short_folded [] short = tt
short_folded (label ∷ labels) short = grind (arith, length-map, short_folded labels short.1)

-- letters stay where they are folded once more
octet_twice : (c : ℕ) → folded_octet (folded_octet c) ≡ folded_octet c
octet_twice c = grind (arith, nat_tests)

label_twice : (label : List ℕ) → folded_label (folded_label label) ≡ folded_label label
label_twice [] = refl
label_twice (c ∷ label) = cc (octet_twice c, label_twice label)

folded_twice : (labels : Labels) → folded (folded labels) ≡ folded labels
folded_twice [] = refl
folded_twice (label ∷ labels) = cc (label_twice label, folded_twice labels)

pub SpellingFault-folded : (origin : Option Labels) (text : List ℕ) (fault : NameFault) → SpellingFault origin text fault → SpellingFault (option_map folded origin) text fault
SpellingFault-folded origin text fault (within f at) = within f at
SpellingFault-folded origin text fault (unfounded none is) = unfounded (ap (option_map folded) none) is
SpellingFault-folded origin text fault (long_name labels writes short long) =
    long_name (folded labels) (writes_folded named (λ written. folded_twice (kept written)) origin text labels writes) (short_folded labels short) (omega (arith, long, folded_size labels))

pub Spells-kept : (origin : Option Labels) (text : List ℕ) (labels : Labels) → IfSome origin IsCasedName → AreOctets text → Spells (option_map folded origin) text labels → (cased : Labels) × SpellsCased origin text cased × (folded cased ≡ labels)
Spells-kept origin text labels known octets spells = elim (either_by Kept origin text known octets) [
  | inl found ↦ (found.0, found.1, once_by Folded (option_map folded origin) text (folded found.0) labels (Spells-folded origin text found.0 found.1) spells)
  | inr bad ↦ absurd (faultless_by Folded (option_map folded origin) text labels bad.0 spells (SpellingFault-folded origin text bad.0 bad.1))
]
