-- The parts of an address between its colons.
use Rattle.zone_rdata.proofs.Common.{[], ◌≡◌, ℕ, ◌+◌, ◌<◌, ◌≤◌, ◌==◌, Bool, inl, inr, List, ◌∷◌, ◌++◌, length, map, refl, sym, ap, arith, append_assoc, length-append, AllByRecursion, join_with_byte, append-nil, IsIpv4Address, AddressPart, AreParts, parts_text, parts_octets, ArePartsOf, Lacks, IsCutAtFirst, IsGroupOf, IsLastPartOf, NoneFits, join_with_byte-slice_split, length-slice_split, common_steps}
use Rattle.zone_rdata.proofs.Addresses.Cut.{split, split_cut, split_join, split_lacks, group_lacks, group_same, last_lacks, last_same}

some_numbers : (text : List ℕ) (numbers : List (List ℕ)) → length numbers ≡ 4 → text ≡ join_with_byte 46 numbers → 0 < length text
some_numbers text (a ∷ b ∷ numbers) counted parted = grind (arith, length-append)
some_numbers text numbers counted parted = absurd (omega arith)

pub ipv4_some : (text octets : List ℕ) → IsIpv4Address text octets → 0 < length text
ipv4_some text octets is = some_numbers text is.numbers is.counted is.parted

pub parts_some : (ends : Bool) (p : AddressPart) (parts : List AddressPart) → AreParts ends (p ∷ parts) → 0 < length (parts_text (p ∷ parts))
parts_some ends p [] (inl is) = is.some
parts_some ends p [] (inr are) = ipv4_some p.text p.octets are.1
parts_some ends p (q ∷ parts) are = grind (arith, length-append)

-- ---- a text's parts are its own

-- texts are parts with these octets
abbrev pub HaveParts : Bool → List (List ℕ) → List ℕ → Type 0
HaveParts ends [] octets = octets ≡ []
HaveParts ends (text ∷ []) octets = IsLastPartOf ends text octets
HaveParts ends (text ∷ next ∷ texts) octets = (added : List ℕ) × (more : List ℕ) × IsGroupOf text added × HaveParts ends (next ∷ texts) more × (octets ≡ added ++ more)

have_parts : (ends : Bool) (parts : List AddressPart) → AreParts ends parts → HaveParts ends (map (λ (p : AddressPart). p.text) parts) (parts_octets parts)
have_parts ends [] are = refl
have_parts ends (p ∷ []) are = rw append-nil are
have_parts ends (p ∷ q ∷ parts) are = (p.octets, parts_octets (q ∷ parts), are.0, have_parts ends (q ∷ parts) are.1, refl)

parts_lack : (ends : Bool) (parts : List AddressPart) → AreParts ends parts → AllByRecursion (Lacks 58) (map (λ (p : AddressPart). p.text) parts)
parts_lack ends [] are = tt
parts_lack ends (p ∷ []) are = (last_lacks ends p are, tt)
parts_lack ends (p ∷ q ∷ parts) are = (group_lacks 58 p refl are.0, parts_lack ends (q ∷ parts) are.1)

found_by : (ends : Bool) (text octets : List ℕ) (parts : List AddressPart) → 0 < length text → AreParts ends parts → text ≡ parts_text parts → octets ≡ parts_octets parts → HaveParts ends (split 58 text) octets
found_by ends text octets [] some are parted value = absurd (omega (arith, ap length parted))
found_by ends text octets (p ∷ parts) some are parted value = grind (arith, split_join, parts_lack ends (p ∷ parts) are, have_parts ends (p ∷ parts) are)

-- parts are what stands between the colons
pub parts_found : (ends : Bool) (text octets : List ℕ) → 0 < length text → ArePartsOf ends text octets → HaveParts ends (split 58 text) octets
parts_found ends text octets some are = found_by ends text octets are.parts some are.each are.parted are.value

put_first : (ends : Bool) (text next : List ℕ) (texts : List (List ℕ)) (octets added more : List ℕ) → IsGroupOf text added → (parts : List AddressPart) × AreParts ends parts × (map (λ (p : AddressPart). p.text) parts ≡ next ∷ texts) × (more ≡ parts_octets parts) → octets ≡ added ++ more → (parts : List AddressPart) × AreParts ends parts × (map (λ (p : AddressPart). p.text) parts ≡ text ∷ next ∷ texts) × (octets ≡ parts_octets parts)
put_first ends text next texts octets added more is ([], are, e, value) whole = absurd cc
put_first ends text next texts octets added more is (p ∷ parts, are, e, value) whole = (record { text = text; octets = added } ∷ p ∷ parts, (is, are), ap (λ t. text ∷ t) e, cc)

listed : (ends : Bool) (texts : List (List ℕ)) (octets : List ℕ) → HaveParts ends texts octets → (parts : List AddressPart) × AreParts ends parts × (map (λ (p : AddressPart). p.text) parts ≡ texts) × (octets ≡ parts_octets parts)
listed ends [] octets have = ([], tt, refl, have)
listed ends (text ∷ []) octets have = (record { text = text; octets = octets } ∷ [], have, refl, sym (append-nil octets))
listed ends (text ∷ next ∷ texts) octets have = put_first ends text next texts octets have.0 have.1 have.2 (listed ends (next ∷ texts) have.1 have.3) have.4

pub parts_listed : (ends : Bool) (text octets : List ℕ) → HaveParts ends (split 58 text) octets → ArePartsOf ends text octets
parts_listed ends text octets have = grind (arith, listed ends (split 58 text) octets have, join_with_byte-slice_split 58 text)

have_once : (ends : Bool) (texts : List (List ℕ)) (a b : List ℕ) → HaveParts ends texts a → HaveParts ends texts b → a ≡ b
have_once ends [] a b x y = cc
have_once ends (text ∷ []) a b x y = last_same ends (record { text = text; octets = a }) (record { text = text; octets = b }) x y refl
have_once ends (text ∷ next ∷ texts) a b x y = grind (arith, group_same text x.0 y.0 x.2 y.2, have_once ends (next ∷ texts) x.1 y.1 x.3 y.3)

none_empty : (ends : Bool) (parts : List AddressPart) → AreParts ends parts → parts_text parts ≡ [] → parts_octets parts ≡ []
none_empty ends [] are e = refl
none_empty ends (p ∷ parts) are e = grind (arith, parts_some ends p parts are)

pub parts_unique : (ends : Bool) (text a b : List ℕ) → ArePartsOf ends text a → ArePartsOf ends text b → a ≡ b
parts_unique ends [] a b x y = cc (none_empty ends x.parts x.each (sym x.parted), none_empty ends y.parts y.each (sym y.parted))
parts_unique ends (c ∷ text) a b x y = have_once ends (split 58 (c ∷ text)) a b (parts_found ends _ a (omega arith) x) (parts_found ends _ b (omega arith) y)

pub parts_length : (ends : Bool) (text a b : List ℕ) → ArePartsOf ends text a → ArePartsOf ends text b → length a ≡ length b
parts_length ends text a b x y = ap length (parts_unique ends text a b x y)

-- ---- reading part after part

-- groups are read up to a place: what the rest stands for is what is missing
pub record HaveReadParts (ends : Bool) (text rest octets : List ℕ) : Type 0 where
  pub some : 0 < length text
  pub goes : (more : List ℕ) → HaveParts ends (split 58 rest) more → HaveParts ends (split 58 text) (octets ++ more)
  pub comes : (others : List ℕ) → HaveParts ends (split 58 text) others → (more : List ℕ) × HaveParts ends (split 58 rest) more × (others ≡ octets ++ more)

comes_first : (ends : Bool) (text : List ℕ) (texts : List (List ℕ)) (octets : List ℕ) → 0 < length texts → HaveParts ends (text ∷ texts) octets → (added : List ℕ) × (more : List ℕ) × IsGroupOf text added × HaveParts ends texts more × (octets ≡ added ++ more)
comes_first ends text texts octets some have = grind arith

split_some : (c : ℕ) (text : List ℕ) → 0 < length (split c text)
split_some c text = omega (arith, length-slice_split (λ b. b == c) text)

left_first : (ends : Bool) (text rest group after octets others : List ℕ) → IsCutAtFirst 58 rest group after → HaveReadParts ends text rest octets → HaveParts ends (split 58 text) others → (added : List ℕ) × (more : List ℕ) × IsGroupOf group added × HaveParts ends (split 58 after) more × (others ≡ octets ++ (added ++ more))
left_first ends text rest group after octets others cut reads have =
    let left = reads.comes others have in
    grind (arith, comes_first ends group (split 58 after) left.0 (split_some 58 after) (rw (split_cut 58 rest group after cut) at left.1))

pub parts_more : (ends : Bool) (text rest group after octets added : List ℕ) → IsCutAtFirst 58 rest group after → IsGroupOf group added → HaveReadParts ends text rest octets → HaveReadParts ends text after (octets ++ added)
parts_more ends text rest group after octets added cut is reads = record {
  some = reads.some;
  goes = λ more have. rw append_assoc (reads.goes (added ++ more) (rw (split_cut 58 rest group after cut) (grind (arith, split_some 58 after))));
  comes = λ others have. grind (arith, left_first ends text rest group after octets others cut reads have, group_same, append_assoc);
}

-- where no group goes on
pub parts_stop : (ends : Bool) (text rest group after octets : List ℕ) → IsCutAtFirst 58 rest group after → HaveReadParts ends text rest octets → NoneFits (IsGroupOf group) octets → (others : List ℕ) → ArePartsOf ends text others → length others ≤ 16 → ⊥
parts_stop ends text rest group after octets cut reads stops others are short =
    let left = left_first ends text rest group after octets others cut reads (parts_found ends text others reads.some are) in
    grind (arith, common_steps)

pub parts_ended : (ends : Bool) (text rest octets added : List ℕ) → Lacks 58 rest → HaveReadParts ends text rest octets → IsLastPartOf ends rest added → ArePartsOf ends text (octets ++ added)
parts_ended ends text rest octets added lacks reads is = grind (arith, parts_listed, split_lacks, reads.goes added)

pub parts_unended : (ends : Bool) (text rest octets : List ℕ) → Lacks 58 rest → HaveReadParts ends text rest octets → NoneFits (IsLastPartOf ends rest) octets → (others : List ℕ) → ArePartsOf ends text others → length others ≤ 16 → ⊥
parts_unended ends text rest octets lacks reads stops others are short =
    let left = reads.comes others (parts_found ends text others reads.some are) in
    grind (arith, parts_found, split_lacks, length-append)

-- where there is no room for the last part, or it is none
pub part_full : (ends : Bool) (text own old : List ℕ) → IsLastPartOf ends text own → 16 < length old + length own → NoneFits (IsLastPartOf ends text) old
part_full ends text own old is long added last = omega (arith, ap length (last_same ends (record { text = text; octets = added }) (record { text = text; octets = own }) last is refl))

pub part_refused : (ends : Bool) (text old : List ℕ) → ((octets : List ℕ) → IsGroupOf text octets → ⊥) → ((octets : List ℕ) → IsIpv4Address text octets → ⊥) → NoneFits (IsLastPartOf ends text) old
part_refused ends text old none none' added last = elim last [ inl is ↦ absurd (none added is) | inr are ↦ absurd (none' added are.1) ]
