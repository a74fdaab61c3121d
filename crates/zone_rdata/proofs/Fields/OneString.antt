-- One character-string.
use Rattle.zone_rdata.proofs.Common.{[], List, add-one, ap, arith, drop, inl, inr, length, length-append, refl, subst, take, ℕ, ◌++◌, ◌+◌, ◌<◌, ◌∙◌, ◌∷◌, ◌≡◌, ◌≤◌, cases_lt, length-take, Labels, with_length, FieldValue, string, RawItem, AppendsPrefix, AppendsValue, BeginsWithNone, BeginsWithValue, IsString, BadRdata, OneString, bytes_each}
use Rattle.zone_rdata.proofs.Fields.FieldLaws.{AreLow, AreLowItems, FieldChoice, FrontChoice, appends_plain, found_front, front_of, low_take}
use Rattle.zone_rdata.proofs.Strings.Units.{string_or_fault}

-- ---- the string at the beginning of octets

pub low_string : (c : ℕ) (following : List ℕ) → AreLow (c ∷ following) → c ≤ length following → IsString (take c following)
low_string c following low fits = grind (arith, length-take, low_take)

pub appends_string : (octets rest old new : List ℕ) (c count : ℕ) (following : List ℕ) → AreLow octets → octets ≡ c ∷ following → count ≡ c + 1 → AppendsPrefix count octets rest old new → AppendsValue OneString octets rest old new
appends_string octets rest old new c count following low e same grows =
    let fits : c ≤ length following = omega (arith, grows.fits, ap length e) in
    let is : take count octets ≡ with_length (take c following) = ap (λ n. take n octets) same ∙ ap (take (c + 1)) e ∙ grind (arith, add-one, length-take) in
    appends_plain OneString octets rest old new count (string (take c following)) (λ h. cc) (low_string c following (subst AreLow e low) fits) is (λ h. absurd cc) grows

as_string : (octets : List ℕ) (v : FieldValue) (rest : List ℕ) → BeginsWithValue OneString octets v rest → (text : List ℕ) × (octets ≡ with_length text ++ rest)
as_string octets v rest b = grind arith

pub none_string : (octets : List ℕ) (c count : ℕ) (following : List ℕ) → octets ≡ c ∷ following → count ≡ c + 1 → length octets < count → BeginsWithNone OneString octets
none_string octets c count following e same few v rest b = grind (arith, as_string, length-append)

pub front : (octets : List ℕ) → AreLow octets → FrontChoice OneString octets
front [] low = inr (λ v rest b. let s = as_string [] v rest b in omega (arith, ap length s.1))
front (c ∷ following) low = elim (cases_lt (length (c ∷ following)) (c + 1)) [
  | inl few ↦ inr (none_string (c ∷ following) c (c + 1) following refl refl few)
  | inr fits ↦ found_front OneString (c ∷ following) (drop (c + 1) (c ∷ following)) (take (c + 1) (c ∷ following)) (appends_string (c ∷ following) (drop (c + 1) (c ∷ following)) [] (take (c + 1) (c ∷ following)) c (c + 1) following low refl refl (front_of (c + 1) (c ∷ following) fits))
]

pub spelt_or_fault : (origin : Labels) (items : List RawItem) → AreLowItems items → FieldChoice origin OneString (take 1 items)
spelt_or_fault origin [] low = inr (BadRdata, refl)
spelt_or_fault origin (item ∷ items) low = elim (string_or_fault item low.0) [ inl found ↦ inl (string found.0, found.1) | inr bad ↦ inr (bad.0, bad.1) ]

pub ruleset strings_sent = (appends_string, bytes_each)
