-- What is proved of every kind of field, and what kinds share.
use Rattle.zone_rdata.proofs.Common.{[], List, Option, arith, decimal, drop, get_or, inl, inr, length, length-append, refl, subst, take, true, ℕ, ◌<◌, ◌^◌, ◌∷◌, ◌≡◌, ◌≢◌, ◌≤◌, ◌⊎◌, AllByRecursion, IfSome, cases_lt, false≢true, take-append-drop, Labels, IsName, SpellingFault, Spells, is_digit, Fault, Field, FieldValue, Holds, IsFieldFault, IsSent, SpellsField, field_octets, IsGeneric, RawItem, bare, AppendsPrefix, AppendsValue, BeginsWithNone, BeginsWithValue, item_text, common_steps, name_text, NameFault, Name, Strings}
use Rattle.zone_rdata.proofs.Items.GenericLaws.{decimal-is}

-- ---- what the crate of names proves of them

-- a text spells at most one name
abbrev pub NamesOnce : Type 0
NamesOnce = (origin : Option (List (List ℕ))) (text : List ℕ) (a b : Labels) → Spells origin text a → Spells origin text b → a ≡ b

-- a text that has a first fault spells no name
abbrev pub NamesNever : Type 0
NamesNever = (origin : Option (List (List ℕ))) (text : List ℕ) (labels : Labels) (fault : NameFault) → Spells origin text labels → SpellingFault origin text fault → ⊥

-- a text has at most one first fault
abbrev pub NameFaultOnce : Type 0
NameFaultOnce = (origin : Option (List (List ℕ))) (text : List ℕ) (f g : NameFault) → SpellingFault origin text f → SpellingFault origin text g → f ≡ g

-- a text of octets spells a name under an origin or has a first fault
abbrev pub NameOrFault : Type 0
NameOrFault = (origin : Option (List (List ℕ))) (text : List ℕ) → IfSome origin IsName → AllByRecursion (λ c. c < 256) text → ((labels : Labels) × Spells origin text labels) ⊎ ((fault : NameFault) × SpellingFault origin text fault)

-- a name that is printed is spelled under any origin
abbrev pub NamesPrinted : Type 0
NamesPrinted = (origin : Option (List (List ℕ))) (labels : Labels) → IsName labels → Spells origin (name_text labels) labels

-- ---- octets below 256

abbrev pub AreLow : List ℕ → Type 0
AreLow octets = AllByRecursion (λ c. c < 256) octets

abbrev pub AreLowItems : List RawItem → Type 0
AreLowItems items = AllByRecursion (λ item. AreLow (item_text item)) items

pub low_at : (octets : List ℕ) → AreLow octets → (i : ℕ) → get_or octets i 0 < 256
low_at octets low i = grind (arith, common_steps)

pub low_take : (n : ℕ) (octets : List ℕ) → AreLow octets → AreLow (take n octets)
low_take n octets low = grind (arith, common_steps)

pub low_drop : (n : ℕ) (octets : List ℕ) → AreLow octets → AreLow (drop n octets)
low_drop n octets low = grind (arith, common_steps)

-- ---- what is so or not of octets and of items

-- items spell a value of the field or have a fault
abbrev pub FieldChoice : List (List ℕ) → Field → List RawItem → Type 0
FieldChoice origin f items = ((value : FieldValue) × SpellsField origin f items value) ⊎ ((fault : Fault) × IsFieldFault origin f items fault)

-- octets begin with a value of the field or with none
abbrev pub FrontChoice : Field → List ℕ → Type 0
FrontChoice f octets = ((value : FieldValue) × ((rest : List ℕ) × BeginsWithValue f octets value rest)) ⊎ BeginsWithNone f octets

-- the mark of the generic form as a text
abbrev pub mark : List ℕ
mark = 92 ∷ 35 ∷ []

pub mark_text : (text : List ℕ) (items : List RawItem) → IsGeneric (bare text ∷ items) → text ≡ mark
mark_text text items g = cc g.1

pub number_unmarked : (n : ℕ) → n < 2 ^ 64 → decimal n ≡ mark → ⊥
number_unmarked n fits e = false≢true (subst (λ t. AllByRecursion (λ c. is_digit c ≡ true) t) e (decimal-is n fits).digits).0

-- ---- values that are sent as they are kept: all but names

pub plain_front : (f : Field) (v : FieldValue) (front : List ℕ) → f ≢ Name → Holds f v → IsSent v front → front ≡ field_octets v
plain_front f v front other h s = grind arith

-- so many octets at the beginning of octets are a value, and appended
pub appends_plain : (f : Field) (octets rest old new : List ℕ) (count : ℕ) (v : FieldValue) → f ≢ Name → Holds f v → take count octets ≡ field_octets v → (f ≡ Strings → rest ≡ []) → AppendsPrefix count octets rest old new → AppendsValue f octets rest old new
appends_plain f octets rest old new count v other held is last grows = grind (arith, take-append-drop count octets)

pub found_front : (f : Field) (octets rest new : List ℕ) → AppendsValue f octets rest [] new → FrontChoice f octets
found_front f octets rest new grows = inl (grows.value, (rest, grows.begins))

pub front_of : (count : ℕ) (octets : List ℕ) → count ≤ length octets → AppendsPrefix count octets (drop count octets) [] (take count octets)
front_of count octets fits = record { fits = fits; following = refl; written = refl }

-- ---- kinds of a fixed number of octets

pub record SizedField {X : Type 0} (f : Field) (value : X → FieldValue) (count : ℕ) : Type 0 where
  pub plain : f ≢ Name
  pub single : f ≢ Strings
  pub only : (v : FieldValue) → Holds f v → (x : X) × (v ≡ value x)
  pub size : (x : X) → Holds f (value x) → length (field_octets (value x)) ≡ count
  pub read : (octets : List ℕ) → AreLow octets → length octets ≡ count → (x : X) × Holds f (value x) × (octets ≡ field_octets (value x))

pub appends_sized : {X : Type 0} {value : X → FieldValue} (f : Field) (count : ℕ) → SizedField f value count → (octets rest old new : List ℕ) → AreLow octets → AppendsPrefix count octets rest old new → AppendsValue f octets rest old new
appends_sized {value = value} f count sized octets rest old new low grows = grind (arith, common_steps)

pub sized_front : {X : Type 0} {value : X → FieldValue} (f : Field) (count : ℕ) → SizedField f value count → (octets : List ℕ) → AreLow octets → FrontChoice f octets
sized_front f count sized octets low = elim (cases_lt (length octets) count) [
  | inl few ↦ inr (λ v rest b. grind (arith, plain_front, length-append))
  | inr fits ↦ found_front f octets (drop count octets) (take count octets) (appends_sized f count sized octets (drop count octets) [] (take count octets) low (front_of count octets fits))
]
