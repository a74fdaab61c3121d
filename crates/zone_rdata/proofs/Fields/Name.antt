-- A domain name.
use Rattle.zone_rdata.proofs.Common.{[], List, ap, append_assoc, arith, drop, inl, inr, length, refl, sym, ℕ, ◌++◌, ◌<◌, ◌∙◌, ◌∷◌, ◌≡◌, ◌⊎◌, AllByRecursion, flat_map, cases_eq, cases_lt, append-nil, drop_at, folded, Labels, IsFoldedOctet, IsLabel, IsName, wire, with_length, AllByRecursion-append, FieldValue, name, AppendsValue, BeginsWithNone, BeginsWithValue, BeginsWithSent, label_text, name_text, octet_text, Name, common_steps, Decided, each_or_not, each_weaker}
use Rattle.zone_rdata.proofs.Fields.FieldLaws.{AreLow, FrontChoice, found_front}
use Rattle.zone_rdata.proofs.Octets.Sent.{sent_labels, sent_once}
use Rattle.zone_rdata.proofs.Words.OneWord.{same_or_not}
use Rattle.zone_name.specs.Name.{labels_of}

-- ---- its octets
low_labels : (labels : Labels) → AllByRecursion IsLabel labels → AreLow (flat_map with_length labels)
low_labels [] each = tt
low_labels (label ∷ labels) each = AllByRecursion-append (λ c. c < 256) (with_length label) (flat_map with_length labels) (omega (arith, each.0.short), each_weaker (λ c. c < 256) (λ c is. is.octet) label each.0.each) (low_labels labels each.1)

pub low : (labels : Labels) → IsName labels → AreLow (wire labels)
low labels h = AllByRecursion-append (λ c. c < 256) (flat_map with_length labels) (0 ∷ []) (low_labels labels h.each) (omega arith, tt)

-- ---- the name at the beginning of octets
pub appends_name : (octets rest old new : List ℕ) (labels : Labels) → BeginsWithSent octets labels rest → new ≡ old ++ wire labels → AppendsValue Name octets rest old new
appends_name octets rest old new labels b grown = record {
  value = name labels;
  begins = record { held = b.is_name; front = wire b.sent; sent = (b.sent, b.folds, refl); parts = b.parts; last = λ e. absurd cc };
  written = grown;
}

as_sent : (octets : List ℕ) (v : FieldValue) (rest : List ℕ) → BeginsWithValue Name octets v rest → (labels : Labels) × (v ≡ name labels) × BeginsWithSent octets labels rest
as_sent octets v rest b = grind arith

pub none_name : (octets : List ℕ) → ((labels : Labels) (rest : List ℕ) → BeginsWithSent octets labels rest → ⊥) → BeginsWithNone Name octets
none_name octets none v rest b = let s = as_sent octets v rest b in none s.0 rest s.2

pub front_once : (octets : List ℕ) (v w : FieldValue) (r s : List ℕ) → BeginsWithValue Name octets v r → BeginsWithValue Name octets w s → (v ≡ w) × (r ≡ s)
front_once octets v w r s x y =
    let a = as_sent octets v r x in
    let b = as_sent octets w s y in
    grind (arith, sent_once octets r s a.0 b.0 a.2 b.2)

-- ---- labels are a name or not
octet_or_not : (c : ℕ) → Decided (IsFoldedOctet c)
octet_or_not c = grind (arith, cases_lt, low, cases_eq)

label_or_not : (label : List ℕ) → Decided (IsLabel label)
label_or_not label = grind (arith, each_or_not IsFoldedOctet octet_or_not label, cases_lt 63 (length label), cases_lt 0 (length label))

-- ---- octets begin with a name or not
abbrev SentChoice : List ℕ → Type 0
SentChoice octets = ((labels : Labels) × ((rest : List ℕ) × BeginsWithSent octets labels rest)) ⊎ ((labels : Labels) (rest : List ℕ) → BeginsWithSent octets labels rest → ⊥)

name_or_not : (labels : Labels) → Decided (IsName labels)
name_or_not labels = grind (arith, each_or_not IsLabel label_or_not labels, cases_lt 255 (length (wire labels)))

sent_or_not : (octets : List ℕ) → SentChoice octets
sent_or_not octets =
    let sent = labels_of octets in
    let rest = drop (length (wire sent)) octets in
    elim (same_or_not octets (wire sent ++ rest)) [
      | inr other ↦ inr (λ labels tail b. other (grind (arith, sent_labels octets tail labels b, b.parts, drop_at)))
      | inl parts ↦ elim (name_or_not (folded sent)) [
        | inl is ↦ inl (folded sent, (rest, record { is_name = is; sent = sent; folds = refl; parts = parts }))
        | inr none ↦ inr (λ labels tail b. none (rw (sent_labels octets tail labels b, b.folds) b.is_name))
      ]
    ]

pub front : (octets : List ℕ) → FrontChoice Name octets
front octets = elim (sent_or_not octets) [
  | inl found ↦ found_front Name octets found.1.0 (wire found.0) (appends_name octets found.1.0 [] (wire found.0) found.0 found.1.1 refl)
  | inr none ↦ inr (none_name octets none)
]

-- ---- its text
dot_last : (label : List ℕ) (labels : Labels) → (front : List ℕ) × (name_text (label ∷ labels) ≡ front ++ 46 ∷ [])
dot_last label [] = (flat_map octet_text label, append-nil (label_text label))
dot_last label (next ∷ labels) =
    let more = dot_last next labels in
    (label_text label ++ more.0, ap (λ t. label_text label ++ t) more.1 ∙ sym (append_assoc (label_text label) more.0 (46 ∷ [])))

no_mark : (front : List ℕ) → front ++ 46 ∷ [] ≡ 92 ∷ 35 ∷ [] → ⊥
no_mark [] e = omega (arith, ap length e)
no_mark (a ∷ xs) e = grind (arith, common_steps)

pub name_unmarked : (labels : Labels) → name_text labels ≡ 92 ∷ 35 ∷ [] → ⊥
name_unmarked [] e = omega (arith, ap length e)
name_unmarked (label ∷ labels) e = let dot = dot_last label labels in no_mark dot.0 (sym dot.1 ∙ e)
