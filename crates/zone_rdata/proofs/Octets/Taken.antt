-- Uncompressed octets, field after field.
use Rattle.zone_rdata.proofs.Common.{nil_from_length, [], Option, ◌≡◌, ℕ, ◌+◌, ◌<◌, ◌≤◌, List, ◌∷◌, ◌++◌, length, get_or, drop, Some, refl, sym, ap, ◌∙◌, subst, arith, append_assoc, inl, inr, length-append, append-nil, drop_all, length-map, Field, FieldValue, field_octets, octets_of, HoldEach, IsSent, StringsLast, layout, IsCanonicalOf, AreSent, IsUncompressed, BeginsWithValue, BeginsWithNone, AppendsValue, AllByRecursion-back, flat_map, folded_octet, folded_label, folded, with_length, common_steps, from_place, Choice, choice_as}
use Rattle.zone_rdata.proofs.Words.Tables.{table_row}
use Rattle.zone_rdata.proofs.Fields.AnyField.{field_front, front_once}
use Rattle.zone_rdata.proofs.Fields.FieldLaws.{AreLow}
use Rattle.zone_rdata.specs.Wire.{beyond}

-- octets that are a value for each field, one after another, and their canonical octets
abbrev pub Reads : List Field → List ℕ → List ℕ → Type 0
Reads [] octets canonical = (octets ≡ []) × (canonical ≡ [])
Reads (f ∷ row) octets canonical = (value : FieldValue) × ((rest more : List ℕ) × BeginsWithValue f octets value rest × (canonical ≡ field_octets value ++ more) × Reads row rest more)

reads_by : (row : List Field) (values : List FieldValue) (octets : List ℕ) → StringsLast row → HoldEach row values → AreSent values octets → Reads row octets (octets_of values)
reads_by (f ∷ []) (v ∷ []) octets last held sent = grind arith
reads_by (f ∷ g ∷ row) (v ∷ values) octets last held sent = grind (arith, reads_by (g ∷ row) values sent.1 last.1 held.1 sent.4)
reads_by row values octets last held sent = grind arith

pub to_reads : (row : List Field) (octets canonical : List ℕ) → StringsLast row → IsUncompressed row octets canonical → Reads row octets canonical
to_reads row octets canonical last u = grind (arith, reads_by)

pub from_reads : (row : List Field) (octets canonical : List ℕ) → Reads row octets canonical → IsUncompressed row octets canonical
from_reads [] octets canonical r = record { values = []; held = tt; sent = r.0; whole = r.1 }
from_reads (f ∷ row) octets canonical r =
    let rest = from_reads row r.1.0 r.1.1 r.1.4 in
    record { values = r.0 ∷ rest.values; held = (r.1.2.held, rest.held); sent = (r.1.2.front, r.1.0, r.1.2.sent, r.1.2.parts, rest.sent); whole = cc (r.1.3, rest.whole) }

reads_once : (row : List Field) (octets a b : List ℕ) → Reads row octets a → Reads row octets b → a ≡ b
reads_once [] octets a b x y = x.1 ∙ sym y.1
reads_once (f ∷ row) octets a b x y = grind (arith, front_once f octets x.0 y.0 x.1.0 y.1.0 x.1.2 y.1.2, reads_once row y.1.0 x.1.1 y.1.1)

-- octets have one canonical form in a layout of the table
pub canonical_once : (class kind : ℕ) (row : List Field) (octets a b : List ℕ) → layout class kind ≡ Some row → IsUncompressed row octets a → IsUncompressed row octets b → a ≡ b
canonical_once class kind row octets a b e x y = grind (arith, table_row, to_reads, reads_once row octets a b)

pub canonical_same : (class kind : ℕ) (laid : Option (List Field)) (octets a b : List ℕ) → laid ≡ layout class kind → IsCanonicalOf laid octets a → IsCanonicalOf laid octets b → a ≡ b
canonical_same class kind laid octets a b e x y = grind (arith, canonical_once)

-- the fields up to a place were read, and whatever the others read goes on from there
pub record HaveTaken (row : List Field) (octets : List ℕ) (later : List Field) (rest out : List ℕ) : Type 0 where
  pub leads : (more : List ℕ) → Reads later rest more → Reads row octets (out ++ more)
  pub back : (whole : List ℕ) → Reads row octets whole → (more : List ℕ) × Reads later rest more × (whole ≡ out ++ more)

taken_step : (row : List Field) (octets : List ℕ) (f : Field) (later : List Field) (rest after out new : List ℕ) → HaveTaken row octets (f ∷ later) rest out → AppendsValue f rest after out new → HaveTaken row octets later after new
taken_step row octets f later rest after out new taken grows = record {
  leads = λ more h. grind (arith, taken.leads (field_octets grows.value ++ more) (grows.value, (after, more, grows.begins, refl, h)), append_assoc);
  back = λ whole h. (let b = taken.back whole h in let same = front_once f rest b.1.0 grows.value b.1.1.0 after b.1.1.2 grows.begins in (b.1.1.1, (rw (same.1) at b.1.1.4), (grind (arith, append_assoc))));
}

pub taken_more : (row : List Field) (octets : List ℕ) (i : ℕ) (f d : Field) (rest after out new : List ℕ) → i < length row → f ≡ get_or row i d → HaveTaken row octets (drop i row) rest out → AppendsValue f rest after out new → HaveTaken row octets (drop (i + 1) row) after new
taken_more row octets i f d rest after out new lt found taken grows = grind (arith, common_steps, taken_step, from_place)

pub taken_bad : (row own : List Field) (octets : List ℕ) (i : ℕ) (f d : Field) (rest out : List ℕ) → row ≡ own → StringsLast own → i < length row → f ≡ get_or row i d → HaveTaken row octets (drop i row) rest out → BeginsWithNone f rest → (canonical : List ℕ) → IsUncompressed own octets canonical → ⊥
taken_bad row own octets i f d rest out same last lt found taken none canonical u =
    let reads = to_reads row octets canonical (subst StringsLast (sym same) last) (subst (λ r. IsUncompressed r octets canonical) (sym same) u) in
    let b = (subst (λ r. HaveTaken row octets r rest out) (from_place row i f d lt found) taken).back canonical reads in
    none b.1.0 b.1.1.0 b.1.1.2

pub taken_all : (row own : List Field) (octets : List ℕ) (i : ℕ) (rest out : List ℕ) → row ≡ own → length row ≤ i → HaveTaken row octets (drop i row) rest out → length rest ≡ 0 → IsUncompressed own octets out
taken_all row own octets i rest out same past taken none = grind (arith, from_reads, append-nil, nil_from_length, drop_all, taken.leads [])

pub taken_over : (row own : List Field) (octets : List ℕ) (i : ℕ) (rest out : List ℕ) → row ≡ own → StringsLast own → length row ≤ i → HaveTaken row octets (drop i row) rest out → 0 < length rest → (canonical : List ℕ) → IsUncompressed own octets canonical → ⊥
taken_over row own octets i rest out same last past taken some canonical u =
    let reads = to_reads row octets canonical (subst StringsLast (sym same) last) (subst (λ r. IsUncompressed r octets canonical) (sym same) u) in
    grind (arith, common_steps)

-- ---- as many octets are kept as are sent
length_frames_folded : (sent : List (List ℕ)) → length (flat_map with_length (folded sent)) ≡ length (flat_map with_length sent)
length_frames_folded [] = refl
length_frames_folded (label ∷ sent) = omega (arith, length-append (folded_label label) (flat_map with_length (folded sent)), length-append label (flat_map with_length sent), length-map label folded_octet, length_frames_folded sent)

sent_length : (v : FieldValue) (front : List ℕ) → IsSent v front → length (field_octets v) ≡ length front
sent_length v front s = grind (arith, length_frames_folded, length-append)

are_sent_length : (values : List FieldValue) (octets : List ℕ) → AreSent values octets → length (octets_of values) ≡ length octets
are_sent_length [] octets s = ap length (sym s)
are_sent_length (v ∷ values) octets s = grind (arith, sent_length, are_sent_length values s.1 s.4, length-append)

pub uncompressed_length : (fields : List Field) (octets canonical : List ℕ) → IsUncompressed fields octets canonical → length canonical ≡ length octets
uncompressed_length fields octets canonical u = grind (arith, are_sent_length)

-- ---- octets have a canonical form in a layout or none
reads_or_not : (row : List Field) (octets : List ℕ) → AreLow octets → Choice (Reads row octets)
reads_or_not [] [] low = inl ([], (refl, refl))
reads_or_not [] (c ∷ octets) low = inr (λ canonical h. absurd (omega (arith, ap length h.0)))
reads_or_not (f ∷ row) octets low = elim (field_front f octets low) [
  | inr none ↦ inr (λ canonical h. none h.0 h.1.0 h.1.2)
  | inl (value, (rest, begins)) ↦ elim (reads_or_not row rest (AllByRecursion-back _ begins.front rest (subst AreLow begins.parts low))) [
    | inl found ↦ inl (field_octets value ++ found.0, (value, (rest, found.0, begins, refl, found.1)))
    | inr none ↦ inr (λ canonical h. none h.1.1 (subst (λ r. Reads row r h.1.1) (front_once f octets h.0 value h.1.0 rest h.1.2 begins).1 h.1.4))
  ]
]

pub canonical_or_not : (class kind : ℕ) (row : List Field) (octets : List ℕ) → layout class kind ≡ Some row → AreLow octets → Choice (IsUncompressed row octets)
canonical_or_not class kind row octets e low = choice_as (λ canonical. canonical) (from_reads row octets) (λ none canonical u. none canonical (to_reads row octets canonical (table_row class kind row e).last u)) (reads_or_not row octets low)

pub ruleset fields_taken = (taken_all, taken_more)

pub ruleset only_canonical = (canonical_same, beyond)
