-- Parts at the front of octets that are printed.
use Rattle.zone_rdata.proofs.Octets.Sent.{append_same}
use Rattle.type_data.proofs.Common.{IsInOctets, List, Width, ap, arith, byte_len, length, length-append, refl, sym, to_be_bytes, w8, ℕ, ◌%◌, ◌++◌, ◌<◌, ◌^◌, ◌∙◌, ◌∷◌, ◌≡◌}
use Rattle.type_data.specs.Printed.{NoFront, PrintsFront}

-- ---- parts of so many octets

-- each part that a text states has so many octets
abbrev pub HaveCount : (List ℕ → List ℕ → Type 0) → ℕ → Type 0
HaveCount States count = (text part : List ℕ) → States text part → length part ≡ count

pub front_printed : (Prints States : List ℕ → List ℕ → Type 0) (count : ℕ) (octets rest old new part text : List ℕ) → HaveCount States count → octets ≡ part ++ rest → length part ≡ count → Prints text part → new ≡ old ++ text → PrintsFront Prints States octets rest old new
front_printed Prints States count octets rest old new part text have whole long printed appended = record {
  part = part;
  text = text;
  whole = whole;
  printed = printed;
  appended = appended;
  alone = λ other after words cut is. (append_same other part after rest (have words other is ∙ sym long) (sym cut ∙ whole)).0;
}

pub front_short : (States : List ℕ → List ℕ → Type 0) (count : ℕ) (octets : List ℕ) → HaveCount States count → length octets < count → NoFront States octets
front_short States count octets have short part rest text whole is = omega (arith, have text part is, ap length whole, length-append part rest)

-- ---- numbers in their places

-- numbers in places of so many octets
abbrev pub FillPlace : Width → Type 0
FillPlace w = (n : ℕ) → length (to_be_bytes w n) ≡ byte_len w

-- what texts state in such a place
abbrev pub InPlace : Width → (List ℕ → ℕ → Type 0) → List ℕ → List ℕ → Type 0
InPlace w Says text octets = IsInOctets (Says text) w octets

in_place_count : (w : Width) (Says : List ℕ → ℕ → Type 0) → FillPlace w → HaveCount (InPlace w Says) (byte_len w)
in_place_count w Says fill text part is = ap length is.value ∙ fill is.number

pub number_printed : (w : Width) (Prints States : List ℕ → ℕ → Type 0) (n : ℕ) (octets rest old new text : List ℕ) → FillPlace w → n < 256 ^ byte_len w → octets ≡ to_be_bytes w n ++ rest → Prints text n → new ≡ old ++ text → PrintsFront (InPlace w Prints) (InPlace w States) octets rest old new
number_printed w Prints States n octets rest old new text fill fits whole printed appended =
    front_printed (InPlace w Prints) (InPlace w States) (byte_len w) octets rest old new (to_be_bytes w n) text (in_place_count w States fill) whole (fill n)
    (record { number = n; stated = printed; fits = fits; value = refl }) appended

pub number_short : (w : Width) (States : List ℕ → ℕ → Type 0) (octets : List ℕ) → FillPlace w → length octets < byte_len w → NoFront (InPlace w States) octets
number_short w States octets fill short = front_short (InPlace w States) (byte_len w) octets (in_place_count w States fill) short

-- an octet is its own place
pub one_octet : (n : ℕ) (octets rest : List ℕ) → n < 256 → octets ≡ n ∷ rest → octets ≡ to_be_bytes w8 n ++ rest
one_octet n octets rest few whole = let e : n ≡ n % 256 = omega arith in whole ∙ ap (λ m. m ∷ rest) e
