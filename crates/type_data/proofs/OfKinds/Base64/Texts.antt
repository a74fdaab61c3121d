-- A text in base64 stands for one list of octets, those that it decodes to.
use Rattle.type_data.proofs.Common.{AppendsStated, AreOctets, List, Ok, [], ap, arith, bytes_each, drop, each_below, length, lit<, nil_from_length, refl, sym, take, take-append-drop, ℕ, ◌++◌, ◌<◌, ◌∙◌, ◌∷◌, ◌≡◌}
use Rattle.base64.proofs.EngineFacts.{decode_of-encode_of, decode_of_strict, encode_of-nil}
use Rattle.base64.specs.Engines.{standard}
use Rattle.base64.specs.GeneralPurpose.{IsBytes, decode_of, encode_of}
use Rattle.type_data.specs.Kinds.Base64.{IsBase64}

pub decodes_again : (octets : List ℕ) → AreOctets octets → decode_of standard (encode_of standard octets) ≡ Ok octets
decodes_again octets each = decode_of-encode_of standard octets refl (each_below 256 octets (lit< tt) each)

encoded_once : (a b : List ℕ) → AreOctets a → AreOctets b → encode_of standard a ≡ encode_of standard b → a ≡ b
encoded_once a b x y same = cc (sym (decodes_again a x) ∙ (ap (decode_of standard) same ∙ decodes_again b y))

pub one_base64 : (text a b : List ℕ) → IsBase64 text a → IsBase64 text b → a ≡ b
one_base64 text a b x y = encoded_once a b x.each y.each (sym x.encoded ∙ y.encoded)

-- no text stands for no octet
pub no_base64 : (text octets : List ℕ) → length text ≡ 0 → IsBase64 text octets → ⊥
no_base64 text octets none is =
    let empty : [] ≡ encode_of standard octets = sym (nil_from_length text none) ∙ is.encoded in
    let same : octets ≡ [] = encoded_once octets [] is.each tt (sym empty ∙ sym (encode_of-nil standard)) in
    omega (arith, is.some, ap length same)

pub some_octet : (text octets : List ℕ) → 0 < length text → text ≡ encode_of standard octets → 0 < length octets
some_octet text [] some encoded = absurd (omega (arith, some, ap length (encoded ∙ encode_of-nil standard)))
some_octet text (octet ∷ octets) some encoded = omega arith

-- what a text decodes to
pub decoded_is : (text octets : List ℕ) → IsBytes text → IsBytes octets → 0 < length text → decode_of standard text ≡ Ok octets → IsBase64 text octets
decoded_is text octets texts bytes some decoded =
    let encoded = decode_of_strict standard text octets (refl, refl) texts decoded in
    record {
      some = some_octet text octets some encoded;
      each = bytes_each octets bytes;
      encoded = encoded;
    }

-- decoded octets behind those that were there
pub decoded_appended : (text old new : List ℕ) (n : ℕ) → IsBytes text → IsBytes (drop n new) → 0 < length text → decode_of standard text ≡ Ok (drop n new) → take n new ≡ old → AppendsStated (IsBase64 text) old new
decoded_appended text old new n texts bytes some decoded front = record {
  octets = drop n new;
  stated = decoded_is text (drop n new) texts bytes some decoded;
  written = sym (take-append-drop n new) ∙ ap (λ t. t ++ drop n new) front;
}
