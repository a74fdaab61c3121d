-- Hashes in base32hex are stated or have a fault.
use Rattle.std.proofs.lemmas.Bool.{cases_eq}
use Rattle.zone_rdata.proofs.Choices.{Choice}
use Rattle.type_data.proofs.Common.{List, None, Option, Some, [], arith, cases_lt, get_or, inl, inr, length, refl, suc, sym, zero, ℕ, ◌%◌, ◌*◌, ◌++◌, ◌+◌, ◌-◌, ◌/◌, ◌<◌, ◌^◌, ◌∷◌, ◌≡◌, ◌≤◌, ◌⊎◌}
use Rattle.type_data.proofs.OfKinds.Hash.Digits.{IsDigit, Reading, bad_digit, begun, no_digit, octet_count, reads_filled, reads_kept, reads_whole, unused_bits}
use Rattle.type_data.specs.Kinds.Hash.{IsBase32Hex, base32_digit}

base32_ends : (text out : List ℕ) (i bits count : ℕ) → length text ≤ i → 0 < length text → Reading text [] out i bits count → (count < 5) ⊎ (5 ≤ count) → (bits ≡ 0) ⊎ (bits ≡ 0 → ⊥) → Choice (IsBase32Hex text)
base32_ends text out i bits count past some r (inl few) (inl none) = let done = reads_whole text [] out i bits count past some r few none in inl (done.octets, done.stated)
base32_ends text out i bits count past some r (inl few) (inr left) = inr (λ value is. left (unused_bits text r.octets i bits count past r.have value is).1)
base32_ends text out i bits count past some r (inr many) rest = inr (λ value is. omega (arith, (unused_bits text r.octets i bits count past r.have value is).0, many))

-- what becomes of the digits from a place on, by what becomes of those from the next on
abbrev From : List ℕ → ℕ → Type 0
From text i = (out : List ℕ) (bits count : ℕ) → Reading text [] out i bits count → Choice (IsBase32Hex text)

base32_with : (i : ℕ) (text out : List ℕ) (bits count v : ℕ) → i < length text → Reading text [] out i bits count → From text (i + 1) → IsDigit (get_or text i 0) v → (count + 5 < 8) ⊎ (8 ≤ count + 5) → Choice (IsBase32Hex text)
base32_with i text out bits count v inside r go is (inl room) = go out (bits * 32 + v) (count + 5) (reads_kept text [] out out i (get_or text i 0) 0 v bits count (bits * 32 + v) (count + 5) inside refl is r room refl refl refl)
base32_with i text out bits count v inside r go is (inr full) =
    let octet : ℕ = (bits * 32 + v) / 2 ^ (count + 5 - 8) in
    let kept : ℕ = (bits * 32 + v) % (1 * 2 ^ (count + 5 - 8) % 4294967296) in
    go (out ++ octet ∷ []) kept (count + 5 - 8) (reads_filled text [] out (out ++ octet ∷ []) i (get_or text i 0) 0 v bits count kept (count + 5 - 8) inside refl is r full refl refl refl)

base32_by : (i : ℕ) (text out : List ℕ) (bits count : ℕ) → i < length text → Reading text [] out i bits count → From text (i + 1) → (digit : Option ℕ) → base32_digit (get_or text i 0) ≡ digit → Choice (IsBase32Hex text)
base32_by i text out bits count inside r go None e = inr (bad_digit text i (get_or text i 0) 0 inside refl (no_digit (get_or text i 0) None (sym e) refl))
base32_by i text out bits count inside r go (Some v) e = base32_with i text out bits count v inside r go e (cases_lt (count + 5) 8)

base32_from : (left i : ℕ) (text : List ℕ) → i + left ≡ length text → 0 < length text → From text i
base32_from zero i text whole some out bits count r = base32_ends text out i bits count (omega arith) some r (cases_lt count 5) (cases_eq bits 0)
base32_from (suc left) i text whole some out bits count r = base32_by i text out bits count (omega arith) r (base32_from left (i + 1) text (omega arith) some) (base32_digit (get_or text i 0)) refl

pub base32_or_not : (text : List ℕ) → Choice (IsBase32Hex text)
base32_or_not [] = inr (λ octets is. omega (arith, is.some, octet_count [] octets is))
base32_or_not (c ∷ text) = base32_from (length (c ∷ text)) 0 (c ∷ text) (omega arith) (omega arith) [] 0 0 (begun (c ∷ text) [])
