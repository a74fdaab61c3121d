-- Four hexadecimal digits by two and two.
use Rattle.hex.specs.Hex.{decode_pairs, decode_sized, pair_value}
use Rattle.hex.specs.declared.error.FromHexError.{FromHexError}
use Rattle.zone_rdata.proofs.Common.{[], Err, List, Ok, Result, refl, ℕ, ◌∷◌, ◌≡◌, ◌≢◌}

pub four_found : (a b c d high low : ℕ) → pair_value a b 0 ≡ Ok high → pair_value c d 2 ≡ Ok low → decode_sized (a ∷ b ∷ c ∷ d ∷ []) 2 ≡ Ok (high ∷ low ∷ [])
unfolding decode_pairs
four_found a b c d high low first second = rw first (rw second refl)

first_by : (a b c d : ℕ) (found : Result ℕ FromHexError) → pair_value a b 0 ≡ found → ((octet : ℕ) → found ≢ Ok octet) → (octets : List ℕ) → decode_sized (a ∷ b ∷ c ∷ d ∷ []) 2 ≢ Ok octets
unfolding decode_pairs
first_by a b c d (Ok octet) is never octets = λ _. never octet refl
first_by a b c d (Err error) is never octets = rw is (λ h. absurd (let other = h in cc))

pub none_of_first : (a b c d : ℕ) → ((at octet : ℕ) → pair_value a b at ≢ Ok octet) → (octets : List ℕ) → decode_sized (a ∷ b ∷ c ∷ d ∷ []) 2 ≢ Ok octets
none_of_first a b c d never octets = first_by a b c d (pair_value a b 0) refl (never 0) octets

second_by : (a b c d high : ℕ) (found : Result ℕ FromHexError) → pair_value a b 0 ≡ Ok high → pair_value c d 2 ≡ found → ((octet : ℕ) → found ≢ Ok octet) → (octets : List ℕ) → decode_sized (a ∷ b ∷ c ∷ d ∷ []) 2 ≢ Ok octets
unfolding decode_pairs
second_by a b c d high (Ok octet) first is never octets = λ _. never octet refl
second_by a b c d high (Err error) first is never octets = rw first (rw is (λ h. absurd (let other = h in cc)))

pub none_of_second : (a b c d high : ℕ) → pair_value a b 0 ≡ Ok high → ((at octet : ℕ) → pair_value c d at ≢ Ok octet) → (octets : List ℕ) → decode_sized (a ∷ b ∷ c ∷ d ∷ []) 2 ≢ Ok octets
none_of_second a b c d high first never octets = second_by a b c d high (pair_value c d 2) first refl (never 2) octets
