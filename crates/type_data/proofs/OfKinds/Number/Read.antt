-- Numbers that are read, and their places in octets.
use Rattle.type_data.proofs.Common.{AppendsStated, IfNone, IfSome, IsCapped, IsDecimal, IsInOctets, List, None, NothingIs, NumberFails, Option, Some, Width, WordsFault, ap, arith, byte_len, refl, subst, sym, to_be_bytes, w16, ℕ, ◌+◌, ◌<◌, ◌^◌, ◌∙◌, ◌≡◌, ◌≤◌}
use Rattle.type_data.specs.Kinds.Number.{no_number}
use Rattle.zone_rdata.specs.Fields.Number.{IsNumber}
use Rattle.type_data.specs.Kinds.Number.{too_large}
use Rattle.type_data.specs.Kinds.Number.Machine.{FailsToFit, Fits, IsOver}
use Rattle.std.proofs.lemmas.Nat.{from_be_bytes-to_be_bytes_2}
use Rattle.std.specs.Int.{from_be_bytes}

-- two octets are those of one number
pub number_once : (a b : ℕ) → a < 2 ^ 16 → b < 2 ^ 16 → to_be_bytes w16 a ≡ to_be_bytes w16 b → a ≡ b
number_once a b low less e = sym (from_be_bytes-to_be_bytes_2 a low) ∙ ap (from_be_bytes w16) e ∙ from_be_bytes-to_be_bytes_2 b less

-- what is no number of so many octets has no place in them
pub over_fails : (w : Width) (most : ℕ) (number : Option ℕ) (fault : WordsFault) → most + 1 ≡ 256 ^ byte_len w → IsOver most number fault → FailsToFit w number fault
over_fails w most None fault e over = rw over (no_number (λ n is. absurd (let t : None ≡ Some n = is in cc)))
over_fails w most (Some n) fault e over = rw over.0 (too_large n refl (λ fits. absurd (let more = over.1 in omega arith)))

-- a number that is read up to 2 ^ 32 is the number itself
pub capped_fits : (Stated : ℕ → Type 0) (w : Width) (number : Option ℕ) (old new : List ℕ) → 256 ^ byte_len w ≤ 4294967296 → IfSome number (IsCapped Stated) → AppendsStated (Fits w number) old new → AppendsStated (IsInOctets Stated w) old new
capped_fits Stated w None old new small capped h = absurd (let t : None ≡ Some h.stated.number = h.stated.stated in cc)
capped_fits Stated w (Some n) old new small capped h =
    let same : n ≡ h.stated.number = cc h.stated.stated in
    let fits : IsNumber w h.stated.number = h.stated.fits in
    let own : capped.0 ≡ h.stated.number = let e = capped.1.1 in omega arith in
    record {
      octets = h.octets;
      stated = record { number = h.stated.number; stated = subst Stated own capped.1.0; fits = fits; value = h.stated.value };
      written = h.written;
    }

-- what is read as no number of so many octets is none
pub capped_fails : (Stated : ℕ → Type 0) (w : Width) (number : Option ℕ) (fault : WordsFault) → 256 ^ byte_len w ≤ 4294967296 → IfSome number (IsCapped Stated) → IfNone number (NothingIs Stated) → FailsToFit w number fault → NumberFails Stated w fault
capped_fails Stated w None fault small capped none (no_number nothing) = no_number none
capped_fails Stated w (Some n) fault small capped none (no_number nothing) = absurd (nothing n refl)
capped_fails Stated w None fault small capped none (too_large n is over) = absurd (let t : None ≡ Some n = is in cc)
capped_fails Stated w (Some m) fault small capped none (too_large n is over) =
    let same : m ≡ n = cc is in
    too_large capped.0 capped.1.0 (λ fits. over (let e = capped.1.1 in let low : capped.0 < 256 ^ byte_len w = fits in let t : n < 256 ^ byte_len w = omega arith in t))

-- digits have one number
pub decimal_once : (text : List ℕ) (m n : ℕ) → IsDecimal text m → IsDecimal text n → m ≡ n
decimal_once text m n a b = a.value ∙ sym b.value

-- where one number at most is stated, it has one place
pub in_octets_once : (Stated : ℕ → Type 0) (w : Width) (a b : List ℕ) → ((m n : ℕ) → Stated m → Stated n → m ≡ n) → IsInOctets Stated w a → IsInOctets Stated w b → a ≡ b
in_octets_once Stated w a b once p q = p.value ∙ ap (to_be_bytes w) (once p.number q.number p.stated q.stated) ∙ sym q.value

pub number_or_fault : (Stated : ℕ → Type 0) (w : Width) (octets : List ℕ) (fault : WordsFault) → ((m n : ℕ) → Stated m → Stated n → m ≡ n) → IsInOctets Stated w octets → NumberFails Stated w fault → ⊥
number_or_fault Stated w octets fault once p (no_number none) = none p.number p.stated
number_or_fault Stated w octets fault once p (too_large n is over) = over (subst (IsNumber w) (once p.number n p.stated is) p.fits)
