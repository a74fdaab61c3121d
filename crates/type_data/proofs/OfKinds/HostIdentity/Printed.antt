-- The tag and the key of a host's identity as they are printed.
use Rattle.base64.specs.Engines.{standard}
use Rattle.base64.specs.GeneralPurpose.{encode_of}
use Rattle.zone_rdata.proofs.Octets.Sent.{append_same}
use Rattle.zone_text.proofs.Common.{AllByRecursion-front}
use Rattle.type_data.proofs.Common.{AreOctets, List, ap, append_assoc, arith, bytes_each, encode_lower, length, refl, slice_index, subst, sym, to_be_bytes, w16, with_length, ℕ, ◌%◌, ◌++◌, ◌/◌, ◌<◌, ◌∙◌, ◌≡◌, ◌≤◌}
use Rattle.type_data.proofs.OfKinds.AfterLength.Printed.{AfterLength, counted_bad, counted_front, counted_octets, counted_small}
use Rattle.type_data.specs.Kinds.Hexadecimal.{IsLowerHex}
use Rattle.type_data.specs.Kinds.HostIdentity.{PrintsHostIdentityTag, PrintsPublicKey, StatesHostIdentityTag, StatesPublicKey}
use Rattle.type_data.specs.Printed.{NoFront, PrintsFront}

-- ---- the tag

identity_after : AfterLength StatesHostIdentityTag
identity_after words part states = (states.value, states.written)

pub identity_front : (octets rest old new value : List ℕ) → octets ≡ with_length value ++ rest → 0 < length value → ((i : ℕ) → slice_index octets i < 256) → new ≡ old ++ encode_lower value → PrintsFront PrintsHostIdentityTag StatesHostIdentityTag octets rest old new
identity_front octets rest old new value whole some low appended =
    let is : IsLowerHex (encode_lower value) value = record { some = some; each = counted_octets octets value rest whole low; digits = refl } in
    counted_front PrintsHostIdentityTag StatesHostIdentityTag octets rest old new value (encode_lower value) identity_after whole (record { value = value; stands = is; short = counted_small octets value rest whole low; written = refl }) appended

pub no_identity : (octets rest value : List ℕ) → octets ≡ with_length value ++ rest → length value ≡ 0 → NoFront StatesHostIdentityTag octets
no_identity octets rest value whole empty =
    counted_bad StatesHostIdentityTag octets rest value identity_after whole
    (λ text states. let some = states.stands.some in omega (arith, some, empty, ap length states.written))

-- ---- the key

-- a key after its length
abbrev counted_key : List ℕ → List ℕ
counted_key key = to_be_bytes w16 (length key) ++ key

-- two lengths of two octets at the front of the same octets
same_numbers : (n m : ℕ) (a b : List ℕ) → n < 65536 → m < 65536 → to_be_bytes w16 n ++ a ≡ to_be_bytes w16 m ++ b → (n ≡ m) × (a ≡ b)
same_numbers n m a b few few_too same =
    let high : n / 256 % 256 ≡ m / 256 % 256 = cc same in
    let low : n % 256 ≡ m % 256 = cc same in
    (omega (arith, high, low), cc same)

key_parts : (octets key other rest after : List ℕ) → octets ≡ counted_key key ++ rest → octets ≡ counted_key other ++ after → length key ≤ 65535 → length other ≤ 65535 → other ≡ key
key_parts octets key other rest after whole parted few few_too =
    let same : to_be_bytes w16 (length other) ++ (other ++ after) ≡ to_be_bytes w16 (length key) ++ (key ++ rest) =
    sym (append_assoc (to_be_bytes w16 (length other)) other after) ∙ sym parted ∙ whole ∙ append_assoc (to_be_bytes w16 (length key)) key rest in
    let of = same_numbers (length other) (length key) (other ++ after) (key ++ rest) (omega arith) (omega arith) same in
    (append_same other key after rest of.0 of.1).0

-- the octets are those of a key of so many octets, and what follows it
cut_key : (octets mid key rest : List ℕ) (len : ℕ) → octets ≡ to_be_bytes w16 len ++ mid → mid ≡ key ++ rest → length key ≡ len → octets ≡ counted_key key ++ rest
cut_key octets mid key rest len whole cut long =
    whole ∙ ap (λ m. to_be_bytes w16 len ++ m) cut ∙ ap (λ n. to_be_bytes w16 n ++ (key ++ rest)) (sym long) ∙ sym (append_assoc (to_be_bytes w16 (length key)) key rest)

key_octets : (octets key rest : List ℕ) → octets ≡ counted_key key ++ rest → ((i : ℕ) → slice_index octets i < 256) → AreOctets key
key_octets octets key rest whole low =
    let all : AreOctets (to_be_bytes w16 (length key) ++ (key ++ rest)) = subst AreOctets (whole ∙ append_assoc (to_be_bytes w16 (length key)) key rest) (bytes_each octets low) in
    AllByRecursion-front (λ c. c < 256) key rest all.1.1

pub key_front : (octets mid key rest old new : List ℕ) (len : ℕ) → octets ≡ to_be_bytes w16 len ++ mid → mid ≡ key ++ rest → length key ≡ len → len < 65536 → 0 < length key → ((i : ℕ) → slice_index octets i < 256) → new ≡ old ++ encode_of standard key → PrintsFront PrintsPublicKey StatesPublicKey octets rest old new
key_front octets mid key rest old new len front cut long few some low appended =
    let whole = cut_key octets mid key rest len front cut long in
    let short : length key ≤ 65535 = omega arith in
    record {
      part = counted_key key;
      text = encode_of standard key;
      whole = whole;
      printed = record { key = key; stands = record { some = some; each = key_octets octets key rest whole low; encoded = refl }; short = short; written = refl };
      appended = appended;
      alone = λ other after words parted states.
          let cut_other : octets ≡ counted_key states.key ++ after = parted ∙ ap (λ o. o ++ after) states.written in
          states.written ∙ ap (λ k. to_be_bytes w16 (length k) ++ k) (key_parts octets key states.key rest after whole cut_other short states.short);
    }

pub no_key_front : (octets mid key rest : List ℕ) (len : ℕ) → octets ≡ to_be_bytes w16 len ++ mid → mid ≡ key ++ rest → length key ≡ len → length key ≡ 0 → NoFront StatesPublicKey octets
no_key_front octets mid key rest len front cut long empty part after text parted states =
    let whole = cut_key octets mid key rest len front cut long in
    let same = key_parts octets key states.key rest after whole (parted ∙ ap (λ o. o ++ after) states.written) (omega arith) states.short in
    let some = states.stands.some in
    omega (arith, some, empty, ap length same)
