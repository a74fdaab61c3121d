-- What a text in base64 decodes to is octets, so that a text is base64 or isn't.
use Rattle.base64.proofs.Canonical.{IsScanned-scan}
use Rattle.base64.proofs.Tables.{are_tables_inverse, encode-decode_table}
use Rattle.base64.specs.Decode.{decode_error, decode_group, decode_outcome, decoded_bytes, group_error, groups_before_last, lone_error, no_leftover, or_else, scan_bytes, scan_last, suffix_bytes, suffix_error, symbol_error}
unfoldable use Rattle.base64.specs.Decode.{groups_bytes, groups_error, scan_steps}
use Rattle.base64.specs.Engines.{standard}
use Rattle.base64.specs.GeneralPurpose.{IsBytes, decode_of}
use Rattle.base64.specs.Tables.{is_inverse}
use Rattle.base64.specs.declared.decode.DecodeError.{DecodeError}
use Rattle.base64.specs.declared.engine.DecodePaddingMode.{DecodePaddingMode}
use Rattle.base64.specs.declared.engine.general_purpose.GeneralPurpose.{GeneralPurpose}
use Rattle.zone_name.specs.Common.{EitherIs}
use Rattle.zone_rdata.proofs.Choices.{Choice}
use Rattle.type_data.proofs.OfKinds.Base64.Texts.{decoded_is, decodes_again, no_base64}
use Rattle.type_data.proofs.Common.{AllByRecursion-append, AllByRecursion-front, AreOctets, Bool, Err, List, None, Ok, Option, Result, Some, [], ap, arith, cases_lt, drop, each_below, get_or-drop, inl, inr, length, length-drop, lit<, refl, slice_index, subst, suc, sym, take, take-append-drop, to_be_bytes, true, w16, zero, ℕ, ◌*◌, ◌++◌, ◌+◌, ◌<◌, ◌∙◌, ◌∷◌, ◌≡◌, ◌≤◌, ◌⊎◌}
use Rattle.type_data.specs.Kinds.Base64.{IsBase64}
use Rattle.type_data.specs.Kinds.HostIdentity.{FailsPublicKey, StatesPublicKey, long_key, no_key}
use Rattle.type_data.specs.declared.fault.WordsFault.TheVariants.{NoBase64, TooLong}

-- ---- the values of symbols

or_else_none : (x y : Option DecodeError) → or_else x y ≡ None → (x ≡ None) × (y ≡ None)
or_else_none None y h = (refl, h)
or_else_none (Some e) y h = cc h

value_small : (enc dec s : List ℕ) (i : ℕ) → is_inverse enc dec ≡ true → slice_index s i < 256 → symbol_error dec s i ≡ None → slice_index dec (slice_index s i) < 64
value_small enc dec s i inv byte none = elim (encode-decode_table enc dec inv (slice_index s i) byte) [
  | inl bad ↦ cc (rw bad at none)
  | inr good ↦ good.0
]

group_octets : (a b c d : ℕ) → a < 64 → b < 64 → c < 64 → d < 64 → AreOctets (decode_group a b c d)
group_octets a b c d la lb lc ld = (omega arith, (omega arith, (omega arith, tt)))

groups_octets : (enc dec s : List ℕ) (q : ℕ) → is_inverse enc dec ≡ true → IsBytes s → groups_error dec s q ≡ None → AreOctets (groups_bytes dec s q)
unfolding groups_error groups_bytes
groups_octets enc dec s zero inv bytes none = tt
groups_octets enc dec s (suc q) inv bytes none =
    let i : ℕ = 4 * q in
    let parts = or_else_none (groups_error dec s q) (group_error dec s i) none in
    let first = or_else_none (symbol_error dec s i) _ parts.1 in
    let second = or_else_none (symbol_error dec s (i + 1)) _ first.1 in
    let third = or_else_none (symbol_error dec s (i + 2)) (symbol_error dec s (i + 3)) second.1 in
    AllByRecursion-append (λ c. c < 256) (groups_bytes dec s q) _ (groups_octets enc dec s q inv bytes parts.0) (group_octets _ _ _ _ (value_small enc dec s i inv (bytes i) first.0) (value_small enc dec s (i + 1) inv (bytes (i + 1)) second.0) (value_small enc dec s (i + 2) inv (bytes (i + 2)) third.0) (value_small enc dec s (i + 3) inv (bytes (i + 3)) third.1))

-- ---- the last symbols

zeros_small : (k : ℕ) → slice_index (0 ∷ 0 ∷ 0 ∷ 0 ∷ []) k < 64
zeros_small zero = omega arith
zeros_small (suc zero) = omega arith
zeros_small (suc (suc zero)) = omega arith
zeros_small (suc (suc (suc zero))) = omega arith
zeros_small (suc (suc (suc (suc k)))) = omega arith

take_octets : (n : ℕ) (octets : List ℕ) → AreOctets octets → AreOctets (take n octets)
take_octets n octets each = AllByRecursion-front (λ c. c < 256) (take n octets) (drop n octets) (subst AreOctets (sym (take-append-drop n octets)) each)

-- those of the last group, which is a scan of four symbols at most
suffix_octets : (enc dec s : List ℕ) (pad at : ℕ) → is_inverse enc dec ≡ true → IsBytes s → length s ≤ at + 4 → AreOctets (scan_bytes (scan_last dec pad at s))
suffix_octets enc dec s pad at inv bytes short =
    let rest : List ℕ = drop at s in
    let size : length rest ≤ 4 = omega (arith, length-drop at s) in
    let each : IsBytes rest = λ k. rw (get_or-drop at s k 0) (bytes (at + k)) in
    (elim (scan_last dec pad at s) as (λ r. scan_last dec pad at s ≡ r → AreOctets (scan_bytes r)) [
      | Err wrong ↦ λ e. tt
      | Ok st ↦ λ e.
          let held = IsScanned-scan enc dec rest pad at rest no_leftover st 0 inv each size (omega arith) refl ((refl, refl, λ j lt. absurd (omega arith), λ j low lt. absurd (omega arith)), (omega arith, omega arith, omega arith, zeros_small)) e in
          take_octets _ _ (group_octets _ _ _ _ (held.1.3 0) (held.1.3 1) (held.1.3 2) (held.1.3 3))
    ]) refl

-- ---- all of them

decoded_octets : (enc dec s : List ℕ) (pad : ℕ) (allow : Bool) (mode : DecodePaddingMode) → is_inverse enc dec ≡ true → IsBytes s → decode_error dec pad allow mode s ≡ None → AreOctets (decoded_bytes dec pad s)
decoded_octets enc dec s pad allow mode inv bytes none =
    let q : ℕ = groups_before_last (length s) in
    let after = or_else_none (lone_error dec pad s) (or_else (groups_error dec s q) (suffix_error dec pad allow mode (4 * q) s)) none in
    let groups = or_else_none (groups_error dec s q) (suffix_error dec pad allow mode (4 * q) s) after.1 in
    AllByRecursion-append (λ c. c < 256) (groups_bytes dec s q) (suffix_bytes dec pad (4 * q) s) (groups_octets enc dec s q inv bytes groups.0) (suffix_octets enc dec s pad (4 * q) inv bytes (omega arith))

outcome_ok : (x : Option DecodeError) (d b : List ℕ) → decode_outcome x d ≡ Ok b → (x ≡ None) × (d ≡ b)
outcome_ok None d b h = (refl, cc h)
outcome_ok (Some e) d b h = cc h

decodes_octets : (e : GeneralPurpose) (s b : List ℕ) → IsBytes s → decode_of e s ≡ Ok b → AreOctets b
decodes_octets e s b bytes ok =
    let parts = outcome_ok (decode_error e.decode_table e.padding.value e.config.decode_allow_trailing_bits e.config.decode_padding_mode s) (decoded_bytes e.decode_table e.padding.value s) b ok in
    subst AreOctets parts.1 (decoded_octets e.encode_table e.decode_table s e.padding.value e.config.decode_allow_trailing_bits e.config.decode_padding_mode (are_tables_inverse e.encode_table e.decode_table e.padding.value e.tables) bytes parts.0)

-- ---- base64 or not

base64_by : (text : List ℕ) (found : Result (List ℕ) DecodeError) → AreOctets text → decode_of standard text ≡ found → (0 < length text) ⊎ (length text ≤ 0) → Choice (IsBase64 text)
base64_by text found each e (inr empty) = inr (λ octets is. no_base64 text octets (omega arith) is)
base64_by text (Err wrong) each e (inl some) = inr (λ octets is. absurd (let both = sym e ∙ (ap (decode_of standard) is.encoded ∙ decodes_again octets is.each) in cc both))
base64_by text (Ok octets) each e (inl some) =
    let bytes : IsBytes text = each_below 256 text (lit< tt) each in
    inl (octets, decoded_is text octets bytes (each_below 256 octets (lit< tt) (decodes_octets standard text octets bytes e)) some e)

pub base64_or_not : (text : List ℕ) → AreOctets text → Choice (IsBase64 text)
base64_or_not text each = base64_by text (decode_of standard text) each refl (cases_lt 0 (length text))

pub key_decided : (text : List ℕ) → AreOctets text → EitherIs (StatesPublicKey text) (FailsPublicKey text)
key_decided text each = elim (base64_or_not text each) [
  | inr none ↦ inr (NoBase64, no_key none)
  | inl found ↦ elim (cases_lt 65535 (length found.0)) [
    | inl long ↦ inr (TooLong, long_key found.0 found.1 long)
    | inr short ↦ inl (to_be_bytes w16 (length found.0) ++ found.0, record { key = found.0; stands = found.1; short = short; written = refl })
  ]
]
