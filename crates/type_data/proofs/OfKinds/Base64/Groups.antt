-- Groups of base64 digits read ahead of the rest of a text.
use Rattle.base64.proofs.EngineFacts.{encode_of-append, encode_of-nil}
use Rattle.base64.proofs.RoundTrip.{length-encode_symbols}
use Rattle.base64.proofs.Tables.{are_tables_inverse, encode-decode_table}
use Rattle.base64.specs.Engines.{standard}
use Rattle.base64.specs.GeneralPurpose.{encode_of}
unfoldable use Rattle.base64.specs.Rfc4648.{encode_symbols}
use Rattle.std.proofs.Common.{length-take-le}
use Rattle.std.proofs.lemmas.List.{length-replicate}
use Rattle.std.specs.Prelude.{replicate, slice_index, suc, zero, ◌-◌}
use Rattle.zone_rdata.proofs.Octets.Sent.{append_same}
use Rattle.type_data.proofs.OfKinds.Base64.Texts.{some_octet}
use Rattle.type_data.proofs.Common.{AppendsStated, AreOctets, List, [], ap, append-nil, append_assoc, arith, drop, inl, inr, length, length-append, refl, sym, take, take-append-drop, take_all, get_or, ℕ, ◌%◌, ◌*◌, ◌++◌, ◌+◌, ◌/◌, ◌<◌, ◌∙◌, ◌∷◌, ◌≡◌, ◌≤◌}
use Rattle.type_data.specs.Kinds.Base64.{IsBase64}
use Rattle.type_data.specs.Kinds.Base64.Machine.{HasGroups}

-- the symbol of a digit's value is the digit
digit_again : (digit value : ℕ) → digit < 256 → value ≡ slice_index standard.decode_table digit → value ≤ 63 → slice_index standard.encode_table value ≡ digit
digit_again digit value fits is small = elim (encode-decode_table standard.encode_table standard.decode_table (are_tables_inverse standard.encode_table standard.decode_table 61 refl) digit fits) [
  | inl none ↦ absurd (omega (arith, none, is, small))
  | inr some ↦ ap (slice_index standard.encode_table) is ∙ some.1
]

-- three octets of four digits by their values
pub group_encoded : (a b c d p q r s x y z : ℕ) → a < 256 → b < 256 → c < 256 → d < 256 → p ≡ slice_index standard.decode_table a → q ≡ slice_index standard.decode_table b → r ≡ slice_index standard.decode_table c → s ≡ slice_index standard.decode_table d → p ≤ 63 → q ≤ 63 → r ≤ 63 → s ≤ 63 → x ≡ p * 4 + q / 16 → y ≡ q % 16 * 16 + r / 4 → z ≡ r % 4 * 64 + s → a ∷ b ∷ c ∷ d ∷ [] ≡ encode_of standard (x ∷ y ∷ z ∷ [])
unfolding encode_symbols
group_encoded a b c d p q r s x y z fa fb fc fd pa qb rc sd pl ql rl sl xe ye ze =
    let t = standard.encode_table in
    let first : x / 4 ≡ p = omega (arith, xe, ql, pl) in
    let second : x % 4 * 16 + y / 16 ≡ q = omega (arith, xe, ye, ql, rl, pl) in
    let third : y % 16 * 4 + z / 64 ≡ r = omega (arith, ye, ze, rl, sl, ql) in
    let last : z % 64 ≡ s = omega (arith, ze, sl, rl) in
    let at_first : slice_index t (x / 4) ≡ a = ap (slice_index t) first ∙ digit_again a p fa pa pl in
    let at_second : slice_index t (x % 4 * 16 + y / 16) ≡ b = ap (slice_index t) second ∙ digit_again b q fb qb ql in
    let at_third : slice_index t (y % 16 * 4 + z / 64) ≡ c = ap (slice_index t) third ∙ digit_again c r fc rc rl in
    let at_last : slice_index t (z % 64) ≡ d = ap (slice_index t) last ∙ digit_again d s fd sd sl in
    sym (cc (at_first, at_second, at_third, at_last))

pub two_encoded : (a b c d e f g h p q r s t u : ℕ) → a ∷ b ∷ c ∷ d ∷ [] ≡ encode_of standard (p ∷ q ∷ r ∷ []) → e ∷ f ∷ g ∷ h ∷ [] ≡ encode_of standard (s ∷ t ∷ u ∷ []) → a ∷ b ∷ c ∷ d ∷ e ∷ f ∷ g ∷ h ∷ [] ≡ encode_of standard (p ∷ q ∷ r ∷ s ∷ t ∷ u ∷ [])
two_encoded a b c d e f g h p q r s t u one two =
    ap (λ l. l ++ (e ∷ f ∷ g ∷ h ∷ [])) one ∙ ap (λ l. encode_of standard (p ∷ q ∷ r ∷ []) ++ l) two ∙ sym (encode_of-append standard (p ∷ q ∷ r ∷ []) (s ∷ t ∷ u ∷ []) refl)

-- the first eight of a text and what follows them
pub eight_ahead : (rest : List ℕ) (d : ℕ) → 8 ≤ length rest → rest ≡ (get_or rest 0 d ∷ get_or rest 1 d ∷ get_or rest 2 d ∷ get_or rest 3 d ∷ get_or rest 4 d ∷ get_or rest 5 d ∷ get_or rest 6 d ∷ get_or rest 7 d ∷ []) ++ take (length rest - 8) (drop 8 rest)
eight_ahead [] d eight = absurd (omega arith)
eight_ahead (a ∷ []) d eight = absurd (omega arith)
eight_ahead (a ∷ b ∷ []) d eight = absurd (omega arith)
eight_ahead (a ∷ b ∷ c ∷ []) d eight = absurd (omega arith)
eight_ahead (a ∷ b ∷ c ∷ e ∷ []) d eight = absurd (omega arith)
eight_ahead (a ∷ b ∷ c ∷ e ∷ f ∷ []) d eight = absurd (omega arith)
eight_ahead (a ∷ b ∷ c ∷ e ∷ f ∷ g ∷ []) d eight = absurd (omega arith)
eight_ahead (a ∷ b ∷ c ∷ e ∷ f ∷ g ∷ h ∷ []) d eight = absurd (omega arith)
eight_ahead (a ∷ b ∷ c ∷ e ∷ f ∷ g ∷ h ∷ i ∷ more) d eight =
    let few : length (a ∷ b ∷ c ∷ e ∷ f ∷ g ∷ h ∷ i ∷ more) - 8 ≡ length more = omega arith in
    ap (λ l. a ∷ b ∷ c ∷ e ∷ f ∷ g ∷ h ∷ i ∷ l) (sym (take_all (length (a ∷ b ∷ c ∷ e ∷ f ∷ g ∷ h ∷ i ∷ more) - 8) more (omega arith)))

-- ---- the loop

each_append : (a b : List ℕ) → AreOctets a → AreOctets b → AreOctets (a ++ b)
each_append [] b x y = y
each_append (o ∷ a) b x y = (x.0, each_append a b x.1 y)

pub no_groups : (text old : List ℕ) → HasGroups text text old old
no_groups text old = record { octets = []; each = tt; whole = refl; parted = ap (λ l. l ++ text) (sym (encode_of-nil standard)); written = sym (append-nil old) }

pub more_groups : (text rest digits after old out new octets : List ℕ) → rest ≡ digits ++ after → length octets ≡ 6 → AreOctets octets → digits ≡ encode_of standard octets → new ≡ out ++ octets → HasGroups text rest old out → HasGroups text after old new
more_groups text rest digits after old out new octets cut six each encoded grown has = record {
  octets = has.octets ++ octets;
  each = each_append has.octets octets has.each each;
  whole = omega (arith, has.whole, six, length-append has.octets octets);
  parted = has.parted ∙ ap (λ l. encode_of standard has.octets ++ l) (cut ∙ ap (λ l. l ++ after) encoded) ∙ sym (append_assoc (encode_of standard has.octets) (encode_of standard octets) after) ∙ ap (λ l. l ++ after) (sym (encode_of-append standard has.octets octets has.whole));
  written = grown ∙ ap (λ l. l ++ octets) has.written ∙ append_assoc old has.octets octets;
}

-- ---- the whole text

pub last_groups : (text rest old out new : List ℕ) → HasGroups text rest old out → AppendsStated (IsBase64 rest) out new → AppendsStated (IsBase64 text) old new
last_groups text rest old out new has more = record {
  octets = has.octets ++ more.octets;
  stated = record {
    some = omega (arith, more.stated.some, length-append has.octets more.octets);
    each = each_append has.octets more.octets has.each more.stated.each;
    encoded = has.parted ∙ ap (λ l. encode_of standard has.octets ++ l) more.stated.encoded ∙ sym (encode_of-append standard has.octets more.octets has.whole);
  };
  written = more.written ∙ ap (λ l. l ++ more.octets) has.written ∙ append_assoc old has.octets more.octets;
}

pub all_groups : (text rest old out : List ℕ) → 0 < length text → rest ≡ [] → HasGroups text rest old out → AppendsStated (IsBase64 text) old out
all_groups text rest old out some end has =
    let whole : text ≡ encode_of standard has.octets = has.parted ∙ ap (λ l. encode_of standard has.octets ++ l) end ∙ append-nil (encode_of standard has.octets) in record {
      octets = has.octets;
      stated = record { some = some_octet text has.octets some whole; each = has.each; encoded = whole };
      written = has.written;
    }

each_drop : (n : ℕ) (l : List ℕ) → AreOctets l → AreOctets (drop n l)
each_drop zero l each = each
each_drop (suc n) [] each = each
each_drop (suc n) (o ∷ l) each = each_drop n l each.1

encoded_length : (octets : List ℕ) → length (encode_of standard octets) ≡ (4 * length octets + 2) / 3 + (3 - length octets % 3) % 3
encoded_length octets =
    let pad : List ℕ = replicate ((3 - length octets % 3) % 3) 61 in
    length-append (encode_symbols standard.encode_table octets) pad
    ∙ ap (λ n. n + length pad) (length-encode_symbols standard.encode_table octets)
    ∙ ap (λ n. (4 * length octets + 2) / 3 + n) (length-replicate ((3 - length octets % 3) % 3) 61)

more_octets : (m n k l : ℕ) → n % 3 ≡ 0 → 0 < l → k ≡ (4 * n + 2) / 3 + (3 - n % 3) % 3 → k + l ≡ (4 * m + 2) / 3 + (3 - m % 3) % 3 → n ≤ m
more_octets m n k l whole some front all = omega (arith, whole, some, front, all)

-- if the text is an encoding, so is what is left
pub left_encoded : (text rest old out octets : List ℕ) → 0 < length rest → (has : HasGroups text rest old out) → IsBase64 text octets → IsBase64 rest (drop (length has.octets) octets)
left_encoded text rest old out octets some has is =
    let n : ℕ = length has.octets in
    let front = encoded_length has.octets in
    let sizes : length (encode_of standard has.octets) + length rest ≡ (4 * length octets + 2) / 3 + (3 - length octets % 3) % 3 =
    sym (length-append (encode_of standard has.octets) rest) ∙ ap length (sym has.parted ∙ is.encoded) ∙ encoded_length octets in
    let room : n ≤ length octets = more_octets (length octets) n (length (encode_of standard has.octets)) (length rest) has.whole some front sizes in
    let count : length (take n octets) ≡ n = length-take-le n octets room in
    let third : length (take n octets) % 3 ≡ 0 = omega (arith, count, has.whole) in
    let split : encode_of standard octets ≡ encode_of standard (take n octets) ++ encode_of standard (drop n octets) =
    ap (encode_of standard) (sym (take-append-drop n octets)) ∙ encode_of-append standard (take n octets) (drop n octets) third in
    let same_length : length (encode_of standard has.octets) ≡ length (encode_of standard (take n octets)) = omega (arith, front, encoded_length (take n octets), count) in
    let parts = append_same (encode_of standard has.octets) (encode_of standard (take n octets)) rest (encode_of standard (drop n octets)) same_length (sym has.parted ∙ is.encoded ∙ split) in
    record {
      some = some_octet rest (drop n octets) some parts.1;
      each = each_drop n octets is.each;
      encoded = parts.1;
    }
