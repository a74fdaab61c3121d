-- Hexadecimal digits read part by part.
use Rattle.hex.proofs.HexLemmas.{decode_of-even, decode_of-encode_lower, decode_of-encode_upper, decode_of-ok}
use Rattle.hex.specs.Hex.{IsBytes, decode_of, decode_pairs, digit_or_error, encode_lower, encode_upper, encode_with, hex_digit_value, lower_digits, pair_value, upper_digits, value_at, ◌>>=◌}
use Rattle.hex.specs.declared.error.FromHexError.{FromHexError}
use Rattle.std.proofs.lemmas.Bool.{eqb-false, eqb-true}
use Rattle.std.specs.Prelude.{Bool, false, true, ◌==◌}
use Rattle.std.specs.Result.{result_unwrap_or}
use Rattle.zone_rdata.proofs.Common.{◌≡◌, ◌≢◌, ℕ, ◌+◌, ◌*◌, ◌%◌, ◌/◌, ◌≤◌, ◌<◌, List, [], ◌∷◌, ◌++◌, length, Result, Ok, Err, Option, Some, None, refl, sym, ap, ◌∙◌, arith, append_assoc, append-nil, Appends, length-append, take, take_all, drop, get_or, ◌-◌, min, cases_lt, drop_all, ◌⊎◌, inl, inr, take-append-drop, length-take-le, length-encode_with}
use Rattle.zone_rdata.proofs.Texts.DigitLanes.{taken_fit}
use Rattle.std.proofs.Math.Seq.{take-append_seam}

-- pairs of digits, each of one of the octets
abbrev pub IsRead : List ℕ → List ℕ → Type 0
IsRead [] octets = octets ≡ []
IsRead (a ∷ []) octets = ⊥
IsRead (a ∷ b ∷ rest) octets = (octet : ℕ) × (more : List ℕ) × (pair_value a b 0 ≡ Ok octet) × (octets ≡ octet ∷ more) × IsRead rest more

value_anywhere : (c i j v : ℕ) (o : Option ℕ) → digit_or_error c i o ≡ Ok v → digit_or_error c j o ≡ Ok v
value_anywhere c i j v (Some w) h = h
value_anywhere c i j v None h = cc h

bound_ok : {A B : Type 0} (r : Result A FromHexError) (f : A → Result B FromHexError) (y : B) → (r >>= f) ≡ Ok y → (x : A) × (r ≡ Ok x) × (f x ≡ Ok y)
bound_ok (Ok x) f y h = (x, refl, h)
bound_ok (Err e) f y h = cc h

pub pair_anywhere : (a b i j v : ℕ) → pair_value a b i ≡ Ok v → pair_value a b j ≡ Ok v
pair_anywhere a b i j v h =
    let high = bound_ok (value_at a i) _ v h in
    let low = bound_ok (value_at b (i + 1)) _ v high.2 in
    let first : value_at a j ≡ Ok high.0 = value_anywhere a i j high.0 (hex_digit_value a) high.1 in
    let second : value_at b (j + 1) ≡ Ok low.0 = value_anywhere b (i + 1) (j + 1) low.0 (hex_digit_value b) low.1 in
    rw (first, second) low.2

read_pairs : (i : ℕ) (s octets : List ℕ) → decode_pairs i s ≡ Ok octets → IsRead s octets
unfolding decode_pairs
read_pairs i [] octets h = sym (ap (λ (r : Result (List ℕ) FromHexError). result_unwrap_or r []) h)
read_pairs i (a ∷ []) octets h = cc h
read_pairs i (a ∷ b ∷ rest) octets h =
    let first = bound_ok (pair_value a b i) _ octets h in
    let after = bound_ok (decode_pairs (i + 2) rest) _ octets first.2 in
    let whole : first.0 ∷ after.0 ≡ octets = ap (λ (r : Result (List ℕ) FromHexError). result_unwrap_or r []) after.2 in
    (first.0, after.0, pair_anywhere a b i 0 first.0 first.1, sym whole, read_pairs (i + 2) rest after.0 after.1)

pairs_read : (i : ℕ) (s octets : List ℕ) → IsRead s octets → decode_pairs i s ≡ Ok octets
unfolding decode_pairs
pairs_read i [] octets h = ap Ok (sym h)
pairs_read i (a ∷ []) octets h = absurd h
pairs_read i (a ∷ b ∷ rest) octets (octet, more, pair, whole, after) =
    rw whole (rw (pair_anywhere a b 0 i octet pair, pairs_read (i + 2) rest more after) refl)

read_even : (s octets : List ℕ) → IsRead s octets → length s % 2 ≡ 0
read_even [] octets h = refl
read_even (a ∷ []) octets h = absurd h
read_even (a ∷ b ∷ rest) octets (octet, more, pair, whole, after) = let even = read_even rest more after in omega arith

-- so a text is decoded
pub decoded : (s octets : List ℕ) → IsRead s octets → decode_of s ≡ Ok octets
decoded s octets h = decode_of-even s (read_even s octets h) ∙ pairs_read 0 s octets h

pub read : (s octets : List ℕ) → decode_of s ≡ Ok octets → IsRead s octets
read s octets h = read_pairs 0 s octets (sym (decode_of-even s (decode_of-ok s octets h).0) ∙ h)

read_both : (s t front back : List ℕ) → IsRead s front → IsRead t back → IsRead (s ++ t) (front ++ back)
read_both [] t front back h more = rw h more
read_both (a ∷ []) t front back h more = absurd h
read_both (a ∷ b ∷ rest) t front back (octet, after, pair, whole, h) more =
    (octet, after ++ back, pair, ap (λ l. l ++ back) whole, read_both rest t after back h more)

read_after : (s t front whole : List ℕ) → IsRead s front → IsRead (s ++ t) whole → (back : List ℕ) × IsRead t back
read_after [] t front whole h all = (whole, all)
read_after (a ∷ []) t front whole h all = absurd h
read_after (a ∷ b ∷ rest) t front whole h all = read_after rest t h.1 all.1 h.4 all.4

-- what is left of a text, after what was read of it
pub record HaveRead (text rest old now : List ℕ) : Type 0 where
  pub before : List ℕ
  pub parts : text ≡ before ++ rest
  pub grows : Appends (λ front. decode_of before ≡ Ok front) (λ front. front) old now

pub none_read : (text old : List ℕ) → HaveRead text text old old
none_read text old = record {
  before = [];
  parts = refl;
  grows = record { value = []; stated = decoded [] [] refl; written = sym (append-nil old) };
}

pub more_read : (text rest part after old now new : List ℕ) → rest ≡ part ++ after → HaveRead text rest old now → Appends (λ front. decode_of part ≡ Ok front) (λ front. front) now new → HaveRead text after old new
more_read text rest part after old now new cut have more = record {
  before = have.before ++ part;
  parts = have.parts ∙ ap (λ l. have.before ++ l) cut ∙ sym (append_assoc have.before part after);
  grows = record {
    value = have.grows.value ++ more.value;
    stated = decoded (have.before ++ part) (have.grows.value ++ more.value) (read_both have.before part have.grows.value more.value (read have.before have.grows.value have.grows.stated) (read part more.value more.stated));
    written = more.written ∙ ap (λ l. l ++ more.value) have.grows.written ∙ append_assoc old have.grows.value more.value;
  };
}

pub all_read : (text rest old now : List ℕ) → rest ≡ [] → HaveRead text rest old now → Appends (λ front. decode_of text ≡ Ok front) (λ front. front) old now
all_read text rest old now end have =
    let whole : have.before ≡ text = sym (have.parts ∙ ap (λ l. have.before ++ l) end ∙ append-nil have.before) in
    rw whole at have.grows

-- a text isn't decoded if what is left of it, or what that begins with, isn't
pub rest_unread : (text rest old now : List ℕ) → HaveRead text rest old now → ((front : List ℕ) → decode_of rest ≢ Ok front) → (front : List ℕ) → decode_of text ≢ Ok front
rest_unread text rest old now have never front is =
    let whole : decode_of (have.before ++ rest) ≡ Ok front = ap decode_of (sym have.parts) ∙ is in
    let back = read_after have.before rest have.grows.value front (read have.before have.grows.value have.grows.stated) (read (have.before ++ rest) front whole) in
    never back.0 (decoded rest back.0 back.1)

pub pair_both : (a b octet : ℕ) → ((at : ℕ) → pair_value a b at ≡ Ok octet) → decode_of (a ∷ b ∷ []) ≡ Ok (octet ∷ [])
pair_both a b octet is = decoded (a ∷ b ∷ []) (octet ∷ []) (octet, [], is 0, refl, refl)

-- the first two of a text and what follows them
pub two_ahead : (rest : List ℕ) (d : ℕ) → 2 ≤ length rest → rest ≡ (get_or rest 0 d ∷ get_or rest 1 d ∷ []) ++ take (length rest - 2) (drop 2 rest)
two_ahead [] d two = absurd (omega arith)
two_ahead (a ∷ []) d two = absurd (omega arith)
two_ahead (a ∷ b ∷ more) d two = let few : length (a ∷ b ∷ more) - 2 ≡ length more = omega arith in
    ap (λ l. a ∷ b ∷ l) (sym (take_all (length (a ∷ b ∷ more) - 2) more (omega arith)))

pair_unread : (a b : ℕ) → ((at octet : ℕ) → pair_value a b at ≢ Ok octet) → (front : List ℕ) → decode_of (a ∷ b ∷ []) ≢ Ok front
pair_unread a b never front is = let all = read (a ∷ b ∷ []) front is in never 0 all.0 all.2

front_read : (s t whole : List ℕ) → length s % 2 ≡ 0 → IsRead (s ++ t) whole → (front : List ℕ) × IsRead s front
front_read [] t whole even all = ([], refl)
front_read (a ∷ []) t whole even all = absurd (omega arith)
front_read (a ∷ b ∷ rest) t whole even all = let more = front_read rest t all.1 (omega arith) all.4 in (all.0 ∷ more.0, (all.0, more.0, all.2, refl, more.1))

pub front_unread : (text rest part after old now : List ℕ) → rest ≡ part ++ after → length part % 2 ≡ 0 → HaveRead text rest old now → ((front : List ℕ) → decode_of part ≢ Ok front) → (front : List ℕ) → decode_of text ≢ Ok front
front_unread text rest part after old now cut even have never =
    rest_unread text rest old now have (λ front is.
    let all = front_read part after front even (read (part ++ after) front (ap decode_of (sym cut) ∙ is)) in
    never all.0 (decoded part all.0 all.1))

-- so if a part of twice as many digits as said isn't decoded, or the last one isn't
pub part_unread : (text rest part after old now : List ℕ) (n : ℕ) → rest ≡ part ++ after → (length part ≡ 2 * n) ⊎ (after ≡ []) → HaveRead text rest old now → ((front : List ℕ) → decode_of part ≢ Ok front) → (front : List ℕ) → decode_of text ≢ Ok front
part_unread text rest part after old now n cut (inl whole) have never = front_unread text rest part after old now cut (omega (arith, whole)) have never
part_unread text rest part after old now n cut (inr end) have never =
    let same : rest ≡ part = cut ∙ ap (λ l. part ++ l) end ∙ append-nil part in
    rest_unread text rest old now have (λ front is. never front (ap decode_of (sym same) ∙ is))

pub first_unread : (text rest old now : List ℕ) (d : ℕ) → 2 ≤ length rest → HaveRead text rest old now → ((at octet : ℕ) → pair_value (get_or rest 0 d) (get_or rest 1 d) at ≢ Ok octet) → (front : List ℕ) → decode_of text ≢ Ok front
first_unread text rest old now d two have never = front_unread text rest (get_or rest 0 d ∷ get_or rest 1 d ∷ []) _ old now (two_ahead rest d two) refl have (pair_unread _ _ never)

pub one_more : (text rest old now new : List ℕ) (d octet : ℕ) → 2 ≤ length rest → HaveRead text rest old now → ((at : ℕ) → pair_value (get_or rest 0 d) (get_or rest 1 d) at ≡ Ok octet) → new ≡ now ++ octet ∷ [] → HaveRead text (take (length rest - 2) (drop 2 rest)) old new
one_more text rest old now new d octet two have is grown =
    more_read text rest (get_or rest 0 d ∷ get_or rest 1 d ∷ []) _ old now new (two_ahead rest d two) have (record {
      value = octet ∷ [];
      stated = pair_both (get_or rest 0 d) (get_or rest 1 d) octet is;
      written = grown;
    })

-- a single digit is left
pub odd_unread : (text rest old now : List ℕ) → length rest ≡ 1 → HaveRead text rest old now → (front : List ℕ) → decode_of text ≢ Ok front
odd_unread text rest old now one have = rest_unread text rest old now have (λ front is. let even = (decode_of-ok rest front is).0 in absurd (omega (arith, one)))

encode_append : (t front rest : List ℕ) → encode_with t (front ++ rest) ≡ encode_with t front ++ encode_with t rest
unfolding encode_with
encode_append t [] rest = refl
encode_append t (c ∷ front) rest = cc (encode_append t front rest)

-- a table of digits by which octets are written that are read again
abbrev pub AreDigitsOf : List ℕ → Type 0
AreDigitsOf t = (octets : List ℕ) → IsBytes octets → decode_of (encode_with t octets) ≡ Ok octets

-- the first digits of a text that is written by one table
written_read : (t text copied front after : List ℕ) → AreDigitsOf t → copied ≡ text → copied ++ after ≡ encode_with t front → IsBytes front → length text % 2 ≡ 0 → decode_of text ≡ Ok (take (length text / 2) front)
written_read t text copied front after again same is bytes even =
    let n : ℕ = length text / 2 in
    let parts : text ++ after ≡ encode_with t front = ap (λ l. l ++ after) (sym same) ∙ is in
    let whole : encode_with t front ≡ encode_with t (take n front) ++ encode_with t (drop n front) = ap (encode_with t) (sym (take-append-drop n front)) ∙ encode_append t (take n front) (drop n front) in
    let twice = length-encode_with t front in
    let room : n ≤ length front = omega (arith, ap length parts, length-append text after, twice) in
    let count : length (encode_with t (take n front)) ≡ length text = let twice = length-encode_with t (take n front) in omega (arith, length-take-le n front room, twice) in
    let front_is : text ≡ encode_with t (take n front) =
    sym (take-append_seam text after)
    ∙ ap (take (length text)) (parts ∙ whole)
    ∙ ap (λ k. take k (encode_with t (take n front) ++ encode_with t (drop n front))) (sym count)
    ∙ take-append_seam (encode_with t (take n front)) (encode_with t (drop n front)) in
    ap decode_of front_is ∙ again (take n front) (λ i. (taken_fit n front (λ k. record { fits = bytes k }) i).fits)

-- the first digits of a text in one letter case
pub few_read : (text copied front after : List ℕ) → copied ≡ text → IsBytes front × ((copied ++ after ≡ encode_lower front) ⊎ (copied ++ after ≡ encode_upper front)) → length text % 2 ≡ 0 → decode_of text ≡ Ok (take (length text / 2) front)
few_read text copied front after same (bytes, inl lower) even = written_read lower_digits text copied front after decode_of-encode_lower same lower bytes even
few_read text copied front after same (bytes, inr upper) even = written_read upper_digits text copied front after decode_of-encode_upper same upper bytes even

-- what is left out of what was appended is what was there before
pub grown_more : (text rest old now new : List ℕ) → HaveRead text rest old now → (more : List ℕ) × (new ≡ now ++ more) → (more : List ℕ) × (new ≡ old ++ more)
grown_more text rest old now new have (more, is) =
    (have.grows.value ++ more, is ∙ ap (λ l. l ++ more) have.grows.written ∙ append_assoc old have.grows.value more)

pub grown_so_far : (text rest old now : List ℕ) → HaveRead text rest old now → (more : List ℕ) × (now ≡ old ++ more)
grown_so_far text rest old now have = (have.grows.value, have.grows.written)

-- whether nothing is left says whether all is read, where less than a pair is left
pub read_to_end : {E : Type 0} (text rest old now : List ℕ) (ends : Bool) → ends ≡ (length rest == 0) → HaveRead text rest old now → ◌≡◌ {A = Result Bool E} (Ok ends) (Ok true) → Appends (λ front. decode_of text ≡ Ok front) (λ front. front) old now
read_to_end text [] old now ends is have all = all_read text [] old now refl have
read_to_end text (a ∷ rest) old now ends is have all = absurd (omega (arith, eqb-true _ _ (sym is ∙ ap (λ r. result_unwrap_or r false) all)))

pub read_to_odd : {E : Type 0} (text rest old now : List ℕ) (ends : Bool) → length rest < 2 → ends ≡ (length rest == 0) → HaveRead text rest old now → ◌≡◌ {A = Result Bool E} (Ok ends) (Ok false) → (front : List ℕ) → decode_of text ≢ Ok front
read_to_odd text [] old now ends few is have odd = absurd (eqb-false 0 0 (sym is ∙ ap (λ r. result_unwrap_or r true) odd) refl)
read_to_odd text (a ∷ []) old now ends few is have odd = odd_unread text (a ∷ []) old now refl have
read_to_odd text (a ∷ b ∷ rest) old now ends few is have odd = absurd (omega (arith, few))

-- what was there before is the front of what is there
pub cut_back : (old now cut : List ℕ) (n : ℕ) → n ≡ length old → (more : List ℕ) × (now ≡ old ++ more) → cut ≡ take n now → cut ≡ old
cut_back old now cut n before (more, grown) is = is ∙ ap (λ k. take k now) before ∙ ap (take (length old)) grown ∙ take-append_seam old more

pub cut_parts : (rest part after : List ℕ) (k : ℕ) → part ≡ take k rest → after ≡ drop k rest → rest ≡ part ++ after
cut_parts rest part after k front back = rw (front, back) (sym (take-append-drop k rest))

pub cut_whole : (rest part after : List ℕ) (n k : ℕ) → k ≡ min (2 * n) (length rest) → part ≡ take k rest → after ≡ drop k rest → (length part ≡ 2 * n) ⊎ (after ≡ [])
cut_whole rest part after n k least front back = elim (cases_lt (length rest) (2 * n)) [
  | inl few ↦ inr (back ∙ drop_all k rest (omega (arith, least)))
  | inr many ↦ inl (ap length front ∙ length-take-le k rest (omega (arith, least)) ∙ omega (arith, least))
]
