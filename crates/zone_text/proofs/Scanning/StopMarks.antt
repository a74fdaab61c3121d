-- How far comments and bare items go, octet by octet and as the bits of 64 octets tell it.
use Rattle.std.proofs.lemmas.List.Elements.{All-from_recursion}
use Rattle.std.proofs.lemmas.List.Sums.{prefix_len-le-length}
use Rattle.std.proofs.Common.{Fits, ap₂, bit_and, bit_or, eqb, w8, ◌/◌, ◌%◌, not}
use Rattle.std.proofs.lemmas.Bool.{agree_below}
use Rattle.std.proofs.lemmas.Simd.{chunk-fits, map-map, mask_l-mod, swz_l, zip2_of_maps, zip2_splat}
use Rattle.std.specs.Int.Count.{count_trailing_zeros}
use Rattle.std.specs.List.{prefix_len}
use Rattle.std.specs.Prelude.{not}
use Rattle.std.specs.Simd.Lanes.{mask_l}
use lib.Lanes.{Each1, top, zip2}
use lib.ListN.{replicate}
use Rattle.zone_text.proofs.Common.{common_steps, All, AllByRecursion, Bool, EndsAt, List, [], agree_below_at, ap, arith, cond, drop, drop-drop, false, get_or, length, length-drop, length-map, length-take, map, min, ◌||◌, refl, stops_bare, sym, take, true, ℕ, ◌+◌, ◌-◌, ◌<◌, ◌==◌, ◌^◌, ◌∙◌, ◌∷◌, ◌≡◌, ◌≢◌, ◌≤◌, add-one, before_line_feed, drop-cons, drop_of_length-le}
use Rattle.zone_name.proofs.InOctets.LookedUp.{Repeats, looked_up}
use Rattle.zone_name.proofs.InOctets.Runs.{after_bits, first_inside, none_inside, prefix_step}
use Rattle.zone_text.specs.Machine.Stops.{Tells}
use Rattle.zone_text.specs.declared.stops.Stops.{Stops}
use Rattle.std.proofs.lemmas.List.{map-id}

-- ---- how far was looked

pub first_at : (text : List ℕ) (i : ℕ) → i < length text → drop i text ≡ get_or text i 0 ∷ drop (i + 1) text
first_at text i less = rw (add-one, drop-cons text i 0) refl

pub nothing_left : (text : List ℕ) (i : ℕ) → length text ≤ i → drop i text ≡ []
nothing_left text i less = drop_of_length-le text less

abbrev pub same_mask : ℕ → ℕ → ℕ
same_mask a b = cond (eqb a b) (2 ^ 8 - 1) 0

-- how many octets stand before the first that passes
abbrev pub len_to : (ℕ → Bool) → List ℕ → ℕ
len_to p xs = prefix_len (λ c. not (p c)) xs

abbrev pub is_either : ℕ → ℕ → ℕ → Bool
is_either one other c = c == one || c == other

pub before_len : (xs : List ℕ) → len_to (is_either 10 10) xs ≡ length (before_line_feed xs)
unfolding before_line_feed
before_len [] = refl
before_len (c ∷ xs) = grind (arith, before_len xs)

-- some of the octets after a place, by the bits that tell which of them pass
pub none_past : (p : ℕ → Bool) (text : List ℕ) (i k n bits : ℕ) → k ≤ length text - i → bits ≡ mask_l (map p (take k (drop i text))) → bits ≡ 0 → n ≡ i + len_to p (drop i text) → n ≡ i + k + len_to p (drop (i + k) text)
none_past p text i k n bits room are none so_far =
    let left : length (drop i text) ≡ length text - i = length-drop i text in
    let next : len_to p (drop i text) ≡ k + len_to p (drop k (drop i text)) = none_inside p k (drop i text) (omega arith) (sym are ∙ none) in
    let after : len_to p (drop k (drop i text)) ≡ len_to p (drop (i + k) text) = ap (len_to p) (drop-drop k i text) in
    omega (arith, so_far, next, after)

pub first_seen : (p : ℕ → Bool) (text : List ℕ) (i k n bits : ℕ) → k ≤ 64 → k ≤ length text - i → bits ≡ mask_l (map p (take k (drop i text))) → bits ≢ 0 → n ≡ i + len_to p (drop i text) → (i + count_trailing_zeros 64 bits ≡ n) × (i + count_trailing_zeros 64 bits ≤ length text)
first_seen p text i k n bits few room are some so_far = grind (arith, length-drop, first_inside, prefix_len-le-length)

either_bits : (a b : Bool) → top 7 (bit_or (cond a (2 ^ 8 - 1) 0) (cond b (2 ^ 8 - 1) 0)) ≡ (a || b)
either_bits true true = refl
either_bits true false = refl
either_bits false true = refl
either_bits false false = refl

map_same : (p q : ℕ → Bool) (v : List ℕ) → ((x : ℕ) → p x ≡ q x) → map p v ≡ map q v
map_same p q [] same = refl
map_same p q (x ∷ v) same = ap₂ (λ b bs. b ∷ bs) (same x) (map_same p q v same)

-- the bits of lanes that are one octet or the other
pub either_mask : (n one other : ℕ) (v : List ℕ) → n ≤ 64 → length v ≡ n → mask_l (map (top 7) (zip2 bit_or (zip2 same_mask v (replicate n one)) (zip2 same_mask v (replicate n other)))) % 2 ^ 64 ≡ mask_l (map (is_either one other) v)
either_mask n one other v few long =
    let f : ℕ → ℕ = λ x. bit_or (same_mask x one) (same_mask x other) in
    ap (λ l. mask_l (map (top 7) l) % 2 ^ 64) (zip2_of_maps bit_or (λ x. same_mask x one) (λ x. same_mask x other) v (zip2_splat same_mask v n one long) (zip2_splat same_mask v n other long))
    ∙ ap (λ l. mask_l l % 2 ^ 64) (map-map (top 7) f v)
    ∙ mask_l-mod (map (λ x. top 7 (f x)) v) 64 (omega (arith, length-map v (λ x. top 7 (f x)), long, few))
    ∙ ap mask_l (map_same (λ x. top 7 (f x)) (is_either one other) v (λ x. either_bits (x == one) (x == other)))

abbrev pub goes_on : ℕ → Bool
goes_on c = not (stops_bare c)

prefix_parts : (p : ℕ → Bool) (xs : List ℕ) → AllByRecursion (λ c. p c ≡ false) (take (len_to p xs) xs) × EndsAt p (drop (len_to p xs) xs)
prefix_parts p [] = (tt, tt)
prefix_parts p (x ∷ xs) = grind (arith, prefix_step p x xs, prefix_parts p xs)

-- the octets before the first stop, and those from it on
pub stops_at_len : (p : ℕ → Bool) (xs : List ℕ) (n : ℕ) → n ≡ len_to p xs → (n ≤ length xs) × All (λ c. p c ≡ false) (take n xs) × EndsAt p (drop n xs)
stops_at_len p xs n len = rw len (prefix_len-le-length (λ c. not (p c)) xs, All-from_recursion _ _ (prefix_parts p xs).0, (prefix_parts p xs).1)

pub prefix_stops : (xs : List ℕ) (n : ℕ) → n ≡ prefix_len goes_on xs → (n ≤ length xs) × All (λ c. stops_bare c ≡ false) (take n xs) × EndsAt stops_bare (drop n xs)
prefix_stops = stops_at_len stops_bare

-- ---- what the bits tell

pub tells_after : (stops : Stops) (octets : List ℕ) (n k : ℕ) (bits : ℕ) → bits ≡ mask_l (map stops_bare (take n octets)) → n ≤ 64 → n ≤ length octets → k < n → stops.bits ≡ bits / 2 ^ k / 2 ^ 1 → stops.unseen ≡ length octets - n → Tells stops (drop (k + 1) octets)
tells_after stops octets n k bits of few within less is unseen = grind (arith, common_steps, length-drop, after_bits)

-- ---- the first stop

-- the lowest of the bits that are known
pub known_len : (stops : Stops) (octets : List ℕ) → Tells stops octets → stops.bits ≢ 0 → count_trailing_zeros 64 stops.bits ≡ prefix_len goes_on octets
known_len stops octets tells some = grind (arith, common_steps, first_inside)

pub known_rest : (stops new : Stops) (octets : List ℕ) (k : ℕ) → Tells stops octets → stops.bits ≢ 0 → k ≡ prefix_len goes_on octets → new.bits ≡ stops.bits / 2 ^ k / 2 ^ 1 → new.unseen ≡ stops.unseen → Tells new (drop (k + 1) octets)
known_rest stops new octets k tells some len is unseen = grind (arith, tells_after new octets (length octets - stops.unseen) k stops.bits tells.bits, first_inside stops_bare)

-- where no bit is set, the first stop is among the unseen octets
pub unknown_len : (stops : Stops) (octets ahead : List ℕ) (seen more : ℕ) → Tells stops octets → stops.bits ≡ 0 → seen ≡ length octets - stops.unseen → ahead ≡ drop seen octets → more ≡ prefix_len goes_on ahead → seen + more ≡ prefix_len goes_on octets
unknown_len stops octets ahead seen more tells none is back len = grind (arith, none_inside stops_bare seen octets)

pub unknown_rest : (new : Stops) (octets ahead : List ℕ) (seen more : ℕ) → ahead ≡ drop seen octets → Tells new (drop (more + 1) ahead) → Tells new (drop (seen + more + 1) octets)
unknown_rest new octets ahead seen more back tells = grind (arith, common_steps, drop-drop)

-- ---- 64 octets beside each other

-- a lane that is the octet of the table with its low bits, or `)`
abbrev pub stop_lane : List ℕ → ℕ → ℕ
stop_lane s x = bit_or (same_mask x (get_or s (bit_and x 15) 0)) (same_mask x 41)

map_agrees : (p q : ℕ → Bool) (v : List ℕ) → agree_below p q 256 ≡ true → Each1 (Fits w8) v → map p v ≡ map q v
map_agrees p q [] all fits = refl
map_agrees p q (x ∷ v) all fits = ap₂ (λ b bs. b ∷ bs) (agree_below_at p q 256 x all fits.0.fits) (map_agrees p q v all fits.1)

pub found_bits_are : (p : ℕ → Bool) (octets t s alike z : List ℕ) → 64 ≤ length octets → ((k : ℕ) → Fits w8 (get_or octets k 0)) → Repeats 64 t s → alike ≡ swz_l w8 16 t 0 (zip2 bit_and (take 64 octets) (replicate 64 15)) → z ≡ zip2 bit_or (zip2 same_mask (take 64 octets) alike) (zip2 same_mask (take 64 octets) (replicate 64 41)) → agree_below (λ x. top 7 (stop_lane s x)) p 256 ≡ true → mask_l (map (top 7) z) % 2 ^ 64 ≡ mask_l (map p (take 64 octets))
found_bits_are p octets t s alike z room fits copies look lanes agree =
    let v = take 64 octets in
    let long : length v ≡ 64 = omega (arith, length-take 64 octets) in
    let read : alike ≡ map (λ x. get_or s (bit_and x 15) 0) v = look ∙ looked_up 64 t s v _ long (zip2_splat bit_and v 64 15 long) copies in
    let same : zip2 same_mask v alike ≡ map (λ x. same_mask x (get_or s (bit_and x 15) 0)) v = zip2_of_maps same_mask (λ x. x) (λ x. get_or s (bit_and x 15) 0) v (sym (map-id v)) read in
    let closing : zip2 same_mask v (replicate 64 41) ≡ map (λ x. same_mask x 41) v = zip2_splat same_mask v 64 41 long in
    let all : z ≡ map (stop_lane s) v = lanes ∙ zip2_of_maps bit_or (λ x. same_mask x (get_or s (bit_and x 15) 0)) (λ x. same_mask x 41) v same closing in
    ap (λ l. mask_l (map (top 7) l) % 2 ^ 64) all
    ∙ ap (λ l. mask_l l % 2 ^ 64) (map-map (top 7) (stop_lane s) v)
    ∙ mask_l-mod (map (λ x. top 7 (stop_lane s x)) v) 64 (omega (arith, length-map v (λ x. top 7 (stop_lane s x)), long))
    ∙ ap mask_l (map_agrees (λ x. top 7 (stop_lane s x)) p v agree (chunk-fits w8 0 64 octets fits))

-- the octets before one go on with the item
abbrev pub GoesTo : List ℕ → ℕ → Type 0
GoesTo octets seen = prefix_len goes_on octets ≡ seen + prefix_len goes_on (drop seen octets)

pub goes_on_64 : (octets ahead : List ℕ) (seen bits : ℕ) → seen ≤ length octets → 64 ≤ length octets - seen → ahead ≡ drop seen octets → bits ≡ mask_l (map stops_bare (take 64 ahead)) → bits ≡ 0 → GoesTo octets seen → GoesTo octets (seen + 64)
goes_on_64 octets ahead seen bits within room back are none so_far =
    let left : length (drop seen octets) ≡ length octets - seen = length-drop seen octets in
    let next : prefix_len goes_on (drop seen octets) ≡ 64 + prefix_len goes_on (drop 64 (drop seen octets)) = none_inside stops_bare 64 (drop seen octets) (omega arith) (sym (are ∙ ap (λ t. mask_l (map stops_bare (take 64 t))) back) ∙ none) in
    let after : prefix_len goes_on (drop 64 (drop seen octets)) ≡ prefix_len goes_on (drop (seen + 64) octets) = ap (prefix_len goes_on) (drop-drop 64 seen octets) in
    omega (arith, so_far, next, after)

pub stop_found : (stops : Stops) (octets ahead : List ℕ) (seen bits more : ℕ) → 64 ≤ length ahead → ahead ≡ drop seen octets → bits ≡ mask_l (map stops_bare (take 64 ahead)) → bits ≢ 0 → more ≡ count_trailing_zeros 64 bits → stops.bits ≡ bits / 2 ^ more / 2 ^ 1 → stops.unseen ≡ length ahead - 64 → GoesTo octets seen → (seen + more ≡ prefix_len goes_on octets) × Tells stops (drop (seen + more + 1) octets)
stop_found stops octets ahead seen bits more room back are some len is unseen so_far = grind (arith, first_inside stops_bare 64 ahead room, unknown_rest stops octets ahead seen more back, tells_after stops ahead 64 more bits are)

pub last_found : (stops : Stops) (octets rest : List ℕ) (seen more : ℕ) → rest ≡ drop seen octets → more ≤ length rest → more ≡ prefix_len goes_on rest → stops.bits ≡ 0 → stops.unseen ≡ length rest - min (length rest) (more + 1) → GoesTo octets seen → (seen + more ≡ prefix_len goes_on octets) × Tells stops (drop (seen + more + 1) octets)
last_found stops octets rest seen more back within len none unseen so_far = grind (arith, length-drop (more + 1) rest, unknown_rest stops octets rest seen more back, common_steps)

pub ruleset stop_lengths = (goes_on, known_len, prefix_len-le-length, unknown_len)
