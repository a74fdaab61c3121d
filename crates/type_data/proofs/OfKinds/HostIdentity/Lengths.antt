-- A host's identity: its public key after its length, and both lengths put first.
use Rattle.type_data.proofs.Common.{AppendsStated, DataFails, Labels, List, NothingStated, RawItem, StateParts, StatesBare, StatesData, TooLong, TouchingItem, WordsFault, [], ap, append-nil, append_assoc, ap₂, arith, at_field, drop, items_left, length, length-append, refl, subst, sym, take, to_be_bytes, too_long, w16, ℕ, ◌+◌, ◌++◌, ◌-◌, ◌<◌, ◌∙◌, ◌∷◌, ◌≡◌}
use borrow.Rule.Slice.PartMut.{post_of}
use Rattle.std.proofs.lemmas.List.{drop_at, take_at}
use Rattle.zone_rdata.specs.Spelling.{bare, quoted}
use Rattle.type_data.proofs.OfKinds.Base64.Texts.{one_base64}
use Rattle.type_data.specs.Data.{joined, lengths_first}
use Rattle.type_data.specs.FirstItem.{FirstStates}
use Rattle.type_data.specs.Kinds.Base64.{IsBase64}
use Rattle.type_data.specs.Kinds.HostIdentity.{FailsPublicKey, StatesPublicKey, long_key, no_key}
use Rattle.type_data.specs.Kinds.HostIdentity.Machine.{PutsLengthsFirst}
use Rattle.type_data.specs.Table.{hip_fields}
use Rattle.type_data.specs.declared.fault.WordsFault.TheVariants.{NoBase64}
use Rattle.type_data.specs.declared.field.BareKind.TheVariants.{HostIdentityTag, PublicKey, U8}

-- ---- a key

pub key_once : (text a b : List ℕ) → StatesPublicKey text a → StatesPublicKey text b → a ≡ b
key_once text a b x y = x.written ∙ ap (λ key. to_be_bytes w16 (length key) ++ key) (one_base64 text x.key y.key x.stands y.stands) ∙ sym y.written

pub key_or_fault : (text octets : List ℕ) (fault : WordsFault) → StatesPublicKey text octets → FailsPublicKey text fault → ⊥
key_or_fault text octets _ x (no_key none) = none x.key x.stands
key_or_fault text octets _ x (long_key key stands many) = let short = x.short in omega (arith, ap length (one_base64 text key x.key stands x.stands))

pub key_fault_once : (text : List ℕ) (a b : WordsFault) → FailsPublicKey text a → FailsPublicKey text b → a ≡ b
key_fault_once text _ _ (no_key none) (no_key none_too) = refl
key_fault_once text _ _ (no_key none) (long_key key stands many) = absurd (none key stands)
key_fault_once text _ _ (long_key key stands many) (no_key none) = absurd (none key stands)
key_fault_once text _ _ (long_key key stands many) (long_key other stands_too many_too) = refl

pub key_fails : (text : List ℕ) (fault : WordsFault) → NothingStated NoBase64 (IsBase64 text) fault → FailsPublicKey text fault
key_fails text fault nothing = rw nothing.0 (no_key nothing.1)

-- a key that was read into a list of its own
pub key_too_long : (text old key : List ℕ) → old ≡ [] → 65535 < length key → AppendsStated (IsBase64 text) old key → FailsPublicKey text TooLong
key_too_long text old key empty many more = long_key key (subst (IsBase64 text) (sym (more.written ∙ ap (λ o. o ++ more.octets) empty)) more.stated) many

-- ---- the parts of data

pub record HipParts (parts : List (List ℕ)) : Type 0 where
  pub algorithm : ℕ
  pub tag : List ℕ
  pub high : ℕ
  pub low : ℕ
  pub key : List ℕ
  pub servers : List ℕ
  pub are : parts ≡ (algorithm ∷ []) ∷ (length tag ∷ tag) ∷ (high ∷ low ∷ key) ∷ servers ∷ []

record OneOctet (octets : List ℕ) : Type 0 where
  octet : ℕ
  is : octets ≡ octet ∷ []

one_octet : (origin : Labels) (items : List RawItem) (octets : List ℕ) → FirstStates (StatesBare origin U8) items octets → OneOctet octets
one_octet origin [] octets p = absurd p
one_octet origin (quoted text ∷ items) octets p = absurd p
one_octet origin (bare text ∷ items) octets p = record { octet = _; is = p.value }

record AfterOne (octets : List ℕ) : Type 0 where
  value : List ℕ
  is : octets ≡ length value ∷ value

after_one : (origin : Labels) (items : List RawItem) (octets : List ℕ) → FirstStates (StatesBare origin HostIdentityTag) items octets → AfterOne octets
after_one origin [] octets p = absurd p
after_one origin (quoted text ∷ items) octets p = absurd p
after_one origin (bare text ∷ items) octets p = record { value = p.value; is = p.written }

pub record AfterTwo (octets : List ℕ) : Type 0 where
  pub high : ℕ
  pub low : ℕ
  pub value : List ℕ
  pub is : octets ≡ high ∷ low ∷ value

pub key_after : (text octets : List ℕ) → StatesPublicKey text octets → AfterTwo octets
key_after text octets p = record { high = _; low = _; value = p.key; is = p.written }

after_two : (origin : Labels) (items : List RawItem) (octets : List ℕ) → FirstStates (StatesBare origin PublicKey) items octets → AfterTwo octets
after_two origin [] octets p = absurd p
after_two origin (quoted text ∷ items) octets p = absurd p
after_two origin (bare text ∷ items) octets p = key_after text octets p

pub hip_parts : (origin : Labels) (items : List TouchingItem) (parts : List (List ℕ)) → StateParts origin hip_fields items parts → HipParts parts
hip_parts origin items [] p = absurd p
hip_parts origin items (a ∷ []) p = absurd p.1
hip_parts origin items (a ∷ t ∷ []) p = absurd p.1.1
hip_parts origin items (a ∷ t ∷ k ∷ []) p = absurd p.1.1.1
hip_parts origin items (a ∷ t ∷ k ∷ s ∷ more ∷ parts) p = absurd p.1.1.1.1
hip_parts origin items (a ∷ t ∷ k ∷ s ∷ []) p =
    let first = one_octet origin _ a p.0 in
    let second = after_one origin _ t p.1.0 in
    let third = after_two origin _ k p.1.1.0 in
    record { algorithm = first.octet; tag = second.value; high = third.high; low = third.low; key = third.value; servers = s; are = cc (first.is, second.is, third.is) }

-- ---- both lengths put first

pub in_words : (parts : List (List ℕ)) (p : HipParts parts) → joined parts ≡ p.algorithm ∷ length p.tag ∷ (p.tag ++ p.high ∷ p.low ∷ (p.key ++ p.servers))
in_words parts p = ap joined p.are ∙ ap (λ s. p.algorithm ∷ length p.tag ∷ (p.tag ++ p.high ∷ p.low ∷ (p.key ++ s))) (append-nil p.servers)

pub in_octets : (parts : List (List ℕ)) (p : HipParts parts) → lengths_first parts ≡ length p.tag ∷ p.algorithm ∷ p.high ∷ p.low ∷ (p.tag ++ (p.key ++ p.servers))
in_octets parts p = ap lengths_first p.are ∙ append_assoc (length p.tag ∷ p.algorithm ∷ p.high ∷ p.low ∷ p.tag) p.key p.servers

-- the octets are as many
same_length : (algorithm : ℕ) (tag : List ℕ) (high low : ℕ) (rest : List ℕ) → length (length tag ∷ algorithm ∷ high ∷ low ∷ (tag ++ rest)) ≡ length (algorithm ∷ length tag ∷ (tag ++ high ∷ low ∷ rest))
same_length algorithm tag high low rest = omega (arith, length-append tag rest, length-append tag (high ∷ low ∷ rest))

same_count : (parts : List (List ℕ)) → HipParts parts → length (lengths_first parts) ≡ length (joined parts)
same_count parts p = ap length (in_octets parts p) ∙ same_length p.algorithm p.tag p.high p.low (p.key ++ p.servers) ∙ sym (ap length (in_words parts p))

pub states_in_order : (origin : Labels) (items : List TouchingItem) (old new : List ℕ) → StatesData origin hip_fields joined items old → PutsLengthsFirst old new → StatesData origin hip_fields lengths_first items new
states_in_order origin items old new states puts =
    let p = hip_parts origin items states.parts states.each in
    let put = puts p.algorithm p.tag p.high p.low (p.key ++ p.servers) (states.value ∙ in_words states.parts p) in
    let ordered : new ≡ lengths_first states.parts = put ∙ sym (in_octets states.parts p) in
    let few = states.short in
    record {
      parts = states.parts;
      each = states.each;
      whole = states.whole;
      value = ordered;
      short = omega (arith, few, ap length ordered, ap length states.value, same_count states.parts p);
    }

pub fails_in_order : (origin : Labels) (items : List TouchingItem) (name : List ℕ) (fault : WordsFault) → DataFails origin hip_fields joined items name fault → DataFails origin hip_fields lengths_first items name fault
fails_in_order origin items name fault (at_field _ bad) = at_field fault bad
fails_in_order origin items name _ (items_left parts each left last) = items_left parts each left last
fails_in_order origin items name _ (too_long parts each whole many last) = too_long parts each whole (omega (arith, many, same_count parts (hip_parts origin items parts each))) last

-- ---- as they are put first

-- the list after the lengths and the algorithm: the tag, the key's length and the rest
body_taken : (tag : List ℕ) (high low : ℕ) (rest : List ℕ) (k : ℕ) → k ≡ length tag + 2 → take k (tag ++ high ∷ low ∷ rest) ≡ tag ++ high ∷ low ∷ []
body_taken tag high low rest k is =
    ap (take k) (sym (append_assoc tag (high ∷ low ∷ []) rest)) ∙ take_at (tag ++ high ∷ low ∷ []) rest k (length-append tag (high ∷ low ∷ []) ∙ sym is)

body_left : (tag : List ℕ) (high low : ℕ) (rest : List ℕ) (k : ℕ) → k ≡ length tag + 2 → drop k (tag ++ high ∷ low ∷ rest) ≡ rest
body_left tag high low rest k is =
    ap (drop k) (sym (append_assoc tag (high ∷ low ∷ []) rest)) ∙ drop_at (tag ++ high ∷ low ∷ []) rest k (length-append tag (high ∷ low ∷ []) ∙ sym is)

-- the last two elements come first
two_first : (tag : List ℕ) (high low : ℕ) (n : ℕ) → n ≡ length tag → drop n (tag ++ high ∷ low ∷ []) ++ take n (tag ++ high ∷ low ∷ []) ≡ high ∷ low ∷ tag
two_first tag high low n is = ap₂ (λ a b. a ++ b) (drop_at tag (high ∷ low ∷ []) n (sym is)) (take_at tag (high ∷ low ∷ []) n (sym is))

turned : (body tag : List ℕ) (high low : ℕ) → body ≡ tag ++ high ∷ low ∷ [] → drop (length body - 2) body ++ take (length body - 2) body ≡ high ∷ low ∷ tag
turned body tag high low is =
    ap (λ b. drop (length b - 2) b ++ take (length b - 2) b) is
    ∙ two_first tag high low (length (tag ++ high ∷ low ∷ []) - 2) (omega (arith, length-append tag (high ∷ low ∷ [])))

-- the turned part within the octets
put_within : (swapped part : List ℕ) (k algorithm : ℕ) (tag : List ℕ) (high low : ℕ) (rest : List ℕ) → swapped ≡ length tag ∷ algorithm ∷ tag ++ high ∷ low ∷ rest → k ≡ length tag + 2 → part ≡ high ∷ low ∷ tag → take 2 swapped ++ (part ++ post_of 2 k swapped) ≡ length tag ∷ algorithm ∷ high ∷ low ∷ tag ++ rest
put_within swapped part k algorithm tag high low rest is k_is part_is =
    let front : take 2 swapped ≡ length tag ∷ algorithm ∷ [] = ap (take 2) is in
    let back : post_of 2 k swapped ≡ rest = ap (post_of 2 k) is ∙ body_left tag high low rest k k_is in
    ap₂ (λ f b. f ++ (part ++ b)) front back ∙ ap (λ p. length tag ∷ algorithm ∷ (p ++ rest)) part_is

pub put_first : (items swapped part : List ℕ) (len k n algorithm : ℕ) (tag : List ℕ) (high low : ℕ) (rest : List ℕ) → items ≡ length tag ∷ algorithm ∷ tag ++ high ∷ low ∷ rest → swapped ≡ items → n ≡ length tag → k ≡ n + 2 → part ≡ drop (length (take k (drop 2 swapped)) - 2) (take k (drop 2 swapped)) ++ take (length (take k (drop 2 swapped)) - 2) (take k (drop 2 swapped)) → len ≡ length items → take len ((take 2 swapped ++ (part ++ post_of 2 k swapped)) ++ drop (length (take 2 swapped ++ (part ++ post_of 2 k swapped))) items) ≡ length tag ∷ algorithm ∷ high ∷ low ∷ tag ++ rest
put_first items swapped part len k n algorithm tag high low rest is same n_is k_is part_is len_is =
    let there : swapped ≡ length tag ∷ algorithm ∷ tag ++ high ∷ low ∷ rest = same ∙ is in
    let few : k ≡ length tag + 2 = omega (arith, n_is, k_is) in
    let body : take k (drop 2 swapped) ≡ tag ++ high ∷ low ∷ [] = ap (λ d. take k (drop 2 d)) there ∙ body_taken tag high low rest k few in
    let put = put_within swapped part k algorithm tag high low rest there few (part_is ∙ turned (take k (drop 2 swapped)) tag high low body) in
    let whole : length (take 2 swapped ++ (part ++ post_of 2 k swapped)) ≡ len = ap length put ∙ omega (arith, len_is, ap length is, length-append tag rest, length-append tag (high ∷ low ∷ rest)) in
    take_at (take 2 swapped ++ (part ++ post_of 2 k swapped)) (drop (length (take 2 swapped ++ (part ++ post_of 2 k swapped))) items) len whole ∙ put
