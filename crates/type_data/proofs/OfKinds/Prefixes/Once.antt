-- A text is one prefix, and a prefix has one list of octets.
use Rattle.type_data.proofs.Common.{AppendsStated, Bool, DataItem, IsCapped, IsCutFirst, IsCutLast, IsDecimal, IsMissing, List, NothingIs, RawItem, [], ap, append-nil, append_assoc, ap₂, arith, cases_lt, decimal_value, drop, drop_all, drop_more, false, get_or, get_or-append_right, get_or-drop, get_or-take, get_or_append_left, get_or_default, groups_unique, inl, inr, length, length-drop, length-replicate, length-take, map, numbers_unique, raw_item, refl, replicate, subst, suc, sym, take, take-append-drop, to_be_bytes, true, w16, zero, ℕ, ◌*◌, ◌++◌, ◌+◌, ◌-◌, ◌<◌, ◌∙◌, ◌∷◌, ◌≡◌, ◌≢◌, ◌≤◌}
use Rattle.std.proofs.lemmas.List.{same_lists}
use Rattle.zone_name.specs.Spelling.{is_digit}
use Rattle.zone_rdata.specs.Address.{IsIpv6Address}
use Rattle.zone_rdata.specs.Item.{bare, quoted}
use Rattle.type_data.proofs.Cuts.{digits_lack, first_once, last_once, stands_in}
use Rattle.type_data.specs.Kinds.Prefixes.{IsAddressText, IsPrefixOctets, IsTrimmed, SpellsPrefix, StatesPrefix, StatesPrefixes, family_of, mark, octets_of, sign}
use Rattle.type_data.specs.Kinds.Prefixes.Machine.{BeginsWithMark, IsAfterMark, IsItemPrefix}
use Rattle.type_data.specs.declared.kinds.prefixes.Address.{Address}
use Rattle.type_data.specs.declared.kinds.prefixes.Address.TheVariants.{Ipv4, Ipv6}
use Rattle.type_data.specs.declared.kinds.prefixes.Prefix.{Prefix}

-- ---- the parts of a text

no_mark_first : (family rest : List ℕ) (n : ℕ) → IsDecimal family n → BeginsWithMark (family ++ rest) → ⊥
no_mark_first [] rest n is begins = omega (arith, is.some)
no_mark_first (c ∷ family) rest n is begins =
    let digit : is_digit 33 ≡ true = sym (ap is_digit begins) ∙ is.digits.0 in cc digit

mark_once : (mine other : Bool) (text rest own : List ℕ) → IsAfterMark text mine rest → text ≡ mark other ++ own → (BeginsWithMark own → ⊥) → (mine ≡ other) × (rest ≡ own)
mark_once true true text rest own after parts none =
    let e = sym after.parts ∙ parts in (refl, cc)
mark_once true false text rest own after parts none =
    absurd (none (subst BeginsWithMark (sym after.parts ∙ parts) refl))
mark_once false true text rest own after parts none =
    absurd (after.first refl (subst BeginsWithMark (sym parts) refl))
mark_once false false text rest own after parts none = (refl, sym after.parts ∙ parts)

-- the parts that were read are those of the prefix
pub record SameParts (text front len : List ℕ) (negated : Bool) (p : Prefix) (s : SpellsPrefix text p) : Type 0 where
  pub sign : negated ≡ p.negated
  pub front_is : front ≡ s.family ++ 58 ∷ s.address
  pub len_is : len ≡ s.len

pub same_parts : (text marked front len : List ℕ) (negated : Bool) (p : Prefix) (s : SpellsPrefix text p) → IsCutLast 47 text marked len → IsAfterMark marked negated front → SameParts text front len negated p s
same_parts text marked front len negated p s cut after =
    let ends = last_once 47 marked len (mark p.negated ++ (s.family ++ 58 ∷ s.address)) s.len cut.missing (digits_lack 47 s.len refl s.bits.digits) (sym cut.parts ∙ s.parts) in
    let begins = mark_once negated p.negated marked front (s.family ++ 58 ∷ s.address) after ends.0 (no_mark_first s.family (58 ∷ s.address) (family_of p.address) s.number) in
    record { sign = begins.0; front_is = begins.1; len_is = ends.1 }

pub no_length : (text : List ℕ) → IsMissing 47 text → NothingIs (SpellsPrefix text)
no_length text missing p s =
    stands_in 47 text (mark p.negated ++ (s.family ++ 58 ∷ s.address)) s.len s.parts missing

pub no_family : (text marked front len : List ℕ) (negated : Bool) → IsCutLast 47 text marked len → IsAfterMark marked negated front → IsMissing 58 front → NothingIs (SpellsPrefix text)
no_family text marked front len negated cut after missing p s =
    let same = same_parts text marked front len negated p s cut after in
    stands_in 58 front s.family s.address same.front_is missing

-- family and address are those of the prefix
parted : (text front family address len : List ℕ) (negated : Bool) (p : Prefix) (s : SpellsPrefix text p) → SameParts text front len negated p s → IsCutFirst 58 front family address → (family ≡ s.family) × (address ≡ s.address)
parted text front family address len negated p s same cut =
    first_once 58 family address s.family s.address cut.missing (digits_lack 58 s.family refl s.number.digits) (sym cut.parts ∙ same.front_is)

-- what an address's two texts state
abbrev pub IsOwnAddress : List ℕ → List ℕ → Address → Type 0
IsOwnAddress family text a = IsDecimal family (family_of a) × IsAddressText text a

own_of : (text front family address len : List ℕ) (negated : Bool) (p : Prefix) (s : SpellsPrefix text p) → SameParts text front len negated p s → IsCutFirst 58 front family address → IsOwnAddress family address p.address
own_of text front family address len negated p s same cut =
    let e = parted text front family address len negated p s same cut in
    (subst (λ (t : List ℕ). IsDecimal t (family_of p.address)) (sym e.0) s.number, subst (λ (t : List ℕ). IsAddressText t p.address) (sym e.1) s.is)

pub no_address : (text marked front family address len : List ℕ) (negated : Bool) → IsCutLast 47 text marked len → IsAfterMark marked negated front → IsCutFirst 58 front family address → NothingIs (IsOwnAddress family address) → NothingIs (SpellsPrefix text)
no_address text marked front family address len negated cut after first none p s =
    none p.address (own_of text front family address len negated p s (same_parts text marked front len negated p s cut after) first)

pub address_once : (family text : List ℕ) (a b : Address) → IsOwnAddress family text a → IsOwnAddress family text b → a ≡ b
address_once family text (Ipv4 x) (Ipv4 y) p q = ap Ipv4 (numbers_unique 3 text x y p.1 q.1)
address_once family text (Ipv4 x) (Ipv6 y) p q = absurd (omega (arith, p.0.value, q.0.value))
address_once family text (Ipv6 x) (Ipv4 y) p q = absurd (omega (arith, p.0.value, q.0.value))
address_once family text (Ipv6 x) (Ipv6 y) p q = ap Ipv6 (groups_unique text x y p.1 q.1)

pub no_ipv6 : (family text : List ℕ) (n : ℕ) → IsCapped (IsDecimal family) n → n ≡ 2 → NothingIs (IsIpv6Address text) → NothingIs (IsOwnAddress family text)
no_ipv6 family text n capped two none (Ipv4 x) own =
    absurd (omega (arith, capped.1.0.value, capped.1.1, own.0.value))
no_ipv6 family text n capped two none (Ipv6 x) own = none x own.1

-- what the text of a length states
abbrev pub AreOwnBits : List ℕ → Address → ℕ → Type 0
AreOwnBits text a n = IsDecimal text n × (n ≤ 8 * length (octets_of a))

pub no_bits_of : (text marked front family address len : List ℕ) (negated : Bool) (a : Address) → IsCutLast 47 text marked len → IsAfterMark marked negated front → IsCutFirst 58 front family address → IsOwnAddress family address a → NothingIs (AreOwnBits len a) → NothingIs (SpellsPrefix text)
no_bits_of text marked front family address len negated a cut after first own none p s =
    let same = same_parts text marked front len negated p s cut after in
    let e = address_once family address a p.address own (own_of text front family address len negated p s same first) in
    none p.bits (subst (λ (t : List ℕ). IsDecimal t p.bits) (sym same.len_is) s.bits, subst (λ (x : Address). p.bits ≤ 8 * length (octets_of x)) (sym e) s.few)

same_prefix : (p q : Prefix) → p.negated ≡ q.negated → p.address ≡ q.address → p.bits ≡ q.bits → p ≡ q
same_prefix p q sign address bits =
    ap₂ (λ (x : Bool × Address) (n : ℕ). let r : Prefix = record { negated = x.0; address = x.1; bits = n } in r) (ap₂ (λ (s : Bool) (a : Address). (s, a)) sign address) bits

pub prefix_once : (text : List ℕ) (p q : Prefix) → SpellsPrefix text p → SpellsPrefix text q → p ≡ q
prefix_once text p q r s =
    let front : List ℕ = r.family ++ 58 ∷ r.address in
    let cut : IsCutLast 47 text (mark p.negated ++ front) r.len = record { parts = r.parts; missing = digits_lack 47 r.len refl r.bits.digits } in
    let after : IsAfterMark (mark p.negated ++ front) p.negated front = record {
      parts = refl;
      first = λ e begins. no_mark_first r.family (58 ∷ r.address) (family_of p.address) r.number (subst (λ (n : Bool). BeginsWithMark (mark n ++ front)) e begins);
    } in
    let same = same_parts text (mark p.negated ++ front) front r.len p.negated q s cut after in
    let first : IsCutFirst 58 front r.family r.address = record { parts = refl; missing = digits_lack 58 r.family refl r.number.digits } in
    let own = own_of text front r.family r.address r.len p.negated q s same first in
    same_prefix p q same.sign (address_once r.family r.address p.address q.address (r.number, r.is) own) (r.bits.value ∙ ap decimal_value same.len_is ∙ sym s.bits.value)

-- ---- octets without the zeros that end them

abbrev zeros_of : ℕ → List ℕ
zeros_of n = replicate n 0

zero_at : (n k : ℕ) → get_or (zeros_of n) k 0 ≡ 0
zero_at zero k = refl
zero_at (suc n) zero = refl
zero_at (suc n) (suc k) = zero_at n k

beyond_at : (xs : List ℕ) (n k : ℕ) → length xs ≤ k → get_or (xs ++ zeros_of n) k 0 ≡ 0
beyond_at xs n k past = get_or-append_right xs (zeros_of n) (length xs) k 0 refl past ∙ zero_at n (k - length xs)

no_longer_part : (octets a b : List ℕ) → IsTrimmed octets a → IsTrimmed octets b → length b ≤ length a
no_longer_part octets a b these those =
    elim (cases_lt (length a) (length b)) [
      | inl longer ↦
          let k : ℕ = length b - 1 in
          let some : 0 < length b = omega arith in
          absurd (those.last some (sym (get_or_append_left b (zeros_of those.zeros) 0 k (omega arith)) ∙ ap (λ l. get_or l k 0) (sym those.whole ∙ these.whole) ∙ beyond_at a these.zeros k (omega arith)))
      | inr other ↦ other
    ]

trimmed_once : (octets a b : List ℕ) → IsTrimmed octets a → IsTrimmed octets b → a ≡ b
trimmed_once octets a b these those =
    let count : length a ≡ length b = omega (arith, no_longer_part octets a b these those, no_longer_part octets b a those these) in
    same_lists a b count (λ k d inside. get_or_default a k d 0 inside ∙ sym (get_or_append_left a (zeros_of these.zeros) 0 k inside) ∙ ap (λ l. get_or l k 0) (sym these.whole ∙ those.whole) ∙ get_or_append_left b (zeros_of those.zeros) 0 k (omega arith) ∙ get_or_default b k 0 d (omega arith))

zeros_after : (octets : List ℕ) (len : ℕ) → ((k : ℕ) → len ≤ k → get_or octets k 0 ≡ 0) → drop len octets ≡ zeros_of (length octets - len)
zeros_after octets len zeros =
    let count : length (drop len octets) ≡ length (zeros_of (length octets - len)) = length-drop len octets ∙ sym (length-replicate (length octets - len) zero) in
    same_lists (drop len octets) (zeros_of (length octets - len)) count (λ k d inside. get_or_default (drop len octets) k d 0 inside ∙ get_or-drop len octets k 0 ∙ zeros (len + k) (omega arith) ∙ sym (zero_at (length octets - len) k) ∙ get_or_default (zeros_of (length octets - len)) k 0 d (omega arith))

trimmed_to : (octets : List ℕ) (len : ℕ) → len ≤ length octets → (0 < len → get_or octets (len - 1) 0 ≢ 0) → ((k : ℕ) → len ≤ k → get_or octets k 0 ≡ 0) → IsTrimmed octets (take len octets)
trimmed_to octets len few last zeros =
    let count : length (take len octets) ≡ len = let l = length-take len octets in omega arith in
    record {
      zeros = length octets - len;
      whole = sym (take-append-drop len octets) ∙ ap (λ l. take len octets ++ l) (zeros_after octets len zeros);
      last = λ some zero. last (omega arith) (sym (get_or-take len octets (len - 1) 0 (omega arith)) ∙ ap (λ (n : ℕ). get_or (take len octets) (n - 1) 0) (sym count) ∙ zero);
    }

pub prefix_appended : (p : Prefix) (octets : List ℕ) (len n : ℕ) (old first second new : List ℕ) → octets ≡ octets_of p.address → len ≤ length octets → (0 < len → get_or octets (len - 1) 0 ≢ 0) → ((k : ℕ) → len ≤ k → get_or octets k 0 ≡ 0) → n ≡ sign p.negated + len → first ≡ old ++ to_be_bytes w16 (family_of p.address) → second ≡ first ++ p.bits ∷ n ∷ [] → new ≡ second ++ take len octets → AppendsStated (IsPrefixOctets p) old new
prefix_appended p octets len n old first second new same few last zeros count a b c =
    let part : List ℕ = take len octets in
    let family : List ℕ = to_be_bytes w16 (family_of p.address) in
    let length_is : length part ≡ len = let l = length-take len octets in omega arith in
    let own : n ≡ sign p.negated + length part = omega arith in
    record {
      octets = family ++ (p.bits ∷ (sign p.negated + length part) ∷ part);
      stated = record { part = part; trimmed = subst (λ (l : List ℕ). IsTrimmed l part) same (trimmed_to octets len few last zeros); value = refl };
      written = c ∙ ap (λ t. t ++ part) (b ∙ ap (λ t. t ++ p.bits ∷ n ∷ []) a) ∙ append_assoc (old ++ family) (p.bits ∷ n ∷ []) part ∙ append_assoc old family (p.bits ∷ n ∷ part) ∙ ap (λ (m : ℕ). old ++ (family ++ (p.bits ∷ m ∷ part))) own;
    }

-- ---- prefixes, one after another

prefix_stated : (item : RawItem) (p : Prefix) (octets : List ℕ) → IsItemPrefix item p → IsPrefixOctets p octets → StatesPrefix item octets
prefix_stated (bare text) p octets spells is = (p, (spells, is))
prefix_stated (quoted text) p octets spells is = absurd spells

-- the octets of the items before a place are appended
pub record LeadToPrefixes (items rest : List RawItem) (old new : List ℕ) : Type 0 where
  pub octets : List ℕ
  pub written : new ≡ old ++ octets
  pub leads : (more : List ℕ) → StatesPrefixes rest more → StatesPrefixes items (octets ++ more)

more_by : (items rest : List RawItem) (item : RawItem) (p : Prefix) (old mid new : List ℕ) → LeadToPrefixes items (item ∷ rest) old mid → IsItemPrefix item p → AppendsStated (IsPrefixOctets p) mid new → LeadToPrefixes items rest old new
more_by items rest item p old mid new have spells appends =
    record {
      octets = have.octets ++ appends.octets;
      written = appends.written ∙ ap (λ t. t ++ appends.octets) have.written ∙ append_assoc old have.octets appends.octets;
      leads = λ more states. subst (StatesPrefixes items) (sym (append_assoc have.octets appends.octets more)) (have.leads (appends.octets ++ more) (appends.octets, more, (prefix_stated item p appends.octets spells appends.stated, (states, refl))));
    }

pub more_prefixes : (items : List DataItem) (i : ℕ) (d : DataItem) (p : Prefix) (old mid new : List ℕ) → i < length items → LeadToPrefixes (map raw_item items) (map raw_item (drop i items)) old mid → IsItemPrefix (raw_item (get_or items i d)) p → AppendsStated (IsPrefixOctets p) mid new → LeadToPrefixes (map raw_item items) (map raw_item (drop (i + 1) items)) old new
more_prefixes items i d p old mid new inside have spells appends =
    more_by (map raw_item items) (map raw_item (drop (i + 1) items)) (raw_item (get_or items i d)) p old mid new (subst (λ (l : List RawItem). LeadToPrefixes (map raw_item items) l old mid) (ap (map raw_item) (drop_more items i d inside)) have) spells appends

pub all_prefixes : (items : List DataItem) (i : ℕ) (old new : List ℕ) → length items ≤ i → LeadToPrefixes (map raw_item items) (map raw_item (drop i items)) old new → AppendsStated (StatesPrefixes (map raw_item items)) old new
all_prefixes items i old new past have =
    record {
      octets = have.octets;
      stated = subst (StatesPrefixes (map raw_item items)) (append-nil have.octets) (have.leads [] (subst (λ (l : List DataItem). StatesPrefixes (map raw_item l) []) (sym (drop_all i items past)) refl));
      written = have.written;
    }

prefix_in : (item : RawItem) (octets : List ℕ) → StatesPrefix item octets → (p : Prefix) × IsItemPrefix item p
prefix_in (bare text) octets states = (states.0, states.1.0)
prefix_in (quoted text) octets states = absurd states

pub prefix_at : (items : List DataItem) (i : ℕ) (d : DataItem) (octets : List ℕ) → i < length items → StatesPrefixes (map raw_item items) octets → (p : Prefix) × IsItemPrefix (raw_item (get_or items i d)) p
prefix_at [] i d octets inside states = absurd (omega arith)
prefix_at (item ∷ items) zero d octets inside states =
    prefix_in (raw_item item) states.0 states.2.0
prefix_at (item ∷ items) (suc i) d octets inside states =
    prefix_at items i d states.1 (omega arith) states.2.1.0

-- ---- items state one list of octets

octets_once : (p : Prefix) (a b : List ℕ) → IsPrefixOctets p a → IsPrefixOctets p b → a ≡ b
octets_once p a b these those =
    these.value ∙ ap (λ l. to_be_bytes w16 (family_of p.address) ++ (p.bits ∷ (sign p.negated + length l) ∷ l)) (trimmed_once (octets_of p.address) these.part those.part these.trimmed those.trimmed) ∙ sym those.value

item_once : (item : RawItem) (a b : List ℕ) → StatesPrefix item a → StatesPrefix item b → a ≡ b
item_once (quoted text) a b these those = absurd these
item_once (bare text) a b these those =
    octets_once those.0 a b (subst (λ (p : Prefix). IsPrefixOctets p a) (prefix_once text these.0 those.0 these.1.0 those.1.0) these.1.1) those.1.1

pub prefixes_once : (items : List RawItem) (a b : List ℕ) → StatesPrefixes items a → StatesPrefixes items b → a ≡ b
prefixes_once [] a b these those = these ∙ sym those
prefixes_once (item ∷ items) a b these those =
    these.2.1.1 ∙ ap₂ (λ x y. x ++ y) (item_once item these.0 those.0 these.2.0 those.2.0) (prefixes_once items these.1 those.1 these.2.1.0 those.2.1.0) ∙ sym those.2.1.1
