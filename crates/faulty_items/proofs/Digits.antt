-- Digits of octets, item after item.
use Rattle.faulty_items.proofs.Common.{IsGeneric, Item, List, None, Ok, Option, RawItem, Some, StopsAt, [], ap, append-nil, append_assoc, arith, at_end, at_item, bare, codes, drop, generic_mark, get_or, inr, length, length-append, length-drop, length-map, map, option_map, quoted, raw, refl, slice_get, subst, suc, sym, take, take_all, zero, ℕ, ◌++◌, ◌+◌, ◌-◌, ◌/◌, ◌<◌, ◌∙◌, ◌∷◌, ◌≡◌, ◌≤◌}
use Rattle.faulty_items.proofs.CanGoOn.{got}
use Rattle.zone_rdata.proofs.Common.{decode_of, decode_of-same}
use Rattle.zone_rdata.proofs.Items.GenericLaws.{half_length}
use Rattle.zone_rdata.specs.Appended.{Appends}
use Rattle.zone_rdata.specs.Generic.{JoinTo, StatesLength}
use Rattle.faulty_items.specs.GenericStop.{GenericStops, JoinUpTo, bad_length, in_digits, no_length}
use Rattle.faulty_items.specs.Stop.{stop_at}

pub next_taken : {A : Type 0} (xs : List A) (i : ℕ) (x : A) → slice_get xs i ≡ Some x → take (suc i) xs ≡ take i xs ++ x ∷ []
next_taken [] i x is = absurd cc
next_taken (y ∷ xs) zero x is = grind arith
next_taken (y ∷ xs) (suc i) x is = ap (λ l. y ∷ l) (next_taken xs i x is)

-- what one more item adds
join_back : (items : List RawItem) (item : RawItem) (octets whole : List ℕ) → JoinTo items octets → JoinTo (items ++ item ∷ []) whole → (front : List ℕ) × JoinTo (item ∷ []) front × (whole ≡ octets ++ front)
join_back [] item octets whole x y = (whole, y, ap (λ o. o ++ whole) (sym x))
join_back (quoted text ∷ items) item octets whole x y = absurd x
join_back (bare text ∷ items) item octets whole x y =
    let same : x.0 ≡ y.0 = decode_of-same text x.0 y.0 x.2 y.2 in
    let more = join_back items item x.1 y.1 x.4 y.4 in
    (more.0, more.1, y.3 ∙ ap (λ f. f ++ y.1) (sym same) ∙ ap (λ r. x.0 ++ r) more.2 ∙ sym (append_assoc x.0 x.1 more.0) ∙ ap (λ o. o ++ more.0) (sym x.3))

join_push : (items : List RawItem) (text octets front : List ℕ) → JoinTo items octets → decode_of text ≡ Ok front → JoinTo (items ++ bare text ∷ []) (octets ++ front)
join_push [] text octets front x is = (front, [], is, ap (λ o. o ++ front) x ∙ sym (append-nil front), refl)
join_push (quoted other ∷ items) text octets front x is = absurd x
join_push (bare other ∷ items) text octets front x is =
    (x.0, x.1 ++ front, x.2, ap (λ o. o ++ front) x.3 ∙ append_assoc x.0 x.1 front, join_push items text x.1 front x.4 is)

-- so many of the items join to octets that aren't too many
pub record UpTo (digits : List Item) (most i : ℕ) (octets : List ℕ) : Type 0 where
  pub joined : JoinTo (take i (map raw digits)) octets
  pub few : length octets ≤ most

pub none_joined : (digits : List Item) (most : ℕ) (octets : List ℕ) → octets ≡ [] → UpTo digits most 0 octets
none_joined digits most octets none = record { joined = none; few = let len = ap length none in omega arith }

-- an item of no digits of so few octets
stops_here : (digits : List Item) (most i : ℕ) (item d : Item) (octets : List ℕ) → i < length digits → item ≡ get_or digits i d → UpTo digits most i octets → ((front : List ℕ) → JoinTo (raw item ∷ []) front → length octets + length front ≤ most → ⊥) → StopsAt (JoinUpTo most) (map raw digits) (Some (raw item))
stops_here digits most i item d octets less is so_far bad =
    let there : slice_get (map raw digits) i ≡ Some (raw item) = got raw digits i item d less is in
    at_item i (raw item) there (inr (octets, so_far.joined, so_far.few)) (λ more.
    let last = join_back (take i (map raw digits)) (raw item) octets more.0 so_far.joined (subst (λ l. JoinTo l more.0) (next_taken (map raw digits) i (raw item) there) more.1) in
    bad last.0 last.1 (let len = ap length last.2 in let few = more.2 in omega (arith, length-append octets last.0)))

pub quoted_stops : (digits : List Item) (most i : ℕ) (item d : Item) (text octets : List ℕ) → i < length digits → item ≡ get_or digits i d → raw item ≡ quoted text → UpTo digits most i octets → StopsAt (JoinUpTo most) (map raw digits) (Some (raw item))
quoted_stops digits most i item d text octets less is in_quotes so_far =
    stops_here digits most i item d octets less is so_far (λ front h few. subst (λ r. JoinTo (r ∷ []) front) in_quotes h)

pub long_stops : (digits : List Item) (most i : ℕ) (item d : Item) (text octets : List ℕ) → i < length digits → item ≡ get_or digits i d → raw item ≡ bare text → most - length octets < length text / 2 → UpTo digits most i octets → StopsAt (JoinUpTo most) (map raw digits) (Some (raw item))
long_stops digits most i item d text octets less is in_bare over so_far =
    stops_here digits most i item d octets less is so_far (λ front h few.
    let x : JoinTo (bare text ∷ []) front = subst (λ r. JoinTo (r ∷ []) front) in_bare h in
    let half : length x.0 ≡ length text / 2 = half_length text x.0 x.2 in
    let whole : length front ≡ length (x.0 ++ x.1) = ap length x.3 in
    omega (arith, length-append x.0 x.1))

pub bad_stops : (digits : List Item) (most i : ℕ) (item d : Item) (text octets : List ℕ) → i < length digits → item ≡ get_or digits i d → raw item ≡ bare text → ((front : List ℕ) → decode_of text ≡ Ok front → ⊥) → UpTo digits most i octets → StopsAt (JoinUpTo most) (map raw digits) (Some (raw item))
bad_stops digits most i item d text octets less is in_bare bad so_far =
    stops_here digits most i item d octets less is so_far (λ front h few.
    let x : JoinTo (bare text ∷ []) front = subst (λ r. JoinTo (r ∷ []) front) in_bare h in
    bad x.0 x.2)

pub one_joined : (digits : List Item) (most i : ℕ) (item d : Item) (text octets new : List ℕ) → i < length digits → item ≡ get_or digits i d → raw item ≡ bare text → length text / 2 ≤ most - length octets → UpTo digits most i octets → Appends (λ front. decode_of text ≡ Ok front) (λ front. front) octets new → UpTo digits most (i + 1) new
one_joined digits most i item d text octets new less is in_bare room so_far grows =
    let there : slice_get (map raw digits) i ≡ Some (raw item) = got raw digits i item d less is in
    let next : i + 1 ≡ suc i = omega arith in
    record {
      joined = subst (λ n. JoinTo (take n (map raw digits)) new) (sym next)
          (subst (λ l. JoinTo l new) (sym (next_taken (map raw digits) i (raw item) there ∙ ap (λ r. take i (map raw digits) ++ r ∷ []) in_bare))
          (subst (JoinTo (take i (map raw digits) ++ bare text ∷ [])) (sym grows.written) (join_push (take i (map raw digits)) text octets grows.value so_far.joined grows.stated)));
      few =
          let half : length grows.value ≡ length text / 2 = half_length text grows.value grows.stated in
          let few = so_far.few in
          omega (arith, ap length grows.written, length-append octets grows.value);
    }

pub all_joined : (digits : List Item) (most i : ℕ) (octets : List ℕ) → length digits ≤ i → UpTo digits most i octets → StopsAt (JoinUpTo most) (map raw digits) None
all_joined digits most i octets past so_far =
    at_end (inr (octets, subst (λ l. JoinTo l octets) (take_all i (map raw digits) (omega (arith, length-map digits raw))) so_far.joined, so_far.few))

-- ---- the form

form_parts : (items : List Item) (d : Item) → 2 ≤ length items → IsGeneric (map raw items) → map raw items ≡ generic_mark ∷ raw (get_or items 1 d) ∷ map raw (drop 2 items)
form_parts [] d two marked = absurd (omega arith)
form_parts (a ∷ []) d two marked = absurd (omega arith)
form_parts (a ∷ b ∷ items) d two marked = let first : raw a ≡ generic_mark = cc marked.1 in ap (λ r. r ∷ raw b ∷ map raw items) first

pub length_missing : (items : List Item) → length items < 2 → IsGeneric (map raw items) → GenericStops (map raw items) (stop_at (codes "length") None)
length_missing [] few marked = absurd (cc marked.1)
length_missing (a ∷ []) few marked = no_length (let first : raw a ≡ generic_mark = cc marked.1 in ap (λ r. r ∷ []) first)
length_missing (a ∷ b ∷ items) few marked = absurd (omega arith)

pub length_stops : (items : List Item) (d : Item) → 2 ≤ length items → IsGeneric (map raw items) → ((n : ℕ) → StatesLength (raw (get_or items 1 d)) n → n ≤ 65535 → ⊥) → GenericStops (map raw items) (stop_at (codes "length") (Some (raw (get_or items 1 d))))
length_stops items d two marked bad = bad_length (raw (get_or items 1 d)) (map raw (drop 2 items)) (form_parts items d two marked) bad

pub digits_stop : (items digits : List Item) (d : Item) (n : ℕ) (found : Option Item) → 2 ≤ length items → IsGeneric (map raw items) → digits ≡ drop 2 items → StatesLength (raw (get_or items 1 d)) n × (n ≤ 65535) → StopsAt (JoinUpTo n) (map raw digits) (option_map raw found) → GenericStops (map raw items) (stop_at (codes "data") (option_map raw found))
digits_stop items digits d n found two marked are states stops =
    in_digits n (map raw (drop 2 items)) (option_map raw found) (record { item = raw (get_or items 1 d); parts = form_parts items d two marked; states = states.0 }) states.1
    (subst (λ l. StopsAt (JoinUpTo n) (map raw l) (option_map raw found)) are stops)

pub rest_taken : (items : List Item) → take (length items - 2) (drop 2 items) ≡ drop 2 items
rest_taken items = take_all (length items - 2) (drop 2 items) (omega (arith, length-drop 2 items))
