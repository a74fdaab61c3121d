-- The items of a list as the code reads them.
use Rattle.type_data.proofs.Common.{AllByRecursion, AllByRecursion-append, HasNoItems, IsProtocol, List, None, Option, Some, [], ap, append-nil, append_assoc, arith, false, flat_map, flat_map_more, length, length-append, onto_first, option_map, refl, subst, sym, with_length, ℕ, ◌++◌, ◌<◌, ◌∙◌, ◌∷◌, ◌≡◌, ◌≤◌}
use Rattle.type_data.specs.Parameters.Machine.Parts.{items_of}

abbrev pub Items : Type 0
Items = List (List ℕ)

-- octets before the first item
abbrev pub prefixed : List ℕ → Items → Items
prefixed [] items = items
prefixed (c ∷ octets) items = onto_first c (prefixed octets items)

prefixed_more : (octets : List ℕ) (c : ℕ) (items : Items) → prefixed (octets ++ c ∷ []) items ≡ prefixed octets (onto_first c items)
prefixed_more [] c items = refl
prefixed_more (d ∷ octets) c items = ap (onto_first d) (prefixed_more octets c items)

pub prefixed_first : (octets first : List ℕ) (items : Items) → prefixed octets (first ∷ items) ≡ (octets ++ first) ∷ items
prefixed_first [] first items = refl
prefixed_first (c ∷ octets) first items = ap (onto_first c) (prefixed_first octets first items)

map_prefixed : (octets : List ℕ) (c : ℕ) (items : Option Items) → option_map (prefixed octets) (option_map (onto_first c) items) ≡ option_map (prefixed (octets ++ c ∷ [])) items
map_prefixed octets c None = refl
map_prefixed octets c (Some items) = ap Some (sym (prefixed_more octets c items))

pub map_first : (octets : List ℕ) (items : Option Items) → option_map (prefixed octets) (option_map (λ items. [] ∷ items) items) ≡ option_map (λ items. octets ∷ items) items
map_first octets None = refl
map_first octets (Some items) = ap Some (prefixed_first octets [] items ∙ ap (λ t. t ∷ items) (append-nil octets))

-- the octets of the first item up to a place
pub record HasItem (text rest item : List ℕ) : Type 0 where
  pub items : items_of false text ≡ option_map (prefixed item) (items_of false rest)
  pub within : length rest ≤ length text
  pub short : length item ≤ 255

pub item_more : (text rest after item : List ℕ) (c : ℕ) → HasItem text rest item → (items_of false rest ≡ option_map (onto_first c) (items_of false after)) × (length after < length rest) → length item < 255 → HasItem text after (item ++ c ∷ [])
item_more text rest after item c has next room = record {
  items = has.items ∙ ap (option_map (prefixed item)) next.0 ∙ map_prefixed item c (items_of false after);
  within = omega (arith, has.within, next.1);
  short = omega (arith, room, length-append item (c ∷ []));
}

first_parted : (text rest after item : List ℕ) → HasItem text rest item → rest ≡ 44 ∷ after → items_of false text ≡ option_map (λ items. item ∷ items) (items_of false after)
first_parted text rest after item has comma = has.items ∙ ap (λ t. option_map (prefixed item) (items_of false t)) comma ∙ map_first item (items_of false after)

pub item_parts : (text rest after item : List ℕ) → HasItem text rest item → rest ≡ 44 ∷ after → 0 < length item → IsProtocol item × (length after < length text) × (items_of false text ≡ option_map (λ items. item ∷ items) (items_of false after))
item_parts text rest after item has comma some = ((some, has.short), omega (arith, has.within, ap length comma), first_parted text rest after item has comma)

-- ---- where the first item is none

none_at_first : (item : List ℕ) (items : Option Items) (found : Items) → (IsProtocol item → ⊥) → option_map (λ items. item ∷ items) items ≡ Some found → AllByRecursion IsProtocol found → ⊥
none_at_first item None found stops e each = absurd cc
none_at_first item (Some items) [] stops e each = absurd cc
none_at_first item (Some items) (first ∷ found) stops e each = stops (subst IsProtocol (let same : Some (item ∷ items) ≡ Some (first ∷ found) = e in cc) each.0)

pub empty_parts : (text rest after item : List ℕ) → HasItem text rest item → rest ≡ 44 ∷ after → length item ≡ 0 → HasNoItems text
empty_parts text rest after item has comma empty found e each = none_at_first item (items_of false after) found (λ is. omega (arith, is.0, empty)) (sym (first_parted text rest after item has comma) ∙ e) each

long_first : (item : List ℕ) (items : Option Items) (found : Items) (c : ℕ) → length item ≡ 255 → option_map (prefixed (item ++ c ∷ [])) items ≡ Some found → AllByRecursion IsProtocol found → ⊥
long_first item None found c full e each = absurd cc
long_first item (Some []) found c full e each =
    let whole = prefixed_more item c [] ∙ prefixed_first item (c ∷ []) [] in
    let is : found ≡ (item ++ c ∷ []) ∷ [] = (let same : Some found ≡ Some ((item ++ c ∷ []) ∷ []) = sym e ∙ ap Some whole in cc) in
    let first = (subst (AllByRecursion IsProtocol) is each).0 in
    omega (arith, first.1, full, length-append item (c ∷ []))
long_first item (Some (first ∷ items)) found c full e each =
    let whole = prefixed_more item c (first ∷ items) ∙ prefixed_first item (c ∷ first) items in
    let is : found ≡ (item ++ c ∷ first) ∷ items = (let same : Some found ≡ Some ((item ++ c ∷ first) ∷ items) = sym e ∙ ap Some whole in cc) in
    let long = (subst (AllByRecursion IsProtocol) is each).0 in
    omega (arith, long.1, full, length-append item (c ∷ first))

pub item_full : (text rest after item : List ℕ) (c : ℕ) → HasItem text rest item → (items_of false rest ≡ option_map (onto_first c) (items_of false after)) × (length after < length rest) → length item ≡ 255 → HasNoItems text
item_full text rest after item c has next full found e each = long_first item (items_of false after) found c full (sym (has.items ∙ ap (option_map (prefixed item)) next.0 ∙ map_prefixed item c (items_of false after)) ∙ e) each

-- ---- item after item

map_append : (done : Items) (item : List ℕ) (items : Option Items) → option_map (λ more. done ++ more) (option_map (λ items. item ∷ items) items) ≡ option_map (λ more. (done ++ item ∷ []) ++ more) items
map_append done item None = refl
map_append done item (Some items) = ap Some (sym (append_assoc done (item ∷ []) items))

pub map_whole : (items : Option Items) → items ≡ option_map (λ more. [] ++ more) items
map_whole None = refl
map_whole (Some items) = refl

pub record HasItems (text rest old new : List ℕ) : Type 0 where
  pub done : Items
  pub items : items_of false text ≡ option_map (λ more. done ++ more) (items_of false rest)
  pub each : AllByRecursion IsProtocol done
  pub value : new ≡ old ++ flat_map with_length done

pub items_more : (text rest after item old new next : List ℕ) → HasItems text rest old new → IsProtocol item × (length after < length rest) × (items_of false rest ≡ option_map (λ items. item ∷ items) (items_of false after)) → next ≡ (new ++ length item ∷ []) ++ item → HasItems text after old next
items_more text rest after item old new next has first grown = record {
  done = has.done ++ item ∷ [];
  items = has.items ∙ ap (option_map (λ more. has.done ++ more)) first.2 ∙ map_append has.done item (items_of false after);
  each = AllByRecursion-append IsProtocol has.done (item ∷ []) has.each (first.0, tt);
  value = grown ∙ append_assoc new (length item ∷ []) item ∙ ap (λ t. t ++ length item ∷ item) has.value ∙ append_assoc old (flat_map with_length has.done) (length item ∷ item) ∙ ap (λ t. old ++ t) (flat_map_more with_length [] has.done item);
}

each_back : (done items : Items) → AllByRecursion IsProtocol (done ++ items) → AllByRecursion IsProtocol items
each_back [] items each = each
each_back (item ∷ done) items each = each_back done items each.1

pub stops_by : (done : Items) (items : Option Items) (found : Items) → ((more : Items) → items ≡ Some more → AllByRecursion IsProtocol more → ⊥) → option_map (λ more. done ++ more) items ≡ Some found → AllByRecursion IsProtocol found → ⊥
stops_by done None found none e each = absurd cc
stops_by done (Some items) found none e each = none items refl (each_back done items (subst (AllByRecursion IsProtocol) (let same : Some found ≡ Some (done ++ items) = sym e in cc) each))
