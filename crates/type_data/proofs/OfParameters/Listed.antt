-- The items of a list: a text has those whose spelling it is, and they are read octet by octet.
use Rattle.type_data.proofs.Common.{AppendsStated, Bool, List, ListsItems, ListsProtocols, None, NothingIs, Option, Some, Unescaped, [], ap, append-nil, append_assoc, arith, eqb-true, false, flat_map, join_with_byte, length, map, onto_first, option_map, refl, subst, sym, true, with_length, ℕ, ◌++◌, ◌<◌, ◌==◌, ◌||◌, ◌∙◌, ◌∷◌, ◌≡◌}
use Rattle.type_data.proofs.OfParameters.Protocols.{Items, map_first, prefixed, prefixed_first}
use Rattle.type_data.proofs.UnescapedTexts.{unescaped_once}
use Rattle.type_data.specs.Parameters.Machine.Parts.{ReadsItems, items_of}
use Rattle.type_data.specs.Parameters.Value.{escaped_item, escaped_octet}

-- ---- what is read is spelt

record Spells (text : List ℕ) (items : Items) : Type 0 where
  some : 0 < length items
  spelt : text ≡ join_with_byte 44 (map escaped_item items)

-- one more octet before the first item
with_octet : (c : ℕ) (text : List ℕ) (items : Items) → Spells text items → Spells (escaped_octet c ++ text) (onto_first c items)
with_octet c text [] s = absurd (omega (arith, s.some))
with_octet c text (first ∷ []) s = record { some = omega arith; spelt = ap (λ t. escaped_octet c ++ t) s.spelt }
with_octet c text (first ∷ next ∷ items) s = record {
  some = omega arith;
  spelt = ap (λ t. escaped_octet c ++ t) s.spelt ∙ sym (append_assoc (escaped_octet c) (escaped_item first) (44 ∷ join_with_byte 44 (map escaped_item (next ∷ items))));
}

-- an empty item before the first
with_comma : (text : List ℕ) (items : Items) → Spells text items → Spells (44 ∷ text) ([] ∷ items)
with_comma text [] s = absurd (omega (arith, s.some))
with_comma text (first ∷ items) s = record { some = omega arith; spelt = ap (λ t. 44 ∷ t) s.spelt }

record Mapped (f : Items → Items) (found : Option Items) (items : Items) : Type 0 where
  more : Items
  is : found ≡ Some more
  mapped : items ≡ f more

mapped_from : (f : Items → Items) (found : Option Items) (items : Items) → option_map f found ≡ Some items → Mapped f found items
mapped_from f None items e = absurd cc
mapped_from f (Some more) items e = record { more = more; is = refl; mapped = let same : Some items ≡ Some (f more) = sym e in cc }

after_backslash : (c : ℕ) (text : List ℕ) (items : Items) (either : Bool) → (c == 44 || c == 92) ≡ either → items_of true (c ∷ text) ≡ Some items → ((more : Items) → items_of false text ≡ Some more → Spells text more) → Spells (92 ∷ c ∷ text) items
after_backslash c text items false is e rest = absurd (let none : None ≡ Some items = rw is at e in cc)
after_backslash c text items true is e rest =
    let m = mapped_from (onto_first c) (items_of false text) items (rw is at e) in
    let mark : escaped_octet c ≡ 92 ∷ c ∷ [] = rw is refl in
    subst (λ t. Spells (t ++ text) items) mark (subst (Spells (escaped_octet c ++ text)) (sym m.mapped) (with_octet c text m.more (rest m.more m.is)))

by_itself : (c : ℕ) (text : List ℕ) (items : Items) (comma backslash : Bool) → (c == 44) ≡ comma → (c == 92) ≡ backslash → items_of false (c ∷ text) ≡ Some items → ((more : Items) → items_of false text ≡ Some more → Spells text more) → (items_of true text ≡ Some items → Spells (92 ∷ text) items) → Spells (c ∷ text) items
by_itself c text items true backslash is other e rest marked =
    let m = mapped_from (λ items. [] ∷ items) (items_of false text) items (rw is at e) in
    subst (λ k. Spells (k ∷ text) items) (sym (eqb-true c 44 is)) (subst (Spells (44 ∷ text)) (sym m.mapped) (with_comma text m.more (rest m.more m.is)))
by_itself c text items false true is other e rest marked =
    subst (λ k. Spells (k ∷ text) items) (sym (eqb-true c 92 other)) (marked (rw (is, other) at e))
by_itself c text items false false is other e rest marked =
    let m = mapped_from (onto_first c) (items_of false text) items (rw (is, other) at e) in
    let itself : escaped_octet c ≡ c ∷ [] = rw (is, other) refl in
    subst (λ t. Spells (t ++ text) items) itself (subst (Spells (escaped_octet c ++ text)) (sym m.mapped) (with_octet c text m.more (rest m.more m.is)))

abbrev after : Bool → List ℕ → List ℕ
after true text = 92 ∷ text
after false text = text

spelt_as_read : (backslash : Bool) (text : List ℕ) (items : Items) → items_of backslash text ≡ Some items → Spells (after backslash text) items
spelt_as_read true [] items e = absurd cc
spelt_as_read false [] items e = let same : [] ∷ [] ≡ items = cc in subst (Spells []) same (record { some = omega arith; spelt = refl })
spelt_as_read true (c ∷ text) items e = after_backslash c text items (c == 44 || c == 92) refl e (spelt_as_read false text)
spelt_as_read false (c ∷ text) items e = by_itself c text items (c == 44) (c == 92) refl refl e (spelt_as_read false text) (spelt_as_read true text items)

-- ---- what is spelt is read

octet_read : (c : ℕ) (comma backslash : Bool) → (c == 44) ≡ comma → (c == 92) ≡ backslash → (text : List ℕ) → items_of false (escaped_octet c ++ text) ≡ option_map (onto_first c) (items_of false text)
octet_read c true backslash is other text =
    let mark : escaped_octet c ≡ 92 ∷ c ∷ [] = rw is refl in
    let read : items_of true (c ∷ text) ≡ option_map (onto_first c) (items_of false text) = rw is refl in
    ap (λ t. items_of false (t ++ text)) mark ∙ read
octet_read c false true is other text =
    let mark : escaped_octet c ≡ 92 ∷ c ∷ [] = rw (is, other) refl in
    let read : items_of true (c ∷ text) ≡ option_map (onto_first c) (items_of false text) = rw (is, other) refl in
    ap (λ t. items_of false (t ++ text)) mark ∙ read
octet_read c false false is other text =
    let itself : escaped_octet c ≡ c ∷ [] = rw (is, other) refl in
    let read : items_of false (c ∷ text) ≡ option_map (onto_first c) (items_of false text) = rw (is, other) refl in
    ap (λ t. items_of false (t ++ text)) itself ∙ read

map_none : (found : Option Items) → found ≡ option_map (prefixed []) found
map_none None = refl
map_none (Some items) = refl

map_onto : (c : ℕ) (item : List ℕ) (found : Option Items) → option_map (onto_first c) (option_map (prefixed item) found) ≡ option_map (prefixed (c ∷ item)) found
map_onto c item None = refl
map_onto c item (Some items) = refl

item_read : (item rest : List ℕ) → items_of false (escaped_item item ++ rest) ≡ option_map (prefixed item) (items_of false rest)
item_read [] rest = map_none (items_of false rest)
item_read (c ∷ item) rest =
    ap (items_of false) (append_assoc (escaped_octet c) (escaped_item item) rest)
    ∙ octet_read c (c == 44) (c == 92) refl refl (escaped_item item ++ rest)
    ∙ ap (option_map (onto_first c)) (item_read item rest)
    ∙ map_onto c item (items_of false rest)

read_as_spelt : (items : Items) → 0 < length items → items_of false (join_with_byte 44 (map escaped_item items)) ≡ Some items
read_as_spelt [] some = absurd (omega arith)
read_as_spelt (item ∷ []) some =
    ap (items_of false) (sym (append-nil (escaped_item item))) ∙ item_read item []
    ∙ ap Some (prefixed_first item [] [] ∙ ap (λ t. t ∷ []) (append-nil item))
read_as_spelt (item ∷ next ∷ items) some =
    let rest = join_with_byte 44 (map escaped_item (next ∷ items)) in
    item_read item (44 ∷ rest) ∙ map_first item (items_of false rest) ∙ ap (option_map (λ items. item ∷ items)) (read_as_spelt (next ∷ items) (omega arith))

-- ---- the octets of both

lists_as_read : (text octets : List ℕ) → ReadsItems text octets → ListsItems text octets
lists_as_read text octets read =
    let s = spelt_as_read false text read.protocols read.items in
    record { protocols = read.protocols; some = s.some; spelt = s.spelt; each = read.each; value = read.value }

reads_as_listed : (text octets : List ℕ) → ListsItems text octets → ReadsItems text octets
reads_as_listed text octets lists = record {
  protocols = lists.protocols;
  items = ap (items_of false) lists.spelt ∙ read_as_spelt lists.protocols lists.some;
  each = lists.each;
  value = lists.value;
}

pub items_once : (text a b : List ℕ) → ListsItems text a → ListsItems text b → a ≡ b
items_once text a b x y =
    let one = reads_as_listed text a x in
    let other = reads_as_listed text b y in
    let both : Some one.protocols ≡ Some other.protocols = sym one.items ∙ other.items in
    let same : one.protocols ≡ other.protocols = cc in
    one.value ∙ ap (flat_map with_length) same ∙ sym other.value

pub protocols_appended : (text octets slice old new : List ℕ) → Unescaped text octets → slice ≡ octets → AppendsStated (ReadsItems slice) old new → AppendsStated (ListsProtocols text) old new
protocols_appended text octets slice old new spelt same more = record {
  octets = more.octets;
  stated = record { spelt = octets; unescaped = spelt; items = lists_as_read octets more.octets (subst (λ t. ReadsItems t more.octets) same more.stated) };
  written = more.written;
}

pub protocols_stop : (text octets slice : List ℕ) → Unescaped text octets → slice ≡ octets → NothingIs (ReadsItems slice) → NothingIs (ListsProtocols text)
protocols_stop text octets slice is same none others are =
    let e = unescaped_once text are.spelt octets are.unescaped is ∙ sym same in
    none others (reads_as_listed slice others (subst (λ t. ListsItems t others) e are.items))
