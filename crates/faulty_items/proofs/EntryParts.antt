-- The parts of an entry, as the code holds them.
use Rattle.faulty_items.proofs.Common.{Bool, Bor, DataItem, Err, IsGeneric, IsTrue, Item, Labels, List, None, NothingIs, Ok, Option, RawItem, Result, Some, TouchingItem, [], ap, append_assoc, arith, bare, codes, drop, false, get_or, given, length, length-append, length-map, map, map-append, map_more, option_map, quoted, raw, refl, subst, sym, take, take_all, ℕ, ◌++◌, ◌+◌, ◌-◌, ◌<◌, ◌∙◌, ◌∷◌, ◌≡◌, ◌≤◌, true}
use Rattle.std.proofs.lemmas.List.{drop-map}
use Rattle.std.proofs.Math.Seq.{drop-append_seam}
use Rattle.std.specs.Prelude.{◌↔◌, IfNone, IfOk, IfSome, MatchOption}
use Rattle.std.specs.List.{AllByRecursion}
use Rattle.zone_name.specs.Spelling.{SpellsCased}
use Rattle.zone_rdata.proofs.Words.OneWord.{class_word_once}
use Rattle.zone_rdata.specs.Words.{IsClass, IsClassWord}
use Rattle.zone_text.proofs.Heads.PartsLeft.{all_have, parts_behind}
use Rattle.zone_text.specs.PartsIn.{ArePartsIn}
use Rattle.zone_text.specs.Records.{HasValue}
use Rattle.zone_text.specs.Statements.{Statement, Word, class, class_among, directive, owned, parts_after, statement_by, ttl, unowned}
use Rattle.zone_text.specs.declared.parts.RecordParts.{RecordParts}
use Rattle.type_data.specs.DataItem.{items_of}
use Rattle.type_data.specs.Table.{FurtherType, IsFurtherWord, fields_in}
use Rattle.zone_name.specs.Name.{folded}
use Rattle.zone_rdata.specs.Words.{IsKind, IsKindWord}
use Rattle.faulty_items.proofs.Reading.{not_marked}
use Rattle.faulty_items.specs.FurtherStop.{FurtherFieldsStop, FurtherStop}
use Rattle.faulty_items.specs.GenericStop.{GenericStops}
use Rattle.faulty_items.specs.LaidOutStop.{LaidOutStops}
use Rattle.faulty_items.specs.Stop.{Stop}
use Rattle.faulty_items.specs.Coded.{coded_entry}
use Rattle.faulty_items.specs.EntryStop.{AreAfterOwner, EntryStop, EntryStops, IsClassOf, IsEndOf, IsNoOwner, IsValueless, ItemOfNone, NamesFurther, RestStops, TypeStop, after_words, at_owner, at_word, before_data, in_data, in_further, in_further_data, in_generic_form, in_laid_out, in_no_record, in_record, no_class, no_ttl}
use Rattle.faulty_items.specs.Machine.EntryReading.{EndIn, IsClassIfValued, RecordStops}
use Rattle.faulty_items.specs.declared.entry.EntryStop as code

-- a class word that has no value
pub no_class_value : (text : List ℕ) (number : ℕ) → IsClassWord text number → (IsClass number → ⊥) → HasValue (class text) → ⊥
no_class_value text number is none has = none (subst IsClass (class_word_once text has.0 number has.1.0 is) has.1.1)

pub no_class_word : (text : List ℕ) → NothingIs (IsClassWord text) → HasValue (class text) → ⊥
no_class_word text none has = none has.0 has.1.0

-- ---- the items from the type on

pub mapped_given : (items : List DataItem) → items_of (map given items) ≡ map (λ (d : DataItem). raw d.item) items
mapped_given [] = refl
mapped_given (d ∷ items) = ap (λ l. raw d.item ∷ l) (mapped_given items)

-- they are the last of all
pub record AreLast (all rest : List DataItem) (after : List RawItem) : Type 0 where
  pub end : IsEndOf (map given all) (map given rest)
  pub same : items_of (map given rest) ≡ (parts_after [] after).rest

count_of : (items : List TouchingItem) → length (items_of items) ≡ length items
count_of items = length-map items (λ (d : TouchingItem). d.item)

last_of : (all : List TouchingItem) (front last : List RawItem) → items_of all ≡ front ++ last → items_of (drop (length all - length last) all) ≡ last
last_of all front last is =
    let size : length all ≡ length front + length last = sym (count_of all) ∙ ap length is ∙ length-append front last in
    let n : length all - length last ≡ length front = omega arith in
    sym (drop-map (λ (d : TouchingItem). d.item) (length all - length last) all)
    ∙ ap (λ k. drop k (items_of all)) n
    ∙ ap (drop (length front)) is
    ∙ drop-append_seam front last

pub are_last : (all rest : List DataItem) (after : List RawItem) (left : List Item) (n : ℕ) → EndIn (items_of (map given all)) after → (parts_after [] after).rest ≡ map raw left → n ≡ length all - length left → rest ≡ drop n all → AreLast all rest after
are_last all rest after left n ends parts counted is =
    let behind = parts_behind [] after in
    let whole : items_of (map given all) ≡ (ends.0 ++ behind.0) ++ (parts_after [] after).rest = ends.1 ∙ ap (λ l. ends.0 ++ l) behind.1 ∙ sym (append_assoc ends.0 behind.0 (parts_after [] after).rest) in
    let size : length (map given all) - length (parts_after [] after).rest ≡ n = ap (λ k. k - length (parts_after [] after).rest) (length-map all given) ∙ ap (λ k. length all - k) (ap length parts ∙ length-map left raw) ∙ sym counted in
    let same : map given rest ≡ drop n (map given all) = ap (map given) is ∙ sym (drop-map given n all) in
    record {
      end = (n, same);
      same = ap items_of same ∙ ap (λ k. items_of (drop k (map given all))) (sym size) ∙ last_of (map given all) (ends.0 ++ behind.0) (parts_after [] after).rest whole;
    }

-- ---- further types

pub none_named : (number : ℕ) (word : List ℕ) → NothingIs (IsFurtherWord word) → NothingIs (NamesFurther number word)
none_named number word none row h = none row h.named

pub not_in_class : (number : ℕ) (word : List ℕ) (a : FurtherType) → ((text : List ℕ) (x y : FurtherType) → IsFurtherWord text x → IsFurtherWord text y → x ≡ y) → IsFurtherWord word a → a.in_internet_alone ≡ true → (number ≡ 1 → ⊥) → NothingIs (NamesFurther number word)
not_in_class number word a once is alone other row h =
    other (h.class (ap (λ (f : FurtherType). f.in_internet_alone) (once word row a h.named is) ∙ alone))

pub ruleset further_named = (none_named, not_in_class)

-- ---- the words before the type

pub ruleset class_named = (no_class_value, no_class_word)

pub class_valued : (held number : ℕ) (text : List ℕ) → (HasValue (class text) → ⊥) → HasValue (class text) → IsClassWord text number
class_valued held number text none has = absurd (none has)

class_among_has : (words : List Word) → AllByRecursion HasValue words → IfSome (class_among words) (λ text. HasValue (class text))
class_among_has [] each = tt
class_among_has (ttl text ∷ words) each = class_among_has words each.1
class_among_has (class text ∷ words) each = each.0

class_with : (held number : ℕ) (word : Option (List ℕ)) → IfSome word (λ text. HasValue (class text)) → IsClassIfValued held word number → MatchOption word (number ≡ held) (λ text. IsClassWord text number)
class_with held number None has is = is
class_with held number (Some text) has is = is has

-- the class, where all words have values
class_of_words : (held number : ℕ) (items : List RawItem) (parts : RecordParts) → ArePartsIn (parts_after [] items) parts → AllByRecursion HasValue (parts_after [] items).words → IsClassIfValued held (option_map (λ (t : Bor (List ℕ)). t.now) parts.class) number → IsClassOf held (parts_after [] items).words number
class_of_words held number items parts are each is =
    class_with held number (class_among (parts_after [] items).words) (class_among_has (parts_after [] items).words each) (subst (λ w. IsClassIfValued held w number) (sym are.class) is)

pub bad_ttl : (items : List RawItem) (parts : RecordParts) (text : List ℕ) → (option_map (λ (t : Bor (List ℕ)). t.now) parts.ttl ≡ Some text) × (HasValue (ttl text) → ⊥) → ArePartsIn (parts_after [] items) parts → IsValueless (parts_after [] items).words text
bad_ttl items parts text h are = no_ttl (are.ttl ∙ h.0) h.1

pub bad_class : (items : List RawItem) (parts : RecordParts) (text : List ℕ) → (option_map (λ (t : Bor (List ℕ)). t.now) parts.class ≡ Some text) × (HasValue (class text) → ⊥) → ArePartsIn (parts_after [] items) parts → IsValueless (parts_after [] items).words text
bad_class items parts text h are = no_class (are.class ∙ h.0) h.1

pub both_values : (items : List RawItem) (parts : RecordParts) → IfSome parts.ttl (λ t. HasValue (ttl t.now)) → IfSome parts.class (λ t. HasValue (class t.now)) → ArePartsIn (parts_after [] items) parts → AllByRecursion HasValue (parts_after [] items).words
both_values items parts has_ttl has_class are = all_have items parts has_ttl has_class are

-- what a callee says of the class is so of all
pub class_found : (items : List RawItem) (parts : RecordParts) (result : Option (Bor (List ℕ))) → IfSome result (λ found. (option_map (λ (t : Bor (List ℕ)). t.now) parts.class ≡ Some found.now) × (HasValue (class found.now) → ⊥)) → ArePartsIn (parts_after [] items) parts → IfSome result (λ text. IsValueless (parts_after [] items).words text.now)
class_found items parts None h are = h
class_found items parts (Some text) h are = bad_class items parts text.now h are

pub none_found : (items : List RawItem) (parts : RecordParts) (result : Option (Bor (List ℕ))) → IfSome parts.ttl (λ t. HasValue (ttl t.now)) → IfNone result (IfSome parts.class (λ t. HasValue (class t.now))) → ArePartsIn (parts_after [] items) parts → IfNone result (AllByRecursion HasValue (parts_after [] items).words)
none_found items parts None has_ttl h are = both_values items parts has_ttl h are
none_found items parts (Some text) has_ttl h are = h

pub ruleset head_words = (class_found, none_found, bad_ttl, bad_class)

-- ---- a record

pub valueless_stop : (origin : Labels) (held : ℕ) (all : List DataItem) (after : List Item) (parts : RecordParts) (text : Bor (List ℕ)) (stop : EntryStop) → ArePartsIn (parts_after [] (map raw after)) parts → IsValueless (parts_after [] (map raw after)).words text.now → stop ≡ before_data (Some (bare text.now)) → EndIn (items_of (map given all)) (map raw after) → RecordStops origin held (map given all) (map raw after) stop
valueless_stop origin held all after parts text stop are bad is ends =
    let n : ℕ = length all - length parts.rest.now in
    let last = are_last all (drop n all) (map raw after) parts.rest.now n ends are.rest refl refl in
    record { rest = map given (drop n all); end = last.end; same = last.same; stops = at_word text.now bad is }

pub rest_answer : {E : Type 0} (r : Result code.EntryStop E) (origin : Labels) (held number : ℕ) (all rest : List DataItem) (after : List Item) (parts : RecordParts) (n : ℕ) → n ≡ length all - length parts.rest.now → rest ≡ drop n all → ArePartsIn (parts_after [] (map raw after)) parts → AllByRecursion HasValue (parts_after [] (map raw after)).words → IsClassIfValued held (option_map (λ (t : Bor (List ℕ)). t.now) parts.class) number → IfOk r (λ stop. RestStops origin number (map given rest) (coded_entry stop)) → EndIn (items_of (map given all)) (map raw after) → IfOk r (λ stop. RecordStops origin held (map given all) (map raw after) (coded_entry stop))
rest_answer (Ok stop) origin held number all rest after parts n counted is are each of h ends =
    let last = are_last all rest (map raw after) parts.rest.now n ends are.rest counted is in
    record { rest = map given rest; end = last.end; same = last.same; stops = after_words number each (class_of_words held number (map raw after) parts are each of) h }
rest_answer (Err e) origin held number all rest after parts n counted is are each of h ends = h

pub ruleset record_stops = (valueless_stop, rest_answer)

-- ---- an entry

never_owned : (item : RawItem) (items : List RawItem) (o : RawItem) (a : List RawItem) → directive item items ≡ owned o a → ⊥
never_owned (quoted text) items o a is = cc is
never_owned (bare text) items o a is = grind arith

never_unowned : (item : RawItem) (items a : List RawItem) → directive item items ≡ unowned a → ⊥
never_unowned (quoted text) items a is = cc is
never_unowned (bare text) items a is = grind arith

owned_items : (first : Option ℕ) (items : List RawItem) (o : RawItem) (a : List RawItem) → statement_by first items ≡ owned o a → items ≡ o ∷ a
owned_items first [] o a is = cc is
owned_items None (item ∷ items) o a is = grind arith
owned_items (Some c) (item ∷ items) o a is = grind (arith, never_owned)

unowned_items : (first : Option ℕ) (items a : List RawItem) → statement_by first items ≡ unowned a → items ≡ a
unowned_items first [] a is = cc is
unowned_items None (item ∷ items) a is = cc is
unowned_items (Some c) (item ∷ items) a is = grind (arith, never_unowned)

pub owned_end : (first : Option ℕ) (items : List RawItem) (o : RawItem) (a : List RawItem) → owned o a ≡ statement_by first items → EndIn items a
owned_end first items o a is = (o ∷ [], owned_items first items o a (sym is))

pub unowned_end : (first : Option ℕ) (items a : List RawItem) → unowned a ≡ statement_by first items → EndIn items a
unowned_end first items a is = ([], unowned_items first items a (sym is))

-- a record with an owner, or without
pub owned_answer : {E : Type 0} (r : Result code.EntryStop E) (origin : Labels) (held : ℕ) (first : Option ℕ) (all : List TouchingItem) (o : RawItem) (a : List RawItem) → owned o a ≡ statement_by first (items_of all) → (IsNoOwner origin o → ⊥) → (EndIn (items_of all) a → IfOk r (λ stop. RecordStops origin held all a (coded_entry stop))) → IfOk r (λ stop. EntryStops origin held first all (coded_entry stop))
owned_answer (Ok stop) origin held first all o a is named h =
    let told = h (owned_end first (items_of all) o a is) in
    in_record a told.rest (subst (λ s. AreAfterOwner origin s a) is (named, refl)) told.end told.same told.stops
owned_answer (Err e) origin held first all o a is named h = h (owned_end first (items_of all) o a is)

pub unowned_answer : {E : Type 0} (r : Result code.EntryStop E) (origin : Labels) (held : ℕ) (first : Option ℕ) (all : List TouchingItem) (a : List RawItem) → unowned a ≡ statement_by first (items_of all) → (EndIn (items_of all) a → IfOk r (λ stop. RecordStops origin held all a (coded_entry stop))) → IfOk r (λ stop. EntryStops origin held first all (coded_entry stop))
unowned_answer (Ok stop) origin held first all a is h =
    let told = h (unowned_end first (items_of all) a is) in
    in_record a told.rest (subst (λ s. AreAfterOwner origin s a) is refl) told.end told.same told.stops
unowned_answer (Err e) origin held first all a is h = h (unowned_end first (items_of all) a is)

pub none_answer : (origin : Labels) (held : ℕ) (first : Option ℕ) (all : List TouchingItem) (form : Statement) (found : Option RawItem) (stop : EntryStop) → form ≡ statement_by first (items_of all) → ItemOfNone form found → stop ≡ before_data found → EntryStops origin held first all stop
none_answer origin held first all form found stop is h told = in_no_record found (subst (λ s. ItemOfNone s found) is h) told

-- ---- items alone

pub plain_more : (items : List DataItem) (i : ℕ) (d : DataItem) (plain new : List Item) → i < length items → new ≡ plain ++ (get_or items i d).item ∷ [] → map raw plain ≡ map (λ (x : DataItem). raw x.item) (take i items) → map raw new ≡ map (λ (x : DataItem). raw x.item) (take (i + 1) items)
plain_more items i d plain new less put so_far =
    ap (map raw) put ∙ map-append raw plain ((get_or items i d).item ∷ []) ∙ ap (λ l. l ++ raw (get_or items i d).item ∷ []) so_far
    ∙ sym (map_more (λ (x : DataItem). raw x.item) items i d less)

pub plain_all : (items : List DataItem) (i : ℕ) (plain : List Item) → length items ≤ i → map raw plain ≡ map (λ (x : DataItem). raw x.item) (take i items) → map raw plain ≡ items_of (map given items)
plain_all items i plain past so_far = so_far ∙ ap (map (λ (x : DataItem). raw x.item)) (take_all i items past) ∙ sym (mapped_given items)

-- ---- owners

pub owner_named : (origin : Labels) (owner : RawItem) (text : List ℕ) (name : Labels) → owner ≡ bare text → SpellsCased (Some origin) text name → IsNoOwner origin owner → ⊥
owner_named origin owner text name is spelt none = subst (IsNoOwner origin) is none name spelt

pub owner_unnamed : {E : Type 0} (origin : Labels) (owner : RawItem) (text : List ℕ) (result : Result Labels E) (e : E) → owner ≡ bare text → ((name : Labels) → SpellsCased (Some origin) text name → result ≡ Ok name) → result ≡ Err e → IsNoOwner origin owner
owner_unnamed origin owner text result e is only failed = subst (IsNoOwner origin) (sym is) (λ name spelt. never_both result e name failed (only name spelt))
  where
    never_both : {T F : Type 0} (r : Result T F) (f : F) (x : T) → r ≡ Err f → r ≡ Ok x → ⊥
    never_both r f x bad good = cc (sym bad ∙ good)

-- ---- a TTL

pub ttl_has : (text : Option (Bor (List ℕ))) (stated : Bor (List ℕ)) → text ≡ Some stated → HasValue (ttl stated.now) → IfSome text (λ s. HasValue (ttl s.now))
ttl_has text stated is has = subst (λ t. IfSome t (λ s. HasValue (ttl s.now))) (sym is) has

pub stated_text : (text : Option (Bor (List ℕ))) (stated : Bor (List ℕ)) → text ≡ Some stated → option_map (λ (t : Bor (List ℕ)). t.now) text ≡ Some stated.now
stated_text text stated is = ap (option_map (λ (t : Bor (List ℕ)). t.now)) is

pub class_has : (text : Option (Bor (List ℕ))) (stated : Bor (List ℕ)) (number : ℕ) → text ≡ Some stated → IsClassWord stated.now number → IsClass number → IfSome text (λ s. HasValue (class s.now))
class_has text stated number is word sound = subst (λ t. IfSome t (λ s. HasValue (class s.now))) (sym is) (number, (word, sound))

-- ---- from the type on

pub further_generic : (origin : Labels) (number : ℕ) (word : List ℕ) (touching : List TouchingItem) (plain : List RawItem) (row : FurtherType) (stop : Stop) (marked : Bool) → marked ≡ true → (IsTrue marked ↔ IsGeneric plain) → plain ≡ items_of touching → NamesFurther number word row → GenericStops plain stop → TypeStop origin number word touching (in_data row.number stop)
further_generic origin number word touching plain row stop marked is_marked is same named h =
    in_generic_form row stop named (subst IsGeneric same (when_marked marked (IsGeneric plain) is is_marked)) (subst (λ l. GenericStops l stop) same h)
  where
    when_marked : (b : Bool) (P : Type 0) → (IsTrue b ↔ P) → b ≡ true → P
    when_marked b P iff e = grind arith

pub further_worded : (origin : Labels) (number : ℕ) (word : List ℕ) (touching : List TouchingItem) (plain : List RawItem) (row : FurtherType) (stop : FurtherStop) (marked : Bool) → marked ≡ false → (IsTrue marked ↔ IsGeneric plain) → plain ≡ items_of touching → NamesFurther number word row → FurtherFieldsStop origin (codes "data") (fields_in row.fields touching) touching stop → TypeStop origin number word touching (in_further_data row.number stop)
further_worded origin number word touching plain row stop marked none is same named h =
    in_further row stop named (λ g. not_marked marked (IsGeneric plain) is none (subst IsGeneric (sym same) g)) h

pub laid_named : (origin above : Labels) (number kind told : ℕ) (word : List ℕ) (touching : List TouchingItem) (plain : List RawItem) (stop : Stop) → above ≡ folded origin → told ≡ kind → plain ≡ items_of touching → NothingIs (NamesFurther number word) → IsKindWord word kind → IsKind kind → LaidOutStops above number kind plain stop → TypeStop origin number word touching (in_data told stop)
laid_named origin above number kind told word touching plain stop under is same none named sound h =
    subst (λ k. TypeStop origin number word touching (in_data k stop)) (sym is)
    (in_laid_out kind stop none named sound (subst (λ o. LaidOutStops o number kind (items_of touching) stop) under (subst (λ l. LaidOutStops above number kind l stop) same h)))

-- ---- a class word without a value

pub never_valued : (held number : ℕ) (text : Option (Bor (List ℕ))) (stated : Bor (List ℕ)) → text ≡ Some stated → (HasValue (class stated.now) → ⊥) → IsClassIfValued held (option_map (λ (t : Bor (List ℕ)). t.now) text) number
never_valued held number text stated is none = subst (λ t. IsClassIfValued held (option_map (λ (x : Bor (List ℕ)). x.now) t) number) (sym is) (λ has. absurd (none has))

-- ---- the forms of an entry

-- the items of an entry, and what it states
pub record AreRead (first : Option ℕ) (all : List DataItem) (touching : List TouchingItem) (form : Statement) : Type 0 where
  pub same : map given all ≡ touching
  pub form_is : form ≡ statement_by first (items_of (map given all))

pub are_read : (first : Option ℕ) (all other : List DataItem) (plain shown : List Item) (touching : List TouchingItem) (form : Statement) → map given all ≡ touching → other ≡ all → map raw plain ≡ items_of (map given other) → shown ≡ plain → form ≡ statement_by first (map raw shown) → AreRead first all touching form
are_read first all other plain shown touching form same deref plain_is shown_is is = record {
  same = same;
  form_is = is ∙ ap (statement_by first) (ap (map raw) shown_is ∙ plain_is ∙ ap (λ l. items_of (map given l)) deref);
}

pub none_stops : (origin : Labels) (held : ℕ) (first : Option ℕ) (all : List DataItem) (touching : List TouchingItem) (form : Statement) (found : Option RawItem) → AreRead first all touching form → ItemOfNone form found → EntryStops origin held first touching (before_data found)
none_stops origin held first all touching form found read h = subst (λ t. EntryStops origin held first t (before_data found)) read.same (none_answer origin held first (map given all) form found (before_data found) read.form_is h refl)

pub owner_stops : (origin : Labels) (held : ℕ) (first : Option ℕ) (all : List DataItem) (touching : List TouchingItem) (o : RawItem) (a : List RawItem) → AreRead first all touching (owned o a) → IsNoOwner origin o → EntryStops origin held first touching (before_data (Some o))
owner_stops origin held first all touching o a read h = subst (λ t. EntryStops origin held first t (before_data (Some o))) read.same (at_owner o a (sym read.form_is) h refl)

pub owned_stops : {E : Type 0} (r : Result code.EntryStop E) (origin : Labels) (held : ℕ) (first : Option ℕ) (all other : List DataItem) (touching : List TouchingItem) (o : RawItem) (a : List RawItem) → other ≡ all → AreRead first all touching (owned o a) → (IsNoOwner origin o → ⊥) → (EndIn (items_of (map given other)) a → IfOk r (λ stop. RecordStops origin held (map given other) a (coded_entry stop))) → IfOk r (λ stop. EntryStops origin held first touching (coded_entry stop))
owned_stops r origin held first all other touching o a deref read named h =
    subst (λ t. IfOk r (λ stop. EntryStops origin held first t (coded_entry stop))) read.same
    (owned_answer r origin held first (map given all) o a read.form_is named (subst (λ l. EndIn (items_of (map given l)) a → IfOk r (λ stop. RecordStops origin held (map given l) a (coded_entry stop))) deref h))

pub unowned_stops : {E : Type 0} (r : Result code.EntryStop E) (origin : Labels) (held : ℕ) (first : Option ℕ) (all other : List DataItem) (touching : List TouchingItem) (a : List RawItem) → other ≡ all → AreRead first all touching (unowned a) → (EndIn (items_of (map given other)) a → IfOk r (λ stop. RecordStops origin held (map given other) a (coded_entry stop))) → IfOk r (λ stop. EntryStops origin held first touching (coded_entry stop))
unowned_stops r origin held first all other touching a deref read h =
    subst (λ t. IfOk r (λ stop. EntryStops origin held first t (coded_entry stop))) read.same
    (unowned_answer r origin held first (map given all) a read.form_is (subst (λ l. EndIn (items_of (map given l)) a → IfOk r (λ stop. RecordStops origin held (map given l) a (coded_entry stop))) deref h))
