-- The record of a further type that an entry is, found from the items that are kept of it.
use Rattle.zone_words.proofs.Common.{AllByRecursion, Bool, Cuts, Entry, FindsParts, FurtherType, Inherited, IsCasedOrigin, IsClassWord, IsFurtherRecord, IsGeneric, IsInherited, IsInternetAfter, IsOneOrNone, IsRecordOf, Labels, List, MatchOption, NamesOrigin, None, NoneIsFurther, Option, Parts, RawItem, Some, Statement, Token, [], ap, arith, class_among, class_word, entry_of, flat_map, generic_mark, in_class, includes, inl, inr, item_of, latest, length, map, most_items, option_and_then, option_or, origin_items, owned, parts_in, raw, refl, sets_origin, sets_ttl, slice_get, statement_by, statement_of, subst, sym, text, true, unknown, unowned, ℕ, ◌<◌, ◌↔◌, ◌∙◌, ◌∷◌, ◌≡◌, ◌≤◌}
use Rattle.zone_rdata.proofs.Items.LeftOut.{are_many, begin_with}
use Rattle.zone_rdata.specs.Item.{bare, quoted}
use Rattle.zone_rdata.specs.LeftOut.{AreShortened}
use Rattle.zone_text.proofs.Entries.Kept.{items_written}
use Rattle.zone_text.proofs.Entries.KeptEntry.{IsLong, LongForms, forms_long, shown}
use Rattle.zone_text.specs.Kept.{AreKept}
use Rattle.zone_text.specs.Records.{HasValue}
use Rattle.zone_text.specs.Statements.{no_items}
use Rattle.zone_words.specs.declared.further.FurtherRecord.{FurtherRecord}

-- ---- the parts of all items, and those of the items that are kept

-- of an entry of n items
pub record AreAlike (n : ℕ) (full kept : Parts) : Type 0 where
  pub words : full.words ≡ kept.words
  pub few : n < most_items → full.rest ≡ kept.rest
  pub further : (word : List ℕ) (items : List RawItem) → kept.rest ≡ bare word ∷ items → (all : List RawItem) × (full.rest ≡ bare word ∷ all) × (IsGeneric all ↔ IsGeneric items)
  pub back : (word : List ℕ) (all : List RawItem) → full.rest ≡ bare word ∷ all → (items : List RawItem) × (kept.rest ≡ bare word ∷ items)

alike_same : (n : ℕ) (parts : Parts) → AreAlike n parts parts
alike_same n parts = record {
  words = refl;
  few = λ less. refl;
  further = λ word items e. (items, e, (λ g. g, λ g. g));
  back = λ word all e. (all, e);
}

generic_too : (item : RawItem) (a b x y : List RawItem) → a ≡ item ∷ x → b ≡ item ∷ y → IsGeneric a → IsGeneric b
generic_too item a b x y p q g = (y, (let e : item ∷ x ≡ generic_mark ∷ g.0 = sym p ∙ g.1 in let same : item ≡ generic_mark = cc e in q ∙ ap (λ i. i ∷ y) same))

alike_rest : (full kept : List RawItem) (word : List ℕ) (items : List RawItem) → AreShortened 65548 full kept → kept ≡ bare word ∷ items → (all : List RawItem) × (full ≡ bare word ∷ all) × (IsGeneric all ↔ IsGeneric items)
alike_rest full kept word items short e =
    let one = begin_with 65548 65547 full kept (omega arith) short in
    let same : one.item ∷ one.others ≡ bare word ∷ items = sym one.are_kept ∙ e in
    let first : one.item ≡ bare word = cc same in
    let rest : one.others ≡ items = cc same in
    let two = begin_with 65547 65546 one.rest one.others (omega arith) one.short in
    let second : items ≡ two.item ∷ two.others = sym rest ∙ two.are_kept in
    (one.rest, one.whole ∙ ap (λ i. i ∷ one.rest) first, (generic_too two.item one.rest items two.rest two.others two.whole second, generic_too two.item items one.rest two.others two.rest second two.whole))

kept_rest : (full kept : List RawItem) (word : List ℕ) (all : List RawItem) → AreShortened 65548 full kept → full ≡ bare word ∷ all → (items : List RawItem) × (kept ≡ bare word ∷ items)
kept_rest full kept word all short e =
    let one = begin_with 65548 65547 full kept (omega arith) short in
    let same : one.item ∷ one.rest ≡ bare word ∷ all = sym one.whole ∙ e in
    let first : one.item ≡ bare word = cc same in
    (one.others, one.are_kept ∙ ap (λ i. i ∷ one.others) first)

alike_long : (n : ℕ) (full kept : Parts) → most_items ≤ n → full.words ≡ kept.words → AreShortened 65548 full.rest kept.rest → AreAlike n full kept
alike_long n full kept many words short = record {
  words = words;
  few = λ less. absurd (omega (arith, many, less));
  further = λ word items e. alike_rest full.rest kept.rest word items short e;
  back = λ word all e. kept_rest full.rest kept.rest word all short e;
}

-- ---- the forms

-- two forms of an entry of n items
pub record AlikeForms (n : ℕ) (full kept : Statement) : Type 0 where
  pub some : (parts : Parts) → parts_in kept ≡ Some parts → (all : Parts) × (parts_in full ≡ Some all) × AreAlike n all parts
  pub none : parts_in kept ≡ None → parts_in full ≡ None
  pub origin : (origin : Labels) (before : List Entry) (name : Labels) → MatchOption (origin_items kept) (IsCasedOrigin origin before name) (λ items. (above : Labels) × IsCasedOrigin origin before above × NamesOrigin above items name) ↔ MatchOption (origin_items full) (IsCasedOrigin origin before name) (λ items. (above : Labels) × IsCasedOrigin origin before above × NamesOrigin above items name)

abbrev OriginAfter : Labels → List Entry → Statement → Labels → Type 0
OriginAfter origin before form name =
    MatchOption (origin_items form) (IsCasedOrigin origin before name)
    (λ items. (above : Labels) × IsCasedOrigin origin before above × NamesOrigin above items name)

no_name : (above : Labels) (items : List RawItem) (name : Labels) → IsLong (sets_origin items) → NamesOrigin above items name → ⊥
no_name above [] name long is = is
no_name above (bare text ∷ []) name long is = absurd cc
no_name above (bare text ∷ item ∷ items) name long is = is
no_name above (quoted text ∷ items) name long is = is

to_shown : (origin : Labels) (before : List Entry) (name : Labels) (form : Statement) → IsLong form → OriginAfter origin before form name → OriginAfter origin before (shown form) name
to_shown origin before name no_items long is = is
to_shown origin before name (sets_origin items) long is = absurd (no_name is.0 items name long is.2)
to_shown origin before name (sets_ttl items) long is = is
to_shown origin before name includes long is = is
to_shown origin before name unknown long is = is
to_shown origin before name (owned owner items) long is = is
to_shown origin before name (unowned items) long is = is

from_shown : (origin : Labels) (before : List Entry) (name : Labels) (form : Statement) → OriginAfter origin before (shown form) name → OriginAfter origin before form name
from_shown origin before name no_items is = is
from_shown origin before name (sets_origin items) is = absurd is.2
from_shown origin before name (sets_ttl items) is = is
from_shown origin before name includes is = is
from_shown origin before name unknown is = is
from_shown origin before name (owned owner items) is = is
from_shown origin before name (unowned items) is = is

none_alike : (form : Statement) → (parts_in form ≡ None → parts_in (shown form) ≡ None) × (parts_in (shown form) ≡ None → parts_in form ≡ None)
none_alike no_items = (λ e. refl, λ e. refl)
none_alike (sets_origin items) = (λ e. refl, λ e. refl)
none_alike (sets_ttl items) = (λ e. refl, λ e. refl)
none_alike includes = (λ e. refl, λ e. refl)
none_alike unknown = (λ e. refl, λ e. refl)
none_alike (owned owner items) = (λ e. absurd cc, λ e. absurd cc)
none_alike (unowned items) = (λ e. absurd cc, λ e. absurd cc)

forms_alike : (n : ℕ) (full kept : Statement) → most_items ≤ n → LongForms full kept → AlikeForms n full kept
forms_alike n full kept many h = record {
  some = λ parts e. (let f = h.parts parts e in (f.parts, f.split, alike_long n f.parts parts many f.long.words f.long.long.short));
  none = λ e. (none_alike full).1 (ap parts_in (sym h.same) ∙ (none_alike kept).0 e);
  origin = λ origin before name. (
    λ is. from_shown origin before name full (subst (λ form. OriginAfter origin before form name) h.same (to_shown origin before name kept h.other_long is)),
    λ is. from_shown origin before name kept (subst (λ form. OriginAfter origin before form name) (sym h.same) (to_shown origin before name full h.long is)),
  );
}

same_forms : (n : ℕ) (form : Statement) → AlikeForms n form form
same_forms n form = record {
  some = λ parts e. (parts, e, alike_same n parts);
  none = λ e. e;
  origin = λ origin before name. (λ is. is, λ is. is);
}

-- the entry's form, and the form of the items that are kept of it
pub kept_forms : (octets : List ℕ) (tokens : List Token) (line : ℕ) (kept : List RawItem) → Cuts octets tokens → AreKept (flat_map item_of tokens) kept → AlikeForms (length (flat_map item_of tokens)) (statement_of (entry_of line tokens)) (statement_by (slice_get octets 0) kept)
kept_forms octets tokens line kept cut (inl all) =
    let same : statement_of (entry_of line tokens) ≡ statement_by (slice_get octets 0) kept = ap (λ t. statement_by (slice_get t 0) (flat_map item_of tokens)) (sym cut.whole) ∙ ap (λ t. statement_by (slice_get octets 0) t) (sym all) in
    subst (λ form. AlikeForms (length (flat_map item_of tokens)) (statement_of (entry_of line tokens)) form) same (same_forms (length (flat_map item_of tokens)) (statement_of (entry_of line tokens)))
kept_forms octets tokens line kept cut (inr short) =
    let items : List RawItem = flat_map item_of tokens in
    let long = forms_long (slice_get (text tokens) 0) items kept (record { short = short; written = items_written tokens cut.each }) in
    subst (λ t. AlikeForms (length items) (statement_of (entry_of line tokens)) (statement_by (slice_get t 0) kept)) (sym cut.whole)
    (forms_alike (length items) (statement_of (entry_of line tokens)) (statement_by (slice_get (text tokens) 0) kept) (are_many 65552 items kept short).0 long)

-- ---- what the entry leaves

class_by : (n : ℕ) (full kept : Statement) (o : Option Parts) → parts_in kept ≡ o → AlikeForms n full kept → class_word full ≡ class_word kept
class_by n full kept None e alike = ap (option_and_then (λ (p : Parts). class_among p.words)) (alike.none e ∙ sym e)
class_by n full kept (Some parts) e alike =
    let f = alike.some parts e in
    ap (option_and_then (λ (p : Parts). class_among p.words)) f.1 ∙ ap class_among f.2.words ∙ ap (option_and_then (λ (p : Parts). class_among p.words)) (sym e)

pub same_class : (n : ℕ) (full kept : Statement) → AlikeForms n full kept → class_word full ≡ class_word kept
same_class n full kept alike = class_by n full kept (parts_in kept) refl alike

one_or_none : (A B : Labels → Type 0) (o : Option Labels) → ((name : Labels) → A name ↔ B name) → IsOneOrNone A o → IsOneOrNone B o
one_or_none A B None both is = λ name b. is name ((both name).1 b)
one_or_none A B (Some name) both is = (both name).0 is

-- what is so of the items that are kept is so of the entry
pub leaves_too : (origin : Labels) (before : List Entry) (full kept : Entry) (n : ℕ) (left : Inherited) → AlikeForms n (statement_of full) (statement_of kept) → IsInherited origin (kept ∷ before) left → IsInherited origin (full ∷ before) left
leaves_too origin before full kept n left alike has = record {
  under = one_or_none (IsCasedOrigin origin (kept ∷ before)) (IsCasedOrigin origin (full ∷ before)) left.origin (alike.origin origin before) has.under;
  internet = subst (λ w. IsInternetAfter (option_or w (latest class_word before)) true left.is_internet) (sym (same_class n (statement_of full) (statement_of kept) alike)) has.internet;
}

-- ---- the record

pub internet_is_class : (word : Option (List ℕ)) (is : Bool) → IsInternetAfter word true is → (is ≡ true) ↔ MatchOption word (in_class ≡ 1) (λ text. IsClassWord text in_class)
internet_is_class None is i = (λ e. refl, λ e. i)
internet_is_class (Some text) is i = i

few_same : (word : List ℕ) (all items full kept : List RawItem) → full ≡ bare word ∷ all → kept ≡ bare word ∷ items → full ≡ kept → all ≡ items
few_same word all items full kept p q e = let same : bare word ∷ all ≡ bare word ∷ items = sym p ∙ e ∙ q in cc same

pub record_there : (origin : Labels) (before : List Entry) (line : ℕ) (tokens : List Token) (kept : Statement) (left : Inherited) (parts : Parts) (found : FurtherRecord) → AlikeForms (length (flat_map item_of tokens)) (statement_of (entry_of line tokens)) kept → IsInherited origin (entry_of line tokens ∷ before) left → parts_in kept ≡ Some parts → FindsParts parts left.is_internet found → IsRecordOf before (entry_of line tokens) found
record_there origin before line tokens kept left parts found alike has split finds =
    let f = alike.some parts split in
    let all = f.2.further found.word.now (map raw found.items.now) finds.from_type in
    record {
      all = all.0;
      is = record {
        parts = f.0;
        split = f.1;
        values = subst (AllByRecursion HasValue) (sym f.2.words) finds.values;
        from_type = all.1;
        named = finds.named;
        class = λ alone. (internet_is_class (latest class_word (entry_of line tokens ∷ before)) left.is_internet has.internet).0 (finds.class alone);
      };
      generic = all.2;
      few = λ less. few_same found.word.now all.0 (map raw found.items.now) f.0.rest parts.rest all.1 finds.from_type (f.2.few less);
    }

pub none_by : (origin : Labels) (before : List Entry) (line : ℕ) (tokens : List Token) (kept : Statement) (left : Inherited) (o : Option Parts) → parts_in kept ≡ o → AlikeForms (length (flat_map item_of tokens)) (statement_of (entry_of line tokens)) kept → IsInherited origin (entry_of line tokens ∷ before) left → ((parts : Parts) → parts_in kept ≡ Some parts → NoneIsFurther parts left.is_internet) → (word : List ℕ) (all : List RawItem) (further : FurtherType) → IsFurtherRecord before (entry_of line tokens) word all further → ⊥
none_by origin before line tokens kept left None e alike has none word all further is = let bad : Some is.parts ≡ None = sym is.split ∙ alike.none e in absurd cc
none_by origin before line tokens kept left (Some parts) e alike has none word all further is =
    let f = alike.some parts e in
    let q : Some f.0 ≡ Some is.parts = sym f.1 ∙ is.split in
    let same : f.0 ≡ is.parts = cc q in
    let items = f.2.back word all (ap (λ (p : Parts). p.rest) same ∙ is.from_type) in
    none parts e word items.0 further (record {
      values = subst (AllByRecursion HasValue) (ap (λ (p : Parts). p.words) (sym same) ∙ f.2.words) is.values;
      from_type = items.1;
      named = is.named;
      class = λ alone. (internet_is_class (latest class_word (entry_of line tokens ∷ before)) left.is_internet has.internet).1 (is.class alone);
    })
