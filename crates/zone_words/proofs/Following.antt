-- What an entry leaves to those after it.
use Rattle.zone_words.proofs.Common.{Bool, Entry, Inherited, IsCasedOrigin, IsInherited, IsInternetAfter, IsOneOrNone, Item, Labels, List, NamesOrigin, None, Option, Parts, RawItem, Some, SpellsCased, [], ap, arith, class_among, class_word, latest, length, map, option_map, option_or, origin_items, raw, refl, sets_origin, statement_of, subst, sym, true, ℕ, ◌<◌, ◌∙◌, ◌∷◌, ◌≡◌}
use Rattle.zone_rdata.specs.Item.{bare}
use Rattle.zone_text.specs.declared.parts.RecordParts.{RecordParts}
use Rattle.zone_words.proofs.Turns.{no_origin}
use Rattle.zone_words.specs.Machine.Further.{HasParts}
use Rattle.std.specs.Prelude.{option_and_then}
use Rattle.zone_words.proofs.Origins.{OriginAfter}

class_next : (word last : Option (List ℕ)) (was is : Bool) → IsInternetAfter last true was → IsInternetAfter word was is → IsInternetAfter (option_or word last) true is
class_next None None was is before after = after ∙ before
class_next None (Some text) was is before after = subst (λ b. IsInternetAfter (Some text) true b) (sym after) before
class_next (Some text) last was is before after = after

-- a record
pub record_follows : (origin : Labels) (before : List Entry) (entry : Entry) (was next : Inherited) (parts : RecordParts) (word : Option (List ℕ)) → next.origin ≡ was.origin → HasParts (statement_of entry) parts → word ≡ option_map (λ text. text.now) parts.class → IsInternetAfter word was.is_internet next.is_internet → IsInherited origin before was → IsInherited origin (entry ∷ before) next
record_follows origin before entry was next parts word same record_has is after has = record {
  under = subst (IsOneOrNone (IsCasedOrigin origin (entry ∷ before))) (sym same) (subst (λ items. IsOneOrNone (OriginAfter origin before items) was.origin) (sym (no_origin (statement_of entry) _ record_has.split)) has.under);
  internet = (let w : class_word (statement_of entry) ≡ word = ap (option_and_then (λ (p : Parts). class_among p.words)) record_has.split ∙ record_has.are.class ∙ sym is in subst (λ t. IsInternetAfter (option_or t (latest class_word before)) true next.is_internet) (sym w) (class_next word (latest class_word before) was.is_internet next.is_internet has.internet after));
}

next_under : (origin : Labels) (before : List Entry) (items : List RawItem) (was found : Option Labels) → IsOneOrNone (IsCasedOrigin origin before) was → ((a b : Labels) → IsCasedOrigin origin before a → IsCasedOrigin origin before b → a ≡ b) → IsOneOrNone (λ name. (held : Labels) × (was ≡ Some held) × NamesOrigin held items name) found → IsOneOrNone (λ name. (above : Labels) × IsCasedOrigin origin before above × NamesOrigin above items name) found
next_under origin before items None None has once next = λ name is. has is.0 is.1
next_under origin before items (Some held) None has once next = λ name is. next name (held, refl, subst (λ a. NamesOrigin a items name) (once is.0 held is.1 has) is.2)
next_under origin before items None (Some name) has once next = absurd (let none : None ≡ Some next.0 = next.1 in cc)
next_under origin before items (Some held) (Some name) has once next = (held, has, (let same : held ≡ next.0 = cc (next.1) in subst (λ a. NamesOrigin a items name) (sym same) next.2))

-- one bare item names it
pub named_by : (above : Labels) (items : List RawItem) (text : List ℕ) (rest : List Item) (found : Option Labels) → items ≡ bare text ∷ map raw rest → length rest < 1 → IsOneOrNone (SpellsCased (Some above) text) found → IsOneOrNone (NamesOrigin above items) found
named_by above items text [] found is few spelt = subst (λ i. IsOneOrNone (NamesOrigin above i) found) (sym is) spelt
named_by above items text (item ∷ rest) found is few spelt = absurd (omega (arith, few))

-- `$ORIGIN`
pub origin_follows : (origin : Labels) (before : List Entry) (entry : Entry) (was next : Inherited) (items : List RawItem) → statement_of entry ≡ sets_origin items → next.is_internet ≡ was.is_internet → IsOneOrNone (λ name. (held : Labels) × (was.origin ≡ Some held) × NamesOrigin held items name) next.origin → ((a b : Labels) → IsCasedOrigin origin before a → IsCasedOrigin origin before b → a ≡ b) → IsInherited origin before was → IsInherited origin (entry ∷ before) next
origin_follows origin before entry was next items is same named once has = record {
  under = subst (λ o. IsOneOrNone (OriginAfter origin before o) next.origin) (sym (ap origin_items is)) (next_under origin before items was.origin next.origin has.under once named);
  internet = rw is (subst (λ b. IsInternetAfter (latest class_word before) true b) (sym same) has.internet);
}
