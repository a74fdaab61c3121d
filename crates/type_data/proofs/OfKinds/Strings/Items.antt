-- Items that are strings, item after item.
use Rattle.type_data.proofs.Common.{AppendsStated, DataItem, List, RawItem, WordsFault, [], ap, append-nil, append_assoc, arith, drop, drop_all, flat_map, from_place, get_or, inl, inr, length, length-map, map, raw_item, refl, subst, sym, with_length, ℕ, ◌++◌, ◌+◌, ◌<◌, ◌∙◌, ◌∷◌, ◌≡◌, ◌≤◌}
use Rattle.zone_rdata.proofs.Strings.StringLaws.{string-once}
use Rattle.zone_rdata.proofs.Items.Values.{HaveSpelt}
use Rattle.zone_rdata.specs.Appended.{Appends}
use Rattle.zone_rdata.proofs.Octets.Each.{SpellEachString}
use Rattle.type_data.specs.Kinds.Strings.{FailsString, FailsStrings, StatesString, StatesStrings}

one_more : (all left : List RawItem) (r : RawItem) (old now new : List ℕ) → HaveSpelt all (r ∷ left) old now → AppendsStated (StatesString r) now new → HaveSpelt all left old new
one_more all left r old now new read h =
    let grown : new ≡ now ++ with_length h.stated.string = h.written ∙ ap (λ o. now ++ o) h.stated.value in
    record {
      leads = λ many each. subst (Appends (SpellEachString all) (flat_map with_length) old)
          (sym (ap (λ o. o ++ flat_map with_length many) grown ∙ append_assoc now (with_length h.stated.string) (flat_map with_length many)))
          (read.leads (h.stated.string ∷ many) (h.stated.spelt, each));
      fault = λ fault bad. read.fault fault (inr (h.stated.string, h.stated.spelt, bad));
    }

pub string_appended : (items : List DataItem) (i : ℕ) (item d : DataItem) (old now new : List ℕ) → i < length items → item ≡ get_or items i d → HaveSpelt (map raw_item items) (map raw_item (drop i items)) old now → AppendsStated (StatesString (raw_item item)) now new → HaveSpelt (map raw_item items) (map raw_item (drop (i + 1) items)) old new
string_appended items i item d old now new lt is read h =
    one_more (map raw_item items) (map raw_item (drop (i + 1) items)) (raw_item item) old now new
    (subst (λ rest. HaveSpelt (map raw_item items) (map raw_item rest) old now) (from_place items i item d lt is) read) h

one_fails : (all left : List RawItem) (r : RawItem) (old now : List ℕ) (fault : WordsFault) → HaveSpelt all (r ∷ left) old now → FailsString r fault → FailsStrings all fault
one_fails [] left r old now fault read h = absurd (read.fault h.own (inl h.first))
one_fails (first ∷ all) left r old now fault read h = record { own = h.own; first = read.fault h.own (inl h.first); is = h.is }

pub string_fails : (items : List DataItem) (i : ℕ) (item d : DataItem) (old now : List ℕ) (fault : WordsFault) → i < length items → item ≡ get_or items i d → HaveSpelt (map raw_item items) (map raw_item (drop i items)) old now → FailsString (raw_item item) fault → FailsStrings (map raw_item items) fault
string_fails items i item d old now fault lt is read h =
    one_fails (map raw_item items) (map raw_item (drop (i + 1) items)) (raw_item item) old now fault
    (subst (λ rest. HaveSpelt (map raw_item items) (map raw_item rest) old now) (from_place items i item d lt is) read) h

pub strings_appended : (items : List DataItem) (i : ℕ) (old now : List ℕ) → 0 < length items → length items ≤ i → HaveSpelt (map raw_item items) (map raw_item (drop i items)) old now → AppendsStated (StatesStrings (map raw_item items)) old now
strings_appended items i old now some past read =
    let done : HaveSpelt (map raw_item items) [] old now = subst (λ rest. HaveSpelt (map raw_item items) (map raw_item rest) old now) (drop_all i items past) read in
    let h = done.leads [] tt in
    record {
      octets = flat_map with_length h.value;
      stated = record { strings = h.value; spelt = record { some = omega (arith, length-map items raw_item); each = h.stated }; value = refl };
      written = sym (append-nil now) ∙ h.written;
    }

-- ---- an item is one string at most, and none that fails

pub string_once : (item : RawItem) (a b : List ℕ) → StatesString item a → StatesString item b → a ≡ b
string_once item a b p q = p.value ∙ ap with_length (string-once item p.string q.string p.spelt q.spelt) ∙ sym q.value

many_once : (items : List RawItem) (a b : List (List ℕ)) → SpellEachString items a → SpellEachString items b → a ≡ b
many_once [] [] [] p q = refl
many_once (item ∷ items) (s ∷ a) (t ∷ b) p q = cc (string-once item s t p.0 q.0, many_once items a b p.1 q.1)
many_once [] (s ∷ a) b p q = absurd p
many_once [] [] (t ∷ b) p q = absurd q
many_once (item ∷ items) [] b p q = absurd p
many_once (item ∷ items) (s ∷ a) [] p q = absurd q

pub strings_once : (items : List RawItem) (a b : List ℕ) → StatesStrings items a → StatesStrings items b → a ≡ b
strings_once items a b p q = p.value ∙ ap (flat_map with_length) (many_once items p.strings q.strings p.spelt.each q.spelt.each) ∙ sym q.value
