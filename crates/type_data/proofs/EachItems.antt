-- Items that state octets, item after item.
use Rattle.type_data.proofs.Common.{AllZip, AppendsStated, DataItem, List, RawItem, WordsFault, [], ap, append-nil, append_assoc, drop, drop_all, flat_map, from_place, get_or, inl, inr, length, map, raw_item, refl, subst, sym, ℕ, ◌++◌, ◌+◌, ◌<◌, ◌∙◌, ◌∷◌, ◌≡◌, ◌≤◌}
use Rattle.type_data.specs.EachItem.{EachStates, OneFails}

abbrev whole : List (List ℕ) → List ℕ
whole parts = flat_map (λ part. part) parts

-- items before others were read: what the others state and the first that fails is so of all
pub record HaveStated (States : RawItem → List ℕ → Type 0) (Fails : RawItem → WordsFault → Type 0) (items others : List RawItem) (old now : List ℕ) : Type 0 where
  pub leads : (parts : List (List ℕ)) → AllZip States others parts → (all : List (List ℕ)) × (each : AllZip States items all) × (now ++ whole parts ≡ old ++ whole all)
  pub fails : (fault : WordsFault) → OneFails States Fails others fault → OneFails States Fails items fault

pub none_read : (States : RawItem → List ℕ → Type 0) (Fails : RawItem → WordsFault → Type 0) (items : List RawItem) (old : List ℕ) → HaveStated States Fails items items old old
none_read States Fails items old = record { leads = λ parts each. (parts, each, refl); fails = λ fault bad. bad }

one_more : (States : RawItem → List ℕ → Type 0) (Fails : RawItem → WordsFault → Type 0) (items others : List RawItem) (item : RawItem) (old now new : List ℕ) → HaveStated States Fails items (item ∷ others) old now → AppendsStated (States item) now new → HaveStated States Fails items others old new
one_more States Fails items others item old now new have h = record {
  leads = λ parts each.
      let all = have.leads (h.octets ∷ parts) (h.stated, each) in
      (all.0, all.1, ap (λ o. o ++ whole parts) h.written ∙ append_assoc now h.octets (whole parts) ∙ all.2);
  fails = λ fault bad. have.fails fault (inr (h.octets, h.stated, bad));
}

pub item_read : (States : RawItem → List ℕ → Type 0) (Fails : RawItem → WordsFault → Type 0) (items : List DataItem) (i : ℕ) (item d : DataItem) (old now new : List ℕ) → i < length items → item ≡ get_or items i d → HaveStated States Fails (map raw_item items) (map raw_item (drop i items)) old now → AppendsStated (States (raw_item item)) now new → HaveStated States Fails (map raw_item items) (map raw_item (drop (i + 1) items)) old new
item_read States Fails items i item d old now new lt is have h =
    one_more States Fails (map raw_item items) (map raw_item (drop (i + 1) items)) (raw_item item) old now new
    (subst (λ rest. HaveStated States Fails (map raw_item items) (map raw_item rest) old now) (from_place items i item d lt is) have) h

pub item_fails : (States : RawItem → List ℕ → Type 0) (Fails : RawItem → WordsFault → Type 0) (items : List DataItem) (i : ℕ) (item d : DataItem) (old now : List ℕ) (fault : WordsFault) → i < length items → item ≡ get_or items i d → HaveStated States Fails (map raw_item items) (map raw_item (drop i items)) old now → Fails (raw_item item) fault → OneFails States Fails (map raw_item items) fault
item_fails States Fails items i item d old now fault lt is have h =
    let here : HaveStated States Fails (map raw_item items) (raw_item item ∷ map raw_item (drop (i + 1) items)) old now = subst (λ rest. HaveStated States Fails (map raw_item items) (map raw_item rest) old now) (from_place items i item d lt is) have in
    here.fails fault (inl h)

pub all_read : (States : RawItem → List ℕ → Type 0) (Fails : RawItem → WordsFault → Type 0) (items : List DataItem) (i : ℕ) (old now : List ℕ) → length items ≤ i → HaveStated States Fails (map raw_item items) (map raw_item (drop i items)) old now → AppendsStated (EachStates States (map raw_item items)) old now
all_read States Fails items i old now past have =
    let done : HaveStated States Fails (map raw_item items) [] old now = subst (λ rest. HaveStated States Fails (map raw_item items) (map raw_item rest) old now) (drop_all i items past) have in
    let all = done.leads [] tt in
    record {
      octets = whole all.0;
      stated = record { parts = all.0; each = all.1; value = refl };
      written = sym (append-nil now) ∙ all.2;
    }

-- ---- one list of octets at most, or one fault

parts_once : (States : RawItem → List ℕ → Type 0) → ((item : RawItem) (a b : List ℕ) → States item a → States item b → a ≡ b) → (items : List RawItem) (a b : List (List ℕ)) → AllZip States items a → AllZip States items b → a ≡ b
parts_once States once [] [] [] p q = refl
parts_once States once [] (x ∷ a) b p q = absurd p
parts_once States once [] [] (y ∷ b) p q = absurd q
parts_once States once (item ∷ items) [] b p q = absurd p
parts_once States once (item ∷ items) (x ∷ a) [] p q = absurd q
parts_once States once (item ∷ items) (x ∷ a) (y ∷ b) p q = cc (once item x y p.0 q.0, parts_once States once items a b p.1 q.1)

pub each_once : (States : RawItem → List ℕ → Type 0) → ((item : RawItem) (a b : List ℕ) → States item a → States item b → a ≡ b) → (items : List RawItem) (a b : List ℕ) → EachStates States items a → EachStates States items b → a ≡ b
each_once States once items a b p q = p.value ∙ ap whole (parts_once States once items p.parts q.parts p.each q.each) ∙ sym q.value

never : (States : RawItem → List ℕ → Type 0) (Fails : RawItem → WordsFault → Type 0) → ((item : RawItem) (octets : List ℕ) (fault : WordsFault) → States item octets → Fails item fault → ⊥) → (items : List RawItem) (parts : List (List ℕ)) (fault : WordsFault) → AllZip States items parts → OneFails States Fails items fault → ⊥
never States Fails or_fault [] parts fault p bad = bad
never States Fails or_fault (item ∷ items) [] fault p bad = p
never States Fails or_fault (item ∷ items) (x ∷ parts) fault p (inl bad) = or_fault item x fault p.0 bad
never States Fails or_fault (item ∷ items) (x ∷ parts) fault p (inr later) = never States Fails or_fault items parts fault p.1 later.2

pub each_or_fault : (States : RawItem → List ℕ → Type 0) (Fails : RawItem → WordsFault → Type 0) → ((item : RawItem) (octets : List ℕ) (fault : WordsFault) → States item octets → Fails item fault → ⊥) → (items : List RawItem) (octets : List ℕ) (fault : WordsFault) → EachStates States items octets → OneFails States Fails items fault → ⊥
each_or_fault States Fails or_fault items octets fault p bad = never States Fails or_fault items p.parts fault p.each bad

pub each_fault_once : (States : RawItem → List ℕ → Type 0) (Fails : RawItem → WordsFault → Type 0) → ((item : RawItem) (octets : List ℕ) (fault : WordsFault) → States item octets → Fails item fault → ⊥) → ((item : RawItem) (a b : WordsFault) → Fails item a → Fails item b → a ≡ b) → (items : List RawItem) (a b : WordsFault) → OneFails States Fails items a → OneFails States Fails items b → a ≡ b
each_fault_once States Fails or_fault once [] a b p q = absurd p
each_fault_once States Fails or_fault once (item ∷ items) a b (inl p) (inl q) = once item a b p q
each_fault_once States Fails or_fault once (item ∷ items) a b (inl p) (inr q) = absurd (or_fault item q.0 a q.1 p)
each_fault_once States Fails or_fault once (item ∷ items) a b (inr p) (inl q) = absurd (or_fault item p.0 b p.1 q)
each_fault_once States Fails or_fault once (item ∷ items) a b (inr p) (inr q) = each_fault_once States Fails or_fault once items a b p.2 q.2
