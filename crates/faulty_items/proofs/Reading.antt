-- Fields of data, read one after another.
use Rattle.faulty_items.proofs.Common.{Bool, Bor, CanGoOn, codes, Err, false, IsGeneric, IsTrue, Ok, Result, DataFails, DataItem, FurtherFieldsStop, FurtherStop, Item, Labels, List, NamedField, None, Option, RawItem, Some, StateItsData, StatesData, StopsAt, TouchingItem, WordsFault, [], add-one, ap, arith, drop, drop-drop, drop_all, further_stop, given, inl, inr, joined, length, length-drop, length-map, map, option_map, raw, refl, slice_get, subst, suc, sym, take, take-map, take_all, zero, ℕ, ◌+◌, ◌-◌, ◌<◌, ◌∙◌, ◌∷◌, ◌≡◌, ◌≤◌}
use Rattle.std.proofs.lemmas.List.{drop-map}
use Rattle.type_data.specs.Field.{items_after, own_count, own_items}
use Rattle.type_data.specs.Data.{IfDataFault}
use Rattle.type_data.specs.declared.data.DataFailing.{DataFailing}
use Rattle.type_data.specs.declared.data.DataFailing.TheVariants as failings
use Rattle.type_data.specs.declared.field.FieldKind.{FieldKind}
use Rattle.zone_rdata.specs.Field as laid
use Rattle.zone_rdata.specs.declared.field.Field as laid_field
use Rattle.zone_rdata.specs.declared.field.Field.TheVariants as fields
use Rattle.std.specs.Prelude.{IfOk, ◌↔◌}
use Rattle.zone_rdata.specs.Layout.{layout}
use Rattle.faulty_items.specs.FieldNames.{field_name}
use Rattle.faulty_items.specs.LaidOutStop.{FieldsStop, LaidOutStops, SpellAValue, in_words}
use Rattle.faulty_items.specs.Coded.{coded_stop}
use Rattle.faulty_items.specs.Machine.FurtherReading.{IsStopIn}
use Rattle.faulty_items.specs.declared.further.FurtherStop as code
use Rattle.faulty_items.specs.Machine.LaidOutReading.{AreOwn, StopIn}
use Rattle.faulty_items.specs.Stop.{Stop, stop_at, stop_of}
use Rattle.faulty_items.specs.declared.stop.DataStop.{DataStop}

-- ---- the fields of a layout

-- the fields before a place were read: where the others stop all stop
pub record LaidRead (origin : Labels) (name_at : ℕ → List ℕ) (fields : List laid_field.Field) (items : List RawItem) (place taken : ℕ) (last first : List ℕ) : Type 0 where
  pub leads : (stop : Stop) → FieldsStop origin name_at place last (drop place fields) (drop taken items) stop → FieldsStop origin name_at 0 first fields items stop

pub field_there : {A : Type 0} (fields : List A) (place : ℕ) (f : A) → slice_get fields place ≡ Some f → drop place fields ≡ f ∷ drop (suc place) fields
field_there [] place f there = absurd cc
field_there (g ∷ fields) zero f there = let same : g ≡ f = cc there in ap (λ x. x ∷ fields) same
field_there (g ∷ fields) (suc place) f there = field_there fields place f there

pub none_there : {A : Type 0} (fields : List A) (place : ℕ) → slice_get fields place ≡ None → drop place fields ≡ []
none_there [] place there = drop_all place [] (omega arith)
none_there (g ∷ fields) zero there = absurd cc
none_there (g ∷ fields) (suc place) there = none_there fields place there

one_twice : {A : Type 0} (items : List A) → take 1 (take 1 items) ≡ take 1 items
one_twice [] = refl
one_twice (x ∷ items) = refl

pub own_twice : (f : laid_field.Field) (items : List RawItem) → AreOwn f (laid.own_items f items)
own_twice fields.Strings items = refl
own_twice fields.Name items = one_twice items
own_twice fields.Serial items = one_twice items
own_twice fields.Time items = one_twice items
own_twice fields.U16 items = one_twice items
own_twice (fields.Octets n) items = one_twice items
own_twice fields.OneString items = one_twice items

-- the own items of a field, as the code has them
pub record AreLaidOwn (f : laid_field.Field) (items own : List Item) (taken next : ℕ) : Type 0 where
  pub own_is : map raw own ≡ laid.own_items f (drop taken (map raw items))
  pub after_is : drop next (map raw items) ≡ laid.items_after f (drop taken (map raw items))

pub laid_parts : (f : laid_field.Field) (items own : List Item) (taken count next : ℕ) → ((others : List RawItem) → length others ≡ length items - taken → take count others ≡ laid.own_items f others) → ((others : List RawItem) → length others ≡ length items - taken → drop count others ≡ laid.items_after f others) → next ≡ taken + count → own ≡ take (next - taken) (drop taken items) → AreLaidOwn f items own taken next
laid_parts f items own taken count next front back past is =
    let left : length (drop taken (map raw items)) ≡ length items - taken = length-drop taken (map raw items) ∙ ap (λ n. n - taken) (length-map items raw) in
    let counted : next - taken ≡ count = omega arith in
    record {
      own_is = ap (map raw) (is ∙ ap (λ n. take n (drop taken items)) counted) ∙ sym (take-map raw count (drop taken items)) ∙ ap (take count) (sym (drop-map raw taken items)) ∙ front (drop taken (map raw items)) left;
      after_is = ap (λ n. drop n (map raw items)) past ∙ sym (drop-drop count taken (map raw items)) ∙ back (drop taken (map raw items)) left;
    }

pub laid_required : (f : laid_field.Field) (items own : List Item) (taken next : ℕ) → AreLaidOwn f items own taken next → AreOwn f (map raw own)
laid_required f items own taken next are = subst (AreOwn f) (sym are.own_is) (own_twice f (drop taken (map raw items)))

pub laid_begun : (origin : Labels) (name_at : ℕ → List ℕ) (all : List laid_field.Field) (items : List RawItem) (first : List ℕ) → LaidRead origin name_at all items 0 0 first first
laid_begun origin name_at all items first = record { leads = λ stop h. h }

pub laid_more : (origin : Labels) (name_at : ℕ → List ℕ) (all : List laid_field.Field) (items own : List Item) (place taken next : ℕ) (last first name : List ℕ) (f : laid_field.Field) → Some f ≡ slice_get all place → AreLaidOwn f items own taken next → name ≡ name_at place → SpellAValue origin f (map raw own) → LaidRead origin name_at all (map raw items) place taken last first → LaidRead origin name_at all (map raw items) (place + 1) next name first
laid_more origin name_at all items own place taken next last first name f there are named spelt have = record {
  leads = λ stop h.
      let one : FieldsStop origin name_at (suc place) (name_at place) (drop (suc place) all) (drop next (map raw items)) stop = subst (λ m. FieldsStop origin name_at (suc place) m (drop (suc place) all) (drop next (map raw items)) stop) named (subst (λ n. FieldsStop origin name_at n name (drop n all) (drop next (map raw items)) stop) (add-one place) h) in
      let two : FieldsStop origin name_at (suc place) (name_at place) (drop (suc place) all) (laid.items_after f (drop taken (map raw items))) stop = subst (λ l. FieldsStop origin name_at (suc place) (name_at place) (drop (suc place) all) l stop) are.after_is one in
      let here : FieldsStop origin name_at place last (f ∷ drop (suc place) all) (drop taken (map raw items)) stop = inr (subst (SpellAValue origin f) are.own_is spelt, two) in
      have.leads stop (subst (λ l. FieldsStop origin name_at place last l (drop taken (map raw items)) stop) (sym (field_there all place f (sym there))) here);
}

pub laid_stops : (origin : Labels) (name_at : ℕ → List ℕ) (all : List laid_field.Field) (items own : List Item) (place taken next : ℕ) (last first name : List ℕ) (f : laid_field.Field) (found : Option RawItem) → Some f ≡ slice_get all place → AreLaidOwn f items own taken next → name ≡ name_at place → StopIn origin f (map raw own) found → LaidRead origin name_at all (map raw items) place taken last first → FieldsStop origin name_at 0 first all (map raw items) (stop_at name found)
laid_stops origin name_at all items own place taken next last first name f found there are named stop have =
    let none : SpellAValue origin f (laid.own_items f (drop taken (map raw items))) → ⊥ = subst (λ l. SpellAValue origin f l → ⊥) are.own_is stop.none in
    let stops : StopsAt (SpellAValue origin f) (laid.own_items f (drop taken (map raw items))) found = subst (λ l. StopsAt (SpellAValue origin f) l found) are.own_is stop.stops in
    let here : FieldsStop origin name_at place last (f ∷ drop (suc place) all) (drop taken (map raw items)) (stop_at name found) = inl (none, (found, stops, ap (λ n. stop_at n found) named)) in
    have.leads (stop_at name found) (subst (λ l. FieldsStop origin name_at place last l (drop taken (map raw items)) (stop_at name found)) (sym (field_there all place f (sym there))) here)

pub laid_ended : (origin : Labels) (name_at : ℕ → List ℕ) (all : List laid_field.Field) (items left : List Item) (place taken : ℕ) (last first : List ℕ) (stop : Stop) → slice_get all place ≡ None → left ≡ take (length items - taken) (drop taken items) → FieldsStop origin name_at place last [] (map raw left) stop → LaidRead origin name_at all (map raw items) place taken last first → FieldsStop origin name_at 0 first all (map raw items) stop
laid_ended origin name_at all items left place taken last first stop there is h have =
    let same : map raw left ≡ drop taken (map raw items) = ap (map raw) (is ∙ take_all (length items - taken) (drop taken items) (omega (arith, length-drop taken items))) ∙ sym (drop-map raw taken items) in
    have.leads stop (subst (λ l. FieldsStop origin name_at place last l (drop taken (map raw items)) stop) (sym (none_there all place there))
    (subst (λ l. FieldsStop origin name_at place last [] l stop) same h))

-- ---- the fields of a further type

-- the fields before a place were read: where the others stop all stop
pub record FurtherRead (origin : Labels) (all : List NamedField) (items : List TouchingItem) (place taken : ℕ) (last first : List ℕ) : Type 0 where
  pub leads : (stop : FurtherStop) → FurtherFieldsStop origin last (drop place all) (drop taken items) stop → FurtherFieldsStop origin first all items stop

pub further_begun : (origin : Labels) (all : List NamedField) (items : List TouchingItem) (first : List ℕ) → FurtherRead origin all items 0 0 first first
further_begun origin all items first = record { leads = λ stop h. h }

-- the field at a place, by itself
pub record IsAt (all : List NamedField) (place : ℕ) (one : List NamedField) (f : NamedField) : Type 0 where
  pub alone : one ≡ f ∷ []
  pub there : drop place all ≡ f ∷ drop (suc place) all

pub one_at : (all : List NamedField) (place : ℕ) (one : List NamedField) → place < length all → one ≡ take 1 (drop place all) → (f : NamedField) × IsAt all place one f
one_at [] place one less is = absurd (omega arith)
one_at (f ∷ all) zero one less is = (f, record { alone = is; there = refl })
one_at (g ∷ all) (suc place) one less is =
    let found = one_at all place one (omega arith) is in
    (found.0, record { alone = found.1.alone; there = found.1.there })

-- its own items, as the code has them
pub record AreFurtherOwn (kind : FieldKind) (items own : List DataItem) (taken next : ℕ) : Type 0 where
  pub own_is : map given own ≡ own_items kind (drop taken (map given items))
  pub after_is : drop next (map given items) ≡ items_after kind (drop taken (map given items))

pub further_parts : (kind : FieldKind) (items own : List DataItem) (taken count next : ℕ) → count ≡ own_count kind (length items - taken) → next ≡ taken + count → own ≡ take (next - taken) (drop taken items) → AreFurtherOwn kind items own taken next
further_parts kind items own taken count next counted past is =
    let left : length (drop taken (map given items)) ≡ length items - taken = length-drop taken (map given items) ∙ ap (λ n. n - taken) (length-map items given) in
    let same : count ≡ own_count kind (length (drop taken (map given items))) = counted ∙ ap (own_count kind) (sym left) in
    let all : next - taken ≡ count = omega arith in
    record {
      own_is = ap (map given) (is ∙ ap (λ n. take n (drop taken items)) all) ∙ sym (take-map given count (drop taken items)) ∙ ap (take count) (sym (drop-map given taken items)) ∙ ap (λ n. take n (drop taken (map given items))) same;
      after_is = ap (λ n. drop n (map given items)) past ∙ sym (drop-drop count taken (map given items)) ∙ ap (λ n. drop n (drop taken (map given items))) same;
    }

pub further_more : (origin : Labels) (all : List NamedField) (items own : List DataItem) (place taken next : ℕ) (last first name : List ℕ) (one : List NamedField) (f : NamedField) (octets : List ℕ) → IsAt all place one f → AreFurtherOwn f.kind items own taken next → name ≡ f.name → StatesData origin one joined (map given own) octets → FurtherRead origin all (map given items) place taken last first → FurtherRead origin all (map given items) (place + 1) next name first
further_more origin all items own place taken next last first name one f octets at are named states have = record {
  leads = λ stop h.
      let here_states : StateItsData origin f (own_items f.kind (drop taken (map given items))) = (octets, subst (λ l. StatesData origin (f ∷ []) joined l octets) are.own_is (subst (λ l. StatesData origin l joined (map given own) octets) at.alone states)) in
      let first_is : FurtherFieldsStop origin name (drop (suc place) all) (drop next (map given items)) stop = subst (λ n. FurtherFieldsStop origin name (drop n all) (drop next (map given items)) stop) (add-one place) h in
      let after : FurtherFieldsStop origin name (drop (suc place) all) (items_after f.kind (drop taken (map given items))) stop = subst (λ l. FurtherFieldsStop origin name (drop (suc place) all) l stop) are.after_is first_is in
      let here : FurtherFieldsStop origin last (f ∷ drop (suc place) all) (drop taken (map given items)) stop = inr (here_states, subst (λ n. FurtherFieldsStop origin n (drop (suc place) all) (items_after f.kind (drop taken (map given items))) stop) named after) in
      have.leads stop (subst (λ l. FurtherFieldsStop origin last l (drop taken (map given items)) stop) (sym at.there) here);
}

pub further_stops : (origin : Labels) (all : List NamedField) (items own : List DataItem) (place taken next : ℕ) (last first name : List ℕ) (one : List NamedField) (f : NamedField) (fault : WordsFault) (found : Option DataItem) (item : Option RawItem) → IsAt all place one f → AreFurtherOwn f.kind items own taken next → DataFails origin one joined (map given own) name fault → StopsAt (CanGoOn origin f) (map given own) (option_map given found) → item ≡ option_map (λ (t : TouchingItem). t.item) (option_map given found) → FurtherRead origin all (map given items) place taken last first → FurtherFieldsStop origin first all (map given items) (further_stop name fault item)
further_stops origin all items own place taken next last first name one f fault found item at are fails stops is have =
    let fails_here : DataFails origin (f ∷ []) joined (own_items f.kind (drop taken (map given items))) name fault = subst (λ l. DataFails origin (f ∷ []) joined l name fault) are.own_is (subst (λ l. DataFails origin l joined (map given own) name fault) at.alone fails) in
    let stops_here : StopsAt (CanGoOn origin f) (own_items f.kind (drop taken (map given items))) (option_map given found) = subst (λ l. StopsAt (CanGoOn origin f) l (option_map given found)) are.own_is stops in
    let here : FurtherFieldsStop origin last (f ∷ drop (suc place) all) (drop taken (map given items)) (further_stop name fault item) = inl (fails_here, (option_map given found, (stops_here, is))) in
    have.leads (further_stop name fault item) (subst (λ l. FurtherFieldsStop origin last l (drop taken (map given items)) (further_stop name fault item)) (sym at.there) here)

pub further_ended : (origin : Labels) (all : List NamedField) (items left : List DataItem) (place taken : ℕ) (last first : List ℕ) (stop : FurtherStop) → length all ≤ place → left ≡ take (length items - taken) (drop taken items) → FurtherFieldsStop origin last [] (map given left) stop → FurtherRead origin all (map given items) place taken last first → FurtherFieldsStop origin first all (map given items) stop
further_ended origin all items left place taken last first stop past is h have =
    let same : map given left ≡ drop taken (map given items) = ap (map given) (is ∙ take_all (length items - taken) (drop taken items) (omega (arith, length-drop taken items))) ∙ sym (drop-map given taken items) in
    have.leads stop (subst (λ l. FurtherFieldsStop origin last l (drop taken (map given items)) stop) (sym (drop_all place all past))
    (subst (λ l. FurtherFieldsStop origin last [] l stop) same h))

-- ---- the whole

pub not_marked : (b : Bool) (P : Type 0) → (IsTrue b ↔ P) → b ≡ false → P → ⊥
not_marked b P iff is p = grind arith

pub laid_answer : {E : Type 0} (r : Result DataStop E) (origin : Labels) (class kind number : ℕ) (items : List RawItem) (all : List laid_field.Field) → Some all ≡ layout class kind → (IsGeneric items → ⊥) → number ≡ kind → IfOk r (λ stop. FieldsStop origin (field_name number) 0 (codes "data") all items (stop_of stop)) → IfOk r (λ stop. LaidOutStops origin class kind items (stop_of stop))
laid_answer (Ok stop) origin class kind number items all there unmarked same h = in_words all (sym there) unmarked (subst (λ n. FieldsStop origin (field_name n) 0 (codes "data") all items (stop_of stop)) same h)
laid_answer (Err e) origin class kind number items all there unmarked same h = h

pub fault_told : (Is : List ℕ → WordsFault → Type 0) (failing : DataFailing) (name : Bor (List ℕ)) (fault : WordsFault) → failing ≡ failings.Fault name fault → IfDataFault Is failing → Is name.now fault
fault_told Is failing name fault is h = subst (IfDataFault Is) is h

pub further_answer : {E : Type 0} (r : Result code.FurtherStop E) (origin : Labels) (all : List NamedField) (items own : List DataItem) (place taken next : ℕ) (last first name : List ℕ) (one : List NamedField) (f : NamedField) (fault : WordsFault) → IsAt all place one f → AreFurtherOwn f.kind items own taken next → DataFails origin one joined (map given own) name fault → IfOk r (IsStopIn origin f own name fault) → FurtherRead origin all (map given items) place taken last first → IfOk r (λ stop. FurtherFieldsStop origin first all (map given items) (coded_stop stop))
further_answer (Ok stop) origin all items own place taken next last first name one f fault at are fails here have =
    let told : FurtherFieldsStop origin first all (map given items) (further_stop name fault (option_map raw stop.item)) = further_stops origin all items own place taken next last first name one f fault here.found (option_map raw stop.item) at are fails here.stops here.item_is have in
    subst (λ n. FurtherFieldsStop origin first all (map given items) (further_stop n stop.fault (option_map raw stop.item))) (sym here.field_is)
    (subst (λ w. FurtherFieldsStop origin first all (map given items) (further_stop name w (option_map raw stop.item))) (sym here.fault_is) told)
further_answer (Err e) origin all items own place taken next last first name one f fault at are fails here have = here
