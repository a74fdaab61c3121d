-- Fields that are printed for octets, one after another.
use Rattle.type_data.proofs.Common.{List, [], ap, drop, from_place, get_or, length-drop, ◌+◌, append-nil, append_assoc, arith, length, map, nil_from_length, refl, subst, sym, ℕ, ◌++◌, ◌<◌, ◌∙◌, ◌∷◌, ◌≡◌}
use Rattle.std.specs.Prelude.{true, ◌≤◌}
use Rattle.zone_name.specs.Common.{Labels}
use Rattle.zone_rdata.proofs.Octets.Sent.{append_same}
use Rattle.type_data.specs.Data.{StateParts, joined}
use Rattle.type_data.specs.DataItem.{TouchingItem}
use Rattle.type_data.specs.Field.{items_after, own_items}
use Rattle.type_data.specs.Machine.PrintedFields.{HasNoOwn, OnlyLastPrintsAll, PrintsOwn, prints_all}
use Rattle.type_data.specs.Parameters.Printed.{PrintsTouching, written_touching}
use Rattle.type_data.specs.PrintedData.{NoItemsOf, PrintParts, PrintsFields}
use Rattle.type_data.specs.Table.{NamedField, field_of}
use Rattle.type_data.specs.declared.field.Field.{Field}
use Rattle.type_data.proofs.OfParameters.EachPrinted.{touching_more}

-- some fields are printed, and these are left with the rest of the octets
pub record PrintedSoFar (fields left : List NamedField) (octets rest old new : List ℕ) : Type 0
  where
    pub items : List TouchingItem
    pub front : List ℕ
    pub whole : octets ≡ front ++ rest
    pub appended : new ≡ old ++ written_touching items
    pub with_more : (more : List TouchingItem) (parts : List (List ℕ)) → PrintParts left more parts
        → (all : List (List ℕ)) × (PrintParts fields (items ++ more) all
        × (joined all ≡ front ++ joined parts))
    pub last : OnlyLastPrintsAll fields → OnlyLastPrintsAll left
    pub none : OnlyLastPrintsAll fields → NoItemsOf left rest → NoItemsOf fields octets

pub none_printed_yet : (fields : List NamedField) (octets old : List ℕ) → PrintedSoFar fields fields octets octets old old
none_printed_yet fields octets old = record {
  items = [];
  front = [];
  whole = refl;
  appended = sym (append-nil old);
  with_more = λ more parts printed. (parts, (printed, refl));
  last = λ only. only;
  none = λ only none. none;
}

only_later : (f : NamedField) (later : List NamedField) → OnlyLastPrintsAll (f ∷ later) → OnlyLastPrintsAll later
only_later f [] only = tt
only_later f (g ∷ later) only = only.1

-- the parts after a field that is printed for all octets are none
no_later : (f : NamedField) (later : List NamedField) (origin : Labels) (items : List TouchingItem) (parts : List (List ℕ)) → OnlyLastPrintsAll (f ∷ later) → StateParts origin later items parts → prints_all f.kind ≡ true → joined parts ≡ []
no_later f [] origin items [] only states all = refl
no_later f [] origin items (p ∷ parts) only states all = absurd states
no_later f (g ∷ later) origin items parts only states all = absurd (cc (only.0, all))

later_none : (f : NamedField) (later : List NamedField) (rest after mid new : List ℕ) → OnlyLastPrintsAll (f ∷ later) → PrintsOwn f.kind rest after mid new → NoItemsOf later after → NoItemsOf (f ∷ later) rest
later_none f later rest after mid new only own none origin items [] states whole value = states
later_none f later rest after mid new only own none origin items (p ∷ parts) states whole value =
    let same = own.alone origin (own_items f.kind items) p (joined parts) (record { whole = value; all = no_later f later origin (items_after f.kind items) parts only states.1 }) states.0 in
    let left = (append_same p own.part (joined parts) after (ap length same) (sym value ∙ own.own.whole)).1 in
    none origin (items_after f.kind items) parts states.1 whole (sym left)

pub field_unprinted : (f : NamedField) (later : List NamedField) (rest : List ℕ) → OnlyLastPrintsAll (f ∷ later) → HasNoOwn f.kind rest → NoItemsOf (f ∷ later) rest
field_unprinted f later rest only none origin items [] states whole value = states
field_unprinted f later rest only none origin items (p ∷ parts) states whole value =
    none origin (own_items f.kind items) p (joined parts) (record { whole = value; all = no_later f later origin (items_after f.kind items) parts only states.1 }) states.0

pub one_more_field : (fields : List NamedField) (f : NamedField) (later : List NamedField) (octets rest after old mid new : List ℕ) → PrintedSoFar fields (f ∷ later) octets rest old mid → PrintsOwn f.kind rest after mid new → PrintedSoFar fields later octets after old new
one_more_field fields f later octets rest after old mid new have own = record {
  items = have.items ++ own.items;
  front = have.front ++ own.part;
  whole = have.whole ∙ ap (λ r. have.front ++ r) own.own.whole ∙ sym (append_assoc have.front own.part after);
  appended =
      own.appended ∙ ap (λ m. m ++ written_touching own.items) have.appended ∙ append_assoc old (written_touching have.items) (written_touching own.items)
      ∙ ap (λ t. old ++ t) (sym (touching_more have.items own.items));
  with_more = λ more parts printed.
      let all = have.with_more (own.items ++ more) (own.part ∷ parts) (own.items, more, refl, own.printed, printed) in
      (all.0, (subst (λ i. PrintParts fields i all.0) (sym (append_assoc have.items own.items more)) all.1.0, all.1.1 ∙ sym (append_assoc have.front own.part (joined parts))));
  last = λ only. only_later f later (have.last only);
  none = λ only none. have.none only (later_none f later rest after mid new (have.last only) own none);
}

pub fields_unprinted : (fields : List NamedField) (f : NamedField) (later : List NamedField) (octets rest old mid : List ℕ) → PrintedSoFar fields (f ∷ later) octets rest old mid → HasNoOwn f.kind rest → OnlyLastPrintsAll fields → NoItemsOf fields octets
fields_unprinted fields f later octets rest old mid have none only = have.none only (field_unprinted f later rest (have.last only) none)

pub fields_printed : (fields : List NamedField) (octets rest old new : List ℕ) → PrintedSoFar fields [] octets rest old new → length rest ≡ 0 → PrintsTouching (PrintsFields fields) octets old new
fields_printed fields octets rest old new have empty =
    let all = have.with_more [] [] refl in
    record {
      items = have.items;
      printed = record {
        parts = all.0;
        each = subst (λ i. PrintParts fields i all.0) (append-nil have.items) all.1.0;
        value = have.whole ∙ ap (λ r. have.front ++ r) (nil_from_length rest empty) ∙ sym all.1.1;
      };
      appended = have.appended;
    }

none_of_nothing : (rest : List ℕ) → 0 < length rest → NoItemsOf [] rest
none_of_nothing rest some origin items [] states whole value = omega (arith, some, ap length value)
none_of_nothing rest some origin items (p ∷ parts) states whole value = states

pub octets_left : (fields : List NamedField) (octets rest old new : List ℕ) → PrintedSoFar fields [] octets rest old new → 0 < length rest → OnlyLastPrintsAll fields → NoItemsOf fields octets
octets_left fields octets rest old new have some only = have.none only (none_of_nothing rest some)

-- ---- the fields of a slice, by their places

pub place_printed : (fields : List Field) (i : ℕ) (f d : Field) (octets rest after old mid new : List ℕ) → i < length fields → f ≡ get_or fields i d → PrintedSoFar (map field_of fields) (map field_of (drop i fields)) octets rest old mid → PrintsOwn f.1 rest after mid new → PrintedSoFar (map field_of fields) (map field_of (drop (i + 1) fields)) octets after old new
place_printed fields i f d octets rest after old mid new lt is have own =
    one_more_field (map field_of fields) (field_of f) (map field_of (drop (i + 1) fields)) octets rest after old mid new
    (subst (λ left. PrintedSoFar (map field_of fields) (map field_of left) octets rest old mid) (from_place fields i f d lt is) have) own

pub place_unprinted : (fields : List Field) (i : ℕ) (f d : Field) (octets rest old mid : List ℕ) → i < length fields → f ≡ get_or fields i d → PrintedSoFar (map field_of fields) (map field_of (drop i fields)) octets rest old mid → HasNoOwn f.1 rest → OnlyLastPrintsAll (map field_of fields) → NoItemsOf (map field_of fields) octets
place_unprinted fields i f d octets rest old mid lt is have none =
    fields_unprinted (map field_of fields) (field_of f) (map field_of (drop (i + 1) fields)) octets rest old mid
    (subst (λ left. PrintedSoFar (map field_of fields) (map field_of left) octets rest old mid) (from_place fields i f d lt is) have) none

pub all_places : (fields : List Field) (i : ℕ) (octets rest old mid : List ℕ) → length fields ≤ i → PrintedSoFar (map field_of fields) (map field_of (drop i fields)) octets rest old mid → PrintedSoFar (map field_of fields) [] octets rest old mid
all_places fields i octets rest old mid past have =
    subst (λ left. PrintedSoFar (map field_of fields) (map field_of left) octets rest old mid) (nil_from_length (drop i fields) (omega (arith, past, length-drop i fields))) have
