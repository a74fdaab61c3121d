-- Bare items that are printed for all octets, one after another.
use Rattle.type_data.proofs.Common.{AllZip, List, RawItem, [], ap, append-nil, append_assoc, arith, length, length-append, map, nil_from_length, refl, sym, ℕ, ◌++◌, ◌<◌, ◌∙◌, ◌∷◌, ◌≡◌}
use Rattle.std.specs.Prelude.{◌≤◌}
use Rattle.zone_name.specs.Common.{Labels}
use Rattle.zone_rdata.proofs.Octets.Sent.{append_same}
use Rattle.zone_rdata.specs.Item.{bare, quoted}
use Rattle.type_data.proofs.PrintedFields.{all_unprinted}
use Rattle.type_data.specs.Data.{joined}
use Rattle.type_data.specs.DataItem.{items_of}
use Rattle.type_data.specs.EachItem.{EachStates}
use Rattle.type_data.specs.Field.{StatesBare}
use Rattle.type_data.specs.Machine.PrintedFields.{HasNoOwn}
use Rattle.type_data.specs.Parameters.Printed.{PrintsTouching, written_touching}
use Rattle.type_data.specs.Printed.{NoFront, PrintsFront}
use Rattle.type_data.specs.PrintedData.{PrintsBare, PrintsField, StatesSomewhere, apart}
use Rattle.type_data.specs.declared.field.BareKind.{BareKind}
use Rattle.type_data.specs.declared.field.FieldKind.TheVariants.{Each}

-- items that state octets, each a part
abbrev AreStated : BareKind → Labels → List RawItem → List ℕ → Type 0
AreStated kind origin items octets = EachStates (StatesBare origin kind) items octets

-- the texts before the rest are printed
pub record HavePrintedEach (kind : BareKind) (octets rest old new : List ℕ) : Type 0 where
  pub texts : List (List ℕ)
  pub parts : List (List ℕ)
  pub each : AllZip (PrintsBare kind) texts parts
  pub front : octets ≡ joined parts ++ rest
  pub appended : new ≡ old ++ written_touching (apart (map bare texts))
  pub others : (origin : Labels) (items : List RawItem) → AreStated kind origin items octets
      → (more : List RawItem) × AreStated kind origin more rest

pub none_printed_yet : (kind : BareKind) (octets old : List ℕ) → HavePrintedEach kind octets octets old old
none_printed_yet kind octets old = record {
  texts = [];
  parts = [];
  each = tt;
  front = refl;
  appended = sym (append-nil old);
  others = λ origin items states. (items, states);
}

zip_more : (P : List ℕ → List ℕ → Type 0) (texts parts : List (List ℕ)) (text part : List ℕ) → AllZip P texts parts → P text part → AllZip P (texts ++ text ∷ []) (parts ++ part ∷ [])
zip_more P [] [] text part each is = (is, tt)
zip_more P [] (p ∷ parts) text part each is = absurd each
zip_more P (t ∷ texts) [] text part each is = absurd each
zip_more P (t ∷ texts) (p ∷ parts) text part each is = (each.0, zip_more P texts parts text part each.1 is)

joined_more : (parts : List (List ℕ)) (part rest : List ℕ) → joined parts ++ (part ++ rest) ≡ joined (parts ++ part ∷ []) ++ rest
joined_more [] part rest = ap (λ p. p ++ rest) (sym (append-nil part))
joined_more (p ∷ parts) part rest =
    append_assoc p (joined parts) (part ++ rest) ∙ ap (λ t. p ++ t) (joined_more parts part rest) ∙ sym (append_assoc p (joined (parts ++ part ∷ [])) rest)

written_more : (texts : List (List ℕ)) (text : List ℕ) → written_touching (apart (map bare (texts ++ text ∷ []))) ≡ written_touching (apart (map bare texts)) ++ 32 ∷ text
written_more [] text = append-nil (32 ∷ text)
written_more (t ∷ texts) text =
    ap (λ w. (32 ∷ t) ++ w) (written_more texts text) ∙ sym (append_assoc (32 ∷ t) (written_touching (apart (map bare texts))) (32 ∷ text))

stated_somewhere : (kind : BareKind) (origin : Labels) (item : RawItem) (part : List ℕ) → StatesBare origin kind item part → (text : List ℕ) × StatesSomewhere kind text part
stated_somewhere kind origin (bare text) part is = (text, (origin, is))
stated_somewhere kind origin (quoted text) part is = absurd is

-- the items after the first state what is left, where the first can only state that part
others_left : (kind : BareKind) (origin : Labels) (items : List RawItem) (parts : List (List ℕ)) (part rest after : List ℕ) → 0 < length rest → rest ≡ part ++ after → ((other more words : List ℕ) → rest ≡ other ++ more → StatesSomewhere kind words other → other ≡ part) → AllZip (StatesBare origin kind) items parts → rest ≡ joined parts → (more : List RawItem) × AreStated kind origin more after
others_left kind origin [] [] part rest after some cut alone each value = absurd (omega (arith, some, ap length value))
others_left kind origin [] (p ∷ parts) part rest after some cut alone each value = absurd each
others_left kind origin (item ∷ items) [] part rest after some cut alone each value = absurd each
others_left kind origin (item ∷ items) (p ∷ parts) part rest after some cut alone each value =
    let s = stated_somewhere kind origin item p each.0 in
    let same = alone p (joined parts) s.0 value s.1 in
    let left = (append_same p part (joined parts) after (ap length same) (sym value ∙ cut)).1 in
    (items, record { parts = parts; each = each.1; value = sym left })

pub one_more : (kind : BareKind) (octets rest after old mid blank new : List ℕ) → 0 < length rest → HavePrintedEach kind octets rest old mid → blank ≡ mid ++ 32 ∷ [] → PrintsFront (PrintsBare kind) (StatesSomewhere kind) rest after blank new → HavePrintedEach kind octets after old new
one_more kind octets rest after old mid blank new some have spaced h = record {
  texts = have.texts ++ h.text ∷ [];
  parts = have.parts ++ h.part ∷ [];
  each = zip_more (PrintsBare kind) have.texts have.parts h.text h.part have.each h.printed;
  front = have.front ∙ ap (λ r. joined have.parts ++ r) h.whole ∙ joined_more have.parts h.part after;
  appended =
      h.appended ∙ ap (λ b. b ++ h.text) spaced ∙ append_assoc mid (32 ∷ []) h.text
      ∙ ap (λ m. m ++ 32 ∷ h.text) have.appended ∙ append_assoc old (written_touching (apart (map bare have.texts))) (32 ∷ h.text)
      ∙ ap (λ t. old ++ t) (sym (written_more have.texts h.text));
  others = λ origin items states.
      let now = have.others origin items states in
      others_left kind origin now.0 now.1.parts h.part rest after some h.whole h.alone now.1.each now.1.value;
}

pub each_printed : (kind : BareKind) (octets rest old new : List ℕ) → length rest ≡ 0 → HavePrintedEach kind octets rest old new → PrintsTouching (PrintsField (Each kind)) octets old new
each_printed kind octets rest old new empty have = record {
  items = apart (map bare have.texts);
  printed = record {
    alone = map bare have.texts;
    printed = record {
      texts = have.texts;
      parts = have.parts;
      each = have.each;
      printed = refl;
      value = have.front ∙ ap (λ r. joined have.parts ++ r) (nil_from_length rest empty) ∙ append-nil (joined have.parts);
    };
    are_apart = refl;
  };
  appended = have.appended;
}

-- ---- octets that no items state

none_of_rest : (kind : BareKind) (octets rest old new : List ℕ) → HavePrintedEach kind octets rest old new → ((origin : Labels) (items : List RawItem) → AreStated kind origin items rest → ⊥) → HasNoOwn (Each kind) octets
none_of_rest kind octets rest old new have none =
    all_unprinted (Each kind) octets refl (λ origin items states.
    let now = have.others origin (items_of items) states in
    none origin now.0 now.1)

none_at_front : (kind : BareKind) (origin : Labels) (items : List RawItem) (parts : List (List ℕ)) (rest : List ℕ) → 0 < length rest → NoFront (StatesSomewhere kind) rest → AllZip (StatesBare origin kind) items parts → rest ≡ joined parts → ⊥
none_at_front kind origin [] [] rest some none each value = omega (arith, some, ap length value)
none_at_front kind origin [] (p ∷ parts) rest some none each value = each
none_at_front kind origin (item ∷ items) [] rest some none each value = each
none_at_front kind origin (item ∷ items) (p ∷ parts) rest some none each value =
    let s = stated_somewhere kind origin item p each.0 in
    none p (joined parts) s.0 value s.1

pub no_more : (kind : BareKind) (octets rest old new : List ℕ) → 0 < length rest → HavePrintedEach kind octets rest old new → NoFront (StatesSomewhere kind) rest → HasNoOwn (Each kind) octets
no_more kind octets rest old new some have none =
    none_of_rest kind octets rest old new have (λ origin items states. none_at_front kind origin items states.parts rest some none states.each states.value)

-- where each part at the front is no octets, items state none
all_empty : (kind : BareKind) (origin : Labels) (items : List RawItem) (parts : List (List ℕ)) (rest part : List ℕ) → 0 < length rest → length part ≡ 0 → ((other more words : List ℕ) → rest ≡ other ++ more → StatesSomewhere kind words other → other ≡ part) → AllZip (StatesBare origin kind) items parts → rest ≡ joined parts → ⊥
all_empty kind origin [] [] rest part some empty alone each value = omega (arith, some, ap length value)
all_empty kind origin [] (p ∷ parts) rest part some empty alone each value = each
all_empty kind origin (item ∷ items) [] rest part some empty alone each value = each
all_empty kind origin (item ∷ items) (p ∷ parts) rest part some empty alone each value =
    let s = stated_somewhere kind origin item p each.0 in
    let same = alone p (joined parts) s.0 value s.1 in
    let gone : p ≡ [] = same ∙ nil_from_length part empty in
    all_empty kind origin items parts rest part some empty alone each.1 (value ∙ ap (λ q. q ++ joined parts) gone)

pub no_progress : (kind : BareKind) (octets rest after old mid blank new : List ℕ) → 0 < length rest → length after ≡ length rest → HavePrintedEach kind octets rest old mid → PrintsFront (PrintsBare kind) (StatesSomewhere kind) rest after blank new → HasNoOwn (Each kind) octets
no_progress kind octets rest after old mid blank new some same have h =
    let empty : length h.part ≡ 0 = omega (arith, same, ap length h.whole, length-append h.part after) in
    none_of_rest kind octets rest old mid have (λ origin items states. all_empty kind origin items states.parts rest h.part some empty h.alone states.each states.value)

pub shorter : (kind : BareKind) (rest after old new : List ℕ) → PrintsFront (PrintsBare kind) (StatesSomewhere kind) rest after old new → length after ≤ length rest
shorter kind rest after old new h = omega (arith, ap length h.whole, length-append h.part after)
