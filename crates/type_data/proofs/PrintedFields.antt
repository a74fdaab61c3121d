-- A field that is printed for the octets at the front, each kind.
use Rattle.type_data.proofs.Common.{List, RawItem, [], ap, append-nil, append_assoc, arith, length, length-append, refl, subst, sym, ℕ, ◌++◌, ◌∙◌, ◌∷◌, ◌≡◌}
use Rattle.std.proofs.lemmas.List.{nil_from_length}
use Rattle.std.specs.Prelude.{true, ◌≢◌, ◌<◌}
use Rattle.zone_name.specs.Common.{Labels}
use Rattle.zone_rdata.specs.Item.{bare, quoted}
use Rattle.zone_rdata.specs.Strings.{inside_text}
use Rattle.zone_rdata.specs.Text.{written_item}
use Rattle.type_data.specs.DataItem.{TouchingItem, items_of}
use Rattle.type_data.specs.Field.{StatesBare, StatesField}
use Rattle.type_data.specs.Kinds.Gateway.{StatesNothing}
use Rattle.type_data.specs.Kinds.Strings.{IsAString, PrintsPerhaps, PrintsString, PrintsStringItem}
use Rattle.type_data.specs.Machine.PrintedFields.{HasNoOwn, IsOwnPart, PrintsOwn, prints_all}
use Rattle.type_data.specs.Parameters.Printed.{NoParameters, PrintsTouching, written_touching}
use Rattle.type_data.specs.Printed.{NoFront, NoItems, PrintsAll, PrintsFront, after_blanks}
use Rattle.type_data.specs.PrintedData.{PrintsApart, PrintsBare, PrintsField, StatesSomewhere, apart}
use Rattle.type_data.specs.declared.field.BareKind.{BareKind}
use Rattle.type_data.specs.declared.field.FieldKind.{FieldKind}
use Rattle.type_data.specs.declared.field.FieldKind.TheVariants.{Bare, Nothing, OneString, Parameters, PerhapsOneString}

-- ---- one bare item

stated_by_item : (origin : Labels) (kind : BareKind) (item : RawItem) (octets : List ℕ) → StatesBare origin kind item octets → (text : List ℕ) × StatesSomewhere kind text octets
stated_by_item origin kind (bare text) octets is = (text, (origin, is))
stated_by_item origin kind (quoted text) octets is = absurd is

stated_by_first : (origin : Labels) (kind : BareKind) (items : List TouchingItem) (octets : List ℕ) → StatesField origin (Bare kind) items octets → (text : List ℕ) × StatesSomewhere kind text octets
stated_by_first origin kind [] octets is = absurd is
stated_by_first origin kind (d ∷ items) octets is = stated_by_item origin kind d.item octets is

one_written : (old mid new text : List ℕ) → mid ≡ old ++ 32 ∷ [] → new ≡ mid ++ text → new ≡ old ++ ((32 ∷ text) ++ [])
one_written old mid new text blank appended =
    appended ∙ ap (λ t. t ++ text) blank ∙ append_assoc old (32 ∷ []) text ∙ ap (λ t. old ++ t) (sym (append-nil (32 ∷ text)))

pub first_printed : (kind : BareKind) (octets rest old mid new : List ℕ) → mid ≡ old ++ 32 ∷ [] → PrintsFront (PrintsBare kind) (StatesSomewhere kind) octets rest mid new → PrintsOwn (Bare kind) octets rest old new
first_printed kind octets rest old mid new blank h = record {
  part = h.part;
  items = apart (bare h.text ∷ []);
  own = record { whole = h.whole; all = λ e. absurd cc };
  printed = record { alone = bare h.text ∷ []; printed = (h.text, h.printed, refl); are_apart = refl };
  appended = one_written old mid new h.text blank h.appended;
  alone = λ origin others other after own is.
      let s = stated_by_first origin kind others other is in
      h.alone other after s.0 own.whole s.1;
}

pub first_unprinted : (kind : BareKind) (octets : List ℕ) → NoFront (StatesSomewhere kind) octets → HasNoOwn (Bare kind) octets
first_unprinted kind octets none origin items part after own is =
    let s = stated_by_first origin kind items part is in
    none part after s.0 own.whole s.1

-- ---- one string

string_of_items : (origin : Labels) (items : List TouchingItem) (octets : List ℕ) → StatesField origin OneString items octets → (text : List ℕ) × IsAString text octets
string_of_items origin [] octets is = absurd is
string_of_items origin (d ∷ items) octets is = (written_item d.item, (d.item, is, refl))

pub string_printed : (octets rest old mid new : List ℕ) → mid ≡ old ++ 32 ∷ [] → PrintsFront PrintsString IsAString octets rest mid new → PrintsOwn OneString octets rest old new
string_printed octets rest old mid new blank h = record {
  part = h.part;
  items = apart (quoted (inside_text h.printed.string) ∷ []);
  own = record { whole = h.whole; all = λ e. absurd cc };
  printed = record {
    alone = quoted (inside_text h.printed.string) ∷ [];
    printed = record { string = h.printed.string; is = h.printed.is; printed = refl; value = h.printed.value };
    are_apart = refl;
  };
  appended = one_written old mid new (written_item (quoted (inside_text h.printed.string))) blank (h.appended ∙ ap (λ t. mid ++ t) h.printed.printed);
  alone = λ origin others other after own is.
      let s = string_of_items origin others other is in
      h.alone other after s.0 own.whole s.1;
}

pub string_unprinted : (octets : List ℕ) → NoFront IsAString octets → HasNoOwn OneString octets
string_unprinted octets none origin items part after own is =
    let s = string_of_items origin items part is in
    none part after s.0 own.whole s.1

-- ---- a string or none

pub some_octets : (octets : List ℕ) → 0 < length octets → octets ≢ []
some_octets octets some e = omega (arith, some, ap length e)

pub no_string_printed : (octets old : List ℕ) → octets ≡ [] → PrintsTouching (PrintsField PerhapsOneString) octets old old
no_string_printed octets old none = record {
  items = [];
  printed = record { alone = []; printed = none; are_apart = refl };
  appended = sym (append-nil old);
}

perhaps_one : (items : List RawItem) (octets : List ℕ) → PrintsStringItem items octets → PrintsPerhaps items octets
perhaps_one [] octets h = absurd (cc h.printed)
perhaps_one (item ∷ items) octets h = h

pub perhaps_printed : (octets rest old new : List ℕ) → rest ≡ [] → PrintsOwn OneString octets rest old new → PrintsTouching (PrintsField PerhapsOneString) octets old new
perhaps_printed octets rest old new none h = record {
  items = h.items;
  printed = record {
    alone = h.printed.alone;
    printed = subst (λ o. PrintsPerhaps h.printed.alone o) (sym (h.own.whole ∙ ap (λ t. h.part ++ t) none ∙ append-nil h.part)) (perhaps_one h.printed.alone h.part h.printed.printed);
    are_apart = h.printed.are_apart;
  };
  appended = h.appended;
}

whole_part : (kind : FieldKind) (octets part after : List ℕ) → prints_all kind ≡ true → IsOwnPart kind octets part after → octets ≡ part
whole_part kind octets part after all own = own.whole ∙ ap (λ t. part ++ t) (own.all all) ∙ append-nil part

-- items that state some octets as a string or none are a string
one_of_perhaps : (origin : Labels) (items : List TouchingItem) (part : List ℕ) → part ≢ [] → StatesField origin PerhapsOneString items part → StatesField origin OneString items part
one_of_perhaps origin [] part some is = absurd (some is)
one_of_perhaps origin (d ∷ items) part some is = is

pub perhaps_unprinted : (octets : List ℕ) → octets ≢ [] → HasNoOwn OneString octets → HasNoOwn PerhapsOneString octets
perhaps_unprinted octets some none origin items part after own is =
    let all = whole_part PerhapsOneString octets part after refl own in
    none origin items part after (record { whole = own.whole; all = λ e. absurd cc }) (one_of_perhaps origin items part (λ e. some (all ∙ e)) is)

no_rest : (octets part rest : List ℕ) → octets ≡ part ++ rest → octets ≡ part → rest ≡ []
no_rest octets part rest whole same = nil_from_length rest (omega (arith, ap length whole, ap length same, length-append part rest))

pub string_and_more : (octets rest old new : List ℕ) → octets ≢ [] → rest ≢ [] → PrintsOwn OneString octets rest old new → HasNoOwn PerhapsOneString octets
string_and_more octets rest old new some more h origin items part after own is =
    let all = whole_part PerhapsOneString octets part after refl own in
    let same = h.alone origin items part after (record { whole = own.whole; all = λ e. absurd cc }) (one_of_perhaps origin items part (λ e. some (all ∙ e)) is) in
    more (no_rest octets h.part rest h.own.whole (all ∙ same))

-- ---- kinds that are printed for all octets

apart_written : (items : List RawItem) → written_touching (apart items) ≡ after_blanks items
apart_written [] = refl
apart_written (item ∷ items) = ap (λ t. (32 ∷ written_item item) ++ t) (apart_written items)

pub apart_printed : (Prints : List RawItem → List ℕ → Type 0) (octets old new : List ℕ) → PrintsAll Prints octets old new → PrintsTouching (PrintsApart Prints) octets old new
apart_printed Prints octets old new h = record {
  items = apart h.items;
  printed = record { alone = h.items; printed = h.printed; are_apart = refl };
  appended = h.appended ∙ ap (λ t. old ++ t) (sym (apart_written h.items));
}

pub nothing_printed : (Prints : List RawItem → List ℕ → Type 0) (octets old : List ℕ) → Prints [] octets → PrintsTouching (PrintsApart Prints) octets old old
nothing_printed Prints octets old printed = record {
  items = [];
  printed = record { alone = []; printed = printed; are_apart = refl };
  appended = sym (append-nil old);
}

-- a kind that is printed for all octets has no part, where no items state the octets
pub all_unprinted : (kind : FieldKind) (octets : List ℕ) → prints_all kind ≡ true → ((origin : Labels) (items : List TouchingItem) → StatesField origin kind items octets → ⊥) → HasNoOwn kind octets
all_unprinted kind octets all none origin items part after own is =
    none origin items (subst (λ o. StatesField origin kind items o) (sym (whole_part kind octets part after all own)) is)

-- its part is all octets
pub all_printed : (kind : FieldKind) (octets old new : List ℕ) → prints_all kind ≡ true → PrintsTouching (PrintsField kind) octets old new → PrintsOwn kind octets [] old new
all_printed kind octets old new all h = record {
  part = octets;
  items = h.items;
  own = record { whole = sym (append-nil octets); all = λ e. refl };
  printed = h.printed;
  appended = h.appended;
  alone = λ origin others other after own is. sym (whole_part kind octets other after all own);
}

pub no_items_given : (kind : FieldKind) (States : List RawItem → List ℕ → Type 0) (octets : List ℕ) → prints_all kind ≡ true → ((origin : Labels) (items : List TouchingItem) → StatesField origin kind items octets → States (items_of items) octets) → NoItems States octets → HasNoOwn kind octets
no_items_given kind States octets all goes none = all_unprinted kind octets all (λ origin items is. none (items_of items) (goes origin items is))

pub no_parameters_given : (octets : List ℕ) → NoParameters octets → HasNoOwn Parameters octets
no_parameters_given octets none = all_unprinted Parameters octets refl (λ origin items is. none items is)

pub nothing_given : (octets old : List ℕ) → octets ≡ [] → PrintsTouching (PrintsField Nothing) octets old old
nothing_given octets old none = nothing_printed StatesNothing octets old (refl, none)
