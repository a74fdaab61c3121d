-- An entry that is written anew states the entry's record.
use Rattle.zone_words.proofs.Common.{AllByRecursion, Anew, AreOctets, Bool, Entry, FurtherType, HasClass, IsFurtherUnder, IsNumbered, IsToken, Labels, List, MatchOption, None, Option, Parts, RawItem, SaysAnew, Some, Statement, Token, TokensSay, TouchingItem, Written, [], ap, arith, append-nil, by_number, class_among, class_word, codes, decode_of-ok, decode_of-same, directive, each_below, encode_lower, entry_of, false, false≢true, filter, flat_map, further_type, get_or_past, if◌then◌else◌, in_generic_form, includes, inl, inr, is_blank, item_of, length, lower_digits, option_and_then, option_or, owned, parts_after, parts_in, recursion_from_All, refl, renamed, sets_origin, sets_ttl, slice_get, slice_index, statement_by, statement_of, stays, subst, sym, text, touching_items, true, unknown, unowned, written, written_text, ℕ, ◌++◌, ◌/◌, ◌<◌, ◌==◌, ◌∙◌, ◌∷◌, ◌≡◌}
use Rattle.std.specs.Prelude.{◌↔◌, ◌≤◌, decimal}
use Rattle.std.proofs.lemmas.Bool.{cases_lt}
use Rattle.hex.specs.Hex.{encode_with, is_hex_digit}
use Rattle.zone_name.proofs.Texts.Bare.{plain_text}
use Rattle.zone_rdata.proofs.Items.GenericLaws.{printed_stated}
use Rattle.zone_rdata.specs.Generic.{JoinTo, StatesGeneric, digit_items, generic_items}
use Rattle.zone_rdata.specs.Item as raw
use Rattle.zone_rdata.specs.Layout.{layout}
use Rattle.zone_rdata.specs.Minimum.{last_of, minimum}
use Rattle.zone_rdata.specs.Number.{IsTime}
use Rattle.zone_rdata.specs.Record.{Data, IsRecord, Record}
use Rattle.zone_rdata.specs.Words.{IsClassWord}
use Rattle.zone_text.specs.Inherited.{IsLastOwner, IsOwner, SpellsAfter, stated_ttl, ttl_text}
use Rattle.zone_text.specs.Records.{EntryStates, HasHead, HasTtl, IsLastMinimum, StatesMinimum}
use Rattle.zone_text.specs.Statements.{no_items, ttl_among}
use Rattle.zone_text.specs.Tokens.{bare, blank, closing, comment, line_feed, opening, quoted}
use Rattle.zone_words.proofs.JoinedKinds.{no_layout, no_start, type_numbered}
use Rattle.zone_words.proofs.JoinedRefused.{HasType, form_read, head_of, type_in}
use Rattle.zone_words.proofs.SameStatements.{WordStands, first_same, items_after, new_items, none_before, number_in, old_items, parts_of, too_short, type_item, type_stands, type_text}
use Rattle.zone_words.proofs.Turns.{items_behind, no_directive}
use Rattle.type_data.specs.DataItem.{items_of}
use Rattle.zone_words.specs.Entry.{in_words}
use Rattle.zone_words.specs.WithWords.{HasItsData, HasItsParts, LeaveAlike}
use Rattle.zone_rdata.specs.Spelling as spelling
use Rattle.zone_rdata.specs.Spelling.{StatesFor}
use Rattle.hex.proofs.HexLemmas.{decode_of-encode_lower}
use Rattle.zone_words.specs.Written.{in_octets}

-- ---- the owner of a record, where other items follow from the type on

-- an owner's item, or none where it is omitted; nothing of what is no record
abbrev pub owner_of : Statement → Option (Option RawItem)
owner_of (owned owner items) = Some (Some owner)
owner_of (unowned items) = Some None
owner_of form = None

module _ (a b : RawItem) (x y : List RawItem) where
  octet_owner : (dollar is : Bool) (f : RawItem) (front : List RawItem) (parts : Parts) → parts_in (if dollar then directive f (front ++ a ∷ x) else if is then unowned (f ∷ (front ++ a ∷ x)) else owned f (front ++ a ∷ x)) ≡ Some parts → owner_of (if dollar then directive f (front ++ a ∷ x) else if is then unowned (f ∷ (front ++ a ∷ x)) else owned f (front ++ a ∷ x)) ≡ owner_of (if dollar then directive f (front ++ b ∷ y) else if is then unowned (f ∷ (front ++ b ∷ y)) else owned f (front ++ b ∷ y))
  octet_owner true is f front parts e = absurd (no_directive f (front ++ a ∷ x) parts e)
  octet_owner false true f front parts e = refl
  octet_owner false false f front parts e = refl

  octet_alone : (dollar is : Bool) (parts : Parts) → parts_in (if dollar then directive a x else if is then unowned (a ∷ x) else owned a x) ≡ Some parts → parts.rest ≡ a ∷ x → owner_of (if dollar then directive a x else if is then unowned (a ∷ x) else owned a x) ≡ owner_of (if dollar then directive b y else if is then unowned (b ∷ y) else owned b y)
  octet_alone true is parts e rest = absurd (no_directive a x parts e)
  octet_alone false true parts e rest = refl
  octet_alone false false parts e rest = absurd (let same : parts_after [] x ≡ parts = cc e in too_short [] a x (ap (λ (p : Parts). p.rest) same ∙ rest))

  record_owner : (first : Option ℕ) (front : List RawItem) (parts : Parts) → parts_in (statement_by first (front ++ a ∷ x)) ≡ Some parts → parts.rest ≡ a ∷ x → owner_of (statement_by first (front ++ a ∷ x)) ≡ owner_of (statement_by first (front ++ b ∷ y))
  record_owner None [] parts e rest = absurd (let same : parts_after [] x ≡ parts = cc e in too_short [] a x (ap (λ (p : Parts). p.rest) same ∙ rest))
  record_owner None (f ∷ front) parts e rest = refl
  record_owner (Some c) [] parts e rest = octet_alone (c == 36) (is_blank c) parts e rest
  record_owner (Some c) (f ∷ front) parts e rest = octet_owner (c == 36) (is_blank c) f front parts e

module _ (line : ℕ) (back : List Token) (word : List Written) (it : Anew) where
  abbrev old_of : List Token → Entry
  old_of front = entry_of line (front ++ bare word ∷ back)

  abbrev new_of : List Token → Entry
  new_of front = entry_of line (front ++ written it back)

  owner_same : (front : List Token) (parts : Parts) → AllByRecursion IsToken (front ++ bare word ∷ back) → WordStands line back word it front parts → owner_of (statement_of (old_of front)) ≡ owner_of (statement_of (new_of front))
  owner_same [] parts each stands = absurd (none_before line back word it parts each.0 stands)
  owner_same (p ∷ front) parts each stands =
      let old : Option ℕ = slice_get (text (p ∷ front ++ bare word ∷ back)) 0 in
      let same : old ≡ slice_get (text (p ∷ front ++ written it back)) 0 = first_same p (text (front ++ bare word ∷ back)) (text (front ++ written it back)) each.0 in
      let stated : parts_in (statement_by old (flat_map item_of (p ∷ front) ++ raw.bare (written_text word) ∷ flat_map item_of back)) ≡ Some parts = subst (λ i. parts_in (statement_by old i) ≡ Some parts) (old_items line back word it (p ∷ front)) stands.0 in
      ap (λ i. owner_of (statement_by old i)) (old_items line back word it (p ∷ front))
      ∙ record_owner (raw.bare (written_text word)) (type_item it) (flat_map item_of back) (items_after it back) old (flat_map item_of (p ∷ front)) parts stated stands.1
      ∙ ap (λ i. owner_of (statement_by old i)) (new_items line back word it (p ∷ front))
      ∙ ap (λ o. owner_of (statement_by o (flat_map item_of (p ∷ front ++ written it back)))) same

-- ---- what two records of entries share

-- the same owner and the same words before the type
pub record AreOfOneHead (old new : Entry) : Type 0 where
  pub parts : Parts
  pub others : Parts
  pub split : parts_in (statement_of old) ≡ Some parts
  pub other_split : parts_in (statement_of new) ≡ Some others
  pub words : parts.words ≡ others.words
  pub owner : owner_of (statement_of old) ≡ owner_of (statement_of new)

pub turned_head : (old new : Entry) → AreOfOneHead old new → AreOfOneHead new old
turned_head old new h = record { parts = h.others; others = h.parts; split = h.other_split; other_split = h.split; words = sym h.words; owner = sym h.owner }

pub same_class : (old new : Entry) → AreOfOneHead old new → class_word (statement_of old) ≡ class_word (statement_of new)
same_class old new h =
    ap (option_and_then (λ (p : Parts). class_among p.words)) h.split ∙ ap class_among h.words
    ∙ sym (ap (option_and_then (λ (p : Parts). class_among p.words)) h.other_split)

pub same_ttl : (old new : Entry) → AreOfOneHead old new → ttl_text (statement_of old) ≡ ttl_text (statement_of new)
same_ttl old new h =
    ap (option_and_then (λ (p : Parts). ttl_among p.words)) h.split ∙ ap ttl_among h.words
    ∙ sym (ap (option_and_then (λ (p : Parts). ttl_among p.words)) h.other_split)

module _ (origin : Labels) (before : List Entry) (name : Labels) where
  abbrev OwnerBy : Option (Option RawItem) → Type 0
  OwnerBy (Some (Some (raw.bare t))) = SpellsAfter origin before t name
  OwnerBy (Some None) = IsLastOwner origin before name
  OwnerBy o = ⊥

  owner_by : (form : Statement) → IsOwner origin before form name → OwnerBy (owner_of form)
  owner_by (owned (raw.bare t) items) is = is
  owner_by (owned (raw.quoted t) items) is = is
  owner_by (unowned items) is = is
  owner_by no_items is = is
  owner_by (sets_origin items) is = is
  owner_by (sets_ttl items) is = is
  owner_by includes is = is
  owner_by unknown is = is

  by_owner : (form : Statement) → OwnerBy (owner_of form) → IsOwner origin before form name
  by_owner (owned (raw.bare t) items) is = is
  by_owner (owned (raw.quoted t) items) is = is
  by_owner (unowned items) is = is
  by_owner no_items is = is
  by_owner (sets_origin items) is = is
  by_owner (sets_ttl items) is = is
  by_owner includes is = is
  by_owner unknown is = is

-- ---- after entries that leave the same

pub alike_turned : (origin : Labels) (before after : List Entry) → LeaveAlike origin before after → LeaveAlike origin after before
alike_turned origin before after same = record {
  under = λ name. ((same.under name).1, (same.under name).0);
  owner = λ name. ((same.owner name).1, (same.owner name).0);
  class = sym same.class;
  default_ttl = sym same.default_ttl;
  ttl = sym same.ttl;
  minimum = λ seconds. ((same.minimum seconds).1, (same.minimum seconds).0);
}

match_goes : {A : Type 0} (P : A → Type 0) (X Y : Type 0) (o : Option A) → (X → Y) → MatchOption o X P → MatchOption o Y P
match_goes P X Y None go m = go m
match_goes P X Y (Some a) go m = m

-- no MINIMUM is stated
abbrev pub StatesNoMinimum : Labels → List Entry → Entry → Type 0
StatesNoMinimum origin before entry = (seconds : ℕ) → StatesMinimum origin before entry seconds → ⊥

module _ (origin : Labels) (before after : List Entry) (same : LeaveAlike origin before after) where
  pub spells_too : (t : List ℕ) (name : Labels) → SpellsAfter origin before t name → SpellsAfter origin after t name
  spells_too t name s = (s.0, ((same.under s.0).0 s.1.0, s.1.1))

  owner_goes : (o : Option (Option RawItem)) (name : Labels) → OwnerBy origin before name o → OwnerBy origin after name o
  owner_goes None name is = is
  owner_goes (Some None) name is = (same.owner name).0 is
  owner_goes (Some (Some (raw.bare t))) name is = spells_too t name is
  owner_goes (Some (Some (raw.quoted t))) name is = is

  pub owner_alike : (f g : Statement) (name : Labels) → owner_of f ≡ owner_of g → IsOwner origin before f name → IsOwner origin after g name
  owner_alike f g name e is = by_owner origin after name g (subst (OwnerBy origin after name) e (owner_goes (owner_of f) name (owner_by origin before name f is)))

  pub class_alike : (old new : Entry) (class : ℕ) → class_word (statement_of old) ≡ class_word (statement_of new) → HasClass before old class → HasClass after new class
  class_alike old new class e has = subst (λ o. MatchOption o (class ≡ 1) (λ t. IsClassWord t class)) (λ j. option_or (e j) (same.class j)) has

  pub minimum_alike : (old new : Entry) (seconds : ℕ) → StatesNoMinimum origin before old → StatesNoMinimum origin after new → IsLastMinimum origin (old ∷ before) seconds → IsLastMinimum origin (new ∷ after) seconds
  minimum_alike old new seconds none none' (inl m) = absurd (none seconds m)
  minimum_alike old new seconds none none' (inr m) = inr (none', (same.minimum seconds).0 m.1)

  pub ttl_alike : (old new : Entry) (seconds : ℕ) → ttl_text (statement_of old) ≡ ttl_text (statement_of new) → (IsLastMinimum origin (old ∷ before) seconds → IsLastMinimum origin (new ∷ after) seconds) → HasTtl origin before old seconds → HasTtl origin after new seconds
  ttl_alike old new seconds e go has =
      let stated : stated_ttl before old ≡ stated_ttl after new = (λ j. option_or (e j) (option_or (same.default_ttl j) (same.ttl j))) in
      subst (λ o. MatchOption o (IsLastMinimum origin (new ∷ after) seconds) (λ t. IsTime t seconds)) stated
      (match_goes (λ t. IsTime t seconds) (IsLastMinimum origin (old ∷ before) seconds) (IsLastMinimum origin (new ∷ after) seconds) (stated_ttl before old) go has)

  -- the parts of two records that have one head
  pub parts_alike : (old new : Entry) (r : Record) → AreOfOneHead old new → StatesNoMinimum origin before old → StatesNoMinimum origin after new → HasItsParts origin before old r → HasItsParts origin after new r
  parts_alike old new r h none none' parts = record {
    above = parts.above;
    under = (same.under parts.above).0 parts.under;
    owner = owner_alike (statement_of old) (statement_of new) r.owner h.owner parts.owner;
    class = class_alike old new r.class (same_class old new h) parts.class;
    ttl = ttl_alike old new r.ttl (same_ttl old new h) (minimum_alike old new r.ttl none none') parts.ttl;
    fits = parts.fits;
  }

-- a record of a further type is no SOA
pub no_minimum : (origin : Labels) (after : List Entry) (entry : Entry) (word : List ℕ) (items : List RawItem) (further : FurtherType) → HasType entry word items further → StatesNoMinimum origin after entry
no_minimum origin after entry word items further is seconds m =
    let d : Data = m.1 in
    let same = head_of after origin entry word items further m.0 d.class d.kind m.2.items is m.2.head in
    let other : (d.kind == 6) ≡ false = ap (λ k. k == 6) same.0 ∙ no_start further is.named.row in
    let none : minimum d ≡ None = ap (λ (b : Bool). if b then last_of (layout d.class d.kind) d.octets else None) other in
    let bad : None ≡ Some seconds = sym none ∙ m.3 in
    cc bad

-- ---- the items that are written

no_items_stay : (back : List Token) → flat_map item_of (filter stays back) ≡ []
no_items_stay [] = refl
no_items_stay (blank c ∷ back) = no_items_stay back
no_items_stay (bare units ∷ back) = no_items_stay back
no_items_stay (quoted units ∷ back) = no_items_stay back
no_items_stay (opening ∷ back) = no_items_stay back
no_items_stay (closing ∷ back) = no_items_stay back
no_items_stay (line_feed ∷ back) = no_items_stay back
no_items_stay (comment octets ∷ back) = no_items_stay back

octet_items : (number : ℕ) (octets : List ℕ) (back : List Token) → items_after (in_octets number octets) back ≡ generic_items octets
octet_items number [] back = λ j. raw.generic_mark ∷ raw.bare (sym (plain_text (decimal 0)) j) ∷ no_items_stay back j
octet_items number (c ∷ octets) back = λ j. raw.generic_mark ∷ raw.bare (sym (plain_text (decimal (length (c ∷ octets)))) j) ∷ raw.bare (sym (plain_text (encode_lower (c ∷ octets))) j) ∷ no_items_stay back j

-- ---- digits that are read are those of octets

past_digits : (d : ℕ) → 16 ≤ d → slice_index lower_digits d ≡ 0
past_digits d past = get_or_past lower_digits d 0 (omega arith)

digit_place : (d : ℕ) → is_hex_digit (slice_index lower_digits d) ≡ true → d < 16
digit_place d e = elim (cases_lt d 16) [
  | inl below ↦ below
  | inr past ↦
      let none : is_hex_digit (slice_index lower_digits d) ≡ false = ap is_hex_digit (past_digits d past) in
      absurd (false≢true (sym none ∙ e))
]

abbrev AreDigits : List ℕ → Type 0
AreDigits t = AllByRecursion (λ c. is_hex_digit c ≡ true) t

octets_of_digits : (octets : List ℕ) → AreDigits (encode_lower octets) → AreOctets octets
unfolding encode_with
octets_of_digits [] each = tt
octets_of_digits (c ∷ octets) each = (let h = digit_place (c / 16) each.0 in omega arith, octets_of_digits octets each.1.1)

joined_are : (octets read : List ℕ) → JoinTo (digit_items octets) read → read ≡ octets
joined_are [] read e = e
joined_are (c ∷ octets) read j =
    let digits : AreDigits (encode_lower (c ∷ octets)) = recursion_from_All (λ c. is_hex_digit c ≡ true) (encode_lower (c ∷ octets)) (decode_of-ok (encode_lower (c ∷ octets)) j.0 j.2).1 in
    let each = octets_of_digits (c ∷ octets) digits in
    let back = decode_of-encode_lower (c ∷ octets) (each_below 256 (c ∷ octets) (omega arith) each) in
    let front : j.0 ≡ c ∷ octets = decode_of-same (encode_lower (c ∷ octets)) j.0 (c ∷ octets) j.2 back in
    j.3 ∙ (λ i. front i ++ j.4 i) ∙ append-nil (c ∷ octets)

form_octets : (octets read : List ℕ) → StatesGeneric (generic_items octets) read → read ≡ octets
form_octets octets read states =
    let parts : generic_items octets ≡ raw.generic_mark ∷ states.form.item ∷ states.digits = states.form.parts in
    let behind : raw.bare (decimal (length octets)) ∷ digit_items octets ≡ states.form.item ∷ states.digits = cc parts in
    let digits : digit_items octets ≡ states.digits = cc behind in
    joined_are octets read (subst (λ d. JoinTo d read) (sym digits) states.joined)

-- ---- the type and the data that are written

data_from : (it : Anew) (back : List Token) (r : Record) → r.kind ≡ number_in it → StatesGeneric (items_after it back) r.octets → HasItsData it back r
data_from (renamed number) back r kind states = (kind, states)
data_from (in_octets number octets) back r kind states =
    (kind, form_octets octets r.octets (subst (λ i. StatesGeneric i r.octets) (octet_items number octets back) states))

data_to : (it : Anew) (back : List Token) (r : Record) → IsRecord r → HasItsData it back r → (r.kind ≡ number_in it) × StatesGeneric (items_after it back) r.octets
data_to (renamed number) back r fits its = its
data_to (in_octets number octets) back r fits its =
    let own : StatesGeneric (generic_items r.octets) r.octets = printed_stated r.octets fits.rdata.octets.each fits.rdata.octets.short in
    (its.0, subst (λ i. StatesGeneric i r.octets) (ap generic_items its.1 ∙ sym (octet_items number octets back)) own)

-- the further type of what is said anew
record IsOfType (cased : Labels) (before : List Entry) (entry : Entry) (word : List ℕ) (items : List RawItem) (it : Anew) : Type 0 where
  further : FurtherType
  above : Labels
  is : IsFurtherUnder cased before entry word items further above
  number : number_in it ≡ further.number

of_type : (cased : Labels) (before : List Entry) (entry : Entry) (word : List ℕ) (d : List TouchingItem) (it : Anew) → SaysAnew cased before entry word d it → IsOfType cased before entry word (items_of d) it
of_type cased before entry word d it (in_generic_form further above is few line generic mnemonic) = record { further = further; above = above; is = is; number = refl }
of_type cased before entry word d it (in_words further above octets is few line words states) = record { further = further; above = above; is = is; number = refl }

-- ---- the entry

module _ (cased origin : Labels) (before after : List Entry) (line : ℕ) (front back : List Token) (word : List Written) (it : Anew) (each : AllByRecursion IsToken (front ++ bare word ∷ back)) (says : SaysAnew cased before (entry_of line (front ++ bare word ∷ back)) (written_text word) (touching_items true back) it) where
  abbrev old : Entry
  old = entry_of line (front ++ bare word ∷ back)

  abbrev new : Entry
  new = entry_of line (front ++ written it back)

  abbrev u : IsOfType cased before old (written_text word) (items_of (touching_items true back)) it
  u = of_type cased before old (written_text word) (touching_items true back) it says

  abbrev row : further_type u.further.number ≡ Some u.further
  row = u.is.stated.named.row

  number_same : number_in it ≡ u.further.number
  number_same = u.number

  abbrev now : List ℕ
  now = type_text (number_in it)

  type_now : IsNumbered (codes "TYPE") now u.further.number
  type_now = subst (λ t. IsNumbered (codes "TYPE") t u.further.number) (ap (λ n. codes "TYPE" ++ decimal n) (sym number_same) ∙ plain_text (codes "TYPE" ++ decimal (number_in it))) (type_numbered u.further row)

  abbrev parts : Parts
  parts = u.is.stated.parts

  abbrev others : Parts
  others = parts_of parts.words (type_item it ∷ items_after it back)

  stands : WordStands line back word it front parts
  stands = (u.is.stated.split, u.is.stated.from_type ∙ ap (λ t. raw.bare (written_text word) ∷ t) (items_behind true back))

  new_split : parts_in (statement_of new) ≡ Some others
  new_split = type_stands line back word it front parts each stands

  old_type : HasType old (written_text word) (items_of (touching_items true back)) u.further
  old_type = type_in before old (written_text word) (items_of (touching_items true back)) u.further u.is.stated

  new_type : HasType new now (items_after it back) u.further
  new_type = record {
    parts = others;
    split = new_split;
    values = u.is.stated.values;
    from_type = refl;
    named = record { named = by_number type_now; row = row };
  }

  pub one_head : AreOfOneHead old new
  one_head = record {
    parts = parts;
    others = others;
    split = u.is.stated.split;
    other_split = new_split;
    words = refl;
    owner = owner_same line back word it front parts each stands;
  }

  pub no_old_minimum : (entries : List Entry) → StatesNoMinimum origin entries old
  no_old_minimum entries = no_minimum origin entries old (written_text word) (items_of (touching_items true back)) u.further old_type

  pub no_new_minimum : (entries : List Entry) → StatesNoMinimum origin entries new
  no_new_minimum entries = no_minimum origin entries new now (items_after it back) u.further new_type

  module _ (same : LeaveAlike origin before after) (r : Record) where
    record_from : EntryStates origin after new r → HasItsParts origin before old r × HasItsData it back r
    record_from states =
        let read = form_read after origin new now (items_after it back) u.further r new_type states.contents in
        let its : HasItsParts origin after new r = record {
          above = states.contents.above;
          under = states.contents.under;
          owner = states.contents.head.owner;
          class = states.contents.head.class;
          ttl = states.ttl;
          fits = states.fits;
        } in (
          parts_alike origin after before (alike_turned origin before after same) new old r (turned_head old new one_head) (no_new_minimum after) (no_old_minimum before) its,
          data_from it back r (read.0 ∙ sym number_same) read.1,
        )

    head_to : HasItsParts origin after new r → r.kind ≡ number_in it → HasHead origin after new r.owner r.class r.kind (items_after it back)
    head_to its kind = record {
      parts = others;
      word = now;
      split = new_split;
      owner = its.owner;
      words = u.is.stated.values;
      class = its.class;
      rest = refl;
      named = by_number (subst (λ n. IsNumbered (codes "TYPE") now n) (sym (kind ∙ number_same)) type_now);
      kind = its.fits.rdata.kind;
    }

    record_to : HasItsParts origin before old r → HasItsData it back r → EntryStates origin after new r
    record_to parts_are data_is =
        let its = parts_alike origin before after same old new r one_head (no_old_minimum before) (no_new_minimum after) parts_are in
        let form = data_to it back r parts_are.fits data_is in
        let none : layout r.class r.kind ≡ None = ap (layout r.class) (form.0 ∙ number_same) ∙ no_layout u.further row r.class in
        record {
          contents = record {
            items = items_after it back;
            above = its.above;
            head = head_to its form.0;
            under = its.under;
            states = record { stated = subst (λ l. StatesFor its.above l (items_after it back) r.octets) (sym none) (spelling.in_octets (r.octets, form.1, refl)) };
          };
          ttl = its.ttl;
          fits = its.fits;
        }

    pub entry_read : EntryStates origin after new r ↔ (HasItsParts origin before old r × HasItsData it back r)
    entry_read = (record_from, λ its. record_to its.0 its.1)

pub anew_read : (cased origin : Labels) (before after : List Entry) (line : ℕ) (tokens front back : List Token) (it : Anew) (r : Record) → AllByRecursion IsToken tokens → LeaveAlike origin before after → TokensSay cased before line tokens front back it → EntryStates origin after (entry_of line (front ++ written it back)) r ↔ (HasItsParts origin before (entry_of line tokens) r × HasItsData it back r)
anew_read cased origin before after line tokens front back it r each same say =
    subst (λ t. EntryStates origin after (entry_of line (front ++ written it back)) r ↔ (HasItsParts origin before (entry_of line t) r × HasItsData it back r)) (sym say.split)
    (entry_read cased origin before after line front back say.word it (subst (AllByRecursion IsToken) say.split each) (subst (λ t. SaysAnew cased before (entry_of line t) (written_text say.word) (touching_items true back) it) say.split say.says) same r)
