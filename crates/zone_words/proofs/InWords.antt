-- A record in words on one line is rewritten as the record with its data in the generic form.
use Rattle.zone_words.proofs.Common.{AllByRecursion, BecomesUnder, Bool, FurtherType, HasClass, IsFurtherRecord, IsFurtherWord, IsRewriting, IsToken, Labels, List, MatchOption, Named, None, Parts, RawItem, SaysAnew, Some, Token, TokensSay, TouchingItem, Word, Written, [], and_last, anew, ap, append-nil, arith, by_mnemonic, class_among, ends_item, entry_of, escaped, false, false≢true, filter, find_mapped, flat_map, flat_map-append, found_each, further_names, further_type, further_types, generic_tokens, in_class, is_blank, item_of, length, length-append, list_all, map, mnemonic_among, most_items, nat_tests, not, not-true, option_map, option_or, owned, parts_after, parts_in, plain, refl, slice_get, statement_by, statement_of, stays, subst, sym, text, token_text, true, word, word_after, written, written_text, ℕ, ◌++◌, ◌<◌, ◌==◌, ◌∙◌, ◌∷◌, ◌≡◌, ◌≢◌}
unfoldable use Rattle.type_data.specs.Table.{early_types, late_types, signed_types}
use Rattle.std.specs.Prelude.{◌&&◌, nat_lt, IfSome, IsSome, option_and_then}
use Rattle.std.proofs.lemmas.List.{length-map}
use Rattle.zone_text.proofs.Common.{bare}
use Rattle.zone_name.proofs.Texts.Bare.{plain_text}
use Rattle.zone_name.specs.Spelling as spelling
use Rattle.zone_rdata.specs.Item as raw
use Rattle.zone_rdata.specs.Words.{IsClassWord}
use Rattle.zone_text.proofs.Heads.ClassWords.{class_word_first, class_word_known, time_first}
use Rattle.zone_text.proofs.Heads.WordsLeft.{next_part}
use Rattle.zone_text.specs.Entries.{Cut}
use Rattle.zone_text.specs.FirstEntry.{IsOneEntry}
use Rattle.zone_text.specs.Inherited.{class_word}
use Rattle.zone_text.specs.Records.{HasValue}
use Rattle.zone_text.specs.Statements.{begins_with_digit, class, is_class_word, ttl}
use Rattle.zone_words.proofs.WrittenWords.{ArePlain, word_token}
use Rattle.type_data.specs.DataItem.{items_of}
use Rattle.zone_words.specs.Entry.{in_words}
use Rattle.zone_words.specs.Rewriting.{EachBecomes, whole}
use Rattle.type_data.specs.StandingItem.{StandsBehind}
use Rattle.zone_words.specs.WordsLine.{AreWords, IsHead, IsOwnerlessHead, generic_line, words_line}
use Rattle.zone_words.specs.Written.{in_octets}
use Rattle.zone_words.proofs.HeadLines.{IsFront, line_cut, line_ended, of_head, of_ownerless, one_line, rest_items, tail, tail_stays, tail_touching, tokens}

-- ---- the mnemonic of a further type

abbrev plain_octet : ℕ → Bool
plain_octet c = not (ends_item c) && not (c == 92)

abbrev is_plain_word : List ℕ → Bool
is_plain_word word = nat_lt 0 (length word) && list_all plain_octet word

and_first : (a b : Bool) → (a && b) ≡ true → a ≡ true
and_first true b e = refl
and_first false b e = absurd (false≢true e)

and_last_too : (a b : Bool) → (a && b) ≡ true → b ≡ true
and_last_too true b e = e
and_last_too false b e = absurd (false≢true e)

plain_each : (word : List ℕ) → list_all plain_octet word ≡ true → ArePlain word
plain_each [] e = tt
plain_each (c ∷ word) e =
    let both = and_first (plain_octet c) (list_all plain_octet word) e in (
      (not-true (ends_item c) (and_first (not (ends_item c)) (not (c == 92)) both), (λ is. (let no : (c == 92) ≡ false = not-true (c == 92) (and_last_too (not (ends_item c)) (not (c == 92)) both) in false≢true (sym no ∙ eqb-refl-of c is)))),
      plain_each word (and_last_too (plain_octet c) (list_all plain_octet word) e),
    )
  where
    eqb-refl-of : (c : ℕ) → c ≡ 92 → (c == 92) ≡ true
    eqb-refl-of c is = rw is refl

each_plain : list_all (λ (f : FurtherType). is_plain_word f.mnemonic) further_types ≡ true
unfolding early_types late_types signed_types
each_plain = refl

each_without_digit : list_all (λ (f : FurtherType). not (begins_with_digit f.mnemonic)) further_types ≡ true
unfolding early_types late_types signed_types
each_without_digit = refl

each_is_no_class : list_all (λ (f : FurtherType). not (is_class_word f.mnemonic)) further_types ≡ true
unfolding early_types late_types signed_types
each_is_no_class = refl

module _ (further : FurtherType) (row : further_type further.number ≡ Some further) where
  abbrev is_row : FurtherType → Bool
  is_row f = further.number == f.number

  mnemonic_plain : is_plain_word further.mnemonic ≡ true
  mnemonic_plain = found_each (λ (f : FurtherType). is_plain_word f.mnemonic) is_row further_types further each_plain row

  mnemonic_token : IsToken (word further.mnemonic)
  mnemonic_token =
      word_token further.mnemonic (some_of (and_first (nat_lt 0 (length further.mnemonic)) (list_all plain_octet further.mnemonic) mnemonic_plain))
      (plain_each further.mnemonic (and_last_too (nat_lt 0 (length further.mnemonic)) (list_all plain_octet further.mnemonic) mnemonic_plain))
    where
      some_of : nat_lt 0 (length further.mnemonic) ≡ true → 0 < length further.mnemonic
      some_of e = grind (arith, nat_tests)

  no_word : (words : List Word) → word_after words (raw.bare further.mnemonic) ≡ None
  no_word words = rw (no_digit, no_class) refl
    where
      no_digit : begins_with_digit further.mnemonic ≡ false
      no_digit = not-true _ (found_each (λ (f : FurtherType). not (begins_with_digit f.mnemonic)) is_row further_types further each_without_digit row)

      no_class : is_class_word further.mnemonic ≡ false
      no_class = not-true _ (found_each (λ (f : FurtherType). not (is_class_word f.mnemonic)) is_row further_types further each_is_no_class row)

  mnemonic_row : mnemonic_among further_names further.number ≡ Some further.mnemonic
  mnemonic_row =
      ap (option_map (λ (n : Named). n.mnemonic)) (find_mapped (λ (f : FurtherType). record { number = f.number; mnemonic = f.mnemonic }) (λ (n : Named). further.number == n.number) further_types)
      ∙ ap (λ o. option_map (λ (n : Named). n.mnemonic) (option_map (λ (f : FurtherType). record { number = f.number; mnemonic = f.mnemonic }) o)) row

  mnemonic_named : IsFurtherWord further.mnemonic further
  mnemonic_named = record { named = by_mnemonic (record { name = further.mnemonic; row = mnemonic_row; same = refl }); row = row }

-- ---- what stands before the type

owned_by : (units : List Written) (more : List ℕ) (item : RawItem) (items : List RawItem) → IsToken (bare units) → IfSome (slice_get (written_text units) 0) (λ c. c ≢ 36) → statement_by (slice_get (written_text units ++ more) 0) (item ∷ items) ≡ owned item items
owned_by [] more item items is unlike = absurd (omega (arith, is.0))
owned_by (plain c ∷ units) more item items is unlike = rw (no_dollar, no_blank) refl
  where
    no_dollar : (c == 36) ≡ false
    no_dollar = grind (arith, nat_tests)

    no_blank : is_blank c ≡ false
    no_blank = grind arith
owned_by (escaped c ∷ units) more item items is unlike = refl
owned_by (spelling.decimal c d e ∷ units) more item items is unlike = refl

record_parts : (ttl_text class_text type_text : List ℕ) (items : List RawItem) → begins_with_digit ttl_text ≡ true → begins_with_digit class_text ≡ false → is_class_word class_text ≡ true → ((words : List Word) → word_after words (raw.bare type_text) ≡ None) → parts_after [] (raw.bare ttl_text ∷ raw.bare class_text ∷ raw.bare type_text ∷ items) ≡ record { words = ttl ttl_text ∷ class class_text ∷ []; rest = raw.bare type_text ∷ items }
record_parts ttl_text class_text type_text items is_ttl no_ttl is_class none =
    next_part [] (raw.bare ttl_text) (raw.bare class_text ∷ raw.bare type_text ∷ items) (Some (ttl ttl_text)) (rw is_ttl refl)
    ∙ next_part (ttl ttl_text ∷ []) (raw.bare class_text) (raw.bare type_text ∷ items) (Some (class class_text)) (rw (no_ttl, is_class) refl)
    ∙ next_part (ttl ttl_text ∷ class class_text ∷ []) (raw.bare type_text) items None (none (ttl ttl_text ∷ class class_text ∷ []))

unowned_parts : (class_text type_text : List ℕ) (items : List RawItem) → begins_with_digit class_text ≡ false → is_class_word class_text ≡ true → ((words : List Word) → word_after words (raw.bare type_text) ≡ None) → parts_after [] (raw.bare class_text ∷ raw.bare type_text ∷ items) ≡ record { words = class class_text ∷ []; rest = raw.bare type_text ∷ items }
unowned_parts class_text type_text items no_ttl is_class none =
    next_part [] (raw.bare class_text) (raw.bare type_text ∷ items) (Some (class class_text)) (rw (no_ttl, is_class) refl)
    ∙ next_part (class class_text ∷ []) (raw.bare type_text) items None (none (class class_text ∷ []))

-- Before a word that is no part of them, the tokens are the words of a record that states its class.
pub record SaysClass (before : List Token) (class_number : ℕ) : Type 0 where
  pub words : List Word
  pub split : (type_text : List ℕ) (items : List RawItem) (rest : List Token)
      → ((words : List Word) → word_after words (raw.bare type_text) ≡ None)
      → flat_map item_of rest ≡ raw.bare type_text ∷ items
      → parts_in (statement_of (entry_of 1 (before ++ rest))) ≡ Some (record { words = words; rest = raw.bare type_text ∷ items })
  pub values : AllByRecursion HasValue words
  pub text : List ℕ
  pub among : class_among words ≡ Some text
  pub is_word : IsClassWord text class_number
  pub few : length (flat_map item_of before) < 4

module _ (head : List ℕ) (class_number : ℕ) (h : IsHead head class_number) where
  abbrev owner_text : List ℕ
  owner_text = written_text h.owner_stands.units

  abbrev ttl_text : List ℕ
  ttl_text = written_text h.ttl_stands.units

  abbrev head_class : List ℕ
  head_class = written_text h.word_stands.units

  abbrev head_before : List Token
  head_before = (of_head head class_number h).before

  head_split : (type_text : List ℕ) (items : List RawItem) (rest : List Token) → ((words : List Word) → word_after words (raw.bare type_text) ≡ None) → flat_map item_of rest ≡ raw.bare type_text ∷ items → parts_in (statement_of (entry_of 1 (head_before ++ rest))) ≡ Some (record { words = ttl ttl_text ∷ class head_class ∷ []; rest = raw.bare type_text ∷ items })
  head_split type_text items rest none is =
      ap parts_in (ap (λ t. statement_by (slice_get (text (head_before ++ rest)) 0) (raw.bare owner_text ∷ raw.bare ttl_text ∷ raw.bare head_class ∷ t)) is
      ∙ owned_by h.owner_stands.units _ (raw.bare owner_text) (raw.bare ttl_text ∷ raw.bare head_class ∷ raw.bare type_text ∷ items) h.owner_stands.is (subst (λ t. IfSome (slice_get t 0) (λ c. c ≢ 36)) h.owner_stands.spelt h.no_directive))
      ∙ ap Some (record_parts ttl_text head_class type_text items
      (subst (λ t. begins_with_digit t ≡ true) h.ttl_stands.spelt (time_first h.ttl h.seconds h.is_ttl.time))
      (subst (λ t. begins_with_digit t ≡ false) h.word_stands.spelt (class_word_first h.word class_number h.is_word))
      (subst (λ t. is_class_word t ≡ true) h.word_stands.spelt (class_word_known h.word class_number h.is_word)) none)

  pub head_says : SaysClass head_before class_number
  head_says = record {
    words = ttl ttl_text ∷ class head_class ∷ [];
    split = head_split;
    values = (subst (λ t. HasValue (ttl t)) h.ttl_stands.spelt (h.seconds, h.is_ttl), (subst (λ t. HasValue (class t)) h.word_stands.spelt (class_number, (h.is_word, h.is_class)), tt));
    text = head_class;
    among = refl;
    is_word = subst (λ t. IsClassWord t class_number) h.word_stands.spelt h.is_word;
    few = omega arith;
  }

module _ (head : List ℕ) (class_number : ℕ) (h : IsOwnerlessHead head class_number) where
  abbrev ownerless_class : List ℕ
  ownerless_class = written_text h.word_stands.units

  pub ownerless_says : SaysClass (of_ownerless head class_number h).before class_number
  ownerless_says = record {
    words = class ownerless_class ∷ [];
    split = λ type_text items rest none is. ap (λ t. Some (parts_after [] (raw.bare ownerless_class ∷ t))) is
        ∙ ap Some (unowned_parts ownerless_class type_text items
        (subst (λ t. begins_with_digit t ≡ false) h.word_stands.spelt (class_word_first h.word class_number h.is_word))
        (subst (λ t. is_class_word t ≡ true) h.word_stands.spelt (class_word_known h.word class_number h.is_word)) none);
    values = (subst (λ t. HasValue (class t)) h.word_stands.spelt (class_number, (h.is_word, h.is_class)), tt);
    text = ownerless_class;
    among = refl;
    is_word = subst (λ t. IsClassWord t class_number) h.word_stands.spelt h.is_word;
    few = omega arith;
  }

-- ---- the line

module _ (head : List ℕ) (class_number : ℕ) (front : IsFront head) (known : SaysClass front.before class_number) (further : FurtherType) (items : List TouchingItem) (octets : List ℕ) (row : further_type further.number ≡ Some further) (printed : AreWords further.fields items octets) where
  abbrev s : AllByRecursion StandsBehind items
  s = printed.stand

  abbrev type_is : IsToken (word further.mnemonic)
  type_is = mnemonic_token further row

  abbrev back : List Token
  back = tail items s

  abbrev all_tokens : List Token
  all_tokens = tokens head front further.mnemonic items type_is s

  abbrev type_text : List ℕ
  type_text = written_text (map plain further.mnemonic)

  -- ---- what it states

  abbrev parts : Parts
  parts = record { words = known.words; rest = raw.bare type_text ∷ items_of items }

  none_at_type : (words : List Word) → word_after words (raw.bare type_text) ≡ None
  none_at_type words = subst (λ t. word_after words (raw.bare t) ≡ None) (plain_text further.mnemonic) (no_word further row words)

  split : parts_in (statement_of (entry_of 1 all_tokens)) ≡ Some parts
  split = known.split type_text (items_of items) (bare (map plain further.mnemonic) ∷ back) none_at_type (rest_items head front further.mnemonic items type_is s)

  class_is : class_word (statement_of (entry_of 1 all_tokens)) ≡ Some known.text
  class_is = ap (option_and_then (λ (p : Parts). class_among p.words)) split ∙ known.among

  pub one_entry : (found : List Token) × IsOneEntry (words_line head further items) found × IsSome (class_word (statement_of (entry_of 1 found)))
  one_entry = (all_tokens, record { cut = line_cut head front further.mnemonic items type_is s; ended = line_ended head front further.mnemonic items type_is s }, subst IsSome (sym class_is) refl)

  module _ (origin : Labels) (alone : further.in_internet_alone ≡ true → class_number ≡ in_class) where
    in_its_class : further.in_internet_alone ≡ true → HasClass [] (entry_of 1 all_tokens) in_class
    in_its_class is =
        subst (λ o. MatchOption (option_or o None) (in_class ≡ 1) (λ t. IsClassWord t in_class)) (sym class_is) (subst (IsClassWord known.text) (alone is) known.is_word)

    stated : IsFurtherRecord [] (entry_of 1 all_tokens) type_text (items_of items) further
    stated = record {
      parts = parts;
      split = split;
      values = known.values;
      from_type = refl;
      named = subst (λ t. IsFurtherWord t further) (plain_text further.mnemonic) (mnemonic_named further row);
      class = in_its_class;
    }

    few_items : length (entry_of 1 all_tokens).items < most_items
    few_items =
        let e = ap length (flat_map-append item_of front.before (bare (map plain further.mnemonic) ∷ back) ∙ ap (λ t. flat_map item_of front.before ++ t) (rest_items head front further.mnemonic items type_is s)) in
        let a = length-append (flat_map item_of front.before) (raw.bare type_text ∷ items_of items) in
        let l = length-map items (λ (d : TouchingItem). d.item) in omega (arith, e, a, l, known.few, printed.few)

    says : SaysAnew origin [] (entry_of 1 all_tokens) type_text items (in_octets further.number octets)
    says = in_words further origin octets (record { stated = stated; under = refl }) few_items (one_line items s) printed.in_words (printed.states origin)

    say : TokensSay origin [] 1 all_tokens front.before back (in_octets further.number octets)
    say = record {
      word = map plain further.mnemonic;
      split = refl;
      says = subst (λ d. SaysAnew origin [] (entry_of 1 all_tokens) type_text d (in_octets further.number octets)) (sym (tail_touching items s)) says;
    }

    -- ---- what is written for it

    abbrev new : List Token
    new = front.before ++ written (in_octets further.number octets) back

    new_text : generic_line head further octets ≡ text new
    new_text =
        sym (flat_map-append token_text front.before (generic_tokens further.number octets ++ filter stays back)
        ∙ (λ j. front.spelt j ++ (flat_map-append token_text (generic_tokens further.number octets) (filter stays back) ∙ ap (λ t. text (generic_tokens further.number octets) ++ text t) (tail_stays items s)) j))

    pub words_rewritten : IsRewriting origin (words_line head further items) (generic_line head further octets) []
    words_rewritten =
        whole all_tokens (record { written = new; told = [] } ∷ []) (line_cut head front further.mnemonic items type_is s)
        (subst (λ (c : Cut). EachBecomes (BecomesUnder origin) [] 1 (and_last c.ended c.open_tokens) (record { written = new; told = [] } ∷ [])) (sym (line_ended head front further.mnemonic items type_is s))
        (anew front.before back (in_octets further.number octets) say refl, tt))
        (new_text ∙ sym (append-nil (text new))) refl
