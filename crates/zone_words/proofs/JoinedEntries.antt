-- What an entry and what is written for it leave to those after them.
use Rattle.zone_words.proofs.Common.{AllByRecursion, Anew, BecomesUnder, Entry, IsToken, Labels, List, MatchOption, None, Option, Outcome, Parts, RawItem, Refused, SaysAnew, Some, Statement, Token, TokensSay, [], anew, ap, class_word, entry_of, includes, kept, option_or, owned, parts_in, refl, refused, sets_origin, sets_ttl, statement_of, subst, sym, touching_items, true, unknown, unowned, written, written_text, inl, inr, ℕ, ◌++◌, ◌∙◌, ◌∷◌, ◌≡◌}
use Rattle.std.specs.Prelude.{◌↔◌}
use Rattle.zone_name.specs.Spelling.{Spells}
use Rattle.zone_rdata.specs.Item as raw
use Rattle.zone_rdata.specs.Record.{Data, Record, data_of}
use Rattle.zone_text.specs.Inherited.{IsLastOwner, IsOrigin, SpellsAfter, default_ttl_text, origin_text, owner_text, ttl_text}
use Rattle.zone_text.specs.Records.{EntryStates, HasContents, IsLastMinimum, StatesMinimum, StatesNothing}
use Rattle.zone_text.specs.Statements.{no_items}
use Rattle.zone_text.specs.Tokens.{bare}
use Rattle.zone_words.proofs.BecomesOnce.{becomes_once}
use Rattle.zone_words.proofs.JoinedReading.{AreOfOneHead, alike_turned, anew_read, class_alike, no_new_minimum, no_old_minimum, one_head, StatesNoMinimum, owner_alike, owner_of, same_class, same_ttl, spells_too, ttl_alike}
use Rattle.zone_words.proofs.JoinedRefused.{parts_state, refused_record}
use Rattle.zone_words.specs.WithWords.{LeaveAlike, StatesWithWords, by_itself, of_further}

-- ---- two entries that leave the same

record AreAlike (origin : Labels) (before after : List Entry) (old new : Entry) : Type 0 where
  origin_is : origin_text (statement_of old) ≡ origin_text (statement_of new)
  owner : owner_text (statement_of old) ≡ owner_text (statement_of new)
  class : class_word (statement_of old) ≡ class_word (statement_of new)
  default_ttl : default_ttl_text (statement_of old) ≡ default_ttl_text (statement_of new)
  ttl : ttl_text (statement_of old) ≡ ttl_text (statement_of new)
  minimum : (seconds : ℕ) → StatesMinimum origin before old seconds ↔ StatesMinimum origin after new seconds

alike_back : (origin : Labels) (before after : List Entry) (old new : Entry) → AreAlike origin before after old new → AreAlike origin after before new old
alike_back origin before after old new a = record {
  origin_is = sym a.origin_is;
  owner = sym a.owner;
  class = sym a.class;
  default_ttl = sym a.default_ttl;
  ttl = sym a.ttl;
  minimum = λ seconds. ((a.minimum seconds).1, (a.minimum seconds).0);
}

module _ (origin : Labels) (before after : List Entry) (same : LeaveAlike origin before after) where
  origin_goes : (o : Option (List ℕ)) (name : Labels) → MatchOption o (IsOrigin origin before name) (λ t. (above : Labels) × (IsOrigin origin before above × Spells (Some above) t name)) → MatchOption o (IsOrigin origin after name) (λ t. (above : Labels) × (IsOrigin origin after above × Spells (Some above) t name))
  origin_goes None name is = (same.under name).0 is
  origin_goes (Some t) name is = spells_too origin before after same t name is

  owner_goes : (o : Option (List ℕ)) (name : Labels) → MatchOption o (IsLastOwner origin before name) (λ t. SpellsAfter origin before t name) → MatchOption o (IsLastOwner origin after name) (λ t. SpellsAfter origin after t name)
  owner_goes None name is = (same.owner name).0 is
  owner_goes (Some t) name is = spells_too origin before after same t name is

  module _ (old new : Entry) (a : AreAlike origin before after old new) where
    under_next : (name : Labels) → IsOrigin origin (old ∷ before) name → IsOrigin origin (new ∷ after) name
    under_next name is = subst (λ o. MatchOption o (IsOrigin origin after name) (λ t. (above : Labels) × (IsOrigin origin after above × Spells (Some above) t name))) a.origin_is (origin_goes (origin_text (statement_of old)) name is)

    owner_next : (name : Labels) → IsLastOwner origin (old ∷ before) name → IsLastOwner origin (new ∷ after) name
    owner_next name is = subst (λ o. MatchOption o (IsLastOwner origin after name) (λ t. SpellsAfter origin after t name)) a.owner (owner_goes (owner_text (statement_of old)) name is)

    minimum_next : (seconds : ℕ) → IsLastMinimum origin (old ∷ before) seconds → IsLastMinimum origin (new ∷ after) seconds
    minimum_next seconds (inl m) = inl ((a.minimum seconds).0 m)
    minimum_next seconds (inr m) = inr ((λ other n. m.0 other ((a.minimum other).1 n)), (same.minimum seconds).0 m.1)

next_alike : (origin : Labels) (before after : List Entry) (old new : Entry) → LeaveAlike origin before after → AreAlike origin before after old new → LeaveAlike origin (old ∷ before) (new ∷ after)
next_alike origin before after old new same a =
    let same_back = alike_turned origin before after same in
    let a_back = alike_back origin before after old new a in
    record {
      under = λ name. (under_next origin before after same old new a name, under_next origin after before same_back new old a_back name);
      owner = λ name. (owner_next origin before after same old new a name, owner_next origin after before same_back new old a_back name);
      class = λ j. option_or (a.class j) (same.class j);
      default_ttl = λ j. option_or (a.default_ttl j) (same.default_ttl j);
      ttl = λ j. option_or (a.ttl j) (same.ttl j);
      minimum = λ seconds. (minimum_next origin before after same old new a seconds, minimum_next origin after before same_back new old a_back seconds);
    }

-- ---- one entry after entries that leave the same

module _ (origin : Labels) (before after : List Entry) (same : LeaveAlike origin before after) (entry : Entry) where
  contents_too : (name : Labels) (d : Data) → HasContents origin before entry name d → HasContents origin after entry name d
  contents_too name d c = record {
    items = c.items;
    above = c.above;
    head = record {
      parts = c.head.parts;
      word = c.head.word;
      split = c.head.split;
      owner = owner_alike origin before after same (statement_of entry) (statement_of entry) name refl c.head.owner;
      words = c.head.words;
      class = class_alike origin before after same entry entry d.class refl c.head.class;
      rest = c.head.rest;
      named = c.head.named;
      kind = c.head.kind;
    };
    under = (same.under c.above).0 c.under;
    states = c.states;
  }

  minimum_too : (seconds : ℕ) → StatesMinimum origin before entry seconds → StatesMinimum origin after entry seconds
  minimum_too seconds m = (m.0, m.1, contents_too m.0 m.1 m.2, m.3)

  nothing_too : (form : Statement) → StatesNothing origin before form → StatesNothing origin after form
  nothing_too no_items is = is
  nothing_too (sets_origin []) is = is
  nothing_too (sets_origin (raw.bare t ∷ [])) is = (is.0, spells_too origin before after same t is.0 is.1)
  nothing_too (sets_origin (raw.bare t ∷ next ∷ items)) is = is
  nothing_too (sets_origin (raw.quoted t ∷ items)) is = is
  nothing_too (sets_ttl []) is = is
  nothing_too (sets_ttl (raw.bare t ∷ [])) is = is
  nothing_too (sets_ttl (raw.bare t ∷ next ∷ items)) is = is
  nothing_too (sets_ttl (raw.quoted t ∷ items)) is = is
  nothing_too includes is = is
  nothing_too unknown is = is
  nothing_too (owned owner items) is = is
  nothing_too (unowned items) is = is

itself_alike : (origin : Labels) (before after : List Entry) (entry : Entry) → LeaveAlike origin before after → AreAlike origin before after entry entry
itself_alike origin before after entry same = record {
  origin_is = refl;
  owner = refl;
  class = refl;
  default_ttl = refl;
  ttl = refl;
  minimum = λ seconds. (minimum_too origin before after same entry seconds, minimum_too origin after before (alike_turned origin before after same) entry seconds);
}

pub record_too : (origin : Labels) (before after : List Entry) (entry : Entry) (r : Record) → LeaveAlike origin before after → EntryStates origin before entry r → EntryStates origin after entry r
record_too origin before after entry r same states = record {
  contents = contents_too origin before after same entry r.owner (data_of r) states.contents;
  ttl = ttl_alike origin before after same entry entry r.ttl refl ((next_alike origin before after entry entry same (itself_alike origin before after entry same)).minimum r.ttl).0 states.ttl;
  fits = states.fits;
}

-- ---- entries of one head

no_texts : (form : Statement) (parts : Parts) → parts_in form ≡ Some parts → (origin_text form ≡ None) × (default_ttl_text form ≡ None)
no_texts no_items parts e = absurd cc
no_texts (sets_origin items) parts e = absurd cc
no_texts (sets_ttl items) parts e = absurd cc
no_texts includes parts e = absurd cc
no_texts unknown parts e = absurd cc
no_texts (owned owner items) parts e = (refl, refl)
no_texts (unowned items) parts e = (refl, refl)

abbrev text_by : Option (Option RawItem) → Option (List ℕ)
text_by (Some (Some (raw.bare t))) = Some t
text_by o = None

text_is : (form : Statement) → owner_text form ≡ text_by (owner_of form)
text_is no_items = refl
text_is (sets_origin items) = refl
text_is (sets_ttl items) = refl
text_is includes = refl
text_is unknown = refl
text_is (owned (raw.bare t) items) = refl
text_is (owned (raw.quoted t) items) = refl
text_is (unowned items) = refl

heads_alike : (origin : Labels) (before after : List Entry) (old new : Entry) → AreOfOneHead old new → ((seconds : ℕ) → StatesMinimum origin before old seconds → ⊥) → ((seconds : ℕ) → StatesMinimum origin after new seconds → ⊥) → AreAlike origin before after old new
heads_alike origin before after old new h none none' =
    let a = no_texts (statement_of old) h.parts h.split in
    let b = no_texts (statement_of new) h.others h.other_split in
    record {
      origin_is = a.0 ∙ sym b.0;
      owner = text_is (statement_of old) ∙ ap text_by h.owner ∙ sym (text_is (statement_of new));
      class = same_class old new h;
      default_ttl = a.1 ∙ sym b.1;
      ttl = same_ttl old new h;
      minimum = λ seconds. ((λ m. absurd (none seconds m)), (λ m. absurd (none' seconds m)));
    }

-- ---- what becomes of an entry

-- what is written for the entry leaves the same, states nothing where it does, and the record that
-- it states in words or by itself
pub record ReadsAlike (cased origin : Labels) (before after : List Entry) (line : ℕ) (tokens new : List Token) : Type 0 where
  pub leaves : LeaveAlike origin (entry_of line tokens ∷ before) (entry_of line new ∷ after)
  pub nothing : StatesNothing origin after (statement_of (entry_of line new)) ↔ StatesNothing origin before (statement_of (entry_of line tokens))
  pub record_is : (r : Record) → EntryStates origin after (entry_of line new) r ↔ StatesWithWords cased origin before line tokens r

module _ (cased origin : Labels) (before after : List Entry) (line : ℕ) (same : LeaveAlike origin before after) where
  module _ (tokens : List Token) (each : AllByRecursion IsToken tokens) where
    -- a record that is said anew is that of what was written
    said : (front back : List Token) (it : Anew) (outcome : Outcome) (r : Record) (say : TokensSay cased before line tokens front back it) → BecomesUnder cased before line tokens outcome → EntryStates origin after (entry_of line (front ++ written it back)) r → EntryStates origin after (entry_of line outcome.written) r
    said front back it outcome r say becomes states =
        let once = becomes_once cased before line tokens outcome (record { written = front ++ written it back; told = [] }) becomes (anew front back it say refl) in
        subst (λ (o : Outcome). EntryStates origin after (entry_of line o.written) r) (sym once) states

    joined_to : (outcome : Outcome) (r : Record) → BecomesUnder cased before line tokens outcome → (EntryStates origin before (entry_of line tokens) r → ((front back : List Token) (it : Anew) → TokensSay cased before line tokens front back it → ⊥) → EntryStates origin after (entry_of line outcome.written) r) → StatesWithWords cased origin before line tokens r → EntryStates origin after (entry_of line outcome.written) r
    joined_to outcome r becomes itself (of_further front back it say its stated) =
        said front back it outcome r say becomes ((anew_read cased origin before after line tokens front back it r each same say).1 (its, stated))
    joined_to outcome r becomes itself (by_itself none states) = itself states none

    unchanged : LeaveAlike origin (entry_of line tokens ∷ before) (entry_of line tokens ∷ after)
    unchanged = next_alike origin before after (entry_of line tokens) (entry_of line tokens) same (itself_alike origin before after (entry_of line tokens) same)

    nothing_alike : StatesNothing origin after (statement_of (entry_of line tokens)) ↔ StatesNothing origin before (statement_of (entry_of line tokens))
    nothing_alike = (
      nothing_too origin after before (alike_turned origin before after same) (entry_of line tokens) (statement_of (entry_of line tokens)),
      nothing_too origin before after same (entry_of line tokens) (statement_of (entry_of line tokens)),
    )

    -- it stays
    kept_alike : (told : List Refused) → BecomesUnder cased before line tokens (record { written = tokens; told = told }) → ((r : Record) → EntryStates origin after (entry_of line tokens) r → StatesWithWords cased origin before line tokens r) → ReadsAlike cased origin before after line tokens tokens
    kept_alike told becomes from = record {
      leaves = unchanged;
      nothing = nothing_alike;
      record_is = λ r. (from r, joined_to (record { written = tokens; told = told }) r becomes (λ states none. record_too origin before after (entry_of line tokens) r same states));
    }

    module _ (front back : List Token) (it : Anew) (say : TokensSay cased before line tokens front back it) where
      abbrev old : Entry
      old = entry_of line tokens

      abbrev new : Entry
      new = entry_of line (front ++ written it back)

      tokens_are : AllByRecursion IsToken (front ++ bare say.word ∷ back)
      tokens_are = subst (AllByRecursion IsToken) say.split each

      says : SaysAnew cased before (entry_of line (front ++ bare say.word ∷ back)) (written_text say.word) (touching_items true back) it
      says = subst (λ t. SaysAnew cased before (entry_of line t) (written_text say.word) (touching_items true back) it) say.split say.says

      head_same : AreOfOneHead old new
      head_same = subst (λ t. AreOfOneHead (entry_of line t) new) (sym say.split) (one_head cased origin before after line front back say.word it tokens_are says)

      none_old : StatesNoMinimum origin before old
      none_old = subst (λ t. StatesNoMinimum origin before (entry_of line t)) (sym say.split) (no_old_minimum cased origin before after line front back say.word it tokens_are says before)

      none_new : StatesNoMinimum origin after new
      none_new = no_new_minimum cased origin before after line front back say.word it tokens_are says after

      anew_alike : ReadsAlike cased origin before after line tokens (front ++ written it back)
      anew_alike = record {
        leaves = next_alike origin before after old new same (heads_alike origin before after old new head_same none_old none_new);
        nothing = (
          (λ n. absurd (parts_state origin after (statement_of new) head_same.others head_same.other_split n)),
          (λ n. absurd (parts_state origin before (statement_of old) head_same.parts head_same.split n)),
        );
        record_is = λ r. (
          (λ states. (let its = (anew_read cased origin before after line tokens front back it r each same say).0 states in of_further front back it say its.0 its.1)),
          joined_to (record { written = front ++ written it back; told = [] }) r (anew front back it say refl) (λ states none. absurd (none front back it say)),
        );
      }

    pub becomes_alike : (outcome : Outcome) → BecomesUnder cased before line tokens outcome → ReadsAlike cased origin before after line tokens outcome.written
    becomes_alike outcome (anew front back it say e) = subst (λ (o : Outcome). ReadsAlike cased origin before after line tokens o.written) (sym e) (anew_alike front back it say)
    becomes_alike outcome (refused it fail e) =
        subst (λ (o : Outcome). ReadsAlike cased origin before after line tokens o.written) (sym e)
        (kept_alike (it ∷ []) (refused it fail refl) (λ r states. absurd (refused_record cased origin before after line tokens it r fail states)))
    becomes_alike outcome (kept no_say no_fail e) =
        subst (λ (o : Outcome). ReadsAlike cased origin before after line tokens o.written) (sym e)
        (kept_alike [] (kept no_say no_fail refl) (λ r states. by_itself no_say (record_too origin after before (entry_of line tokens) r (alike_turned origin before after same) states)))
