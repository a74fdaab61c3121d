-- What becomes of an entry, from the record that was found in it.
use Rattle.zone_words.proofs.Walks.{back_each, back_follow}
use Rattle.zone_words.proofs.Common.{AddsTold, AllByRecursion, Anew, AreOnOneLine, AreTokensOf, Bool, Cuts, DataFails, Entry, FindsParts, FurtherType, IfNone, Inherited, IsCasedOrigin, IsFurtherRecord, IsFurtherUnder, IsFurtherWord, IsGeneric, IsInherited, IsMnemonic, IsOneOrNone, IsRefused, IsToken, IsTrue, Item, Labels, LineFeedWithinQuotes, List, MatchOption, Named, NamesOrigin, None, NoneIsFurther, NothingIs, Option, Parts, RawItem, Refused, SaysAnew, Some, Statement, StatesData, Token, TokensFail, TooManyItems, TouchingItem, WordsFault, Written, [], anew, ap, arith, blank, both_ways, closing, codes, comment, count_by, directive, entry_of, false, filter, find, flat_map, flat_map-append, folded_label, further_names, further_of, further_types, get_or, if◌then◌else◌, in_generic_form, includes, inl, inr, is_blank, item_of, kept, length, length-append, length-map, line_feed, map, mnemonic_among, most_items, no_data, on_more_lines, opening, option_map, option_to_list, origin_items, owned, parts_after, parts_in, raw, refl, refused, refused_of, renamed, sets_origin, sets_ttl, slice_get, statement_by, statement_of, stays, subst, suc, sym, text, too_many, touching_items, true, unknown, unowned, written, written_text, zero, ℕ, ◌++◌, ◌+◌, ◌-◌, ◌<◌, ◌==◌, ◌↔◌, ◌∙◌, ◌∷◌, ◌≡◌, ◌≤◌}
use Rattle.zone_rdata.specs.Item.{bare, quoted}
use Rattle.zone_rdata.proofs.Items.LeftOut.{are_many}
use Rattle.zone_text.proofs.Entries.Kept.{all_few, few_kept}
use Rattle.zone_text.proofs.Heads.PartsLeft.{parts_behind}
use Rattle.zone_text.specs.Kept.{AreKept}
use Rattle.zone_text.specs.Statements.{no_items}
use Rattle.zone_text.specs.Tokens as tokens
use Rattle.type_data.proofs.FurtherWords.{further_word_once}
use Rattle.zone_words.proofs.KeptEntries.{bare_feedless}
use Rattle.zone_words.specs.Machine.Further.{QuotesAreOnOneLine, quoted_feeds}
use Rattle.zone_words.proofs.KeptRecords.{AlikeForms, kept_forms, leaves_too, none_by, record_there}
use Rattle.type_data.specs.DataItem.{items_of}
use Rattle.zone_words.specs.Entry.{in_words}
use Rattle.zone_words.specs.Machine.EntryWriting.{PushesEntry}
use Rattle.zone_words.specs.Machine.Further.{IsForm}
use Rattle.zone_words.specs.Machine.Turn.{AreInWords, AreOfRecord, IsTurnWritten, SayAround, StandsBeside, TakesRecordsTurn, TakesTurn, TurnIs, WritesTurn, refusal_in, told_by}
use Rattle.type_data.specs.Data.{in_order}
use Rattle.type_data.specs.Table.{fields_in}
use Rattle.zone_words.specs.Written.{in_octets}
use Rattle.zone_words.specs.declared.entry_form.EntryForm.{EntryForm}
use Rattle.zone_words.specs.declared.entry_writer.EntryWriter.{EntryWriter}
use Rattle.zone_words.specs.declared.further.FurtherRecord.{FurtherRecord}
use Rattle.zone_words.specs.declared.refusal.Refusal.{Refusal}
use Rattle.zone_words.specs.declared.turn.EntryData.{EntryData}
use Rattle.zone_words.specs.declared.turn.Turn.{Turn}
use Rattle.zone_words.specs.declared.turn.Turn.TheVariants as turns
use Rattle.zone_words.specs.declared.writing.Around.{Around}

-- ---- the type's word among the tokens

-- the bare item of a word, between the tokens of other items
pub record IsPlaced (all_tokens : List Token) (pre : List RawItem) (word : List ℕ) (rest : List RawItem) : Type 0 where
  pub front : List Token
  pub back : List Token
  pub units : List Written
  pub whole : all_tokens ≡ front ++ tokens.bare units ∷ back
  pub is : written_text units ≡ word
  pub before : flat_map item_of front ≡ pre
  pub after : flat_map item_of back ≡ rest

placed_first : (units : List Written) (back : List Token) (word : List ℕ) (rest : List RawItem) → bare (written_text units) ∷ flat_map item_of back ≡ bare word ∷ rest → IsPlaced (tokens.bare units ∷ back) [] word rest
placed_first units back word rest e =
    let head : bare (written_text units) ≡ bare word = cc e in
    record { front = []; back = back; units = units; whole = refl; is = cc head; before = refl; after = cc e }

placed_after : (p : Token) (more : List Token) (pre others : List RawItem) (word : List ℕ) (rest : List RawItem) → item_of p ++ others ≡ pre → IsPlaced more others word rest → IsPlaced (p ∷ more) pre word rest
placed_after p more pre others word rest e at = record {
  front = p ∷ at.front;
  back = at.back;
  units = at.units;
  whole = ap (λ t. p ∷ t) at.whole;
  is = at.is;
  before = ap (λ t. item_of p ++ t) at.before ∙ e;
  after = at.after;
}

pub placed : (all_tokens : List Token) (pre : List RawItem) (word : List ℕ) (rest : List RawItem) → flat_map item_of all_tokens ≡ pre ++ bare word ∷ rest → IsPlaced all_tokens pre word rest
placed [] [] word rest e = absurd cc
placed [] (item ∷ pre) word rest e = absurd cc
placed (tokens.bare units ∷ more) [] word rest e = placed_first units more word rest e
placed (tokens.bare units ∷ more) (item ∷ pre) word rest e =
    placed_after (tokens.bare units) more (item ∷ pre) pre word rest (let h : bare (written_text units) ≡ item = cc e in ap (λ i. i ∷ pre) h) (placed more pre word rest (cc e))
placed (tokens.quoted units ∷ more) [] word rest e = absurd (let h : quoted (written_text units) ≡ bare word = cc e in cc h)
placed (tokens.quoted units ∷ more) (item ∷ pre) word rest e =
    placed_after (tokens.quoted units) more (item ∷ pre) pre word rest (let h : quoted (written_text units) ≡ item = cc e in ap (λ i. i ∷ pre) h) (placed more pre word rest (cc e))
placed (blank c ∷ more) pre word rest e = placed_after (blank c) more pre pre word rest refl (placed more pre word rest e)
placed (opening ∷ more) pre word rest e = placed_after opening more pre pre word rest refl (placed more pre word rest e)
placed (closing ∷ more) pre word rest e = placed_after closing more pre pre word rest refl (placed more pre word rest e)
placed (line_feed ∷ more) pre word rest e = placed_after line_feed more pre pre word rest refl (placed more pre word rest e)
placed (comment octets ∷ more) pre word rest e = placed_after (comment octets) more pre pre word rest refl (placed more pre word rest e)

pub items_behind : (after : Bool) (back : List Token) → items_of (touching_items after back) ≡ flat_map item_of back
items_behind after [] = refl
items_behind after (tokens.bare units ∷ back) = ap (λ t. bare (written_text units) ∷ t) (items_behind true back)
items_behind after (tokens.quoted units ∷ back) = ap (λ t. quoted (written_text units) ∷ t) (items_behind true back)
items_behind after (blank c ∷ back) = items_behind false back
items_behind after (opening ∷ back) = items_behind false back
items_behind after (closing ∷ back) = items_behind false back
items_behind after (line_feed ∷ back) = items_behind false back
items_behind after (comment octets ∷ back) = items_behind false back

-- ---- the items before a record's type

no_parts : (a b c : Bool) (items : List RawItem) (parts : Parts) → parts_in (if a then sets_origin items else if b then sets_ttl items else if c then includes else unknown) ≡ Some parts → ⊥
no_parts true b c items parts e = absurd cc
no_parts false true c items parts e = absurd cc
no_parts false false true items parts e = absurd cc
no_parts false false false items parts e = absurd cc

pub no_directive : (item : RawItem) (items : List RawItem) (parts : Parts) → parts_in (directive item items) ≡ Some parts → ⊥
no_directive (quoted t) items parts e = absurd cc
no_directive (bare t) items parts e = no_parts _ _ _ items parts e

abbrev Behind : List RawItem → Parts → Type 0
Behind items parts = (front : List RawItem) × (items ≡ front ++ parts.rest)

behind_parts : (items : List RawItem) (parts : Parts) → Some (parts_after [] items) ≡ Some parts → Behind items parts
behind_parts items parts e =
    let same : parts_after [] items ≡ parts = cc e in
    let b = parts_behind [] items in
    (b.0, b.1 ∙ ap (λ (p : Parts). b.0 ++ p.rest) same)

behind_more : (item : RawItem) (items : List RawItem) (parts : Parts) → Behind items parts → Behind (item ∷ items) parts
behind_more item items parts b = (item ∷ b.0, ap (λ t. item ∷ t) b.1)

behind_octet : (a b : Bool) (item : RawItem) (items : List RawItem) (parts : Parts) → parts_in (if a then directive item items else if b then unowned (item ∷ items) else owned item items) ≡ Some parts → Behind (item ∷ items) parts
behind_octet true b item items parts e = absurd (no_directive item items parts e)
behind_octet false true item items parts e = behind_parts (item ∷ items) parts e
behind_octet false false item items parts e = behind_more item items parts (behind_parts items parts e)

pub rest_behind : (first : Option ℕ) (items : List RawItem) (parts : Parts) → parts_in (statement_by first items) ≡ Some parts → Behind items parts
rest_behind first [] parts e = absurd cc
rest_behind None (item ∷ items) parts e = behind_more item items parts (behind_parts items parts e)
rest_behind (Some c) (item ∷ items) parts e = behind_octet (c == 36) (is_blank c) item items parts e

-- the items after a type are fewer
pub fewer : (items : List RawItem) (first : Option ℕ) (form : Statement) (parts : Parts) (word : List ℕ) (rest : List RawItem) → form ≡ statement_by first items → parts_in form ≡ Some parts → parts.rest ≡ bare word ∷ rest → length rest < length items
fewer items first form parts word rest is split from =
    let b = rest_behind first items parts (ap parts_in (sym is) ∙ split) in
    let whole : items ≡ b.0 ++ bare word ∷ rest = b.1 ∙ ap (λ t. b.0 ++ t) from in
    let count : length items ≡ length b.0 + length (bare word ∷ rest) = ap length whole ∙ length-append b.0 (bare word ∷ rest) in
    omega (arith, count)

pub no_origin : (form : Statement) (parts : Parts) → parts_in form ≡ Some parts → origin_items form ≡ None
no_origin no_items parts e = absurd cc
no_origin (sets_origin items) parts e = absurd cc
no_origin (sets_ttl items) parts e = absurd cc
no_origin includes parts e = absurd cc
no_origin unknown parts e = absurd cc
no_origin (owned owner items) parts e = refl
no_origin (unowned items) parts e = refl

-- the origin stays where an entry is a record
origin_by : (origin : Labels) (before : List Entry) (entry : Entry) (name : Labels) → origin_items (statement_of entry) ≡ None → IsCasedOrigin origin (entry ∷ before) name ↔ IsCasedOrigin origin before name
origin_by origin before entry name none = (
  λ is. subst (λ items. MatchOption items (IsCasedOrigin origin before name) (λ stated. (above : Labels) × IsCasedOrigin origin before above × NamesOrigin above stated name)) none is,
  λ is. subst (λ items. MatchOption items (IsCasedOrigin origin before name) (λ stated. (above : Labels) × IsCasedOrigin origin before above × NamesOrigin above stated name)) (sym none) is,
)

-- ---- one record

-- the record is one
pub record SameRecord (word other : List ℕ) (items others : List RawItem) (further as_well : FurtherType) : Type 0 where
  pub same_word : word ≡ other
  pub same_items : items ≡ others
  pub same_further : further ≡ as_well

pub record_once : (before : List Entry) (entry : Entry) (word other : List ℕ) (items others : List RawItem) (further as_well : FurtherType) → IsFurtherRecord before entry word items further → IsFurtherRecord before entry other others as_well → SameRecord word other items others further as_well
record_once before entry word other items others further as_well a b =
    let p : Some a.parts ≡ Some b.parts = sym a.split ∙ b.split in
    let q : a.parts ≡ b.parts = cc p in
    let r : bare word ∷ items ≡ bare other ∷ others = sym a.from_type ∙ ap (λ (x : Parts). x.rest) q ∙ b.from_type in
    let h : bare word ≡ bare other = cc r in
    let w : word ≡ other = cc h in
    record {
      same_word = w;
      same_items = cc r;
      same_further = further_word_once other further as_well (subst (λ t. IsFurtherWord t further) w a.named) b.named;
    }

-- the row's mnemonic is that of its number
abbrev name_row : FurtherType → Named
name_row r = record { number = r.number; mnemonic = r.mnemonic }

name_by : (is : Bool) (r : FurtherType) (found : Option FurtherType) (named : Option Named) (f : FurtherType) → (found ≡ Some f → option_map (λ (row : Named). row.mnemonic) named ≡ Some f.mnemonic) → (if is then Some r else found) ≡ Some f → option_map (λ (row : Named). row.mnemonic) (if is then Some (name_row r) else named) ≡ Some f.mnemonic
name_by true r found named f more e = (let h : r ≡ f = cc e in ap (λ (x : FurtherType). Some x.mnemonic) h)
name_by false r found named f more e = more e

names_find : (rows : List FurtherType) (n : ℕ) (f : FurtherType) → find (λ (r : FurtherType). n == r.number) rows ≡ Some f → mnemonic_among (map name_row rows) n ≡ Some f.mnemonic
names_find [] n f e = absurd cc
names_find (r ∷ rows) n f e = name_by (n == r.number) r (find (λ (r : FurtherType). n == r.number) rows) (find (λ (row : Named). n == row.number) (map name_row rows)) f (names_find rows n f) e

pub own_mnemonic : (word : List ℕ) (further : FurtherType) → IsFurtherWord word further → mnemonic_among further_names further.number ≡ Some further.mnemonic
own_mnemonic word further named = names_find further_types further.number further named.row

mnemonic_same : (word : List ℕ) (further : FurtherType) → IsFurtherWord word further → IsMnemonic further_names word further.number → folded_label word ≡ folded_label further.mnemonic
mnemonic_same word further named is =
    let e : Some is.name ≡ Some further.mnemonic = sym is.row ∙ own_mnemonic word further named in
    let n : is.name ≡ further.mnemonic = cc e in
    is.same ∙ ap folded_label n

-- ---- what an entry says is said of its record

pub record Under (origin : Labels) (before : List Entry) (entry : Entry) (word : List ℕ) (items : List RawItem) : Type 0 where
  pub further : FurtherType
  pub above : Labels
  pub is : IsFurtherUnder origin before entry word items further above

pub says_under : (origin : Labels) (before : List Entry) (entry : Entry) (word : List ℕ) (data_items : List TouchingItem) (it : Anew) → SaysAnew origin before entry word data_items it → Under origin before entry word (items_of data_items)
says_under origin before entry word data_items it (in_generic_form further above is few line generic mnemonic) = record { further = further; above = above; is = is }
says_under origin before entry word data_items it (in_words further above octets is few line words states) = record { further = further; above = above; is = is }

pub fails_under : (origin : Labels) (before : List Entry) (entry : Entry) (word : List ℕ) (data_items : List TouchingItem) (it : Refused) → IsRefused origin before entry word data_items it → Under origin before entry word (items_of data_items)
fails_under origin before entry word data_items it (too_many further above is words many) = record { further = further; above = above; is = is }
fails_under origin before entry word data_items it (on_more_lines further above is words few lines) = record { further = further; above = above; is = is }
fails_under origin before entry word data_items it (no_data further above field fault is words few line fails) = record { further = further; above = above; is = is }

pub fails_in_words : (origin : Labels) (before : List Entry) (entry : Entry) (word : List ℕ) (data_items : List TouchingItem) (it : Refused) → IsRefused origin before entry word data_items it → IsGeneric (items_of data_items) → ⊥
fails_in_words origin before entry word data_items it (too_many further above is words many) = words
fails_in_words origin before entry word data_items it (on_more_lines further above is words few lines) = words
fails_in_words origin before entry word data_items it (no_data further above field fault is words few line fails) = words

-- no record, or no origin: the entry stays
pub stays_no_record : (origin : Labels) (before : List Entry) (line : ℕ) (all_tokens : List Token) (stated : EntryData) → ((word : List ℕ) (all : List RawItem) (further : FurtherType) → IsFurtherRecord before (entry_of line all_tokens) word all further → ⊥) → TurnIs origin before line all_tokens stated turns.Stays
stays_no_record origin before line all_tokens stated none = (
  λ front back it say. (let u = says_under origin before (entry_of line all_tokens) (written_text say.word) (touching_items true back) it say.says in none (written_text say.word) (items_of (touching_items true back)) u.further u.is.stated),
  λ it fail. (let u = fails_under origin before (entry_of line all_tokens) (written_text fail.word) (touching_items true fail.back) it fail.fails in none (written_text fail.word) (items_of (touching_items true fail.back)) u.further u.is.stated),
)

pub stays_no_origin : (origin : Labels) (before : List Entry) (line : ℕ) (all_tokens : List Token) (stated : EntryData) → NothingIs (IsCasedOrigin origin (entry_of line all_tokens ∷ before)) → TurnIs origin before line all_tokens stated turns.Stays
stays_no_origin origin before line all_tokens stated none = (
  λ front back it say. (let u = says_under origin before (entry_of line all_tokens) (written_text say.word) (touching_items true back) it say.says in there (written_text say.word) (items_of (touching_items true back)) u),
  λ it fail. (let u = fails_under origin before (entry_of line all_tokens) (written_text fail.word) (touching_items true fail.back) it fail.fails in there (written_text fail.word) (items_of (touching_items true fail.back)) u),
)
  where
    there : (word : List ℕ) (items : List RawItem) → Under origin before (entry_of line all_tokens) word items → ⊥
    there word items u = none u.above ((origin_by origin before (entry_of line all_tokens) u.above (no_origin (statement_of (entry_of line all_tokens)) u.is.stated.parts u.is.stated.split)).1 u.is.under)

-- ---- the entry of a record

-- the data is in the generic form, and the type's word isn't to be written anew
generic_says : (origin : Labels) (before : List Entry) (line : ℕ) (all_tokens : List Token) (found : FurtherRecord) (kept_items : List RawItem) (above : Labels) → AreOfRecord origin before line all_tokens found kept_items above → IsGeneric (map raw found.items.now) → (length kept_items < most_items → (folded_label found.word.now ≡ folded_label found.further.now.mnemonic.now) → AreOnOneLine (map raw found.items.now) → ⊥) → (word : List ℕ) (data_items : List TouchingItem) (it : Anew) → SaysAnew origin before (entry_of line all_tokens) word data_items it → ⊥
generic_says origin before line all_tokens found kept_items above of generic none word data_items it (in_generic_form further over is few one_line g mnemonic) =
    let same = record_once before (entry_of line all_tokens) word found.word.now (items_of data_items) of.is.all further (further_of found.further.now) is.stated of.is.is in
    none (of.less few)
    (ap folded_label (sym same.same_word) ∙ mnemonic_same word further is.stated.named mnemonic ∙ ap (λ (f : FurtherType). folded_label f.mnemonic) same.same_further)
    (subst AreOnOneLine (same.same_items ∙ of.is.few few) one_line)
generic_says origin before line all_tokens found kept_items above of generic none word data_items it (in_words further over octets is few one_line words states) =
    let same = record_once before (entry_of line all_tokens) word found.word.now (items_of data_items) of.is.all further (further_of found.further.now) is.stated of.is.is in
    words (subst IsGeneric (sym same.same_items) (of.is.generic.1 generic))

generic_fails : (origin : Labels) (before : List Entry) (line : ℕ) (all_tokens : List Token) (found : FurtherRecord) (kept_items : List RawItem) (above : Labels) → AreOfRecord origin before line all_tokens found kept_items above → IsGeneric (map raw found.items.now) → (word : List ℕ) (data_items : List TouchingItem) (it : Refused) → IsRefused origin before (entry_of line all_tokens) word data_items it → ⊥
generic_fails origin before line all_tokens found kept_items above of generic word data_items it fails =
    let u = fails_under origin before (entry_of line all_tokens) word data_items it fails in
    let same = record_once before (entry_of line all_tokens) word found.word.now (items_of data_items) of.is.all u.further (further_of found.further.now) u.is.stated of.is.is in
    fails_in_words origin before (entry_of line all_tokens) word data_items it fails (subst IsGeneric (sym same.same_items) (of.is.generic.1 generic))

pub stays_generic : (origin : Labels) (before : List Entry) (line : ℕ) (all_tokens : List Token) (found : FurtherRecord) (kept_items : List RawItem) (above : Labels) (stated : EntryData) → AreOfRecord origin before line all_tokens found kept_items above → IsGeneric (map raw found.items.now) → (length kept_items < most_items → (folded_label found.word.now ≡ folded_label found.further.now.mnemonic.now) → AreOnOneLine (map raw found.items.now) → ⊥) → TurnIs origin before line all_tokens stated turns.Stays
stays_generic origin before line all_tokens found kept_items above stated of generic none = (
  λ front back it say. generic_says origin before line all_tokens found kept_items above of generic none (written_text say.word) (touching_items true back) it say.says,
  λ it fail. generic_fails origin before line all_tokens found kept_items above of generic (written_text fail.word) (touching_items true fail.back) it fail.fails,
)

-- the type's word among the tokens
pub record IsSplit (all_tokens : List Token) (word : List ℕ) (all : List RawItem) : Type 0 where
  pub front : List Token
  pub back : List Token
  pub units : List Written
  pub whole : all_tokens ≡ front ++ tokens.bare units ∷ back
  pub is : word ≡ written_text units
  pub items : all ≡ items_of (touching_items true back)
  pub count : length (flat_map item_of all_tokens) ≡ length (flat_map item_of front) + (1 + length all)

pub split_there : (before : List Entry) (line : ℕ) (all_tokens : List Token) (word : List ℕ) (all : List RawItem) (further : FurtherType) → IsFurtherRecord before (entry_of line all_tokens) word all further → IsSplit all_tokens word all
split_there before line all_tokens word all further is =
    let b = rest_behind (entry_of line all_tokens).first (flat_map item_of all_tokens) is.parts is.split in
    let whole : flat_map item_of all_tokens ≡ b.0 ++ bare word ∷ all = b.1 ∙ ap (λ t. b.0 ++ t) is.from_type in
    let at = placed all_tokens b.0 word all whole in
    record {
      front = at.front;
      back = at.back;
      units = at.units;
      whole = at.whole;
      is = sym at.is;
      items = sym at.after ∙ sym (items_behind true at.back);
      count = (let l : length (flat_map item_of all_tokens) ≡ length b.0 + length (bare word ∷ all) = ap length whole ∙ length-append b.0 (bare word ∷ all) in let f : length (flat_map item_of at.front) ≡ length b.0 = ap length at.before in omega (arith, l, f));
    }

-- the tokens of the record around the type's word
pub record IsAround (origin : Labels) (before : List Entry) (line : ℕ) (all_tokens : List Token) (found : FurtherRecord) (kept_items : List RawItem) (above : Labels) (around : Around) : Type 0 where
  pub front : List Token
  pub back : List Token
  pub units : List Written
  pub whole : all_tokens ≡ front ++ tokens.bare units ∷ back
  pub before_is : around.front.now ≡ text front
  pub after_are : AreTokensOf around.back.now back
  pub under : IsFurtherUnder origin before (entry_of line all_tokens) (written_text units) (items_of (touching_items true back)) (further_of found.further.now) above
  pub few : length (entry_of line all_tokens).items < most_items
  pub items : map raw found.items.now ≡ items_of (touching_items true back)
  pub word : found.word.now ≡ written_text units

tokens_of : (octets : List ℕ) (all_tokens : List Token) → Cuts octets all_tokens → AreTokensOf octets all_tokens
tokens_of octets all_tokens cut = record { whole = cut.whole; each = cut.each; follow = cut.follow }

under_split : (origin : Labels) (before : List Entry) (line : ℕ) (all_tokens : List Token) (found : FurtherRecord) (kept_items : List RawItem) (above : Labels) → (of : AreOfRecord origin before line all_tokens found kept_items above) → (at : IsSplit all_tokens found.word.now of.is.all) → IsFurtherUnder origin before (entry_of line all_tokens) (written_text at.units) (items_of (touching_items true at.back)) (further_of found.further.now) above
under_split origin before line all_tokens found kept_items above of at = record {
  stated = subst (λ w. IsFurtherRecord before (entry_of line all_tokens) w (items_of (touching_items true at.back)) (further_of found.further.now)) at.is
      (subst (λ i. IsFurtherRecord before (entry_of line all_tokens) found.word.now i (further_of found.further.now)) at.items of.is.is);
  under = of.under;
}

around_by : (octets : List ℕ) (origin : Labels) (before : List Entry) (line : ℕ) (all_tokens : List Token) (found : FurtherRecord) (kept_items : List RawItem) (above : Labels) (around : Around) → Cuts octets all_tokens → (of : AreOfRecord origin before line all_tokens found kept_items above) → length kept_items < most_items → StandsBeside octets kept_items found around → of.is.all ≡ map raw found.items.now → IsSplit all_tokens found.word.now of.is.all → IsAround origin before line all_tokens found kept_items above around
around_by octets origin before line all_tokens found kept_items above around cut of few stands same at =
    let are : AreTokensOf octets (at.front ++ tokens.bare at.units ∷ at.back) = subst (AreTokensOf octets) at.whole (tokens_of octets all_tokens cut) in
    let len : length of.is.all ≡ length found.items.now = ap length same ∙ length-map found.items.now raw in
    let all_kept : length (flat_map item_of all_tokens) ≡ length kept_items = ap length (of.few few) in
    let place : length (flat_map item_of at.front) ≡ length kept_items - length found.items.now - 1 = (let c = at.count in omega (arith, c, len, all_kept)) in
    let is = stands.stands at.front at.back at.units are (ap (flat_map item_of) (sym at.whole) ∙ of.few few) place in
    record {
      front = at.front;
      back = at.back;
      units = at.units;
      whole = at.whole;
      before_is = is.0;
      after_are = record { whole = is.1; each = back_each at.front at.units at.back are.each; follow = back_follow at.front at.units at.back are.follow };
      under = under_split origin before line all_tokens found kept_items above of at;
      few = omega (arith, all_kept, few);
      items = sym same ∙ at.items;
      word = at.is;
    }

pub around_there : (octets : List ℕ) (origin : Labels) (before : List Entry) (line : ℕ) (all_tokens : List Token) (found : FurtherRecord) (kept_items : List RawItem) (above : Labels) (around : Around) → Cuts octets all_tokens → AreOfRecord origin before line all_tokens found kept_items above → length kept_items < most_items → StandsBeside octets kept_items found around → IsAround origin before line all_tokens found kept_items above around
around_there octets origin before line all_tokens found kept_items above around cut of few stands =
    let all_kept : length (flat_map item_of all_tokens) ≡ length kept_items = ap length (of.few few) in
    let less : length (flat_map item_of all_tokens) < most_items = omega (arith, all_kept, few) in
    around_by octets origin before line all_tokens found kept_items above around cut of few stands (of.is.few less)
    (split_there before line all_tokens found.word.now of.is.all (further_of found.further.now) of.is.is)

-- what is said of the record is said around its type's word
say_there : (origin : Labels) (before : List Entry) (line : ℕ) (all_tokens : List Token) (found : FurtherRecord) (kept_items : List RawItem) (above : Labels) (around : Around) (a : IsAround origin before line all_tokens found kept_items above around) (it : Anew) → SaysAnew origin before (entry_of line all_tokens) (written_text a.units) (touching_items true a.back) it → SayAround origin before line all_tokens around it
say_there origin before line all_tokens found kept_items above around a it says = record {
  front = a.front;
  back = a.back;
  before_is = a.before_is;
  after_are = a.after_are;
  say = record { word = a.units; split = a.whole; says = says };
}

-- ---- bare items have no line feed

pub quotes_too : (items : List RawItem) → AreOnOneLine items → QuotesAreOnOneLine items
quotes_too [] one = tt
quotes_too (bare t ∷ items) one = (refl, quotes_too items one.1)
quotes_too (quoted t ∷ items) one = (one.0, quotes_too items one.1)

all_too : (b : Bool) (all : List Token) → AllByRecursion IsToken all → QuotesAreOnOneLine (items_of (touching_items b all)) → AreOnOneLine (items_of (touching_items b all))
all_too b [] each one = tt
all_too b (tokens.bare units ∷ all) each one = (bare_feedless units each.0, all_too true all each.1 one.1)
all_too b (tokens.quoted units ∷ all) each one = (one.0, all_too true all each.1 one.1)
all_too b (p ∷ all) each one = all_too false all each.1 one

-- a mnemonic before the generic form
pub renamed_there : (octets : List ℕ) (origin : Labels) (before : List Entry) (line : ℕ) (all_tokens : List Token) (found : FurtherRecord) (kept_items : List RawItem) (above : Labels) (around : Around) → Cuts octets all_tokens → AreOfRecord origin before line all_tokens found kept_items above → length kept_items < most_items → StandsBeside octets kept_items found around → IsGeneric (map raw found.items.now) → folded_label found.word.now ≡ folded_label found.further.now.mnemonic.now → QuotesAreOnOneLine (map raw found.items.now) → SayAround origin before line all_tokens around (renamed around.number)
renamed_there octets origin before line all_tokens found kept_items above around cut of few stands generic same one_line =
    let a = around_there octets origin before line all_tokens found kept_items above around cut of few stands in
    let f : FurtherType = further_of found.further.now in
    subst (λ k. SayAround origin before line all_tokens around (renamed k)) (sym stands.number)
    (say_there origin before line all_tokens found kept_items above around a _ (in_generic_form f above a.under a.few (all_too true a.back a.after_are.each (subst QuotesAreOnOneLine a.items one_line)) (subst IsGeneric a.items generic)
    (record { name = f.mnemonic; row = own_mnemonic (written_text a.units) f a.under.stated.named; same = ap folded_label (sym a.word) ∙ same })))

-- words that state octets
pub stated_there : (octets : List ℕ) (origin : Labels) (before : List Entry) (line : ℕ) (all_tokens : List Token) (found : FurtherRecord) (kept_items : List RawItem) (above : Labels) (around : Around) (given_items : List TouchingItem) (stated : EntryData) → Cuts octets all_tokens → AreOfRecord origin before line all_tokens found kept_items above → AreInWords found kept_items → StandsBeside octets kept_items found around → ((back : List Token) → AreTokensOf around.back.now back → map raw found.items.now ≡ items_of (touching_items true back) → given_items ≡ touching_items true back) → ((back : List Token) → AreTokensOf around.back.now back → map raw found.items.now ≡ items_of (touching_items true back) → stated.staying.items ≡ text (filter stays back)) → StatesData above (fields_in (further_of found.further.now).fields given_items) (in_order (further_of found.further.now).fields) given_items stated.octets.items → TurnIs origin before line all_tokens stated (turns.InOctets around)
unfolding say_there
stated_there octets origin before line all_tokens found kept_items above around given_items stated cut of words stands given_are stays_are states =
    let a = around_there octets origin before line all_tokens found kept_items above around cut of words.few stands in
    let f : FurtherType = further_of found.further.now in
    subst (λ k. (said : SayAround origin before line all_tokens around (in_octets k stated.octets.items)) × (stated.staying.items ≡ text (filter stays said.back))) (sym stands.number) (
      say_there origin before line all_tokens found kept_items above around a _ (in_words f above stated.octets.items a.under a.few (all_too true a.back a.after_are.each (subst QuotesAreOnOneLine a.items words.on_one_line)) (λ g. words.in_words (subst IsGeneric (sym a.items) g))
          (subst (λ d. StatesData above (fields_in f.fields d) (in_order f.fields) d stated.octets.items) (given_are a.back a.after_are a.items) states)),
      stays_are a.back a.after_are a.items,
    )

-- words that state none
pub fails_there : (octets : List ℕ) (origin : Labels) (before : List Entry) (line : ℕ) (all_tokens : List Token) (found : FurtherRecord) (kept_items : List RawItem) (above : Labels) (around : Around) (given_items : List TouchingItem) (field : List ℕ) (fault : WordsFault) (it : Refused) → Cuts octets all_tokens → AreOfRecord origin before line all_tokens found kept_items above → AreInWords found kept_items → StandsBeside octets kept_items found around → ((back : List Token) → AreTokensOf around.back.now back → map raw found.items.now ≡ items_of (touching_items true back) → given_items ≡ touching_items true back) → DataFails above (fields_in (further_of found.further.now).fields given_items) (in_order (further_of found.further.now).fields) given_items field fault → it ≡ record { line = line; mnemonic = found.further.now.mnemonic.now; field = field; fault = fault } → TokensFail origin before line all_tokens it
fails_there octets origin before line all_tokens found kept_items above around given_items field fault it cut of words stands given_are fails told_is =
    let a = around_there octets origin before line all_tokens found kept_items above around cut of words.few stands in
    let f : FurtherType = further_of found.further.now in
    let bad = no_data f above field fault a.under (λ g. words.in_words (subst IsGeneric (sym a.items) g)) a.few (all_too true a.back a.after_are.each (subst QuotesAreOnOneLine a.items words.on_one_line))
    (subst (λ d. DataFails above (fields_in f.fields d) (in_order f.fields) d field fault) (given_are a.back a.after_are a.items) fails) in
    subst (λ (r : Refused). TokensFail origin before line all_tokens r) (sym told_is) (record { front = a.front; back = a.back; word = a.units; split = a.whole; fails = bad })

-- too many items, and a line feed within quotes
pub many_fail : (origin : Labels) (before : List Entry) (line : ℕ) (all_tokens : List Token) (found : FurtherRecord) (kept_items : List RawItem) (above : Labels) (it : Refused) → AreOfRecord origin before line all_tokens found kept_items above → most_items ≤ length kept_items → (IsGeneric (map raw found.items.now) → ⊥) → it ≡ record { line = line; mnemonic = found.further.now.mnemonic.now; field = codes "data"; fault = TooManyItems } → TokensFail origin before line all_tokens it
many_fail origin before line all_tokens found kept_items above it of many words told_is =
    let at = split_there before line all_tokens found.word.now of.is.all (further_of found.further.now) of.is.is in
    let under = under_split origin before line all_tokens found kept_items above of at in
    subst (λ (r : Refused). TokensFail origin before line all_tokens r) (sym told_is)
    (record {
      front = at.front;
      back = at.back;
      word = at.units;
      split = at.whole;
      fails = too_many (further_of found.further.now) above under (λ g. words (of.is.generic.0 (subst IsGeneric (sym at.items) g))) (of.many many);
    })

pub lines_fail : (origin : Labels) (before : List Entry) (line : ℕ) (all_tokens : List Token) (found : FurtherRecord) (kept_items : List RawItem) (above : Labels) (it : Refused) → AreOfRecord origin before line all_tokens found kept_items above → length kept_items < most_items → (IsGeneric (map raw found.items.now) → ⊥) → (QuotesAreOnOneLine (map raw found.items.now) → ⊥) → it ≡ record { line = line; mnemonic = found.further.now.mnemonic.now; field = codes "data"; fault = LineFeedWithinQuotes } → TokensFail origin before line all_tokens it
lines_fail origin before line all_tokens found kept_items above it of few words lines told_is =
    let at = split_there before line all_tokens found.word.now of.is.all (further_of found.further.now) of.is.is in
    let under = under_split origin before line all_tokens found kept_items above of at in
    let all_kept : length (flat_map item_of all_tokens) ≡ length kept_items = ap length (of.few few) in
    let less : length (flat_map item_of all_tokens) < most_items = omega (arith, all_kept, few) in
    let same : map raw found.items.now ≡ items_of (touching_items true at.back) = sym (of.is.few less) ∙ at.items in
    subst (λ (r : Refused). TokensFail origin before line all_tokens r) (sym told_is)
    (record {
      front = at.front;
      back = at.back;
      word = at.units;
      split = at.whole;
      fails = on_more_lines (further_of found.further.now) above under (λ g. words (subst IsGeneric (sym same) g)) less (λ one. lines (quotes_too (map raw found.items.now) (subst AreOnOneLine (sym same) one)));
    })

-- ---- what is written

pub turn_stays : (octets old new : List ℕ) (stated : EntryData) (turn : Turn) → told_by turn ≡ [] → ((origin : Labels) (before : List Entry) (line : ℕ) (all_tokens : List Token) → TurnIs origin before line all_tokens stated turn → TurnIs origin before line all_tokens stated turns.Stays) → new ≡ old ++ octets → WritesTurn octets stated turn old new
turn_stays octets old new stated turn silent stays pushed origin before line all_tokens cut is =
    let none = stays origin before line all_tokens is in
    record {
      outcome = record { written = all_tokens; told = [] };
      becomes = kept none.0 none.1 refl;
      written = pushed ∙ ap (λ t. old ++ t) cut.whole;
      told = sym silent;
    }

pub turn_refused : (octets old new : List ℕ) (stated : EntryData) (told_of : Refusal) → new ≡ old ++ octets → WritesTurn octets stated (turns.Refused told_of) old new
turn_refused octets old new stated told_of pushed origin before line all_tokens cut is = record {
  outcome = record { written = all_tokens; told = refused_of told_of ∷ [] };
  becomes = refused (refused_of told_of) is refl;
  written = pushed ∙ ap (λ t. old ++ t) cut.whole;
  told = refl;
}

pub says_written : (old scratch new : List ℕ) (origin : Labels) (before : List Entry) (line : ℕ) (all_tokens : List Token) (around : Around) (it : Anew) (turn : Turn) → told_by turn ≡ [] → (at : SayAround origin before line all_tokens around it) → scratch ≡ around.front.now ++ text (written it at.back) → new ≡ old ++ scratch → IsTurnWritten origin before line all_tokens turn old new
says_written old scratch new origin before line all_tokens around it turn silent at is pushed = record {
  outcome = record { written = at.front ++ written it at.back; told = [] };
  becomes = anew at.front at.back it at.say refl;
  written = pushed ∙ ap (λ t. old ++ t) (is ∙ ap (λ t. t ++ text (written it at.back)) at.before_is ∙ sym (flat_map-append tokens.token_text at.front (written it at.back)));
  told = sym silent;
}

pub none_weaker : {A : Type 0} → (P Q : Type 0) → (r : Option A) → (P → Q) → IfNone r P → IfNone r Q
none_weaker P Q None weaker p = weaker p
none_weaker P Q (Some x) weaker p = tt

-- ---- no line feed in an item

at_item : (items : List Item) (k : ℕ) (d : Item) → k < length items → QuotesAreOnOneLine (map raw items) → quoted_feeds (raw (get_or items k d)) ≡ 0
at_item [] k d less all = absurd (omega (arith, less))
at_item (item ∷ items) zero d less all = all.0
at_item (item ∷ items) (suc k) d less all = at_item items k d (omega (arith, less)) all.1

pub line_lost : (items : List Item) (k : ℕ) (item d : Item) (is : Bool) → k < length items → item ≡ get_or items k d → IsTrue is ↔ (quoted_feeds (raw item) ≡ 0) → is ≡ false → IsTrue false ↔ QuotesAreOnOneLine (map raw items)
line_lost items k item d is less at both e = (
  λ no. absurd cc,
  λ all. absurd (both_ways is e (both.1 (subst (λ i. quoted_feeds (raw i) ≡ 0) (sym at) (at_item items k d less all)))),
)

-- ---- the record of tokens

many_by : (items kept_items : List RawItem) → AreKept items kept_items → most_items ≤ length kept_items → most_items ≤ length items
many_by items kept_items (inl all) many = let l = ap length all in omega (arith, l, many)
many_by items kept_items (inr short) many = (are_many 65552 items kept_items short).0

pub forms_there : (octets : List ℕ) (all_tokens : List Token) (line : ℕ) (kept_items : List RawItem) (form : Statement) → form ≡ statement_by (slice_get octets 0) kept_items → Cuts octets all_tokens → AreKept (flat_map item_of all_tokens) kept_items → AlikeForms (length (flat_map item_of all_tokens)) (statement_of (entry_of line all_tokens)) form
forms_there octets all_tokens line kept_items form is cut are =
    subst (λ f. AlikeForms (length (flat_map item_of all_tokens)) (statement_of (entry_of line all_tokens)) f) (sym is) (kept_forms octets all_tokens line kept_items cut are)

-- where no record was found
pub turn_of_none : (octets : List ℕ) (kept_items : List RawItem) (line : ℕ) (left : Inherited) (stated : EntryData) (form : Statement) → form ≡ statement_by (slice_get octets 0) kept_items → ((parts : Parts) → parts_in form ≡ Some parts → NoneIsFurther parts left.is_internet) → TakesTurn octets kept_items line left stated turns.Stays
turn_of_none octets kept_items line left stated form is none origin before all_tokens has cut are =
    stays_no_record origin before line all_tokens stated
    (none_by origin before line all_tokens form left (parts_in form) refl (forms_there octets all_tokens line kept_items form is cut are) has none)

-- where a record was found
pub turn_of_found : (octets : List ℕ) (items : List Item) (line : ℕ) (left : Inherited) (stated : EntryData) (form : Statement) (parts : Parts) (found : FurtherRecord) (above : Labels) (turn : Turn) → form ≡ statement_by (slice_get octets 0) (map raw items) → parts_in form ≡ Some parts → FindsParts parts left.is_internet found → left.origin ≡ Some above → TakesRecordsTurn octets found (map raw items) line above stated turn → TakesTurn octets (map raw items) line left stated turn
turn_of_found octets items line left stated form parts found above turn is split finds some takes origin before all_tokens has cut are =
    let alike = forms_there octets all_tokens line (map raw items) form is cut are in
    let there = record_there origin before line all_tokens form left parts found alike has split finds in
    let own = no_origin (statement_of (entry_of line all_tokens)) there.is.parts there.is.split in
    takes origin before all_tokens cut (record {
      is = there;
      under = (origin_by origin before (entry_of line all_tokens) above own).0 (subst (λ x. IsOneOrNone (IsCasedOrigin origin (entry_of line all_tokens ∷ before)) x) some has.under);
      few = λ few. sym (all_few (flat_map item_of all_tokens) (map raw items) are few);
      less = λ less. (let k = ap length (few_kept (flat_map item_of all_tokens) (map raw items) are less) in omega (arith, k, less));
      many = λ many. many_by (flat_map item_of all_tokens) (map raw items) are many;
    })

-- ---- one more entry

told_is : (turn : Turn) → told_by turn ≡ option_to_list (option_map refused_of (refusal_in turn))
told_is turns.Stays = refl
told_is (turns.Refused told_of) = refl
told_is (turns.Renamed around) = refl
told_is (turns.InOctets around) = refl

pub entry_pushed : (octets : List ℕ) (kept_items : List RawItem) (old new : EntryWriter) (form : EntryForm) (turn : Turn) (stated : EntryData) → IsForm (statement_by (slice_get octets 0) kept_items) form → ((origin : Labels) (before : List Entry) (entry : Entry) → IsInherited origin before old.inherited → IsForm (statement_of entry) form → IsInherited origin (entry ∷ before) new.inherited) → TakesTurn octets kept_items old.line new.inherited stated turn → WritesTurn octets stated turn old.written.items new.written.items → AddsTold (option_to_list (option_map refused_of (refusal_in turn))) old.refusals new.refusals → new.line ≡ old.line + count_by (λ c. c == 10) octets → PushesEntry octets kept_items old new
entry_pushed octets kept_items old new form turn stated is follows takes writes adds lines origin before all_tokens has cut are =
    let kept_entry : Entry = record { line = old.line; first = slice_get octets 0; items = kept_items } in
    let alike = kept_forms octets all_tokens old.line kept_items cut are in
    let left = leaves_too origin before (entry_of old.line all_tokens) kept_entry (length (flat_map item_of all_tokens)) new.inherited alike (follows origin before kept_entry has is) in
    let out = writes origin before old.line all_tokens cut (takes origin before all_tokens left cut are) in
    record {
      outcome = out.outcome;
      becomes = out.becomes;
      written = out.written;
      told = subst (λ t. AddsTold t old.refusals new.refusals) (sym (out.told ∙ told_is turn)) adds;
      inherited = left;
      line = lines ∙ ap (λ t. old.line + count_by (λ c. c == 10) t) cut.whole;
    }
