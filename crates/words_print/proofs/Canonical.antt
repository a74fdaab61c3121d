-- The line of a record in a canonical text states its class and is its own rewriting.
use Rattle.zone_text.proofs.Common.{AllByRecursion, Cut, Entry, List, Parts, Record, Some, StatesWhole, [], and_last, ap, append-nil, class, class_among, class_word, cut_from, entry_of, parts_in, refl, statement_of, subst, sym, text, ttl, zero, ℕ, ◌++◌, ◌∙◌, ◌∷◌, ◌≡◌, option_and_then}
use Rattle.std.specs.Prelude.{IsSome, map}
use Rattle.zone_print.proofs.Feeds.{line_ends_with_feed}
use Rattle.zone_print.specs.Canonical.{line, lines}
use Rattle.zone_print.specs.Laws.{IsLineOf}
use Rattle.zone_rdata.specs.Item.{IsGeneric, RawItem}
use Rattle.zone_rdata.specs.Item as raw
use Rattle.zone_rdata.specs.Record.{IsRecord}
use Rattle.zone_text.proofs.Heads.ClassWords.{class_word_first, class_word_known, time_first}
use Rattle.zone_text.proofs.Entries.Lines.{whole_form, whole_parts}
use Rattle.type_data.proofs.Registered.{generic_data, no_mnemonic}
use Rattle.type_data.specs.Data.{joined}
use Rattle.type_data.specs.DataItem.{TouchingItem, items_of}
use Rattle.zone_words.specs.Entry.{BecomesUnder, IsFurtherRecord, IsFurtherUnder, IsRefused, IsRewriting, SaysAnew, in_generic_form, in_words, kept, no_data, on_more_lines, too_many}
use Rattle.zone_words.specs.Rewriting.{EachBecomes, Outcome, Refused, whole}
use Rattle.type_data.specs.Table.{FurtherType, IsFurtherWord}
use Rattle.zone_words.specs.Written.{Anew}
use Rattle.words_print.proofs.Lines.{shown_text}
use Rattle.words_print.specs.Shown.{IsRecordLine, IsShownText}

-- ---- its class

-- the parts of the entry
whole_split : (entry : Entry) (r : Record) (s : StatesWhole entry r) → parts_in (statement_of entry) ≡ Some (record { words = ttl s.ttl_text ∷ class s.class_word ∷ []; rest = raw.bare s.kind_word ∷ s.items })
whole_split entry r s = ap parts_in (whole_form entry r s) ∙ ap Some (whole_parts s.ttl_text s.class_word s.kind_word s.items (time_first _ _ s.ttl) (class_word_first _ _ s.class) (class_word_known _ _ s.class))

whole_class : (entry : Entry) (r : Record) → StatesWhole entry r → IsSome (class_word (statement_of entry))
whole_class entry r s =
    let word : class_word (statement_of entry) ≡ Some s.class_word = ap (option_and_then (λ (parts : Parts). class_among parts.words)) (whole_split entry r s) in
    subst IsSome (sym word) refl

-- ---- what becomes of it

-- the words of a further type's record are those of the line
record IsOfLine (word : List ℕ) (items : List RawItem) (s_word : List ℕ) (s_items : List RawItem) : Type 0 where
  pub word_is : word ≡ s_word
  pub items_is : items ≡ s_items

of_line : (entry : Entry) (r : Record) (s : StatesWhole entry r) (before : List Entry) (word : List ℕ) (items : List RawItem) (f : FurtherType) → IsFurtherRecord before entry word items f → IsOfLine word items s.kind_word s.items
of_line entry r s before word items f is =
    let parts : Some is.parts ≡ Some (record { words = ttl s.ttl_text ∷ class s.class_word ∷ []; rest = raw.bare s.kind_word ∷ s.items }) = sym is.split ∙ whole_split entry r s in
    let same : raw.bare word ∷ items ≡ raw.bare s.kind_word ∷ s.items = sym is.from_type ∙ cc parts in
    record { word_is = cc same; items_is = cc same }

module _ (entry : Entry) (r : Record) (s : StatesWhole entry r) (origin : List (List ℕ)) (before : List Entry) where
  is_generic : (word : List ℕ) (items : List RawItem) (f : FurtherType) (above : List (List ℕ)) → IsFurtherUnder origin before entry word items f above → IsGeneric items
  is_generic word items f above is =
      let own = of_line entry r s before word items f is.stated in
      subst IsGeneric (sym own.items_is) (generic_data [] s.kind_word r.class r.kind s.items r.octets f s.kind (subst (λ w. IsFurtherWord w f) own.word_is is.stated.named) (s.rdata []))

  says_nothing : (word : List ℕ) (d : List TouchingItem) (it : Anew) → SaysAnew origin before entry word d it → ⊥
  says_nothing word d it (in_words f above octets is few lines words states) = words (is_generic word (items_of d) f above is)
  says_nothing word d it (in_generic_form f above is few lines generic mnemonic) =
      let own = of_line entry r s before word (items_of d) f is.stated in
      no_mnemonic s.kind_word r.kind f.number f s.kind (subst (λ w. IsFurtherWord w f) own.word_is is.stated.named) (rw own.word_is at mnemonic)

  fails_nothing : (word : List ℕ) (d : List TouchingItem) (it : Refused) → IsRefused origin before entry word d it → ⊥
  fails_nothing word d it (too_many f above is words many) = words (is_generic word (items_of d) f above is)
  fails_nothing word d it (on_more_lines f above is words few lines) = words (is_generic word (items_of d) f above is)
  fails_nothing word d it (no_data f above field fault is words few one fails) = words (is_generic word (items_of d) f above is)

own_becomes : (r : Record) (octets : List ℕ) (l : IsLineOf r octets) → BecomesUnder [] [] 1 l.tokens (record { written = l.tokens; told = [] })
own_becomes r octets l =
    kept (λ front back it say. says_nothing (entry_of 1 l.tokens) r l.states [] [] _ _ it say.says)
    (λ it fail. fails_nothing (entry_of 1 l.tokens) r l.states [] [] _ _ it fail.fails) refl

own_rewriting : (r : Record) (octets : List ℕ) → IsLineOf r octets → IsRewriting [] octets octets []
own_rewriting r octets l =
    let outcome : Outcome = record { written = l.tokens; told = [] } in
    let all : and_last (cut_from zero l.tokens).ended (cut_from zero l.tokens).open_tokens ≡ l.tokens ∷ [] = ap (λ (c : Cut). and_last c.ended c.open_tokens) l.ended in
    whole l.tokens (outcome ∷ []) l.cut (subst (λ e. EachBecomes (BecomesUnder []) [] 1 e (outcome ∷ [])) (sym all) (own_becomes r octets l, tt))
    (l.cut.whole ∙ sym (append-nil (text l.tokens))) refl

record_line : ((r : Record) → IsRecord r → IsLineOf r (line r)) → (r : Record) → IsRecord r → IsRecordLine (line r)
record_line lines r is =
    let l = lines r is in
    record {
      ends = line_ends_with_feed r;
      states = record { tokens = l.tokens; one = record { cut = l.cut; ended = l.ended }; class = whole_class (entry_of 1 l.tokens) r l.states };
      own = own_rewriting r (line r) l;
    }

each_record_line : ((r : Record) → IsRecord r → IsLineOf r (line r)) → (records : List Record) → AllByRecursion IsRecord records → AllByRecursion IsRecordLine (map line records)
each_record_line are [] all = tt
each_record_line are (r ∷ records) all = (record_line are r all.0, each_record_line are records all.1)

joined_lines : (records : List Record) → lines records ≡ joined (map line records)
joined_lines [] = refl
joined_lines (r ∷ records) = ap (λ t. line r ++ t) (joined_lines records)

pub canonical_shown : ((r : Record) → IsRecord r → IsLineOf r (line r)) → (records : List Record) (shown : List ℕ) → AllByRecursion IsRecord records → IsShownText (lines records) shown → IsRewriting [] shown (lines records) []
canonical_shown are records shown all is =
    subst (λ t. IsRewriting [] shown t []) (sym (joined_lines records))
    (shown_text (map line records) shown (each_record_line are records all) (subst (λ t. IsShownText t shown) (joined_lines records) is))
