-- A file without `$INCLUDE` and `$GENERATE` is its own expansion.
use Rattle.std.proofs.Common.{◌≡◌, ℕ, zero, ◌<◌, List, [], ◌∷◌, ◌++◌, Option, Some, None, Bool, true, false, if◌then◌else◌, bytes_eq, codes, ◌==◌, refl, sym, ap, subst, ◌∙◌, append_assoc, append-nil, ◌⊎◌, inl, inr, arith}
use Rattle.std.specs.List.{AllByRecursion, flat_map, slice_get}
use Rattle.std.specs.Option.{option_or}
use Rattle.std.specs.Prelude.{IfSome}
use Rattle.zone_name.proofs.InOctets.Pushing.{AllByRecursion-append, AllByRecursion-back}
use Rattle.zone_name.proofs.Spelling.Answered.{SpellsCased-faultless, one_verdict_cased}
use Rattle.zone_name.specs.Common.{AreOctets, Labels}
use Rattle.zone_name.specs.Name.{IsCasedName, folded_label}
use Rattle.zone_name.specs.Spelling.{SpellsCased}
use Rattle.zone_rdata.specs.Spelling.{RawItem, bare, quoted}
use Rattle.zone_rdata.specs.Strings.{item_text}
use Rattle.zone_rdata.specs.declared.fault.Fault.{Fault}
use Rattle.zone_name.proofs.InOctets.Pushing.{AllByRecursion-front}
use Rattle.zone_text.proofs.Common.{flat_map-append}
use Rattle.zone_text.proofs.Tokens.Cuttings.{cut_or_broken}
use Rattle.zone_text.proofs.Tokens.CutAgain.{cut_whole, joined}
use Rattle.zone_text.proofs.Files.Left.{entries_text, text_of_entries}
use Rattle.zone_text.specs.Breaks.{Breaks}
use Rattle.zone_text.specs.Entries.{and_last, cut_from, entry_of, item_of}
use Rattle.zone_text.specs.Outcome.{AreOctetItems}
use Rattle.zone_text.specs.Statements.{Statement, directive, includes, no_items, owned, sets_origin, sets_ttl, statement_by, statement_of, unknown, unowned}
use Rattle.zone_text.specs.Tokens.{Token, Cuts, blank, closing, comment, is_blank, line_feed, opening, text, token_text}
use Rattle.zone_text.specs.Tokens as tokens
use Rattle.zone_words.specs.Inherited.{IsOneOrNone}
use Rattle.zone_words.specs.Origin.{NamesOrigin}
use Rattle.zone_files.specs.Expansion.{DirectiveBecomes, EachExpands, Ending, EntryBecomes, Expanding, Files, HasPlainEntries, Holds, IsExpanded, IsFile, IsPlain, Opening, Outcome, SpellsOwner, StatementBecomes, TakenOutOr, at_first, breaks_off, broken, each_with_line_feed, ends, is_next, last_line, lines_of, owned_by, past, same, says_generate, stays, under, whole}

-- ---- names, or none

abbrev pub Named : (Labels → Type 0) → Type 0
Named Is = (named : Option Labels) × IsOneOrNone Is named × IfSome named IsCasedName

pub spelled_or_not : (above : Labels) → IsCasedName above → (text : List ℕ) → AreOctets text → Named (SpellsCased (Some above) text)
spelled_or_not above is text low = elim ((one_verdict_cased (Some above) text is low).one_of) [
  | inl found ↦ (Some found.0, found.1, found.1.name)
  | inr wrong ↦ (None, (λ name h. SpellsCased-faultless (Some above) text name wrong.0 h wrong.1), tt)
]

origin_or_not : (above : Labels) → IsCasedName above → (items : List RawItem) → AreOctetItems items → Named (NamesOrigin above items)
origin_or_not above is [] low = (None, (λ name h. h), tt)
origin_or_not above is (bare text ∷ []) low = spelled_or_not above is text low.0
origin_or_not above is (quoted text ∷ []) low = (None, (λ name h. h), tt)
origin_or_not above is (bare text ∷ item ∷ items) low = (None, (λ name h. h), tt)
origin_or_not above is (quoted text ∷ item ∷ items) low = (None, (λ name h. h), tt)

pub owner_or_not : (origin : Labels) → IsCasedName origin → (item : RawItem) → AreOctets (item_text item) → Named (SpellsOwner origin item)
owner_or_not origin is (bare text) low = spelled_or_not origin is text low
owner_or_not origin is (quoted text) low = (None, (λ name h. h), tt)

-- ---- an entry

-- the expanded text states the owner that holds
pub record IsOwn (h : Holds) : Type 0 where
  pub owner : h.owner ≡ h.stated
  pub name : IsCasedName h.origin
  pub none_out : h.taken_out ≡ []

own_past : (h : Holds) (entry : List ℕ) → IsOwn h → IsOwn (past entry h)
own_past h entry own = record { owner = own.owner; name = own.name; none_out = own.none_out }

own_under : (h : Holds) → IsOwn h → (named : Option Labels) → IfSome named IsCasedName → IsOwn (under named h)
own_under h own None is = own
own_under h own (Some name) is = record { owner = own.owner; name = is; none_out = own.none_out }

own_owned : (h : Holds) → IsOwn h → (named : Option Labels) → IsOwn (owned_by named h)
own_owned h own named = record { owner = ap (option_or named) own.owner; name = own.name; none_out = own.none_out }

-- the items of a statement are octets
abbrev IsLow : Statement → Type 0
IsLow (sets_origin names) = AreOctetItems names
IsLow (owned item items) = AreOctets (item_text item)
IsLow form = Unit {0}

if_either : (Is : Statement → Type 0) (test : Bool) (a b : Statement) → Is a → Is b → Is (if test then a else b)
if_either Is true a b p q = p
if_either Is false a b p q = q

low_directive : (word : RawItem) (items : List RawItem) → AreOctetItems items → IsLow (directive word items)
low_directive (quoted text) items low = tt
low_directive (bare text) items low =
    if_either IsLow (bytes_eq (folded_label text) (codes "$origin")) _ _ low
    (if_either IsLow (bytes_eq (folded_label text) (codes "$ttl")) _ _ tt
    (if_either IsLow (bytes_eq (folded_label text) (codes "$include")) _ _ tt tt))

low_statement : (first : Option ℕ) (items : List RawItem) → AreOctetItems items → IsLow (statement_by first items)
low_statement None [] low = tt
low_statement (Some c) [] low = tt
low_statement None (item ∷ items) low = low.0
low_statement (Some c) (item ∷ items) low =
    if_either IsLow (c == 36) _ _ (low_directive item items low.1) (if_either IsLow (is_blank c) _ _ tt low.0)

abbrev HasOwn : Holds → List ℕ → List RawItem → Statement → Type 0
HasOwn h entry items s = (next : Holds) × StatementBecomes h entry items s (stays entry next) × IsOwn next

own_unknown : (h : Holds) → IsOwn h → (entry : List ℕ) (items : List RawItem) → says_generate items ≡ false → HasOwn h entry items unknown
own_unknown h own entry items other = (past entry h, subst (λ test. DirectiveBecomes test h entry items (stays entry (past entry h))) (sym other) refl, own_past h entry own)

own_statement : (h : Holds) → IsOwn h → (entry : List ℕ) (items : List RawItem) (s : Statement) → IsLow s → (s ≡ includes → ⊥) × (s ≡ unknown → says_generate items ≡ false) → HasOwn h entry items s
own_statement h own entry items (sets_origin names) low none = let n = origin_or_not h.origin own.name names low in (under n.0 (past entry h), (n.0, n.1, refl), own_under (past entry h) (own_past h entry own) n.0 n.2)
own_statement h own entry items (owned item rest) low none = let n = owner_or_not h.origin own.name item low in (owned_by n.0 (past entry h), (n.0, n.1, refl), own_owned (past entry h) (own_past h entry own) n.0)
own_statement h own entry items (unowned rest) low none = (past entry h, same own.owner refl, own_past h entry own)
own_statement h own entry items includes low none = absurd (none.0 refl)
own_statement h own entry items no_items low none = (past entry h, refl, own_past h entry own)
own_statement h own entry items (sets_ttl times) low none = (past entry h, refl, own_past h entry own)
own_statement h own entry items unknown low none = own_unknown h own entry items (none.1 refl)

-- ---- the items of tokens of octets are octets

front_low : (octets more : List ℕ) → AreOctets (octets ++ more) → AreOctets octets
front_low octets more low = AllByRecursion-front (λ c. c < 256) octets more low

back_low : (octets more : List ℕ) → AreOctets (octets ++ more) → AreOctets more
back_low octets more low = AllByRecursion-back (λ c. c < 256) octets more low

low_items : (ts : List Token) → AreOctets (text ts) → AreOctetItems (flat_map item_of ts)
low_items [] low = tt
low_items (tokens.bare units ∷ ts) low = (front_low (token_text (tokens.bare units)) (text ts) low, low_items ts (back_low (token_text (tokens.bare units)) (text ts) low))
low_items (tokens.quoted units ∷ ts) low =
    let own : AreOctets (token_text (tokens.quoted units)) = front_low (token_text (tokens.quoted units)) (text ts) low in
    (front_low _ (34 ∷ []) own.1, low_items ts (back_low (token_text (tokens.quoted units)) (text ts) low))
low_items (blank c ∷ ts) low = low_items ts low.1
low_items (opening ∷ ts) low = low_items ts low.1
low_items (closing ∷ ts) low = low_items ts low.1
low_items (line_feed ∷ ts) low = low_items ts low.1
low_items (comment octets ∷ ts) low = low_items ts (back_low (token_text (comment octets)) (text ts) low)

-- none is taken out
pub not_out : (h : Holds) (tokens : List Token) (outcome : Outcome) → h.taken_out ≡ [] → StatementBecomes h (text tokens) (flat_map item_of tokens) (statement_of (entry_of 1 tokens)) outcome → EntryBecomes h tokens outcome
not_out h tokens outcome none p =
    let form : Statement = statement_of (entry_of 1 tokens) in
    subst (λ lines. TakenOutOr (is_next lines h.line (lines_of form (flat_map item_of tokens))) h (text tokens) (flat_map item_of tokens) form outcome) (sym none) p

-- ---- a file

abbrev ArePlain : List (List Token) → Type 0
ArePlain entries = AllByRecursion IsPlain entries

abbrev behind : Option (List ℕ) → List ℕ
behind None = []
behind (Some rest) = rest

module _ (Opens : List ℕ → Labels → Expanding) where
  each_own : (entries : List (List Token)) (h : Holds) (tail : Option (List ℕ)) → IsOwn h → ArePlain entries → AreOctets (flat_map text entries) → (ending : Ending) × EachExpands Opens h entries tail (flat_map text entries ++ behind tail) ending × (last_line ending ≡ [])
  each_own [] h None own none low = (ends h, (refl, refl), refl)
  each_own [] h (Some rest) own none low = (breaks_off, (refl, refl), refl)
  each_own (entry ∷ entries) h tail own none low =
      let s = own_statement h own (text entry) (flat_map item_of entry) (statement_of (entry_of 1 entry)) (low_statement (slice_get (text entry) 0) (flat_map item_of entry) (low_items entry (front_low (text entry) (flat_map text entries) low))) none.0 in
      let rest = each_own entries s.0 tail s.2 none.1 (back_low (text entry) (flat_map text entries) low) in
      (rest.0, (stays (text entry) s.0, not_out h entry (stays (text entry) s.0) own.none_out s.1, (flat_map text entries ++ behind tail, append_assoc (text entry) (flat_map text entries) (behind tail), rest.1)), rest.2)

-- the text of the entries, with the line feed that the last one may lack
with_feed : (ended : List (List Token)) (others : List Token) → (flat_map text (each_with_line_feed ended others) ≡ flat_map text (and_last ended others)) ⊎ (flat_map text (each_with_line_feed ended others) ≡ flat_map text (and_last ended others) ++ 10 ∷ [])
with_feed ended [] = inl refl
with_feed ended (p ∷ others) = inr (last ended (p ∷ others))
  where
    one : (others : List Token) → flat_map text ((others ++ line_feed ∷ []) ∷ []) ≡ flat_map text (others ∷ []) ++ 10 ∷ []
    one others = append-nil (text (others ++ line_feed ∷ [])) ∙ flat_map-append token_text others (line_feed ∷ []) ∙ ap (λ t. t ++ 10 ∷ []) (sym (append-nil (text others)))

    last : (ended : List (List Token)) (others : List Token) → flat_map text (ended ++ (others ++ line_feed ∷ []) ∷ []) ≡ flat_map text (ended ++ others ∷ []) ++ 10 ∷ []
    last [] others = one others
    last (e ∷ ended) others = ap (λ t. text e ++ t) (last ended others) ∙ sym (append_assoc (text e) (flat_map text (ended ++ others ∷ [])) (10 ∷ []))

-- the file itself, or with a line feed more
abbrev pub IsOwnText : List ℕ → List ℕ → Type 0
IsOwnText octets expanded = (expanded ≡ octets) ⊎ (expanded ≡ octets ++ 10 ∷ [])

module _ (directory : Option (List ℕ)) (name : List ℕ) (origin : Labels) (octets : List ℕ) (files : Files) (is : IsCasedName origin) where
  expands_own : (entries : List (List Token)) (tail : Option (List ℕ)) → IsFile octets entries tail → ArePlain entries → AreOctets (flat_map text entries) → (ending : Ending) × IsExpanded directory name origin octets files (flat_map text entries ++ behind tail) ending
  expands_own entries tail file none low =
      let e = each_own (Opening files) entries (at_first directory name origin) tail (record { owner = refl; name = is; none_out = refl }) none low in (
        e.0,
        record {
          written = flat_map text entries ++ behind tail;
          expands = record { entries = entries; tail = tail; is_file = file; each = e.1 };
          expanded_is = sym (ap (λ t. (flat_map text entries ++ behind tail) ++ t) e.2 ∙ append-nil (flat_map text entries ++ behind tail));
        },
      )

  abbrev HasOwnText : Type 0
  HasOwnText = (expanded : List ℕ) × (ending : Ending) × IsExpanded directory name origin octets files expanded ending × IsOwnText octets expanded

  whole_own : (ts : List Token) → Cuts octets ts → AreOctets octets → ArePlain (each_with_line_feed (cut_from zero ts).ended (cut_from zero ts).open_tokens) → HasOwnText
  whole_own ts cut low none =
      let entries : List (List Token) = each_with_line_feed (cut_from zero ts).ended (cut_from zero ts).open_tokens in
      let same_text : flat_map text (and_last (cut_from zero ts).ended (cut_from zero ts).open_tokens) ≡ octets = entries_text ts ∙ sym cut.whole in
      elim (with_feed (cut_from zero ts).ended (cut_from zero ts).open_tokens) [
        | inl e ↦ (let x = expands_own entries None (whole ts cut refl refl) none (subst AreOctets (sym (e ∙ same_text)) low) in (flat_map text entries ++ [], x.0, x.1, inl (append-nil (flat_map text entries) ∙ e ∙ same_text)))
        | inr e ↦ (let x = expands_own entries None (whole ts cut refl refl) none (subst AreOctets (sym (e ∙ ap (λ t. t ++ 10 ∷ []) same_text)) (AllByRecursion-append (λ c. c < 256) octets (10 ∷ []) low (omega arith, tt))) in (flat_map text entries ++ [], x.0, x.1, inr (append-nil (flat_map text entries) ∙ e ∙ ap (λ t. t ++ 10 ∷ []) same_text)))
      ]

  broken_own : (ts : List Token) (fault : Fault) → Breaks octets ts fault → (rest : List ℕ) → octets ≡ flat_map text (cut_from zero ts).ended ++ rest → AreOctets octets → ArePlain (cut_from zero ts).ended → HasOwnText
  broken_own ts fault breaks rest parts low none =
      let x = expands_own (cut_from zero ts).ended (Some rest) (broken ts fault rest breaks refl parts refl) none (front_low (flat_map text (cut_from zero ts).ended) rest (subst AreOctets parts low)) in
      (flat_map text (cut_from zero ts).ended ++ rest, x.0, x.1, inl (sym parts))

  pub own_expansion : AreOctets octets → HasPlainEntries octets → HasOwnText
  own_expansion low none = elim (cut_or_broken octets) [
    | inl cut ↦ whole_own cut.0 cut.1 low (none _ None (whole cut.0 cut.1 refl refl))
    | inr breaks ↦ (let rest : List ℕ = text (cut_from zero breaks.0).open_tokens ++ breaks.2.rest in
        let parts : octets ≡ flat_map text (cut_from zero breaks.0).ended ++ rest = breaks.2.whole ∙ ap (λ t. t ++ breaks.2.rest) (ap text (sym (cut_whole zero breaks.0)) ∙ flat_map-append token_text (joined (cut_from zero breaks.0).ended) (cut_from zero breaks.0).open_tokens ∙ ap (λ t. t ++ text (cut_from zero breaks.0).open_tokens) (sym (text_of_entries (cut_from zero breaks.0).ended))) ∙ append_assoc (flat_map text (cut_from zero breaks.0).ended) (text (cut_from zero breaks.0).open_tokens) breaks.2.rest in
        broken_own breaks.0 breaks.1 breaks.2 rest parts low (none _ (Some rest) (broken breaks.0 breaks.1 rest breaks.2 refl parts refl)))
  ]
