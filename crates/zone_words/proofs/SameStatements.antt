-- An entry that is written anew says the same of what others inherit, and states no more anew.
use Rattle.zone_words.proofs.Common.{AllByRecursion, Anew, BecomesUnder, Bool, Entry, FurtherType, IsFurtherRecord, IsGeneric, IsMnemonic, IsRefused, IsToken, Labels, List, None, Option, Parts, RawItem, Refused, SaysAnew, Some, Statement, Token, TokensSay, TouchingItem, Word, Written, [], ap, arith, blank, bytes_eq, bytes_eq-Decides, class_among, class_word, closing, codes, comment, directive, each_mnemonic, encode_lower, entry_of, escaped, false, false≢true, filter, flat_map, flat_map-append, folded_label, further_names, if◌then◌else◌, in_generic_form, is_blank, item_of, kept, length, length-append, line_feed, map, not, not-true, opening, option_and_then, origin_items, owned, parts_after, parts_in, plain, refl, renamed, slice_get, statement_by, statement_of, stays, subst, sym, take, text, token_text, touching_items, true, type_token, unowned, word_after, written, written_text, ℕ, ◌++◌, ◌+◌, ◌==◌, ◌∙◌, ◌∷◌, ◌≡◌, list_all, Named}
use Rattle.type_data.proofs.Registered.{none_like_type}
use Rattle.zone_text.proofs.Common.{bare, quoted}
use Rattle.std.specs.Prelude.{decimal}
use Rattle.zone_name.proofs.Texts.Bare.{plain_text}
use Rattle.zone_name.specs.Spelling as spelling
use Rattle.zone_rdata.specs.Item as raw
use Rattle.zone_text.proofs.Heads.PartsLeft.{parts_behind}
use Rattle.zone_text.proofs.Heads.WordsLeft.{next_part}
use Rattle.zone_words.proofs.Turns.{fails_in_words, fails_under, items_behind, no_directive, no_origin, says_under}
use Rattle.type_data.specs.DataItem.{items_of}
use Rattle.zone_words.specs.Entry.{in_words}
use Rattle.zone_words.specs.Written.{in_octets}

-- ---- the parts of a record, with other items from the type on

abbrev pub parts_of : List Word → List RawItem → Parts
parts_of words rest = record { words = words; rest = rest }

-- an item before no word
abbrev pub IsNoWord : RawItem → Type 0
IsNoWord item = (words : List Word) → word_after words item ≡ None

pub too_short : (words : List Word) (a : RawItem) (x : List RawItem) → (parts_after words x).rest ≡ a ∷ x → ⊥
too_short words a x e =
    let b = parts_behind words x in
    let l : length x ≡ length b.0 + length (parts_after words x).rest = ap length b.1 ∙ length-append b.0 (parts_after words x).rest in
    omega (arith, l, ap length e)

too_long : (f a : RawItem) (front x : List RawItem) → f ∷ (front ++ a ∷ x) ≡ a ∷ x → ⊥
too_long f a front x e = omega (arith, ap length e, length-append front (a ∷ x))

at_type : (words : List Word) (a b : RawItem) (x y : List RawItem) (found : Option Word) → word_after words a ≡ found → IsNoWord b → (parts_after words (a ∷ x)).rest ≡ a ∷ x → parts_after words (b ∷ y) ≡ parts_of (parts_after words (a ∷ x)).words (b ∷ y)
at_type words a b x y None e none rest = next_part words b y None (none words) ∙ ap (λ (p : Parts). parts_of p.words (b ∷ y)) (sym (next_part words a x None e))
at_type words a b x y (Some word) e none rest = absurd (too_short (words ++ word ∷ []) a x (ap (λ (p : Parts). p.rest) (sym (next_part words a x (Some word) e)) ∙ rest))

before_type : (words : List Word) (f a b : RawItem) (front x y : List RawItem) (found : Option Word) → word_after words f ≡ found → (parts_after words (f ∷ (front ++ a ∷ x))).rest ≡ a ∷ x → ((word : Word) → (parts_after (words ++ word ∷ []) (front ++ a ∷ x)).rest ≡ a ∷ x → parts_after (words ++ word ∷ []) (front ++ b ∷ y) ≡ parts_of (parts_after (words ++ word ∷ []) (front ++ a ∷ x)).words (b ∷ y)) → parts_after words (f ∷ (front ++ b ∷ y)) ≡ parts_of (parts_after words (f ∷ (front ++ a ∷ x))).words (b ∷ y)
before_type words f a b front x y None e rest more = absurd (too_long f a front x (ap (λ (p : Parts). p.rest) (sym (next_part words f (front ++ a ∷ x) None e)) ∙ rest))
before_type words f a b front x y (Some word) e rest more =
    let old = next_part words f (front ++ a ∷ x) (Some word) e in
    next_part words f (front ++ b ∷ y) (Some word) e
    ∙ more word (ap (λ (p : Parts). p.rest) (sym old) ∙ rest)
    ∙ ap (λ (p : Parts). parts_of p.words (b ∷ y)) (sym old)

parts_replaced : (words : List Word) (front : List RawItem) (a b : RawItem) (x y : List RawItem) → IsNoWord b → (parts_after words (front ++ a ∷ x)).rest ≡ a ∷ x → parts_after words (front ++ b ∷ y) ≡ parts_of (parts_after words (front ++ a ∷ x)).words (b ∷ y)
parts_replaced words [] a b x y none rest = at_type words a b x y (word_after words a) refl none rest
parts_replaced words (f ∷ front) a b x y none rest = before_type words f a b front x y (word_after words f) refl rest (λ word h. parts_replaced (words ++ word ∷ []) front a b x y none h)

module _ (a b : RawItem) (x y : List RawItem) (none : IsNoWord b) where
  some_parts : (front : List RawItem) (parts : Parts) → Some (parts_after [] (front ++ a ∷ x)) ≡ Some parts → parts.rest ≡ a ∷ x → Some (parts_after [] (front ++ b ∷ y)) ≡ Some (parts_of parts.words (b ∷ y))
  some_parts front parts e rest =
      let same : parts_after [] (front ++ a ∷ x) ≡ parts = cc e in
      ap (λ t. Some t) (parts_replaced [] front a b x y none (ap (λ (p : Parts). p.rest) same ∙ rest) ∙ ap (λ (p : Parts). parts_of p.words (b ∷ y)) same)

  owned_parts : (front : List RawItem) (parts : Parts) → parts_in (statement_by None (front ++ a ∷ x)) ≡ Some parts → parts.rest ≡ a ∷ x → parts_in (statement_by None (front ++ b ∷ y)) ≡ Some (parts_of parts.words (b ∷ y))
  owned_parts [] parts e rest = absurd (let same : parts_after [] x ≡ parts = cc e in too_short [] a x (ap (λ (p : Parts). p.rest) same ∙ rest))
  owned_parts (f ∷ front) parts e rest = some_parts front parts e rest

  abbrev pub by_octet : Bool → Bool → RawItem → List RawItem → Statement
  by_octet dollar is item items = if dollar then directive item items else if is then unowned (item ∷ items) else owned item items

  octet_alone : (dollar is : Bool) (parts : Parts) → parts_in (by_octet dollar is a x) ≡ Some parts → parts.rest ≡ a ∷ x → parts_in (by_octet dollar is b y) ≡ Some (parts_of parts.words (b ∷ y))
  octet_alone true is parts e rest = absurd (no_directive a x parts e)
  octet_alone false true parts e rest = some_parts [] parts e rest
  octet_alone false false parts e rest = absurd (let same : parts_after [] x ≡ parts = cc e in too_short [] a x (ap (λ (p : Parts). p.rest) same ∙ rest))

  octet_parts : (dollar is : Bool) (f : RawItem) (front : List RawItem) (parts : Parts) → parts_in (by_octet dollar is f (front ++ a ∷ x)) ≡ Some parts → parts.rest ≡ a ∷ x → parts_in (by_octet dollar is f (front ++ b ∷ y)) ≡ Some (parts_of parts.words (b ∷ y))
  octet_parts true is f front parts e rest = absurd (no_directive f (front ++ a ∷ x) parts e)
  octet_parts false true f front parts e rest = some_parts (f ∷ front) parts e rest
  octet_parts false false f front parts e rest = some_parts front parts e rest

  record_parts : (first : Option ℕ) (front : List RawItem) (parts : Parts) → parts_in (statement_by first (front ++ a ∷ x)) ≡ Some parts → parts.rest ≡ a ∷ x → parts_in (statement_by first (front ++ b ∷ y)) ≡ Some (parts_of parts.words (b ∷ y))
  record_parts None front parts e rest = owned_parts front parts e rest
  record_parts (Some c) [] parts e rest = octet_alone (c == 36) (is_blank c) parts e rest
  record_parts (Some c) (f ∷ front) parts e rest = octet_parts (c == 36) (is_blank c) f front parts e rest

-- the type is never the first item of an entry that begins with no blank
never_owner : (dollar is : Bool) (a : RawItem) (x : List RawItem) (parts : Parts) → is ≡ false → parts_in (if dollar then directive a x else if is then unowned (a ∷ x) else owned a x) ≡ Some parts → parts.rest ≡ a ∷ x → ⊥
never_owner true is a x parts unblank e rest = no_directive a x parts e
never_owner false true a x parts unblank e rest = absurd cc
never_owner false false a x parts unblank e rest = let same : parts_after [] x ≡ parts = cc e in too_short [] a x (ap (λ (p : Parts). p.rest) same ∙ rest)

-- ---- the first octet

pub first_same : (p : Token) (a b : List ℕ) → IsToken p → slice_get (token_text p ++ a) 0 ≡ slice_get (token_text p ++ b) 0
first_same (bare []) a b is = absurd (omega (arith, is.0))
first_same (bare (plain c ∷ units)) a b is = refl
first_same (bare (escaped c ∷ units)) a b is = refl
first_same (bare (spelling.decimal c d e ∷ units)) a b is = refl
first_same (blank c) a b is = refl
first_same opening a b is = refl
first_same closing a b is = refl
first_same line_feed a b is = refl
first_same (comment octets) a b is = refl
first_same (quoted units) a b is = refl

record BeginsUnblank (octets : List ℕ) : Type 0 where
  octet : ℕ
  is : slice_get octets 0 ≡ Some octet
  not : is_blank octet ≡ false

bare_begins : (units : List Written) (more : List ℕ) → IsToken (bare units) → BeginsUnblank (written_text units ++ more)
bare_begins [] more is = absurd (omega (arith, is.0))
bare_begins (plain c ∷ units) more is = record { octet = c; is = refl; not = grind arith }
bare_begins (escaped c ∷ units) more is = record { octet = 92; is = refl; not = refl }
bare_begins (spelling.decimal c d e ∷ units) more is = record { octet = 92; is = refl; not = refl }

-- ---- the items that are written

abbrev pub number_in : Anew → ℕ
number_in (renamed number) = number
number_in (in_octets number octets) = number

-- the tokens after the type's
abbrev pub behind : Anew → List Token → List Token
behind (renamed number) back = back
behind (in_octets number []) back = blank 32 ∷ bare (escaped 35 ∷ []) ∷ blank 32 ∷ bare (map plain (decimal 0)) ∷ filter stays back
behind (in_octets number (c ∷ octets)) back =
    blank 32 ∷ bare (escaped 35 ∷ []) ∷ blank 32 ∷ bare (map plain (decimal (length (c ∷ octets)))) ∷ blank 32 ∷ bare (map plain (encode_lower (c ∷ octets))) ∷ filter stays back

written_behind : (it : Anew) (back : List Token) → written it back ≡ type_token (number_in it) ∷ behind it back
written_behind (renamed number) back = refl
written_behind (in_octets number []) back = refl
written_behind (in_octets number (c ∷ octets)) back = refl

abbrev pub type_text : ℕ → List ℕ
type_text number = written_text (map plain (codes "TYPE" ++ decimal number))

abbrev pub type_item : Anew → RawItem
type_item it = raw.bare (type_text (number_in it))

abbrev pub items_after : Anew → List Token → List RawItem
items_after it back = flat_map item_of (behind it back)

no_mnemonic : (number n : ℕ) (word : List ℕ) → word ≡ type_text number → IsMnemonic further_names word n → ⊥
no_mnemonic number n word e is =
    let other = not-true _ (each_mnemonic (λ _ m. not (bytes_eq (take 4 (folded_label m)) (codes "type"))) further_names none_like_type n is.name is.row) in
    let front : take 4 (folded_label is.name) ≡ codes "type" = ap (take 4) (sym is.same ∙ ap folded_label (e ∙ (sym (plain_text (codes "TYPE" ++ decimal number))))) in
    false≢true (sym other ∙ (bytes_eq-Decides (take 4 (folded_label is.name)) (codes "type")).1 front)

-- ---- the entry that is written

pub record AlikeEntries (entry other : Entry) : Type 0 where
  pub origin : origin_items (statement_of entry) ≡ origin_items (statement_of other)
  pub class : class_word (statement_of entry) ≡ class_word (statement_of other)

alike_by : (form other : Statement) (parts parts' : Parts) → parts_in form ≡ Some parts → parts_in other ≡ Some parts' → parts.words ≡ parts'.words → (origin_items form ≡ origin_items other) × (class_word form ≡ class_word other)
alike_by form other parts parts' e e' same = (
  no_origin form parts e ∙ sym (no_origin other parts' e'),
  ap (option_and_then (λ (p : Parts). class_among p.words)) e ∙ ap class_among same ∙ sym (ap (option_and_then (λ (p : Parts). class_among p.words)) e'),
)

module _ (line : ℕ) (back : List Token) (word : List Written) (it : Anew) where
  abbrev pub WordStands : List Token → Parts → Type 0
  WordStands front parts = (parts_in (statement_of (entry_of line (front ++ bare word ∷ back))) ≡ Some parts) × (parts.rest ≡ raw.bare (written_text word) ∷ flat_map item_of back)

  abbrev pub TypeStands : List Token → Parts → Type 0
  TypeStands front parts = parts_in (statement_of (entry_of line (front ++ written it back))) ≡ Some (parts_of parts.words (type_item it ∷ items_after it back))

  abbrev pub word_item : RawItem
  word_item = raw.bare (written_text word)

  pub old_items : (front : List Token) → flat_map item_of (front ++ bare word ∷ back) ≡ flat_map item_of front ++ word_item ∷ flat_map item_of back
  old_items front = flat_map-append item_of front (bare word ∷ back)

  pub new_items : (front : List Token) → flat_map item_of front ++ type_item it ∷ items_after it back ≡ flat_map item_of (front ++ written it back)
  new_items front = ap (λ t. flat_map item_of front ++ t) (sym (ap (flat_map item_of) (written_behind it back))) ∙ sym (flat_map-append item_of front (written it back))

  pub none_before : (parts : Parts) → IsToken (bare word) → WordStands [] parts → ⊥
  none_before parts is stands =
      let begins = bare_begins word (text back) is in
      never_owner (begins.octet == 36) (is_blank begins.octet) word_item (flat_map item_of back) parts begins.not
      (subst (λ o. parts_in (statement_by o (word_item ∷ flat_map item_of back)) ≡ Some parts) begins.is stands.0) stands.1

  some_before : (p : Token) (front : List Token) (parts : Parts) → IsToken p → WordStands (p ∷ front) parts → TypeStands (p ∷ front) parts
  some_before p front parts is stands =
      let old : Option ℕ = slice_get (text (p ∷ front ++ bare word ∷ back)) 0 in
      let same : old ≡ slice_get (text (p ∷ front ++ written it back)) 0 = first_same p (text (front ++ bare word ∷ back)) (text (front ++ written it back)) is in
      let stated : parts_in (statement_by old (flat_map item_of (p ∷ front) ++ word_item ∷ flat_map item_of back)) ≡ Some parts = subst (λ i. parts_in (statement_by old i) ≡ Some parts) (old_items (p ∷ front)) stands.0 in
      let now = record_parts word_item (type_item it) (flat_map item_of back) (items_after it back) (λ words. refl) old (flat_map item_of (p ∷ front)) parts stated stands.1 in
      subst (λ o. parts_in (statement_by o (flat_map item_of (p ∷ front ++ written it back))) ≡ Some (parts_of parts.words (type_item it ∷ items_after it back))) same
      (subst (λ i. parts_in (statement_by old i) ≡ Some (parts_of parts.words (type_item it ∷ items_after it back))) (new_items (p ∷ front)) now)

  pub type_stands : (front : List Token) (parts : Parts) → AllByRecursion IsToken (front ++ bare word ∷ back) → WordStands front parts → TypeStands front parts
  type_stands [] parts each stands = absurd (none_before parts each.0 stands)
  type_stands (p ∷ front) parts each stands = some_before p front parts each.0 stands

  anew_alike : (front : List Token) (parts : Parts) → AllByRecursion IsToken (front ++ bare word ∷ back) → WordStands front parts → AlikeEntries (entry_of line (front ++ bare word ∷ back)) (entry_of line (front ++ written it back))
  anew_alike front parts each stands =
      let both = alike_by (statement_of (entry_of line (front ++ bare word ∷ back))) (statement_of (entry_of line (front ++ written it back))) parts _ stands.0 (type_stands front parts each stands) refl in
      record { origin = both.0; class = both.1 }

  -- ---- it states nothing anew

  record IsTypeNow (other : List ℕ) (items : List RawItem) : Type 0 where
    named : other ≡ type_text (number_in it)
    same : items ≡ items_after it back

  type_now : (front : List Token) (parts : Parts) (after : List Entry) (other : List ℕ) (items : List RawItem) (further : FurtherType) → TypeStands front parts → IsFurtherRecord after (entry_of line (front ++ written it back)) other items further → IsTypeNow other items
  type_now front parts after other items further stands is =
      let p : Some is.parts ≡ Some (parts_of parts.words (type_item it ∷ items_after it back)) = sym is.split ∙ stands in
      let q : is.parts ≡ parts_of parts.words (type_item it ∷ items_after it back) = cc p in
      let r : raw.bare other ∷ items ≡ type_item it ∷ items_after it back = sym is.from_type ∙ ap (λ (x : Parts). x.rest) q in
      let h : raw.bare other ≡ type_item it = cc r in
      record { named = cc h; same = cc r }

  module _ (origin : Labels) (front : List Token) (parts : Parts) (after : List Entry) (stands : TypeStands front parts) (generic : IsGeneric (items_after it back)) where
    says_no_more : (other : List ℕ) (d : List TouchingItem) (also : Anew) → SaysAnew origin after (entry_of line (front ++ written it back)) other d also → ⊥
    says_no_more other d also (in_generic_form further above is few one_line form mnemonic) = no_mnemonic (number_in it) further.number other (type_now front parts after other (items_of d) further stands is.stated).named mnemonic
    says_no_more other d also (in_words further above octets is few one_line words states) = words (subst IsGeneric (sym (type_now front parts after other (items_of d) further stands is.stated).same) generic)

    fails_no_more : (other : List ℕ) (d : List TouchingItem) (r : Refused) → IsRefused origin after (entry_of line (front ++ written it back)) other d r → ⊥
    fails_no_more other d r fails =
        let u = fails_under origin after (entry_of line (front ++ written it back)) other d r fails in
        fails_in_words origin after (entry_of line (front ++ written it back)) other d r fails (subst IsGeneric (sym (type_now front parts after other (items_of d) u.further stands u.is.stated).same) generic)

-- the items that are written are in the generic form
octets_generic : (number : ℕ) (octets : List ℕ) (back : List Token) → IsGeneric (items_after (in_octets number octets) back)
octets_generic number [] back = (_, refl)
octets_generic number (c ∷ octets) back = (_, refl)

anew_generic : (origin : Labels) (before : List Entry) (entry : Entry) (word : List ℕ) (back : List Token) (it : Anew) → SaysAnew origin before entry word (touching_items true back) it → IsGeneric (items_after it back)
anew_generic origin before entry word back it (in_generic_form further above is few one_line form mnemonic) = subst IsGeneric (items_behind true back) form
anew_generic origin before entry word back it (in_words further above octets is few one_line words states) = octets_generic further.number octets back

-- ---- the entry of tokens

module _ (origin : Labels) (before after : List Entry) (line : ℕ) where
  pub says_stated : (entry : Entry) (word : List ℕ) (back : List Token) (it : Anew) → SaysAnew origin before entry word (touching_items true back) it → (parts : Parts) × (parts_in (statement_of entry) ≡ Some parts) × (parts.rest ≡ raw.bare word ∷ flat_map item_of back)
  says_stated entry word back it says =
      let u = says_under origin before entry word (touching_items true back) it says in
      (u.is.stated.parts, u.is.stated.split, u.is.stated.from_type ∙ ap (λ t. raw.bare word ∷ t) (items_behind true back))

  alike_at : (front back : List Token) (word : List Written) (it : Anew) → AllByRecursion IsToken (front ++ bare word ∷ back) → SaysAnew origin before (entry_of line (front ++ bare word ∷ back)) (written_text word) (touching_items true back) it → AlikeEntries (entry_of line (front ++ bare word ∷ back)) (entry_of line (front ++ written it back))
  alike_at front back word it each says =
      let stated = says_stated (entry_of line (front ++ bare word ∷ back)) (written_text word) back it says in
      anew_alike line back word it front stated.0 each (stated.1, stated.2)

  again_at : (front back : List Token) (word : List Written) (it : Anew) → AllByRecursion IsToken (front ++ bare word ∷ back) → SaysAnew origin before (entry_of line (front ++ bare word ∷ back)) (written_text word) (touching_items true back) it → BecomesUnder origin after line (front ++ written it back) (record { written = front ++ written it back; told = [] })
  again_at front back word it each says =
      let stated = says_stated (entry_of line (front ++ bare word ∷ back)) (written_text word) back it says in
      let stands = type_stands line back word it front stated.0 each (stated.1, stated.2) in
      let generic = anew_generic origin before (entry_of line (front ++ bare word ∷ back)) (written_text word) back it says in
      kept (λ f b also say. says_no_more line back word it origin front stated.0 after stands generic (written_text say.word) (touching_items true b) also say.says)
      (λ r fail. fails_no_more line back word it origin front stated.0 after stands generic (written_text fail.word) (touching_items true fail.back) r fail.fails) refl

module _ (origin : Labels) (before : List Entry) (line : ℕ) (tokens front back : List Token) (it : Anew) (each : AllByRecursion IsToken tokens) (say : TokensSay origin before line tokens front back it) where
  -- it leaves the same to the entries after it
  pub anew_entry_alike : AlikeEntries (entry_of line tokens) (entry_of line (front ++ written it back))
  anew_entry_alike =
      subst (λ t. AlikeEntries (entry_of line t) (entry_of line (front ++ written it back))) (sym say.split)
      (alike_at origin before [] line front back say.word it (subst (AllByRecursion IsToken) say.split each) (subst (λ t. SaysAnew origin before (entry_of line t) (written_text say.word) (touching_items true back) it) say.split say.says))

-- it stays as it is, whatever entries stand before it
pub anew_again : (origin : Labels) (before after : List Entry) (line : ℕ) (tokens front back : List Token) (it : Anew) → AllByRecursion IsToken tokens → TokensSay origin before line tokens front back it → BecomesUnder origin after line (front ++ written it back) (record { written = front ++ written it back; told = [] })
anew_again origin before after line tokens front back it each say =
    again_at origin before after line front back say.word it (subst (AllByRecursion IsToken) say.split each) (subst (λ t. SaysAnew origin before (entry_of line t) (written_text say.word) (touching_items true back) it) say.split say.says)
