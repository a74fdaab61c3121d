-- What is shown for a line that ends with data of a further type.
use Rattle.std.proofs.Common.{◌≡◌, ◌≢◌, ℕ, inl, inr, List, [], ◌∷◌, ◌++◌, true, refl, ap, sym, subst, ◌∙◌, append_assoc}
use Rattle.hex.proofs.HexLemmas.{decode_of-encode_lower}
use Rattle.hex.specs.Hex.{decode_of}
use Rattle.std.proofs.Common.{Ok, lit<}
use Rattle.std.specs.Prelude.{IsSome, Some}
use Rattle.zone_name.specs.Common.{AreOctets, Labels}
use Rattle.zone_rdata.proofs.Lists.{each_below}
use Rattle.zone_rdata.specs.Table.{in_class}
use Rattle.zone_text.specs.Entries.{entry_of}
use Rattle.zone_text.specs.FirstEntry.{IsOneEntry}
use Rattle.zone_text.specs.Inherited.{class_word}
use Rattle.zone_text.specs.Statements.{statement_of}
use Rattle.zone_text.specs.Tokens.{Token, text}
use Rattle.type_data.specs.DataItem.{TouchingItem}
use Rattle.zone_words.specs.Entry.{IsRewriting}
use Rattle.type_data.specs.Parameters.Printed.{written_touching}
use Rattle.type_data.specs.PrintedData.{AreItsWords, AreOfAType, PrintsData}
use Rattle.type_data.specs.Table.{Fields, FurtherType, further_of, further_type}
use Rattle.zone_words.specs.WordsLine.{AreWords, IsHead, generic_line, words_line}
use Rattle.zone_words.specs.Written.{generic_tokens}
use Rattle.words_print.specs.Machine.Found.{DoesNotFit, FoundIn, HasData, HasNoData, IsCanonicalLine, IsThatOf, with_octets}
use Rattle.words_print.specs.Shown.{EndsWithData, Fits, IsLineEnd, IsRecordInWords, IsShownLine, another_origin, gets_words, of_another, too_many_items, with_words}
use Rattle.words_print.specs.declared.generic_line.GenericLine.{GenericLine}

pub words_joined : (a b c d : List ℕ) → a ++ b ++ c ++ d ≡ a ++ (b ++ (c ++ d))
words_joined a b c d = append_assoc (a ++ b) c d ∙ append_assoc a b (c ++ d)

-- ---- the octets of the line

pub wanted_line : (stem zeroth first second third fourth text end : List ℕ) → zeroth ≡ [] → first ≡ zeroth ++ stem → second ≡ first ++ 32 ∷ [] → third ≡ second ++ text → fourth ≡ third ++ end → fourth ≡ stem ++ 32 ∷ (text ++ end)
wanted_line stem zeroth first second third fourth text end none one two three four =
    four ∙ ap (λ t. t ++ end) (three ∙ ap (λ t. t ++ text) (two ∙ ap (λ t. t ++ 32 ∷ []) (one ∙ ap (λ t. t ++ stem) none)))
    ∙ ap (λ t. t ++ end) (append_assoc stem (32 ∷ []) text) ∙ append_assoc stem (32 ∷ text) end

pub has_data : (line : List ℕ) (g : GenericLine) (octets : List ℕ) → FoundIn line g → AreOctets octets → line ≡ with_octets g octets → HasData line g octets
has_data line g octets found each same = record {
  class = found.class;
  before = record {
    ahead = g.ahead.now;
    word = g.class.now;
    whole = ap (λ t. t ++ 32 ∷ []) found.parted;
    parted = found.at_a_word;
    named = found.named;
    is = found.is;
  };
  row = found.row;
  has_type = found.has_type;
  each = each;
  whole = same ∙ sym (append_assoc g.stem.now (32 ∷ []) (text (generic_tokens (further_of g.further.now).number octets) ++ g.end.now)) ∙ sym (append_assoc (g.stem.now ++ 32 ∷ []) (text (generic_tokens (further_of g.further.now).number octets)) g.end.now);
  ends = found.ends;
}

with_octets_is : (line front : List ℕ) (further : FurtherType) (octets end : List ℕ) (g : GenericLine) → EndsWithData line front further octets end → IsThatOf g front further octets end → line ≡ with_octets g octets
with_octets_is line front further octets end g d that =
    d.whole
    ∙ append_assoc front (text (generic_tokens further.number octets)) end
    ∙ ap (λ t. t ++ (text (generic_tokens further.number octets) ++ end)) that.front_is
    ∙ append_assoc g.stem.now (32 ∷ []) (text (generic_tokens further.number octets) ++ end)
    ∙ ap (λ (f : FurtherType). g.stem.now ++ 32 ∷ (text (generic_tokens f.number octets) ++ end)) that.further_is
    ∙ ap (λ t. g.stem.now ++ 32 ∷ (text (generic_tokens (further_of g.further.now).number octets) ++ t)) that.end_is

digits_decode : (line front : List ℕ) (further : FurtherType) (octets end : List ℕ) (g : GenericLine) → EndsWithData line front further octets end → IsThatOf g front further octets end → decode_of g.digits.now ≡ Ok octets
digits_decode line front further octets end g d that = ap decode_of that.digits_are ∙ decode_of-encode_lower octets (each_below 256 octets (lit< tt) d.each)

pub no_octets : (line : List ℕ) (g : GenericLine) → FoundIn line g → ((octets : List ℕ) → decode_of g.digits.now ≡ Ok octets → ⊥) → HasNoData line
no_octets line g found none front further octets end d =
    none octets (digits_decode line front further octets end g d (found.only front further octets end d))

pub other_octets : (line : List ℕ) (g : GenericLine) (own : List ℕ) → FoundIn line g → decode_of g.digits.now ≡ Ok own → (line ≡ with_octets g own → ⊥) → HasNoData line
other_octets line g own found decoded other front further octets end d =
    let that = found.only front further octets end d in
    let same : Ok own ≡ Ok octets = sym decoded ∙ digits_decode line front further octets end g d that in
    other (with_octets_is line front further octets end g d that ∙ ap (with_octets g) (let e : octets ≡ own = cc same in e))

-- ---- a line of a canonical text

abbrev pub EntryLaw : Type 0
EntryLaw =
    (head : List ℕ) (class : ℕ) (further : FurtherType) (items : List TouchingItem) (octets : List ℕ) → IsHead head class
    → further_type further.number ≡ Some further → AreWords further.fields items octets
    → (tokens : List Token) × IsOneEntry (words_line head further items) tokens × IsSome (class_word (statement_of (entry_of 1 tokens)))

abbrev pub RewrittenLaw : Type 0
RewrittenLaw =
    (origin : Labels) (head : List ℕ) (class : ℕ) (further : FurtherType) (items : List TouchingItem) (octets : List ℕ) → IsHead head class
    → further_type further.number ≡ Some further → (further.in_internet_alone ≡ true → class ≡ in_class) → AreWords further.fields items octets
    → IsRewriting origin (words_line head further items) (generic_line head further octets) []

abbrev pub WordsLaw : Type 0
WordsLaw = (fields : Fields) (items : List TouchingItem) (octets : List ℕ) → AreOfAType fields → PrintsData fields items octets → AreWords fields items octets

ended_line : (end : List ℕ) → IsLineEnd end → end ≢ [] → end ≡ 10 ∷ []
ended_line end (inl none) some = absurd (some none)
ended_line end (inr feed) some = feed

head_whole : (stem ahead class owner ttl : List ℕ) → stem ≡ ahead ++ class → ahead ≡ owner ++ 32 ∷ (ttl ++ 32 ∷ []) → stem ++ 32 ∷ [] ≡ owner ++ 32 ∷ (ttl ++ 32 ∷ (class ++ 32 ∷ []))
head_whole stem ahead class owner ttl parted before =
    ap (λ t. t ++ 32 ∷ []) (parted ∙ ap (λ t. t ++ class) before)
    ∙ append_assoc (owner ++ 32 ∷ (ttl ++ 32 ∷ [])) class (32 ∷ [])
    ∙ append_assoc owner (32 ∷ (ttl ++ 32 ∷ [])) (class ++ 32 ∷ [])
    ∙ ap (λ t. owner ++ 32 ∷ t) (append_assoc ttl (32 ∷ []) (class ++ 32 ∷ []))

is_head : (line : List ℕ) (g : GenericLine) (found : FoundIn line g) → IsCanonicalLine g → IsHead (g.stem.now ++ 32 ∷ []) found.class
is_head line g found is = record {
  owner = is.before.owner;
  ttl = is.before.ttl;
  word = g.class.now;
  whole = head_whole g.stem.now g.ahead.now g.class.now is.before.owner is.before.ttl found.parted is.before.whole;
  owner_stands = is.before.owner_stands;
  no_directive = is.before.no_directive;
  ttl_stands = is.before.ttl_stands;
  seconds = is.before.seconds;
  is_ttl = is.before.is_ttl;
  word_stands = is.class_stands;
  is_word = found.named;
  is_class = found.is;
}

pub in_words_there : (head line shown : List ℕ) (class : ℕ) (further : FurtherType) (items : List TouchingItem) (octets : List ℕ) → EntryLaw → RewrittenLaw → IsHead head class → further_type further.number ≡ Some further → (further.in_internet_alone ≡ true → class ≡ in_class) → AreWords further.fields items octets → generic_line head further octets ≡ line → words_line head further items ≡ shown → IsRecordInWords line shown
in_words_there head line shown class further items octets entry rewritten is row has_type words line_is shown_is =
    let one = entry head class further items octets is row words in
    subst (λ l. IsRecordInWords l shown) line_is (subst (IsRecordInWords (generic_line head further octets)) shown_is (record {
      states = record { tokens = one.0; one = one.1; class = one.2 };
      under_root = rewritten [] head class further items octets is row has_type words;
      under_another = rewritten another_origin head class further items octets is row has_type words;
    }))

pub canonical_fits : (line : List ℕ) (g : GenericLine) (octets : List ℕ) (items : List TouchingItem) → EntryLaw → RewrittenLaw → WordsLaw → FoundIn line g → HasData line g octets → PrintsData (further_of g.further.now).fields items octets → IsCanonicalLine g → Fits line (with_words (g.stem.now ++ 32 ∷ []) (further_of g.further.now) items g.end.now)
canonical_fits line g octets items entry rewritten words found ends_so printed is =
    let further : FurtherType = further_of g.further.now in
    let head : List ℕ = g.stem.now ++ 32 ∷ [] in
    let end_is : g.end.now ≡ 10 ∷ [] = ended_line g.end.now found.ends is.ended in
    let words_are : AreWords further.fields items octets = words further.fields items octets (record { further = further; row = found.row; are = refl }) printed in
    λ _. in_words_there head line (with_words head further items g.end.now) found.class further items octets entry rewritten (is_head line g found is) found.row found.has_type words_are
    (ap (λ t. head ++ (text (generic_tokens further.number octets) ++ t)) (sym end_is) ∙ sym (ends_so.whole ∙ append_assoc head (text (generic_tokens further.number octets)) g.end.now))
    (ap (λ t. head ++ (further.mnemonic ++ (written_touching items ++ t))) (sym end_is) ∙ sym (words_joined head further.mnemonic (written_touching items) g.end.now))

-- ---- what is shown

pub line_shown : (line shown words : List ℕ) (g : GenericLine) (octets : List ℕ) (its : AreItsWords (further_of g.further.now).fields octets words) → HasData line g octets → shown ≡ (g.stem.now ++ 32 ∷ []) ++ (g.further.now.mnemonic.now ++ (words ++ g.end.now)) → Fits line shown → IsShownLine line shown
line_shown line shown words g octets its ends_so is fits =
    let same : shown ≡ with_words (g.stem.now ++ 32 ∷ []) (further_of g.further.now) its.items g.end.now =
    is ∙ ap (λ t. (g.stem.now ++ 32 ∷ []) ++ (g.further.now.mnemonic.now ++ (t ++ g.end.now))) its.written ∙ sym (words_joined (g.stem.now ++ 32 ∷ []) g.further.now.mnemonic.now (written_touching its.items) g.end.now) in
    gets_words (g.stem.now ++ 32 ∷ []) (further_of g.further.now) octets g.end.now its.items ends_so its.printed (subst (Fits line) same fits) same

pub line_stays : (line shown words : List ℕ) (g : GenericLine) (octets : List ℕ) (its : AreItsWords (further_of g.further.now).fields octets words) → HasData line g octets → shown ≡ (g.stem.now ++ 32 ∷ []) ++ (g.further.now.mnemonic.now ++ (words ++ g.end.now)) → DoesNotFit line shown → IsShownLine line line
line_stays line shown words g octets its ends_so is (inl another) =
    let same : shown ≡ with_words (g.stem.now ++ 32 ∷ []) (further_of g.further.now) its.items g.end.now =
    is ∙ ap (λ t. (g.stem.now ++ 32 ∷ []) ++ (g.further.now.mnemonic.now ++ (t ++ g.end.now))) its.written ∙ sym (words_joined (g.stem.now ++ 32 ∷ []) g.further.now.mnemonic.now (written_touching its.items) g.end.now) in
    of_another (g.stem.now ++ 32 ∷ []) (further_of g.further.now) octets g.end.now its.items ends_so its.printed another.0 (subst (λ s. IsRecordInWords line s → ⊥) same another.1) refl
line_stays line shown words g octets its ends_so is (inr many) = too_many_items many refl

pub fits_if_canonical : (line shown words : List ℕ) (g : GenericLine) (octets : List ℕ) (its : AreItsWords (further_of g.further.now).fields octets words) → EntryLaw → RewrittenLaw → WordsLaw → FoundIn line g → HasData line g octets → shown ≡ (g.stem.now ++ 32 ∷ []) ++ (g.further.now.mnemonic.now ++ (words ++ g.end.now)) → IsCanonicalLine g → Fits line shown
fits_if_canonical line shown words g octets its entry rewritten law found ends_so is canonical =
    subst (Fits line) (sym (is ∙ ap (λ t. (g.stem.now ++ 32 ∷ []) ++ (g.further.now.mnemonic.now ++ (t ++ g.end.now))) its.written ∙ sym (words_joined (g.stem.now ++ 32 ∷ []) g.further.now.mnemonic.now (written_touching its.items) g.end.now)))
    (canonical_fits line g octets its.items entry rewritten law found ends_so its.printed canonical)
