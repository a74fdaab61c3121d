-- A line ends with data of a further type in one way.
use Rattle.std.proofs.Common.{◌≡◌, ◌≢◌, ℕ, ◌<◌, ◌==◌, ◌||◌, inl, inr, Bool, true, not, List, [], ◌∷◌, ◌++◌, length, refl, ap, arith, sym, subst, ◌∙◌, append_assoc, append-nil}
use Rattle.type_data.proofs.FurtherWords.{numbered}
use Rattle.hex.specs.Hex.{encode_lower}
unfoldable use Rattle.hex.specs.Hex.{encode_with}
use Rattle.std.proofs.lemmas.Bool.{false≢true}
use Rattle.std.proofs.lemmas.Bool.Decides.{nat_tests}
use Rattle.std.specs.List.{AllByRecursion, list_all}
use Rattle.std.specs.Prelude.{◌^◌, IfNone, None, Option, Some, codes, decimal, nat_lt}
use Rattle.zone_name.proofs.InOctets.Pushing.{AllByRecursion-append}
use Rattle.zone_name.specs.Name.{folded_label, folded_octet}
use Rattle.zone_name.specs.Spelling.{is_digit}
use Rattle.zone_rdata.proofs.Items.GenericLaws.{decimal-is}
use Rattle.zone_rdata.proofs.Words.OneWord.{class_word_once}
use Rattle.zone_rdata.proofs.Words.Tables.{each_mnemonic, found_each}
use Rattle.zone_rdata.specs.Table.{classes, in_class}
use Rattle.zone_rdata.specs.Words.{IsClass, IsClassWord, by_mnemonic, by_number}
use Rattle.zone_text.specs.Tokens.{ends_item, text, token_text}
use Rattle.type_data.proofs.FurtherWords.{further_word_once}
use Rattle.zone_words.proofs.Walks.{word_text}
use Rattle.zone_words.proofs.WrittenWords.{ArePlain, IsPlain, plain_decimal, plain_hex}
use Rattle.type_data.specs.Table.{FurtherType, IsFurtherWord, further_of, further_type, further_types}
use Rattle.zone_words.specs.Written.{digit_tokens, generic_tokens, word}
use Rattle.words_print.proofs.Cuts.{IsSpace, NoneOf, SameCut, none_same, one_first, one_last}
use Rattle.words_print.specs.Machine.Found.{FoundIn, HasNoData, HasNoFeedAtEnd, HasNoSpace, HasNone, IsAroundLast, IsCut, IsWithoutFeed, digit_text, form_of}
use Rattle.words_print.specs.Shown.{EndsWithData, IsAtAWord, IsLineEnd}
use Rattle.words_print.specs.declared.generic_line.GenericLine.{GenericLine}

-- ---- the text of a type and octets in the generic form

abbrev pub type_text : ℕ → List ℕ
type_text number = codes "TYPE" ++ decimal number

digits_text : (octets : List ℕ) → text (digit_tokens octets) ≡ digit_text octets
digits_text [] = refl
digits_text (c ∷ octets) = ap (λ t. 32 ∷ t) (append-nil (token_text (word (encode_lower (c ∷ octets)))) ∙ word_text (encode_lower (c ∷ octets)))

pub data_text : (number : ℕ) (octets : List ℕ) → text (generic_tokens number octets) ≡ type_text number ++ 32 ∷ 92 ∷ form_of octets
data_text number octets =
    ap (λ t. t ++ (32 ∷ 92 ∷ 35 ∷ 32 ∷ (token_text (word (decimal (length octets))) ++ text (digit_tokens octets)))) (word_text (type_text number))
    ∙ ap (λ t. type_text number ++ (32 ∷ 92 ∷ 35 ∷ 32 ∷ (t ++ text (digit_tokens octets)))) (word_text (decimal (length octets)))
    ∙ ap (λ t. type_text number ++ (32 ∷ 92 ∷ 35 ∷ 32 ∷ (decimal (length octets) ++ t))) (digits_text octets)

-- what none of its octets is
plain_none : (c : ℕ) → ends_item c ≡ true → (octets : List ℕ) → ArePlain octets → HasNone c octets
plain_none c ends [] each = tt
plain_none c ends (d ∷ octets) each = (λ same. false≢true (sym each.0.0 ∙ ap ends_item same ∙ ends), plain_none c ends octets each.1)

plain_backslash : (octets : List ℕ) → ArePlain octets → HasNone 92 octets
plain_backslash [] each = tt
plain_backslash (d ∷ octets) each = (each.0.1, plain_backslash octets each.1)

plain_type : (number : ℕ) → ArePlain (type_text number)
plain_type number = AllByRecursion-append IsPlain (codes "TYPE") (decimal number) (grind arith) (plain_decimal number)

type_no_blank : (number : ℕ) → HasNone 32 (type_text number)
type_no_blank number = plain_none 32 refl (type_text number) (plain_type number)

-- an octet that neither a blank is nor one of a word
form_none : (c : ℕ) → (32 ≡ c → ⊥) → (35 ≡ c → ⊥) → ((octets : List ℕ) → ArePlain octets → HasNone c octets) → (octets : List ℕ) → HasNone c (form_of octets)
form_none c space mark none [] = (mark, (space, AllByRecursion-append (λ d. d ≢ c) (decimal 0) [] (none (decimal 0) (plain_decimal 0)) tt))
form_none c space mark none (o ∷ octets) = (
  mark,
  (
    space,
    AllByRecursion-append (λ d. d ≢ c) (decimal (length (o ∷ octets))) (digit_text (o ∷ octets)) (none (decimal (length (o ∷ octets))) (plain_decimal (length (o ∷ octets))))
        (space, none (encode_lower (o ∷ octets)) (plain_hex (o ∷ octets))),
  ),
)

form_no_backslash : (octets : List ℕ) → HasNone 92 (form_of octets)
form_no_backslash = form_none 92 (λ e. absurd (omega (arith, e))) (λ e. absurd (omega (arith, e))) plain_backslash

form_no_feed : (octets : List ℕ) → HasNone 10 (form_of octets)
form_no_feed = form_none 10 (λ e. absurd (omega (arith, e))) (λ e. absurd (omega (arith, e))) (plain_none 10 refl)

-- ---- the digits in it

no_blank_number : (octets : List ℕ) → HasNone 32 (decimal (length octets))
no_blank_number octets = plain_none 32 refl (decimal (length octets)) (plain_decimal (length octets))

pub mark_alone : (octets front back : List ℕ) → form_of octets ≡ front ++ 32 ∷ back → HasNone 32 front → back ≡ decimal (length octets) ++ digit_text octets
mark_alone octets front back same none =
    sym (one_first (λ d. d ≡ 32) (35 ∷ []) front (decimal (length octets) ++ digit_text octets) back 32 32 refl refl (λ e. absurd (omega (arith, e)), tt) none same).back

pub no_mark : (octets form : List ℕ) → form ≡ form_of octets → HasNone 32 form → ⊥
no_mark octets form same none = none_same (λ d. d ≡ 32) form (35 ∷ []) 32 (decimal (length octets) ++ digit_text octets) refl none same

pub digits_behind : (octets number front back : List ℕ) → number ≡ decimal (length octets) ++ digit_text octets → number ≡ front ++ 32 ∷ back → HasNone 32 front → back ≡ encode_lower octets
digits_behind [] number front back is same none =
    absurd (none_same (λ d. d ≡ 32) (decimal 0) front 32 back refl (no_blank_number []) (sym (append-nil (decimal 0)) ∙ sym is ∙ same))
digits_behind (o ∷ octets) number front back is same none =
    sym (one_first (λ d. d ≡ 32) (decimal (length (o ∷ octets))) front (encode_lower (o ∷ octets)) back 32 32 refl refl (no_blank_number (o ∷ octets)) none (sym is ∙ same)).back

no_digits : encode_lower [] ≡ []
unfolding encode_with
no_digits = refl

pub no_digits_behind : (octets number : List ℕ) → number ≡ decimal (length octets) ++ digit_text octets → HasNone 32 number → [] ≡ encode_lower octets
no_digits_behind [] number is none = sym no_digits
no_digits_behind (o ∷ octets) number is none = absurd (none_same (λ d. d ≡ 32) number (decimal (length (o ∷ octets))) 32 (encode_lower (o ∷ octets)) refl none is)

-- ---- the end of a line

not_nil : (a : List ℕ) (c : ℕ) (b : List ℕ) → [] ≡ a ++ c ∷ b → ⊥
not_nil [] c b same = absurd cc
not_nil (x ∷ a) c b same = absurd cc

feed_at_end : (octets front end : List ℕ) → HasNone 10 end → 0 < length end → octets ≡ front ++ end → HasNoFeedAtEnd octets
feed_at_end octets [] end none some same a is = none_same (λ d. d ≡ 10) end a 10 [] refl none (sym same ∙ is)
feed_at_end octets (x ∷ front) end none some same [] is =
    let bad : front ++ end ≡ [] = (let e : x ∷ (front ++ end) ≡ 10 ∷ [] = sym same ∙ is in cc e) in
    no_such front end some bad
  where
    no_such : (front end : List ℕ) → 0 < length end → front ++ end ≡ [] → ⊥
    no_such [] [] some bad = absurd (omega (arith, some))
    no_such [] (c ∷ end) some bad = absurd cc
    no_such (x ∷ front) end some bad = absurd cc
feed_at_end octets (x ∷ front) end none some same (y ∷ a) is =
    let e : x ∷ (front ++ end) ≡ y ∷ (a ++ 10 ∷ []) = sym same ∙ is in
    feed_at_end (front ++ end) front end none some refl a (cc e)

record SameEnd (a b d e : List ℕ) : Type 0 where
  pub octets : a ≡ d
  pub end : b ≡ e

same_end : (line a b d e : List ℕ) → IsWithoutFeed line a b → IsWithoutFeed line d e → SameEnd a b d e
same_end line a b d e p q = by_ends p.ends q.ends
  where
    both : line ≡ a ++ b → line ≡ d ++ e → a ++ b ≡ d ++ e
    both x y = sym x ∙ y

    by_ends : IsLineEnd b → IsLineEnd e → SameEnd a b d e
    by_ends (inl no_b) (inl no_e) = record {
      octets = sym (ap (λ t. a ++ t) no_b ∙ append-nil a) ∙ both p.whole q.whole ∙ ap (λ t. d ++ t) no_e ∙ append-nil d;
      end = no_b ∙ sym no_e;
    }
    by_ends (inl no_b) (inr some_e) = absurd (p.last no_b d (sym (ap (λ t. a ++ t) no_b ∙ append-nil a) ∙ both p.whole q.whole ∙ ap (λ t. d ++ t) some_e))
    by_ends (inr some_b) (inl no_e) = absurd (q.last no_e a (sym (ap (λ t. d ++ t) no_e ∙ append-nil d) ∙ sym (both p.whole q.whole) ∙ ap (λ t. a ++ t) some_b))
    by_ends (inr some_b) (inr some_e) = record {
      octets = (one_last (λ c. c ≡ 10) a d [] [] 10 10 refl refl tt tt (ap (λ t. a ++ t) (sym some_b) ∙ both p.whole q.whole ∙ ap (λ t. d ++ t) some_e)).front;
      end = some_b ∙ sym some_e;
    }

-- ---- the cut of a line

pub record SameLineCut (stem word form end stem' word' form' end' : List ℕ) : Type 0 where
  pub stem_is : stem ≡ stem'
  pub word_is : word ≡ word'
  pub form_is : form ≡ form'
  pub end_is : end ≡ end'

pub same_before : (line stem word form end octets end' before form' : List ℕ) → IsCut line stem word form end → IsWithoutFeed line octets end' → octets ≡ before ++ 92 ∷ form' → HasNone 92 form' → SameCut ((stem ++ 32 ∷ word) ++ 32 ∷ []) before form form'
same_before line stem word form end octets end' before form' cut ended parted none =
    let same = same_end line cut.octets end octets end' cut.ended ended in
    one_last (λ d. d ≡ 92) ((stem ++ 32 ∷ word) ++ 32 ∷ []) before form form' 92 92 refl refl cut.no_backslash none (sym cut.parted ∙ same.octets ∙ parted)

pub no_before : (line stem word form end octets end' : List ℕ) → IsCut line stem word form end → IsWithoutFeed line octets end' → HasNone 92 octets → ⊥
no_before line stem word form end octets end' cut ended none =
    let same = same_end line cut.octets end octets end' cut.ended ended in
    none_same (λ d. d ≡ 92) octets ((stem ++ 32 ∷ word) ++ 32 ∷ []) 92 form refl none (sym same.octets ∙ cut.parted)

pub same_worded : (a before worded back : List ℕ) → a ++ 32 ∷ [] ≡ before → before ≡ worded ++ 32 ∷ back → HasNone 32 back → SameCut a worded [] back
same_worded a before worded back is parted none = one_last (λ d. d ≡ 32) a worded [] back 32 32 refl refl tt none (is ∙ parted)

pub cut_once : (line stem word form end stem' word' form' end' : List ℕ) → IsCut line stem word form end → IsCut line stem' word' form' end' → SameLineCut stem word form end stem' word' form' end'
cut_once line stem word form end stem' word' form' end' p q =
    let ends = same_end line p.octets end q.octets end' p.ended q.ended in
    let first = same_before line stem word form end q.octets end' ((stem' ++ 32 ∷ word') ++ 32 ∷ []) form' p q.ended q.parted q.no_backslash in
    let second = same_worded (stem ++ 32 ∷ word) _ (stem' ++ 32 ∷ word') [] first.front refl tt in
    let third = one_last (λ d. d ≡ 32) stem stem' word word' 32 32 refl refl p.no_blank q.no_blank second.front in
    record { stem_is = third.front; word_is = third.back; form_is = first.back; end_is = ends.end }

-- ---- data at the end of a line is such a cut

pub record IsCutData (line front : List ℕ) (number : ℕ) (octets end : List ℕ) : Type 0 where
  pub stem : List ℕ
  pub front_is : front ≡ stem ++ 32 ∷ []
  pub cut : IsCut line stem (type_text number) (form_of octets) end

front_stem : (ahead word stem : List ℕ) → stem ≡ ahead ++ word → ahead ++ word ++ 32 ∷ [] ≡ stem ++ 32 ∷ []
front_stem ahead word stem is = ap (λ t. t ++ 32 ∷ []) (sym is)

octets_parted : (stem word form : List ℕ) → (stem ++ 32 ∷ []) ++ (word ++ 32 ∷ 92 ∷ form) ≡ ((stem ++ 32 ∷ word) ++ 32 ∷ []) ++ 92 ∷ form
octets_parted stem word form =
    append_assoc stem (32 ∷ []) (word ++ 32 ∷ 92 ∷ form)
    ∙ sym (append_assoc (stem ++ 32 ∷ word) (32 ∷ []) (92 ∷ form) ∙ append_assoc stem (32 ∷ word) (32 ∷ 92 ∷ form))

some_form : (number : ℕ) (octets : List ℕ) → 0 < length (35 ∷ 32 ∷ (decimal (length octets) ++ digit_text octets))
some_form number octets = omega arith

pub data_cut : (line front : List ℕ) (further : FurtherType) (octets end : List ℕ) → EndsWithData line front further octets end → IsCutData line front further.number octets end
data_cut line front further octets end d =
    let stem : List ℕ = d.before.ahead ++ d.before.word in
    let front_is : front ≡ stem ++ 32 ∷ [] = d.before.whole ∙ front_stem d.before.ahead d.before.word stem refl in
    let whole : front ++ text (generic_tokens further.number octets) ≡ ((stem ++ 32 ∷ type_text further.number) ++ 32 ∷ []) ++ 92 ∷ form_of octets =
    (ap (λ t. t ++ text (generic_tokens further.number octets)) front_is ∙ ap (λ t. (stem ++ 32 ∷ []) ++ t) (data_text further.number octets) ∙ octets_parted stem (type_text further.number) (form_of octets)) in
    record {
      stem = stem;
      front_is = front_is;
      cut = record {
        octets = front ++ text (generic_tokens further.number octets);
        ended = record {
          whole = d.whole;
          ends = d.ends;
          last = λ none. feed_at_end (front ++ text (generic_tokens further.number octets)) (((stem ++ 32 ∷ type_text further.number) ++ 32 ∷ []) ++ 92 ∷ []) (form_of octets) (form_no_feed octets) (some_form further.number octets) (whole ∙ sym (append_assoc ((stem ++ 32 ∷ type_text further.number) ++ 32 ∷ []) (92 ∷ []) (form_of octets)));
        };
        parted = whole;
        no_backslash = form_no_backslash octets;
        no_blank = type_no_blank further.number;
      };
    }

-- ---- the class word before it

space_folds : (c : ℕ) → IsSpace c → IsSpace (folded_octet c)
space_folds c (inl e) = inl (ap folded_octet e)
space_folds c (inr e) = inr (ap folded_octet e)

unfolded_space : (word : List ℕ) → NoneOf IsSpace (folded_label word) → HasNoSpace word
unfolded_space [] none = tt
unfolded_space (c ∷ word) none = (λ is. none.0 (space_folds c is), unfolded_space word none.1)

abbrev is_space : ℕ → Bool
is_space c = c == 32 || c == 9

no_space : (octets : List ℕ) → list_all (λ c. not (is_space c)) octets ≡ true → NoneOf IsSpace octets
no_space [] all = tt
no_space (c ∷ octets) all = (grind (arith, nat_tests), no_space octets (grind (arith, nat_tests)))

digits_no_space : (digits : List ℕ) → AllByRecursion (λ c. is_digit c ≡ true) digits → HasNoSpace digits
digits_no_space [] each = tt
digits_no_space (c ∷ digits) each = (by_tests c each.0, digits_no_space digits each.1)
  where
    by_tests : (c : ℕ) → is_digit c ≡ true → IsSpace c → ⊥
    by_tests c is (inl e) = false≢true (sym (ap is_digit e) ∙ is)
    by_tests c is (inr e) = false≢true (sym (ap is_digit e) ∙ is)

pub class_no_space : (word : List ℕ) (n : ℕ) → IsClassWord word n → HasNoSpace word
class_no_space word n (by_mnemonic is) =
    unfolded_space word (subst (NoneOf IsSpace) (sym is.same)
    (no_space (folded_label is.name) (each_mnemonic (λ _ m. list_all (λ c. not (is_space c)) (folded_label m)) classes refl n is.name is.row)))
class_no_space word n (by_number is) =
    subst HasNoSpace (sym is.parts) (AllByRecursion-append (λ c. IsSpace c → ⊥) is.front is.digits
    (unfolded_space is.front (subst (NoneOf IsSpace) (sym is.named) (no_space (folded_label (codes "CLASS")) refl)))
    (digits_no_space is.digits is.number.digits))

-- the last word
pub one_word : (ahead word front back : List ℕ) → IsAtAWord ahead → IsAtAWord front → HasNoSpace word → HasNoSpace back → ahead ++ word ≡ front ++ back → word ≡ back
one_word ahead word front back (inl nil) (inl none) p q same = sym (ap (λ t. t ++ word) nil) ∙ same ∙ ap (λ t. t ++ back) none
one_word ahead word front back (inl nil) (inr some) p q same =
    absurd (none_same IsSpace word some.0 some.1 back some.2 p (sym (ap (λ t. t ++ word) nil) ∙ same ∙ ap (λ t. t ++ back) some.3 ∙ append_assoc some.0 (some.1 ∷ []) back))
one_word ahead word front back (inr some) (inl nil) p q same =
    absurd (none_same IsSpace back some.0 some.1 word some.2 q (sym (ap (λ t. t ++ back) nil) ∙ sym same ∙ ap (λ t. t ++ word) some.3 ∙ append_assoc some.0 (some.1 ∷ []) word))
one_word ahead word front back (inr one) (inr two) p q same =
    (one_last IsSpace one.0 two.0 word back one.1 two.1 one.2 two.2 p q
    (sym (ap (λ t. t ++ word) one.3 ∙ append_assoc one.0 (one.1 ∷ []) word) ∙ same ∙ ap (λ t. t ++ back) two.3 ∙ append_assoc two.0 (two.1 ∷ []) back)).back

-- ---- the data at the end of a line that is cut

pub type_is_further : (further : FurtherType) → further_type further.number ≡ Some further → IsFurtherWord (type_text further.number) further
type_is_further further row =
    let short : further.number < 65536 = (numbered further.number further row).1 in
    let low : further.number < 2 ^ 64 = omega arith in
    record {
      named = by_number (record { front = codes "TYPE"; digits = decimal further.number; parts = refl; named = refl; number = decimal-is further.number low });
      row = row;
    }

pub record IsDataIn (stem class word form end front : List ℕ) (further : FurtherType) (octets behind : List ℕ) : Type 0 where
  pub number : ℕ
  pub named : IsClassWord class number
  pub is : IsClass number
  pub has_type : further.in_internet_alone ≡ true → number ≡ in_class
  pub front_is : front ≡ stem ++ 32 ∷ []
  pub word_is : IsFurtherWord word further
  pub form_is : form ≡ form_of octets
  pub end_is : behind ≡ end

pub data_in : (line stem class word form end ahead front : List ℕ) (further : FurtherType) (octets behind : List ℕ) → IsCut line stem word form end → stem ≡ ahead ++ class → IsAtAWord ahead → HasNoSpace class → EndsWithData line front further octets behind → IsDataIn stem class word form end front further octets behind
data_in line stem class word form end ahead front further octets behind cut parted at none d =
    let own = data_cut line front further octets behind d in
    let same = cut_once line stem word form end own.stem (type_text further.number) (form_of octets) behind cut own.cut in
    let front_is : front ≡ stem ++ 32 ∷ [] = own.front_is ∙ ap (λ t. t ++ 32 ∷ []) (sym same.stem_is) in
    let stems : d.before.ahead ++ d.before.word ≡ stem =
    (one_last (λ c. c ≡ 32) (d.before.ahead ++ d.before.word) stem [] [] 32 32 refl refl tt tt (sym (front_stem d.before.ahead d.before.word (d.before.ahead ++ d.before.word) refl) ∙ sym d.before.whole ∙ front_is)).front in
    let class_is : d.before.word ≡ class = one_word d.before.ahead d.before.word ahead class d.before.parted at (class_no_space d.before.word d.class d.before.named) none (stems ∙ parted) in
    record {
      number = d.class;
      named = subst (λ w. IsClassWord w d.class) class_is d.before.named;
      is = d.before.is;
      has_type = d.has_type;
      front_is = front_is;
      word_is = subst (λ w. IsFurtherWord w further) (sym same.word_is) (type_is_further further d.row);
      form_is = same.form_is;
      end_is = sym same.end_is;
    }

pub only_that : (line stem class word form end ahead digits : List ℕ) (found : FurtherType) → IsCut line stem word form end → stem ≡ ahead ++ class → IsAtAWord ahead → HasNoSpace class → IsFurtherWord word found → ((octets : List ℕ) → form ≡ form_of octets → digits ≡ encode_lower octets) → (front : List ℕ) (further : FurtherType) (octets behind : List ℕ) → EndsWithData line front further octets behind → (front ≡ stem ++ 32 ∷ []) × (further ≡ found) × (behind ≡ end) × (digits ≡ encode_lower octets)
only_that line stem class word form end ahead digits found cut parted at none named read front further octets behind d =
    let own = data_in line stem class word form end ahead front further octets behind cut parted at none d in
    (own.front_is, further_word_once word further found own.word_is named, own.end_is, read octets own.form_is)

pub form_digits : (octets others : List ℕ) → form_of octets ≡ form_of others → encode_lower octets ≡ encode_lower others
form_digits octets [] same = sym (no_digits_behind octets (decimal 0) (let e : decimal (length octets) ++ digit_text octets ≡ decimal 0 ++ [] = cc same in sym (e ∙ append-nil (decimal 0))) (no_blank_number [])) ∙ sym no_digits
form_digits octets (o ∷ others) same =
    sym (digits_behind octets (decimal (length (o ∷ others)) ++ digit_text (o ∷ others)) (decimal (length (o ∷ others))) (encode_lower (o ∷ others)) (let e : decimal (length octets) ++ digit_text octets ≡ decimal (length (o ∷ others)) ++ digit_text (o ∷ others) = cc same in sym e) refl (no_blank_number (o ∷ others)))

-- ---- how a line is cut

last_same : (a b : List ℕ) (c d : ℕ) → a ++ c ∷ [] ≡ b ++ d ∷ [] → c ≡ d
last_same [] [] c d same = cc same
last_same [] (y ∷ b) c d same = absurd (not_nil b d [] (cc same))
last_same (x ∷ a) [] c d same = absurd (not_nil a c [] (let e : a ++ c ∷ [] ≡ [] = cc same in sym e))
last_same (x ∷ a) (y ∷ b) c d same = last_same a b c d (cc same)

pub without_feed : (line octets : List ℕ) (last : ℕ) → line ≡ octets ++ last ∷ [] → last ≡ 10 → IsWithoutFeed line octets (10 ∷ [])
without_feed line octets last whole feed = record {
  whole = whole ∙ ap (λ c. octets ++ c ∷ []) feed;
  ends = inr refl;
  last = λ none. absurd cc;
}

pub with_none : (line octets : List ℕ) (last : ℕ) → line ≡ octets ++ last ∷ [] → (last ≡ 10 → ⊥) → IsWithoutFeed line line []
with_none line octets last whole other = record {
  whole = sym (append-nil line);
  ends = inl refl;
  last = λ _ front is. other (last_same octets front last 10 (sym whole ∙ is));
}

pub with_nothing : (line : List ℕ) → length line ≡ 0 → IsWithoutFeed line line []
with_nothing [] none = record { whole = refl; ends = inl refl; last = λ _ front is. not_nil front 10 [] is }
with_nothing (c ∷ line) none = absurd (omega (arith, none))

pub cut_is : (line octets end before form worded back stem word : List ℕ) → IsWithoutFeed line octets end → IsAroundLast 92 octets before form → IsAroundLast 32 before worded back → back ≡ [] → IsAroundLast 32 worded stem word → IsCut line stem word form end
cut_is line octets end before form worded back stem word ended one two none three = record {
  octets = octets;
  ended = ended;
  parted = one.whole ∙ ap (λ t. t ++ 92 ∷ form) (two.whole ∙ ap (λ t. worded ++ 32 ∷ t) none ∙ ap (λ t. t ++ 32 ∷ []) three.whole);
  no_backslash = one.none;
  no_blank = three.none;
}

module _ (line octets end before form : List ℕ) (ended : IsWithoutFeed line octets end) (one : IsAroundLast 92 octets before form) (stem word form' end' : List ℕ) (cut : IsCut line stem word form' end') where
  pub no_worded : HasNone 32 before → ⊥
  no_worded none =
      let same = same_before line stem word form' end' octets end before form cut ended one.whole one.none in
      none_same (λ d. d ≡ 32) before (stem ++ 32 ∷ word) 32 [] refl none (sym same.front)

  pub nothing_back : (worded back : List ℕ) → IsAroundLast 32 before worded back → (back ≡ [] → ⊥) → ⊥
  nothing_back worded back two some =
      let same = same_before line stem word form' end' octets end before form cut ended one.whole one.none in
      some (sym (same_worded (stem ++ 32 ∷ word) before worded back same.front two.whole two.none).back)

  pub no_stem : (worded back : List ℕ) → IsAroundLast 32 before worded back → HasNone 32 worded → ⊥
  no_stem worded back two none =
      let same = same_before line stem word form' end' octets end before form cut ended one.whole one.none in
      let again = same_worded (stem ++ 32 ∷ word) before worded back same.front two.whole two.none in
      none_same (λ d. d ≡ 32) worded stem 32 word refl none (sym again.front)

-- ---- what is found

pub no_cut_no_data : (line : List ℕ) → ((stem word form end : List ℕ) → IsCut line stem word form end → ⊥) → HasNoData line
no_cut_no_data line none front further octets end d =
    let own = data_cut line front further octets end d in
    none own.stem (type_text further.number) (form_of octets) end own.cut

module _ (line stem class word form end ahead : List ℕ) (cut : IsCut line stem word form end) (parted : stem ≡ ahead ++ class) (at : IsAtAWord ahead) (none : HasNoSpace class) where
  pub no_class : ((n : ℕ) → IsClassWord class n → IsClass n → ⊥) → HasNoData line
  no_class other front further octets behind d =
      let own = data_in line stem class word form end ahead front further octets behind cut parted at none d in
      other own.number own.named own.is

  pub no_type : ((further : FurtherType) → IsFurtherWord word further → ⊥) → HasNoData line
  no_type other front further octets behind d =
      let own = data_in line stem class word form end ahead front further octets behind cut parted at none d in
      other further own.word_is

  pub no_such_class : (number : ℕ) (found : FurtherType) → IsClassWord class number → IsFurtherWord word found → found.in_internet_alone ≡ true → (number ≡ 1 → ⊥) → HasNoData line
  no_such_class number found named is alone other front further octets behind d =
      let own = data_in line stem class word form end ahead front further octets behind cut parted at none d in
      let same : further ≡ found = further_word_once word further found own.word_is is in
      other (class_word_once class number own.number named own.named ∙ own.has_type (ap (λ (f : FurtherType). f.in_internet_alone) same ∙ alone))

pub found_in : (line word form : List ℕ) (g : GenericLine) (class : ℕ) → IsCut line g.stem.now word form g.end.now → g.stem.now ≡ g.ahead.now ++ g.class.now → IsAtAWord g.ahead.now → HasNoSpace g.class.now → IsClassWord g.class.now class → IsClass class → IsFurtherWord word (further_of g.further.now) → ((further_of g.further.now).in_internet_alone ≡ true → class ≡ in_class) → ((octets : List ℕ) → form ≡ form_of octets → g.digits.now ≡ encode_lower octets) → FoundIn line g
found_in line word form g class cut parted at none named is word_is has_type read = record {
  class = class;
  parted = parted;
  at_a_word = at;
  named = named;
  is = is;
  row = word_is.row;
  has_type = has_type;
  ends = cut.ended.ends;
  only = λ front further octets behind d.
      let that = only_that line g.stem.now g.class.now word form g.end.now g.ahead.now g.digits.now (further_of g.further.now) cut parted at none word_is read front further octets behind d in
      record { front_is = that.0; further_is = that.1; end_is = that.2; digits_are = that.3 };
}

pub none_weaker : {A : Type 0} {P Q : Type 0} (o : Option A) → IfNone o P → (P → Q) → IfNone o Q
none_weaker None p goes = goes p
none_weaker (Some a) p goes = tt
