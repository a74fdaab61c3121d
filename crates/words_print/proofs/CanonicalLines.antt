-- A line of a canonical text is shown in the words of its data, where it has any.
use Rattle.std.proofs.Common.{◌≡◌, ℕ, ◌+◌, ◌≤◌, inl, inr, List, [], ◌∷◌, ◌++◌, length, Ok, true, refl, ap, arith, lit<, sym, subst, ◌∙◌, append_assoc}
use Rattle.std.specs.List.{flat_map}
use Rattle.std.specs.Prelude.{Some, codes, decimal}
use Rattle.hex.proofs.HexLemmas.{decode_of-encode_lower}
use Rattle.hex.specs.Hex.{decode_of, encode_lower}
use Rattle.zone_name.specs.Common.{AreOctets}
use Rattle.zone_rdata.proofs.Lists.{each_below}
use Rattle.zone_rdata.specs.Generic.{generic_items}
use Rattle.zone_rdata.specs.Item.{bare}
use Rattle.zone_rdata.specs.Table.{in_class}
use Rattle.zone_text.proofs.Tokens.Cuttings.{one_cut}
use Rattle.zone_text.specs.Entries.{item_of}
use Rattle.zone_text.specs.FirstEntry.{IsOneEntry}
use Rattle.zone_text.specs.Tokens.{Token, text}
use Rattle.type_data.proofs.FurtherWords.{further_word_once}
use Rattle.type_data.specs.DataItem.{TouchingItem}
use Rattle.type_data.specs.Parameters.Printed.{written_touching}
use Rattle.type_data.specs.PrintedData.{HasNoWords, PrintsData}
use Rattle.type_data.specs.Table.{FurtherType, IsFurtherWord, further_type}
use Rattle.zone_words.specs.WordsLine.{IsHead, generic_line, words_line}
use Rattle.zone_words.specs.Written.{generic_tokens}
use Rattle.words_print.proofs.DataEnds.{cut_once, data_cut, form_digits, type_is_further, type_text}
use Rattle.words_print.proofs.Fitting.{EntryLaw, RewrittenLaw, WordsLaw, in_words_there, words_joined}
use Rattle.words_print.specs.Machine.Found.{form_of}
use Rattle.words_print.specs.Shown.{EndsWithData, HasTooManyItems, IsRecordInWords, IsShownLine, gets_words, no_data, no_words, of_another, too_many_items, with_words}

-- ---- a line ends with the data of one type alone

pub record SameData (front : List ℕ) (further : FurtherType) (octets end front' : List ℕ) (further' : FurtherType) (octets' end' : List ℕ) : Type 0 where
  pub front_is : front ≡ front'
  pub further_is : further ≡ further'
  pub octets_are : octets ≡ octets'
  pub end_is : end ≡ end'

once_decoded : (a b : List ℕ) → AreOctets a → AreOctets b → encode_lower a ≡ encode_lower b → a ≡ b
once_decoded a b x y same =
    let both : Ok a ≡ Ok b = sym (decode_of-encode_lower a (each_below 256 a (lit< tt) x)) ∙ ap decode_of same ∙ decode_of-encode_lower b (each_below 256 b (lit< tt) y) in
    cc both

pub data_once : (line front : List ℕ) (further : FurtherType) (octets end front' : List ℕ) (further' : FurtherType) (octets' end' : List ℕ) → EndsWithData line front further octets end → EndsWithData line front' further' octets' end' → SameData front further octets end front' further' octets' end'
data_once line front further octets end front' further' octets' end' p q =
    let one = data_cut line front further octets end p in
    let two = data_cut line front' further' octets' end' q in
    let same = cut_once line one.stem (type_text further.number) (form_of octets) end two.stem (type_text further'.number) (form_of octets') end' one.cut two.cut in
    record {
      front_is = one.front_is ∙ ap (λ t. t ++ 32 ∷ []) same.stem_is ∙ sym two.front_is;
      further_is = further_word_once (type_text further.number) further further' (type_is_further further p.row) (subst (λ w. IsFurtherWord w further') (sym same.word_is) (type_is_further further' q.row));
      octets_are = once_decoded octets octets' p.each q.each (form_digits octets octets' same.form_is);
      end_is = same.end_is;
    }

-- ---- the line of a head

pub head_data : (head : List ℕ) (class : ℕ) (further : FurtherType) (octets : List ℕ) → IsHead head class → further_type further.number ≡ Some further → (further.in_internet_alone ≡ true → class ≡ in_class) → AreOctets octets → EndsWithData (generic_line head further octets) head further octets (10 ∷ [])
head_data head class further octets h row has_type each = record {
  class = class;
  before = record {
    ahead = (h.owner ++ 32 ∷ h.ttl) ++ 32 ∷ [];
    word = h.word;
    whole = h.whole ∙ sym (append_assoc h.owner (32 ∷ h.ttl) (32 ∷ (h.word ++ 32 ∷ []))) ∙ sym (append_assoc (h.owner ++ 32 ∷ h.ttl) (32 ∷ []) (h.word ++ 32 ∷ [])) ∙ sym (append_assoc ((h.owner ++ 32 ∷ h.ttl) ++ 32 ∷ []) h.word (32 ∷ []));
    parted = inr (h.owner ++ 32 ∷ h.ttl, 32, inl refl, refl);
    named = h.is_word;
    is = h.is_class;
  };
  row = row;
  has_type = has_type;
  each = each;
  whole = sym (append_assoc head (text (generic_tokens further.number octets)) (10 ∷ []));
  ends = inr refl;
}

abbrev pub GenericLaw : Type 0
GenericLaw =
    (head : List ℕ) (class : ℕ) (further : FurtherType) (octets : List ℕ) (h : IsHead head class) → (tokens : List Token)
    × IsOneEntry (generic_line head further octets) tokens
    × (flat_map item_of tokens ≡ bare h.owner ∷ bare h.ttl ∷ bare h.word ∷ bare (codes "TYPE" ++ decimal further.number) ∷ generic_items octets)

few_generic : (octets : List ℕ) → length (generic_items octets) ≤ 3
few_generic [] = omega arith
few_generic (c ∷ octets) = omega arith

head_few : (head : List ℕ) (class : ℕ) (further : FurtherType) (octets : List ℕ) → GenericLaw → IsHead head class → HasTooManyItems (generic_line head further octets) → ⊥
head_few head class further octets law h many =
    let one = law head class further octets h in
    let same : many.tokens ≡ one.0 = one_cut (generic_line head further octets) many.tokens one.0 many.one.cut one.1.cut in
    let counted : length (flat_map item_of many.tokens) ≡ 4 + length (generic_items octets) = (let all = ap (λ t. length (flat_map item_of t)) same ∙ ap length one.2 in omega (arith, all)) in
    let least = many.many in
    let few = few_generic octets in
    omega (arith, counted, least, few)

-- the words that are shown
pub record IsShownInWords (head : List ℕ) (further : FurtherType) (octets shown : List ℕ) : Type 0 where
  pub items : List TouchingItem
  pub printed : PrintsData further.fields items octets
  pub is : shown ≡ words_line head further items

pub head_shown : (head : List ℕ) (class : ℕ) (further : FurtherType) (octets shown : List ℕ) → EntryLaw → RewrittenLaw → WordsLaw → GenericLaw → IsHead head class → further_type further.number ≡ Some further → (further.in_internet_alone ≡ true → class ≡ in_class) → AreOctets octets → (HasNoWords further.fields octets → ⊥) → IsShownLine (generic_line head further octets) shown → IsShownInWords head further octets shown
head_shown head class further octets shown entry rewritten words generic h row has_type each some is = by_kind is
  where
    own : EndsWithData (generic_line head further octets) head further octets (10 ∷ [])
    own = head_data head class further octets h row has_type each

    same_as : (front : List ℕ) (f : FurtherType) (o end : List ℕ) → EndsWithData (generic_line head further octets) front f o end → SameData front f o end head further octets (10 ∷ [])
    same_as front f o end d = data_once (generic_line head further octets) front f o end head further octets (10 ∷ []) d own

    printed_as : (front : List ℕ) (f : FurtherType) (o end : List ℕ) (items : List TouchingItem) → SameData front f o end head further octets (10 ∷ []) → PrintsData f.fields items o → PrintsData further.fields items octets
    printed_as front f o end items same p = subst (λ t. PrintsData further.fields items t) same.octets_are (subst (λ (t : FurtherType). PrintsData t.fields items o) same.further_is p)

    line_as : (front : List ℕ) (f : FurtherType) (o end : List ℕ) (items : List TouchingItem) → SameData front f o end head further octets (10 ∷ []) → with_words front f items end ≡ words_line head further items
    line_as front f o end items same =
        ap (λ t. with_words t f items end) same.front_is ∙ ap (λ t. with_words head t items end) same.further_is ∙ ap (with_words head further items) same.end_is
        ∙ words_joined head further.mnemonic (written_touching items) (10 ∷ [])

    no_other : (front : List ℕ) (f : FurtherType) (o end : List ℕ) (items : List TouchingItem) → SameData front f o end head further octets (10 ∷ []) → PrintsData f.fields items o → (IsRecordInWords (generic_line head further octets) (with_words front f items end) → ⊥) → ⊥
    no_other front f o end items same p other =
        other (in_words_there head (generic_line head further octets) (with_words front f items end) class further items octets entry rewritten h row has_type
        (words further.fields items octets (record { further = further; row = row; are = refl }) (printed_as front f o end items same p)) refl (sym (line_as front f o end items same)))

    by_kind : IsShownLine (generic_line head further octets) shown → IsShownInWords head further octets shown
    by_kind (gets_words front f o end items d p fits shown_is) =
        let same = same_as front f o end d in
        record { items = items; printed = printed_as front f o end items same p; is = shown_is ∙ line_as front f o end items same }
    by_kind (no_data none stays) = absurd (none head further octets (10 ∷ []) own)
    by_kind (no_words front f o end d none stays) =
        let same = same_as front f o end d in
        absurd (some (subst (HasNoWords further.fields) same.octets_are (subst (λ (t : FurtherType). HasNoWords t.fields o) same.further_is none)))
    by_kind (of_another front f o end items d p states other stays) = absurd (no_other front f o end items (same_as front f o end d) p other)
    by_kind (too_many_items many stays) = absurd (head_few head class further octets generic h many)
