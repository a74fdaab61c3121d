-- The line of a record with its data in the generic form is one entry with these items.
use Rattle.zone_words.proofs.Common.{AllByRecursion, Cuts, FurtherType, IsToken, List, RawItem, Token, TouchingItem, [], ap, append_assoc, codes, encode_lower, escaped, false, false≢true, flat_map, generic_tokens, item_of, length, map, plain, refl, subst, sym, text, word, ℕ, ◌++◌, ◌∙◌, ◌∷◌, ◌≡◌}
use Rattle.std.specs.Prelude.{decimal}
use Rattle.zone_name.proofs.Texts.Bare.{plain_text}
use Rattle.zone_rdata.specs.Generic.{generic_items}
use Rattle.zone_rdata.specs.Item as raw
use Rattle.zone_text.specs.FirstEntry.{IsOneEntry}
use Rattle.zone_words.proofs.HeadLines.{items_spelt, line_cut, line_ended, of_head, tokens}
use Rattle.zone_words.proofs.WrittenWords.{hex_some, mark_is, plain_decimal, plain_hex, some_decimal, type_is, word_token}
use Rattle.type_data.specs.DataItem.{items_of}
use Rattle.type_data.specs.Parameters.Printed.{written_touching}
use Rattle.type_data.specs.StandingItem.{StandsBehind}
use Rattle.zone_words.specs.WordsLine.{IsHead, generic_line}

abbrev after_blank : RawItem → TouchingItem
after_blank item = record { item = item; touches = false }

plain_stands : (t : List ℕ) → IsToken (word t) → StandsBehind (after_blank (raw.bare t))
plain_stands t is = record {
  stands = record { units = map plain t; is = is; spelt = plain_text t };
  parted = λ e. absurd (false≢true e);
}

mark_stands : StandsBehind (after_blank raw.generic_mark)
mark_stands = record {
  stands = record { units = escaped 35 ∷ []; is = mark_is; spelt = refl };
  parted = λ e. absurd (false≢true e);
}

abbrev form : List ℕ → List TouchingItem
form octets = map after_blank (generic_items octets)

form_stands : (octets : List ℕ) → AllByRecursion StandsBehind (form octets)
form_stands [] = (mark_stands, (plain_stands (decimal 0) (word_token (decimal 0) (some_decimal 0) (plain_decimal 0)), tt))
form_stands (c ∷ octets) = (
  mark_stands,
  (
    plain_stands (decimal (length (c ∷ octets))) (word_token (decimal (length (c ∷ octets))) (some_decimal (length (c ∷ octets))) (plain_decimal (length (c ∷ octets)))),
    (plain_stands (encode_lower (c ∷ octets)) (word_token (encode_lower (c ∷ octets)) (hex_some c octets) (plain_hex (c ∷ octets))), tt),
  ),
)

form_items : (octets : List ℕ) → items_of (form octets) ≡ generic_items octets
form_items [] = refl
form_items (c ∷ octets) = refl

abbrev pub type_text : ℕ → List ℕ
type_text number = codes "TYPE" ++ decimal number

form_text : (number : ℕ) (octets : List ℕ) → type_text number ++ (written_touching (form octets) ++ 10 ∷ []) ≡ text (generic_tokens number octets) ++ 10 ∷ []
form_text number [] =
    sym (append_assoc (type_text number) (written_touching (form [])) (10 ∷ []))
    ∙ (λ j. (plain_text (type_text number) j ++ 32 ∷ 92 ∷ 35 ∷ 32 ∷ (plain_text (decimal 0) j ++ [])) ++ 10 ∷ [])
form_text number (c ∷ octets) =
    sym (append_assoc (type_text number) (written_touching (form (c ∷ octets))) (10 ∷ []))
    ∙ (λ j. (plain_text (type_text number) j ++ 32 ∷ 92 ∷ 35 ∷ 32 ∷ (plain_text (decimal (length (c ∷ octets))) j ++ 32 ∷ (plain_text (encode_lower (c ∷ octets)) j ++ []))) ++ 10 ∷ [])

pub generic_entry : (head : List ℕ) (class : ℕ) (further : FurtherType) (octets : List ℕ) (h : IsHead head class) → (found : List Token) × IsOneEntry (generic_line head further octets) found × (flat_map item_of found ≡ raw.bare h.owner ∷ raw.bare h.ttl ∷ raw.bare h.word ∷ raw.bare (type_text further.number) ∷ generic_items octets)
generic_entry head class further octets h =
    let stands = form_stands octets in
    let is = type_is further.number in
    let front = of_head head class h in (
      tokens head front (type_text further.number) (form octets) is stands,
      record {
        cut = subst (λ t. Cuts t (tokens head front (type_text further.number) (form octets) is stands)) (ap (λ t. head ++ t) (form_text further.number octets)) (line_cut head front (type_text further.number) (form octets) is stands);
        ended = line_ended head front (type_text further.number) (form octets) is stands;
      },
      items_spelt head class h (type_text further.number) (form octets) is stands ∙ ap (λ t. raw.bare h.owner ∷ raw.bare h.ttl ∷ raw.bare h.word ∷ raw.bare (type_text further.number) ∷ t) (form_items octets),
    )
