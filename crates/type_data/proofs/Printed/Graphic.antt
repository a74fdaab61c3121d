-- Texts that stand on a line as they are printed, of octets that a terminal shows.
use Rattle.std.specs.Prelude.{decimal}
use Rattle.zone_name.proofs.Texts.Bare.{StandsBare, bare_append, bare_octets, is_bare}
use Rattle.zone_rdata.proofs.Common.{IsAddressOctet, StandsInQuotes, each_weaker}
use Rattle.zone_rdata.proofs.Items.GenericLaws.{decimal-is}
use Rattle.zone_rdata.proofs.Strings.StringLaws.{printed_stands}
use Rattle.zone_rdata.proofs.Texts.Standing.{AreBare, are_bare, bare_tested, hex_bare, tested_each}
use Rattle.zone_rdata.specs.Item.{bare, quoted}
use Rattle.zone_rdata.specs.Strings.{inside_text, is_quote, is_shown, unit_text}
use Rattle.zone_rdata.specs.Words.{word_or_numbered}
use Rattle.type_data.proofs.Common.{AllByRecursion, AllByRecursion-append, AreOctets, Bool, IsUnit, List, Named, None, Option, RawItem, Some, [], and_parts, append-nil, arith, each_mnemonic, encode_lower, encode_with, false, flat_map-append, if◌then◌else◌, join_with_byte, length, list_all, mnemonic_among, nat_lt, nat_tests, refl, subst, true, ℕ, ◌%◌, ◌++◌, ◌+◌, ◌/◌, ◌<◌, ◌==◌, ◌^◌, ◌||◌, ◌∷◌, ◌≡◌, ◌≤◌, ◌≢◌}

-- spaces and the graphic octets of ASCII
abbrev pub IsGraphic : ℕ → Type 0
IsGraphic c = (32 ≤ c) × (c ≤ 126)

abbrev pub AreGraphic : List ℕ → Type 0
AreGraphic text = AllByRecursion IsGraphic text

-- a text that stands outside quotes, of such octets
pub record IsGraphicText (text : List ℕ) : Type 0 where
  pub stands : StandsBare text
  pub graphic : AreGraphic text

-- a text that stands in quotes, of such octets
pub record IsGraphicInside (text : List ℕ) : Type 0 where
  pub stands : StandsInQuotes text
  pub graphic : AreGraphic text

abbrev pub IsGraphicItem : RawItem → Type 0
IsGraphicItem (bare text) = IsGraphicText text
IsGraphicItem (quoted text) = IsGraphicInside text

-- ---- octets that stand by themselves

graphic_bare : (c : ℕ) → is_bare c ≡ true → IsGraphic c
graphic_bare c e = grind (arith, nat_tests)

pub graphic_octets : (text : List ℕ) → 0 < length text → AreBare text → IsGraphicText text
graphic_octets text some each = record { stands = bare_octets text some each; graphic = each_weaker IsGraphic graphic_bare text each }

pub graphic_tested : (text : List ℕ) → are_bare text ≡ true → IsGraphicText text
graphic_tested text e =
    let both : (nat_lt 0 (length text) ≡ true) × (list_all is_bare text ≡ true) = grind (arith, and_parts) in
    record { stands = bare_tested text e; graphic = each_weaker IsGraphic graphic_bare text (tested_each text both.1) }

-- ---- texts together

pub graphic_append : (xs ys : List ℕ) → IsGraphicText xs → IsGraphicText ys → IsGraphicText (xs ++ ys)
graphic_append xs ys x y = record { stands = bare_append xs ys x.stands y.stands; graphic = AllByRecursion-append IsGraphic xs ys x.graphic y.graphic }

-- with a mark between them
pub graphic_join : (mark : ℕ) (texts : List (List ℕ)) → is_bare mark ≡ true → 0 < length texts → AllByRecursion IsGraphicText texts → IsGraphicText (join_with_byte mark texts)
graphic_join mark [] plain some each = absurd (omega arith)
graphic_join mark (text ∷ []) plain some each = each.0
graphic_join mark (text ∷ next ∷ texts) plain some each =
    graphic_append text (mark ∷ join_with_byte mark (next ∷ texts)) each.0
    (graphic_append (mark ∷ []) (join_with_byte mark (next ∷ texts)) (graphic_octets (mark ∷ []) (omega arith) (plain, tt)) (graphic_join mark (next ∷ texts) plain (omega arith) each.1))

-- ---- numbers

pub graphic_decimal : (n : ℕ) → n < 2 ^ 64 → IsGraphicText (decimal n)
graphic_decimal n short =
    let is = decimal-is n short in
    graphic_octets (decimal n) is.some (each_weaker (λ c. is_bare c ≡ true) (λ c digit. grind (arith, nat_tests)) (decimal n) is.digits)

pub graphic_hex : (octets : List ℕ) → 0 < length octets → AreOctets octets → IsGraphicText (encode_lower octets)
unfolding encode_with
graphic_hex [] some low = absurd (omega arith)
graphic_hex (c ∷ octets) some low = graphic_octets (encode_lower (c ∷ octets)) (omega arith) (hex_bare (c ∷ octets) low)

pub graphic_address : (text : List ℕ) → 0 < length text → AllByRecursion IsAddressOctet text → IsGraphicText text
graphic_address text some each = graphic_octets text some (each_weaker (λ c. is_bare c ≡ true) (λ c given. grind arith) text each)

-- ---- words

pub graphic_word : (rows : List Named) (name : List ℕ) (row : Option (List ℕ)) (n : ℕ) → list_all (λ row. are_bare row.mnemonic) rows ≡ true → IsGraphicText (name ++ decimal n) → mnemonic_among rows n ≡ row → IsGraphicText (word_or_numbered row name n)
graphic_word rows name None n all numbered e = numbered
graphic_word rows name (Some word) n all numbered e = graphic_tested word (each_mnemonic (λ _ mnemonic. are_bare mnemonic) rows all n word e)

-- ---- inside quotes

inside_append : (xs ys : List ℕ) → StandsInQuotes xs → StandsInQuotes ys → StandsInQuotes (xs ++ ys)
inside_append xs ys x y = record {
  units = x.units ++ y.units;
  each = AllByRecursion-append (IsUnit is_quote) x.units y.units x.each y.each;
  parts = grind (arith, x.parts, y.parts, flat_map-append);
  one_line = AllByRecursion-append (λ c. c ≢ 10) xs ys x.one_line y.one_line;
}

unit_stands : (c : ℕ) → c < 256 → StandsInQuotes (unit_text c)
unit_stands c low = subst StandsInQuotes (append-nil (unit_text c)) (printed_stands (c ∷ []) (record { short = omega arith; each = (low, tt) }))

unit_graphic : (special shown : Bool) (c : ℕ) → c < 256 → (c == 34 || c == 92) ≡ special → is_shown c ≡ shown → AreGraphic (if special then 92 ∷ c ∷ [] else (if shown then c ∷ [] else 92 ∷ (48 + c / 100) ∷ (48 + c / 10 % 10) ∷ (48 + c % 10) ∷ []))
unit_graphic true shown c low e s = grind (arith, nat_tests)
unit_graphic false true c low e s = grind (arith, nat_tests)
unit_graphic false false c low e s = (omega arith, (omega arith, (omega arith, (omega arith, tt))))

pub graphic_inside : (octets : List ℕ) → AreOctets octets → IsGraphicInside (inside_text octets)
graphic_inside [] low = record { stands = record { units = []; each = tt; parts = refl; one_line = tt }; graphic = tt }
graphic_inside (c ∷ octets) low =
    let more = graphic_inside octets low.1 in
    record {
      stands = inside_append (unit_text c) (inside_text octets) (unit_stands c low.0) more.stands;
      graphic = AllByRecursion-append IsGraphic (unit_text c) (inside_text octets) (unit_graphic (c == 34 || c == 92) (is_shown c) c low.0 refl refl) more.graphic;
    }
