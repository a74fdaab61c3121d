-- No part of a line has a line feed.
use Rattle.zone_print.proofs.Common.{common_steps, ◌≡◌, ◌≢◌, ℕ, zero, suc, ◌/◌, ◌%◌, ◌==◌, ◌≤◌, List, [], ◌∷◌, ◌++◌, length, drop, map, Bool, true, false, if◌then◌else◌, IsTrue, Option, None, Some, refl, codes, decimal, arith, AllByRecursion, flat_map, join_with_byte, list_all, slice_index, octet_text, label_text, name_text, Data, Record, data_of, data_items, data_text, laid_out_items, written_item, class_mnemonic, laid_out_mnemonic, word_or_numbered, class_text, kind_text, line, HasNoFeed, EndsWithItsFeed, Labels}
use Rattle.std.specs.Char.{digit_char}
use Rattle.std.specs.Net.Text.{hex, leading_zero_digits}
use Rattle.hex.specs.Hex.{lower_digits, encode_with, encode_lower}
use Rattle.std.specs.Fmt.{digit_glyph, digits, digits_onto}
use Rattle.zone_name.proofs.InOctets.Pushing.{AllByRecursion-append}
use Rattle.zone_rdata.specs.declared.field.Field.{Field}
use Rattle.zone_rdata.specs.Field.{FieldValue, values_of, field_items}
use Rattle.zone_rdata.specs.Fields.OneString.{string_item}
use Rattle.zone_rdata.specs.Generic.{generic_items}
use Rattle.zone_rdata.specs.Item.{RawItem}
use Rattle.zone_rdata.specs.Layout.{layout}
use Rattle.zone_rdata.specs.Address.{ipv4_text, ipv6_text, parted_groups}
use Rattle.zone_rdata.specs.Strings.{unit_text, inside_text, string_text}
use Rattle.zone_rdata.specs.Table.{Named, classes, mnemonic_among}
use Rattle.zone_rdata.proofs.Words.Tables.{each_mnemonic}

pub none_append : (xs ys : List ℕ) → HasNoFeed xs → HasNoFeed ys → HasNoFeed (xs ++ ys)
none_append xs ys p q = AllByRecursion-append _ xs ys p q

none_if : (b : Bool) (xs ys : List ℕ) → (b ≡ true → HasNoFeed xs) → (b ≡ false → HasNoFeed ys) → HasNoFeed (if b then xs else ys)
none_if b xs ys p q = grind arith

each_flat : {X Y : Type 0} (P : Y → Type 0) (f : X → List Y) → ((x : X) → AllByRecursion P (f x)) → (xs : List X) → AllByRecursion P (flat_map f xs)
each_flat P f each [] = tt
each_flat P f each (x ∷ xs) = AllByRecursion-append P (f x) (flat_map f xs) (each x) (each_flat P f each xs)

none_flat : {X : Type 0} (f : X → List ℕ) → ((x : X) → HasNoFeed (f x)) → (xs : List X) → HasNoFeed (flat_map f xs)
none_flat = each_flat (λ c. c ≢ 10)

pub high : (c n : ℕ) → c ≡ n → 11 ≤ n → c ≢ 10
high c n e h f = omega arith

-- ---- numbers

none_glyph : (d : ℕ) → digit_glyph false d ≢ 10
none_glyph d = grind arith

none_onto : (k n : ℕ) (acc : List ℕ) → HasNoFeed acc → HasNoFeed (digits_onto k 10 false n acc)
none_onto zero n acc h = h
none_onto (suc k) n acc h = grind (arith, none_glyph (n % 10), none_onto k (n / 10) (digit_glyph false (n % 10) ∷ acc))

pub none_decimal : (n : ℕ) → HasNoFeed (decimal n)
unfolding digits
none_decimal n = none_onto 64 n [] tt

-- ---- literals

abbrev pub has_no_feed : List ℕ → Bool
has_no_feed [] = true
has_no_feed (x ∷ xs) = if x == 10 then false else has_no_feed xs

pub none_tested : (xs : List ℕ) → IsTrue (has_no_feed xs) → HasNoFeed xs
none_tested [] h = tt
none_tested (x ∷ xs) h = grind (arith, none_tested xs)

-- ---- names

none_label : (label : List ℕ) → HasNoFeed (label_text label)
none_label label = none_append (flat_map octet_text label) (46 ∷ []) (none_flat octet_text (λ c. grind arith) label) (none_tested (46 ∷ []) refl)

pub none_name : (labels : Labels) → HasNoFeed (name_text labels)
none_name [] = none_tested (46 ∷ []) refl
none_name (label ∷ labels) = none_flat label_text none_label (label ∷ labels)

-- ---- words and data

-- a mnemonic, if there is one
abbrev RowHasNoFeed : Option (List ℕ) → Type 0
RowHasNoFeed None = Unit {0}
RowHasNoFeed (Some word) = HasNoFeed word

none_word : (row : Option (List ℕ)) (front : List ℕ) (n : ℕ) → RowHasNoFeed row → HasNoFeed front → HasNoFeed (word_or_numbered row front n)
none_word row front n p q = grind (arith, none_append, none_decimal)

none_found : (rows : List Named) → list_all (λ row. has_no_feed row.mnemonic) rows ≡ true → (n : ℕ) (found : Option (List ℕ)) → mnemonic_among rows n ≡ found → RowHasNoFeed found
none_found rows all n None e = tt
none_found rows all n (Some word) e = none_tested word (each_mnemonic (λ _ name. has_no_feed name) rows all n word e)

none_class : (n : ℕ) → HasNoFeed (class_text n)
none_class n = none_word (class_mnemonic n) (codes "CLASS") n (none_found classes refl n (class_mnemonic n) refl) (none_tested (codes "CLASS") refl)

none_kind : (class n : ℕ) → HasNoFeed (kind_text class n)
none_kind class n = none_word (laid_out_mnemonic (layout class n) n) (codes "TYPE") n (grind arith) (none_tested (codes "TYPE") refl)

none_ipv4 : (octets : List ℕ) → HasNoFeed (ipv4_text octets)
none_ipv4 octets = grind (arith, none_decimal, none_append, high)

none_drop : (n : ℕ) (xs : List ℕ) → HasNoFeed xs → HasNoFeed (drop n xs)
none_drop n xs h = grind (arith, common_steps)

none_hex : (n : ℕ) → HasNoFeed (hex n)
unfolding hex
none_hex n = none_drop (leading_zero_digits n) (digit_char (n / 0x1000) ∷ digit_char (n / 0x100 % 16) ∷ digit_char (n / 0x10 % 16) ∷ digit_char (n % 16) ∷ []) (none_glyph (n / 0x1000), (none_glyph (n / 0x100 % 16), (none_glyph (n / 0x10 % 16), (none_glyph (n % 16), tt))))

none_groups : (groups : List ℕ) → HasNoFeed (parted_groups groups)
none_groups groups = grind (arith, none_append, none_hex, none_flat, high)

none_ipv6 : (octets : List ℕ) → HasNoFeed (ipv6_text octets)
none_ipv6 octets = grind (arith, none_if, none_append, none_groups, high)

none_string : (octets : List ℕ) → HasNoFeed (string_text octets)
none_string octets = (high 34 34 refl (omega arith), none_append (inside_text octets) (34 ∷ []) (none_flat unit_text (λ c. grind arith) octets) (none_tested (34 ∷ []) refl))

none_digit : (l : List ℕ) (i : ℕ) → HasNoFeed l → slice_index l i ≢ 10
none_digit l i h = grind (arith, common_steps)

none_encoded : (octets : List ℕ) → HasNoFeed (encode_lower octets)
unfolding encode_with
none_encoded [] = tt
none_encoded (c ∷ octets) = (none_digit lower_digits (c / 16) (none_tested lower_digits refl), (none_digit lower_digits (c % 16) (none_tested lower_digits refl), none_encoded octets))

-- ---- the items

-- items of which none is written with a line feed
abbrev AreFeedless : List RawItem → Type 0
AreFeedless items = AllByRecursion (λ i. HasNoFeed (written_item i)) items

none_strings : (many : List (List ℕ)) → AreFeedless (map string_item many)
none_strings [] = tt
none_strings (octets ∷ many) = (none_string octets, none_strings many)

none_field : (v : FieldValue) → AreFeedless (field_items v)
none_field v = grind (arith, none_name, none_decimal, none_if, none_ipv4, none_ipv6, none_string, none_strings)

none_generic : (octets : List ℕ) → AreFeedless (generic_items octets)
none_generic [] = (none_tested (codes "\\#") refl, (none_decimal 0, tt))
none_generic (c ∷ octets) = (none_tested (codes "\\#") refl, (none_decimal (length (c ∷ octets)), (none_encoded (c ∷ octets), tt)))

none_joined : (items : List RawItem) → AreFeedless items → HasNoFeed (join_with_byte 32 (map written_item items))
none_joined [] h = tt
none_joined (i ∷ []) h = h.0
none_joined (i ∷ j ∷ items) h = none_append (written_item i) (32 ∷ join_with_byte 32 (map written_item (j ∷ items))) h.0 (high 32 32 refl (omega arith), none_joined (j ∷ items) h.1)

none_laid_out : (fields : Option (List Field)) (octets : List ℕ) → AreFeedless (laid_out_items fields octets)
none_laid_out None octets = none_generic octets
none_laid_out (Some fields) octets = each_flat (λ i. HasNoFeed (written_item i)) field_items none_field (values_of fields octets)

none_data : (d : Data) → HasNoFeed (data_text d)
none_data d = none_joined (data_items d) (none_laid_out (layout d.class d.kind) d.octets)

-- ---- the line

pub line_ends_with_feed : (r : Record) → EndsWithItsFeed (line r)
line_ends_with_feed r = grind (arith, none_append, high, none_name r.owner, none_decimal r.ttl, none_class r.class, none_kind r.class r.kind, none_data (data_of r))
