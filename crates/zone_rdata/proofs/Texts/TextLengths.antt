-- How many octets printed words and data have at most.
use Rattle.zone_rdata.proofs.Common.{leb-true, [], ◌≡◌, ℕ, ◌+◌, ◌*◌, ◌<◌, ◌≤◌, true, List, ◌∷◌, ◌++◌, length, map, nat_le, codes, decimal, Option, Some, None, refl, ap, arith, length-append, AllByRecursion, flat_map, join_with_byte, list_all, length-decimal-le, length-encode_with, Field, FieldValue, HoldEach, field_text, octets_of, IsLayout, IsSized, layout, laid_out_text, Data, IsRdata, Named, classes, type_names, mnemonic_among, data_text, generic_text, IsClass, IsKind, class_text, kind_text, word_or_numbered}
use Rattle.zone_rdata.proofs.Fields.AnyField.{field_few}
use Rattle.zone_rdata.proofs.Octets.Layouts.{AreFor}
use Rattle.zone_rdata.proofs.Words.Tables.{each_mnemonic, table_row}
use Rattle.zone_rdata.proofs.Texts.PrintedWords.{either_form}
use Rattle.zone_rdata.proofs.Texts.TextItems.{data_written}
use Rattle.zone_rdata.proofs.Texts.FieldTexts.{joined_more}

-- ---- words

-- a name of at most five octets and a number after it
numbered_length : (name : List ℕ) (n : ℕ) → length name ≤ 5 → n < 65536 → length (name ++ decimal n) ≤ 10
numbered_length name n few short = omega (arith, length-append name (decimal n), length-decimal-le 5 n (omega arith) (omega arith) (omega arith))

word_length : (rows : List Named) (name : List ℕ) (row : Option (List ℕ)) (n : ℕ) → list_all (λ row. nat_le (length row.mnemonic) 10) rows ≡ true → length name ≤ 5 → mnemonic_among rows n ≡ row → n < 65536 → length (word_or_numbered row name n) ≤ 10
word_length rows name None n all few e short = numbered_length name n few short
word_length rows name (Some word) n all few e short = leb-true (length word) 10 (each_mnemonic (λ _ mnemonic. nat_le (length mnemonic) 10) rows all n word e)

pub class_length : (n : ℕ) → IsClass n → length (class_text n) ≤ 10
class_length n is = word_length classes (codes "CLASS") (mnemonic_among classes n) n refl (omega arith) refl is.short

pub kind_length : (class n : ℕ) → IsKind n → length (kind_text class n) ≤ 10
kind_length class n is = either_form (λ word. length word ≤ 10) n (numbered_length (codes "TYPE") n (omega arith) is.short) (word_length type_names (codes "TYPE") (mnemonic_among type_names n) n refl (omega arith) refl is.short) (layout class n)

-- ---- data

-- the texts of values with a space before each
each_few : (row : List Field) (values : List FieldValue) → AllByRecursion IsSized row → HoldEach row values → length (flat_map (λ t. 32 ∷ t) (map field_text values)) ≤ 4 * length (octets_of values)
each_few (f ∷ row) (v ∷ values) sized h = grind (arith, each_few row values sized.1 h.1, length-append, field_few)
each_few row values sized h = grind arith

joined_length : (texts : List (List ℕ)) → length (join_with_byte 32 texts) ≤ length (flat_map (λ t. 32 ∷ t) texts)
joined_length [] = omega arith
joined_length (text ∷ texts) = omega (arith, ap length (joined_more text texts))

-- the mark, a number of at most five digits, two spaces, and two digits for each octet
generic_length : (octets : List ℕ) → length octets ≤ 65535 → length (generic_text octets) ≤ 4 * length octets + 8
generic_length octets short = grind (arith, length-append, length-encode_with, length-decimal-le 5)

text_length : (laid : Option (List Field)) (octets : List ℕ) → ((row : List Field) → laid ≡ Some row → IsLayout row) → length octets ≤ 65535 → AreFor laid octets → length (laid_out_text laid octets) ≤ 4 * length octets + 8
text_length None octets table short value = generic_length octets short
text_length (Some row) octets table short value = grind (arith, joined_length, each_few, table row refl)

-- four for each octet of the data, and eight
pub data_text_length : (d : Data) → IsRdata d → length (data_text d) ≤ 4 * length d.octets + 8
data_text_length d is = grind (arith, data_written d is, text_length (layout d.class d.kind) d.octets (table_row d.class d.kind) is.octets.short is.octets.value)
