-- Printed words are those of their class or type, and stand outside quotes.
use Rattle.zone_rdata.proofs.Common.{◌≡◌, ℕ, ◌^◌, ◌<◌, true, List, ◌++◌, codes, decimal, Option, Some, None, refl, arith, list_all, StandsBare, bare_append, Field, layout, Named, classes, type_names, mnemonic_among, IsClass, IsClassWord, IsKind, IsKindWord, IsNumbered, IsWordAmong, by_number, class_text, kind_text, laid_out_mnemonic, word_or_numbered}
use Rattle.zone_rdata.proofs.Items.GenericLaws.{decimal-is}
use Rattle.zone_rdata.proofs.Texts.Standing.{are_bare, bare_decimal, bare_tested}
use Rattle.zone_rdata.proofs.Words.Tables.{each_mnemonic}

-- what holds of a type's word in both forms holds of the one that is printed in a class
pub either_form : (P : List ℕ → Type 0) (n : ℕ) → P (codes "TYPE" ++ decimal n) → P (word_or_numbered (mnemonic_among type_names n) (codes "TYPE") n) → (laid : Option (List Field)) → P (word_or_numbered (laid_out_mnemonic laid n) (codes "TYPE") n)
either_form P n numbered named None = numbered
either_form P n numbered named (Some fields) = named

pub numbered_printed : (name : List ℕ) (n : ℕ) → n < 2 ^ 64 → IsNumbered name (name ++ decimal n) n
numbered_printed name n short = record { front = name; digits = decimal n; parts = refl; named = refl; number = decimal-is n short }

-- the word of a number is printed by the row that it has or not
pub word_of : (rows : List Named) (name : List ℕ) (row : Option (List ℕ)) (n : ℕ) → mnemonic_among rows n ≡ row → n < 2 ^ 64 → IsWordAmong rows name (word_or_numbered row name n) n
word_of rows name row n e short = grind (arith, numbered_printed)

pub class_printed : (n : ℕ) → IsClass n → IsClassWord (class_text n) n
class_printed n is = grind (arith, word_of)

pub kind_printed : (class n : ℕ) → IsKind n → IsKindWord (kind_text class n) n
kind_printed class n is =
    let short : n < 2 ^ 64 = omega (arith, is.short) in
    either_form (λ word. IsKindWord word n) n (by_number (numbered_printed (codes "TYPE") n short)) (word_of type_names (codes "TYPE") (mnemonic_among type_names n) n refl short) (layout class n)

-- ---- they stand outside quotes

numbered_bare : (name : List ℕ) (n : ℕ) → are_bare name ≡ true → n < 2 ^ 64 → StandsBare (name ++ decimal n)
numbered_bare name n bare short = grind (arith, bare_append, bare_tested, bare_decimal)

word_bare : (rows : List Named) (name : List ℕ) (row : Option (List ℕ)) (n : ℕ) → list_all (λ row. are_bare row.mnemonic) rows ≡ true → are_bare name ≡ true → mnemonic_among rows n ≡ row → n < 2 ^ 64 → StandsBare (word_or_numbered row name n)
word_bare rows name None n all bare e short = numbered_bare name n bare short
word_bare rows name (Some word) n all bare e short = bare_tested word (each_mnemonic (λ _ mnemonic. are_bare mnemonic) rows all n word e)

pub class_bare : (n : ℕ) → IsClass n → StandsBare (class_text n)
class_bare n is = word_bare classes (codes "CLASS") (mnemonic_among classes n) n refl refl refl (let short = is.short in omega arith)

pub kind_bare : (class n : ℕ) → IsKind n → StandsBare (kind_text class n)
kind_bare class n is =
    let short : n < 2 ^ 64 = omega (arith, is.short) in
    either_form StandsBare n (numbered_bare (codes "TYPE") n refl short) (word_bare type_names (codes "TYPE") (mnemonic_among type_names n) n refl refl refl short) (layout class n)

pub ruleset printed_words = (class_printed, kind_printed)
