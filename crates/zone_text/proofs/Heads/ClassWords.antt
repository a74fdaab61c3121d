-- The words of classes among items, the digits with which a time begins, and the words of
-- directives.
use Rattle.std.proofs.Common.{IsTrue, ◌↔◌}
use Rattle.zone_text.proofs.Common.{AllByRecursion, append-nil, Bool, Group, IsClassWord, IsNumbered, IsTime, IsTimeGroup, List, None, Option, Some, [], and_parts, ap, append_assoc, are_digits, arith, begins_with_digit, by_mnemonic, by_number, bytes_eq, bytes_eq-Decides, codes, decimal_value, drop, drop-append_seam, false, flat_map, folded_label, folded_octet, group_text, inl, inr, is_class_word, is_digit, is_some, length, length-map, list_all, map-append, or_cases, refl, rules, sym, take, take-append-drop, take-map, true, ℕ, ◌&&◌, ◌++◌, ◌<◌, ◌∙◌, ◌∷◌, ◌≡◌}
use Rattle.std.proofs.Math.Bool.{or-true}
use Rattle.zone_rdata.specs.Table.{classes, number_among}
use Rattle.zone_rdata.proofs.Words.OneWord.{class_number}
use Rattle.zone_rdata.proofs.Words.Tables.{number_is}

all_true : (text : List ℕ) → AllByRecursion (λ c. is_digit c ≡ true) text → list_all is_digit text ≡ true
all_true [] each = refl
all_true (c ∷ text) each = rw (each.0) (all_true text each.1)

numbered_word : (word : List ℕ) (n : ℕ) → IsNumbered (codes "CLASS") word n → is_class_word word ≡ true
numbered_word word n is =
    let five : length is.front ≡ 5 = (let h : length (folded_label is.front) ≡ length is.front = simp length-map in sym h ∙ ap length is.named) in
    let rest : drop 5 word ≡ is.digits = rw (is.parts, ← five) (drop-append_seam is.front is.digits) in
    let front : take 5 (folded_label word) ≡ codes "class" = rw (is.parts, map-append, is.named) refl in
    grind (arith, length-map, drop-append_seam, true, all_true, map-append, or-true)

-- a class word is known by its letters
pub class_word_known : (word : List ℕ) (n : ℕ) → IsClassWord word n → is_class_word word ≡ true
class_word_known word n (by_mnemonic is) = rw (class_number word n is) refl
class_word_known word n (by_number is) = numbered_word word n is

-- and begins with no digit
pub class_word_first : (word : List ℕ) (n : ℕ) → IsClassWord word n → begins_with_digit word ≡ false
class_word_first word n (by_mnemonic is) = search rules
class_word_first word n (by_number is) =
    let same : begins_with_digit (folded_label word) ≡ begins_with_digit word = search rules in
    sym same ∙ (rw (is.parts, map-append, is.named) refl)

digits_first : (text rest : List ℕ) → 0 < length text → AllByRecursion (λ c. is_digit c ≡ true) text → begins_with_digit (text ++ rest) ≡ true
digits_first [] rest some each = absurd (omega arith)
digits_first (c ∷ text) rest some each = each.0

groups_first : (groups : List Group) → 0 < length groups → AllByRecursion IsTimeGroup groups → begins_with_digit (flat_map group_text groups) ≡ true
groups_first [] some each = absurd (omega arith)
groups_first (g ∷ groups) some each = search (rules, append_assoc, digits_first)

-- a time begins with a digit
pub time_first : (text : List ℕ) (n : ℕ) → IsTime text n → begins_with_digit text ≡ true
time_first text n h = grind (arith, groups_first, digits_first text [], append-nil)

-- what is taken for a class word is one

each_digit : (text : List ℕ) → list_all is_digit text ≡ true → AllByRecursion (λ c. is_digit c ≡ true) text
each_digit [] e = tt
each_digit (c ∷ text) e = let both = and_parts (is_digit c) (list_all is_digit text) e in (both.0, each_digit text both.1)

named_class : (text : List ℕ) (found : Option ℕ) → number_among classes text ≡ found → is_some found ≡ true → (m : ℕ) × IsClassWord text m
named_class text (Some n) e some = (n, by_mnemonic (number_is classes refl text n e))
named_class text None e some = absurd cc

numbered_class : (text : List ℕ) → (bytes_eq (take 5 (folded_label text)) (codes "class") && are_digits (drop 5 text)) ≡ true → (m : ℕ) × IsClassWord text m
numbered_class text e =
    let both = and_parts (bytes_eq (take 5 (folded_label text)) (codes "class")) (are_digits (drop 5 text)) e in
    let digits : (0 < length (drop 5 text)) × AllByRecursion (λ c. is_digit c ≡ true) (drop 5 text) = grind (arith, and_parts, each_digit, both.1) in (
      decimal_value (drop 5 text),
      by_number (record {
        front = take 5 text;
        digits = drop 5 text;
        parts = sym (take-append-drop 5 text);
        named = sym (take-map folded_octet 5 text) ∙ ((bytes_eq-Decides (take 5 (folded_label text)) (codes "class")).0 both.0);
        number = record { some = digits.0; digits = digits.1; value = refl };
      }),
    )

pub class_word_of : (text : List ℕ) → is_class_word text ≡ true → (m : ℕ) × IsClassWord text m
class_word_of text e = elim (or_cases _ _ e) [ inl named ↦ named_class text (number_among classes text) refl named | inr numbered ↦ numbered_class text numbered ]

-- ---- the words of directives, in any letter case

same_test : (a b : Bool) (xs ys : List ℕ) → b ≡ bytes_eq xs ys → (a ≡ true → xs ≡ ys) → (xs ≡ ys → a ≡ true) → a ≡ b
same_test a b xs ys e there back = grind (arith, bytes_eq-Decides)

-- a test of two words is that of their octets
pub word_test : (is : Bool) (xs ys : List ℕ) → (IsTrue is ↔ (xs ≡ ys)) → is ≡ bytes_eq xs ys
word_test is xs ys same = same_test is (bytes_eq xs ys) xs ys refl same.0 same.1
