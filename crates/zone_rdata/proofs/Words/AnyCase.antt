-- Words that are equal in any case of their letters.
use Rattle.zone_rdata.proofs.Common.{cases_Bool, ◌≡◌, ℕ, ◌<◌, ◌≤◌, true, false, List, map, sym, ap, ◌∙◌, arith, IsTrue, ◌↔◌, inl, inr, Some, None, min, subst, bytes_eq, Bool, find, option_map, cases_lt, bytes_eq-Decides, folded_label, Named, ascends, IsKind, IsNumbered, IsWordAmong, by_mnemonic, by_number, IsKindWord, IsWordFault, for_queries, beyond, Fault, to_ascii_lowercase, UnknownType, MetaType, common_steps}
use Rattle.std.proofs.Common.{Fits}
use Rattle.std.specs.Int.Bits.{bit_and}
use Rattle.zone_rdata.proofs.Common.{agree_below_at, eq-eqb, eqb-true, folded_octet, get_or, nat_eq, refl, w8, ◌==◌, ◌∷◌}
use Rattle.zone_rdata.proofs.Words.Tables.{find_mapped, row_is, no_row}

lowercase_folds_all : (text : List ℕ) → map to_ascii_lowercase text ≡ folded_label text
lowercase_folds_all text = grind arith

-- std's comparison without regard to case, in this project's words
pub same_word : (a b : List ℕ) (r : Bool) → IsTrue r ↔ (map to_ascii_lowercase a ≡ map to_ascii_lowercase b) → IsTrue r ↔ (folded_label a ≡ folded_label b)
same_word a b r e = grind (arith, lowercase_folds_all)

-- the bits that a letter's cases share
caseless : (c : ℕ) → c < 256 → bit_and (folded_octet c) 223 ≡ bit_and c 223
caseless c less = eqb-true (bit_and (folded_octet c) 223) (bit_and c 223) (agree_below_at (λ k. bit_and (folded_octet k) 223 == bit_and k 223) (λ _. true) 256 c refl less)

-- words that are equal in any case begin with the same of these bits
pub first_alike : (word wanted others more : List ℕ) (a b : ℕ) → word ≡ a ∷ others → wanted ≡ b ∷ more → ((i : ℕ) → Fits w8 (get_or word i 0)) → ((i : ℕ) → Fits w8 (get_or wanted i 0)) → folded_label word ≡ folded_label wanted → nat_eq (bit_and a 223) (bit_and b 223) ≡ true
first_alike word wanted others more a b is other short shorter same =
    let folds : folded_label (a ∷ others) ≡ folded_label (b ∷ more) = ap folded_label (sym is) ∙ same ∙ ap folded_label other in
    let first : folded_octet a ≡ folded_octet b = cc folds in
    let fit : a < 256 = (subst (λ t. Fits w8 (get_or t 0 0)) is (short 0)).fits in
    let fits : b < 256 = (subst (λ t. Fits w8 (get_or t 0 0)) other (shorter 0)).fits in
    eq-eqb (bit_and a 223) (bit_and b 223) (sym (caseless a fit) ∙ ap (λ c. bit_and c 223) first ∙ caseless b fits)

-- the test of two words
pub same_test : (word name mnemonic : List ℕ) → name ≡ mnemonic → folded_label word ≡ folded_label name → bytes_eq (folded_label word) (folded_label mnemonic) ≡ true
same_test word name mnemonic e same = grind (arith, bytes_eq-Decides)

pub other_test : (word name mnemonic : List ℕ) → name ≡ mnemonic → (folded_label word ≡ folded_label name → ⊥) → bytes_eq (folded_label word) (folded_label mnemonic) ≡ false
other_test word name mnemonic e other = grind (arith, cases_Bool, bytes_eq-Decides)

-- ---- the number that a word stands for

-- the row that a word finds is that of a number
pub word_of_row : {R : Type 0} (names : R → Named) (rows : List R) (name word : List ℕ) (row : R) (n : ℕ) → ascends (map names rows) ≡ true → Some row ≡ find (λ row. bytes_eq (folded_label word) (folded_label (names row).mnemonic)) rows → n ≡ (names row).number → n < 65536 → (m : ℕ) × (IsWordAmong (map names rows) name word m × (n ≡ min 4294967296 m))
word_of_row names rows name word row n up e number short =
    let found = find_mapped names (λ row. bytes_eq (folded_label word) (folded_label row.mnemonic)) rows ∙ ap (option_map names) (sym e) in
    ((names row).number, (by_mnemonic (row_is (map names rows) up word (names row) found), omega arith))

-- a word of no row is that of a number after the name, or none
pub no_word : {R : Type 0} (names : R → Named) (rows : List R) (name word : List ℕ) → None ≡ find (λ row. bytes_eq (folded_label word) (folded_label (names row).mnemonic)) rows → ((n : ℕ) → IsNumbered name word n → ⊥) → (n : ℕ) → IsWordAmong (map names rows) name word n → ⊥
no_word names rows name word e none n (by_mnemonic is) =
    no_row (map names rows) word (find_mapped names (λ row. bytes_eq (folded_label word) (folded_label row.mnemonic)) rows ∙ ap (option_map names) (sym e)) n is
no_word names rows name word e none n (by_number is) = none n is

pub kind_refused : (word : List ℕ) (n : ℕ) → ((m : ℕ) × (IsKindWord word m × (n ≡ min 4294967296 m))) → (fault : Fault) → (n < 65536 → fault ≡ MetaType) × (65536 ≤ n → fault ≡ UnknownType) × (IsKind n → ⊥) → IsWordFault word fault
kind_refused word n found fault h = elim (cases_lt n 65536) [
  | inl lt ↦
      let e : found.0 ≡ n = omega (arith, found.1.1, lt) in
      subst (IsWordFault word) (sym (h.0 lt)) (for_queries n (subst (IsKindWord word) e found.1.0) lt h.2)
  | inr ge ↦ subst (IsWordFault word) (sym (h.1 ge)) (beyond found.0 found.1.0 (let e = found.1.1 in omega arith))
]

pub ruleset row_tests = (common_steps, same_test, other_test)
