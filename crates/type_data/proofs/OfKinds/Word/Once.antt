-- Words of types and of other numbers: each has one number at most.
use Rattle.type_data.proofs.Common.{Bool, IfNone, IfSome, IsAlgorithm, IsCapped, IsDecimal, IsKind, IsMnemonic, IsNumberOrMnemonic, IsNumbered, IsTypeWord, IsWordAmong, List, Named, None, NothingIs, Option, Some, [], algorithms, ap, arith, by_mnemonic, by_number, bytes_eq, bytes_eq-Decides, certificate_types, codes, each_mnemonic, false, false≢true, folded_label, further_algorithms, inl, inr, is_number, list_all, mnemonic_once, nat_tests, not, not-true, notify_schemes, numbered_once, own_numbers, refl, registered_types, subst, sym, true, unlike, word_once, ℕ, ◌++◌, ◌<◌, ◌∙◌, ◌∷◌, ◌≡◌, early_types, late_types, signed_types}
use Rattle.zone_name.specs.Spelling.{is_digit}

abbrev IsWord : List ℕ → ℕ → Type 0
IsWord word n = IsWordAmong registered_types (codes "TYPE") word n

pub word_of_type_once : (word : List ℕ) (m n : ℕ) → IsWord word m → IsWord word n → m ≡ n
unfolding is_number own_numbers unlike early_types late_types signed_types
word_of_type_once word = word_once registered_types (codes "TYPE") refl refl word

-- a word is that of one type at most
pub type_word_once : (word : List ℕ) (m n : ℕ) → IsTypeWord word m → IsTypeWord word n → m ≡ n
type_word_once word m n a b = word_of_type_once word m n a.named b.named

pub no_type : (word : List ℕ) → NothingIs (IsWord word) → NothingIs (IsTypeWord word)
no_type word none n is = none n is.named

pub a_type : (word : List ℕ) (n k : ℕ) → IsCapped (IsWord word) n → k ≡ n → IsKind n → IsTypeWord word k
a_type word n k capped same kind =
    let short : n < 65536 = kind.short in
    let own : capped.0 ≡ k = let e = capped.1.1 in omega arith in
    record { named = subst (IsWord word) own capped.1.0; kind = subst IsKind (sym same) kind }

-- what becomes of the number that a word has
pub type_found : (word : List ℕ) (n : ℕ) (r : Option ℕ) → IsCapped (IsWord word) n → IfSome r (λ k. (k ≡ n) × IsKind n) → IfSome r (IsTypeWord word)
type_found word n None capped h = h
type_found word n (Some k) capped h = a_type word n k capped h.0 h.1

pub no_type_found : (word : List ℕ) (n : ℕ) (r : Option ℕ) → IsCapped (IsWord word) n → IfNone r (IsKind n → ⊥) → IfNone r (NothingIs (IsTypeWord word))
no_type_found word n None capped h = λ m is. let same : capped.0 ≡ m = word_of_type_once word capped.0 m capped.1.0 is.named in let short : m < 65536 = is.kind.short in let own : n ≡ m = let e = capped.1.1 in omega arith in h (subst IsKind (sym own) is.kind)
no_type_found word n (Some k) capped h = h

-- ---- digits, or a mnemonic

-- a digit comes first
begins_with_digit : List ℕ → Bool
begins_with_digit [] = false
begins_with_digit (c ∷ text) = is_digit c

-- no mnemonic begins with a digit
letters_first : List Named → Bool
letters_first rows = list_all (λ row. not (begins_with_digit (folded_label row.mnemonic))) rows

digits_first : (text : List ℕ) (n : ℕ) → IsDecimal text n → begins_with_digit (folded_label text) ≡ true
unfolding begins_with_digit
digits_first [] n is = absurd (let some = is.some in omega arith)
digits_first (c ∷ text) n is = grind (arith, nat_tests)

no_front : (front : List ℕ) → folded_label front ≡ [] → front ≡ []
no_front [] e = refl
no_front (c ∷ front) e = absurd (let t : folded_label (c ∷ front) ≡ [] = e in cc)

digits_alone : (word : List ℕ) (n : ℕ) → IsNumbered [] word n → IsDecimal word n
digits_alone word n is =
    let none : is.front ≡ [] = no_front is.front is.named in
    let same : is.digits ≡ word = ap (λ f. f ++ is.digits) (sym none) ∙ sym is.parts in
    subst (λ t. IsDecimal t n) same is.number

mnemonic_or_digits : (rows : List Named) → letters_first rows ≡ true → (word : List ℕ) (m n : ℕ) → IsMnemonic rows word m → IsNumbered [] word n → ⊥
unfolding letters_first
mnemonic_or_digits rows letters word m n x y =
    let other = not-true _ (each_mnemonic (λ _ name. not (begins_with_digit (folded_label name))) rows letters m x.name x.row) in
    false≢true (sym other ∙ ap begins_with_digit (sym x.same) ∙ digits_first word n (digits_alone word n y))

number_or_mnemonic_once : (rows : List Named) → own_numbers rows ≡ true → letters_first rows ≡ true → (word : List ℕ) (m n : ℕ) → IsNumberOrMnemonic rows word m → IsNumberOrMnemonic rows word n → m ≡ n
number_or_mnemonic_once rows own letters word m n (by_mnemonic x) (by_mnemonic y) = mnemonic_once rows own word m n x y
number_or_mnemonic_once rows own letters word m n (by_mnemonic x) (by_number y) = absurd (mnemonic_or_digits rows letters word m n x y)
number_or_mnemonic_once rows own letters word m n (by_number x) (by_mnemonic y) = absurd (mnemonic_or_digits rows letters word n m y x)
number_or_mnemonic_once rows own letters word m n (by_number x) (by_number y) = numbered_once [] word m n x y

pub certificate_type_once : (word : List ℕ) (m n : ℕ) → IsNumberOrMnemonic certificate_types word m → IsNumberOrMnemonic certificate_types word n → m ≡ n
unfolding is_number own_numbers letters_first begins_with_digit
certificate_type_once = number_or_mnemonic_once certificate_types refl refl

pub notify_scheme_once : (word : List ℕ) (m n : ℕ) → IsNumberOrMnemonic notify_schemes word m → IsNumberOrMnemonic notify_schemes word n → m ≡ n
unfolding is_number own_numbers letters_first begins_with_digit
notify_scheme_once = number_or_mnemonic_once notify_schemes refl refl

-- ---- algorithms, of two tables

registered_algorithm_once : (word : List ℕ) (m n : ℕ) → IsNumberOrMnemonic algorithms word m → IsNumberOrMnemonic algorithms word n → m ≡ n
unfolding is_number own_numbers letters_first begins_with_digit
registered_algorithm_once = number_or_mnemonic_once algorithms refl refl

further_algorithm_once : (word : List ℕ) (m n : ℕ) → IsMnemonic further_algorithms word m → IsMnemonic further_algorithms word n → m ≡ n
unfolding is_number own_numbers
further_algorithm_once = mnemonic_once further_algorithms refl

no_further_digits : (word : List ℕ) (m n : ℕ) → IsMnemonic further_algorithms word m → IsNumbered [] word n → ⊥
unfolding letters_first begins_with_digit
no_further_digits = mnemonic_or_digits further_algorithms refl

-- a mnemonic stands in no row
is_unlike : List Named → List ℕ → Bool
is_unlike rows name = list_all (λ row. not (bytes_eq (folded_label name) (folded_label row.mnemonic))) rows

no_mnemonic_of_both : (word : List ℕ) (m n : ℕ) → IsMnemonic algorithms word m → IsMnemonic further_algorithms word n → ⊥
unfolding is_unlike
no_mnemonic_of_both word m n x y =
    let apart = each_mnemonic (λ _ name. is_unlike further_algorithms name) algorithms refl m x.name x.row in
    let other = not-true _ (each_mnemonic (λ _ name. not (bytes_eq (folded_label x.name) (folded_label name))) further_algorithms apart n y.name y.row) in
    false≢true (sym other ∙ (bytes_eq-Decides (folded_label x.name) (folded_label y.name)).1 (sym x.same ∙ y.same))

no_number_of_both : (word : List ℕ) (m n : ℕ) → IsNumberOrMnemonic algorithms word m → IsMnemonic further_algorithms word n → ⊥
no_number_of_both word m n (by_mnemonic x) y = no_mnemonic_of_both word m n x y
no_number_of_both word m n (by_number x) y = no_further_digits word n m y x

pub algorithm_once : (word : List ℕ) (m n : ℕ) → IsAlgorithm word m → IsAlgorithm word n → m ≡ n
algorithm_once word m n (inl x) (inl y) = registered_algorithm_once word m n x y
algorithm_once word m n (inl x) (inr y) = absurd (no_number_of_both word m n x y)
algorithm_once word m n (inr x) (inl y) = absurd (no_number_of_both word n m y x)
algorithm_once word m n (inr x) (inr y) = further_algorithm_once word m n x y

-- what is found in the one table or the other
pub an_algorithm : (word : List ℕ) (n : ℕ) → IsCapped (IsNumberOrMnemonic algorithms word) n → IsCapped (IsAlgorithm word) n
an_algorithm word n is = (is.0, (inl is.1.0, is.1.1))

of_further : (word : List ℕ) (n : ℕ) → IsNumberOrMnemonic further_algorithms word n → IsAlgorithm word n
of_further word n (by_mnemonic x) = inr x
of_further word n (by_number x) = inl (by_number x)

pub a_further_algorithm : (word : List ℕ) (found : Option ℕ) → IfSome found (IsCapped (IsNumberOrMnemonic further_algorithms word)) → IfSome found (IsCapped (IsAlgorithm word))
a_further_algorithm word None is = is
a_further_algorithm word (Some n) is = (is.0, (of_further word is.0 is.1.0, is.1.1))

pub no_algorithm : (word : List ℕ) (found : Option ℕ) → NothingIs (IsNumberOrMnemonic algorithms word) → IfNone found (NothingIs (IsNumberOrMnemonic further_algorithms word)) → IfNone found (NothingIs (IsAlgorithm word))
no_algorithm word None none h = λ n is. elim is [ inl x ↦ none n x | inr x ↦ h n (by_mnemonic x) ]
no_algorithm word (Some m) none h = h
