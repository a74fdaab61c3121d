-- A word is that of one class or of none, and that of one type or of none.
use Rattle.zone_rdata.proofs.Common.{◌≡◌, ℕ, Bool, true, false, not, List, ◌++◌, length, take, codes, refl, sym, ap, ◌∙◌, subst, arith, ◌==◌, Option, Some, None, bytes_eq, list_all, eqb-true, not-true, false≢true, map-append, length-map, take_at, bytes_eq-Decides, folded_octet, folded_label, Named, classes, type_names, number_among, IsKind, IsMnemonic, IsNumbered, IsWordAmong, by_mnemonic, by_number, IsClassWord, IsKindWord, IsWordFault, nameless, beyond, for_queries, Fault, drop-append_seam, ◌<◌, drop, ◌⊎◌, inl, inr, find, cases_lt, drop_at, take-append-drop, IsDecimal, ascends, is_meta, UnknownType, MetaType, Choice, Decided, choice_as, true_or_not}
use Rattle.zone_rdata.proofs.Words.Tables.{each_mnemonic, row_is, no_row}
use Rattle.zone_rdata.proofs.Items.GenericLaws.{decimal_or_not}

-- a name and a number right after it

pub numbered_once : (name word : List ℕ) (a b : ℕ) → IsNumbered name word a → IsNumbered name word b → a ≡ b
numbered_once name word a b x y = cc (length-map x.front folded_octet, length-map y.front folded_octet, drop-append_seam x.front x.digits, drop-append_seam y.front y.digits)

numbered_front : (name word : List ℕ) (n : ℕ) (x : IsNumbered name word n) → folded_label word ≡ folded_label name ++ folded_label x.digits
numbered_front name word n x = grind (arith, map-append)

-- a mnemonic of a table

unfoldable pub is_number : ℕ → Option ℕ → Bool
is_number n None = false
is_number n (Some m) = m == n

-- each mnemonic is that of its number alone
unfoldable pub own_numbers : List Named → Bool
own_numbers rows = list_all (λ row. is_number row.number (number_among rows row.mnemonic)) rows

-- no mnemonic begins with the name
unfoldable pub unlike : List ℕ → List Named → Bool
unlike name rows = list_all (λ row. not (bytes_eq (take (length name) (folded_label row.mnemonic)) (folded_label name))) rows

the_number : (n : ℕ) (found : Option ℕ) → is_number n found ≡ true → found ≡ Some n
unfolding is_number
the_number n found e = grind (arith, eqb-true)

mnemonic_number : (rows : List Named) → own_numbers rows ≡ true → (word : List ℕ) (n : ℕ) → IsMnemonic rows word n → number_among rows word ≡ Some n
unfolding own_numbers
mnemonic_number rows own word n x = grind (arith, the_number n (number_among rows x.name) (each_mnemonic (λ n name. is_number n (number_among rows name)) rows own n x.name x.row), x.same)

pub mnemonic_once : (rows : List Named) → own_numbers rows ≡ true → (word : List ℕ) (a b : ℕ) → IsMnemonic rows word a → IsMnemonic rows word b → a ≡ b
mnemonic_once rows own word a b x y = cc (mnemonic_number rows own word a x, mnemonic_number rows own word b y)

mnemonic_or_numbered : (rows : List Named) (name : List ℕ) → unlike name rows ≡ true → (word : List ℕ) (a b : ℕ) → IsMnemonic rows word a → IsNumbered name word b → ⊥
unfolding unlike
mnemonic_or_numbered rows name apart word a b x y =
    let other = not-true _ (each_mnemonic (λ _ m. not (bytes_eq (take (length name) (folded_label m)) (folded_label name))) rows apart a x.name x.row) in
    let front = ap (take (length name)) (sym x.same ∙ numbered_front name word b y) ∙ take_at (folded_label name) (folded_label y.digits) (length name) (length-map name folded_octet) in
    false≢true (sym other ∙ (bytes_eq-Decides (take (length name) (folded_label x.name)) (folded_label name)).1 front)

-- a class's mnemonic finds its number
pub class_number : (word : List ℕ) (n : ℕ) → IsMnemonic classes word n → number_among classes word ≡ Some n
unfolding is_number own_numbers
class_number = mnemonic_number classes refl

-- words

pub word_once : (rows : List Named) (name : List ℕ) → own_numbers rows ≡ true → unlike name rows ≡ true → (word : List ℕ) (a b : ℕ) → IsWordAmong rows name word a → IsWordAmong rows name word b → a ≡ b
word_once rows name own apart word a b (by_mnemonic x) y = grind (arith, mnemonic_once rows own word a b x, mnemonic_or_numbered rows name apart word a b x)
word_once rows name own apart word a b (by_number x) y = grind (arith, mnemonic_or_numbered rows name apart word b a, numbered_once name word a b x)

pub class_word_once : (word : List ℕ) (a b : ℕ) → IsClassWord word a → IsClassWord word b → a ≡ b
unfolding is_number own_numbers unlike
class_word_once = word_once classes (codes "CLASS") refl refl

pub kind_word_once : (word : List ℕ) (a b : ℕ) → IsKindWord word a → IsKindWord word b → a ≡ b
unfolding is_number own_numbers unlike
kind_word_once = word_once type_names (codes "TYPE") refl refl

pub kind_or_fault : (word : List ℕ) (n : ℕ) (fault : Fault) → IsKindWord word n → IsKind n → IsWordFault word fault → ⊥
kind_or_fault word n fault x kind (nameless none) = none n x
kind_or_fault word n fault x kind (beyond m y over) = let same : n ≡ m = kind_word_once word n m x y in absurd (let short = kind.short in omega arith)
kind_or_fault word n fault x kind (for_queries m y short none) = none (subst IsKind (kind_word_once word n m x y) kind)

pub kind_fault_once : (word : List ℕ) (f g : Fault) → IsWordFault word f → IsWordFault word g → f ≡ g
kind_fault_once word _ _ (nameless nothing) (nameless nothing') = refl
kind_fault_once word _ _ (nameless nothing) (beyond n x over) = refl
kind_fault_once word _ _ (nameless nothing) (for_queries m y short none) = absurd (nothing m y)
kind_fault_once word _ _ (beyond n x over) (nameless nothing) = refl
kind_fault_once word _ _ (beyond n x over) (beyond m y over') = refl
kind_fault_once word _ _ (beyond n x over) (for_queries m y short none) = absurd (omega (arith, kind_word_once word m n y x))
kind_fault_once word _ _ (for_queries m y short none) (nameless nothing) = absurd (nothing m y)
kind_fault_once word _ _ (for_queries m y short none) (beyond n x over) = absurd (omega (arith, kind_word_once word m n y x))
kind_fault_once word _ _ (for_queries m y short none) (for_queries n x short' none') = refl

-- ---- of one or of none

-- two texts are equal or not
pub same_or_not : (a b : List ℕ) → Decided (a ≡ b)
same_or_not a b = grind (arith, true_or_not (bytes_eq a b), bytes_eq-Decides)

-- ---- a mnemonic
mnemonic_by : (rows : List Named) → ascends rows ≡ true → (word : List ℕ) (found : Option Named) → find (λ row. bytes_eq (folded_label word) (folded_label row.mnemonic)) rows ≡ found → Choice (IsMnemonic rows word)
mnemonic_by rows up word None e = inr (no_row rows word e)
mnemonic_by rows up word (Some row) e = inl (row.number, row_is rows up word row e)

pub mnemonic_or_not : (rows : List Named) → ascends rows ≡ true → (word : List ℕ) → Choice (IsMnemonic rows word)
mnemonic_or_not rows up word = mnemonic_by rows up word (find (λ row. bytes_eq (folded_label word) (folded_label row.mnemonic)) rows) refl

-- ---- a name and a number right after it
front_is : (name word : List ℕ) (n : ℕ) (x : IsNumbered name word n) → length x.front ≡ length name
front_is name word n x = grind (arith, length-map)

take_is : (name word : List ℕ) (n : ℕ) (x : IsNumbered name word n) → take (length name) word ≡ x.front
take_is name word n x = cc (take_at x.front x.digits (length name) (front_is name word n x))

drop_is : (name word : List ℕ) (n : ℕ) (x : IsNumbered name word n) → drop (length name) word ≡ x.digits
drop_is name word n x = cc (drop_at x.front x.digits (length name) (front_is name word n x))

numbered_or_not : (name word : List ℕ) → Choice (IsNumbered name word)
numbered_or_not name word =
    let front = take (length name) word in
    let digits = drop (length name) word in
    elim (same_or_not (folded_label front) (folded_label name)) [
      | inr other ↦ inr (λ n x. other (ap folded_label (take_is name word n x) ∙ x.named))
      | inl same ↦ choice_as (λ n. n) (λ n h. record { front = front; digits = digits; parts = sym (take-append-drop (length name) word); named = same; number = h }) (λ none n x. none n (subst (λ t. IsDecimal t n) (sym (drop_is name word n x)) x.number)) (decimal_or_not digits)
    ]

-- ---- words
word_by : (rows : List Named) (name word : List ℕ) → Choice (IsMnemonic rows word) → Choice (IsNumbered name word) → Choice (IsWordAmong rows name word)
word_by rows name word (inl found) numbered = inl (found.0, by_mnemonic found.1)
word_by rows name word (inr none) (inl found) = inl (found.0, by_number found.1)
word_by rows name word (inr none) (inr none') = inr (λ n h. elim h [ by_mnemonic x ↦ none n x | by_number x ↦ none' n x ])

pub word_or_not : (rows : List Named) (name : List ℕ) → ascends rows ≡ true → (word : List ℕ) → Choice (IsWordAmong rows name word)
word_or_not rows name up word = word_by rows name word (mnemonic_or_not rows up word) (numbered_or_not name word)

pub class_or_not : (word : List ℕ) → Choice (IsClassWord word)
class_or_not word = word_or_not classes (codes "CLASS") refl word

stored_by : (word : List ℕ) (n : ℕ) (meta : Bool) → is_meta n ≡ meta → IsKindWord word n → n < 65536 → ((n : ℕ) × (IsKindWord word n × IsKind n)) ⊎ ((fault : Fault) × IsWordFault word fault)
stored_by word n true e x short = inr (MetaType, for_queries n x short (λ kind. false≢true (sym kind.stored ∙ e)))
stored_by word n false e x short = inl (n, (x, record { short = short; stored = e }))

pub kind_or_word_fault : (word : List ℕ) → ((n : ℕ) × (IsKindWord word n × IsKind n)) ⊎ ((fault : Fault) × IsWordFault word fault)
kind_or_word_fault word = elim (word_or_not type_names (codes "TYPE") refl word) [
  | inr none ↦ inr (UnknownType, nameless none)
  | inl found ↦ elim (cases_lt found.0 65536) [
    | inl short ↦ stored_by word found.0 (is_meta found.0) refl found.1 short
    | inr over ↦ inr (UnknownType, beyond found.0 found.1 over)
  ]
]
