-- The generic form: digits that join to octets, item after item, and its laws.
use Rattle.zone_rdata.proofs.Common.{choice_as, [], ◌≡◌, ℕ, ◌+◌, ◌<◌, ◌≤◌, ◌^◌, true, List, ◌∷◌, ◌++◌, length, map, Result, Ok, Err, ◌⊎◌, inl, inr, refl, sym, ap, ◌∙◌, arith, join_with_byte, cases_lt, cases_eq, decimal_digit, decimal_by_steps, append-nil, decode_of, decode_of-encode_lower, AreOctets, is_digit, Fault, RawItem, bare, quoted, generic_mark, IsGeneric, IsDecimal, StatesLength, IsGenericForm, JoinTo, StatesGeneric, GenericFault, no_length, long_length, bad_digits, digit_items, generic_items, item_text, generic_text, common_steps, decimal, FromHexError, BadGeneric, RdataTooLong, Choice, each_or_not, true_or_not, each_below, digit_test, ◌≢◌, ◌-◌, ◌/◌, get_or, drop, subst, append_assoc, length-append, drop_all, decode_of-ok, decode_of-same, Item, raw, Appends, from_place, err_from_is_err_and, length-map}
use Rattle.zone_rdata.specs.Machine.GenericLength.{LengthFault, no_number, beyond}

-- two digits for each octet
pub half_length : (text front : List ℕ) → decode_of text ≡ Ok front → length front ≡ length text / 2
half_length text front e = let twice = (decode_of-ok text front e).2 in omega arith

-- items are digits of one list of octets
pub JoinTo-once : (items : List RawItem) (a b : List ℕ) → JoinTo items a → JoinTo items b → a ≡ b
JoinTo-once [] a b x y = x ∙ sym y
JoinTo-once (item ∷ items) a b x y = grind (arith, JoinTo-once items)

-- the items up to a place join to the octets, and those from it on to what follows
pub record HaveJoined (items : List RawItem) (rest : List RawItem) (octets : List ℕ) : Type 0 where
  pub leads : (more : List ℕ) → JoinTo rest more → JoinTo items (octets ++ more)
  pub back : (whole : List ℕ) → JoinTo items whole → (more : List ℕ) × JoinTo rest more × (whole ≡ octets ++ more)

joined_step : (items rest : List RawItem) (text octets front new : List ℕ) → HaveJoined items (bare text ∷ rest) octets → decode_of text ≡ Ok front → new ≡ octets ++ front → HaveJoined items rest new
joined_step items rest text octets front new joined e grown = grind (arith, append_assoc, decode_of-same)

pub joined_more : (items : List Item) (i : ℕ) (item d : Item) (text octets new : List ℕ) → i < length items → item ≡ get_or items i d → raw item ≡ bare text → HaveJoined (map raw items) (map raw (drop i items)) octets → Appends (λ front. decode_of text ≡ Ok front) (λ front. front) octets new → HaveJoined (map raw items) (map raw (drop (i + 1) items)) new
joined_more items i item d text octets new lt found is joined grows = grind (arith, common_steps, from_place, joined_step)

next_front : (items : List Item) (i : ℕ) (item d : Item) (text octets : List ℕ) → i < length items → item ≡ get_or items i d → raw item ≡ bare text → HaveJoined (map raw items) (map raw (drop i items)) octets → (whole : List ℕ) → JoinTo (map raw items) whole → (front : List ℕ) × (rest : List ℕ) × (decode_of text ≡ Ok front) × (whole ≡ octets ++ (front ++ rest))
next_front items i item d text octets lt found is joined whole h = grind (arith, from_place)

-- an item with another character, or of odd length, joins to nothing
pub joined_bad : (items : List Item) (i : ℕ) (item d : Item) (text octets : List ℕ) → i < length items → item ≡ get_or items i d → raw item ≡ bare text → HaveJoined (map raw items) (map raw (drop i items)) octets → ((front : List ℕ) → decode_of text ≢ Ok front) → (whole : List ℕ) → JoinTo (map raw items) whole → ⊥
joined_bad items i item d text octets lt found is joined bad whole h = grind (arith, next_front)

-- an item of too many digits joins to too many octets
pub joined_over : (items : List Item) (i : ℕ) (item d : Item) (text octets : List ℕ) (len : ℕ) → i < length items → item ≡ get_or items i d → raw item ≡ bare text → HaveJoined (map raw items) (map raw (drop i items)) octets → length octets ≤ len → len - length octets < length text / 2 → (whole : List ℕ) → JoinTo (map raw items) whole → length whole ≢ len
joined_over items i item d text octets len lt found is joined room over whole h e = grind (arith, next_front, half_length, length-append)

-- at the end all of it is joined
pub joined_all : (items : List Item) (i : ℕ) (octets : List ℕ) → length items ≤ i → HaveJoined (map raw items) (map raw (drop i items)) octets → JoinTo (map raw items) octets
joined_all items i octets past joined = grind (arith, drop_all i items past, append-nil octets)

-- ---- the form
pub form_faults : (items digits : List RawItem) (item : RawItem) (fault : Fault) → items ≡ generic_mark ∷ item ∷ digits → LengthFault item fault → GenericFault items fault
form_faults items digits item _ e (no_number none) = no_length (item ∷ digits, e) (λ n more form. none n (subst (λ i. StatesLength i n) (let same : form.item ≡ item = cc (sym form.parts ∙ e) in same) form.states))
form_faults items digits item _ e (beyond n states over) = long_length n digits (record { item = item; parts = e; states = states }) over

pub form_missing : (items : List RawItem) → IsGeneric items → length items ≤ 1 → GenericFault items BadGeneric
form_missing items marked short = grind (arith, no_length)

pub form_digits : (items digits : List RawItem) (item : RawItem) (n : ℕ) (fault : Fault) → items ≡ generic_mark ∷ item ∷ digits → StatesLength item n → n ≤ 65535 → (fault ≡ BadGeneric) × ((octets : List ℕ) → JoinTo digits octets → length octets ≢ n) → GenericFault items fault
form_digits items digits item n fault e states short bad =
    subst (GenericFault items) (sym bad.0) (bad_digits n digits (record { item = item; parts = e; states = states }) short bad.1)

pub form_parts : (items : List Item) (d : Item) → 2 ≤ length items → IsGeneric (map raw items) → map raw items ≡ generic_mark ∷ raw (get_or items 1 d) ∷ map raw (drop 2 items)
form_parts items d two marked = grind arith

pub ruleset generic_read = (no_number, beyond, form_faults, form_missing, form_parts, length-map)

-- ---- its laws

-- two forms of the same items
forms_digits : (items : List RawItem) (m n : ℕ) (a b : List RawItem) → IsGenericForm items m a → IsGenericForm items n b → a ≡ b
forms_digits items m n a b f g = grind arith

forms_length : (items : List RawItem) (m n : ℕ) (a b : List RawItem) → IsGenericForm items m a → IsGenericForm items n b → m ≡ n
forms_length items m n a b f g = grind arith

pub generic_once : (items : List RawItem) (a b : List ℕ) → StatesGeneric items a → StatesGeneric items b → a ≡ b
generic_once items a b x y = grind (arith, forms_digits, JoinTo-once)

pub generic_never_both : (items : List RawItem) (octets : List ℕ) (fault : Fault) → StatesGeneric items octets → GenericFault items fault → ⊥
generic_never_both items octets _ x (no_length marked none) = none (length octets) x.digits x.form
generic_never_both items octets _ x (long_length n digits form over) = grind (arith, forms_length)
generic_never_both items octets _ x (bad_digits n digits form short bad) = grind (arith, forms_digits, forms_length)

pub generic_fault_once : (items : List RawItem) (a b : Fault) → GenericFault items a → GenericFault items b → a ≡ b
generic_fault_once items _ _ (no_length marked none) (long_length n digits form over) = absurd (none n digits form)
generic_fault_once items _ _ (long_length n digits form over) (no_length marked none) = absurd (none n digits form)
generic_fault_once items _ _ (long_length n digits form over) (bad_digits m more form' short bad) = absurd (omega (arith, forms_length items n m digits more form form'))
generic_fault_once items _ _ (bad_digits m more form' short bad) (long_length n digits form over) = absurd (omega (arith, forms_length items n m digits more form form'))
generic_fault_once items _ _ _ _ = refl

-- ---- a text is a decimal number or none
pub decimal_or_not : (text : List ℕ) → Choice (IsDecimal text)
decimal_or_not text = grind (arith, each_or_not (λ d. is_digit d ≡ true) (λ d. true_or_not (is_digit d)) text, cases_lt 0 (length text))

length_or_fault : (item : RawItem) → ((n : ℕ) × StatesLength item n × (n ≤ 65535)) ⊎ ((fault : Fault) × LengthFault item fault)
length_or_fault (quoted text) = inr (BadGeneric, no_number (λ n h. h))
length_or_fault (bare text) = elim (decimal_or_not text) [
  | inr none ↦ inr (BadGeneric, no_number none)
  | inl found ↦ elim (cases_lt 65535 found.0) [
    | inl over ↦ inr (RdataTooLong, beyond found.0 found.1 over)
    | inr short ↦ inl (found.0, found.1, short)
  ]
]

-- ---- items join to octets or to none
joins_by : (text : List ℕ) (items : List RawItem) (found : Result (List ℕ) FromHexError) → decode_of text ≡ found → Choice (JoinTo items) → Choice (JoinTo (bare text ∷ items))
joins_by text items (Ok front) e rest = choice_as (λ more. front ++ more) (λ more h. (front, more, e, refl, h)) (λ none octets h. none h.1 h.4) rest
joins_by text items (Err error) e rest = grind arith

joins_or_not : (items : List RawItem) → Choice (JoinTo items)
joins_or_not [] = inl ([], refl)
joins_or_not (bare text ∷ items) = joins_by text items (decode_of text) refl (joins_or_not items)
joins_or_not (quoted text ∷ items) = inr (λ octets h. h)

digits_by : (items digits : List RawItem) (item : RawItem) (n : ℕ) → items ≡ generic_mark ∷ item ∷ digits → StatesLength item n → n ≤ 65535 → Choice (JoinTo digits) → ((octets : List ℕ) × StatesGeneric items octets) ⊎ ((fault : Fault) × GenericFault items fault)
digits_by items digits item n e states short (inl joined) = elim (cases_eq (length joined.0) n) [
  | inl count ↦ inl (joined.0, grind (arith, joined.1))
  | inr other ↦ inr (BadGeneric, bad_digits n digits (record { item = item; parts = e; states = states }) short (λ octets h count. other (ap length (JoinTo-once digits joined.0 octets joined.1 h) ∙ count)))
]
digits_by items digits item n e states short (inr none) =
    inr (BadGeneric, bad_digits n digits (record { item = item; parts = e; states = states }) short (λ octets h count. none octets h))

pub generic_or_fault : (items : List RawItem) → IsGeneric items → ((octets : List ℕ) × StatesGeneric items octets) ⊎ ((fault : Fault) × GenericFault items fault)
generic_or_fault items ([], e) = inr (BadGeneric, form_missing items ([], e) (omega (arith, ap length e)))
generic_or_fault items (item ∷ digits, e) = elim (length_or_fault item) [
  | inl found ↦ digits_by items digits item found.0 e found.1 found.2 (joins_or_not digits)
  | inr fault ↦ inr (fault.0, form_faults items digits item fault.0 e fault.1)
]

-- ---- what is printed
one_digit : (n : ℕ) → n < 10 → IsDecimal ((48 + n) ∷ []) n
one_digit n h = record { some = omega arith; digits = (digit_test n h, tt); value = omega arith }

pub decimal-is : (n : ℕ) → n < 2 ^ 64 → IsDecimal (decimal n) n
decimal-is n h = decimal_by_steps (λ n text. IsDecimal text n) one_digit (λ n digits h is. grind (arith, common_steps)) n h

printed_joins : (octets : List ℕ) → AreOctets octets → JoinTo (digit_items octets) octets
printed_joins [] each = refl
printed_joins (c ∷ octets) each = (c ∷ octets, [], decode_of-encode_lower (c ∷ octets) (each_below 256 (c ∷ octets) (omega arith) each), sym (append-nil (c ∷ octets)), refl)

pub printed_stated : (octets : List ℕ) → AreOctets octets → length octets ≤ 65535 → StatesGeneric (generic_items octets) octets
printed_stated octets each short = grind (arith, decimal-is (length octets) (omega arith), printed_joins octets each)

pub printed_text : (octets : List ℕ) → generic_text octets ≡ join_with_byte 32 (map item_text (generic_items octets))
printed_text octets = grind (arith, decimal_digit)

pub ruleset printed_generic = (printed_stated, printed_text)
