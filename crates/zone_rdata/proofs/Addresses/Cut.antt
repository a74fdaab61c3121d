-- Addresses in text, cut at dots and colons.
use Rattle.zone_rdata.proofs.Common.{[], ◌≡◌, ◌≢◌, ℕ, suc, ◌-◌, ◌==◌, Bool, true, false, inl, inr, List, ◌∷◌, ◌++◌, length, replicate, refl, sym, ap, ◌∙◌, subst, arith, AllByRecursion, AllZip, All, join_with_byte, slice_split, ne_eqb, drop_at, All-drop, All-from_recursion, recursion_from_All, is_hex_digit, IsOk-decode_sized, is_digit, IsOctetNumber, AreNumbers, AddressPart, IsGroup, IsLastPart, Lacks, IsCutAtFirst, AllByRecursion-append, join_with_byte-slice_split, slice_split_at, slice_split_none, each_weaker}

-- ---- cutting

-- the texts between which an octet stands
abbrev pub split : ℕ → List ℕ → List (List ℕ)
split c text = slice_split (λ b. b == c) text

misses : (c : ℕ) (text : List ℕ) → Lacks c text → All (λ b. (b == c) ≡ false) text
misses c text lacks = All-from_recursion _ text (each_weaker _ (λ d other. ne_eqb d c other) text lacks)

pub split_lacks : (c : ℕ) (text : List ℕ) → Lacks c text → split c text ≡ text ∷ []
split_lacks c text lacks = slice_split_none _ text (misses c text lacks)

pub split_cut : (c : ℕ) (text front back : List ℕ) → IsCutAtFirst c text front back → split c text ≡ front ∷ split c back
split_cut c text front back cut = ap (split c) cut.parted ∙ slice_split_at _ front c back (misses c front cut.lacks) (grind arith)

pub split_join : (c : ℕ) (text : List ℕ) (texts : List (List ℕ)) → AllByRecursion (Lacks c) (text ∷ texts) → split c (join_with_byte c (text ∷ texts)) ≡ text ∷ texts
split_join c text [] lacks = split_lacks c text lacks.0
split_join c text (next ∷ texts) lacks = grind (arith, split_join c next texts lacks.1, split_cut)

-- ---- numbers

pub number_lacks : (c : ℕ) (text : List ℕ) (n : ℕ) → is_digit c ≡ false → IsOctetNumber text n → Lacks c text
number_lacks c text n miss is = each_weaker (λ d. d ≢ c) (λ d hit e. cc (sym hit ∙ ap is_digit e ∙ miss)) text is.number.digits

dots_lack : (texts : List (List ℕ)) (octets : List ℕ) → AllZip IsOctetNumber texts octets → AllByRecursion (Lacks 46) texts
dots_lack (text ∷ texts) (n ∷ octets) each = (number_lacks 46 text n refl each.0, dots_lack texts octets each.1)
dots_lack texts octets each = grind arith

parts_by : (count : ℕ) (text octets : List ℕ) (numbers : List (List ℕ)) → length numbers ≡ suc count → text ≡ join_with_byte 46 numbers → AllZip IsOctetNumber numbers octets → (length (split 46 text) ≡ suc count) × AllZip IsOctetNumber (split 46 text) octets
parts_by count text octets [] counted parted each = absurd (omega arith)
parts_by count text octets (first ∷ numbers) counted parted each = grind (arith, split_join, dots_lack (first ∷ numbers) octets each)

-- numbers are what stands between the dots
pub numbers_parts : (count : ℕ) (text octets : List ℕ) → AreNumbers (suc count) text octets → (length (split 46 text) ≡ suc count) × AllZip IsOctetNumber (split 46 text) octets
numbers_parts count text octets are = parts_by count text octets are.numbers are.counted are.parted are.each

pub parts_numbers : (count : ℕ) (text octets : List ℕ) → length (split 46 text) ≡ count → AllZip IsOctetNumber (split 46 text) octets → AreNumbers count text octets
parts_numbers count text octets counted each = record { numbers = split 46 text; counted = counted; parted = sym (join_with_byte-slice_split 46 text); each = each }

pub zip_first : (text : List ℕ) (texts : List (List ℕ)) (octets : List ℕ) → AllZip IsOctetNumber (text ∷ texts) octets → (n : ℕ) × (more : List ℕ) × IsOctetNumber text n × AllZip IsOctetNumber texts more
zip_first text texts octets each = grind arith

-- the first number stands before the first dot, the others after it
pub numbers_more : (count : ℕ) (text front rest octets : List ℕ) (n : ℕ) → IsCutAtFirst 46 text front rest → IsOctetNumber front n → AreNumbers (suc count) rest octets → AreNumbers (suc (suc count)) text (n ∷ octets)
numbers_more count text front rest octets n cut is are = grind (arith, numbers_parts, split_cut, parts_numbers)

numbers_cut : (count : ℕ) (text front rest octets : List ℕ) → IsCutAtFirst 46 text front rest → AreNumbers (suc (suc count)) text octets → (n : ℕ) × (more : List ℕ) × IsOctetNumber front n × AreNumbers (suc count) rest more
numbers_cut count text front rest octets cut are =
    let parts = numbers_parts (suc count) text octets are in
    let whole = split_cut 46 text front rest cut in
    grind (arith, numbers_parts, split_cut, zip_first, parts_numbers)

-- several numbers have a dot
pub numbers_none : (text : List ℕ) → Lacks 46 text → (count : ℕ) (octets : List ℕ) → AreNumbers (suc (suc count)) text octets → ⊥
numbers_none text lacks count octets are = omega (arith, (numbers_parts (suc count) text octets are).0, ap length (split_lacks 46 text lacks))

-- where no number stands, or no numbers after it
pub number_refused : (text front rest : List ℕ) → IsCutAtFirst 46 text front rest → ((n : ℕ) → IsOctetNumber front n → ⊥) → (count : ℕ) (octets : List ℕ) → AreNumbers (suc (suc count)) text octets → ⊥
number_refused text front rest cut none count octets are = let first = numbers_cut count text front rest octets cut are in none first.0 first.2

pub rest_refused : (count : ℕ) (text front rest : List ℕ) → IsCutAtFirst 46 text front rest → ((octets : List ℕ) → AreNumbers (suc count) rest octets → ⊥) → (octets : List ℕ) → AreNumbers (suc (suc count)) text octets → ⊥
rest_refused count text front rest cut none octets are = let first = numbers_cut count text front rest octets cut are in none first.1 first.3

last_by : (text octets : List ℕ) (numbers : List (List ℕ)) → length numbers ≡ 1 → text ≡ join_with_byte 46 numbers → AllZip IsOctetNumber numbers octets → ((n : ℕ) → IsOctetNumber text n → ⊥) → ⊥
last_by text [] (a ∷ []) counted parted each none = each
last_by text (n ∷ octets) (a ∷ []) counted parted each none = none n (subst (λ t. IsOctetNumber t n) (sym parted) each.0)
last_by text octets numbers counted parted each none = omega arith

pub last_refused : (text : List ℕ) → ((n : ℕ) → IsOctetNumber text n → ⊥) → (octets : List ℕ) → AreNumbers 1 text octets → ⊥
last_refused text none octets are = last_by text octets are.numbers are.counted are.parted are.each none

zip_once : (texts : List (List ℕ)) (a b : List ℕ) → AllZip IsOctetNumber texts a → AllZip IsOctetNumber texts b → a ≡ b
zip_once (text ∷ texts) (n ∷ a) (m ∷ b) x y = cc (x.0.number.value ∙ sym y.0.number.value, zip_once texts a b x.1 y.1)
zip_once texts a b x y = grind arith

pub numbers_unique : (count : ℕ) (text a b : List ℕ) → AreNumbers (suc count) text a → AreNumbers (suc count) text b → a ≡ b
numbers_unique count text a b x y = zip_once (split 46 text) a b (numbers_parts count text a x).1 (numbers_parts count text b y).1

join_lacks : (c : ℕ) (numbers : List (List ℕ)) (octets : List ℕ) → is_digit c ≡ false → 46 ≢ c → AllZip IsOctetNumber numbers octets → Lacks c (join_with_byte 46 numbers)
join_lacks c [] octets miss other each = tt
join_lacks c (a ∷ numbers) [] miss other each = absurd each
join_lacks c (a ∷ []) (n ∷ octets) miss other each = number_lacks c a n miss each.0
join_lacks c (a ∷ b ∷ numbers) (n ∷ octets) miss other each = AllByRecursion-append (λ d. d ≢ c) a (46 ∷ join_with_byte 46 (b ∷ numbers)) (number_lacks c a n miss each.0) (other, join_lacks c (b ∷ numbers) octets miss other each.1)

-- ---- groups

pub group_lacks : (c : ℕ) (p : AddressPart) → is_hex_digit c ≡ false → IsGroup p → Lacks c p.text
group_lacks c p miss is =
    let zeros : List ℕ = replicate (4 - length p.text) 48 in
    let passes = ((IsOk-decode_sized (zeros ++ p.text) 2).0 (rw is.value refl)).1 in
    let here = rw (drop_at zeros p.text (length zeros) refl) at (All-drop (λ c. is_hex_digit c ≡ true) (length zeros) (zeros ++ p.text) passes) in
    each_weaker (λ d. d ≢ c) (λ d hit e. cc (sym hit ∙ ap is_hex_digit e ∙ miss)) p.text (recursion_from_All (λ c. is_hex_digit c ≡ true) p.text here)

pub group_same : (text a b : List ℕ) → IsGroup (record { text = text; octets = a }) → IsGroup (record { text = text; octets = b }) → a ≡ b
group_same text a b x y = cc

pub last_lacks : (ends : Bool) (p : AddressPart) → IsLastPart ends p → Lacks 58 p.text
last_lacks ends p (inl is) = group_lacks 58 p refl is
last_lacks ends p (inr are) = rw are.1.parted (join_lacks 58 are.1.numbers p.octets refl (λ e. omega arith) are.1.each)

-- a group is no four numbers
pub last_same : (ends : Bool) (p q : AddressPart) → IsLastPart ends p → IsLastPart ends q → p.text ≡ q.text → p.octets ≡ q.octets
last_same ends p q (inl x) (inl y) e = cc
last_same ends p q (inl x) (inr y) e = absurd (numbers_none q.text (subst (Lacks 46) e (group_lacks 46 p refl x)) 2 q.octets y.1)
last_same ends p q (inr x) (inl y) e = absurd (numbers_none p.text (subst (Lacks 46) (sym e) (group_lacks 46 q refl y)) 2 p.octets x.1)
last_same ends p q (inr x) (inr y) e = grind (arith, numbers_unique 3 p.text p.octets q.octets x.1)
