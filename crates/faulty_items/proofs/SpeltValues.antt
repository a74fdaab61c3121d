-- Texts and items that spell a value of a field, or none.
use Rattle.faulty_items.proofs.Common.{Err, Item, Labels, List, None, NothingIs, Ok, RawItem, Result, Some, [], ap, arith, at_end, at_item, bare, get_or, inl, inr, length, length-append, length-map, map, raw, refl, slice_get, subst, suc, sym, take, take_all, zero, ℕ, ◌++◌, ◌+◌, ◌<◌, ◌∙◌, ◌∷◌, ◌≡◌, ◌≤◌, ◌⊎◌}
use Rattle.faulty_items.proofs.CanGoOn.{got}
use Rattle.faulty_items.proofs.Digits.{next_taken}
use Rattle.std.specs.List.{AllZip}
use Rattle.zone_name.specs.Spelling.{Spells}
use Rattle.zone_rdata.proofs.Numbers.TimeLaws.{one_time}
use Rattle.zone_rdata.proofs.Strings.StringLaws.{string-never_both}
use Rattle.zone_rdata.specs.Field.{fixed, name, string, strings, u16_value, u32_value}
use Rattle.zone_rdata.specs.Address.{IsIpv4Address, IsIpv6Address}
use Rattle.zone_rdata.specs.Fields.Address.{IsAddress, of_ipv4, of_ipv6}
use Rattle.zone_rdata.specs.Fields.Time.{SpellsTime}
use Rattle.zone_rdata.specs.Number.{IsCapped, IsTime}
use Rattle.zone_rdata.specs.Strings.{SpellsString, StringFault}
use Rattle.zone_rdata.specs.declared.fault.Failing.{Failing}
use Rattle.zone_rdata.specs.declared.fault.Failing.TheVariants as failings
use Rattle.zone_rdata.specs.declared.fault.Fault.{Fault}
use Rattle.zone_rdata.specs.declared.field.Field.{Field}
use Rattle.zone_rdata.specs.declared.field.Field.TheVariants as fields
use Rattle.faulty_items.specs.LaidOutStop.{SpellAValue}
use Rattle.faulty_items.specs.Machine.LaidOutReading.{AreOwn, StopIn}

pub no_string : {T : Type 0} (item : RawItem) (result : Result T Failing) (narrow wide : Failing) (fault : Fault) → result ≡ Err narrow → wide ≡ narrow → wide ≡ failings.Fault fault → ((f : Fault) → result ≡ Err (failings.Fault f) → StringFault item f) → (octets : List ℕ) → SpellsString item octets → ⊥
no_string item result narrow wide fault is same fails bad octets spelt =
    string-never_both item octets fault spelt (bad fault (is ∙ ap Err (sym same ∙ fails)))

pub is_a_time : (text : List ℕ) (n : ℕ) → n ≤ 4294967295 → IsCapped (IsTime text) n → (m : ℕ) × SpellsTime text m
is_a_time text n short found = (found.0, (found.1.0, (let e = found.1.1 in omega arith)))

pub no_time : (text : List ℕ) (n : ℕ) → 4294967295 < n → IsCapped (IsTime text) n → NothingIs (SpellsTime text)
no_time text n over found m is =
    let same : found.0 ≡ m = one_time text found.0 m found.1.0 is.0 in
    let e = found.1.1 in
    let less = is.1 in
    omega arith

-- what is spelled of one kind of field is spelled of the field
pub of_kind : (origin : Labels) (f g : Field) (items : List RawItem) → f ≡ g → SpellAValue origin g items → SpellAValue origin f items
of_kind origin f g items is h = subst (λ k. SpellAValue origin k items) (sym is) h

pub not_of_kind : (origin : Labels) (f g : Field) (items : List RawItem) → f ≡ g → (SpellAValue origin g items → ⊥) → SpellAValue origin f items → ⊥
not_of_kind origin f g items is none h = none (subst (λ k. SpellAValue origin k items) is h)

pub no_name : {T E : Type 0} (result : Result T E) (e : E) (x : T) → result ≡ Err e → result ≡ Ok x → ⊥
no_name result e x bad good = cc (sym bad ∙ good)

pub of_four : (n : ℕ) (text : List ℕ) → n ≡ 4 → NothingIs (IsIpv4Address text) → NothingIs (IsAddress n text)
of_four n text four none octets (of_ipv4 e h) = none octets h
of_four n text four none octets (of_ipv6 e h) = omega arith

pub of_sixteen : (n : ℕ) (text : List ℕ) → n ≡ 16 → NothingIs (IsIpv6Address text) → NothingIs (IsAddress n text)
of_sixteen n text sixteen none octets (of_ipv4 e h) = omega arith
of_sixteen n text sixteen none octets (of_ipv6 e h) = none octets h

pub none_timed : (text : List ℕ) → NothingIs (IsTime text) → NothingIs (SpellsTime text)
none_timed text none n is = none n is.0

pub no_name_value : (origin : Labels) (text : List ℕ) → NothingIs (Spells (Some origin) text) → SpellAValue origin fields.Name (bare text ∷ []) → ⊥
no_name_value origin text none (name labels, h) = none labels h
no_name_value origin text none (u32_value n, h) = h
no_name_value origin text none (u16_value n, h) = h
no_name_value origin text none (fixed octets, h) = h
no_name_value origin text none (string octets, h) = h
no_name_value origin text none (strings many, h) = h

pub no_time_value : (origin : Labels) (text : List ℕ) → NothingIs (SpellsTime text) → SpellAValue origin fields.Time (bare text ∷ []) → ⊥
no_time_value origin text none (name labels, h) = h
no_time_value origin text none (u32_value n, h) = none n h
no_time_value origin text none (u16_value n, h) = h
no_time_value origin text none (fixed octets, h) = h
no_time_value origin text none (string octets, h) = h
no_time_value origin text none (strings many, h) = h

pub no_address_value : (origin : Labels) (n : ℕ) (text : List ℕ) → NothingIs (IsAddress n text) → SpellAValue origin (fields.Octets n) (bare text ∷ []) → ⊥
no_address_value origin n text none (name labels, h) = h
no_address_value origin n text none (u32_value m, h) = h
no_address_value origin n text none (u16_value m, h) = h
no_address_value origin n text none (fixed octets, h) = none octets h
no_address_value origin n text none (string octets, h) = h
no_address_value origin n text none (strings many, h) = h

-- ---- strings

pub one_string : (origin : Labels) (item : RawItem) (octets : List ℕ) → SpellsString item octets → SpellAValue origin fields.Strings (item ∷ [])
one_string origin item octets h = (strings (octets ∷ []), record { some = omega arith; each = (h, tt) })

pub no_strings_value : (origin : Labels) (item : RawItem) → NothingIs (SpellsString item) → SpellAValue origin fields.Strings (item ∷ []) → ⊥
no_strings_value origin item none (name labels, h) = h
no_strings_value origin item none (u32_value m, h) = h
no_strings_value origin item none (u16_value m, h) = h
no_strings_value origin item none (fixed octets, h) = h
no_strings_value origin item none (string octets, h) = h
no_strings_value origin item none (strings [], h) = h.each
no_strings_value origin item none (strings (octets ∷ many), h) = none octets h.each.0

each_at : (own : List RawItem) (many : List (List ℕ)) (i : ℕ) (item : RawItem) → slice_get own i ≡ Some item → AllZip SpellsString own many → (octets : List ℕ) × SpellsString item octets
each_at [] many i item there each = absurd cc
each_at (x ∷ own) [] i item there each = absurd each
each_at (x ∷ own) (octets ∷ many) zero item there each = (octets, let same : x ≡ item = cc there in subst (λ r. SpellsString r octets) same each.0)
each_at (x ∷ own) (octets ∷ many) (suc i) item there each = each_at own many i item there each.1

strings_at : (origin : Labels) (own : List RawItem) (i : ℕ) (item : RawItem) → slice_get own i ≡ Some item → SpellAValue origin fields.Strings own → SpellAValue origin fields.Strings (item ∷ [])
strings_at origin own i item there (name labels, h) = absurd h
strings_at origin own i item there (u32_value m, h) = absurd h
strings_at origin own i item there (u16_value m, h) = absurd h
strings_at origin own i item there (fixed octets, h) = absurd h
strings_at origin own i item there (string octets, h) = absurd h
strings_at origin own i item there (strings many, h) = let found = each_at own many i item there h.each in one_string origin item found.0 found.1

each_more : (own : List RawItem) (many : List (List ℕ)) (item : RawItem) (octets : List ℕ) → AllZip SpellsString own many → SpellsString item octets → AllZip SpellsString (own ++ item ∷ []) (many ++ octets ∷ [])
each_more [] [] item octets each h = (h, tt)
each_more [] (o ∷ many) item octets each h = absurd each
each_more (x ∷ own) [] item octets each h = absurd each
each_more (x ∷ own) (o ∷ many) item octets each h = (each.0, each_more own many item octets each.1 h)

strings_more : (origin : Labels) (own : List RawItem) (item : RawItem) → SpellAValue origin fields.Strings own → SpellAValue origin fields.Strings (item ∷ []) → SpellAValue origin fields.Strings (own ++ item ∷ [])
strings_more origin own item (strings many, h) (strings (octets ∷ []), k) =
    (strings (many ++ octets ∷ []), record { some = omega (arith, length-append own (item ∷ [])); each = each_more own many item octets h.each k.each.0 })
strings_more origin own item (strings many, h) (strings [], k) = absurd k.each
strings_more origin own item (strings many, h) (strings (octets ∷ other ∷ more), k) = absurd k.each.1
strings_more origin own item (strings many, h) (v, k) = grind arith
strings_more origin own item (v, h) k = grind arith

-- ---- the own items of a field

one_alone : (own : List RawItem) (i : ℕ) (item : RawItem) → take 1 own ≡ own → slice_get own i ≡ Some item → (own ≡ item ∷ []) × (i ≡ 0)
one_alone [] i item alone there = absurd cc
one_alone (x ∷ []) zero item alone there = (let same : x ≡ item = cc there in ap (λ r. r ∷ []) same, refl)
one_alone (x ∷ []) (suc i) item alone there = absurd cc
one_alone (x ∷ y ∷ own) i item alone there = absurd (omega (arith, ap length alone))

spelt_at : (origin : Labels) (f : Field) (own : List RawItem) (i : ℕ) (item : RawItem) → AreOwn f own → slice_get own i ≡ Some item → SpellAValue origin f own → SpellAValue origin f (item ∷ [])
spelt_at origin fields.Strings own i item are there h = strings_at origin own i item there h
spelt_at origin fields.Name own i item are there h = subst (SpellAValue origin fields.Name) (one_alone own i item are there).0 h
spelt_at origin fields.Serial own i item are there h = subst (SpellAValue origin fields.Serial) (one_alone own i item are there).0 h
spelt_at origin fields.Time own i item are there h = subst (SpellAValue origin fields.Time) (one_alone own i item are there).0 h
spelt_at origin fields.U16 own i item are there h = subst (SpellAValue origin fields.U16) (one_alone own i item are there).0 h
spelt_at origin (fields.Octets n) own i item are there h = subst (SpellAValue origin (fields.Octets n)) (one_alone own i item are there).0 h
spelt_at origin fields.OneString own i item are there h = subst (SpellAValue origin fields.OneString) (one_alone own i item are there).0 h

one_taken : (own : List RawItem) (n : ℕ) → take 1 own ≡ own → take 1 (take n own) ≡ take n own
one_taken [] n are = subst (λ l. take 1 l ≡ l) (sym (take_all n [] (omega arith))) refl
one_taken (x ∷ []) zero are = refl
one_taken (x ∷ []) (suc n) are = ap (λ l. x ∷ l) (sym (take_all n [] (omega arith)))
one_taken (x ∷ y ∷ own) n are = absurd (omega (arith, ap length are))

own_taken : (f : Field) (own : List RawItem) (n : ℕ) → AreOwn f own → AreOwn f (take n own)
own_taken fields.Strings own n are = refl
own_taken fields.Name own n are = one_taken own n are
own_taken fields.Serial own n are = one_taken own n are
own_taken fields.Time own n are = one_taken own n are
own_taken fields.U16 own n are = one_taken own n are
own_taken (fields.Octets m) own n are = one_taken own n are
own_taken fields.OneString own n are = one_taken own n are

got_taken : (own : List RawItem) (i : ℕ) (item : RawItem) → slice_get own i ≡ Some item → slice_get (take (suc i) own) i ≡ Some item
got_taken [] i item there = absurd cc
got_taken (x ∷ own) zero item there = there
got_taken (x ∷ own) (suc i) item there = got_taken own i item there

-- so many of the own items spell a value, if they are any
abbrev pub SpeltTo : Labels → Field → List RawItem → ℕ → Type 0
SpeltTo origin f own i = (i ≡ 0) ⊎ SpellAValue origin f (take i own)

first_taken : (own : List RawItem) (i : ℕ) (item : RawItem) → i ≡ 0 → slice_get own i ≡ Some item → take (suc i) own ≡ item ∷ []
first_taken [] i item none there = absurd cc
first_taken (x ∷ own) zero item none there = let same : x ≡ item = cc there in ap (λ r. r ∷ []) same
first_taken (x ∷ own) (suc i) item none there = absurd cc

strings_to : (origin : Labels) (own : List RawItem) (i : ℕ) (item : RawItem) → slice_get own i ≡ Some item → SpellAValue origin fields.Strings (item ∷ []) → SpeltTo origin fields.Strings own i → SpellAValue origin fields.Strings (take (suc i) own)
strings_to origin own i item there h (inl none) = subst (SpellAValue origin fields.Strings) (sym (first_taken own i item none there)) h
strings_to origin own i item there h (inr before) = subst (SpellAValue origin fields.Strings) (sym (next_taken own i item there)) (strings_more origin (take i own) item before h)

step_to : (origin : Labels) (f : Field) (own : List RawItem) (i : ℕ) (item : RawItem) → AreOwn f own → slice_get own i ≡ Some item → SpellAValue origin f (item ∷ []) → SpeltTo origin f own i → SpellAValue origin f (take (suc i) own)
step_to origin fields.Strings own i item are there h before = strings_to origin own i item there h before
step_to origin fields.Name own i item are there h before = subst (SpellAValue origin fields.Name) (sym (first_taken own i item (one_alone own i item are there).1 there)) h
step_to origin fields.Serial own i item are there h before = subst (SpellAValue origin fields.Serial) (sym (first_taken own i item (one_alone own i item are there).1 there)) h
step_to origin fields.Time own i item are there h before = subst (SpellAValue origin fields.Time) (sym (first_taken own i item (one_alone own i item are there).1 there)) h
step_to origin fields.U16 own i item are there h before = subst (SpellAValue origin fields.U16) (sym (first_taken own i item (one_alone own i item are there).1 there)) h
step_to origin (fields.Octets n) own i item are there h before = subst (SpellAValue origin (fields.Octets n)) (sym (first_taken own i item (one_alone own i item are there).1 there)) h
step_to origin fields.OneString own i item are there h before = subst (SpellAValue origin fields.OneString) (sym (first_taken own i item (one_alone own i item are there).1 there)) h

pub one_spelt : (origin : Labels) (f : Field) (own : List Item) (i : ℕ) (item d : Item) → AreOwn f (map raw own) → i < length own → item ≡ get_or own i d → SpellAValue origin f (raw item ∷ []) → SpeltTo origin f (map raw own) i → SpeltTo origin f (map raw own) (i + 1)
one_spelt origin f own i item d are less is h before =
    let next : suc i ≡ i + 1 = omega arith in
    inr (subst (λ n. SpellAValue origin f (take n (map raw own))) next (step_to origin f (map raw own) i (raw item) are (got raw own i item d less is) h before))

pub one_stops : (origin : Labels) (f : Field) (own : List Item) (i : ℕ) (item d : Item) → AreOwn f (map raw own) → i < length own → item ≡ get_or own i d → (SpellAValue origin f (raw item ∷ []) → ⊥) → SpeltTo origin f (map raw own) i → StopIn origin f (map raw own) (Some (raw item))
one_stops origin f own i item d are less is bad before =
    let there = got raw own i item d less is in
    record {
      none = λ all. bad (spelt_at origin f (map raw own) i (raw item) are there all);
      stops = at_item i (raw item) there before (λ some. bad (spelt_at origin f (take (suc i) (map raw own)) i (raw item) (own_taken f (map raw own) (suc i) are) (got_taken (map raw own) i (raw item) there) some));
    }

pub all_spelt : (origin : Labels) (f : Field) (own : List Item) (i : ℕ) → 0 < length own → length own ≤ i → SpeltTo origin f (map raw own) i → SpellAValue origin f (map raw own)
all_spelt origin f own i some past (inl none) = absurd (omega arith)
all_spelt origin f own i some past (inr all) = subst (SpellAValue origin f) (take_all i (map raw own) (omega (arith, length-map own raw))) all

none_of_none : (origin : Labels) (f : Field) → SpellAValue origin f [] → ⊥
none_of_none origin fields.Strings (strings many, h) = omega (arith, h.some)
none_of_none origin f (v, h) = grind arith

pub none_own : (origin : Labels) (f : Field) (own : List Item) → length own ≡ 0 → StopIn origin f (map raw own) None
none_own origin f [] none = record { none = none_of_none origin f; stops = at_end (inl refl) }
none_own origin f (item ∷ own) none = absurd (omega arith)
