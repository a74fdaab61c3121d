-- Names, words, NS records, the SOA of `x.` and addresses that files spell, for examples.
use Rattle.zone_text.proofs.Common.{AllByRecursion, Data, EmptyLabel, Entry, EntryStates, HasClass, HasContents, HasTtl, HasValue, IsClass, IsClassWord, IsKind, IsKindWord, IsName, IsOrigin, IsOwner, IsRecord, IsTime, IsTtl, IsWordFault, List, MetaType, Some, SpellingFault, Spells, States, StatesMinimum, UnknownType, Word, [], absolute, address, arith, at_origin, begins_with_digit, beyond, by_mnemonic, by_number, codes, empty_label, false, folded_octet, for_queries, in_words, inr, is_dot, labels_of, lit<, lit≤, minimum, ns, parts_in, plain, refl, relative, rules, soa, statement_of, true, under, wire, within, x, ℕ, ◌<◌, ◌^◌, ◌∷◌, ◌≡◌, ◌≢◌, ◌≤◌, common_steps}
use Rattle.zone_rdata.specs.declared.field.Field.TheVariants.{Name, Serial, Time, Octets}
use Rattle.zone_rdata.specs.Field.{FieldValue, name, u32_value, fixed, octets_of}
use Rattle.zone_rdata.specs.Fields.Address.{of_ipv4}
use Rattle.zone_rdata.specs.Spelling.{RawItem, bare}
use Rattle.zone_text.proofs.Entries.Lines.{contents_by}
use Rattle.zone_text.proofs.Heads.ClassWords.{time_first}

-- `@` is the origin
pub at_spells : (above : List (List ℕ)) → IsName above → Spells (Some above) (codes "@") above
at_spells above good = record { written = at_origin refl refl; name = good }

-- a relative name of one octet
pub one_octet : (c : ℕ) (above : List (List ℕ)) → is_dot c ≡ false → c ≢ 92 → c ≢ 64 → IsName (under (folded_octet c) above) → Spells (Some above) (c ∷ []) (under (folded_octet c) above)
one_octet c above no_dot no_backslash no_at good = record {
  written = relative ((plain c ∷ []) ∷ []) above (record { some = lit< tt; each = (record { some = lit< tt; each = ((no_dot, no_backslash), tt) }, tt) }) (λ e. no_at (let first : c ≡ 64 = cc in first)) refl refl refl;
  name = good;
}

pub a_spells : Spells (Some x) (codes "a") (under 97 x)
a_spells = one_octet 97 x refl (omega arith) (omega arith) (omega arith)

pub b_spells : Spells (Some (under 97 x)) (codes "b") (under 98 (under 97 x))
b_spells = one_octet 98 (under 97 x) refl (omega arith) (omega arith) (omega arith)

pub n_x_spells : (above : List (List ℕ)) → Spells (Some above) (codes "n.x.") (under 110 x)
n_x_spells above = record {
  written = absolute ((plain 110 ∷ []) ∷ (plain 120 ∷ []) ∷ []) (record { some = lit< tt; each = (record { some = lit< tt; each = ((refl, omega arith), tt) }, (record { some = lit< tt; each = ((refl, omega arith), tt) }, tt)) }) refl refl;
  name = omega arith;
}

pub sixty : IsTime (codes "60") 60
sixty = search rules

pub is_ns : IsKindWord (codes "NS") 2
is_ns = by_mnemonic (record { name = codes "NS"; row = refl; same = refl })

pub is_ch : IsClassWord (codes "CH") 3
is_ch = by_mnemonic (record { name = codes "CH"; row = refl; same = refl })

pub ns_kind : IsKind 2
ns_kind = record { short = lit< tt; stored = refl }

pub states_server : (above : List (List ℕ)) (class : ℕ) (text : List ℕ) → text ≢ codes "\\#" → Spells (Some above) text (under 110 x) → States above class 2 (bare text ∷ []) (wire (under 110 x))
states_server above class text not_mark spells = record { stated = in_words (Name ∷ []) (name (under 110 x) ∷ []) refl (λ is. let e = is.1 in not_mark (let mark : text ≡ codes "\\#" = cc in mark)) (spells, tt) refl (lit≤ tt) }

ns_fits : (owner : List (List ℕ)) (class ttl : ℕ) → IsName owner → IsClass class → ttl ≤ 2147483647 → IsRecord (ns owner class ttl)
unfolding labels_of
ns_fits owner class ttl good is short = search rules

-- an entry of `NS` and a text for `n.x.`, after words and an owner
pub states_server_by : (text : List ℕ) (origin : List (List ℕ)) (before : List Entry) (entry : Entry) (owner above : List (List ℕ)) (class ttl : ℕ) (words : List Word) → text ≢ codes "\\#" → Spells (Some above) text (under 110 x) → parts_in (statement_of entry) ≡ Some (record { words = words; rest = bare (codes "NS") ∷ bare text ∷ [] }) → IsOwner origin before (statement_of entry) owner → AllByRecursion HasValue words → HasClass before entry class → IsOrigin origin before above → HasTtl origin before entry ttl → IsName owner → IsClass class → ttl ≤ 2147483647 → EntryStates origin before entry (ns owner class ttl)
states_server_by text origin before entry owner above class ttl words not_mark spells split owns values has under_it lasts good is short = record {
  contents = contents_by origin before entry owner above class 2 words (codes "NS") (bare text ∷ []) _ split owns values has under_it is_ns ns_kind (states_server above class text not_mark spells);
  ttl = lasts;
  fits = ns_fits owner class ttl good is short;
}

pub states_ns : (origin : List (List ℕ)) (before : List Entry) (entry : Entry) (owner above : List (List ℕ)) (class ttl : ℕ) (words : List Word) → parts_in (statement_of entry) ≡ Some (record { words = words; rest = bare (codes "NS") ∷ bare (codes "n.x.") ∷ [] }) → IsOwner origin before (statement_of entry) owner → AllByRecursion HasValue words → HasClass before entry class → IsOrigin origin before above → HasTtl origin before entry ttl → IsName owner → IsClass class → ttl ≤ 2147483647 → EntryStates origin before entry (ns owner class ttl)
states_ns origin before entry owner above class ttl words = states_server_by (codes "n.x.") origin before entry owner above class ttl words (λ e. absurd cc) (n_x_spells above)

-- a time of more than 31 bits is no TTL
pub too_long : ((text : List ℕ) (a b : ℕ) → IsTime text a → IsTime text b → a ≡ b) → (seconds : ℕ) → IsTtl (codes "2147483648") seconds → ⊥
too_long once seconds is =
    let same : seconds ≡ 2147483648 = once (codes "2147483648") seconds 2147483648 is.time (search rules) in
    omega arith

-- a word that begins with no digit is no TTL
pub no_digit : (seconds : ℕ) → IsTtl (codes "x") seconds → ⊥
no_digit seconds is = let first : begins_with_digit (codes "x") ≡ true = time_first (codes "x") seconds is.time in absurd cc

-- `a..b` has an empty label
pub empty_label_between : SpellingFault (Some x) (codes "a..b") EmptyLabel
empty_label_between = within EmptyLabel (empty_label ((plain 97 ∷ []) ∷ []) (codes ".b") (record { labels = (record { some = lit< tt; each = ((refl, omega arith), tt) }, tt); short = (lit≤ tt, tt); octets = tt; room = lit≤ tt; parts = refl }) (inr (codes "b", refl)) (λ e. absurd cc) (λ e. absurd cc))

pub class_zero_word : IsClassWord (codes "CLASS0") 0
class_zero_word = by_number (record { front = codes "CLASS"; digits = codes "0"; parts = refl; named = refl; number = record { some = lit< tt; digits = (refl, tt); value = refl } })

pub type_65536 : IsWordFault (codes "TYPE65536") UnknownType
type_65536 = beyond 65536 (by_number (record { front = codes "TYPE"; digits = codes "65536"; parts = refl; named = refl; number = record { some = lit< tt; digits = (refl, (refl, (refl, (refl, (refl, tt))))); value = refl } })) (lit≤ tt)

pub type_41 : IsWordFault (codes "TYPE41") MetaType
type_41 = for_queries 41 (by_number (record { front = codes "TYPE"; digits = codes "41"; parts = refl; named = refl; number = record { some = lit< tt; digits = (refl, (refl, tt)); value = refl } })) (lit< tt) (λ is. let stored = is.stored in absurd cc)

no_minimum : (class kind : ℕ) (octets : List ℕ) (seconds : ℕ) → kind ≡ 2 → minimum (record { class = class; kind = kind; octets = octets }) ≡ Some seconds → ⊥
no_minimum class kind octets seconds is field = cc

-- an NS record is no SOA
pub ns_has_no_minimum : ((word : List ℕ) (a b : ℕ) → IsKindWord word a → IsKindWord word b → a ≡ b) → (before : List Entry) (entry : Entry) (words : List Word) (items : List RawItem) (seconds : ℕ) → parts_in (statement_of entry) ≡ Some (record { words = words; rest = bare (codes "NS") ∷ items }) → StatesMinimum x before entry seconds → ⊥
ns_has_no_minimum once before entry words items seconds split (owner, rdata, contents, field) = grind (arith, common_steps, is_ns, no_minimum)

n_spells : Spells (Some x) (codes "n") (under 110 x)
n_spells = one_octet 110 x refl (omega arith) (omega arith) (omega arith)

h_spells : Spells (Some x) (codes "h") (under 104 x)
h_spells = one_octet 104 x refl (omega arith) (omega arith) (omega arith)

pub five : IsTime (codes "5") 5
five = search rules

-- the items after the type's word, the last of them the MINIMUM, and what they spell
abbrev pub soa_items : List ℕ → List RawItem
soa_items text = bare (codes "n") ∷ bare (codes "h") ∷ bare (codes "1") ∷ bare (codes "2") ∷ bare (codes "3") ∷ bare (codes "4") ∷ bare text ∷ []

abbrev pub soa_values : ℕ → List FieldValue
soa_values last = name (under 110 x) ∷ name (under 104 x) ∷ u32_value 1 ∷ u32_value 2 ∷ u32_value 3 ∷ u32_value 4 ∷ u32_value last ∷ []

pub soa_states : (text : List ℕ) (last : ℕ) → IsTime text last → last < 2 ^ 32 → States x 1 6 (soa_items text) (octets_of (soa_values last))
soa_states text last time short = record {
  stated = in_words (Name ∷ Name ∷ Serial ∷ Time ∷ Time ∷ Time ∷ Time ∷ []) (soa_values last) refl (λ is. let e = is.1 in absurd cc) (n_spells, (h_spells, ((search rules, lit< tt), ((search rules, lit< tt), ((search rules, lit< tt), ((search rules, lit< tt), ((time, short), tt))))))) refl (lit≤ tt);
}

soa_fits : (ttl : ℕ) → ttl ≤ 2147483647 → IsRecord (soa ttl)
unfolding labels_of
soa_fits ttl short = search rules

abbrev pub soa_data : ℕ → Data
soa_data last = record { class = 1; kind = 6; octets = octets_of (soa_values last) }

pub soa_contents : (text : List ℕ) (last : ℕ) (before : List Entry) (entry : Entry) (words : List Word) → IsTime text last → last < 2 ^ 32 → parts_in (statement_of entry) ≡ Some (record { words = words; rest = bare (codes "SOA") ∷ soa_items text }) → IsOwner x before (statement_of entry) x → AllByRecursion HasValue words → HasClass before entry 1 → IsOrigin x before x → HasContents x before entry x (soa_data last)
soa_contents text last before entry words time short split owns values has under_it =
    contents_by x before entry x x 1 6 words (codes "SOA") (soa_items text) _ split owns values has under_it (by_mnemonic (record { name = codes "SOA"; row = refl; same = refl })) (record { short = lit< tt; stored = refl }) (soa_states text last time short)

-- an entry of this SOA with the MINIMUM 5
pub states_soa : (before : List Entry) (entry : Entry) (ttl : ℕ) (words : List Word) → parts_in (statement_of entry) ≡ Some (record { words = words; rest = bare (codes "SOA") ∷ soa_items (codes "5") }) → IsOwner x before (statement_of entry) x → AllByRecursion HasValue words → HasClass before entry 1 → IsOrigin x before x → HasTtl x before entry ttl → ttl ≤ 2147483647 → EntryStates x before entry (soa ttl)
states_soa before entry ttl words split owns values has under_it lasts short = grind (arith, soa_contents (codes "5") 5 before entry words five (lit< tt) split owns values has under_it, soa_fits ttl short)

-- an entry of this SOA has the MINIMUM that its last item spells
pub states_minimum : (text : List ℕ) (last : ℕ) (before : List Entry) (entry : Entry) (words : List Word) → IsTime text last → last < 2 ^ 32 → minimum (soa_data last) ≡ Some last → parts_in (statement_of entry) ≡ Some (record { words = words; rest = bare (codes "SOA") ∷ soa_items text }) → IsOwner x before (statement_of entry) x → AllByRecursion HasValue words → HasClass before entry 1 → IsOrigin x before x → StatesMinimum x before entry last
states_minimum text last before entry words time short field split owns values has under_it = grind (arith, soa_contents text last before entry words time short split owns values has under_it)

pub minimum_five : minimum (soa_data 5) ≡ Some 5
unfolding labels_of
minimum_five = refl

pub minimum_too_long : minimum (soa_data 2147483648) ≡ Some 2147483648
unfolding labels_of
minimum_too_long = refl

-- an entry of the items `NS n`
pub states_ns_below : (before : List Entry) (entry : Entry) (ttl : ℕ) (words : List Word) → parts_in (statement_of entry) ≡ Some (record { words = words; rest = bare (codes "NS") ∷ bare (codes "n") ∷ [] }) → IsOwner x before (statement_of entry) x → AllByRecursion HasValue words → HasClass before entry 1 → IsOrigin x before x → HasTtl x before entry ttl → ttl ≤ 2147483647 → EntryStates x before entry (ns x 1 ttl)
states_ns_below before entry ttl words split owns values has under_it lasts short = states_server_by (codes "n") x before entry x x 1 ttl words (λ e. absurd cc) n_spells split owns values has under_it lasts (omega arith) (omega arith) short

address_states : States x 1 1 (bare (codes "10.0.0.1") ∷ []) (10 ∷ 0 ∷ 0 ∷ 1 ∷ [])
address_states = record {
  stated = in_words (Octets 4 ∷ []) (fixed (10 ∷ 0 ∷ 0 ∷ 1 ∷ []) ∷ []) refl (λ is. let e = is.1 in absurd cc) (
    of_ipv4 refl (record {
      numbers = codes "10" ∷ codes "0" ∷ codes "0" ∷ codes "1" ∷ [];
      counted = refl;
      parted = refl;
      each = search rules;
    }),
    tt,
  ) refl (lit≤ tt);
}

-- an entry of the items `A 10.0.0.1` after words and an owner
pub states_address : (before : List Entry) (entry : Entry) (owner : List (List ℕ)) (ttl : ℕ) (words : List Word) → parts_in (statement_of entry) ≡ Some (record { words = words; rest = bare (codes "A") ∷ bare (codes "10.0.0.1") ∷ [] }) → IsOwner x before (statement_of entry) owner → AllByRecursion HasValue words → HasClass before entry 1 → IsOrigin x before x → HasTtl x before entry ttl → IsName owner → ttl ≤ 2147483647 → EntryStates x before entry (address owner ttl)
states_address before entry owner ttl words split owns values has under_it lasts good short = record {
  contents = contents_by x before entry owner x 1 1 words (codes "A") (bare (codes "10.0.0.1") ∷ []) _ split owns values has under_it (by_mnemonic (record { name = codes "A"; row = refl; same = refl })) (record { short = lit< tt; stored = refl }) address_states;
  ttl = lasts;
  fits = search rules;
}
