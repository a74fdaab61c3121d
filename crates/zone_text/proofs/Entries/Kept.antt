-- The items that are kept of an entry, one by one.
use Rattle.zone_text.proofs.Common.{AllByRecursion, AllByRecursion-back, AreKept, Bool, IsShort, IsToken, IsUnit, IsWritten, Keeps, List, RawItem, SpellsString, Token, Written, [], ap, append-nil, arith, bare, flat_map, inl, inr, item_of, item_text, length, length-append, no_octet, one_kept, one_left_out, quoted, rules, subst, text_of, text_of-some, written_octets, written_text, ℕ, ◌++◌, ◌+◌, ◌<◌, ◌∙◌, ◌∷◌, ◌≡◌, ◌≤◌, common_steps}

-- ---- an item of a token

abbrev Low : List ℕ → Type 0
Low octets = AllByRecursion (λ c. c < 256) octets

units_anywhere : (out : ℕ → Bool) (units : List Written) → AllByRecursion (IsUnit out) units → AllByRecursion (IsUnit no_octet) units
units_anywhere out [] each = tt
units_anywhere out (w ∷ units) each = ((search rules), units_anywhere out units each.1)

octets_low : (out : ℕ → Bool) (units : List Written) → AllByRecursion (IsUnit out) units → Low (written_text units) → Low (written_octets units)
octets_low out [] each low = tt
octets_low out (w ∷ units) each low = grind (arith, octets_low out units each.1 (AllByRecursion-back _ (text_of w) (written_text units) low))

no_longer : (units : List Written) → length (written_octets units) ≤ length (written_text units)
no_longer [] = omega arith
no_longer (w ∷ units) = omega (arith, text_of-some w, no_longer units, length-append (text_of w) (written_text units))

units_spell : (out : ℕ → Bool) (units : List Written) (item : RawItem) → AllByRecursion (IsUnit out) units → item_text item ≡ written_text units → IsShort item → SpellsString item (written_octets units)
units_spell out units item each text short = grind (arith, units_anywhere out units each, no_longer units, octets_low out units each (subst Low text short.octets))

-- a short item spells a string
pub short_spells : (p : Token) (item : RawItem) → IsToken p → item ∷ [] ≡ item_of p → IsShort item → (octets : List ℕ) × SpellsString item octets
short_spells (bare units) item is e short = (written_octets units, units_spell _ units item is.1 (cc) short)
short_spells (quoted units) item is e short = (written_octets units, units_spell _ units item is (cc) short)
short_spells p item is e short = absurd cc

-- ---- items of tokens

bare_written : (units : List Written) → 0 < length units → 0 < length (written_text units)
bare_written [] some = absurd (omega (arith, some))
bare_written (w ∷ units) some = search rules

pub items_written : (tokens : List Token) → AllByRecursion IsToken tokens → AllByRecursion IsWritten (flat_map item_of tokens)
items_written [] each = tt
items_written (p ∷ tokens) each = search (rules, bare_written, items_written tokens each.1)

-- ---- one item more

-- an item of a token comes after those kept, or is left out
pub keeps_more : (p : Token) (items kept new : List RawItem) (item : RawItem) → IsToken p → item ∷ [] ≡ item_of p → AreKept items kept → Keeps item kept new → AreKept (items ++ item ∷ []) new
keeps_more p items kept new item is e (inl all) has = grind (arith, common_steps, short_spells, append-nil)
keeps_more p items kept new item is e (inr short) (inl more) = search (rules, one_kept)
keeps_more p items kept new item is e (inr short) (inr less) =
    let spells = short_spells p item is e less.2 in
    inr (rw (less.0) (one_left_out _ items kept item spells.0 spells.1 short))

-- ---- few items

-- few kept are all
pub all_few : (items kept : List RawItem) → AreKept items kept → length kept < 65552 → kept ≡ items
all_few items kept (inl all) few = all
all_few items kept (inr short) few = absurd (let l : length kept ≡ length short.first + length short.others = ap length short.are_kept ∙ length-append short.first short.others in omega (arith, l, few, short.many))

-- and of few all are kept
pub few_kept : (items kept : List RawItem) → AreKept items kept → length items < 65552 → kept ≡ items
few_kept items kept (inl all) few = all
few_kept items kept (inr short) few = absurd (let l : length items ≡ length short.first + length short.more = ap length short.whole ∙ length-append short.first short.more in omega (arith, l, few, short.many))
