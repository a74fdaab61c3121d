-- Items that stand as they are printed are the items of one line.
use Rattle.zone_text.proofs.Common.{AllByRecursion, IfSome, IsItem, IsUnit, List, Token, Written, [], ap, append_assoc, arith, bare, ends_item, false, flat_map, is_blank, item_of, join_with_byte, length, line_of, map, quoted, refl, rules, slice_get, sym, text, token_text, written_text, ℕ, ◌++◌, ◌<◌, ◌∙◌, ◌∷◌, ◌≡◌, ◌≢◌}
use Rattle.zone_name.proofs.Texts.Bare.{StandsBare, not_bare}
use Rattle.zone_rdata.specs.Spelling.{RawItem}
use Rattle.zone_rdata.specs.Spelling as raw
use Rattle.zone_rdata.specs.Text.{written_item}
use Rattle.zone_rdata.proofs.Texts.Standing.{IsPrintedItem}

-- ---- an item

-- what stands outside quotes doesn't end an item
pub units_go_on : (units : List Written) → AllByRecursion (IsUnit not_bare) units → AllByRecursion (IsUnit ends_item) units
units_go_on [] each = tt
units_go_on (w ∷ units) each = ((search rules), units_go_on units each.1)

-- the token that is an item
record TokenOf (item : RawItem) : Type 0 where
  token : Token
  is : IsItem token
  same : item_of token ≡ item ∷ []
  written : token_text token ≡ written_item item

token_of : (item : RawItem) → IsPrintedItem item → TokenOf item
token_of (raw.bare octets) stands = record {
  token = bare stands.units;
  is = (stands.some, units_go_on stands.units stands.each);
  same = ap (λ t. raw.bare t ∷ []) (sym stands.parts);
  written = sym stands.parts;
}
token_of (raw.quoted octets) stands = record {
  token = quoted stands.units;
  is = stands.each;
  same = ap (λ t. raw.quoted t ∷ []) (sym stands.parts);
  written = ap (λ t. 34 ∷ t ++ 34 ∷ []) (sym stands.parts);
}

-- ---- a line of items

line_text : (tokens : List Token) → text (line_of tokens) ≡ join_with_byte 32 (map token_text tokens) ++ 10 ∷ []
line_text [] = refl
line_text (item ∷ []) = refl
line_text (item ∷ next ∷ tokens) = search (rules, append_assoc, line_text (next ∷ tokens))

tokens_for : (items : List RawItem) → AllByRecursion IsPrintedItem items → (tokens : List Token) × AllByRecursion IsItem tokens × (flat_map item_of tokens ≡ items) × (map token_text tokens ≡ map written_item items)
tokens_for [] stand = ([], tt, refl, refl)
tokens_for (item ∷ items) stand =
    let it = token_of item stand.0 in
    let rest = tokens_for items stand.1 in
    (it.token ∷ rest.0, (it.is, rest.1), cc (it.same, rest.2), cc (it.written, rest.3))

-- the tokens whose line is written with the items
pub record TokensOf (items : List RawItem) : Type 0 where
  pub tokens : List Token
  pub each : AllByRecursion IsItem tokens
  pub same : flat_map item_of tokens ≡ items
  pub written : text (line_of tokens) ≡ join_with_byte 32 (map written_item items) ++ 10 ∷ []

pub tokens_of : (items : List RawItem) → AllByRecursion IsPrintedItem items → TokensOf items
tokens_of items stand =
    let found = tokens_for items stand in
    record { tokens = found.0; each = found.1; same = found.2; written = line_text found.0 ∙ ap (λ t. join_with_byte 32 t ++ 10 ∷ []) found.3 }

-- ---- where a line begins

-- an octet with which an entry begins that has an owner of its own
abbrev pub BeginsOwner : ℕ → Type 0
BeginsOwner c = (is_blank c ≡ false) × (c ≢ 36)

units_begin : (units : List Written) (rest : List ℕ) → 0 < length units → AllByRecursion (IsUnit not_bare) units → IfSome (slice_get (written_text units ++ rest) 0) BeginsOwner
units_begin [] rest some each = absurd (omega arith)
units_begin (w ∷ units) rest some each = search rules

pub text_begins : (octets rest : List ℕ) → StandsBare octets → IfSome (slice_get (octets ++ rest) 0) BeginsOwner
text_begins octets rest stands = search (rules, units_begin)
