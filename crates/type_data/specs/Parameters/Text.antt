-- How items state the texts of parameters: `key`, `key=value` or `key="value"` (RFC 9460 2.1).
use Rattle.std.specs.Prelude.{◌≡◌, ◌≢◌, ℕ, Bool, true, List, [], ◌∷◌, ◌++◌}
use Rattle.std.specs.List.{AllByRecursion}
use Rattle.zone_rdata.specs.Item.{RawItem, bare, quoted}
use Rattle.type_data.specs.DataItem.{TouchingItem}

-- a key and its value as they are written; a value that is left out is an empty one
pub record ParameterText : Type 0 where
  pub key : List ℕ
  pub value : List ℕ

abbrev pub HasNoEquals : List ℕ → Type 0
HasNoEquals text = AllByRecursion (λ c. c ≢ 61) text

abbrev pub placed : RawItem → Bool → TouchingItem
placed item touches = record { item = item; touches = touches }

-- the first item is in quotes and touches what stands before it
abbrev pub BeginWithTouchingQuote : List TouchingItem → Type 0
BeginWithTouchingQuote items =
    (inside : List ℕ) × (more : List TouchingItem) × (items ≡ placed (quoted inside) true ∷ more)

-- items from a parameter on, and what follows it
pub data BeginWith (items : List TouchingItem) (text : ParameterText)
    (rest : List TouchingItem) : Type 0 where
  alone : (touches : Bool) → HasNoEquals text.key → text.value ≡ []
      → items ≡ placed (bare text.key) touches ∷ rest → BeginWith items text rest
  bare_value : (touches : Bool) → HasNoEquals text.key
      → (text.value ≡ [] → BeginWithTouchingQuote rest → ⊥)
      → items ≡ placed (bare (text.key ++ 61 ∷ text.value)) touches ∷ rest
      → BeginWith items text rest
  quoted_value : (touches : Bool) → HasNoEquals text.key
      → items ≡ placed (bare (text.key ++ 61 ∷ [])) touches
      ∷ (placed (quoted text.value) true ∷ rest)
      → BeginWith items text rest
