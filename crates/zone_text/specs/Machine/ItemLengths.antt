-- How far an item goes, as it is looked for from the left (RFC 1035 5.1).
use Rattle.std.specs.Prelude.{◌≡◌, ℕ, List, [], ◌∷◌, ◌==◌, ◌||◌, Bool, true}
use Rattle.zone_rdata.specs.Strings.{is_quote}
use Rattle.zone_text.specs.Tokens.{ends_item}
use Rattle.zone_text.specs.declared.items.Extent.{Extent}
use Rattle.zone_text.specs.declared.items.Extent.TheVariants.{Bare, Quoted}

-- what ends an item where no backslash stands before it
abbrev pub ends_within : Extent → ℕ → Bool
ends_within Bare c = ends_item c
ends_within Quoted c = is_quote c

-- what ends an item there, or a backslash
abbrev pub stops_within : Extent → ℕ → Bool
stops_within extent c = ends_within extent c || c == 92

-- of a bare item
abbrev pub stops_bare : ℕ → Bool
stops_bare c = ends_item c || c == 92

-- the text ends, or begins with an octet that ends what is before it
abbrev pub EndsAt : (ℕ → Bool) → List ℕ → Type 0
EndsAt ends [] = Unit {0}
EndsAt ends (c ∷ rest) = ends c ≡ true
