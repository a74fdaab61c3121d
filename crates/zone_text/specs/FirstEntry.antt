-- The entry at the front of octets (RFC 1035 5.1).
use Rattle.std.specs.Prelude.{◌≡◌, ℕ, zero, ◌<◌, ◌≤◌, List, [], ◌∷◌, length, take}
use Rattle.std.specs.List.{flat_map}
use Rattle.zone_rdata.specs.Spelling.{RawItem}
use Rattle.zone_rdata.specs.declared.fault.Fault.{Fault}
use Rattle.zone_rdata.specs.declared.fault.Fault.TheVariants.{BadEscape, UnbalancedParenthesis}
use Rattle.zone_text.specs.Decided.{AreTokens}
use Rattle.zone_text.specs.Entries.{cut_from, item_of}
use Rattle.zone_text.specs.Kept.{AreKept}
use Rattle.zone_text.specs.Lasting.{BreaksForGood}
use Rattle.zone_text.specs.Tokens.{Token, Cuts}
use Rattle.zone_text.specs.declared.entry.FirstEntry.{FirstEntry}
use Rattle.zone_text.specs.declared.entry.FirstEntry.TheVariants as fronts

-- the octets are the tokens of one entry, with the line feed that ends it
pub record IsOneEntry (octets : List ℕ) (tokens : List Token) : Type 0 where
  pub cut : Cuts octets tokens
  pub ended : cut_from zero tokens ≡ record { ended = tokens ∷ []; open_tokens = [] }

-- the first n octets are an entry and the line feed that ends it, and these of its items are kept
pub record IsFirstEntry (octets : List ℕ) (n : ℕ) (kept : List RawItem) : Type 0 where
  pub tokens : List Token
  pub one : IsOneEntry (take n octets) tokens
  pub stated : AreKept (flat_map item_of tokens) kept
  pub some : 0 < n
  pub within : n ≤ length octets

-- no line feed ends an entry of the octets, and they don't break whatever follows them
pub record IsOpen (octets : List ℕ) : Type 0 where
  pub tokens : List Token
  pub are : AreTokens octets tokens
  pub none : (cut_from zero tokens).ended ≡ []
  pub goes_on : (fault : Fault) → BreaksForGood octets tokens fault → ⊥

-- none does, and they break, whatever follows them
pub record IsBrokenOff (octets : List ℕ) (fault : Fault) : Type 0 where
  pub tokens : List Token
  pub breaks : BreaksForGood octets tokens fault
  pub none : (cut_from zero tokens).ended ≡ []

-- what the entry at the front is, and its items where it is whole
abbrev pub FirstIs : List ℕ → List RawItem → FirstEntry → Type 0
FirstIs octets kept (fronts.Whole n) = IsFirstEntry octets n kept
FirstIs octets kept fronts.Open = IsOpen octets × (kept ≡ [])
FirstIs octets kept fronts.BadEscape = IsBrokenOff octets BadEscape × (kept ≡ [])
FirstIs octets kept fronts.UnbalancedParenthesis =
    IsBrokenOff octets UnbalancedParenthesis × (kept ≡ [])
