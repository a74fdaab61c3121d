-- What is settled of a text by its beginning, whatever octets follow it. This is this project's
-- own: RFC 1035 speaks of whole files.
use Rattle.std.specs.Prelude.{◌≡◌, ℕ, ◌<◌, List, [], ◌∷◌, ◌++◌, true, false, ◌⊎◌, ⊤}
use Rattle.std.specs.List.{AllByRecursion}
use Rattle.zone_name.specs.Spelling.{Written, decimal, octet_of, is_digit, written_text, IsUnit}
use Rattle.zone_rdata.specs.declared.fault.Fault.{Fault}
use Rattle.zone_rdata.specs.Strings.{is_quote}
use Rattle.zone_text.specs.Tokens.{Token, line_feed}
use Rattle.zone_text.specs.Breaks.{Breaks}

-- no tokens, or a line feed as the last of them
abbrev pub EndInLineFeed : List Token → Type 0
EndInLineFeed [] = ⊤
EndInLineFeed (line_feed ∷ []) = ⊤
EndInLineFeed (p ∷ []) = ⊥
EndInLineFeed (p ∷ q ∷ tokens) = EndInLineFeed (q ∷ tokens)

-- A backslash that begins no escape, as the octets after it tell: a line feed or a carriage return,
-- one or two digits and an octet that is none, or three digits of more than 255
pub data IsLostEscape (rest : List ℕ) : Type 0 where
  at_line_end : (c : ℕ) (more : List ℕ) → rest ≡ 92 ∷ c ∷ more → (c ≡ 10) ⊎ (c ≡ 13)
      → IsLostEscape rest
  one_digit : (x c : ℕ) (more : List ℕ) → rest ≡ 92 ∷ x ∷ c ∷ more → is_digit x ≡ true
      → is_digit c ≡ false → IsLostEscape rest
  two_digits : (x y c : ℕ) (more : List ℕ) → rest ≡ 92 ∷ x ∷ y ∷ c ∷ more → is_digit x ≡ true
      → is_digit y ≡ true → is_digit c ≡ false → IsLostEscape rest
  too_great : (x y z : ℕ) (more : List ℕ) → rest ≡ 92 ∷ x ∷ y ∷ z ∷ more → is_digit x ≡ true
      → is_digit y ≡ true → is_digit z ≡ true → 255 < octet_of (decimal x y z) → IsLostEscape rest

-- A backslash that begins no escape since the text ends, at once or after one or two digits
pub data IsCutOff (rest : List ℕ) : Type 0 where
  after_backslash : rest ≡ 92 ∷ [] → IsCutOff rest
  after_digit : (x : ℕ) → rest ≡ 92 ∷ x ∷ [] → is_digit x ≡ true → IsCutOff rest
  after_two_digits : (x y : ℕ) → rest ≡ 92 ∷ x ∷ y ∷ [] → is_digit x ≡ true
      → is_digit y ≡ true → IsCutOff rest

-- what breaks a text as it stands: a `)`, or a backslash outside quotes or after an opening quote
-- and quoted units
pub data StaysBroken (rest : List ℕ) : Type 0 where
  closing_stays : (after : List ℕ) → rest ≡ 41 ∷ after → StaysBroken rest
  escape_stays : IsLostEscape rest → StaysBroken rest
  quoted_escape_stays : (units : List Written) (after : List ℕ)
      → AllByRecursion (IsUnit is_quote) units → rest ≡ 34 ∷ written_text units ++ after
      → IsLostEscape after → StaysBroken rest

-- what breaks a text where it ends: nothing stands there, no quote closes an item, or an escape is
-- cut off
pub data BreaksAtEnd (rest : List ℕ) : Type 0 where
  nothing_left : rest ≡ [] → BreaksAtEnd rest
  quote_open : (units : List Written) → AllByRecursion (IsUnit is_quote) units
      → rest ≡ 34 ∷ written_text units → BreaksAtEnd rest
  escape_open : IsCutOff rest → BreaksAtEnd rest
  quoted_escape_open : (units : List Written) (after : List ℕ)
      → AllByRecursion (IsUnit is_quote) units → rest ≡ 34 ∷ written_text units ++ after
      → IsCutOff after → BreaksAtEnd rest

-- as the octets so far show, the text breaks after these tokens, and so does every text that it
-- begins
pub record BreaksForGood (octets : List ℕ) (tokens : List Token) (fault : Fault) : Type 0 where
  pub breaks : Breaks octets tokens fault
  pub stays : StaysBroken breaks.rest
