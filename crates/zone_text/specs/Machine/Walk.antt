-- How far a walk over an entry came, token by token (RFC 1035 5.1).
use Rattle.std.specs.Prelude.{◌≡◌, ⊤, ℕ, zero, ◌-◌, ◌<◌, ◌≤◌, List, [], ◌∷◌, ◌++◌, drop, take, length, count_by, ◌==◌, Bool, true, Option, Some, None}
use Rattle.std.specs.List.{AllByRecursion, flat_map}
use Rattle.zone_rdata.specs.Spelling.{RawItem}
use Rattle.zone_rdata.specs.declared.fault.Fault.{Fault}
use Rattle.zone_rdata.specs.declared.fault.Fault.TheVariants.{BadEscape, UnbalancedParenthesis}
use Rattle.zone_text.specs.Breaks.{IsBroken, MayEndBefore}
use Rattle.zone_text.specs.Entries.{Cut, cut_from, in_front_of, item_of}
use Rattle.zone_text.specs.FirstEntry.{IsBrokenOff, IsOneEntry}
use Rattle.zone_text.specs.Kept.{AreKept}
use Rattle.zone_text.specs.Machine.Kept.{Keeps}
use Rattle.zone_text.specs.Machine.Spans.{IsItemOrComment, IsOpenToken, IsSeen}
use Rattle.zone_text.specs.Machine.Stops.{Tells}
use Rattle.zone_text.specs.Tokens.{Token, text, token_text, IsToken, AllFollow, depth_after}
use Rattle.zone_text.specs.declared.stops.Stops.{Stops}
use Rattle.zone_text.specs.declared.walk.At.{At}
use Rattle.zone_text.specs.declared.walk.Between.{Between}
use Rattle.zone_text.specs.declared.walk.Reached.{Reached}
use Rattle.zone_text.specs.declared.walk.Reached.TheVariants as reached
use Rattle.zone_text.specs.declared.walk.Step.{Step}
use Rattle.zone_text.specs.declared.walk.Step.TheVariants.{Goes, Reaches}

-- ---- a text from the left

-- the end of a text that is cut, or what breaks it
abbrev pub Ends : ℕ → List ℕ → Option Fault → Type 0
Ends depth octets None = (depth ≡ 0) × (octets ≡ [])
Ends depth octets (Some fault) = IsBroken depth octets fault

-- from a depth on, the text is these tokens, and after them it ends or breaks
pub record IsCut (depth : ℕ) (octets : List ℕ) (tokens : List Token)
    (fault : Option Fault) : Type 0 where
  pub rest : List ℕ
  pub at : ℕ
  pub whole : octets ≡ text tokens ++ rest
  pub each : AllByRecursion IsToken tokens
  pub follow : AllFollow tokens
  pub last : MayEndBefore tokens rest
  pub parentheses : depth_after depth tokens ≡ Some at
  pub ends : Ends at rest fault

-- octets that begin as these do
abbrev pub BeginAs : List ℕ → List ℕ → Type 0
BeginAs [] tail = ⊤
BeginAs (c ∷ rest) [] = ⊥
BeginAs (c ∷ rest) (d ∷ tail) = c ≡ d

-- tokens before the entries of others
abbrev pub fronted : List Token → Cut → Cut
fronted [] cut = cut
fronted (p ∷ tokens) cut = in_front_of p (fronted tokens cut)

-- ---- how far a walk came

-- What stands before the rest, at a depth of parentheses; what octets that begin as the rest does
-- make of it; and what is kept of its items, if they are kept
pub record Walked (octets rest : List ℕ) (depth feeds : ℕ) (keeps : Bool)
    (kept : List RawItem) : Type 0 where
  pub before : List Token
  pub whole : octets ≡ text before ++ rest
  pub goes : (tail : List ℕ) (more : List Token) (fault : Option Fault) → BeginAs rest tail
      → IsCut depth tail more fault → IsCut zero (text before ++ tail) (before ++ more) fault
  pub entries : (more : List Token)
      → cut_from zero (before ++ more) ≡ fronted before (cut_from depth more)
  pub are_kept : keeps ≡ true → AreKept (flat_map item_of before) kept
  pub feeds_are : count_by (λ c. c == 10) (text before) ≡ feeds
  pub deep : depth ≤ length (text before)

-- a walk may go on there
pub record StandsAt (octets : List ℕ) (at : At) (keeps : Bool) (kept : List RawItem) : Type 0 where
  pub walked : Walked octets (drop at.start octets) at.depth at.feeds keeps kept
  pub seen : IsSeen (drop at.start octets) (at.seen - at.start)
  pub within : at.start ≤ length octets
  pub order : at.start ≤ at.seen

-- a walk came to the end of the octets there
pub record StandsOpen (octets : List ℕ) (at : At) (keeps : Bool)
    (kept : List RawItem) : Type 0 where
  pub walked : Walked octets (drop at.start octets) at.depth at.feeds keeps kept
  pub is_open : IsOpenToken (drop at.start octets) (at.seen - at.start)
  pub within : at.start ≤ length octets
  pub order : at.start ≤ at.seen

-- the first n octets are an entry and the line feed that ends it, with so many line feeds, and
-- these of its items are kept, if they are kept
pub record EndsEntry (octets : List ℕ) (n feeds : ℕ) (keeps : Bool)
    (kept : List RawItem) : Type 0 where
  pub tokens : List Token
  pub one : IsOneEntry (take n octets) tokens
  pub stated : keeps ≡ true → AreKept (flat_map item_of tokens) kept
  pub some : 0 < n
  pub within : n ≤ length octets
  pub feeds_are : count_by (λ c. c == 10) (take n octets) ≡ feeds

abbrev pub IsWalked : List ℕ → Bool → List RawItem → Reached → Type 0
IsWalked octets keeps kept (reached.Ends n feeds) = EndsEntry octets n feeds keeps kept
IsWalked octets keeps kept (reached.Open at) = StandsOpen octets at keeps kept
IsWalked octets keeps kept (reached.LostEscape n) =
    IsBrokenOff (take n octets) BadEscape × (n ≤ length octets)
IsWalked octets keeps kept (reached.ClosesNothing n) =
    IsBrokenOff (take n octets) UnbalancedParenthesis × (n ≤ length octets)

-- what is known of the octets after the entry, where it ends
abbrev pub TellsAfter : List ℕ → Reached → Stops → Type 0
TellsAfter octets (reached.Ends n feeds) known = Tells known (drop n octets)
TellsAfter octets found known = ⊤

-- ---- a token more

-- a walk came to a token, and `after` is it past an octet of the token that was looked at
pub record IsBegun (octets token : List ℕ) (after : Between) (keeps : Bool)
    (kept : List RawItem) : Type 0 where
  pub walked : Walked octets token after.depth after.feeds keeps kept
  pub tells : Tells after.stops after.rest.now
  pub skip : ℕ
  pub skipped : after.rest.now ≡ drop skip token
  pub room : skip ≤ length token

-- a walk came past a token
pub record IsPast (octets token : List ℕ) (walk : Between) (keeps : Bool)
    (kept : List RawItem) : Type 0 where
  pub walked : Walked octets walk.rest.now walk.depth walk.feeds keeps kept
  pub tells : Tells walk.stops walk.rest.now
  pub shorter : length walk.rest.now < length token

-- a walk comes to this by a token
abbrev pub IsStep : List ℕ → List ℕ → Bool → List RawItem → Step → Type 0
IsStep octets token keeps kept (Goes walk) = IsPast octets token walk keeps kept
IsStep octets token keeps kept (Reaches found stops) =
    IsWalked octets keeps kept found × TellsAfter octets found stops

-- the items of a token come after others
abbrev pub KeepsAll : List RawItem → List RawItem → List RawItem → Type 0
KeepsAll [] old new = new ≡ old
KeepsAll (item ∷ items) old new = Keeps item old new

-- if the octets are an item or a comment, it has so many line feeds, and its item comes after
-- others, if items are kept
abbrev pub KeepsToken : List ℕ → ℕ → Bool → List RawItem → List RawItem → Type 0
KeepsToken octets feeds keeps old new =
    (p : Token) → octets ≡ token_text p → IsToken p → IsItemOrComment p
    → (count_by (λ c. c == 10) octets ≡ feeds) × (keeps ≡ true → KeepsAll (item_of p) old new)
