-- Lines of a file that are entries by themselves.
use Rattle.std.specs.Prelude.{◌≡◌, ◌≢◌, ℕ, ◌<◌, ◌^◌, List, [], ◌∷◌, ◌++◌, length, take, ◌==◌, ◌||◌, Bool, false, not, Option, Some, None}
use Rattle.std.specs.List.{AllByRecursion, prefix_len}
use Rattle.zone_name.specs.Common.{Labels}
use Rattle.zone_name.specs.Spelling.{SpellsCased}
use Rattle.zone_text.specs.Tokens.{is_blank}
use Rattle.zone_words.specs.Inherited.{IsOneOrNone}
use Rattle.zone_files.specs.Expansion.{Files, Holds, owned_by, past}
use Rattle.zone_files.specs.FileExpander.{Continues}

-- what begins or closes another token than a blank, a bare item and a line feed, and `$`
abbrev pub is_mark : ℕ → Bool
is_mark c = c == 34 || c == 36 || c == 40 || c == 41 || c == 59 || c == 92

abbrev pub HasNoMark : List ℕ → Type 0
HasNoMark octets = AllByRecursion (λ c. is_mark c ≡ false) octets

abbrev pub HasNoFeed : List ℕ → Type 0
HasNoFeed octets = AllByRecursion (λ c. c ≢ 10) octets

-- there are none, or the last is a line feed
pub data EndsAtFeed (octets : List ℕ) : Type 0 where
  nothing : octets ≡ [] → EndsAtFeed octets
  feed : (front : List ℕ) → octets ≡ front ++ 10 ∷ [] → EndsAtFeed octets

-- lines without marks, each ended by a line feed
pub record AreLines (octets : List ℕ) : Type 0 where
  pub unmarked : HasNoMark octets
  pub ends : EndsAtFeed octets

-- one of them
pub record IsLine (octets : List ℕ) : Type 0 where
  pub body : List ℕ
  pub whole : octets ≡ body ++ 10 ∷ []
  pub unmarked : HasNoMark body
  pub unfed : HasNoFeed body

-- what stands up to the last line feed, and what stands after it
pub record HasParted (octets front back : List ℕ) : Type 0 where
  pub whole : octets ≡ front ++ back
  pub ends : EndsAtFeed front
  pub none : HasNoFeed back

-- a blank or a line feed
abbrev pub parts_owner : ℕ → Bool
parts_owner c = is_blank c || c == 10

-- the octets before the first blank or line feed, of which there are some
pub record StatesOwner (line owner : List ℕ) : Type 0 where
  pub some : 0 < length owner
  pub is : owner ≡ take (prefix_len (λ c. not (parts_owner c)) line) line

-- no octet stands before it
abbrev pub BeginsUnowned : List ℕ → Type 0
BeginsUnowned line = prefix_len (λ c. not (parts_owner c)) line ≡ 0

-- the name that its owner spells under an origin, or none where it spells none or there is no owner
pub data LeavesOwner (origin : Labels) (line : List ℕ) (found : Option Labels) : Type 0 where
  states : (owner : List ℕ) → StatesOwner line owner
      → IsOneOrNone (SpellsCased (Some origin) owner) found → LeavesOwner origin line found
  omits : BeginsUnowned line → found ≡ None → LeavesOwner origin line found

-- the octets stay as they are, and this holds after them
abbrev pub Stays : Holds → List ℕ → Holds → Type 0
Stays h octets next =
    (start : Holds) (fed : List ℕ) (files : Files) (given : List ℕ)
    → Continues start h [] fed files given
    → Continues start next [] (fed ++ octets) files (given ++ octets)

-- Where lines stay: the expanded text states last the owner that holds, no entry is taken out any more,
-- and lines are counted in 64 bits.
pub record MayStay (h : Holds) : Type 0 where
  pub own : h.owner ≡ h.stated
  pub none_out : h.taken_out ≡ []
  pub line : h.line < 2 ^ 64

-- this owner is the last one of the octets, if there is one
abbrev pub StayOwned : Labels → List ℕ → Option Labels → Type 0
StayOwned origin octets found =
    (h : Holds) → h.origin ≡ origin → MayStay h → Stays h octets (owned_by found (past octets h))
