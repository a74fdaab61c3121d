-- Where the items of octets stand among their tokens.
use Rattle.std.specs.Prelude.{◌≡◌, ℕ, zero, suc, List, [], ◌∷◌, ◌++◌, drop, filter, length, Bool, ◌==◌, ◌||◌}
use Rattle.std.specs.List.{flat_map}
use Rattle.zone_name.specs.Spelling.{Written}
use Rattle.zone_rdata.specs.Item.{RawItem}
use Rattle.zone_text.specs.Entries.{item_of}
use Rattle.zone_text.specs.Tokens.{Token, bare, is_blank, quoted, text, AreTokensOf}
use Rattle.zone_words.specs.Written.{stays}

-- the items of the first token, and the octets after it
abbrev pub FrontIs : List ℕ → List RawItem → List ℕ → Type 0
FrontIs octets items left =
    (p : Token) (more : List Token) → AreTokensOf octets (p ∷ more)
    → (items ≡ item_of p) × AreTokensOf left more

-- ---- between items

-- a token of one octet that is no item
abbrev pub is_between : ℕ → Bool
is_between c = is_blank c || c == 10 || c == 40 || c == 41

-- the tokens from the first item on
abbrev pub from_item : List Token → List Token
from_item [] = []
from_item (bare units ∷ tokens) = bare units ∷ tokens
from_item (quoted units ∷ tokens) = quoted units ∷ tokens
from_item (p ∷ tokens) = from_item tokens

-- the tokens before it
abbrev pub before_item : List Token → List Token
before_item [] = []
before_item (bare units ∷ tokens) = []
before_item (quoted units ∷ tokens) = []
before_item (p ∷ tokens) = p ∷ before_item tokens

-- the octets from the first item on
abbrev pub PassesGap : List ℕ → List ℕ → Type 0
PassesGap octets left =
    (tokens : List Token) → AreTokensOf octets tokens → AreTokensOf left (from_item tokens)

-- the tokens before it that stay come after other octets
abbrev pub KeepsGap : List ℕ → List ℕ → List ℕ → Type 0
KeepsGap octets old new =
    (tokens : List Token) → AreTokensOf octets tokens
    → new ≡ old ++ text (filter stays (before_item tokens))

-- ---- past items

-- the octets after the item, where it is the first token
abbrev pub FollowsItem : List ℕ → RawItem → List ℕ → Type 0
FollowsItem octets item left =
    (p : Token) (more : List Token) → AreTokensOf octets (p ∷ more) → item_of p ≡ item ∷ []
    → AreTokensOf left more

-- the tokens after so many items
abbrev pub past_items : ℕ → List Token → List Token
past_items zero tokens = tokens
past_items (suc n) tokens = drop 1 (from_item (past_items n tokens))

-- the octets after these items, where they come first
abbrev pub FollowsItems : List ℕ → List RawItem → List ℕ → Type 0
FollowsItems octets items left =
    (tokens : List Token) (others : List RawItem) → AreTokensOf octets tokens
    → flat_map item_of tokens ≡ items ++ others → AreTokensOf left (past_items (length items) tokens)

-- the bare item after so many, where these are all items: what stands before it and what after it
abbrev pub StandsAround : List ℕ → List RawItem → ℕ → List ℕ → List ℕ → Type 0
StandsAround octets items n before after =
    (front back : List Token) (units : List Written)
    → AreTokensOf octets (front ++ bare units ∷ back)
    → flat_map item_of (front ++ bare units ∷ back) ≡ items
    → length (flat_map item_of front) ≡ n
    → (before ≡ text front) × (after ≡ text back)
