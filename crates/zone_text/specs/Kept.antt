-- The items of an entry that are kept while it is read: all, or of very many those that may matter.
use Rattle.std.specs.Prelude.{◌≡◌, ℕ, List, ◌⊎◌}
use Rattle.std.specs.List.{flat_map}
use Rattle.zone_rdata.specs.Item.{RawItem}
use Rattle.zone_rdata.specs.LeftOut.{AreShortened}
use Rattle.zone_text.specs.Entries.{item_of}
use Rattle.zone_text.specs.Tokens.{Token, Cuts}

-- all items, or some that spell strings are left out after more than an entry has that states
-- anything
abbrev pub AreKept : List RawItem → List RawItem → Type 0
AreKept items kept = (kept ≡ items) ⊎ AreShortened 65552 items kept

-- these are kept of the items of octets that are cut into tokens
abbrev pub KeepsItems : List ℕ → List RawItem → Type 0
KeepsItems octets kept =
    (tokens : List Token) → Cuts octets tokens → AreKept (flat_map item_of tokens) kept
