-- Two texts that are cut into entries at the same places (RFC 1035 5.1): a master file and its
-- rewriting.
use Rattle.std.specs.Prelude.{◌≡◌, ℕ, zero, List, [], ◌∷◌, ◌++◌, ◌↔◌, count_by, ◌==◌}
use Rattle.std.specs.List.{AllZip}
use Rattle.zone_name.specs.Spelling.{Written}
use Rattle.zone_rdata.specs.declared.fault.Fault.{Fault}
use Rattle.zone_text.specs.Breaks.{Breaks}
use Rattle.zone_text.specs.Entries.{cut_from}
use Rattle.zone_text.specs.Tokens.{Token, bare, text, Cuts}
use Rattle.zone_words.specs.Written.{Anew, written}

-- an entry stays, or from one of its bare items on it is written anew
pub data IsKeptOrAnew (tokens new : List Token) : Type 0 where
  is_kept : new ≡ tokens → IsKeptOrAnew tokens new
  is_anew : (front back : List Token) (word : List Written) (it : Anew)
      → tokens ≡ front ++ bare word ∷ back → new ≡ front ++ written it back
      → IsKeptOrAnew tokens new

-- an entry and what is written for it have as many line feeds
abbrev pub HaveAsManyLines : List Token → List Token → Type 0
HaveAsManyLines tokens new =
    count_by (λ c. c == 10) (text tokens) ≡ count_by (λ c. c == 10) (text new)

-- Tokens that are cut into entries one by one, of which each two are alike; after them an entry is
-- open in both, or in neither.
pub record HaveEntriesAlike (Alike : List Token → List Token → Type 0)
    (tokens new : List Token) : Type 0 where
  pub ended : AllZip Alike (cut_from zero tokens).ended (cut_from zero new).ended
  pub last : Alike (cut_from zero tokens).open_tokens (cut_from zero new).open_tokens
  pub none_open : ((cut_from zero tokens).open_tokens ≡ [])
      ↔ ((cut_from zero new).open_tokens ≡ [])

-- Both texts are whole; or both break, by the same fault, and the entry that breaks is the same in
-- both, with all that follows it.
pub data AreCutAlike (Alike : List Token → List Token → Type 0)
    (octets new : List ℕ) : Type 0 where
  whole : (tokens others : List Token) → Cuts octets tokens → Cuts new others
      → HaveEntriesAlike Alike tokens others → AreCutAlike Alike octets new
  broken : (tokens others : List Token) (fault : Fault) (before : Breaks octets tokens fault)
      (after : Breaks new others fault) → HaveEntriesAlike Alike tokens others
      → (cut_from zero tokens).open_tokens ≡ (cut_from zero others).open_tokens
      → before.rest ≡ after.rest → AreCutAlike Alike octets new
