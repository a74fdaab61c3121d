-- How data is printed in words: for each kind of field a text of its octets, as items, each after a
-- blank (RFC 1035 5.1). Octets that no items state aren't printed.
use Rattle.std.specs.Prelude.{◌≡◌, ◌≤◌, ℕ, List, ◌∷◌, ◌++◌, EachIndex, slice_index, ⊤}
use Rattle.std.specs.List.{flat_map}
use Rattle.zone_rdata.specs.Item.{RawItem}
use Rattle.zone_rdata.specs.Text.{written_item}
use Rattle.type_data.specs.declared.unprinted.Unprinted.{Unprinted}
use Rattle.type_data.specs.declared.unprinted.Unprinted.TheVariants as unprinted

-- octets that a terminal shows as they are: spaces and the graphic ones of ASCII (RFC 20 4)
abbrev pub ArePrinted : List ℕ → Type 0
ArePrinted octets =
    EachIndex octets (λ k. (32 ≤ slice_index octets k) × (slice_index octets k ≤ 126))

-- A part at the front of octets is printed: its text is appended, and `rest` is left. No text states
-- another part there.
pub record PrintsFront (Prints States : List ℕ → List ℕ → Type 0) (octets rest old new : List ℕ)
    : Type 0 where
  pub part : List ℕ
  pub text : List ℕ
  pub whole : octets ≡ part ++ rest
  pub printed : Prints text part
  pub appended : new ≡ old ++ text
  pub alone : (other after words : List ℕ) → octets ≡ other ++ after → States words other
      → other ≡ part

-- no text states a part at the front of octets
abbrev pub NoFront : (List ℕ → List ℕ → Type 0) → List ℕ → Type 0
NoFront States octets = (part rest text : List ℕ) → octets ≡ part ++ rest → States text part → ⊥

-- items as they are written, each after a blank
abbrev pub after_blanks : List RawItem → List ℕ
after_blanks items = flat_map (λ item. 32 ∷ written_item item) items

-- all octets are printed: the items of which they are the octets are appended, each after a blank
pub record PrintsAll (Prints : List RawItem → List ℕ → Type 0) (octets old new : List ℕ) : Type 0
  where
    pub items : List RawItem
    pub printed : Prints items octets
    pub appended : new ≡ old ++ after_blanks items

-- no items state the octets
abbrev pub NoItems : (List RawItem → List ℕ → Type 0) → List ℕ → Type 0
NoItems States octets = (items : List RawItem) → States items octets → ⊥

-- what is said of octets that are no data holds, where that is why they aren't printed
abbrev pub IfNoData : Type 0 → Unprinted → Type 0
IfNoData Is unprinted.NoData = Is
IfNoData Is unprinted.OutOfMemory = ⊤
