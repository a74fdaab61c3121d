-- Values, strings and texts of several items are stated or have a fault.
use Rattle.zone_name.specs.Common.{EitherIs}
use Rattle.zone_rdata.proofs.Choices.{Choice}
use Rattle.type_data.proofs.Common.{AllByRecursion, AreOctets, List, RawItem, WordsFault, [], ap, inl, inr, item_text, refl, ℕ, ◌++◌, ◌∷◌}
use Rattle.type_data.proofs.Decided.Choices.{by_own}
use Rattle.type_data.specs.EachItem.{EachStates, OneFails}
use Rattle.type_data.specs.FirstItem.{FirstFails, FirstStates}
use Rattle.type_data.specs.Kinds.Joined.{FailsAs}
use Rattle.type_data.specs.declared.fault.WordsFault.TheVariants.{NothingLeft}

-- items whose texts are octets
abbrev pub AreLow : List RawItem → Type 0
AreLow items = AllByRecursion (λ item. AreOctets (item_text item)) items

-- what is so of each item
abbrev pub EachIs : (RawItem → List ℕ → Type 0) → (RawItem → WordsFault → Type 0) → Type 0
EachIs States Fails = (item : RawItem) → AreOctets (item_text item) → EitherIs (States item) (Fails item)

-- ---- items, the first and all

pub first_decided : (States : RawItem → List ℕ → Type 0) (Fails : RawItem → WordsFault → Type 0) → EachIs States Fails → (items : List RawItem) → AreLow items → EitherIs (FirstStates States items) (FirstFails Fails items)
first_decided States Fails one [] low = inr (NothingLeft, refl)
first_decided States Fails one (item ∷ items) low = one item low.0

pub each_decided : (States : RawItem → List ℕ → Type 0) (Fails : RawItem → WordsFault → Type 0) → EachIs States Fails → (items : List RawItem) → AreLow items → EitherIs (EachStates States items) (OneFails States Fails items)
each_decided States Fails one [] low = inl ([], record { parts = []; each = tt; value = refl })
each_decided States Fails one (item ∷ items) low = elim (one item low.0) [
  | inr bad ↦ inr (bad.0, inl bad.1)
  | inl found ↦ elim (each_decided States Fails one items low.1) [
    | inr bad ↦ inr (bad.0, inr (found.0, found.1, bad.1))
    | inl more ↦ inl (found.0 ++ more.0, record { parts = found.0 ∷ more.1.parts; each = (found.1, more.1.each); value = ap (λ t. found.0 ++ t) more.1.value })
  ]
]

-- the kind's own fault, where an item is left
pub as_own : (own : WordsFault) (States : List RawItem → List ℕ → Type 0) (items : List RawItem) → Choice (States items) → EitherIs (States items) (FailsAs own States items)
as_own own States [] found = inr (NothingLeft, refl)
as_own own States (item ∷ items) found = by_own own (States (item ∷ items)) found
