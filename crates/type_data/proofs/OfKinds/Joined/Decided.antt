-- Items whose texts are joined are stated or have a fault.
use Rattle.zone_rdata.proofs.Choices.{Choice, Decided, each_or_not}
use Rattle.zone_rdata.specs.Item.{bare, quoted}
use Rattle.type_data.proofs.Common.{AllByRecursion, AllByRecursion-append, AreOctets, List, RawItem, [], flat_map, inl, inr, item_text, refl, subst, ℕ, ◌<◌, ◌∷◌}
use Rattle.type_data.specs.Kinds.Joined.{IsBare, StatesJoined}
use Rattle.type_data.proofs.Decided.Items.{AreLow}

bare_or_not : (item : RawItem) → Decided (IsBare item)
bare_or_not (bare text) = inl tt
bare_or_not (quoted text) = inr (λ is. is)

joined_by : (StandsFor : List ℕ → List ℕ → Type 0) (items : List RawItem) → Decided (AllByRecursion IsBare items) → Choice (StandsFor (flat_map item_text items)) → Choice (StatesJoined StandsFor items)
joined_by StandsFor items (inr none) found = inr (λ octets is. none is.joined.each)
joined_by StandsFor items (inl each) (inl found) = inl (found.0, record { text = flat_map item_text items; joined = record { each = each; joins = refl }; stands = found.1 })
joined_by StandsFor items (inl each) (inr none) = inr (λ octets is. none octets (subst (λ t. StandsFor t octets) is.joined.joins is.stands))

pub joined_or_not : (StandsFor : List ℕ → List ℕ → Type 0) (items : List RawItem) → Choice (StandsFor (flat_map item_text items)) → Choice (StatesJoined StandsFor items)
joined_or_not StandsFor items found = joined_by StandsFor items (each_or_not IsBare bare_or_not items) found

pub joined_low : (items : List RawItem) → AreLow items → AreOctets (flat_map item_text items)
joined_low [] low = tt
joined_low (item ∷ items) low = AllByRecursion-append (λ c. c < 256) (item_text item) (flat_map item_text items) low.0 (joined_low items low.1)
