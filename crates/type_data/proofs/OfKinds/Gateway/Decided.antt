-- Gateways and relays are stated or have a fault.
use Rattle.zone_name.specs.Common.{EitherIs}
use Rattle.zone_rdata.proofs.Items.GenericLaws.{decimal_or_not}
use Rattle.zone_rdata.proofs.Words.OneWord.{same_or_not}
use Rattle.type_data.proofs.Common.{List, [], cases_lt, codes, inl, inr, refl, ℕ, NotAName, None, ◌∷◌, RawItem}
use Rattle.type_data.specs.Kinds.Gateway.{FailsUpTo, StatesUpTo, no_digits, too_great, FailsNoAddress, StatesNoAddress, FailsNothing, StatesNothing}
use Rattle.type_data.specs.declared.fault.WordsFault.TheVariants.{NotANumber, TooLarge, ItemsLeftOver}

pub up_to_decided : (most : ℕ) (octets_of : ℕ → List ℕ) (text : List ℕ) → EitherIs (StatesUpTo most octets_of text) (FailsUpTo most text)
up_to_decided most octets_of text = elim (decimal_or_not text) [
  | inr none ↦ inr (NotANumber, no_digits none)
  | inl found ↦ elim (cases_lt most found.0) [
    | inl over ↦ inr (TooLarge, too_great found.0 found.1 over)
    | inr few ↦ inl (octets_of found.0, record { number = found.0; stated = found.1; few = few; value = refl })
  ]
]

pub no_address_decided : (text : List ℕ) → EitherIs (StatesNoAddress text) (FailsNoAddress text)
no_address_decided text = elim (same_or_not text (codes ".")) [
  | inl dot ↦ inl ([], (dot, refl))
  | inr other ↦ inr (NotAName None, (other, refl))
]

pub nothing_decided : (items : List RawItem) → EitherIs (StatesNothing items) (FailsNothing items)
nothing_decided [] = inl ([], (refl, refl))
nothing_decided (item ∷ items) = inr (ItemsLeftOver, ((λ e. cc e), refl))
