-- Character-strings are stated or have a fault.
use Rattle.zone_name.specs.Common.{EitherIs}
use Rattle.zone_rdata.proofs.Strings.Units.{string_or_fault}
use Rattle.zone_rdata.specs.Fields.Strings.{FirstStringFault}
use Rattle.zone_rdata.specs.Strings.{SpellsString}
use Rattle.type_data.proofs.Common.{AllZip, AreOctets, Fault, List, RawItem, [], arith, flat_map, inl, inr, item_text, refl, with_length, ℕ, ◌∷◌, ◌⊎◌}
use Rattle.type_data.specs.Kinds.Strings.{FailsPerhaps, FailsString, FailsStrings, StatesPerhaps, StatesString, StatesStrings, of_string}
use Rattle.type_data.specs.declared.fault.WordsFault.TheVariants.{NothingLeft}
use Rattle.type_data.proofs.Decided.Items.{AreLow}

pub string_decided : (item : RawItem) → AreOctets (item_text item) → EitherIs (StatesString item) (FailsString item)
string_decided item low = elim (string_or_fault item low) [
  | inl found ↦ inl (with_length found.0, record { string = found.0; spelt = found.1; value = refl })
  | inr bad ↦ inr (of_string bad.0, record { own = bad.0; first = bad.1; is = refl })
]

each_string : (items : List RawItem) → AreLow items → ((strings : List (List ℕ)) × AllZip SpellsString items strings) ⊎ ((fault : Fault) × FirstStringFault items fault)
each_string [] low = inl ([], tt)
each_string (item ∷ items) low = elim (string_or_fault item low.0) [
  | inr bad ↦ inr (bad.0, inl bad.1)
  | inl found ↦ elim (each_string items low.1) [
    | inl more ↦ inl (found.0 ∷ more.0, (found.1, more.1))
    | inr bad ↦ inr (bad.0, inr (found.0, found.1, bad.1))
  ]
]

pub strings_decided : (items : List RawItem) → AreLow items → EitherIs (StatesStrings items) (FailsStrings items)
strings_decided [] low = inr (NothingLeft, refl)
strings_decided (item ∷ items) low = elim (each_string (item ∷ items) low) [
  | inl found ↦ inl (flat_map with_length found.0, record { strings = found.0; spelt = record { some = omega arith; each = found.1 }; value = refl })
  | inr bad ↦ inr (of_string bad.0, record { own = bad.0; first = bad.1; is = refl })
]

pub perhaps_decided : (items : List RawItem) → AreLow items → EitherIs (StatesPerhaps items) (FailsPerhaps items)
perhaps_decided [] low = inl ([], refl)
perhaps_decided (item ∷ items) low = string_decided item low.0
