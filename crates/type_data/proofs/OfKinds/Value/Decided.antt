-- Values up to the end of the data are stated or have a fault.
use Rattle.zone_name.proofs.Spelling.Units.{NoUnit, at_backslash, at_end, at_octet, units_first_are}
use Rattle.zone_name.specs.Common.{EitherIs}
use Rattle.zone_name.specs.Machine.Units.{units_first}
use Rattle.zone_rdata.specs.Item.{bare, quoted}
use Rattle.type_data.proofs.Common.{AllByRecursion, BadEscape, ComesToBadEscape, IsUnit, List, RawItem, Unescaped, WordsFault, Written, ap, append-nil, inl, inr, item_text, no_octet, refl, written_octets, written_text, ℕ, ◌++◌, ◌∙◌, ◌≡◌}
use Rattle.type_data.specs.Kinds.Value.{FailsQuotedValue, FailsValue, StatesQuotedValue, StatesValue}
use Rattle.type_data.specs.declared.fault.WordsFault.TheVariants.{NotQuoted}

abbrev FailsUnescaped : List ℕ → WordsFault → Type 0
FailsUnescaped text fault = (fault ≡ BadEscape) × ComesToBadEscape text

unescaped_by : (text : List ℕ) (units : List Written) (rest : List ℕ) → text ≡ written_text units ++ rest → AllByRecursion (IsUnit no_octet) units → NoUnit no_octet rest → EitherIs (Unescaped text) (FailsUnescaped text)
unescaped_by text units rest whole each (at_end none) = inl (written_octets units, record { units = units; each = each; parts = whole ∙ ap (λ t. written_text units ++ t) none ∙ append-nil (written_text units); value = refl })
unescaped_by text units rest whole each (at_octet c more begins out) = absurd (cc out)
unescaped_by text units rest whole each (at_backslash bad) = inr (BadEscape, (refl, record { units = units; each = each; rest = rest; parts = whole; bad = bad }))

pub unescaped_decided : (text : List ℕ) → EitherIs (Unescaped text) (FailsUnescaped text)
unescaped_decided text =
    let found = units_first no_octet text in
    let are = units_first_are no_octet text in
    unescaped_by text found.units found.rest are.whole are.each are.none

pub value_decided : (item : RawItem) → EitherIs (StatesValue item) (FailsValue item)
value_decided item = unescaped_decided (item_text item)

pub quoted_value_decided : (item : RawItem) → EitherIs (StatesQuotedValue item) (FailsQuotedValue item)
quoted_value_decided (bare text) = inr (NotQuoted, refl)
quoted_value_decided (quoted text) = unescaped_decided text
