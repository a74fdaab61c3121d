-- A value that is printed states its octets, whether quotes are due or not.
use Rattle.type_data.proofs.Common.{AllByRecursion-append, AreOctets, IsUnit, List, RawItem, Unescaped, [], append-nil, arith, flat_map-append, map-append, no_octet, refl, subst, sym, ℕ, ◌++◌, ◌∷◌}
use Rattle.zone_rdata.proofs.Strings.StringLaws.{printed_spells}
use Rattle.zone_rdata.specs.Strings.{inside_text}
use Rattle.type_data.specs.FirstItem.{FirstStates}
use Rattle.type_data.specs.Kinds.Value.{PrintsValue, StatesQuotedValue, StatesValue}

pub value_unescaped : (octets : List ℕ) → AreOctets octets → Unescaped (inside_text octets) octets
value_unescaped [] each = record { units = []; each = tt; parts = refl; value = refl }
value_unescaped (c ∷ octets) each =
    let first = printed_spells (c ∷ []) (record { short = omega arith; each = (each.0, tt) }) in
    let more = value_unescaped octets each.1 in
    record {
      units = first.units ++ more.units;
      each = AllByRecursion-append (IsUnit no_octet) first.units more.units first.each more.each;
      parts = grind (arith, first.text, more.parts, flat_map-append, append-nil);
      value = grind (arith, first.value, more.value, map-append);
    }

pub value_printed_states : (items : List RawItem) (octets : List ℕ) → PrintsValue items octets → FirstStates StatesQuotedValue items octets
value_printed_states items octets printed = subst (λ items. FirstStates StatesQuotedValue items octets) (sym printed.1) (value_unescaped octets printed.0)

pub bare_or_quoted_value : (items : List RawItem) (octets : List ℕ) → PrintsValue items octets → FirstStates StatesValue items octets
bare_or_quoted_value items octets printed = subst (λ items. FirstStates StatesValue items octets) (sym printed.1) (value_unescaped octets printed.0)
