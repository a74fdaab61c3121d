use Rattle.type_data.proofs.Common.{ap, refl}
use Rattle.type_data.proofs.PrintedFields.{apart_printed, no_items_given, no_parameters_given, nothing_given}
use Rattle.type_data.proofs.PrintedKinds.{none_weaker, ok_goes}
use Rattle.type_data.proofs.field.FieldKind.print_all.Goals as goal
use Rattle.type_data.specs.Machine.PrintedFields.{prints_all}
use Rattle.type_data.specs.declared.field.FieldKind.TheVariants as kinds
use Rattle.type_data.specs.Kinds.Base64.{PrintsBase64, StatesBase64}
use Rattle.type_data.specs.Kinds.Hexadecimal.{PrintsHex, StatesHex}
use Rattle.type_data.specs.Kinds.Location.{PrintsLocation, StatesLocation}
use Rattle.type_data.specs.Kinds.Prefixes.{PrintsPrefixes, StatesPrefixes}
use Rattle.type_data.specs.Kinds.Strings.{PrintsStrings, StatesStrings}
use Rattle.type_data.specs.Kinds.Types.{PrintsPerhapsTypes, PrintsTypes, StatesPerhapsTypes, StatesTypes}
use Rattle.type_data.specs.Kinds.Value.{PrintsValue}

pub returns-in-Value-clause-printed : goal.returns-in-Value-clause-printed
returns-in-Value-clause-printed c = rw c.in-Value.is (ok_goes c.print_value_item.result _ _ (λ h. apart_printed PrintsValue c.args.octets.now _ _ h) c.print_value_item.ensures.printed)

pub returns-in-Value-clause-none : goal.returns-in-Value-clause-none
returns-in-Value-clause-none c = none_weaker c.print_value_item.result _ _ (λ h. absurd h) c.print_value_item.ensures.none

pub returns-in-QuotedValue-clause-printed : goal.returns-in-QuotedValue-clause-printed
returns-in-QuotedValue-clause-printed c = rw c.in-QuotedValue.is (ok_goes c.print_value_item-in-QuotedValue.result _ _ (λ h. apart_printed PrintsValue c.args.octets.now _ _ h) c.print_value_item-in-QuotedValue.ensures.printed)

pub returns-in-QuotedValue-clause-none : goal.returns-in-QuotedValue-clause-none
returns-in-QuotedValue-clause-none c = none_weaker c.print_value_item-in-QuotedValue.result _ _ (λ h. absurd h) c.print_value_item-in-QuotedValue.ensures.none

pub returns-in-Hex-clause-printed : goal.returns-in-Hex-clause-printed
returns-in-Hex-clause-printed c = rw c.in-Hex.is (ok_goes c.print_hex.result _ _ (λ h. apart_printed PrintsHex c.args.octets.now _ _ h) c.print_hex.ensures.printed)

pub returns-in-Hex-clause-none : goal.returns-in-Hex-clause-none
returns-in-Hex-clause-none c = rw c.in-Hex.is (none_weaker c.print_hex.result _ _ (λ h. no_items_given kinds.Hex StatesHex c.args.octets.now refl (λ origin items is. is) h) c.print_hex.ensures.none)

pub returns-in-Base64-clause-printed : goal.returns-in-Base64-clause-printed
returns-in-Base64-clause-printed c = rw c.in-Base64.is (ok_goes c.print_base64_item.result _ _ (λ h. apart_printed PrintsBase64 c.args.octets.now _ _ h) c.print_base64_item.ensures.printed)

pub returns-in-Base64-clause-none : goal.returns-in-Base64-clause-none
returns-in-Base64-clause-none c = rw c.in-Base64.is (none_weaker c.print_base64_item.result _ _ (λ h. no_items_given kinds.Base64 StatesBase64 c.args.octets.now refl (λ origin items is. is) h) c.print_base64_item.ensures.none)

pub returns-in-Strings-clause-printed : goal.returns-in-Strings-clause-printed
returns-in-Strings-clause-printed c = rw c.in-Strings.is (ok_goes c.print_strings.result _ _ (λ h. apart_printed PrintsStrings c.args.octets.now _ _ h) c.print_strings.ensures.printed)

pub returns-in-Strings-clause-none : goal.returns-in-Strings-clause-none
returns-in-Strings-clause-none c = rw c.in-Strings.is (none_weaker c.print_strings.result _ _ (λ h. no_items_given kinds.Strings StatesStrings c.args.octets.now refl (λ origin items is. is) h) c.print_strings.ensures.none)

pub returns-in-Types-clause-printed : goal.returns-in-Types-clause-printed
returns-in-Types-clause-printed c = rw c.in-Types.is (ok_goes c.print_types.result _ _ (λ h. apart_printed PrintsTypes c.args.octets.now _ _ h) c.print_types.ensures.printed)

pub returns-in-Types-clause-none : goal.returns-in-Types-clause-none
returns-in-Types-clause-none c = rw c.in-Types.is (none_weaker c.print_types.result _ _ (λ h. no_items_given kinds.Types StatesTypes c.args.octets.now refl (λ origin items is. is) h) c.print_types.ensures.none)

pub returns-in-PerhapsTypes-clause-printed : goal.returns-in-PerhapsTypes-clause-printed
returns-in-PerhapsTypes-clause-printed c = rw c.in-PerhapsTypes.is (ok_goes c.print_perhaps_types.result _ _ (λ h. apart_printed PrintsPerhapsTypes c.args.octets.now _ _ h) c.print_perhaps_types.ensures.printed)

pub returns-in-PerhapsTypes-clause-none : goal.returns-in-PerhapsTypes-clause-none
returns-in-PerhapsTypes-clause-none c = rw c.in-PerhapsTypes.is (none_weaker c.print_perhaps_types.result _ _ (λ h. no_items_given kinds.PerhapsTypes StatesPerhapsTypes c.args.octets.now refl (λ origin items is. is) h) c.print_perhaps_types.ensures.none)

pub returns-in-Prefixes-clause-printed : goal.returns-in-Prefixes-clause-printed
returns-in-Prefixes-clause-printed c = rw c.in-Prefixes.is (ok_goes c.print_prefixes.result _ _ (λ h. apart_printed PrintsPrefixes c.args.octets.now _ _ h) c.print_prefixes.ensures.printed)

pub returns-in-Prefixes-clause-none : goal.returns-in-Prefixes-clause-none
returns-in-Prefixes-clause-none c = rw c.in-Prefixes.is (none_weaker c.print_prefixes.result _ _ (λ h. no_items_given kinds.Prefixes StatesPrefixes c.args.octets.now refl (λ origin items is. is) h) c.print_prefixes.ensures.none)

pub returns-in-Location-clause-printed : goal.returns-in-Location-clause-printed
returns-in-Location-clause-printed c = rw c.in-Location.is (ok_goes c.print_location.result _ _ (λ h. apart_printed PrintsLocation c.args.octets.now _ _ h) c.print_location.ensures.printed)

pub returns-in-Location-clause-none : goal.returns-in-Location-clause-none
returns-in-Location-clause-none c = rw c.in-Location.is (none_weaker c.print_location.result _ _ (λ h. no_items_given kinds.Location StatesLocation c.args.octets.now refl (λ origin items is. is) h) c.print_location.ensures.none)

pub returns-in-Parameters-clause-none : goal.returns-in-Parameters-clause-none
returns-in-Parameters-clause-none c = rw c.in-Parameters.is (none_weaker c.print_parameters.result _ _ (λ h. no_parameters_given c.args.octets.now h) c.print_parameters.ensures.none)

pub returns-in-Nothing-clause-printed : goal.returns-in-Nothing-clause-printed
returns-in-Nothing-clause-printed c = rw c.in-Nothing.is (ok_goes c.print_nothing.result _ _ (λ h. nothing_given c.args.octets.now _ h) c.print_nothing.ensures.done)

pub returns-in-Bare-clause-none : goal.returns-in-Bare-clause-none
returns-in-Bare-clause-none c = absurd (cc (c.requires, ap prints_all c.in-Bare.is))

pub returns-in-OneString-clause-none : goal.returns-in-OneString-clause-none
returns-in-OneString-clause-none c = absurd (cc (c.requires, ap prints_all c.in-OneString.is))

pub returns-in-Each-clause-printed : goal.returns-in-Each-clause-printed
returns-in-Each-clause-printed c = rw c.in-Each.is c.print_each.ensures.printed

pub returns-in-Each-clause-none : goal.returns-in-Each-clause-none
returns-in-Each-clause-none c = rw c.in-Each.is c.print_each.ensures.none

pub returns-in-PerhapsOneString-clause-printed : goal.returns-in-PerhapsOneString-clause-printed
returns-in-PerhapsOneString-clause-printed c = rw c.in-PerhapsOneString.is c.print_perhaps_string.ensures.printed

pub returns-in-PerhapsOneString-clause-none : goal.returns-in-PerhapsOneString-clause-none
returns-in-PerhapsOneString-clause-none c = rw c.in-PerhapsOneString.is c.print_perhaps_string.ensures.none

pub returns-in-Parameters-clause-printed : goal.returns-in-Parameters-clause-printed
returns-in-Parameters-clause-printed c = rw c.in-Parameters.is c.print_parameters.ensures.printed

pub returns-in-Nothing-clause-none : goal.returns-in-Nothing-clause-none
returns-in-Nothing-clause-none c = rw c.in-Nothing.is c.print_nothing.ensures.none
