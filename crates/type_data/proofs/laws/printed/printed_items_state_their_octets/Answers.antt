use Rattle.type_data.proofs.OfKinds.Location.Printed.{location_printed_states}
use Rattle.type_data.proofs.OfKinds.Prefixes.Printed.{prefixes_printed_state}
use Rattle.type_data.proofs.OfKinds.Base64.ReadAgain.{base64_printed_states}
use Rattle.type_data.proofs.OfKinds.Hexadecimal.ReadAgain.{hex_printed_states}
use Rattle.type_data.proofs.OfKinds.Strings.ReadAgain.{strings_printed_states}
use Rattle.type_data.proofs.OfKinds.Value.ReadAgain.{value_printed_states}
use Rattle.type_data.proofs.OfKinds.Types.Printed.{perhaps_types_printed_states, types_printed_states}
use Rattle.type_data.proofs.laws.printed.printed_items_state_their_octets.Goals as goal

pub returns-clause-hex : goal.returns-clause-hex
returns-clause-hex c = hex_printed_states

pub returns-clause-base64 : goal.returns-clause-base64
returns-clause-base64 c = base64_printed_states

pub returns-clause-strings : goal.returns-clause-strings
returns-clause-strings c = strings_printed_states

pub returns-clause-types : goal.returns-clause-types
returns-clause-types c = types_printed_states

pub returns-clause-perhaps_types : goal.returns-clause-perhaps_types
returns-clause-perhaps_types c = perhaps_types_printed_states

pub returns-clause-prefixes : goal.returns-clause-prefixes
returns-clause-prefixes c = prefixes_printed_state

pub returns-clause-location : goal.returns-clause-location
returns-clause-location c = location_printed_states

pub returns-clause-value : goal.returns-clause-value
returns-clause-value c = value_printed_states
