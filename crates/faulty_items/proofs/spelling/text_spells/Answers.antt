use Rattle.faulty_items.proofs.Common.{[], bare, ◌∷◌}
use Rattle.zone_rdata.specs.Field.{fixed, name, u16_value, u32_value}
use Rattle.faulty_items.proofs.SpeltValues.{no_address_value, no_name_value, no_time_value, not_of_kind, of_kind}
use Rattle.faulty_items.proofs.spelling.text_spells.Goals as goal

pub returns-in-Name-clause-yes : goal.returns-in-Name-clause-yes
returns-in-Name-clause-yes c = λ yes. of_kind c.args.origin.now c.args.field _ (bare c.args.text.now ∷ []) c.in-Name.is (let found = c.is_name.ensures.yes yes in (name found.0, found.1))

pub returns-in-Name-clause-no : goal.returns-in-Name-clause-no
returns-in-Name-clause-no c = λ one many no. not_of_kind c.args.origin.now c.args.field _ (bare c.args.text.now ∷ []) c.in-Name.is (no_name_value c.args.origin.now c.args.text.now (c.is_name.ensures.no no))

pub returns-in-Serial-clause-yes : goal.returns-in-Serial-clause-yes
returns-in-Serial-clause-yes c = λ yes. of_kind c.args.origin.now c.args.field _ (bare c.args.text.now ∷ []) c.in-Serial.is (let found = c.is_u32.ensures.yes yes in (u32_value found.0, found.1))

pub returns-in-Time-clause-yes : goal.returns-in-Time-clause-yes
returns-in-Time-clause-yes c = λ yes. of_kind c.args.origin.now c.args.field _ (bare c.args.text.now ∷ []) c.in-Time.is (let found = c.is_time.ensures.yes yes in (u32_value found.0, found.1))

pub returns-in-Time-clause-no : goal.returns-in-Time-clause-no
returns-in-Time-clause-no c = λ one many no. not_of_kind c.args.origin.now c.args.field _ (bare c.args.text.now ∷ []) c.in-Time.is (no_time_value c.args.origin.now c.args.text.now (c.is_time.ensures.no no))

pub returns-in-U16-clause-yes : goal.returns-in-U16-clause-yes
returns-in-U16-clause-yes c = λ yes. of_kind c.args.origin.now c.args.field _ (bare c.args.text.now ∷ []) c.in-U16.is (let found = c.is_u16.ensures.yes yes in (u16_value found.0, found.1))

pub returns-in-Octets-clause-yes : goal.returns-in-Octets-clause-yes
returns-in-Octets-clause-yes c = λ yes. of_kind c.args.origin.now c.args.field _ (bare c.args.text.now ∷ []) c.in-Octets.is (let found = c.is_address.ensures.yes yes in (fixed found.0, found.1))

pub returns-in-Octets-clause-no : goal.returns-in-Octets-clause-no
returns-in-Octets-clause-no c = λ one many no. not_of_kind c.args.origin.now c.args.field _ (bare c.args.text.now ∷ []) c.in-Octets.is (no_address_value c.args.origin.now c.in-Octets.count c.args.text.now (c.is_address.ensures.no no))
