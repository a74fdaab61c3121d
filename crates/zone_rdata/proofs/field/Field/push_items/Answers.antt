use Rattle.zone_rdata.proofs.Common.{if_fault_passed, refl, rules, fixed, name, string, u16_value, u32_value, wire, Appends, Bare, IsDecimal, IsTime, Some, Spells}
use Rattle.zone_rdata.proofs.Items.Values.{all_appended, first_appended, no_seconds, no_time, number_read}
use Rattle.zone_rdata.proofs.field.Field.push_items.Goals.{in-OneString-Some+in_ok-push_string-in-OneString-Some, in-Name-Some-Bare+in_ok-push_spelled-in-Name-Some-Bare+in_ok-branch-in-Name-Some-Bare, in-Serial-Some-Bare+in_ok-push_u32-in-Serial-Some-Bare, in-Time-Some-Bare+in_ok-push_u32-in-Time-Some-Bare, in-U16-Some-Bare+in_ok-push_u16-in-U16-Some-Bare, in-Octets-Some-Bare+in_ok-push_address-in-Octets-Some-Bare}
use Rattle.zone_rdata.proofs.field.Field.push_items.Goals as goal

pub returns-in-Strings-default-clause-found : goal.returns-in-Strings-default-clause-found
returns-in-Strings-default-clause-found c = all_appended _ _ _ _ _ c.in-Strings-default.is-0 c.in_ok-push_strings-in-Strings-default.ensures.found

pub returns-clause-found : goal.returns-clause-found
returns-clause-found c = elim c.match-self.branch [
  | in-OneString-Some+in_ok-push_string-in-OneString-Some w ↦ rw w.octets-is (first_appended string _ _ _ _ _ _ _ w.in-OneString-Some.is-0 w.in-OneString-Some.ensures.value (λ rest. refl) (λ x rest h. h) (λ x. refl) w.in_ok-push_string-in-OneString-Some.ensures.found)
  | in-Name-Some-Bare+in_ok-push_spelled-in-Name-Some-Bare+in_ok-branch-in-Name-Some-Bare w ↦
      let found = rw w.in_ok-branch-in-Name-Some-Bare.was at w.in_ok-push_spelled-in-Name-Some-Bare.ensures.found in
      let appends : Appends (Spells (Some c.args.origin.now) w.in-Name-Some-Bare.text.now) wire c.args.octets.now.items _ = record { value = found.0; stated = found.1; written = found.2 } in
      rw w.octets-is (first_appended name _ _ _ (Bare w.in-Name-Some-Bare.text) _ _ _ w.in-Name-Some-Bare.is-0 (search rules) (λ rest. refl) (λ x rest h. h) (λ x. refl) appends)
  | in-Serial-Some-Bare+in_ok-push_u32-in-Serial-Some-Bare w ↦ rw w.octets-is (first_appended u32_value _ _ _ (Bare w.in-Serial-Some-Bare.text) _ _ _ w.in-Serial-Some-Bare.is-0 (search rules) (λ rest. refl) (λ x rest h. h) (λ x. refl) (number_read (IsDecimal w.in-Serial-Some-Bare.text.now) _ _ _ w.in_ok-push_u32-in-Serial-Some-Bare.ensures.found w.decimal_of.ensures.found))
  | in-Time-Some-Bare+in_ok-push_u32-in-Time-Some-Bare w ↦ rw w.octets-is (first_appended u32_value _ _ _ (Bare w.in-Time-Some-Bare.text) _ _ _ w.in-Time-Some-Bare.is-0 (search rules) (λ rest. refl) (λ x rest h. h) (λ x. refl) (number_read (IsTime w.in-Time-Some-Bare.text.now) _ _ _ w.in_ok-push_u32-in-Time-Some-Bare.ensures.found w.seconds_of.ensures.found))
  | in-U16-Some-Bare+in_ok-push_u16-in-U16-Some-Bare w ↦ rw w.octets-is (first_appended u16_value _ _ _ (Bare w.in-U16-Some-Bare.text) _ _ _ w.in-U16-Some-Bare.is-0 (search rules) (λ rest. refl) (λ x rest h. h) (λ x. refl) w.in_ok-push_u16-in-U16-Some-Bare.ensures.found)
  | in-Octets-Some-Bare+in_ok-push_address-in-Octets-Some-Bare w ↦ rw w.octets-is (first_appended fixed _ _ _ (Bare w.in-Octets-Some-Bare.text) _ _ _ w.in-Octets-Some-Bare.is-0 (search rules) (λ rest. refl) (λ x rest h. h) (λ x. refl) w.in_ok-push_address-in-Octets-Some-Bare.ensures.found)
]

pub returns-in_err-push_u32-in-Time-Some-Bare-clause-fault : goal.returns-in_err-push_u32-in-Time-Some-Bare-clause-fault
returns-in_err-push_u32-in-Time-Some-Bare-clause-fault c =
    if_fault_passed c.from_residual-in_err-push_u32-in-Time-Some-Bare.result c.in_err-push_u32-in-Time-Some-Bare.field-0.0 _ _ c.from_residual-in_err-push_u32-in-Time-Some-Bare.ensures.1
    (λ fault bad. no_time c.args.origin.now c.args.self (Bare c.in-Time-Some-Bare.text) c.args.items.now _ fault c.in-Time-Some-Bare.is-0 (search rules) refl (no_seconds c.in-Time-Some-Bare.text.now c.seconds_of.result fault bad c.seconds_of.ensures.found c.seconds_of.ensures.none))
    c.in_err-push_u32-in-Time-Some-Bare.ensures.fault
