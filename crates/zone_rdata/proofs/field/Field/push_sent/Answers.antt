use Rattle.zone_rdata.proofs.Common.{◌≡◌, ◌⊎◌, inl, inr, sym, subst, arith, IfOk-weaker, Field, u32_value, u16_value, fixed, Serial, Time, bytes_each}
use Rattle.zone_rdata.proofs.Fields.FieldLaws.{SizedField, appends_sized}
use Rattle.zone_rdata.proofs.Fields.Address as address
use Rattle.zone_rdata.proofs.Fields.Number.{serial_sized, time_sized, u16_sized}
use Rattle.zone_rdata.proofs.field.Field.push_sent.Goals as goal

number_of_32 : (f : Field) → (f ≡ Serial) ⊎ (f ≡ Time) → SizedField f u32_value 4
number_of_32 f (inl e) = subst (λ g. SizedField g u32_value 4) (sym e) serial_sized
number_of_32 f (inr e) = subst (λ g. SizedField g u32_value 4) (sym e) time_sized

pub returns-in-Name-clause-fault : goal.returns-in-Name-clause-fault
returns-in-Name-clause-fault c = rw c.in-Name.is c.push_sent_name.ensures.fault

pub returns-in-Serial-clause-found : goal.returns-in-Serial-clause-found
returns-in-Serial-clause-found c =
    IfOk-weaker c.push_prefix.result _ _ (λ rest grows. appends_sized c.args.self 4 (number_of_32 c.args.self c.in-Serial.is) c.args.octets.now rest.now c.args.canonical.now.items _ (bytes_each c.args.octets.now (λ i. omega (arith, c.type_inv.octets i))) grows) c.push_prefix.ensures.found

pub returns-in-U16-clause-found : goal.returns-in-U16-clause-found
returns-in-U16-clause-found c =
    IfOk-weaker c.push_prefix-in-U16.result _ _ (λ rest grows. appends_sized c.args.self 2 (subst (λ f. SizedField f u16_value 2) (sym c.in-U16.is) u16_sized) c.args.octets.now rest.now c.args.canonical.now.items _ (bytes_each c.args.octets.now (λ i. omega (arith, c.type_inv.octets i))) grows) c.push_prefix-in-U16.ensures.found

pub returns-in-Octets-clause-found : goal.returns-in-Octets-clause-found
returns-in-Octets-clause-found c =
    IfOk-weaker c.push_prefix-in-Octets.result _ _ (λ rest grows. appends_sized c.args.self c.in-Octets.count (subst (λ f. SizedField f fixed c.in-Octets.count) (sym c.in-Octets.is) (address.sized c.in-Octets.count)) c.args.octets.now rest.now c.args.canonical.now.items _ (bytes_each c.args.octets.now (λ i. omega (arith, c.type_inv.octets i))) grows) c.push_prefix-in-Octets.ensures.found

pub returns-in-OneString-clause-fault : goal.returns-in-OneString-clause-fault
returns-in-OneString-clause-fault c = rw c.in-OneString.is c.push_sent_string.ensures.fault

pub returns-in-Strings-clause-fault : goal.returns-in-Strings-clause-fault
returns-in-Strings-clause-fault c = rw c.in-Strings.is c.push_sent_strings.ensures.fault
