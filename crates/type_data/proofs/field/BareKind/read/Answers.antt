use Rattle.type_data.proofs.field.BareKind.read.Goals as goal

pub returns-in-Ipv6-clause-states : goal.returns-in-Ipv6-clause-states
returns-in-Ipv6-clause-states c = rw c.in-Ipv6.is c.read_address-in-Ipv6.ensures.stated

pub returns-in-Time-clause-fault : goal.returns-in-Time-clause-fault
returns-in-Time-clause-fault c = rw c.in-Time.is c.read_time.ensures.fault

pub returns-in-Eui48-clause-states : goal.returns-in-Eui48-clause-states
returns-in-Eui48-clause-states c = rw c.in-Eui48.is c.read_eui48.ensures.states

pub returns-in-Eui64-clause-states : goal.returns-in-Eui64-clause-states
returns-in-Eui64-clause-states c = rw c.in-Eui64.is c.read_eui64.ensures.states

pub returns-in-PublicKey-clause-states : goal.returns-in-PublicKey-clause-states
returns-in-PublicKey-clause-states c = rw c.in-PublicKey.is c.read_public_key.ensures.states

pub returns-in-PublicKey-clause-fault : goal.returns-in-PublicKey-clause-fault
returns-in-PublicKey-clause-fault c = rw c.in-PublicKey.is c.read_public_key.ensures.fault
