use Rattle.zone_wire.proofs.Common.{Awaits, IsReadyFor, Name, Octets, OneString, U16, ap, arith, next_value, on_ok_weaker, refl, subst}
use Rattle.zone_wire.proofs.Fields.FieldReading.{fixed_read, long_ready, part_put, unrefused}
use Rattle.zone_wire.proofs.data.push_field.Goals as goal

pub returns-in_ok-name-in-Name-clause-fault : goal.returns-in_ok-name-in-Name-clause-fault
returns-in_ok-name-in-Name-clause-fault c = unrefused c.args.cursor.now c.name.new.self c.args.builder.now Name _ (subst (IsReadyFor c.args.cursor.now c.args.builder.now) c.in-Name.is c.requires.next) tt tt (rw c.lend.ensures c.in_ok-name-in-Name.ensures.found) _ _ c.push.ensures.fault

pub returns-in_ok-u32-in-Serial-clause-fault : goal.returns-in_ok-u32-in-Serial-clause-fault
returns-in_ok-u32-in-Serial-clause-fault c = unrefused c.args.cursor.now c.u32.new.self c.args.builder.now _ _ (long_ready c.args.cursor.now c.args.builder.now c.args.field c.in-Serial.is c.requires.next) tt tt c.in_ok-u32-in-Serial.ensures.found _ _ c.push-in-Serial.ensures.fault

pub returns-in_ok-u16-in-U16-clause-fault : goal.returns-in_ok-u16-in-U16-clause-fault
returns-in_ok-u16-in-U16-clause-fault c = unrefused c.args.cursor.now c.u16.new.self c.args.builder.now U16 _ (subst (IsReadyFor c.args.cursor.now c.args.builder.now) c.in-U16.is c.requires.next) tt tt c.in_ok-u16-in-U16.ensures.found _ _ c.push-in-U16.ensures.fault

pub returns-in_ok-take-in-Octets-clause-found : goal.returns-in_ok-take-in-Octets-clause-found
returns-in_ok-take-in-Octets-clause-found c = on_ok_weaker c.push-in-Octets.result (λ pushed. part_put c.args.field (Octets c.in-Octets.size) c.args.cursor.now c.take.new.self c.args.builder.now c.push-in-Octets.new.self _ (ap (next_value c.args.cursor.now) c.in-Octets.is) refl (fixed_read c.args.cursor.now c.take.new.self c.in-Octets.size _ c.in_ok-take-in-Octets.ensures.found) pushed) c.push-in-Octets.ensures.ok

pub returns-in_ok-take-in-Octets-clause-fault : goal.returns-in_ok-take-in-Octets-clause-fault
returns-in_ok-take-in-Octets-clause-fault c =
    let awaits : Awaits c.args.cursor.now c.args.builder.now (Octets c.in-Octets.size) = subst (IsReadyFor c.args.cursor.now c.args.builder.now) c.in-Octets.is c.requires.next in
    unrefused c.args.cursor.now c.take.new.self c.args.builder.now (Octets c.in-Octets.size) _ awaits (c.in_ok-take-in-Octets.ensures.found.len, omega (arith, awaits.sized)) tt (fixed_read c.args.cursor.now c.take.new.self c.in-Octets.size _ c.in_ok-take-in-Octets.ensures.found) _ _ c.push-in-Octets.ensures.fault

pub returns-in_ok-string-in-OneString-clause-fault :
    goal.returns-in_ok-string-in-OneString-clause-fault
returns-in_ok-string-in-OneString-clause-fault c = unrefused c.args.cursor.now c.string.new.self c.args.builder.now OneString _ (subst (IsReadyFor c.args.cursor.now c.args.builder.now) c.in-OneString.is c.requires.next) tt c.in_ok-string-in-OneString.ensures.short c.in_ok-string-in-OneString.ensures.found _ _ c.push-in-OneString.ensures.fault
