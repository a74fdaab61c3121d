use Rattle.zone_wire.proofs.Common.{arith, refl}
use Rattle.zone_wire.proofs.Fields.FieldReading.{name_read, name_over, name_faulty}
use Rattle.zone_wire.proofs.Names.Walking.{walk_names, name_bounds, name_refused}
use Rattle.zone_wire.proofs.cursor.Cursor.name.Goals as goal

pub invariant_of-self-clause-short : goal.invariant_of-self-clause-short
invariant_of-self-clause-short c = omega (arith, c.args.self.now.short, (name_bounds c.args.self.now.message.now c.args.self.now.at _ (walk_names c.args.self.now.message.now c.args.self.now.at _ c.args.self.now.octets c.in-Ok.ensures.1)).start)

pub returns-in-Err-clause-fault : goal.returns-in-Err-clause-fault
returns-in-Err-clause-fault c = name_faulty c.args.self.now _ (name_refused c.args.self.now.message.now c.args.self.now.at _ _ c.in-Err.ensures)

pub returns-in-Ok-clause-fault : goal.returns-in-Ok-clause-fault
returns-in-Ok-clause-fault c = name_over c.args.self.now _ (walk_names c.args.self.now.message.now c.args.self.now.at _ c.args.self.now.octets c.in-Ok.ensures.1) (omega arith)

pub returns-in-Ok-2-clause-found : goal.returns-in-Ok-2-clause-found
returns-in-Ok-2-clause-found c = record {
  read = name_read c.args.self.now _ (walk_names c.args.self.now.message.now c.args.self.now.at _ c.args.self.now.octets c.in-Ok.ensures.1) (omega arith);
  same = refl;
}
