use Rattle.zone_set.proofs.Ordering.Between.{hints_tell}
use Rattle.zone_set.proofs.Common.{entry_record, record_of}
use Rattle.zone_set.proofs.offered.OfferedSoughtEntry.is_after.Goals as goal

pub returns-then-entry-self : goal.returns-then-entry-self
returns-then-entry-self c =
    hints_tell c.args.entry.now.hint c.args.self.now.hint (entry_record c.args.self.now.rr.now.class c.args.self.now.octets.now c.args.entry.now) (record_of c.args.self.now.rr.now)
    c.if-entry-self.true c.requires.before c.requires.after
