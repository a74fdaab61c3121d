use Rattle.std.proofs.Common.{refl, subst}
use Rattle.zone_text.proofs.Common.{on_ok_weaker}
use Rattle.zone_text.proofs.Entries.Begun.{none_left, some_left}
use Rattle.zone_text.specs.OpenEntry.{EndIs}
use Rattle.zone_files.specs.declared.expansion.progress.FileStatus.TheVariants.{BrokenOff, Ended}
use Rattle.zone_files.proofs.Expansions.Following.{end_follows, end_over, ends_broken, ends_none}
use Rattle.zone_files.proofs.Expansions.Turning.{end_last}
use Rattle.zone_files.proofs.expansion.file_expansion.FileExpansion.finish.Goals as goal

pub returns-then-is_empty-clause-follows : goal.returns-then-is_empty-clause-follows
returns-then-is_empty-clause-follows c = ends_none c.args.self.now (record c.args.self.now { progress = record c.args.self.now.progress { status = Ended } }) (c.is_going.ensures.yes c.if-not-is_going.false) c.args.out.now.items (rw (c.octets.ensures) at (none_left c.octets.result.now _ c.is_empty.result refl c.is_empty.ensures c.if-is_empty.true)) refl refl

pub returns-in-None-clause-follows : goal.returns-in-None-clause-follows
returns-in-None-clause-follows c =
    on_ok_weaker c.end_last.result (end_follows c.args.self.now c.end_last.new.self (c.is_going.ensures.yes c.if-not-is_going.false) c.end_fault.result c.in-None.is (c.end_fault.ensures.open c.requires.is.state)
    (rw (c.octets.ensures) at (some_left c.octets.result.now _ c.is_empty.result refl c.is_empty.ensures c.if-is_empty.false))
    c.args.out.now.items c.end_last.new.out.items) c.end_last.ensures.entered

pub returns-in-None-clause-ended : goal.returns-in-None-clause-ended
returns-in-None-clause-ended c =
    on_ok_weaker c.end_last.result (end_over c.args.self.now c.end_last.new.self c.end_fault.result c.in-None.is (c.end_fault.ensures.open c.requires.is.state) c.args.out.now.items c.end_last.new.out.items) c.end_last.ensures.entered

pub returns-in_ok-break_off-in-Some-clause-follows : goal.returns-in_ok-break_off-in-Some-clause-follows
returns-in_ok-break_off-in-Some-clause-follows c =
    ends_broken c.args.self.now (record c.break_off.new.self { progress = record c.break_off.new.self.progress { status = BrokenOff } }) (c.is_going.ensures.yes c.if-not-is_going.false) c.args.out.now.items c.break_off.new.out.items _ (subst (EndIs c.args.self.now.unfinished.octets) c.in-Some.is (c.end_fault.ensures.open c.requires.is.state)) refl c.in_ok-break_off-in-Some.ensures.pushed

pub returns-in-None-clause-last : goal.returns-in-None-clause-last
returns-in-None-clause-last c =
    on_ok_weaker c.end_last.result (end_last c.args.self.now c.end_last.new.self c.end_fault.result c.in-None.is (c.end_fault.ensures.open c.requires.is.state) c.args.out.now.items c.end_last.new.out.items) c.end_last.ensures.entered
