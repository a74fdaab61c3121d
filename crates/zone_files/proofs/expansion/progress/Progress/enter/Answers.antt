use Rattle.std.proofs.Common.{refl, map}
use Rattle.zone_rdata.specs.Item.{raw}
use Rattle.zone_files.proofs.Expansions.Progressing.{entered_begun, entered_failed, entered_opened, entered_written}
use Rattle.zone_files.proofs.expansion.progress.Progress.enter.Goals as goal

pub returns-in-Written : goal.returns-in-Written
returns-in-Written c =
    entered_written c.args.self.now _ c.args.entry.now (map raw c.args.items.now) c.args.last c.in_ok-take_entry.field-0 c.take_entry.new.self c.args.out.now.items c.take_entry.new.out.items c.in_ok-take_entry.ensures refl c.take_entry.new.out.items c.in-Written.is refl c.end_of-self.ensures

pub returns-in_ok-push_origin_line-in-Opens : goal.returns-in_ok-push_origin_line-in-Opens
returns-in_ok-push_origin_line-in-Opens c =
    entered_opened c.args.self.now _ c.args.entry.now (map raw c.args.items.now) c.args.last c.in_ok-take_entry.field-0 c.take_entry.new.self c.args.out.now.items c.take_entry.new.out.items c.in_ok-take_entry.ensures refl c.push_origin_line.new.out.items c.in-Opens.name c.in-Opens.origin c.in-Opens.is c.in_ok-push_origin_line-in-Opens.ensures refl refl refl

pub returns-in-Generates : goal.returns-in-Generates
returns-in-Generates c =
    entered_begun c.args.self.now _ c.args.entry.now (map raw c.args.items.now) c.args.last c.in_ok-take_entry.field-0 c.take_entry.new.self c.args.out.now.items c.take_entry.new.out.items c.in_ok-take_entry.ensures refl c.take_entry.new.out.items c.in-Generates.lines c.in-Generates.is refl refl refl refl

pub returns-in-Fails : goal.returns-in-Fails
returns-in-Fails c =
    entered_failed c.args.self.now _ c.args.entry.now (map raw c.args.items.now) c.args.last c.in_ok-take_entry.field-0 c.take_entry.new.self c.args.out.now.items c.take_entry.new.out.items c.in_ok-take_entry.ensures refl c.take_entry.new.out.items c.in-Fails.fault c.in-Fails.is refl refl
