use Rattle.zone_name.proofs.Common.{Err, Ok, Origin, RelativeName, Root, ap, labels_of, on_err_weaker, option_copied, origin_in, sym}
use Rattle.zone_name.specs.declared.reading.NameShape.TheVariants.{Labels}
use Rattle.zone_name.proofs.Spelling.Answered.{answered, answered-origin, tells}
use Rattle.zone_name.proofs.Spelling.Letters.{held_origin, root_holds}
use Rattle.zone_name.proofs.InOctets.Octets.{root_has_none}
use Rattle.zone_name.proofs.reading.read_name.Goals as goal

pub returns-in-Root : goal.returns-in-Root
returns-in-Root c =
    let t = tells c.args.letters (option_copied c.args.origin) c.args.text.now Root (Ok tt) (labels_of c.hold.new.self) c.in-Root.ensures c.requires c.type_inv.text (ap (λ ls. Ok ls) (sym (root_has_none _ c.hold.ensures))) tt in
    record { holds = root_holds c.args.letters _ c.hold.ensures; found = t.found; only = t.only; fault = tt; err = tt }

pub returns-in-Some : goal.returns-in-Some
returns-in-Some c =
    let is = ap (λ o. origin_in (option_copied o)) c.in-Some.is in
    let known = held_origin c.args.letters (option_copied c.args.origin) c.requires in
    let t = tells c.args.letters (option_copied c.args.origin) c.args.text.now Origin (Ok tt) (labels_of c.hold-in-Some.new.self) c.in-Origin.ensures c.requires c.type_inv.text (rw c.hold-in-Some.ensures (answered-origin c.args.letters _ c.args.text.now _ is known)) tt in
    record { holds = rw c.hold-in-Some.ensures (rw c.in-Some.is at c.requires); found = t.found; only = t.only; fault = tt; err = tt }

pub returns-in-None : goal.returns-in-None
returns-in-None c =
    let t = tells c.args.letters (option_copied c.args.origin) c.args.text.now Origin (Err RelativeName) (labels_of c.hold-in-None.new.self) c.in-Origin.ensures c.requires c.type_inv.text tt (ap (λ o. answered c.args.letters (origin_in (option_copied o)) c.args.text.now Origin) c.in-None.is) in
    record { holds = root_holds c.args.letters _ c.hold-in-None.ensures; found = tt; only = t.only; fault = t.fault; err = root_has_none _ c.hold-in-None.ensures }

pub returns-in-Labels : goal.returns-in-Labels
returns-in-Labels c =
    let t = tells c.args.letters (option_copied c.args.origin) c.args.text.now Labels c.replace.result (labels_of c.replace.new.octets) c.in-Labels.ensures c.requires c.type_inv.text c.replace.ensures.ok c.replace.ensures.err in
    record { holds = c.replace.ensures.holds; found = t.found; only = t.only; fault = t.fault; err = on_err_weaker c.replace.result (λ e. root_has_none _ e) c.replace.ensures.root }
