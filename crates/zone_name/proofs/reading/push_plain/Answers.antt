use Rattle.zone_name.proofs.Common.{Folded, Ok, ap, labels_of, option_copied, sym, take, ◌++◌, ◌∙◌}
use Rattle.zone_name.specs.declared.reading.NameShape.TheVariants.{Labels}
use Rattle.zone_name.proofs.Spelling.Answered.{tells}
use Rattle.zone_name.proofs.reading.push_plain.Goals as goal

pub returns-clause-done : goal.returns-clause-done
returns-clause-done c = λ done.
    let octets = take c.in-Some.len c.read_plain.new.room in
    let name = c.in-Some.ensures.name in (
      labels_of octets,
      (tells Folded (option_copied c.args.origin) c.args.text.now Labels (Ok tt) (labels_of octets) c.in-Labels.ensures c.requires c.type_inv.text name.1 tt).found,
      c.in_ok-extend_from_slice.ensures.items ∙ ap (λ o. c.args.out.now.items ++ o) (sym name.0.whole),
    )
