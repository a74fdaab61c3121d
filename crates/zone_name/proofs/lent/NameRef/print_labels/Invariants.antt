use Rattle.zone_name.proofs.Common.{◌≡◌, ◌++◌, flat_map, label_text, name_text}
use Rattle.zone_name.proofs.Texts.Sinks.{Took}
use Rattle.zone_name.proofs.lent.NameRef.print_labels.Given as goal

-- the labels so far and those to come are the name
abbrev pub invariant-loop-label : goal.invariant-loop-label
invariant-loop-label g l = Took g.S.Sink.takes l.fn.out l.out (λ text. text ++ flat_map label_text l.label-iterator ≡ name_text l.self)
