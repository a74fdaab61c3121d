use Rattle.zone_name.proofs.Texts.Lawful.{name_text-spelled}
use Rattle.zone_name.proofs.laws.printed_names_are_spelled.Goals as goal

pub returns : goal.returns
returns c = name_text-spelled
