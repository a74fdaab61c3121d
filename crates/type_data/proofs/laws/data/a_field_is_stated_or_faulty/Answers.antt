use Rattle.type_data.proofs.Decided.Fields.{field_decided}
use Rattle.type_data.proofs.laws.data.a_field_is_stated_or_faulty.Goals as goal

pub returns : goal.returns
returns c origin kind items is = field_decided origin is kind items
