use Rattle.type_data.proofs.Common.{given, map, number_at, ◌∙◌}
use Rattle.type_data.proofs.OfKinds.Gateway.Fields.{ipseckey_of_capped}
use Rattle.type_data.proofs.fields.ipseckey_fields.Goals as goal

pub returns : goal.returns
returns c =
    c.ipseckey_by.ensures
    ∙ ipseckey_of_capped (number_at (map given c.args.items.now) 1) (number_at (map given c.args.items.now) 2) c.number_at.result c.number_at-2.result c.number_at.ensures c.number_at-2.ensures
