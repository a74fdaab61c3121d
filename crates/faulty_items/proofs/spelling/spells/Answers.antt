use Rattle.faulty_items.proofs.Common.{[], raw, ◌∷◌}
use Rattle.zone_rdata.specs.Field.{string}
use Rattle.faulty_items.proofs.SpeltValues.{no_strings_value, not_of_kind, of_kind, one_string}
use Rattle.faulty_items.proofs.spelling.spells.Goals as goal

pub returns-in-OneString-default-clause-yes : goal.returns-in-OneString-default-clause-yes
returns-in-OneString-default-clause-yes c = λ yes. of_kind c.args.origin.now c.args.field _ (raw c.args.item ∷ []) c.in-OneString-default.is-0 (let found = c.is_string.ensures.yes yes in (string found.0, found.1))

pub returns-in-Strings-default-clause-yes : goal.returns-in-Strings-default-clause-yes
returns-in-Strings-default-clause-yes c = λ yes. of_kind c.args.origin.now c.args.field _ (raw c.args.item ∷ []) c.in-Strings-default.is-0 (let found = c.is_string-in-Strings-default.ensures.yes yes in one_string c.args.origin.now (raw c.args.item) found.0 found.1)

pub returns-in-Strings-default-clause-no : goal.returns-in-Strings-default-clause-no
returns-in-Strings-default-clause-no c = λ no. not_of_kind c.args.origin.now c.args.field _ (raw c.args.item ∷ []) c.in-Strings-default.is-0 (no_strings_value c.args.origin.now (raw c.args.item) (c.is_string-in-Strings-default.ensures.no no))
