use Rattle.type_data.proofs.Common.{early_types, late_types, signed_types}
use Rattle.type_data.proofs.Registered.{early_found, found_in_none, late_found, signed_found}
use Rattle.type_data.proofs.TypeRegistry.{ascending_there, early_ascend, late_ascend, names_there, signed_ascend}
use Rattle.type_data.proofs.table.number_of_type.Goals as goal

pub returns-in-Some-clause-found : goal.returns-in-Some-clause-found
returns-in-Some-clause-found c = signed_found c.args.word.now c.in-Some.number _ (names_there _ signed_types c.signed_types.ensures) c.in-Some.ensures.found

pub returns-in-Some-number_of_word-clause-found :
    goal.returns-in-Some-number_of_word-clause-found
returns-in-Some-number_of_word-clause-found c = early_found c.args.word.now c.in-Some-number_of_word.number _ (names_there _ early_types c.early_types.ensures) c.in-Some-number_of_word.ensures.found

pub returns-in-None-clause-found : goal.returns-in-None-clause-found
returns-in-None-clause-found c = late_found c.args.word.now c.number_of_word-in-None.result _ (names_there _ late_types c.late_types.ensures) c.number_of_word-in-None.ensures.found

pub returns-in-None-clause-none : goal.returns-in-None-clause-none
returns-in-None-clause-none c =
    found_in_none c.args.word.now c.number_of_word-in-None.result _ _ _ (names_there _ early_types c.early_types.ensures) (names_there _ signed_types c.signed_types.ensures)
    (names_there _ late_types c.late_types.ensures) c.in-None.ensures.none c.in_default.ensures.none c.number_of_word-in-None.ensures.none

pub number_of_word-requires : goal.number_of_word-requires
number_of_word-requires c = ascending_there c.signed_types.result.now signed_types c.signed_types.ensures signed_ascend

pub number_of_word-requires-2 : goal.number_of_word-requires-2
number_of_word-requires-2 c = ascending_there c.early_types.result.now early_types c.early_types.ensures early_ascend

pub number_of_word-requires-in-None : goal.number_of_word-requires-in-None
number_of_word-requires-in-None c = ascending_there c.late_types.result.now late_types c.late_types.ensures late_ascend
