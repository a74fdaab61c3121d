use Rattle.type_data.proofs.PrintedStanding.{printed_data_stands, printed_words_are_printed}
use Rattle.type_data.proofs.laws.printed.printed_words_stand_on_a_line.Goals as goal

pub returns-clause-stand : goal.returns-clause-stand
returns-clause-stand c = printed_data_stands

pub returns-clause-printed : goal.returns-clause-printed
returns-clause-printed c = printed_words_are_printed
