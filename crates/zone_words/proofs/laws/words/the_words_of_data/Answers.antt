use Rattle.zone_words.proofs.Common.{arith}
use Rattle.type_data.proofs.PrintedCount.{few_printed_items}
use Rattle.type_data.proofs.PrintedStanding.{printed_data_stands}
use Rattle.type_data.proofs.PrintedStates.{printed_data_states}
use Rattle.type_data.proofs.PrintedWords.{printed_in_words}
use Rattle.zone_words.proofs.laws.words.the_words_of_data.Goals as goal
use Rattle.type_data.specs.Table.{fields_in}

pub returns : goal.returns
returns c fields items octets are printed = record {
  states = printed_data_states fields are items octets printed;
  stand = printed_data_stands (fields_in fields items) items printed.parts printed.each;
  few = omega (arith, few_printed_items fields are items octets printed);
  in_words = printed_in_words fields are items octets printed;
}
