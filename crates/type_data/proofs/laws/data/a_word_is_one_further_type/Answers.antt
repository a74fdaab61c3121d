use Rattle.type_data.proofs.FurtherWords.{further_word_once}
use Rattle.type_data.proofs.laws.data.a_word_is_one_further_type.Goals as goal

pub returns : goal.returns
returns c = further_word_once
