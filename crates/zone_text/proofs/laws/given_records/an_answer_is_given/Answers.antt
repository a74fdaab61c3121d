use Rattle.zone_text.proofs.Common.{rules, stands_none, stands_record, stands_stop}
use Rattle.zone_text.proofs.laws.given_records.an_answer_is_given.Goals as goal

pub returns : goal.returns
returns c = search (rules, stands_record, stands_none, stands_stop)
