use Rattle.zone_text.proofs.Common.{rules}
use Rattle.zone_text.proofs.laws.entry.lower_choices.Goals as goal

pub returns : goal.returns
returns c =
    search (rules, c.texts_have_one_verdict.ensures.one_of, c.numbers_and_times_are_decided.ensures.time, c.kind_word_or_fault.ensures, c.data_or_fault.ensures, c.stated_data_is_data.ensures)
