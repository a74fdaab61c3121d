use Rattle.zone_text.proofs.Common.{rules}
use Rattle.zone_text.proofs.laws.entry.lower_laws.Goals as goal

pub returns : goal.returns
returns c =
    search (rules, c.spelling_is_unique.ensures, c.texts_have_one_verdict.ensures.never_both, c.texts_have_one_verdict.ensures.one_fault, c.time_is_unique.ensures, c.class_word_is_unique.ensures, c.kind_word_is_unique.ensures, c.kind_word_has_one_verdict.ensures.never_both, c.kind_word_has_one_verdict.ensures.one_fault, c.data_is_unique.ensures, c.faulty_items_state_none.ensures, c.data_fault_is_unique.ensures)
