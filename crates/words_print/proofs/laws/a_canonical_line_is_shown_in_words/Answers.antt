use Rattle.words_print.proofs.CanonicalLines.{head_shown}
use Rattle.words_print.proofs.laws.a_canonical_line_is_shown_in_words.Goals as goal

pub returns : goal.returns
returns c head class further octets shown h row has_type each some is =
    let words = head_shown head class further octets shown c.a_line_in_words_is_rewritten.ensures.entry c.a_line_in_words_is_rewritten.ensures.rewritten c.the_words_of_data.ensures c.a_generic_line_is_one_entry.ensures h row has_type each some is in
    (words.items, words.printed, words.is)
