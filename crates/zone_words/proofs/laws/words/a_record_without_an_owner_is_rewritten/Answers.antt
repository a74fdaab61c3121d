use Rattle.zone_words.proofs.HeadLines.{of_ownerless}
use Rattle.zone_words.proofs.InWords.{one_entry, ownerless_says, words_rewritten}
use Rattle.zone_words.proofs.laws.words.a_record_without_an_owner_is_rewritten.Goals as goal

pub returns-clause-entry : goal.returns-clause-entry
returns-clause-entry c = λ head class further items octets h row printed. one_entry head class (of_ownerless head class h) (ownerless_says head class h) further items octets row printed

pub returns-clause-rewritten : goal.returns-clause-rewritten
returns-clause-rewritten c = λ origin head class further items octets h row alone printed. words_rewritten head class (of_ownerless head class h) (ownerless_says head class h) further items octets row printed origin alone
