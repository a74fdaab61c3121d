-- which of the inputs isn't read
use Rattle.zonenorm_c.specs.Difference.{compared, first_unread, second_unread}
use Rattle.zonenorm_c.proofs.differing.given_texts.Goals as goal

pub returns-in-Err : goal.returns-in-Err
returns-in-Err c = first_unread c.in-Err.why c.in-Err.ensures.unread c.unread_texts.ensures

pub returns-in-Err-read_given : goal.returns-in-Err-read_given
returns-in-Err-read_given c = second_unread c.in-Err-read_given.why c.in-Err-read_given.ensures.unread c.unread_texts-in-Err-read_given.ensures

pub returns : goal.returns
returns c = compared _ _ c.in-Ok.ensures.read c.in-Ok-read_given.ensures.read c.difference_texts.ensures
