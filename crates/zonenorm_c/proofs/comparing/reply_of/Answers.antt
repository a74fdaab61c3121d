-- which of the inputs isn't read
use Rattle.std.proofs.Common.{refl}
use Rattle.zonenorm_c.proofs.Inputs.{of_input}
use Rattle.zonenorm_c.specs.Compare.{compared, first_unread, second_unread}
use Rattle.zonenorm_c.proofs.comparing.reply_of.Goals as goal

pub returns-in-Err : goal.returns-in-Err
returns-in-Err c =
    first_unread c.in-Err.why c.in-Err.ensures.unread
    (of_input c.in-Err.why _ _ 1 c.unread_reply-reply.ensures) refl

pub returns : goal.returns
returns c =
    second_unread c.in-Err-read_given.why c.in-Err-read_given.ensures.unread
    (of_input c.in-Err-read_given.why _ _ 2 c.unread_reply-reply-in-Err-read_given.ensures) refl

pub returns-in-Ok-read_given : goal.returns-in-Ok-read_given
returns-in-Ok-read_given c =
    compared _ _ c.in-Ok.ensures.read c.in-Ok-read_given.ensures.read c.comparison_reply.ensures
