-- the text that is put in the room
use Rattle.zonenorm_c.proofs.records.zonenorm_records_into.Goals as goal

pub returns : goal.returns
returns c =
    (c.reply_of-reply.result.text.items, c.reply_of-reply.ensures, rw (← c.as_slice.ensures.value) c.put.ensures.put, rw (← c.as_slice.ensures.value) c.put.ensures.len)
