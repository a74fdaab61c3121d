use Rattle.zone_text.proofs.Entries.EntryTaken.{refused_entry}
use Rattle.zone_text.proofs.parser_state.ParserState.read.Goals as goal

pub returns-in-Err : goal.returns-in-Err
returns-in-Err c origin before entry so_far form =
    refused_entry c.refuse.result origin before entry c.args.place c.args.decided.now c.refuse.new.self c.take.new.self c.in-Err.failing
    (c.in-Err.ensures.fault origin before entry so_far form)
    (rw c.in-Err.ensures.unchanged at c.refuse.ensures.decided)

pub returns-in-Ok : goal.returns-in-Ok
returns-in-Ok c origin before entry so_far form = c.in-Ok.ensures.found origin before entry c.args.decided.now.ending so_far form
