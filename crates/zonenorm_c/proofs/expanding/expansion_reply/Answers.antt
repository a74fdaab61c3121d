use Rattle.std.proofs.Common.{refl}
use Rattle.zonenorm_c.specs.Expand.{expanded, not_whole, unread}
use Rattle.zonenorm_c.specs.declared.given.Unread.TheVariants.{Memory}
use Rattle.zonenorm_c.proofs.Tables.{expands_given}
use Rattle.zonenorm_c.proofs.expanding.expansion_reply.Goals as goal

pub returns-in-Ok-finish : goal.returns-in-Ok-finish
returns-in-Ok-finish c =
    expanded c.requires.kind (expands_given c.args.given.now _ _ _ _ _ _ c.in-Ok-finish.text.items c.requires.origin c.requires.directory refl c.new-writer.ensures c.in-Ok-finish.ensures c.in-Ok.ensures.expanded) (rw c.plain.ensures refl)

pub returns-in-Ok : goal.returns-in-Ok
returns-in-Ok c =
    unread Memory tt (rw (c.without_text.ensures.answer, c.plain-in-Err-finish.ensures) refl, c.without_text.ensures.text)

pub returns : goal.returns
returns c = not_whole c.in-Err.stop c.requires.kind c.files_reply.ensures
