use Rattle.zonenorm_c.specs.Digests.{by_sha384, by_sha512}
use Rattle.zonenorm_c.proofs.digests.reply_by_number.Goals as goal

pub returns-in-1 : goal.returns-in-1
returns-in-1 c = by_sha384 c.in-1.is c.digest_reply.ensures

pub returns-in-2 : goal.returns-in-2
returns-in-2 c = by_sha512 c.in-2.is c.digest_reply-in-2.ensures
