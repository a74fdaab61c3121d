use Rattle.zone_words.proofs.JoinedRefused.{refused_nothing, refused_record}
use Rattle.zone_words.proofs.laws.joined.a_refused_entry_is_not_read.Goals as goal

pub returns-clause-record : goal.returns-clause-record
returns-clause-record c = refused_record

pub returns-clause-nothing : goal.returns-clause-nothing
returns-clause-nothing c = refused_nothing
