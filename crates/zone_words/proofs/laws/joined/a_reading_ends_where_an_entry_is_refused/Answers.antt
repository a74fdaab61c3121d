use Rattle.zone_words.proofs.JoinedRefusals.{file_ends}
use Rattle.zone_words.proofs.laws.joined.a_reading_ends_where_an_entry_is_refused.Goals as goal

pub returns : goal.returns
returns c cased origin = file_ends cased origin
