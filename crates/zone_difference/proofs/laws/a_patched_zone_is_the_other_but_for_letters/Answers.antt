use Rattle.zone_difference.proofs.Alike.{patched_but_for_letters}
use Rattle.zone_difference.proofs.laws.a_patched_zone_is_the_other_but_for_letters.Goals as goal

pub returns : goal.returns
returns c = patched_but_for_letters
