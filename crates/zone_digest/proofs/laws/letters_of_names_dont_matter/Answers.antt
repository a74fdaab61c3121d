-- The canonical forms are the same.
use Rattle.zone_digest.proofs.SameDigest.{same_in_letters}
use Rattle.zone_digest.proofs.laws.letters_of_names_dont_matter.Goals as goal

pub returns : goal.returns
returns c = same_in_letters
