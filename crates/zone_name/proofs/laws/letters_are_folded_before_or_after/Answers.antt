use Rattle.zone_name.proofs.Spelling.Folding.{SpellingFault-folded, Spells-folded, Spells-kept}
use Rattle.zone_name.proofs.laws.letters_are_folded_before_or_after.Goals as goal

pub returns : goal.returns
returns c = record { folds = Spells-folded; from = Spells-kept; fault = SpellingFault-folded }
