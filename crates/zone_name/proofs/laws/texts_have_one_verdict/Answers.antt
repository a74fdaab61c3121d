use Rattle.zone_name.proofs.Common.{Folded}
use Rattle.zone_name.proofs.Spelling.Answered.{FirstFault-once, either_by, faultless_by, one_verdict}
use Rattle.zone_name.proofs.laws.texts_have_one_verdict.Goals as goal

pub returns : goal.returns
returns c = record { verdict = one_verdict Folded; one_of = either_by Folded; never_both = faultless_by Folded; one_fault = FirstFault-once }
