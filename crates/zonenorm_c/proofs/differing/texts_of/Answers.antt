-- Both lists make the difference.
use Rattle.std.proofs.Common.{◌-◌, ◌^◌, ◌∙◌, arith, length, sym}
use Rattle.zonenorm_c.proofs.Listing.{both_counted, status_is}
use Rattle.zonenorm_c.proofs.differing.texts_of.Goals as goal

pub returns : goal.returns
returns c =
    let gone = c.in_ok-gone.ensures in
    let come = c.in_ok-come.ensures in
    let count = both_counted (2 ^ 64 - 1) (length gone.0) (length come.0) _ _ _ gone.3 come.3 c.saturating_add-count.ensures in
    record {
      gone = gone.0;
      come = come.0;
      difference = record { gone = gone.1; come = come.1 };
      removed_are = gone.2;
      added_are = come.2;
      status = c.counted.ensures.status ∙ c.status_of.ensures ∙ status_is (2 ^ 64 - 1) gone.0 come.0 _ (omega arith) count;
      count = c.counted.ensures.count ∙ count;
    }
