use Rattle.zone_text.proofs.Common.{before_line_feed, cut_by, cutting, from_line_feed, front_of, of_statement, refl, refused, units_by, units_first, whole}
use Rattle.zone_text.proofs.Tokens.Cuttings.{cut_is_read}
use Rattle.zone_text.proofs.examples.faults.records_without_an_owner.Goals as goal

pub returns : goal.returns
unfolding units_by units_first before_line_feed from_line_feed front_of cut_by cutting
returns c =
    record {
      omitted = whole _ (cut_is_read _ _ refl) (refused _ (of_statement (refl, λ found last. last)) refl refl);
      quoted = whole _ (cut_is_read _ _ refl) (refused _ (of_statement refl) refl refl);
      after_a_blank = whole _ (cut_is_read _ _ refl) (refused _ (of_statement (refl, λ found last. last)) refl refl);
    }
