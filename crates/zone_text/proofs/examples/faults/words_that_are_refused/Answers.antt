use Rattle.zone_text.proofs.Common.{arith, before_line_feed, cut_by, cutting, from_line_feed, front_of, inl, inr, lit≤, of_parts, refl, refused, units_by, units_first, whole, x}
use Rattle.zone_text.proofs.Tokens.Cuttings.{cut_is_read}
use Rattle.zone_text.proofs.ExampleRecords.{at_spells, sixty, too_long, class_zero_word, type_65536, type_41}
use Rattle.zone_text.proofs.examples.faults.words_that_are_refused.Goals as goal

pub returns : goal.returns
unfolding units_by units_first before_line_feed from_line_feed front_of cut_by cutting
returns c =
    record {
      class_zero = whole _ (cut_is_read _ _ refl) (refused _ (of_parts x _ (x, (refl, at_spells x (omega arith))) refl (inl (refl, (0, (class_zero_word, λ is. is.not_zero refl))))) refl refl);
      long_ttl = whole _ (cut_is_read _ _ refl) (refused _ (of_parts x _ (x, (refl, at_spells x (omega arith))) refl (inl (refl, too_long c.time_is_unique.ensures))) refl refl);
      no_type = whole _ (cut_is_read _ _ refl) (refused _ (of_parts x _ (x, (refl, at_spells x (omega arith))) refl (inr ((60, record { time = sixty; short = lit≤ tt }), refl))) refl refl);
      quoted_type = whole _ (cut_is_read _ _ refl) (refused _ (of_parts x _ (x, (refl, at_spells x (omega arith))) refl (inr ((60, record { time = sixty; short = lit≤ tt }), refl))) refl refl);
      long_type = whole _ (cut_is_read _ _ refl) (refused _ (of_parts x _ (x, (refl, at_spells x (omega arith))) refl (inr ((60, record { time = sixty; short = lit≤ tt }), type_65536))) refl refl);
      meta_type = whole _ (cut_is_read _ _ refl) (refused _ (of_parts x _ (x, (refl, at_spells x (omega arith))) refl (inr ((60, record { time = sixty; short = lit≤ tt }), type_41))) refl refl);
    }
