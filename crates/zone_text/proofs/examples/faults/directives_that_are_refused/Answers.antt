use Rattle.zone_text.proofs.Common.{EmptyLabel, arith, before_line_feed, cut_by, cutting, from_line_feed, front_of, lit≤, of_statement, refl, refused, stated, states_one, units_by, units_first, whole, x}
use Rattle.zone_text.proofs.Tokens.Cuttings.{cut_is_read}
use Rattle.zone_text.proofs.ExampleRecords.{at_spells, sixty, states_ns, too_long, no_digit, empty_label_between}
use Rattle.zone_text.proofs.examples.faults.directives_that_are_refused.Goals as goal

pub returns : goal.returns
unfolding units_by units_first before_line_feed from_line_feed front_of cut_by cutting
returns c =
    record {
      include = whole _ (cut_is_read _ _ refl) (stated (states_one _ _ (states_ns x _ _ x x 1 60 _ refl (x, (refl, at_spells x (omega arith))) ((60, record { time = sixty; short = lit≤ tt }), tt) refl refl sixty (omega arith) (omega arith) (lit≤ tt)) refl refl (refused _ (of_statement refl) refl refl)));
      generate = whole _ (cut_is_read _ _ refl) (refused _ (of_statement refl) refl refl);
      dollar_alone = whole _ (cut_is_read _ _ refl) (refused _ (of_statement refl) refl refl);
      no_item = whole _ (cut_is_read _ _ refl) (refused _ (of_statement refl) refl refl);
      two_items = whole _ (cut_is_read _ _ refl) (refused _ (of_statement refl) refl refl);
      quoted_item = whole _ (cut_is_read _ _ refl) (refused _ (of_statement refl) refl refl);
      bad_name = whole _ (cut_is_read _ _ refl) (refused _ (of_statement (x, (refl, (EmptyLabel, empty_label_between, refl)))) refl refl);
      no_time = whole _ (cut_is_read _ _ refl) (refused _ (of_statement (refl, no_digit)) refl refl);
      long_time = whole _ (cut_is_read _ _ refl) (refused _ (of_statement (refl, too_long c.time_is_unique.ensures)) refl refl);
    }
