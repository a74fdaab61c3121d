use Rattle.zone_engine.proofs.Common.{◌≡◌, ◌≤◌, [], codes, length, refl, sym, ◌∙◌, inl, arith, lit≤, canon, text_limit, Has, IsZone, Record, IsRecord, AllByRecursion, x, soa_of, example_zone, each_Has}
use Rattle.std.specs.Fmt.{digits}
use Rattle.zone_name.specs.Name.{labels_of}
use Rattle.zone_engine.proofs.Reading.Inputs.{file_fits}
use Rattle.zone_engine.proofs.examples.a_file_and_its_zone.Goals as goal

is_zone : AllByRecursion IsRecord (example_zone 5).records → IsZone (example_zone 5)
is_zone each = record {
  compatible = record {
    each = each;
    ascend = ((refl, tt), (tt, tt));
    one_class = λ r s has too. each_Has (λ t. t.class ≡ 1) (example_zone 5).records r (refl, (refl, tt)) has ∙ sym (each_Has (λ t. t.class ≡ 1) (example_zone 5).records s (refl, (refl, tt)) too);
    one_ttl = λ r s has too one. each_Has (λ t. t.ttl ≡ 5) (example_zone 5).records r (refl, (refl, tt)) has ∙ sym (each_Has (λ t. t.ttl ≡ 5) (example_zone 5).records s (refl, (refl, tt)) too);
    one_soa = λ r s has too soa other. the_soa r has soa ∙ sym (the_soa s too other);
  };
  class = (refl, (refl, tt));
  soa = (soa_of 1 5 1, inl refl, refl, refl);
  within = (([], refl), (([], refl), tt));
}
  where
    the_soa : (r : Record) → Has (example_zone 5).records r → r.kind ≡ 6 → r ≡ soa_of 1 5 1
    the_soa r = each_Has (λ t. t.kind ≡ 6 → t ≡ soa_of 1 5 1) (example_zone 5).records r ((λ is. refl), (λ is. absurd (omega (arith, is)), tt))

short : length (canon (example_zone 5)) ≤ text_limit
unfolding labels_of digits
short = lit≤ tt

pub returns-clause-zone : goal.returns-clause-zone
returns-clause-zone c =
    let states = (c.a_file_states_what_is_read.ensures x (codes "@ SOA n h 1 2 3 4 5\n NS n\n") _).1 c.the_minimum_is_the_last_choice.ensures in
    record {
      short = lit≤ tt;
      placed = _;
      states = states;
      makes = record {
        zone = is_zone (file_fits x _ _ states);
        same = λ r. (λ has. has, λ has. has);
        text_short = short;
      };
    }

pub returns-clause-text : goal.returns-clause-text
unfolding labels_of digits
returns-clause-text c = refl
