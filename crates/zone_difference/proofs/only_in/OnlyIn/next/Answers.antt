-- A record that the other zone has is passed; the first that it lacks is returned.
use Rattle.std.proofs.Common.{[], ◌∷◌, ◌≡◌, ap, arith, length, sym, subst}
use Rattle.std.specs.List.{AllByRecursion}
use Rattle.zone_rdata.specs.Lent.{record_of}
use Rattle.zone_rdata.specs.Record.{Record}
use Rattle.zone_set.specs.Order.{Ascends}
use Rattle.zone_set.specs.Zone.{Has}
use Rattle.zone_difference.proofs.Steps.{record_found, record_passed}
use Rattle.zone_difference.specs.Walk.{AreWithout, others_of, with_taken}
use Rattle.zone_difference.proofs.only_in.OnlyIn.next.Goals as goal

pub pass_to-requires : goal.pass_to-requires
pass_to-requires c = (c.walk.invariant.ends c.requires.0 c.requires.1).sides.up_others

pub returns-then-not-pass_to-clause-taken : goal.returns-then-not-pass_to-clause-taken
returns-then-not-pass_to-clause-taken c only given =
    let r = record_of c.in-Some.rr in
    let left = c.walk.invariant.ends only given in
    let up : Ascends (r ∷ c.next.new.self) = subst Ascends c.in-Some.ensures.steps left.sides.up in
    let new = with_taken c.pass_to.new.other c.pass_to.new.others in
    let found = record_found r c.next.new.self (others_of c.walk.self) new only up.0 c.pass_to.ensures.rest
    (λ has. (let is = c.pass_to.ensures.has.1 has in let other = c.if-not-pass_to.true in cc))
    (subst (λ l. AreWithout (Has (others_of c.walk.self)) l only) c.in-Some.ensures.steps left.are) in (
      found.0,
      found.1,
      record {
        sides = record {
          up = up.1;
          up_others = c.pass_to.ensures.up;
        };
        are = found.2;
      },
    )

pub walk-preserved : goal.walk-preserved
walk-preserved c =
    let r = record_of c.in-Some.rr in
    let new = with_taken c.pass_to.new.other c.pass_to.new.others in
    record {
      ends = λ only given.
          let left = c.walk.invariant.ends only given in
          let up : Ascends (r ∷ c.next.new.self) = subst Ascends c.in-Some.ensures.steps left.sides.up in
          record {
            sides = record {
              up = up.1;
              up_others = c.pass_to.ensures.up;
            };
            are = record_passed r c.next.new.self (others_of c.walk.self) new only up.0 c.pass_to.ensures.rest
                (c.pass_to.ensures.has.0 (let is = c.if-not-pass_to.false in cc))
                (subst (λ l. AreWithout (Has (others_of c.walk.self)) l only) c.in-Some.ensures.steps left.are);
          };
      fewer = omega (arith, ap length c.in-Some.ensures.steps, c.walk.invariant.fewer);
    }

pub returns-clause-taken : goal.returns-clause-taken
returns-clause-taken c only given =
    let left = c.walk.invariant.ends only given in
    subst (λ l. AreWithout (Has (others_of c.walk.self)) l only) c.in_default.ensures.steps.0 left.are
