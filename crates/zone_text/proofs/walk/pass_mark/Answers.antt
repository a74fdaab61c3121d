use Rattle.zone_text.proofs.Common.{ap, arith, length, map, raw, refl, subst, sym}
use Rattle.zone_text.proofs.Scanning.Walking.{Walked, after_left, first_octet, walked_closes, walked_closing, walked_ends, walked_feed, walked_opening}
use Rattle.zone_text.specs.Machine.Stops.{Tells}
use Rattle.zone_text.proofs.walk.pass_mark.Goals as goal

pub returns-in-10 : goal.returns-in-10
returns-in-10 c =
    let walked = subst (λ d. Walked c.args.octets.now c.args.token.now d c.args.after.feeds c.args.keeps (map raw c.args.items.now.items)) c.if-after-eq0.true c.requires.begun.walked in (
      walked_ends c.args.octets.now c.args.token.now c.args.after.rest.now c.args.after.feeds _ c.args.keeps _ walked (first_octet _ _ _ 10 c.requires.first c.in-10.is) refl,
      subst (Tells c.args.after.stops) (sym (after_left c.args.octets.now _ c.args.after.rest.now c.args.stop c.args.after.depth c.args.after.feeds _ c.args.keeps _ c.requires.begun.walked c.requires.first refl)) c.requires.begun.tells,
    )

pub returns-in-10-2 : goal.returns-in-10-2
returns-in-10-2 c = record {
  walked = walked_feed c.args.octets.now c.args.token.now _ c.args.after.depth c.args.after.feeds c.args.stop c.args.keeps _ c.requires.begun.walked c.requires.first c.in-10.is c.if-after-eq0.false;
  tells = c.requires.begun.tells;
  shorter = omega (arith, ap length c.requires.first);
}

pub returns-in-40 : goal.returns-in-40
returns-in-40 c = record {
  walked = walked_opening c.args.octets.now c.args.token.now _ c.args.after.depth c.args.after.feeds c.args.stop c.args.keeps _ c.requires.begun.walked c.requires.first c.in-40.is;
  tells = c.requires.begun.tells;
  shorter = omega (arith, ap length c.requires.first);
}

pub returns-in-41 : goal.returns-in-41
returns-in-41 c =
    let walked = subst (λ d. Walked c.args.octets.now c.args.token.now d c.args.after.feeds c.args.keeps (map raw c.args.items.now.items)) c.if-after-eq0-2.true c.requires.begun.walked in
    (walked_closes c.args.octets.now c.args.token.now c.args.after.rest.now c.args.after.feeds _ c.args.keeps _ walked (first_octet _ _ _ 41 c.requires.first c.in-41.is) refl, tt)

pub returns-in-41-2 : goal.returns-in-41-2
returns-in-41-2 c = record {
  walked = walked_closing c.args.octets.now c.args.token.now _ c.args.after.depth c.args.after.feeds c.args.stop c.args.keeps _ c.requires.begun.walked c.requires.first c.in-41.is c.if-after-eq0-2.false;
  tells = c.requires.begun.tells;
  shorter = omega (arith, ap length c.requires.first);
}
