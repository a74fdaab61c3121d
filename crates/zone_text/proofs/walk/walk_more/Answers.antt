use Rattle.zone_text.proofs.Common.{[], arith, drop, false, length, length-drop, subst, sym, take, ◌+◌, ◌-◌, ◌≡◌, ◌≤◌}
use Rattle.zone_text.proofs.Scanning.Unfinished.{without_items}
use Rattle.zone_text.proofs.Scanning.Walking.{IsLostToken, IsOpenToken, IsSeen, walked_lost}
use Rattle.zone_text.proofs.walk.walk_more.Goals as goal

pub token_span-requires : goal.token_span-requires
token_span-requires c = subst (λ t. IsSeen t (c.args.at.seen - c.args.at.start)) (sym c.split_at.ensures.back) c.requires.seen

pub returns-in-Open : goal.returns-in-Open
returns-in-Open c =
    let size : c.in-Open.seen ≡ c.args.at.start + c.in-Open.seen - c.args.at.start = omega arith in
    let token = subst (λ t. IsOpenToken t c.in-Open.seen) c.split_at.ensures.back (rw c.in-Open.is at c.token_span.ensures) in
    record {
      walked = c.requires.walked;
      is_open = subst (IsOpenToken (drop c.args.at.start c.args.octets.now)) size token;
      within = c.requires.within;
      order = omega arith;
    }

pub returns-in-Lost : goal.returns-in-Lost
returns-in-Lost c =
    let rest = drop c.args.at.start c.args.octets.now in
    let lost = subst (λ t. IsLostToken (take c.in-Lost.len t) × (c.in-Lost.len ≤ length t)) c.split_at.ensures.back (rw c.in-Lost.is at c.token_span.ensures) in
    walked_lost c.args.octets.now rest c.args.at.depth c.args.at.feeds c.in-Lost.len _ false [] c.requires.walked lost (omega (arith, c.requires.within, length-drop c.args.at.start c.args.octets.now))

pub returns-in-Whole : goal.returns-in-Whole
returns-in-Whole c = without_items c.args.octets.now _ c.walk_on.result c.walk_on.ensures.walked
