use Rattle.zone_engine.proofs.Common.{sym, ◌∙◌, refl, arith, bytes_each}
use Rattle.zone_engine.proofs.Reading.Taken.{is_none_of, only_memory, some_of, taken_after, taken_more, taken_refused}
use Rattle.zone_engine.proofs.loader.ZoneLoader.take.Goals as goal

pub returns-then-is_some-clause-taken : goal.returns-then-is_some-clause-taken
returns-then-is_some-clause-taken g c = λ form octets taken.
    let found = some_of c.args.self.now.refusal (sym c.is_some.ensures ∙ c.if-is_some.true) in
    taken_after g.S.FedSource.IsOf g.S.FedSource.Leave form _ _ _ _ octets c.args.piece.now found.0 found.1 taken

pub returns-in-Ok-clause-taken : goal.returns-in-Ok-clause-taken
returns-in-Ok-clause-taken g c = λ form octets taken.
    taken_more g.S.FedSource.IsOf g.S.FedSource.Leave form _ (g.S.RrSource.pending c.feed.new.self) _ _ (g.S.FedSource.held c.feed.new.self) _ c.args.self.now.list c.take_lent.new.self octets c.args.piece.now c.args.self.now.refusal
    (is_none_of c.args.self.now.refusal (sym c.is_some.ensures ∙ c.if-is_some.false))
    (λ given. c.in_ok-feed.ensures.stands form octets given) c.args.self.now.refusal refl c.in-Ok.ensures.taken (g.met.S.FedSource.keeps _ _ c.take_lent.ensures.beside) taken

pub returns-in-Refused-clause-taken : goal.returns-in-Refused-clause-taken
returns-in-Refused-clause-taken g c = λ form octets taken.
    taken_refused g.S.FedSource.IsOf g.S.FedSource.Leave form _ (g.S.RrSource.pending c.feed.new.self) (g.S.RrSource.pending c.take_lent.new.source) _ (g.S.FedSource.held c.feed.new.self) (g.S.FedSource.held c.take_lent.new.source) c.args.self.now.list c.take_lent.new.self octets c.args.piece.now c.args.self.now.refusal
    (is_none_of c.args.self.now.refusal (sym c.is_some.ensures ∙ c.if-is_some.false))
    (λ given. c.in_ok-feed.ensures.stands form octets given) c.in_ok-feed.ensures.feeds.goes_on c.replace-list.new.dest c.in-Err.stop c.first_stop.result c.in-Refused.fault c.in-Refused.place
    c.in-Err.ensures.stopped (rw c.replace-list.ensures.value at c.first_stop.ensures) c.in-Refused.is taken

pub returns-in-Refused-clause-octets : goal.returns-in-Refused-clause-octets
returns-in-Refused-clause-octets g c = bytes_each c.args.piece.now (λ i. omega (arith, c.type_inv.piece i))

pub returns-in_default : goal.returns-in_default
returns-in_default g c =
    let kept = g.met.S.FedSource.keeps _ _ c.take_lent.ensures.beside in
    record {
      taken = tt;
      «open» = rw kept c.in_ok-feed.ensures.feeds.goes_on;
      fed = rw (kept, c.in_ok-feed.ensures.feeds.count) (omega arith);
      refused = rw (is_none_of c.args.self.now.refusal (sym c.is_some.ensures ∙ c.if-is_some.false)) tt;
      stopped = only_memory c.args.self.now.list c.take_lent.new.self _ _ c.in-Err.stop c.first_stop.result c.in-Err.ensures.stopped (rw c.replace-list.ensures.value at c.first_stop.ensures) c.in_default.not-Refused;
      octets = bytes_each c.args.piece.now (λ i. omega (arith, c.type_inv.piece i));
    }
