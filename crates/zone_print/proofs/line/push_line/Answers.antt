-- Owner, middle and what follows them join to the line.
use Rattle.zone_print.proofs.Common.{subst, sym, MatchResult-weaker, record_of}
use Rattle.zone_print.proofs.Lines.{line_split}
use Rattle.zone_print.proofs.line.push_line.Goals as goal

pub returns : goal.returns
returns g c =
    let joins = g.met.S.Sink.joins in
    MatchResult-weaker c.push_data.result c.push_data.ensures
    (λ x rest. subst (λ text. g.S.Sink.takes c.args.out.now text c.push_data.new.out) (sym (line_split (record_of c.args.rr.now))) (joins _ _ _ _ _ c.in_ok-print.ensures.ok (joins _ _ _ _ _ c.in_ok-push_before_kind.ensures (joins _ _ _ _ _ c.in_ok-push_kind.ensures rest))))
    (λ error nothing. nothing)
