use Rattle.zone_wire.proofs.Common.{StreamReads, ap, false, is_some, subst, sym, true, ◌++◌, ◌≡◌}
use Rattle.zone_wire.proofs.Streams.Feeding.{finishes, ends_after_fault}
use Rattle.zone_wire.proofs.Transfers.Progress.{none_of}
use Rattle.zone_wire.proofs.framer.Framer.finish.Goals as goal
use Rattle.zone_wire.proofs.framer.Framer.finish.Goals.{then-is_none, else-is_none}

pub returns-clause-reads : goal.returns-clause-reads
returns-clause-reads c = λ fed given follow.
    elim c.if-is_none.branch [
      | then-is_none w ↦ subst (λ i. StreamReads fed (given ++ i.transfer.decided.placed) i.transfer.decided.ending) (sym w.self-is) (finishes c.args.self.now.transfer c.args.self.now.unfinished.items fed given w.end-self.result (none_of c.args.self.now.transfer.decided.ending w.if-is_none.ensures) w.end-self.ensures follow)
      | else-is_none w ↦ subst (λ i. StreamReads fed (given ++ i.transfer.decided.placed) i.transfer.decided.ending) (sym w.self-is) (ends_after_fault c.args.self.now.transfer c.args.self.now.unfinished.items fed given (λ none. let some : is_some c.args.self.now.transfer.decided.ending ≡ true = w.if-is_none.ensures in let not_some : is_some c.args.self.now.transfer.decided.ending ≡ false = ap is_some none in let no : ⊥ = cc in no) follow)
    ]
