use Rattle.zone_wire.proofs.Common.{Bytes, Follow, None, ap, append_assoc, arith, back_bytes, false, is_some, length, subst, sym, true, ◌++◌, ◌∙◌, ◌≡◌}
use Rattle.zone_wire.proofs.Streams.Feeding.{FedSoFar, after_fault, fed_more, rest_taken}
use Rattle.zone_wire.proofs.Transfers.Progress.{none_of}
use Rattle.zone_wire.proofs.framer.Framer.feed.Goals as goal

pub loop-self-preserved : goal.loop-self-preserved
loop-self-preserved c =
    let rest = c.loop-self.rest.now in
    record {
      fed = subst (λ r. FedSoFar c.args.piece.now r c.args.self.now c.take_front.new.self) (sym (rest_taken c.in_ok-taken.taken rest))
          (fed_more c.args.piece.now rest c.in_ok-taken.taken c.args.self.now c.loop-self.self c.take_front.new.self (λ i. omega (arith, c.type_inv.piece i)) c.loop-self.invariant.fed
          (none_of c.loop-self.self.transfer.decided.ending c.if-is_none.ensures)
          c.in_ok-taken.ensures.within.0 c.in_ok-taken.ensures.within.1 c.in_ok-taken.ensures.cut c.in_ok-taken.ensures.dropped c.in_ok-taken.ensures.count c.in_ok-taken.ensures.follow);
      nothing = λ none.
          let empty : length rest ≡ 0 = ap length (c.loop-self.invariant.nothing none).1 in
          absurd (omega (arith, empty, c.in_ok-taken.ensures.within.0, c.in_ok-taken.ensures.within.1));
    }

pub returns-else-is_none-clause-follow : goal.returns-else-is_none-clause-follow
returns-else-is_none-clause-follow c = λ fed given follow.
    let inv = c.loop-self.invariant.fed in
    let rest = c.loop-self.rest.now in
    let each : Bytes c.args.piece.now = λ i. omega (arith, c.type_inv.piece i) in
    let some : c.loop-self.self.transfer.decided.ending ≡ None → ⊥ = λ none. (
    let yes : is_some c.loop-self.self.transfer.decided.ending ≡ true = c.if-is_none.ensures in
    let not_it : is_some c.loop-self.self.transfer.decided.ending ≡ false = ap is_some none in
    let no : ⊥ = cc in
    no) in
    subst (λ xs. Follow c.loop-self.self.transfer c.loop-self.self.unfinished.items xs given) (append_assoc fed inv.front rest ∙ ap (λ x. fed ++ x) (sym inv.parts))
    (after_fault c.loop-self.self.transfer c.loop-self.self.unfinished.items c.loop-self.self.unfinished.items (fed ++ inv.front) rest given some (back_bytes inv.front rest (subst Bytes inv.parts each)) (inv.follow fed given follow))
