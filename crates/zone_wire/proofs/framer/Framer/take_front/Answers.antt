use Rattle.zone_wire.proofs.Common.{Follow, IsCut, [], ap, arith, eqb-true, frame, subst, sym, take, vec_len, ◌++◌, ◌∙◌, ◌≡◌}
use Rattle.zone_wire.proofs.Streams.Feeding.{empty_of, inside_frame, one_frame, take_whole}
use Rattle.zone_wire.proofs.Names.Walking.{take_each}
use Rattle.zone_wire.proofs.framer.Framer.take_front.Goals as goal

pub returns-in_ok-extend_from_slice-in-None-clause-follow : goal.returns-in_ok-extend_from_slice-in-None-clause-follow
returns-in_ok-extend_from_slice-in-None-clause-follow c = λ fed given follow.
    let cut = subst (λ u. IsCut (u ++ c.args.octets.now)) c.as_slice.ensures.value c.in-None.ensures in
    let longer = inside_frame c.args.self.now.transfer c.args.self.now.unfinished.items fed c.args.octets.now given c.requires.going (λ i. omega (arith, c.type_inv.octets i)) cut follow in
    subst (λ x. Follow c.args.self.now.transfer c.extend_from_slice.new.self.items (fed ++ x) given) (sym (take_whole c.args.octets.now))
    (subst (λ u. Follow c.args.self.now.transfer u (fed ++ c.args.octets.now) given) (sym c.in_ok-extend_from_slice-in-None.ensures.items) longer)

pub returns-in_ok-read-in-Some-clause-follow : goal.returns-in_ok-read-in-Some-clause-follow
returns-in_ok-read-in-Some-clause-follow c = λ fed given follow.
    let none : vec_len c.args.self.now.unfinished ≡ 0 = eqb-true (vec_len c.args.self.now.unfinished) 0 (sym c.is_empty.ensures ∙ c.if-is_empty.true) in
    let empty : c.args.self.now.unfinished.items ≡ [] = empty_of c.args.self.now.unfinished.items (omega (arith, none)) in
    let front = take c.in-Some.end c.args.octets.now in
    let framed : front ≡ frame c.message_of-message.result.now = c.message_of-message.ensures.framed in
    subst (λ u. Follow c.read.new.self u (fed ++ front) given) (sym empty)
    (one_frame c.args.self.now.transfer c.read.new.self c.args.self.now.unfinished.items fed front c.message_of-message.result.now given c.requires.going
    (take_each c.in-Some.end c.args.octets.now (λ i. omega (arith, c.type_inv.octets i)))
    (ap (λ u. u ++ front) empty ∙ framed) c.message_of-message.ensures.short c.in_ok-read-in-Some.ensures.next follow)

pub returns-in_ok-read-in-Some-2-clause-follow : goal.returns-in_ok-read-in-Some-2-clause-follow
returns-in_ok-read-in-Some-2-clause-follow c = λ fed given follow.
    let front = take c.in-Some.end c.args.octets.now in
    let items : c.extend_from_slice-in-Some-2.new.self.items ≡ c.args.self.now.unfinished.items ++ front = c.in_ok-extend_from_slice-in-Some-2.ensures.items in
    subst (λ u. Follow c.read-in-Some-2.new.self u (fed ++ front) given) (sym c.clear.ensures.items)
    (one_frame c.args.self.now.transfer c.read-in-Some-2.new.self c.args.self.now.unfinished.items fed front c.message_of-message-in-Some-2.result.now given c.requires.going
    (take_each c.in-Some.end c.args.octets.now (λ i. omega (arith, c.type_inv.octets i)))
    (sym items ∙ sym c.as_slice-in-Some-2.ensures.value ∙ c.message_of-message-in-Some-2.ensures.framed) c.message_of-message-in-Some-2.ensures.short c.in_ok-read-in-Some-2.ensures.next follow)
