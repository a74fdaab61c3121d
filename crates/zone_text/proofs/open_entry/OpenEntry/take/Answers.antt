use Rattle.zone_text.proofs.Common.{IsOpen, [], ap, arith, false, length, subst, sym, take, ◌++◌, ◌∙◌, ◌≡◌}
use Rattle.zone_text.proofs.Scanning.Unfinished.{held_by, stands_on, takes_by}
use Rattle.zone_text.proofs.Scanning.Walking.{StandsAt, walk_open}
use Rattle.zone_text.specs.Machine.OpenEntry.{IsHeld, len_of, state_of}
use Rattle.zone_text.specs.Machine.Walk.{IsWalked}
use Rattle.zone_text.proofs.open_entry.OpenEntry.take.Goals as goal

pub walk_more-requires : goal.walk_more-requires
walk_more-requires c = subst (λ t. StandsAt t c.in-Open.at false []) (sym (c.as_slice.ensures.value ∙ c.in_ok-extend_from_slice.ensures.items)) (stands_on c.self.inside.octets.items c.args.piece.now c.in-Open.at (rw c.in-Open.is at c.self.invariant))

pub overflow_sub-result : goal.overflow_sub-result
overflow_sub-result c =
    let held = c.self.inside.octets.items in
    let piece = c.args.piece.now in
    let is_open : IsOpen held = walk_open held c.in-Open.at false [] (rw c.in-Open.is at c.self.invariant) in
    let is : IsWalked (held ++ piece) false [] c.in-Ok.reached = subst (λ t. IsWalked t false [] c.in-Ok.reached) (c.as_slice.ensures.value ∙ c.in_ok-extend_from_slice.ensures.items) c.in-Ok.ensures in
    let count : c.len_of-len.result ≡ len_of c.in-Ok.reached (length (held ++ piece)) = c.len_of-len.ensures ∙ ap (len_of c.in-Ok.reached) (let e : c.len.result ≡ length (held ++ piece) = omega (arith, c.len.ensures, c.extend_from_slice.new.self.ok.0, ap length c.in_ok-extend_from_slice.ensures.items) in e) in
    omega (arith, (held_by held piece c.in-Ok.reached c.len_of-len.result is_open is count).0, c.len-held.ensures, c.self.inside.octets.ok.0)

pub invariant_of-self-2 : goal.invariant_of-self-2
invariant_of-self-2 c =
    let held = c.self.inside.octets.items in
    let piece = c.args.piece.now in
    let is_open : IsOpen held = walk_open held c.in-Open.at false [] (rw c.in-Open.is at c.self.invariant) in
    let is : IsWalked (held ++ piece) false [] c.in-Ok.reached = subst (λ t. IsWalked t false [] c.in-Ok.reached) (c.as_slice.ensures.value ∙ c.in_ok-extend_from_slice.ensures.items) c.in-Ok.ensures in
    let count : c.len_of-len.result ≡ len_of c.in-Ok.reached (length (held ++ piece)) = c.len_of-len.ensures ∙ ap (len_of c.in-Ok.reached) (let e : c.len.result ≡ length (held ++ piece) = omega (arith, c.len.ensures, c.extend_from_slice.new.self.ok.0, ap length c.in_ok-extend_from_slice.ensures.items) in e) in
    subst (λ t. IsHeld t c.in-Ok.reached) (sym (c.truncate-2.ensures.items ∙ ap (take c.len_of-len.result) c.in_ok-extend_from_slice.ensures.items)) (held_by held piece c.in-Ok.reached c.len_of-len.result is_open is count).1

pub returns-clause-taken : goal.returns-clause-taken
returns-clause-taken c =
    let held = c.self.inside.octets.items in
    let piece = c.args.piece.now in
    let is_open : IsOpen held = walk_open held c.in-Open.at false [] (rw c.in-Open.is at c.self.invariant) in
    let is : IsWalked (held ++ piece) false [] c.in-Ok.reached = subst (λ t. IsWalked t false [] c.in-Ok.reached) (c.as_slice.ensures.value ∙ c.in_ok-extend_from_slice.ensures.items) c.in-Ok.ensures in
    let count : c.len_of-len.result ≡ len_of c.in-Ok.reached (length (held ++ piece)) = c.len_of-len.ensures ∙ ap (len_of c.in-Ok.reached) (let e : c.len.result ≡ length (held ++ piece) = omega (arith, c.len.ensures, c.extend_from_slice.new.self.ok.0, ap length c.in_ok-extend_from_slice.ensures.items) in e) in
    takes_by c.args.self.now _ piece held c.in-Ok.reached c.len_of-len.result _ is_open (sym c.self.view_is ∙ ap (λ r. record { octets = held; state = state_of r }) c.in-Open.is) is count (omega (arith, c.len-held.ensures, c.self.inside.octets.ok.0)) c.state_of-2.ensures
    (ap (λ t. record { octets = t; state = state_of c.in-Ok.reached }) (c.truncate-2.ensures.items ∙ ap (take c.len_of-len.result) c.in_ok-extend_from_slice.ensures.items))
