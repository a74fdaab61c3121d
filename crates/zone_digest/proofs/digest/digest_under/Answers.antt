-- Each record is passed, kept in the set or left out.
use Rattle.std.proofs.Common.{◌≡◌, ◌∷◌, ◌++◌, [], map, refl, sym, ap, ◌∙◌, subst, arith}
use Rattle.std.specs.List.{AllByRecursion, flat_map}
use Rattle.zone_rdata.specs.Lent.{record_of}
use Rattle.zone_rdata.specs.Record.{IsRecord}
use Rattle.zone_digest.specs.Digest.{IsLeftOut, record_octets}
use Rattle.zone_digest.specs.Machine.Sets.{AreAlike, AreLowered}
use Rattle.zone_digest.specs.Machine.Walk.{IsWalked, by_owner}
use Rattle.zone_digest.proofs.Sets.{pushed_record}
use Rattle.zone_digest.proofs.Soa.{has_by_owner}
use Rattle.zone_digest.proofs.Steps.{all_ascend, all_class, all_records, all_ttl, ascends_front, finish, held_after, held_one, keep, pass, set_alike, set_records, skip, start}
use Rattle.zone_digest.proofs.digest.digest_under.Goals as goal

pub loop-rr-init : goal.loop-rr-init
loop-rr-init g c =
    let z = c.args.zone.now in
    let is = c.new-rr-items.ensures.zone in
    let rest : c.into_iter-rr-iterator.result ≡ by_owner z.records = cc in
    record {
      zone = is;
      walked = (
        [],
        subst (λ s. IsWalked z.apex (by_owner z.records) (map record_of s) c.into_iter-rr-iterator.result []) (sym c.new-set.ensures.items)
            (subst (λ r. IsWalked z.apex (by_owner z.records) [] r []) (sym rest) (start z.apex (by_owner z.records) (all_ascend z is))),
        c.new-hasher.ensures,
      );
    }

pub loop-rr-preserved-then-is_left_out : goal.loop-rr-preserved-then-is_left_out
loop-rr-preserved-then-is_left_out g c =
    let z = c.args.zone.now in
    let i = c.loop-rr.invariant.walked in
    let w = subst (λ r. IsWalked z.apex (by_owner z.records) (map record_of c.loop-rr.set.items) r i.0) c.in-Some.ensures.steps i.1 in
    record {
      zone = c.loop-rr.invariant.zone;
      walked = (
        i.0,
        skip z.apex (by_owner z.records) (map record_of c.loop-rr.set.items) c.next.new.self i.0 (record_of c.in-Some.rr) w
            (subst (λ a. IsLeftOut a (record_of c.in-Some.rr)) (c.lend-apex.ensures.value ∙ c.apex.ensures) (c.is_left_out.ensures.0 c.if-is_left_out.true)),
        i.2,
      );
    }

pub add_set-requires-clause-each : goal.add_set-requires-clause-each
add_set-requires-clause-each g c =
    let z = c.args.zone.now in
    let i = c.loop-rr.invariant.walked in
    subst (λ s. AllByRecursion IsRecord (map record_of s)) (sym c.as_slice-2.ensures.value)
    (set_records z.apex (by_owner z.records) (map record_of c.loop-rr.set.items) c.loop-rr.rr-iterator i.0 (all_records z c.loop-rr.invariant.zone) i.1)

pub add_set-requires-clause-alike : goal.add_set-requires-clause-alike
add_set-requires-clause-alike g c =
    let z = c.args.zone.now in
    let i = c.loop-rr.invariant.walked in
    subst (λ s. AreAlike (map record_of s)) (sym c.as_slice-2.ensures.value)
    (set_alike z.apex (by_owner z.records) (map record_of c.loop-rr.set.items) c.loop-rr.rr-iterator i.0 (all_class z c.loop-rr.invariant.zone) (all_ttl z c.loop-rr.invariant.zone) i.1)

pub end_other_set-requires-clause-each : goal.end_other_set-requires-clause-each
end_other_set-requires-clause-each g c =
    let z = c.args.zone.now in
    let i = c.loop-rr.invariant.walked in
    set_records z.apex (by_owner z.records) (map record_of c.loop-rr.set.items) c.loop-rr.rr-iterator i.0 (all_records z c.loop-rr.invariant.zone) i.1

pub end_other_set-requires-clause-alike : goal.end_other_set-requires-clause-alike
end_other_set-requires-clause-alike g c =
    let z = c.args.zone.now in
    let i = c.loop-rr.invariant.walked in
    set_alike z.apex (by_owner z.records) (map record_of c.loop-rr.set.items) c.loop-rr.rr-iterator i.0 (all_class z c.loop-rr.invariant.zone) (all_ttl z c.loop-rr.invariant.zone) i.1

pub end_other_set-requires-clause-ascend : goal.end_other_set-requires-clause-ascend
end_other_set-requires-clause-ascend g c = ascends_front (map record_of c.loop-rr.set.items) c.loop-rr.rr-iterator c.loop-rr.invariant.walked.1.ascend

pub loop-rr-preserved-in-Continue-branch-2 : goal.loop-rr-preserved-in-Continue-branch-2
loop-rr-preserved-in-Continue-branch-2 g c =
    let z = c.args.zone.now in
    let i = c.loop-rr.invariant.walked in
    let w = subst (λ r. IsWalked z.apex (by_owner z.records) (map record_of c.loop-rr.set.items) r i.0) c.in-Some.ensures.steps i.1 in
    let n = c.in_ok-end_other_set.ensures.walked z.apex (by_owner z.records) c.next.new.self (all_class z c.loop-rr.invariant.zone) (i.0, w, i.2) in
    let kept = keep z.apex (by_owner z.records) (map record_of c.end_other_set.new.set.items) c.next.new.self n.0 (record_of c.in-Some.rr) n.1
    (λ out. (let is = c.is_left_out.ensures.1 (subst (λ a. IsLeftOut a (record_of c.in-Some.rr)) (sym (c.lend-apex.ensures.value ∙ c.apex.ensures)) out) in grind (arith, is, c.if-is_left_out.false)))
    c.in_ok-end_other_set.ensures.of_first in
    let grown : map record_of c.push.new.self.items ≡ map record_of c.end_other_set.new.set.items ++ record_of c.in-Some.rr ∷ [] = pushed_record c.end_other_set.new.set.items c.push.new.self.items c.in-Some.rr c.in_ok-push.ensures.items in
    record { zone = c.loop-rr.invariant.zone; walked = (n.0, subst (λ s. IsWalked z.apex (by_owner z.records) s c.next.new.self n.0) (sym grown) kept, n.2) }

pub loop-rr-preserved : goal.loop-rr-preserved
loop-rr-preserved g c =
    let z = c.args.zone.now in
    let i = c.loop-rr.invariant.walked in
    let w = subst (λ r. IsWalked z.apex (by_owner z.records) (map record_of c.loop-rr.set.items) r i.0) c.in-Some.ensures.steps i.1 in
    let n = c.in_ok-end_other_set.ensures.walked z.apex (by_owner z.records) c.next.new.self (all_class z c.loop-rr.invariant.zone) (i.0, w, i.2) in
    let none = c.waits.ensures c.if-waits.false in
    let empty : map record_of c.end_other_set.new.set.items ≡ [] = ap (map record_of) (sym c.as_slice.ensures.value ∙ none.0) in
    let passed = pass z.apex (by_owner z.records) c.next.new.self n.0 (record_of c.in-Some.rr) (subst (λ s. IsWalked z.apex (by_owner z.records) s (record_of c.in-Some.rr ∷ c.next.new.self) n.0) empty n.1)
    (λ out. (let is = c.is_left_out.ensures.1 (subst (λ a. IsLeftOut a (record_of c.in-Some.rr)) (sym (c.lend-apex.ensures.value ∙ c.apex.ensures)) out) in grind (arith, is, c.if-is_left_out.false)))
    none.1 in
    record {
      zone = c.loop-rr.invariant.zone;
      walked = (
        n.0 ++ record_of c.in-Some.rr ∷ [],
        subst (λ s. IsWalked z.apex (by_owner z.records) s c.next.new.self (n.0 ++ record_of c.in-Some.rr ∷ [])) (sym empty) passed,
        held_one (g.D.Digest.holds c.add.new.hasher) n.0 (record_of c.in-Some.rr) (c.add.ensures (flat_map record_octets n.0) n.2),
      );
    }

pub returns : goal.returns
returns g c =
    let z = c.args.zone.now in
    let i = c.loop-rr.invariant.walked in
    let f = c.in_ok-add_set.ensures in
    let lowered = subst (λ s. AreLowered (map record_of s) f.0) c.as_slice-2.ensures.value f.1 in
    let digested = finish z (by_owner z.records) (map record_of c.loop-rr.set.items) i.0 f.0 (has_by_owner z.records) (subst (λ r. IsWalked z.apex (by_owner z.records) (map record_of c.loop-rr.set.items) r i.0) c.in-None.ensures.steps.0 i.1) lowered in (
      flat_map record_octets (i.0 ++ f.0),
      (i.0 ++ f.0, digested, refl),
      c.finalize.ensures (flat_map record_octets (i.0 ++ f.0)) (held_after (g.D.Digest.holds c.add_set.new.hasher) i.0 f.0 (f.2 (flat_map record_octets i.0) i.2)),
    )
