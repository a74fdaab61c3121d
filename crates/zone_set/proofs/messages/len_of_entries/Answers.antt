use Rattle.zone_set.proofs.Common.{[], all_records, arith, message_octets, min, nil_from_length, rules, subst, ℕ, ◌+◌, ◌-◌, ◌^◌, ◌≡◌, ◌≤◌}
use Rattle.zone_set.proofs.Storage.MessageLens.{alone_len}
use Rattle.zone_set.proofs.messages.len_of_entries.Goals as goal

at_end : (n sum : ℕ) → n ≤ 2 ^ 64 - 1 → min (n + 0) (2 ^ 64 - 1) ≡ min sum (2 ^ 64 - 1) → n ≡ min sum (2 ^ 64 - 1)
at_end n sum most is = omega (arith, most, is)

pub returns-then-alone : goal.returns-then-alone
returns-then-alone g c = rw (alone_len c.args.class c.args.octets.now c.args.entries.now (c.requires.1 c.if-alone.true)) (search rules)

pub returns : goal.returns
returns g c =
    let left : c.loop-entry.left.now ≡ [] = nil_from_length c.loop-entry.left.now c.in_default.ensures.cases in
    at_end c.loop-entry.octet_count (message_octets (all_records c.args.class c.args.octets.now c.args.entries.now)) c.loop-entry.invariant.1
    (subst (λ l. min (c.loop-entry.octet_count + message_octets (all_records c.args.class c.args.octets.now l)) (2 ^ 64 - 1) ≡ min (message_octets (all_records c.args.class c.args.octets.now c.args.entries.now)) (2 ^ 64 - 1)) left c.loop-entry.invariant.2)
