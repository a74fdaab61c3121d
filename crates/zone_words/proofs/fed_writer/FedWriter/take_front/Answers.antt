use Rattle.std.proofs.Common.{ap₂, arith, drop, length, sym, take-append-drop, ◌++◌, ◌<◌, ◌∙◌}
use Rattle.zone_words.proofs.Common.{FirstIs, map, none_left, raw, refl, subst}
use Rattle.zone_words.proofs.FedTexts.{IsTaken, broken_taken, ended_taken, open_taken, some_taken, whole_taken}
use Rattle.zone_words.proofs.fed_writer.FedWriter.take_front.Goals as goal
use Rattle.zone_words.proofs.fed_writer.FedWriter.take_front.Goals.{in-Open, in-Ended+in_ok-end_entry-in-Ended, in-Broken+in_ok-break_off-in-Broken}

pub returns-in-Whole-clause-is : goal.returns-in-Whole-clause-is
returns-in-Whole-clause-is c =
    (whole_taken c.args.self.now _ c.args.octets.now c.split_at.result.0.now c.split_at.result.1.now c.in-Whole.len (map raw c.first_entry.new.items.items) c.requires.is c.requires.going
    (rw (c.octets.ensures) at (none_left c.octets.result.now _ c.is_empty.result refl c.is_empty.ensures c.if-is_empty.true))
    refl refl c.split_at.ensures.front c.split_at.ensures.back (subst (FirstIs c.args.octets.now (map raw c.first_entry.new.items.items)) c.in-Whole.is c.in_ok-len.ensures.found) (rw (c.deref.ensures.value) at c.in_ok-push.ensures.pushed) c.in_ok-push.ensures.at_most_one).is

pub returns-in-Whole-clause-front : goal.returns-in-Whole-clause-front
returns-in-Whole-clause-front c =
    (whole_taken c.args.self.now _ c.args.octets.now c.split_at.result.0.now c.split_at.result.1.now c.in-Whole.len (map raw c.first_entry.new.items.items) c.requires.is c.requires.going
    (rw (c.octets.ensures) at (none_left c.octets.result.now _ c.is_empty.result refl c.is_empty.ensures c.if-is_empty.true))
    refl refl c.split_at.ensures.front c.split_at.ensures.back (subst (FirstIs c.args.octets.now (map raw c.first_entry.new.items.items)) c.in-Whole.is c.in_ok-len.ensures.found) (rw (c.deref.ensures.value) at c.in_ok-push.ensures.pushed) c.in_ok-push.ensures.at_most_one).front

is_some : (c : goal.After-left-2-1) → IsTaken c.args.self.now c.match-taken.self c.split_at-2.result.0.now (drop c.in_ok-taken.taken.len c.split_at-2.result.0.now)
is_some c =
    let some : 0 < length c.split_at-2.result.0.now = omega (arith, c.split_at-2.ensures.front_len, c.requires.some) in
    elim c.match-taken.branch [
      | in-Open w ↦ open_taken c.args.self.now c.match-taken.self c.split_at-2.result.0.now _ c.in_ok-taken.taken c.take.new.self c.requires.is c.requires.going some c.in_ok-taken.ensures.taken refl w.in-Open.is w.self-is
      | in-Ended+in_ok-end_entry-in-Ended w ↦ rw (w.self-is) (ended_taken c.args.self.now w.end_entry.new.self c.split_at-2.result.0.now _ c.in_ok-taken.taken c.take.new.self c.requires.is c.requires.going some c.in_ok-taken.ensures.taken refl w.in-Ended.is w.in_ok-end_entry-in-Ended.ensures.pushed w.in_ok-end_entry-in-Ended.ensures.at_most_one w.in_ok-end_entry-in-Ended.ensures.none w.in_ok-end_entry-in-Ended.ensures.state w.in_ok-end_entry-in-Ended.ensures.same)
      | in-Broken+in_ok-break_off-in-Broken w ↦ rw (w.self-is) (broken_taken c.args.self.now w.break_off.new.self c.split_at-2.result.0.now _ c.in_ok-taken.taken c.take.new.self c.requires.is c.requires.going some c.in_ok-taken.ensures.taken refl _ w.in-Broken.is w.in_ok-break_off-in-Broken.ensures.broken w.in_ok-break_off-in-Broken.ensures.none w.in_ok-break_off-in-Broken.ensures.state w.in_ok-break_off-in-Broken.ensures.inherited w.in_ok-break_off-in-Broken.ensures.line w.in_ok-break_off-in-Broken.ensures.told w.in_ok-break_off-in-Broken.ensures.pushed)
    ]

is_taken : (c : goal.After-left-2-1) → IsTaken c.args.self.now c.match-taken.self c.args.octets.now c.split_at-3.result.1.now
is_taken c =
    some_taken c.args.self.now c.match-taken.self c.args.octets.now c.split_at-2.result.0.now c.split_at-2.result.1.now c.split_at-3.result.1.now c.in_ok-taken.taken.len
    (sym (ap₂ (λ s t. s ++ t) c.split_at-2.ensures.front c.split_at-2.ensures.back ∙ take-append-drop _ c.args.octets.now))
    c.in_ok-taken.ensures.taken.within c.split_at-3.ensures.back (is_some c)

pub returns-clause-is : goal.returns-clause-is
returns-clause-is c = (is_taken c).is

pub returns-clause-front : goal.returns-clause-front
returns-clause-front c = (is_taken c).front
