use Rattle.zone_text.proofs.Common.{arith, length, refl, subst, sym, ◌<◌}
use Rattle.zone_text.proofs.Scanning.FedPieces.{part_broken, part_ended, part_open, takes_front}
use Rattle.zone_text.specs.Machine.Feeding.{TakesPart}
use Rattle.zone_text.proofs.splitter.EntrySplitter.take_some.Goals as goal
use Rattle.zone_text.proofs.splitter.EntrySplitter.take_some.Goals.{in-Open, in-Ended+in_ok-end_entry-in-Ended, in-Broken}

pub returns : goal.returns
returns c =
    let some : 0 < length c.split_at.result.0.now = omega (arith, c.requires.some, c.split_at.ensures.front_len) in
    let front = takes_front _ _ c.args.octets.now _ _ _ _ c.split_at.ensures.front c.in_ok-taken.ensures.taken c.requires.is.state some c.split_at-2.ensures.back in
    elim c.match-taken.branch [
      | in-Open w ↦
          subst (λ s. TakesPart c.args.self.now c.args.octets.now c.split_at-2.result.1.now s) (sym w.self-is)
          (part_open c.args.self.now _ c.args.octets.now _ _ c.requires.is c.requires.undecided front w.in-Open.is refl)
      | in-Ended+in_ok-end_entry-in-Ended w ↦
          subst (λ s. TakesPart c.args.self.now c.args.octets.now c.split_at-2.result.1.now s) (sym w.self-is)
          (part_ended c.args.self.now _ c.args.octets.now _ _ _ c.requires.is c.requires.undecided front w.in-Ended.is w.in_ok-end_entry-in-Ended.ensures.reads w.in_ok-end_entry-in-Ended.ensures.none w.in_ok-end_entry-in-Ended.ensures.state)
      | in-Broken w ↦
          subst (λ s. TakesPart c.args.self.now c.args.octets.now c.split_at-2.result.1.now s) (sym w.self-is)
          (part_broken c.args.self.now _ c.args.octets.now _ _ _ w.in-Broken.fault c.requires.is c.requires.undecided front w.in-Broken.is w.refuse.ensures.records (rw w.in-Broken.is at w.refuse.ensures.ending) w.refuse.ensures.line w.refuse.ensures.none w.refuse.ensures.state)
    ]
