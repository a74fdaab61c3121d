use Rattle.zone_text.proofs.Common.{BadEscape, UnbalancedParenthesis, ap, map, raw, true}
use Rattle.zone_text.proofs.Scanning.Unfinished.{broken_on}
use Rattle.zone_text.proofs.Scanning.Walking.{walk_open}
use Rattle.zone_text.proofs.entry.first_entry.Goals as goal
use Rattle.zone_text.proofs.entry.first_entry.Goals.{in-Ok-Open, in-Ok-LostEscape, in-Ok-ClosesNothing, in-Err}

pub returns-clause-found : goal.returns-clause-found
returns-clause-found c =
    let none = ap (map raw) c.clear.ensures.items in
    elim c.match-walk.branch [
      | in-Ok-Open w ↦ rw w.found-is (walk_open c.args.octets.now _ true _ (rw w.in-Ok-Open.field-0-is at w.in-Ok-Open.ensures.walked), none)
      | in-Ok-LostEscape w ↦ rw w.found-is (broken_on c.args.octets.now w.in-Ok-LostEscape._len BadEscape (rw w.in-Ok-LostEscape.field-0-is at w.in-Ok-LostEscape.ensures.walked).0, none)
      | in-Ok-ClosesNothing w ↦ rw w.found-is (broken_on c.args.octets.now w.in-Ok-ClosesNothing._len UnbalancedParenthesis (rw w.in-Ok-ClosesNothing.field-0-is at w.in-Ok-ClosesNothing.ensures.walked).0, none)
      | in-Err w ↦ rw w.found-is tt
    ]
