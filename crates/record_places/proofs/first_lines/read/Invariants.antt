use Rattle.std.proofs.Common.{◌≡◌, ◌+◌, length}
use Rattle.std.specs.Prelude.{false}
use Rattle.record_places.proofs.Reading.{HasRead}
use Rattle.record_places.proofs.first_lines.read.Given as goal

abbrev pub invariant-pieces : goal.invariant-pieces
invariant-pieces l = record {
  read : HasRead l.initial.source l.initial.lines l.source l.lines l.sorted l.octets l.rest;
  counted : l.source.held.fed + length l.rest ≡ l.initial.source.held.fed + length l.octets;
  goes_on : l.source.held.finished ≡ false;
}

abbrev pub decreases-pieces : goal.decreases-pieces
decreases-pieces l = length l.rest
