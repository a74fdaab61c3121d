use Rattle.std.proofs.Common.{◌≡◌, drop}
use Rattle.std.specs.Prelude.{find}
use Rattle.digest_command.specs.Lines.{is_verified}
use Rattle.digest_command.proofs.lines.first_verified.Given as goal

-- none of those that were looked at is verified
abbrev pub invariant-loop-finding : goal.invariant-loop-finding
invariant-loop-finding l = find is_verified l.findings ≡ find is_verified (drop l.finding-index l.findings)
