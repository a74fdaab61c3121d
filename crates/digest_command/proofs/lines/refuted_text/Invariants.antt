use Rattle.std.proofs.Common.{◌≡◌, string_bytes, take}
use Rattle.std.specs.List.{flat_map}
use Rattle.digest_command.specs.Lines.{refuted_line}
use Rattle.digest_command.proofs.lines.refuted_text.Given as goal

-- the text has the lines so far
abbrev pub invariant-loop-finding : goal.invariant-loop-finding
invariant-loop-finding l = string_bytes l.text ≡ flat_map (refuted_line l.serial) (take l.finding-index l.findings)
