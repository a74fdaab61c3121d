use Rattle.std.proofs.Common.{◌≡◌, take}
use Rattle.zone_files.proofs.expansion.files_within.copied_names.Given as goal

-- those before this one were copied
abbrev pub invariant-names : goal.invariant-names
invariant-names l = l.made.items ≡ take l.name-index l.names
