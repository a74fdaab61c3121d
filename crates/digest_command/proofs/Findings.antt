-- What findings tell.
use Rattle.std.proofs.Common.{◌≡◌, ◌∷◌, [], List, arith}
use Rattle.std.specs.Prelude.{None, Some, find}
use Rattle.zone_digest.specs.Laws.{TellsVerified}
use Rattle.zone_digest.specs.declared.verdict.Finding.{Finding}
use Rattle.digest_command.specs.Lines.{is_verified}

-- ---- the first that is verified
pub found_tells : (findings : List Finding) (finding : Finding) → Some finding ≡ find is_verified findings → TellsVerified findings
found_tells [] finding is = grind arith
found_tells (f ∷ findings) finding is = grind (arith, found_tells findings finding)

pub none_tells : (findings : List Finding) → None ≡ find is_verified findings → TellsVerified findings → ⊥
none_tells [] none tells = tells
none_tells (f ∷ findings) none tells = grind (arith, none_tells findings)
