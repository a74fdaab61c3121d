-- What is answered on the digests of a zone (this project's own).
use Rattle.std.specs.Prelude.{◌≡◌, ◌≢◌, ◌-◌, ◌^◌, ℕ, List, [], length, map, min, Option, Some, None}
use Rattle.std.specs.List.{Contains}
use Rattle.zone_rdata.specs.Record.{Record}
use Rattle.zone_print.specs.Canonical.{line}
use Rattle.zone_set.specs.Zone.{Zone}
use Rattle.zone_digest.specs.Findings.{AreFindings}
use Rattle.zone_digest.specs.Wanted.{IsWanted}
use Rattle.zone_digest.specs.declared.algorithm.Algorithm.{Algorithm}
use Rattle.zone_digest.specs.declared.algorithm.Algorithm.TheVariants.{Sha384, Sha512}
use Rattle.zone_digest.specs.declared.verdict.Finding.{Finding}
use Rattle.zone_digest.specs.declared.verdict.Verdict.{Verdict}
use Rattle.zone_digest.specs.declared.verdict.Verdict.TheVariants.{Malformed, OtherSerial, UnknownScheme, UnknownAlgorithm, Repeated, Differs, Verified}
use Rattle.zonenorm_c.specs.Answering.{Answers, HasStatus}
use Rattle.zonenorm_c.specs.declared.answer.Answer.{Answer}
use Rattle.zonenorm_c.specs.declared.given.Given.{Given}

-- the number of a verdict
abbrev pub verdict_number : Verdict → ℕ
verdict_number Malformed = 0
verdict_number OtherSerial = 1
verdict_number UnknownScheme = 2
verdict_number UnknownAlgorithm = 3
verdict_number Repeated = 4
verdict_number Differs = 5
verdict_number Verified = 6

-- the numbers of the verdicts that are found
abbrev pub AreNumbers : List Finding → List ℕ → Type 0
AreNumbers findings numbers = numbers ≡ map (λ finding. verdict_number finding.verdict) findings

-- the verdict on each ZONEMD record at the apex; and the status says whether the zone is verified
pub record AreVerdicts (z : Zone) (text : List ℕ) (answer : Answer) : Type 0 where
  pub findings : List Finding
  pub are : AreFindings z findings
  pub numbers : AreNumbers findings text
  pub verified : Contains text 6 → answer.status ≡ 0
  pub other : (Contains text 6 → ⊥) → answer.status ≡ 1

-- the line of the ZONEMD record that the zone wants
pub record IsWantedLine (algorithm : Algorithm) (z : Zone) (text : List ℕ)
    (answer : Answer) : Type 0 where
  pub record_of : Record
  pub wanted : IsWanted z algorithm record_of
  pub line_of : text ≡ line record_of
  pub status : answer.status ≡ 0

-- what is answered on a number of an algorithm and an input
pub data AnswersDigest (n : ℕ) (given : Given) (text : List ℕ) (answer : Answer) : Type 0 where
  by_sha384 : n ≡ 1 → Answers (IsWantedLine Sha384) given text answer
      → AnswersDigest n given text answer
  by_sha512 : n ≡ 2 → Answers (IsWantedLine Sha512) given text answer
      → AnswersDigest n given text answer
  unsupported : n ≢ 1 → n ≢ 2 → HasStatus 5 text answer → AnswersDigest n given text answer
