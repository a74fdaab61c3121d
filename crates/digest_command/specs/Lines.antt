-- The lines that tell of the ZONEMD records at the apex of a zone, and a ZONEMD record in words
-- (this project's own), each with its line feed.
use Rattle.std.specs.Prelude.{◌==◌, ℕ, Bool, true, false, if◌then◌else◌, List, [], ◌∷◌, ◌++◌, codes, decimal, drop, slice_get, unwrap_or, find}
use Rattle.std.specs.Int.{from_be_bytes, w32}
use Rattle.std.specs.List.{flat_map}
use Rattle.std.specs.Option.{option_map_or}
use Rattle.hex.specs.Hex.{encode_lower}
use Rattle.zone_name.specs.Common.{Octets}
use Rattle.zone_name.specs.Text.{name_text}
use Rattle.zone_rdata.specs.Record.{Record}
use Rattle.zone_rdata.specs.Text.{generic_text}
use Rattle.zone_rdata.specs.Words.{class_text}
use Rattle.zone_print.specs.Canonical.{line}
use Rattle.zone_digest.specs.declared.verdict.Finding.{Finding}
use Rattle.zone_digest.specs.declared.verdict.Verdict.{Verdict}
use Rattle.zone_digest.specs.declared.verdict.Verdict.TheVariants as verdicts
use Rattle.digest_command.specs.declared.notation.Notation.{Notation}
use Rattle.digest_command.specs.declared.notation.Notation.TheVariants.{Words, Generic}

-- ZONEMD data up to its digest: serial, scheme and hash algorithm (RFC 8976 2.3). Data that is too
-- short for these stands in the generic form (RFC 3597 5).
abbrev pub fields_text : Octets → List ℕ
fields_text (a ∷ b ∷ c ∷ d ∷ scheme ∷ algorithm ∷ digest) =
    decimal (from_be_bytes w32 (a ∷ b ∷ c ∷ d ∷ [])) ++ 32 ∷ decimal scheme
    ++ 32 ∷ decimal algorithm
fields_text octets = generic_text octets

-- the octet at a place, 0 where there is none
abbrev pub octet_at : Octets → ℕ → ℕ
octet_at octets place = unwrap_or (slice_get octets place) 0

-- ---- what is told of findings

abbrev pub is_verified_verdict : Verdict → Bool
is_verified_verdict verdicts.Verified = true
is_verified_verdict verdict = false

abbrev pub is_verified : Finding → Bool
is_verified finding = is_verified_verdict finding.verdict

-- the name of the hash algorithm of data (RFC 8976 5.3)
abbrev pub algorithm_name : Octets → List ℕ
algorithm_name octets =
    if octet_at octets 5 == 2 then codes "SHA-512" else codes "SHA-384"

-- why data verifies nothing in a zone of this serial; nothing of data that does
abbrev pub reason : ℕ → Octets → Verdict → List ℕ
reason serial octets verdicts.Malformed = codes "the data is malformed"
reason serial octets verdicts.OtherSerial = codes "the serial isn't " ++ decimal serial
reason serial octets verdicts.UnknownScheme =
    codes "scheme " ++ decimal (octet_at octets 4) ++ codes " isn't supported"
reason serial octets verdicts.UnknownAlgorithm =
    codes "hash algorithm " ++ decimal (octet_at octets 5) ++ codes " isn't supported"
reason serial octets verdicts.Repeated =
    codes "another record has the same scheme and hash algorithm"
reason serial octets verdicts.Differs = codes "the digest differs"
reason serial octets verdicts.Verified = []

-- the line on a record that is verified, and on one that isn't
abbrev pub verified_line : ℕ → Octets → List ℕ
verified_line serial octets =
    codes "verified: serial " ++ decimal serial ++ codes ", SIMPLE, " ++ algorithm_name octets
    ++ 10 ∷ []

abbrev pub refuted_line : ℕ → Finding → List ℕ
refuted_line serial finding =
    codes "not verified: ZONEMD " ++ fields_text finding.octets.now ++ codes ": "
    ++ reason serial finding.octets.now finding.verdict ++ 10 ∷ []

-- the lines where none is verified: one for each record, or that there is none
abbrev pub refuted_text : ℕ → List Finding → List ℕ
refuted_text serial [] = codes "not verified: no ZONEMD record at the apex" ++ 10 ∷ []
refuted_text serial (finding ∷ findings) = flat_map (refuted_line serial) (finding ∷ findings)

-- what is told of a zone of this serial with these findings: of the first record that is verified,
-- or why none is
abbrev pub findings_text : ℕ → List Finding → List ℕ
findings_text serial findings =
    option_map_or (λ (finding : Finding). verified_line serial finding.octets.now)
    (find is_verified findings) (refuted_text serial findings)

-- ---- a ZONEMD record

-- in words (RFC 8976 2.3), its digest in lower case
abbrev pub words_line : Record → List ℕ
words_line r =
    name_text r.owner ++ 32 ∷ decimal r.ttl ++ 32 ∷ class_text r.class ++ codes " ZONEMD "
    ++ fields_text r.octets ++ 32 ∷ encode_lower (drop 6 r.octets) ++ 10 ∷ []

-- and in the generic form, as the canonical text has it
abbrev pub record_line : Notation → Record → List ℕ
record_line Words r = words_line r
record_line Generic r = line r
