use Rattle.std.proofs.Common.{Fits, List, ap, refl, rules, subst, sym, w32, ℕ, ◌∙◌}
use Rattle.std.specs.Global.{Vec}
use Rattle.zone_digest.specs.Findings.{AreFindings}
use Rattle.zone_digest.specs.declared.verdict.Finding.{Finding}
use Rattle.digest_command.proofs.Answering.{told}
use Rattle.digest_command.proofs.answer.verdict_on.Goals as goal

pub returns : goal.returns
returns c =
    let findings = c.as_slice-findings.result.now in
    let are = subst (λ (fs : List Finding). AreFindings c.args.zone.now fs) (sym c.as_slice-findings.ensures.value) c.in_ok-findings.ensures in
    let short : Fits w32 c.serial_of.result = search rules in
    told c.args.zone.now c.serial_of.result findings c.into_bytes.result.items short.fits ((c.serial_of.ensures _).1 refl) are (ap (λ (v : Vec ℕ). v.items) c.into_bytes.ensures.value ∙ c.in_ok-findings_text.ensures)
    (c.findings_tell_whether_a_zone_is_verified.ensures c.args.zone.now findings are) c.status_of.result c.status_of.ensures
