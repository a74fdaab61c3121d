-- A zone is answered one text with one status.
use Rattle.std.proofs.Common.{[], ◌≡◌, ◌∙◌, ◌∷◌, ◌++◌, ℕ, List, ap, ap₂, arith, codes, inl, inr, refl, sym, subst}
use Rattle.std.specs.Int.{from_be_bytes, w32}
use Rattle.std.specs.List.{flat_map}
use Rattle.std.specs.Option.{option_map_or}
use Rattle.std.specs.Prelude.{find}
use Rattle.zone_name.specs.Common.{AtMostOneIs, Octets}
use Rattle.zone_rdata.specs.Record.{Record}
use Rattle.zone_set.specs.Zone.{IsZone, Zone}
use Rattle.zone_digest.specs.Findings.{AreFindings}
use Rattle.zone_digest.specs.Laws.{TellTheSame}
use Rattle.zone_digest.specs.Verdict.{IsSerial}
use Rattle.zone_digest.specs.Wanted.{IsWanted}
use Rattle.zone_digest.specs.declared.algorithm.Algorithm.{Algorithm}
use Rattle.zone_digest.specs.declared.verdict.Finding.{Finding}
use Rattle.zone_digest.specs.declared.verdict.Verdict.{Verdict}
use Rattle.zone_engine.specs.Headline.{DenoteOne}
use Rattle.zone_engine.specs.Input.{Input, InputDenotes}
use Rattle.digest_command.specs.Lines.{fields_text, findings_text, is_verified, reason, record_line, refuted_line, refuted_text, verified_line}
use Rattle.digest_command.specs.Run.{IsAnswer, TellsFindings, digest, not_verified, verified}
use Rattle.digest_command.specs.declared.order.Order.{Order}
use Rattle.digest_command.specs.declared.order.Order.TheVariants.{Digest, Verify}
use Rattle.digest_command.proofs.Statuses.{HasVerdict, of_unverified, of_verified}

-- ---- the text of findings
line_of : ℕ → Octets → Verdict → List ℕ
line_of serial octets verdict = codes "not verified: ZONEMD " ++ fields_text octets ++ codes ": " ++ reason serial octets verdict ++ 10 ∷ []

same_lines : (serial : ℕ) (findings others : List Finding) → TellTheSame findings others → flat_map (refuted_line serial) findings ≡ flat_map (refuted_line serial) others
unfolding line_of
same_lines serial [] [] same = refl
same_lines serial [] (g ∷ others) same = absurd same
same_lines serial (f ∷ findings) [] same = absurd same
same_lines serial (f ∷ findings) (g ∷ others) same = ap₂ (λ (x y : List ℕ). x ++ y) (ap₂ (line_of serial) same.0.0 same.0.1) (same_lines serial findings others same.1)

same_refuted : (serial : ℕ) (findings others : List Finding) → TellTheSame findings others → refuted_text serial findings ≡ refuted_text serial others
same_refuted serial [] [] same = refl
same_refuted serial [] (g ∷ others) same = absurd same
same_refuted serial (f ∷ findings) [] same = absurd same
same_refuted serial (f ∷ findings) (g ∷ others) same = same_lines serial (f ∷ findings) (g ∷ others) same

-- what is told of the first that is verified, or where none is
abbrev told_of : ℕ → List ℕ → List Finding → List ℕ
told_of serial nothing findings = option_map_or (λ (finding : Finding). verified_line serial finding.octets.now) (find is_verified findings) nothing

same_told : (serial : ℕ) (nothing : List ℕ) (findings others : List Finding) → TellTheSame findings others → told_of serial nothing findings ≡ told_of serial nothing others
same_told serial nothing [] [] same = refl
same_told serial nothing [] (g ∷ others) same = absurd same
same_told serial nothing (f ∷ findings) [] same = absurd same
same_told serial nothing (f ∷ findings) (g ∷ others) same = grind (arith, same.0, same_told serial nothing findings others same.1)

same_text : (serial : ℕ) (findings others : List Finding) → TellTheSame findings others → findings_text serial findings ≡ findings_text serial others
same_text serial findings others same = ap (λ e. told_of serial e findings) (same_refuted serial findings others same) ∙ same_told serial (refuted_text serial others) findings others same

-- ---- an answer
abbrev Says : Zone → Order → List ℕ → ℕ → Type 0
Says z (Verify origin) text status = TellsFindings z text × HasVerdict z status
Says z (Digest origin algorithm notation) text status = (r : Record) × IsWanted z algorithm r × (text ≡ record_line notation r) × (status ≡ 0)

says : (z : Zone) (order : Order) (text : List ℕ) (status : ℕ) → IsAnswer z order text status → Says z order text status
says z _ text _ (verified origin t is told) = (told, inl (is, refl))
says z _ text _ (not_verified origin t never told) = (told, inr (never, refl))
says z _ _ _ (digest origin algorithm notation r wanted) = (r, wanted, refl, refl)

module _ (one_serial : (z : Zone) → IsZone z → AtMostOneIs (IsSerial z))
    (one_findings : (z : Zone) (findings others : List Finding) → AreFindings z findings → AreFindings z others → TellTheSame findings others)
    (one_wanted : (z : Zone) (a : Algorithm) → IsZone z → AtMostOneIs (IsWanted z a)) where
  one_told : (z : Zone) (text other : List ℕ) → IsZone z → TellsFindings z text → TellsFindings z other → text ≡ other
  one_told z text other is one two =
      one.is_text ∙ ap (λ s. findings_text (from_be_bytes w32 s) one.findings) (one_serial z is one.serial two.serial one.is_serial two.is_serial)
      ∙ same_text (from_be_bytes w32 two.serial) one.findings two.findings (one_findings z one.findings two.findings one.are_findings two.are_findings) ∙ sym two.is_text

  one_status : (z : Zone) (status ended : ℕ) → HasVerdict z status → HasVerdict z ended → status ≡ ended
  one_status z status ended (inl good) other = good.1 ∙ sym (of_verified z ended other good.0)
  one_status z status ended (inr bad) other = bad.1 ∙ sym (of_unverified z ended other bad.0)

  one_answer : (z : Zone) (order : Order) (text other : List ℕ) (status ended : ℕ) → IsZone z → Says z order text status → Says z order other ended → (text ≡ other) × (status ≡ ended)
  one_answer z (Verify origin) text other status ended is one two = (one_told z text other is one.0 two.0, one_status z status ended one.1 two.1)
  one_answer z (Digest origin algorithm notation) text other status ended is one two =
      (one.2 ∙ ap (record_line notation) (one_wanted z algorithm is one.0 two.0 one.1 two.1) ∙ sym two.2, one.3 ∙ sym two.3)

  pub one_of_both : ((input : Input) → AtMostOneIs (InputDenotes input)) → (a b : Input) (z w : Zone) (order : Order) (text other : List ℕ) (status ended : ℕ) → DenoteOne a b → InputDenotes a z → InputDenotes b w → IsAnswer z order text status → IsAnswer w order other ended → (text ≡ other) × (status ≡ ended)
  one_of_both one_zone a b z w order text other status ended both is_a is_b one two =
      let same : w ≡ z = one_zone b w both.0 is_b both.2 ∙ one_zone a both.0 z both.1 is_a in
      one_answer z order text other status ended is_a.makes.zone (says z order text status one) (says z order other ended (subst (λ v. IsAnswer v order other ended) same two))
