-- A record has one verdict: each says that those before it don't hold.
use Rattle.std.proofs.Common.{◌≡◌, refl, sym, ap, ◌∙◌, subst}
use Rattle.zone_rdata.specs.Record.{Record}
use Rattle.zone_set.specs.Zone.{Zone}
use Rattle.zone_digest.specs.Verdict.{IsDigestOf, IsRepeated, IsSerial, IsVerdictOn, number, malformed, other_serial, unknown_scheme, unknown_algorithm, repeated, differs, verified}
use Rattle.zone_digest.specs.declared.verdict.Verdict.{Verdict}
use Rattle.zone_digest.proofs.FieldsOf.{one_fields, one_number}

module _ (z : Zone) (r : Record) where
  one_of : (v w : Verdict) → IsVerdictOn z r v → IsVerdictOn z r w → v ≡ w
  one_of v w (malformed n1) (malformed n2) = refl
  one_of v w (malformed n1) (other_serial f2 well2 no_serial2) = absurd (n1 f2 well2)
  one_of v w (malformed n1) (unknown_scheme f2 has2 other2) = absurd (n1 f2 has2.0)
  one_of v w (malformed n1) (unknown_algorithm f2 has2 simple2 none2) = absurd (n1 f2 has2.0)
  one_of v w (malformed n1) (repeated f2 a2 is2 again2) = absurd (n1 f2 is2.serial.0)
  one_of v w (malformed n1) (differs f2 a2 is2 once2 not_digest2) = absurd (n1 f2 is2.serial.0)
  one_of v w (malformed n1) (verified f2 a2 is2 once2 digest2) = absurd (n1 f2 is2.serial.0)
  one_of v w (other_serial f1 well1 no_serial1) (malformed n2) = absurd (n2 f1 well1)
  one_of v w (other_serial f1 well1 no_serial1) (other_serial f2 well2 no_serial2) = refl
  one_of v w (other_serial f1 well1 no_serial1) (unknown_scheme f2 has2 other2) = absurd (no_serial1 (subst (λ f. IsSerial z f.serial) (one_fields r.octets f2 f1 has2.0.fields well1.fields) has2.1))
  one_of v w (other_serial f1 well1 no_serial1) (unknown_algorithm f2 has2 simple2 none2) = absurd (no_serial1 (subst (λ f. IsSerial z f.serial) (one_fields r.octets f2 f1 has2.0.fields well1.fields) has2.1))
  one_of v w (other_serial f1 well1 no_serial1) (repeated f2 a2 is2 again2) = absurd (no_serial1 (subst (λ f. IsSerial z f.serial) (one_fields r.octets f2 f1 is2.serial.0.fields well1.fields) is2.serial.1))
  one_of v w (other_serial f1 well1 no_serial1) (differs f2 a2 is2 once2 not_digest2) = absurd (no_serial1 (subst (λ f. IsSerial z f.serial) (one_fields r.octets f2 f1 is2.serial.0.fields well1.fields) is2.serial.1))
  one_of v w (other_serial f1 well1 no_serial1) (verified f2 a2 is2 once2 digest2) = absurd (no_serial1 (subst (λ f. IsSerial z f.serial) (one_fields r.octets f2 f1 is2.serial.0.fields well1.fields) is2.serial.1))
  one_of v w (unknown_scheme f1 has1 other1) (malformed n2) = absurd (n2 f1 has1.0)
  one_of v w (unknown_scheme f1 has1 other1) (other_serial f2 well2 no_serial2) = absurd (no_serial2 (subst (λ f. IsSerial z f.serial) (one_fields r.octets f1 f2 has1.0.fields well2.fields) has1.1))
  one_of v w (unknown_scheme f1 has1 other1) (unknown_scheme f2 has2 other2) = refl
  one_of v w (unknown_scheme f1 has1 other1) (unknown_algorithm f2 has2 simple2 none2) = absurd (other1 (subst (λ f. f.scheme ≡ 1) (one_fields r.octets f2 f1 has2.0.fields has1.0.fields) simple2))
  one_of v w (unknown_scheme f1 has1 other1) (repeated f2 a2 is2 again2) = absurd (other1 (subst (λ f. f.scheme ≡ 1) (one_fields r.octets f2 f1 is2.serial.0.fields has1.0.fields) is2.scheme))
  one_of v w (unknown_scheme f1 has1 other1) (differs f2 a2 is2 once2 not_digest2) = absurd (other1 (subst (λ f. f.scheme ≡ 1) (one_fields r.octets f2 f1 is2.serial.0.fields has1.0.fields) is2.scheme))
  one_of v w (unknown_scheme f1 has1 other1) (verified f2 a2 is2 once2 digest2) = absurd (other1 (subst (λ f. f.scheme ≡ 1) (one_fields r.octets f2 f1 is2.serial.0.fields has1.0.fields) is2.scheme))
  one_of v w (unknown_algorithm f1 has1 simple1 none1) (malformed n2) = absurd (n2 f1 has1.0)
  one_of v w (unknown_algorithm f1 has1 simple1 none1) (other_serial f2 well2 no_serial2) = absurd (no_serial2 (subst (λ f. IsSerial z f.serial) (one_fields r.octets f1 f2 has1.0.fields well2.fields) has1.1))
  one_of v w (unknown_algorithm f1 has1 simple1 none1) (unknown_scheme f2 has2 other2) = absurd (other2 (subst (λ f. f.scheme ≡ 1) (one_fields r.octets f1 f2 has1.0.fields has2.0.fields) simple1))
  one_of v w (unknown_algorithm f1 has1 simple1 none1) (unknown_algorithm f2 has2 simple2 none2) = refl
  one_of v w (unknown_algorithm f1 has1 simple1 none1) (repeated f2 a2 is2 again2) = absurd (none1 a2 (subst (λ f. f.algorithm ≡ number a2) (one_fields r.octets f2 f1 is2.serial.0.fields has1.0.fields) is2.algorithm))
  one_of v w (unknown_algorithm f1 has1 simple1 none1) (differs f2 a2 is2 once2 not_digest2) = absurd (none1 a2 (subst (λ f. f.algorithm ≡ number a2) (one_fields r.octets f2 f1 is2.serial.0.fields has1.0.fields) is2.algorithm))
  one_of v w (unknown_algorithm f1 has1 simple1 none1) (verified f2 a2 is2 once2 digest2) = absurd (none1 a2 (subst (λ f. f.algorithm ≡ number a2) (one_fields r.octets f2 f1 is2.serial.0.fields has1.0.fields) is2.algorithm))
  one_of v w (repeated f1 a1 is1 again1) (malformed n2) = absurd (n2 f1 is1.serial.0)
  one_of v w (repeated f1 a1 is1 again1) (other_serial f2 well2 no_serial2) = absurd (no_serial2 (subst (λ f. IsSerial z f.serial) (one_fields r.octets f1 f2 is1.serial.0.fields well2.fields) is1.serial.1))
  one_of v w (repeated f1 a1 is1 again1) (unknown_scheme f2 has2 other2) = absurd (other2 (subst (λ f. f.scheme ≡ 1) (one_fields r.octets f1 f2 is1.serial.0.fields has2.0.fields) is1.scheme))
  one_of v w (repeated f1 a1 is1 again1) (unknown_algorithm f2 has2 simple2 none2) = absurd (none2 a1 (subst (λ f. f.algorithm ≡ number a1) (one_fields r.octets f1 f2 is1.serial.0.fields has2.0.fields) is1.algorithm))
  one_of v w (repeated f1 a1 is1 again1) (repeated f2 a2 is2 again2) = refl
  one_of v w (repeated f1 a1 is1 again1) (differs f2 a2 is2 once2 not_digest2) = absurd (once2 (subst (IsRepeated z r) (one_fields r.octets f1 f2 is1.serial.0.fields is2.serial.0.fields) again1))
  one_of v w (repeated f1 a1 is1 again1) (verified f2 a2 is2 once2 digest2) = absurd (once2 (subst (IsRepeated z r) (one_fields r.octets f1 f2 is1.serial.0.fields is2.serial.0.fields) again1))
  one_of v w (differs f1 a1 is1 once1 not_digest1) (malformed n2) = absurd (n2 f1 is1.serial.0)
  one_of v w (differs f1 a1 is1 once1 not_digest1) (other_serial f2 well2 no_serial2) = absurd (no_serial2 (subst (λ f. IsSerial z f.serial) (one_fields r.octets f1 f2 is1.serial.0.fields well2.fields) is1.serial.1))
  one_of v w (differs f1 a1 is1 once1 not_digest1) (unknown_scheme f2 has2 other2) = absurd (other2 (subst (λ f. f.scheme ≡ 1) (one_fields r.octets f1 f2 is1.serial.0.fields has2.0.fields) is1.scheme))
  one_of v w (differs f1 a1 is1 once1 not_digest1) (unknown_algorithm f2 has2 simple2 none2) = absurd (none2 a1 (subst (λ f. f.algorithm ≡ number a1) (one_fields r.octets f1 f2 is1.serial.0.fields has2.0.fields) is1.algorithm))
  one_of v w (differs f1 a1 is1 once1 not_digest1) (repeated f2 a2 is2 again2) = absurd (once1 (subst (IsRepeated z r) (one_fields r.octets f2 f1 is2.serial.0.fields is1.serial.0.fields) again2))
  one_of v w (differs f1 a1 is1 once1 not_digest1) (differs f2 a2 is2 once2 not_digest2) = refl
  one_of v w (differs f1 a1 is1 once1 not_digest1) (verified f2 a2 is2 once2 digest2) = absurd (not_digest1 (subst (λ b. IsDigestOf z b f1.digest) (one_number a2 a1 (sym is2.algorithm ∙ ap (λ f. f.algorithm) (one_fields r.octets f2 f1 is2.serial.0.fields is1.serial.0.fields) ∙ is1.algorithm)) (subst (λ f. IsDigestOf z a2 f.digest) (one_fields r.octets f2 f1 is2.serial.0.fields is1.serial.0.fields) digest2)))
  one_of v w (verified f1 a1 is1 once1 digest1) (malformed n2) = absurd (n2 f1 is1.serial.0)
  one_of v w (verified f1 a1 is1 once1 digest1) (other_serial f2 well2 no_serial2) = absurd (no_serial2 (subst (λ f. IsSerial z f.serial) (one_fields r.octets f1 f2 is1.serial.0.fields well2.fields) is1.serial.1))
  one_of v w (verified f1 a1 is1 once1 digest1) (unknown_scheme f2 has2 other2) = absurd (other2 (subst (λ f. f.scheme ≡ 1) (one_fields r.octets f1 f2 is1.serial.0.fields has2.0.fields) is1.scheme))
  one_of v w (verified f1 a1 is1 once1 digest1) (unknown_algorithm f2 has2 simple2 none2) = absurd (none2 a1 (subst (λ f. f.algorithm ≡ number a1) (one_fields r.octets f1 f2 is1.serial.0.fields has2.0.fields) is1.algorithm))
  one_of v w (verified f1 a1 is1 once1 digest1) (repeated f2 a2 is2 again2) = absurd (once1 (subst (IsRepeated z r) (one_fields r.octets f2 f1 is2.serial.0.fields is1.serial.0.fields) again2))
  one_of v w (verified f1 a1 is1 once1 digest1) (differs f2 a2 is2 once2 not_digest2) = absurd (not_digest2 (subst (λ b. IsDigestOf z b f2.digest) (one_number a1 a2 (sym is1.algorithm ∙ ap (λ f. f.algorithm) (one_fields r.octets f1 f2 is1.serial.0.fields is2.serial.0.fields) ∙ is2.algorithm)) (subst (λ f. IsDigestOf z a1 f.digest) (one_fields r.octets f1 f2 is1.serial.0.fields is2.serial.0.fields) digest1)))
  one_of v w (verified f1 a1 is1 once1 digest1) (verified f2 a2 is2 once2 digest2) = refl

pub one_verdict : (z : Zone) (r : Record) (v w : Verdict) → IsVerdictOn z r v → IsVerdictOn z r w → v ≡ w
one_verdict z r v w is iz = one_of z r v w is iz
