-- A verdict depends on the apex and the set of records alone.
use Rattle.std.proofs.Common.{◌≡◌, ◌↔◌, ◌∙◌, sym, subst}
use Rattle.zone_name.specs.Common.{Octets}
use Rattle.zone_rdata.specs.Record.{Record}
use Rattle.zone_set.specs.Zone.{SameRecords, Zone}
use Rattle.zone_digest.specs.Digest.{IsDigested, IsLeftOut}
use Rattle.zone_digest.specs.Verdict.{differs, Fields, IsDigestOf, IsRepeated, IsSerial, IsSupported, IsVerdictOn, malformed, other_serial, repeated, unknown_algorithm, unknown_scheme, verified}
use Rattle.zone_digest.specs.declared.algorithm.Algorithm.{Algorithm}
use Rattle.zone_digest.specs.declared.verdict.Verdict.{Verdict}
use Rattle.zone_digest.proofs.OneDigest.{same_digest}

abbrev AreOne : Zone → Zone → Type 0
AreOne z w = (z.apex ≡ w.apex) × SameRecords z.records w.records

flipped : (z w : Zone) → AreOne z w → AreOne w z
flipped z w (apex, same) = (sym apex, λ r. ((same r).1, (same r).0))

serial_to : (z w : Zone) → AreOne z w → (serial : Octets) → IsSerial z serial → IsSerial w serial
serial_to z w (apex, same) serial s = record { soa = s.soa; has = (same s.soa).0 s.has; kind = s.kind; front = s.front; back = s.back; parts = s.parts; len = s.len; others = s.others }

repeated_to : (z w : Zone) → AreOne z w → (r : Record) (f : Fields) → IsRepeated z r f → IsRepeated w r f
repeated_to z w (apex, same) r f s = record {
  other = s.other;
  zonemd = record { has = (same s.other).0 s.zonemd.has; owner = s.zonemd.owner ∙ apex; kind = s.zonemd.kind };
  differs = s.differs;
  fields = s.fields;
  parts = s.parts;
  scheme = s.scheme;
  algorithm = s.algorithm;
}

digested_to : (z w : Zone) → AreOne z w → (low : Record) → IsDigested z low → IsDigested w low
digested_to z w (apex, same) low (r, has, kept, is) = (r, (same r).0 has, λ out. kept (subst (λ o. IsLeftOut o r) (sym apex) out), is)

digest_to : (z w : Zone) → AreOne z w → (a : Algorithm) (octets : Octets) → IsDigestOf z a octets → IsDigestOf w a octets
digest_to z w one a octets (d, is, same) =
    (d, same_digest z w a d (λ r. (digested_to z w one r, digested_to w z (flipped z w one) r)) is, same)

supported_to : (z w : Zone) → AreOne z w → (r : Record) (f : Fields) (a : Algorithm) → IsSupported z r f a → IsSupported w r f a
supported_to z w one r f a s = record { serial = (s.serial.0, serial_to z w one f.serial s.serial.1); scheme = s.scheme; algorithm = s.algorithm }

carried : (z w : Zone) → AreOne z w → (r : Record) (v : Verdict) → IsVerdictOn z r v → IsVerdictOn w r v
carried z w one r v (malformed never) = malformed never
carried z w one r v (other_serial f well never) = other_serial f well (λ s. never (serial_to w z (flipped z w one) f.serial s))
carried z w one r v (unknown_scheme f has other) = unknown_scheme f (has.0, serial_to z w one f.serial has.1) other
carried z w one r v (unknown_algorithm f has simple none) = unknown_algorithm f (has.0, serial_to z w one f.serial has.1) simple none
carried z w one r v (repeated f a is again) = repeated f a (supported_to z w one r f a is) (repeated_to z w one r f again)
carried z w one r v (differs f a is once never) = differs f a (supported_to z w one r f a is) (λ again. once (repeated_to w z (flipped z w one) r f again)) (λ d. never (digest_to w z (flipped z w one) a f.digest d))
carried z w one r v (verified f a is once d) = verified f a (supported_to z w one r f a is) (λ again. once (repeated_to w z (flipped z w one) r f again)) (digest_to z w one a f.digest d)

pub same_verdict : (z w : Zone) (r : Record) (v : Verdict) → z.apex ≡ w.apex → SameRecords z.records w.records → IsVerdictOn z r v ↔ IsVerdictOn w r v
same_verdict z w r v apex same = (carried z w (apex, same) r v, carried w z (flipped z w (apex, same)) r v)
