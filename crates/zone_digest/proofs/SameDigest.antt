-- What a digest doesn't depend on, and the record that states it.
use Rattle.zone_rdata.proofs.Common.{[], ◌≡◌, ◌≢◌, ◌≤◌, List, ◌∷◌, length, take, refl, sym, ap, ◌∙◌, subst, arith, ◌↔◌}
use Rattle.std.proofs.Common.{inl, inr, ⊎_elim}
use Rattle.std.specs.List.{AllZip}
use Rattle.sha2.proofs.Facts512.{length-sha384, length-sha512}
use Rattle.zone_name.specs.Common.{Labels, Octets}
use Rattle.zone_rdata.specs.Record.{Record}
use Rattle.zone_set.specs.Zone.{Has, Zone}
use Rattle.zone_digest.specs.Digest.{IsDigest, IsDigested, IsLeftOut, IsLoweredRecord}
use Rattle.zone_digest.specs.Findings.{AreFindings, IsFinding}
use Rattle.zone_digest.specs.Laws.{AreOfOneForm, DifferInLeftOut, DifferInLetters, HasNoPair, HasOneMore, TellsVerified}
use Rattle.zone_digest.specs.Wanted.{StatesDigest}
use Rattle.data_names.specs.NamesInData.{IsLowered, names_of}
use Rattle.zone_digest.specs.Verdict.{digest_octets, digest_size, Fields, IsSerial, IsVerdictOn, IsVerified, IsWellFormed, IsZonemd, number, verified}
use Rattle.zone_digest.specs.declared.algorithm.Algorithm.{Algorithm}
use Rattle.zone_digest.specs.declared.algorithm.Algorithm.TheVariants.{Sha384, Sha512}
use Rattle.zone_digest.specs.declared.algorithm.ZoneDigest.{ZoneDigest}
use Rattle.zone_digest.specs.declared.verdict.Finding.{Finding}
use Rattle.zone_digest.specs.declared.verdict.Verdict.TheVariants.{Verified}
use Rattle.zone_digest.proofs.FieldsOf.{one_number}
use Rattle.data_names.proofs.Once.{lowered_once, two_kept}
use Rattle.zone_digest.proofs.OneDigest.{same_digest}
use Rattle.zone_digest.proofs.OneVerdict.{one_verdict}
use Rattle.zone_digest.proofs.Sets.{record_same}

-- ---- letters
pub one_form : (r l m : Record) → IsLoweredRecord r l → IsLoweredRecord r m → m ≡ l
one_form r l m is iz = record_same l m (iz.owner ∙ sym is.owner) (iz.class ∙ sym is.class) (iz.kind ∙ sym is.kind) (iz.ttl ∙ sym is.ttl) (lowered_once (names_of r.kind r.octets) r.octets m.octets l.octets iz.octets is.octets)

two_of : (r l : Record) → IsLoweredRecord r l → r.kind ≡ 46 → take 2 l.octets ≡ take 2 r.octets
two_of r l is kind = two_kept r.octets l.octets (subst (λ k. IsLowered (names_of k r.octets) r.octets l.octets) kind is.octets)

-- records of one form are left out together
left_out_too : (apex other : Labels) (r s : Record) → apex ≡ other → AreOfOneForm r s → IsLeftOut other s → IsLeftOut apex r
left_out_too apex other r s same (l, is, iz) (owner, why) =
    let kinds : r.kind ≡ s.kind = sym is.kind ∙ iz.kind in
    (sym is.owner ∙ iz.owner ∙ owner ∙ sym same, ⊎_elim (λ zonemd. inl (kinds ∙ zonemd)) (λ covers. inr (kinds ∙ covers.0, sym (two_of r l is (kinds ∙ covers.0)) ∙ two_of s l iz covers.0 ∙ covers.1)) why)

turned : (r s : Record) → AreOfOneForm r s → AreOfOneForm s r
turned r s (l, is, iz) = (l, iz, is)

digested_too : (z w : Zone) → DifferInLetters z w → (low : Record) → IsDigested z low → IsDigested w low
digested_too z w d low (r, has, kept, is) =
    let f = d.there r has in
    (f.0, f.1, λ out. kept (left_out_too z.apex w.apex r f.0 d.apex f.2 out), subst (IsLoweredRecord f.0) (sym (one_form r f.2.0 low f.2.1 is)) f.2.2)

other_way : (z w : Zone) → DifferInLetters z w → DifferInLetters w z
other_way z w d = record {
  apex = sym d.apex;
  there = λ s has. (let f = d.back s has in (f.0, f.1, turned f.0 s f.2));
  back = λ r has. (let f = d.there r has in (f.0, f.1, turned r f.0 f.2));
}

pub same_in_letters : (z w : Zone) (a : Algorithm) (d : ZoneDigest) → DifferInLetters z w → IsDigest z a d ↔ IsDigest w a d
same_in_letters z w a d differ = (
  same_digest z w a d (λ r. (digested_too z w differ r, digested_too w z (other_way z w differ) r)),
  same_digest w z a d (λ r. (digested_too w z (other_way z w differ) r, digested_too z w differ r)),
)

-- ---- records that are left out
kept_too : (z w : Zone) → z.apex ≡ w.apex → ((r : Record) → (IsLeftOut z.apex r → ⊥) → Has z.records r → Has w.records r) → (low : Record) → IsDigested z low → IsDigested w low
kept_too z w apex there low (r, has, kept, is) = (r, there r kept has, λ out. kept (subst (λ o. IsLeftOut o r) (sym apex) out), is)

both_kept : (z w : Zone) → DifferInLeftOut z w → (r : Record) → IsDigested z r ↔ IsDigested w r
both_kept z w d r = (
  kept_too z w d.apex (λ s kept has. (d.same s kept).0 has) r,
  kept_too w z (sym d.apex) (λ s kept has. (d.same s (λ out. kept (subst (λ o. IsLeftOut o s) d.apex out))).1 has) r,
)

pub same_but_left_out : (z w : Zone) (a : Algorithm) (d : ZoneDigest) → DifferInLeftOut z w → IsDigest z a d ↔ IsDigest w a d
same_but_left_out z w a d differ = (
  same_digest z w a d (both_kept z w differ),
  same_digest w z a d (λ r. ((both_kept z w differ r).1, (both_kept z w differ r).0)),
)

-- ---- the record that states a digest
pub size_of : (z : Zone) (a : Algorithm) (d : ZoneDigest) → IsDigest z a d → length (digest_octets d) ≡ digest_size a
size_of z Sha384 d (m, made, is) = ap (λ e. length (digest_octets e)) is ∙ length-sha384 m
size_of z Sha512 d (m, made, is) = ap (λ e. length (digest_octets e)) is ∙ length-sha512 m

long_of : (a : Algorithm) → 12 ≤ digest_size a
long_of Sha384 = omega arith
long_of Sha512 = omega arith

one_more_left_out : (z w : Zone) (r : Record) → r.owner ≡ z.apex → r.kind ≡ 63 → HasOneMore z r w → DifferInLeftOut z w
one_more_left_out z w r owner kind more = record {
  apex = sym more.apex;
  same = λ s kept. (
    λ has. (more.same s).1 (inr has),
    λ has. ⊎_elim (λ same. absurd (kept (ap (λ t. t.owner) same ∙ owner, inl (ap (λ t. t.kind) same ∙ kind)))) (λ h. h) ((more.same s).0 has),
  );
}

well_stated : (z : Zone) (a : Algorithm) (r : Record) (s : StatesDigest z a r) → IsWellFormed r.octets (record { serial = s.serial; scheme = 1; algorithm = number a; digest = digest_octets s.digest })
well_stated z a r s = record {
  fields = record { serial = s.is_serial.len; parts = s.octets };
  long = subst (λ n. 12 ≤ n) (sym (size_of z a s.digest s.is_digest)) (long_of a);
  size = λ b simple same. size_of z a s.digest s.is_digest ∙ ap digest_size (one_number a b same);
}

serial_too : (z w : Zone) (r : Record) (serial : Octets) → HasOneMore z r w → IsSerial z serial → IsSerial w serial
serial_too z w r serial more s = record { soa = s.soa; has = (more.same s.soa).1 (inr s.has); kind = s.kind; front = s.front; back = s.back; parts = s.parts; len = s.len; others = s.others }

pub stated_is_verified : (z w : Zone) (r : Record) (a : Algorithm) → StatesDigest z a r → HasNoPair z a → HasOneMore z r w → IsVerdictOn w r Verified
stated_is_verified z w r a s none more =
    let f : Fields = record { serial = s.serial; scheme = 1; algorithm = number a; digest = digest_octets s.digest } in
    verified f a
    (record { serial = (well_stated z a r s, serial_too z w r s.serial more s.is_serial); scheme = refl; algorithm = refl })
    (λ again. none again.other again.fields (in_old again.other again.zonemd again.differs) again.parts again.scheme again.algorithm)
    (s.digest, (same_but_left_out z w a s.digest (one_more_left_out z w r s.owner s.kind more)).0 s.is_digest, refl)
  where
    in_old : (o : Record) → IsZonemd w o → o ≢ r → IsZonemd z o
    in_old o zonemd differs = record { has = ⊎_elim (λ same. absurd (differs same)) (λ h. h) ((more.same o).0 zonemd.has); owner = zonemd.owner ∙ more.apex; kind = zonemd.kind }

-- ---- whether a zone is verified
told_one : (z : Zone) (records : List Record) (findings : List Finding) → AllZip (IsFinding z) records findings → TellsVerified findings → (r : Record) × Has records r × IsVerdictOn z r Verified
told_one z [] [] all told = absurd told
told_one z [] (f ∷ findings) all told = absurd all
told_one z (r ∷ records) [] all told = absurd all
told_one z (r ∷ records) (f ∷ findings) all (inl is) = (r, inl refl, subst (IsVerdictOn z r) is all.0.verdict)
told_one z (r ∷ records) (f ∷ findings) all (inr more) = let on = told_one z records findings all.1 more in (on.0, inr on.1, on.2)

one_told : (z : Zone) (records : List Record) (findings : List Finding) (r : Record) → AllZip (IsFinding z) records findings → Has records r → IsVerdictOn z r Verified → TellsVerified findings
one_told z [] [] r all has is = absurd has
one_told z [] (f ∷ findings) r all has is = absurd all
one_told z (s ∷ records) [] r all has is = absurd all
one_told z (s ∷ records) (f ∷ findings) r all (inl same) is = inl (one_verdict z s f.verdict Verified all.0.verdict (subst (λ t. IsVerdictOn z t Verified) same is))
one_told z (s ∷ records) (f ∷ findings) r all (inr more) is = inr (one_told z records findings r all.1 more is)

pub told_verified : (z : Zone) (findings : List Finding) → AreFindings z findings → TellsVerified findings ↔ IsVerified z
told_verified z findings found = (
  λ told. (let on = told_one z found.records findings found.each told in (on.0, (found.zonemds.same on.0).0 on.1, on.2)),
  λ is. one_told z found.records findings is.0 found.each ((found.zonemds.same is.0).1 is.1) is.2,
)
