-- A zone has one serial, one list of findings, and wants one record by a hash algorithm.
use Rattle.zone_set.proofs.Common.{[], ◌≡◌, ℕ, List, ◌∷◌, ◌++◌, ◌+◌, length, length-append, sym, ap, ap₂, ◌∙◌, subst, arith, Ascends, IsZone, Record, canonical_cmp}
use Rattle.std.specs.List.{AllZip}
use Rattle.zone_name.specs.Common.{Octets}
use Rattle.zone_rdata.proofs.Octets.Sent.{append_same}
use Rattle.zone_set.proofs.Ordering.Ascending as Ascending
use Rattle.zone_set.proofs.Ordering.SetOrder.{canonical_total}
use Rattle.zone_set.specs.Zone.{Zone}
use Rattle.zone_digest.specs.Findings.{AreFindings, IsFinding}
use Rattle.zone_digest.specs.Laws.{TellTheSame}
use Rattle.zone_digest.specs.Verdict.{AreZonemds, IsSerial, digest_octets, number}
use Rattle.zone_digest.specs.Wanted.{IsTtlFor, IsWanted, of_soa, of_zonemd}
use Rattle.zone_digest.specs.declared.algorithm.Algorithm.{Algorithm}
use Rattle.zone_digest.specs.declared.verdict.Finding.{Finding}
use Rattle.zone_digest.proofs.OneDigest.{one_digest}
use Rattle.zone_digest.proofs.OneVerdict.{one_verdict}
use Rattle.zone_digest.proofs.Sets.{record_same}
use Rattle.zone_digest.proofs.Zonemds.{one_ttl}

-- ---- the serial
front_len : (octets front serial back : List ℕ) → octets ≡ front ++ (serial ++ back) → length serial ≡ 4 → length back ≡ 16 → length octets ≡ length front + 20
front_len octets front serial back parts len others = omega (arith, ap length parts, length-append front (serial ++ back), length-append serial back, len, others)

pub one_serial : (z : Zone) → IsZone z → (s t : Octets) → IsSerial z s → IsSerial z t → s ≡ t
one_serial z is s t a b =
    let same : a.soa ≡ b.soa = is.compatible.one_soa a.soa b.soa a.has b.has a.kind b.kind in
    let parts : a.front ++ (s ++ a.back) ≡ b.front ++ (t ++ b.back) = sym a.parts ∙ ap (λ r. r.octets) same ∙ b.parts in
    let long = ap (λ r. length r.octets) same in
    let fronts : length a.front ≡ length b.front = omega (arith, front_len a.soa.octets a.front s a.back a.parts a.len a.others, front_len b.soa.octets b.front t b.back b.parts b.len b.others, long) in
    let cut = append_same a.front b.front (s ++ a.back) (t ++ b.back) fronts parts in
    (append_same s t a.back b.back (a.len ∙ sym b.len) cut.1).0

-- ---- findings
same_findings : (z : Zone) (records : List Record) (findings others : List Finding) → AllZip (IsFinding z) records findings → AllZip (IsFinding z) records others → TellTheSame findings others
same_findings z [] [] [] all each = tt
same_findings z [] [] (g ∷ others) all each = absurd each
same_findings z [] (f ∷ findings) others all each = absurd all
same_findings z (r ∷ records) [] others all each = absurd all
same_findings z (r ∷ records) (f ∷ findings) [] all each = absurd each
same_findings z (r ∷ records) (f ∷ findings) (g ∷ others) all each =
    ((all.0.same ∙ sym each.0.same, one_verdict z r f.verdict g.verdict all.0.verdict each.0.verdict), same_findings z records findings others all.1 each.1)

one_list : (z : Zone) (rs ss : List Record) → AreZonemds z rs → AreZonemds z ss → rs ≡ ss
one_list z rs ss one two = Ascending.one_ascending canonical_cmp canonical_total Ascends (λ r records up. up) rs ss one.ascend two.ascend (λ r. (λ has. (two.same r).1 ((one.same r).0 has), λ has. (one.same r).1 ((two.same r).0 has)))

pub one_findings : (z : Zone) (findings others : List Finding) → AreFindings z findings → AreFindings z others → TellTheSame findings others
one_findings z findings others one two =
    same_findings z one.records findings others one.each (subst (λ rs. AllZip (IsFinding z) rs others) (sym (one_list z one.records two.records one.zonemds two.zonemds)) two.each)

-- ---- the record that is wanted
same_ttl : (z : Zone) (s t : ℕ) → IsZone z → IsTtlFor z s → IsTtlFor z t → s ≡ t
same_ttl z _ _ is (of_zonemd r zonemd) (of_zonemd s other) = one_ttl z r s is zonemd other
same_ttl z _ _ is (of_zonemd r zonemd) (of_soa soa has kind none) = absurd (none r zonemd)
same_ttl z _ _ is (of_soa soa has kind none) (of_zonemd r zonemd) = absurd (none r zonemd)
same_ttl z _ _ is (of_soa soa has kind none) (of_soa other there soa_too nor) = ap (λ r. r.ttl) (is.compatible.one_soa soa other has there kind soa_too)

pub one_wanted : (z : Zone) (a : Algorithm) → IsZone z → (r s : Record) → IsWanted z a r → IsWanted z a s → r ≡ s
one_wanted z a is r s one two =
    let serial = one_serial z is one.states.serial two.states.serial one.states.is_serial two.states.is_serial in
    let digest = one_digest z a one.states.digest two.states.digest one.states.is_digest two.states.is_digest in
    record_same s r (one.states.owner ∙ sym two.states.owner) (one.class ∙ sym two.class) (one.states.kind ∙ sym two.states.kind) (same_ttl z r.ttl s.ttl is one.ttl two.ttl)
    (one.states.octets ∙ ap₂ (λ t d. t ++ 1 ∷ number a ∷ digest_octets d) serial digest ∙ sym two.states.octets)
