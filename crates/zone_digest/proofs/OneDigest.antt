-- A zone has one digest of each algorithm.
use Rattle.zone_set.proofs.Common.{◌≡◌, List, sym, ap, ◌∙◌, ◌↔◌, Record}
use Rattle.zone_set.proofs.Ordering.Ascending as Ascending
use Rattle.zone_set.specs.Zone.{Zone, SameRecords}
use Rattle.zone_digest.specs.Digest.{AreDigested, AscendsByOwner, digest_cmp, hashed, IsDigest, IsDigested, record_octets}
use Rattle.zone_digest.specs.declared.algorithm.Algorithm.{Algorithm}
use Rattle.zone_digest.specs.declared.algorithm.ZoneDigest.{ZoneDigest}
use Rattle.std.specs.List.{flat_map}
use Rattle.zone_digest.proofs.Soa.{digest_total}

one_ascending : (records others : List Record) → AscendsByOwner records → AscendsByOwner others → SameRecords records others → records ≡ others
one_ascending = Ascending.one_ascending digest_cmp digest_total AscendsByOwner (λ r records up. up)

pub one_digested : (z : Zone) (rs ss : List Record) → AreDigested z rs → AreDigested z ss → rs ≡ ss
one_digested z rs ss one two = one_ascending rs ss one.ascend two.ascend (λ r. (λ has. (two.same r).1 ((one.same r).0 has), λ has. (one.same r).1 ((two.same r).0 has)))

pub one_digest : (z : Zone) (a : Algorithm) (d e : ZoneDigest) → IsDigest z a d → IsDigest z a e → d ≡ e
one_digest z a d e (m, (rs, is, made), hash) (n, (ss, iz, other), hashes) =
    let same : m ≡ n = made ∙ ap (flat_map record_octets) (one_digested z rs ss is iz) ∙ sym other in
    hash ∙ ap (hashed a) same ∙ sym hashes

-- zones whose records have the same canonical forms have the same digests
pub same_digest : (z w : Zone) (a : Algorithm) (d : ZoneDigest) → ((r : Record) → IsDigested z r ↔ IsDigested w r) → IsDigest z a d → IsDigest w a d
same_digest z w a d same (m, (rs, is, made), hash) =
    (m, (rs, record { ascend = is.ascend; same = λ r. (λ has. (same r).0 ((is.same r).0 has), λ from. (is.same r).1 ((same r).1 from)) }, made), hash)
