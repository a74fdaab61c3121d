-- Each ZONEMD record at the apex of a zone has a verdict.
use Rattle.zone_set.proofs.Common.{[], ◌≡◌, ◌≢◌, ℕ, ◌≤◌, ◌-◌, List, ◌∷◌, length, length-append, drop, take, refl, sym, ap, ◌∙◌, subst, arith, inl, inr, ⊎_elim, Has, IsZone, Record, bytes_decides}
use Rattle.std.proofs.lemmas.Bool.{le-leb, leb-true}
use Rattle.std.proofs.Math.Dec.{leb}
use Rattle.std.proofs.lemmas.Bool.Decides.{Decides-eqb}
use Rattle.std.specs.Cmp.Lexicographic.{pointwise_decides}
use Rattle.zone_name.specs.Common.{Octets}
use Rattle.zone_set.proofs.Holding.Together.{each_Has}
use Rattle.zone_set.specs.Zone.{Zone}
use Rattle.zone_digest.specs.Verdict.{Fields, HasFields, IsDigestOf, IsRepeated, IsSerial, IsSupported, IsVerdictOn, IsWellFormed, IsZonemd, differs, digest_octets, digest_size, malformed, number, other_serial, repeated, unknown_algorithm, unknown_scheme, verified}
use Rattle.zone_digest.specs.declared.algorithm.Algorithm.{Algorithm}
use Rattle.zone_digest.specs.declared.algorithm.Algorithm.TheVariants.{Sha384, Sha512}
use Rattle.zone_digest.specs.declared.verdict.Verdict.{Verdict}
use Rattle.zone_digest.specs.declared.verdict.Verdict.TheVariants as verdicts
use Rattle.zone_digest.proofs.FieldsOf.{one_fields, one_number}
use Rattle.zone_digest.proofs.OneDigest.{one_digest}
use Rattle.zone_digest.proofs.Sets.{record_same}
use Rattle.zone_digest.proofs.SoaNumbers.{soa_numbers}
use Rattle.zone_digest.proofs.SomeDigest.{some_digest}
use Rattle.zone_digest.proofs.Zonemds.{one_ttl, the_serial}
use Rattle.zone_rdata.proofs.Choices.{Decided, tested_or_not}
use Rattle.zone_rdata.proofs.Words.OneWord.{same_or_not}

-- what is settled of one thing is so of another that holds exactly then
carried : {P Q : Type 0} → (P → Q) → (Q → P) → Decided P → Decided Q
carried there back (inl p) = inl (there p)
carried there back (inr never) = inr (λ q. never (back q))

-- ---- fields
long_of : (octets : List ℕ) (f : Fields) → HasFields octets f → 6 ≤ length octets
long_of octets f h = omega (arith, ap length h.parts, length-append f.serial (f.scheme ∷ f.algorithm ∷ f.digest), h.serial)

too_short : (octets : List ℕ) → (6 ≤ length octets → ⊥) → Decided ((f : Fields) × HasFields octets f)
too_short octets short = inr (λ h. short (long_of octets h.0 h.1))

fields_at : (octets : List ℕ) → Decided ((f : Fields) × HasFields octets f)
fields_at [] = too_short [] (λ long. omega (arith, long))
fields_at (a ∷ []) = too_short (a ∷ []) (λ long. omega (arith, long))
fields_at (a ∷ b ∷ []) = too_short (a ∷ b ∷ []) (λ long. omega (arith, long))
fields_at (a ∷ b ∷ c ∷ []) = too_short (a ∷ b ∷ c ∷ []) (λ long. omega (arith, long))
fields_at (a ∷ b ∷ c ∷ d ∷ []) = too_short (a ∷ b ∷ c ∷ d ∷ []) (λ long. omega (arith, long))
fields_at (a ∷ b ∷ c ∷ d ∷ e ∷ []) = too_short (a ∷ b ∷ c ∷ d ∷ e ∷ []) (λ long. omega (arith, long))
fields_at (a ∷ b ∷ c ∷ d ∷ scheme ∷ algorithm ∷ digest) =
    inl (record { serial = a ∷ b ∷ c ∷ d ∷ []; scheme = scheme; algorithm = algorithm; digest = digest }, record { serial = refl; parts = refl })

numbered : (n : ℕ) → Decided ((a : Algorithm) × (n ≡ number a))
numbered n = one (tested_or_not _ (Decides-eqb n 1)) (tested_or_not _ (Decides-eqb n 2))
  where
    none : (n ≢ 1) → (n ≢ 2) → (a : Algorithm) → n ≡ number a → ⊥
    none first second Sha384 is = first is
    none first second Sha512 is = second is

    one : Decided (n ≡ 1) → Decided (n ≡ 2) → Decided ((a : Algorithm) × (n ≡ number a))
    one (inl is) other = inl (Sha384, is)
    one (inr first) (inl is) = inl (Sha512, is)
    one (inr first) (inr second) = inr (λ h. none first second h.0 h.1)

abbrev HasItsSize : Fields → Type 0
HasItsSize f = (a : Algorithm) → f.scheme ≡ 1 → f.algorithm ≡ number a → length f.digest ≡ digest_size a

sized : (f : Fields) → Decided (HasItsSize f)
sized f = by (tested_or_not _ (Decides-eqb f.scheme 1)) (numbered f.algorithm)
  where
    as_long : (a : Algorithm) → f.scheme ≡ 1 → f.algorithm ≡ number a → Decided (length f.digest ≡ digest_size a) → Decided (HasItsSize f)
    as_long a simple is (inl same) = inl (λ b again iz. same ∙ ap digest_size (one_number a b (sym is ∙ iz)))
    as_long a simple is (inr other) = inr (λ each. other (each a simple is))

    by : Decided (f.scheme ≡ 1) → Decided ((a : Algorithm) × (f.algorithm ≡ number a)) → Decided (HasItsSize f)
    by (inr other) known = inl (λ a simple is. absurd (other simple))
    by (inl simple) (inr none) = inl (λ a again is. absurd (none (a, is)))
    by (inl simple) (inl (a, is)) = as_long a simple is (tested_or_not _ (Decides-eqb (length f.digest) (digest_size a)))

formed : (octets : List ℕ) → Decided ((f : Fields) × IsWellFormed octets f)
formed octets = by (fields_at octets)
  where
    whole : (f : Fields) → HasFields octets f → Decided (12 ≤ length f.digest) → Decided (HasItsSize f) → Decided ((g : Fields) × IsWellFormed octets g)
    whole f has (inl long) (inl size) = inl (f, record { fields = has; long = long; size = size })
    whole f has (inr short) size = inr (λ w. short (subst (λ g. 12 ≤ length g.digest) (one_fields octets w.0 f w.1.fields has) w.1.long))
    whole f has (inl long) (inr other) = inr (λ w. other (subst HasItsSize (one_fields octets w.0 f w.1.fields has) w.1.size))

    by : Decided ((f : Fields) × HasFields octets f) → Decided ((f : Fields) × IsWellFormed octets f)
    by (inr none) = inr (λ w. none (w.0, w.1.fields))
    by (inl (f, has)) = whole f has (tested_or_not (leb 12 (length f.digest)) (leb-true 12 (length f.digest), le-leb 12 (length f.digest))) (sized f)

-- a record's fields are those of the pair
abbrev HasPairOf : Fields → Octets → Type 0
HasPairOf f octets = (g : Fields) × HasFields octets g × (g.scheme ≡ f.scheme) × (g.algorithm ≡ f.algorithm)

paired : (f : Fields) (octets : List ℕ) → Decided (HasPairOf f octets)
paired f octets = by (fields_at octets)
  where
    same : (g : Fields) → HasFields octets g → Decided (g.scheme ≡ f.scheme) → Decided (g.algorithm ≡ f.algorithm) → Decided (HasPairOf f octets)
    same g has (inl one) (inl two) = inl (g, has, one, two)
    same g has (inr never) two = inr (λ h. never (subst (λ x. x.scheme ≡ f.scheme) (one_fields octets h.0 g h.1 has) h.2))
    same g has (inl one) (inr never) = inr (λ h. never (subst (λ x. x.algorithm ≡ f.algorithm) (one_fields octets h.0 g h.1 has) h.3))

    by : Decided ((g : Fields) × HasFields octets g) → Decided (HasPairOf f octets)
    by (inr none) = inr (λ h. none (h.0, h.1))
    by (inl (g, has)) = same g has (tested_or_not _ (Decides-eqb g.scheme f.scheme)) (tested_or_not _ (Decides-eqb g.algorithm f.algorithm))

module _ (z : Zone) (is : IsZone z) where
  -- ---- the serial
  serial_by : (records : List Record) → z.records ≡ records → (serial : Octets) → Decided (IsSerial z serial)
  serial_by [] known serial = absurd (subst (λ rs. Has rs is.soa.0) known is.soa.1)
  serial_by (first ∷ others) known serial =
      let numbers = drop (length first.octets - 20) first.octets in
      let told = the_serial z is first others known numbers (take 4 numbers) (soa_numbers z is first others known) refl refl serial in
      carried told.1 told.0 (same_or_not serial (take 4 numbers))

  -- ---- another record
  module _ (r : Record) (f : Fields) where
    abbrev IsLike : Record → Type 0
    IsLike s = (s.owner ≡ z.apex) × (s.kind ≡ 63) × (s.octets ≢ r.octets) × HasPairOf f s.octets

    like : (s : Record) → Decided (IsLike s)
    like s = by (tested_or_not _ (pointwise_decides bytes_decides s.owner z.apex)) (tested_or_not _ (Decides-eqb s.kind 63)) (same_or_not s.octets r.octets) (paired f s.octets)
      where
        by : Decided (s.owner ≡ z.apex) → Decided (s.kind ≡ 63) → Decided (s.octets ≡ r.octets) → Decided (HasPairOf f s.octets) → Decided (IsLike s)
        by (inl a) (inl b) (inr c) (inl d) = inl (a, b, c, d)
        by (inr never) b c d = inr (λ h. never h.0)
        by (inl a) (inr never) c d = inr (λ h. never h.1)
        by (inl a) (inl b) (inl same) d = inr (λ h. h.2 same)
        by (inl a) (inl b) (inr c) (inr never) = inr (λ h. never h.3)

    one_like : (x : Record) (rs : List Record) → Decided (IsLike x) → Decided ((s : Record) × Has rs s × IsLike s) → Decided ((s : Record) × Has (x ∷ rs) s × IsLike s)
    one_like x rs (inl is_like) more = inl (x, inl refl, is_like)
    one_like x rs (inr never) (inl (s, has, is_like)) = inl (s, inr has, is_like)
    one_like x rs (inr never) (inr none) = inr (λ h. ⊎_elim (λ e. never (subst IsLike e h.2)) (λ has. none (h.0, has, h.2)) h.1)

    some_like : (rs : List Record) → Decided ((s : Record) × Has rs s × IsLike s)
    some_like [] = inr (λ h. absurd h.1)
    some_like (x ∷ rs) = one_like x rs (like x) (some_like rs)

    own_class : (s : Record) → Has z.records s → s.class ≡ z.class
    own_class s has = each_Has (λ t. t.class ≡ z.class) z.records s is.class has

    -- ZONEMD records at the apex that have the same data are the same
    by_data : IsZonemd z r → (s : Record) → IsZonemd z s → s.octets ≡ r.octets → s ≡ r
    by_data zonemd s other same = record_same r s (other.owner ∙ sym zonemd.owner) (own_class s other.has ∙ sym (own_class r zonemd.has)) (other.kind ∙ sym zonemd.kind) (one_ttl z s r is other zonemd) same

    is_repeated : IsZonemd z r → Decided (IsRepeated z r f)
    is_repeated zonemd = carried there back (some_like z.records)
      where
        there : ((s : Record) × Has z.records s × IsLike s) → IsRepeated z r f
        there (s, has, (owner, kind, other, (g, parts, scheme, algorithm))) = record {
          other = s;
          zonemd = record { has = has; owner = owner; kind = kind };
          differs = λ same. other (ap (λ t. t.octets) same);
          fields = g;
          parts = parts;
          scheme = scheme;
          algorithm = algorithm;
        }

        back : IsRepeated z r f → (s : Record) × Has z.records s × IsLike s
        back again = (again.other, again.zonemd.has, (again.zonemd.owner, again.zonemd.kind, (λ same. again.differs (by_data zonemd again.other again.zonemd same)), (again.fields, again.parts, again.scheme, again.algorithm)))

  -- ---- the digest
  is_digest : (a : Algorithm) (octets : Octets) → Decided (IsDigestOf z a octets)
  is_digest a octets =
      let own = some_digest z is a in
      carried {P = octets ≡ digest_octets own.0} (λ same. (own.0, own.1, same)) (λ d. d.2 ∙ ap digest_octets (one_digest z a d.0 own.0 d.1 own.1)) (same_or_not octets (digest_octets own.0))

  -- ---- the verdict
  module _ (r : Record) (zonemd : IsZonemd z r) where
    abbrev HasVerdict : Type 0
    HasVerdict = (v : Verdict) × IsVerdictOn z r v

    by_digest : (f : Fields) (a : Algorithm) → IsSupported z r f a → Decided (IsRepeated z r f) → Decided (IsDigestOf z a f.digest) → HasVerdict
    by_digest f a is_supported (inl again) digest = (verdicts.Repeated, repeated f a is_supported again)
    by_digest f a is_supported (inr once) (inl digest) = (verdicts.Verified, verified f a is_supported once digest)
    by_digest f a is_supported (inr once) (inr other) = (verdicts.Differs, differs f a is_supported once other)

    by_pair : (f : Fields) → IsWellFormed r.octets f → IsSerial z f.serial → Decided (f.scheme ≡ 1) → Decided ((a : Algorithm) × (f.algorithm ≡ number a)) → HasVerdict
    by_pair f well serial (inr other) known = (verdicts.UnknownScheme, unknown_scheme f (well, serial) other)
    by_pair f well serial (inl simple) (inr none) = (verdicts.UnknownAlgorithm, unknown_algorithm f (well, serial) simple (λ a same. none (a, same)))
    by_pair f well serial (inl simple) (inl (a, known)) = by_digest f a (record { serial = (well, serial); scheme = simple; algorithm = known }) (is_repeated r f zonemd) (is_digest a f.digest)

    by_serial : (f : Fields) → IsWellFormed r.octets f → Decided (IsSerial z f.serial) → HasVerdict
    by_serial f well (inr other) = (verdicts.OtherSerial, other_serial f well other)
    by_serial f well (inl serial) = by_pair f well serial (tested_or_not _ (Decides-eqb f.scheme 1)) (numbered f.algorithm)

    by_form : Decided ((f : Fields) × IsWellFormed r.octets f) → HasVerdict
    by_form (inr none) = (verdicts.Malformed, malformed (λ f well. none (f, well)))
    by_form (inl (f, well)) = by_serial f well (serial_by z.records refl f.serial)

    pub some_verdict : HasVerdict
    some_verdict = by_form (formed r.octets)
