-- Data has one reading as fields.
use Rattle.zone_rdata.proofs.Common.{[], ◌≡◌, ◌≢◌, ℕ, ◌+◌, ◌<◌, List, ◌∷◌, ◌++◌, length, refl, sym, ap, ◌∙◌, subst, arith, ◌↔◌, take, map}
use Rattle.std.proofs.Common.{Bool, IsTrue, get_or, suc, zero, inl, inr, ⊎_elim, ◌⊎◌}
use Rattle.zone_rdata.proofs.Octets.Sent.{append_same}
use Rattle.zone_rdata.specs.Lent.{record_of}
use Rattle.zone_rdata.specs.Record.{Record}
use Rattle.zone_rdata.specs.declared.lent.RrRef.{RrRef}
use Rattle.zone_digest.specs.Verdict.{Fields, HasFields, IsWellFormed, number}
use Rattle.zone_digest.specs.Machine.Reading.{HasOtherLike, IsOtherLike}
use Rattle.zone_digest.specs.declared.algorithm.Algorithm.{Algorithm}
use Rattle.zone_digest.specs.declared.algorithm.Algorithm.TheVariants.{Sha384, Sha512}
use Rattle.zone_digest.proofs.Sets.{one_more}

head_of : List ℕ → ℕ
head_of [] = 0
head_of (c ∷ l) = c

rest_of : List ℕ → List ℕ
rest_of [] = []
rest_of (c ∷ l) = l

pub one_fields : (octets : List ℕ) (f g : Fields) → HasFields octets f → HasFields octets g → f ≡ g
unfolding head_of rest_of
one_fields octets f g h k =
    let cut = append_same f.serial g.serial (f.scheme ∷ f.algorithm ∷ f.digest) (g.scheme ∷ g.algorithm ∷ g.digest) (h.serial ∙ sym k.serial) (sym h.parts ∙ k.parts) in
    let scheme : f.scheme ≡ g.scheme = ap head_of cut.1 in
    let algorithm : f.algorithm ≡ g.algorithm = ap (λ l. head_of (rest_of l)) cut.1 in
    let digest : f.digest ≡ g.digest = ap (λ l. rest_of (rest_of l)) cut.1 in
    λ i. record { serial = cut.0 i; scheme = scheme i; algorithm = algorithm i; digest = digest i }

-- what is well formed is so by the fields that are read
pub read_formed : (octets : List ℕ) (f g : Fields) → HasFields octets f → IsWellFormed octets g → IsWellFormed octets f
read_formed octets f g h well = subst (IsWellFormed octets) (one_fields octets g f well.fields h) well

pub one_number : (a b : Algorithm) → number a ≡ number b → a ≡ b
one_number Sha384 Sha384 same = refl
one_number Sha384 Sha512 same = absurd (omega (arith, same))
one_number Sha512 Sha384 same = absurd (omega (arith, same))
one_number Sha512 Sha512 same = refl

pub other_like : (b : Bool) (r other : Record) (f own : Fields) → other.octets ≢ r.octets → HasFields other.octets own → (IsTrue b ↔ ((own.scheme ≡ f.scheme) × (own.algorithm ≡ f.algorithm))) → IsTrue b ↔ IsOtherLike r f other
other_like b r other f own differs has pair = (
  λ is. let both = pair.0 is in (differs, (own, has, both.0, both.1)),
  λ like.
      let same : own ≡ like.1.0 = one_fields other.octets own like.1.0 has like.1.1 in
      pair.1 (ap (λ g. g.scheme) same ∙ like.1.2, ap (λ g. g.algorithm) same ∙ like.1.3),
)

-- ---- one of those that were looked at
like_append : (rs : List Record) (x r : Record) (f : Fields) → HasOtherLike (rs ++ x ∷ []) r f → HasOtherLike rs r f ⊎ IsOtherLike r f x
like_append [] x r f (inl like) = inr like
like_append [] x r f (inr none) = absurd none
like_append (y ∷ rs) x r f (inl like) = inl (inl like)
like_append (y ∷ rs) x r f (inr more) = ⊎_elim (λ h. inl (inr h)) inr (like_append rs x r f more)

pub none_more : (found : List RrRef) (i : ℕ) (item : RrRef) (r : Record) (f : Fields) → item ≡ get_or found i item → i < length found → (HasOtherLike (map record_of (take i found)) r f → ⊥) → (IsOtherLike r f (record_of item) → ⊥) → HasOtherLike (map record_of (take (i + 1) found)) r f → ⊥
none_more found i item r f is fits none other more =
    ⊎_elim none other (like_append (map record_of (take i found)) (record_of item) r f (subst (λ rs. HasOtherLike rs r f) (one_more found i item is fits) more))

pub has_this : (found : List RrRef) (i : ℕ) (item : RrRef) (r : Record) (f : Fields) → item ≡ get_or found i item → i < length found → IsOtherLike r f (record_of item) → HasOtherLike (map record_of found) r f
has_this [] i item r f is fits like = absurd (omega (arith, fits))
has_this (x ∷ found) zero item r f is fits like = inl (subst (λ t. IsOtherLike r f (record_of t)) is like)
has_this (x ∷ found) (suc i) item r f is fits like = inr (has_this found i item r f is (omega (arith, fits)) like)
