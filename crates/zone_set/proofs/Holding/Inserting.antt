-- One more record among those that stand together.
use Rattle.zone_set.proofs.Common.{◌≡◌, ◌⊎◌, List, refl, sym, subst, ⊎_elim, arith, Record, IsRecord, Accepts, Ascends, Has, InOneSet, AreCompatible}
use Rattle.zone_set.proofs.Holding.Together.{each_Has, each_from_Has, flipped, accepted_class, accepted_ttl, accepted_soa}

-- what holds of a record and those held, both ways round, holds of those held and it
module _ (old new : List Record) (r : Record) (same : (s : Record) → Has new s → (s ≡ r) ⊎ Has old s) where
  among_both : (P : Record → Record → Type 0) → P r r → ((s : Record) → Has old s → P s r) → ((s : Record) → Has old s → P r s) → ((s t : Record) → Has old s → Has old t → P s t) → (s t : Record) → Has new s → Has new t → P s t
  among_both P itself after before others s t has_s has_t = grind arith

-- a record that may stand with those held stands with them
pub AreCompatible-with : (old new : List Record) (r : Record) → AreCompatible old → Accepts old r → IsRecord r → ((s : Record) → Has new s → (s ≡ r) ⊎ Has old s) → Ascends new → AreCompatible new
AreCompatible-with old new r compatible fits whole same ascend =
    let classes : (s t : Record) → Has new s → Has new t → s.class ≡ t.class = among_both old new r same (λ s t. s.class ≡ t.class) refl (accepted_class old r fits) (λ s has. sym (accepted_class old r fits s has)) compatible.one_class in
    record {
      each = each_from_Has IsRecord new (λ s has. ⊎_elim (λ is. subst IsRecord (sym is) whole) (λ more. each_Has IsRecord old s compatible.each more) (same s has));
      ascend = ascend;
      one_class = classes;
      one_ttl = among_both old new r same (λ s t. InOneSet s t → s.ttl ≡ t.ttl) (λ _. refl) (accepted_ttl old r fits) (λ s has one. sym (accepted_ttl old r fits s has (flipped one))) compatible.one_ttl;
      one_soa = among_both old new r same (λ s t. s.kind ≡ 6 → t.kind ≡ 6 → s ≡ t) (λ _ _. refl) (accepted_soa old r fits) (λ s has soa_r soa_s. sym (accepted_soa old r fits s has soa_s soa_r)) compatible.one_soa;
    }
