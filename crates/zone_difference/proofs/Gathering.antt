-- The keys of an RRset are gathered.
use Rattle.zone_set.proofs.Common.{◌≡◌, ◌≢◌, Equal, Greater, Less, Ordering, List, [], ◌∷◌, ◌++◌, ◌↔◌, ◌⊎◌, ℕ, refl, sym, ap, ◌∙◌, subst, append_assoc, inl, inr, ⊎_elim, AllByRecursion, Option, None, Some, Has, Record, record_of}
use Rattle.std.specs.Global.{Vec}
use Rattle.zone_rdata.specs.declared.lent.RrRef.{RrRef}
use Rattle.zone_set.proofs.Holding.Together.{each_Has}
use Rattle.zone_set.proofs.Ordering.Between.{Has-append}
use Rattle.zone_set.proofs.Ordering.SetOrder.{canonical_total}
use Rattle.zone_set.specs.Order.{Ascends, canonical_cmp}
use Rattle.zone_difference.proofs.Rrsets.{addition_before, other_goes}
use Rattle.zone_difference.specs.Difference.{AreOfOneRrset}
use Rattle.zone_difference.specs.Folded.{AddsKey, HasKey, IsGathered, IsGathering, IsKey, OnTaken}

abbrev HasKeyOf : List Record → Record → List ℕ → Type 0
HasKeyOf passed r octets = (s : Record) × Has passed s × AreOfOneRrset s r × IsKey s octets

pub gathers : (old new : List Record) (r : Record) (keys : List (Vec ℕ)) → old ≡ new → keys ≡ [] → IsGathering old new r None keys
gathers old new r keys same none = record {
  passed = [];
  split = same;
  are_keys = λ octets. (λ has. absurd (subst (λ k. HasKey k octets) none has), λ has. absurd has.1);
  is_one = λ s has one. absurd has;
  of_rrset = λ h is. absurd is;
  upto = λ s has. absurd has;
}

one_more : (passed rest old : List Record) (n : Record) → old ≡ passed ++ n ∷ rest → old ≡ (passed ++ n ∷ []) ++ rest
one_more passed rest old n split = split ∙ sym (append_assoc passed (n ∷ []) rest)

upto_more : (passed : List Record) (n r : Record) → ((s : Record) → Has passed s → (canonical_cmp s r ≡ Less) ⊎ AreOfOneRrset s r) → ((canonical_cmp n r ≡ Less) ⊎ AreOfOneRrset n r) → (s : Record) → Has (passed ++ n ∷ []) s → (canonical_cmp s r ≡ Less) ⊎ AreOfOneRrset s r
upto_more passed n r upto own s has = ⊎_elim (λ old. upto s old) (λ last. ⊎_elim (λ (same : s ≡ n). subst (λ t. (canonical_cmp t r ≡ Less) ⊎ AreOfOneRrset t r) (sym same) own) (λ none. absurd none) last) ((Has-append passed (n ∷ []) s).0 has)

-- a record of the RRset
pub one_kept : (old rest new : List Record) (n : RrRef) (r : Record) (head : Option RrRef) (keys keys' : List (Vec ℕ)) → IsGathering old (record_of n ∷ rest) r head keys → new ≡ rest → AreOfOneRrset (record_of n) r → AddsKey (record_of n) keys keys' → IsGathering old new r (Some n) keys'
one_kept old rest new n r head keys keys' g same one grown = record {
  passed = g.passed ++ record_of n ∷ [];
  split = one_more g.passed rest old (record_of n) g.split ∙ ap (λ l. (g.passed ++ record_of n ∷ []) ++ l) (sym same);
  are_keys = λ octets. (there octets, back octets);
  is_one = λ s has is. turned one;
  of_rrset = λ h is. subst (λ t. AreOfOneRrset t r) is one;
  upto = upto_more g.passed (record_of n) r g.upto (inr one);
}
  where
    turned : AreOfOneRrset (record_of n) r → AreOfOneRrset r (record_of n)
    turned o = record { owner = sym o.owner; class = sym o.class; kind = sym o.kind }

    there : (octets : List ℕ) → HasKey keys' octets → HasKeyOf (g.passed ++ record_of n ∷ []) r octets
    there octets has = ⊎_elim
        (λ is. (record_of n, (Has-append g.passed (record_of n ∷ []) (record_of n)).1 (inr (inl refl)), one, is))
        (λ held. let f = (g.are_keys octets).0 held in (f.0, (Has-append g.passed (record_of n ∷ []) f.0).1 (inl f.1), f.2, f.3))
        ((grown octets).0 has)

    back : (octets : List ℕ) → HasKeyOf (g.passed ++ record_of n ∷ []) r octets → HasKey keys' octets
    back octets (s, has, is, own) = (grown octets).1 (⊎_elim
        (λ held. inr ((g.are_keys octets).1 (s, held, is, own)))
        (λ last. inl (⊎_elim (λ (it : s ≡ record_of n). subst (λ t. IsKey t octets) it own) (λ none. absurd none) last))
        ((Has-append g.passed (record_of n ∷ []) s).0 has))

-- a record before it
pub one_passed : (old rest new : List Record) (n : Record) (r : Record) (head : Option RrRef) (keys : List (Vec ℕ)) → IsGathering old (n ∷ rest) r head keys → new ≡ rest → canonical_cmp n r ≡ Less → (AreOfOneRrset n r → ⊥) → IsGathering old new r head keys
one_passed old rest new n r head keys g same less other = record {
  passed = g.passed ++ n ∷ [];
  split = one_more g.passed rest old n g.split ∙ ap (λ l. (g.passed ++ n ∷ []) ++ l) (sym same);
  are_keys = λ octets. (
    λ has. let f = (g.are_keys octets).0 has in (f.0, (Has-append g.passed (n ∷ []) f.0).1 (inl f.1), f.2, f.3),
    λ (s, has, is, own). (g.are_keys octets).1 (s, older s has is, is, own),
  );
  is_one = λ s has is. g.is_one s (older s has is) is;
  of_rrset = g.of_rrset;
  upto = upto_more g.passed n r g.upto (inl less);
}
  where
    older : (s : Record) → Has (g.passed ++ n ∷ []) s → AreOfOneRrset s r → Has g.passed s
    older s has is = ⊎_elim (λ old. old) (λ last. ⊎_elim (λ (it : s ≡ n). absurd (other (subst (λ t. AreOfOneRrset t r) it is))) (λ none. absurd none) last) ((Has-append g.passed (n ∷ []) s).0 has)

-- the first record after the RRset
pub gathered_at : (old rest new : List Record) (n r : Record) (head : Option RrRef) (keys : List (Vec ℕ)) → IsGathering old (n ∷ rest) r head keys → new ≡ n ∷ rest → Ascends (n ∷ rest) → (AreOfOneRrset n r → ⊥) → (canonical_cmp n r ≡ Less → ⊥) → IsGathered old new r head keys
gathered_at old rest new n r head keys g same up other not_less = record {
  gathering = subst (λ l. IsGathering old l r head keys) (sym same) g;
  after = λ s has. addition_before r (n ∷ rest) up (other_goes n r (λ goes. ⊎_elim not_less other goes)) s (subst (λ l. Has l s) same has);
}

pub gathered_none : (old new : List Record) (r : Record) (head : Option RrRef) (keys : List (Vec ℕ)) → IsGathering old new r head keys → new ≡ [] → IsGathered old new r head keys
gathered_none old new r head keys g none = record { gathering = g; after = λ s has. absurd (subst (λ l. Has l s) none has) }
