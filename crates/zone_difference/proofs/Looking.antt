-- A record is looked up among those of its RRset.
use Rattle.zone_set.proofs.Common.{◌≡◌, ◌≢◌, Equal, Greater, Less, Ordering, List, [], ◌∷◌, ◌++◌, ◌↔◌, ◌⊎◌, ℕ, refl, sym, ap, ◌∙◌, subst, append_assoc, inl, inr, ⊎_elim, AllByRecursion, Option, None, Some, Has, Record, record_of, IsRecord, IsZone}
use Rattle.std.specs.Global.{Vec}
use Rattle.zone_rdata.specs.declared.lent.RrRef.{RrRef}
use Rattle.zone_set.proofs.Holding.Together.{each_Has}
use Rattle.zone_set.proofs.Ordering.Between.{Has-append}
use Rattle.zone_set.specs.Order.{Ascends, canonical_cmp}
use Rattle.zone_set.specs.Zone.{Zone}
use Rattle.data_names.proofs.Once.{lowered_once}
use Rattle.data_names.specs.NamesInData.{IsLoweredRecord, names_in, with_none}
use Rattle.data_names.specs.declared.table.FoldedTypes.TheVariants.{Every}
use Rattle.zone_difference.proofs.OneDifference.{all_same}
use Rattle.zone_difference.proofs.Keys.{alike_of_key, key_of_alike, rrset_of_alike}
use Rattle.zone_difference.proofs.Rrsets.{removal_goes, set_of_less, squeezed, still_at_most}
use Rattle.zone_difference.specs.Difference.{AreAlike, AreOfOneRrset, HasEqual}
use Rattle.zone_difference.specs.Folded.{AreKeys, HasKey, IsAt, IsGathered, IsKey, OnTaken}
use Rattle.zone_difference.specs.Walk.{with_taken}
use Rattle.zone_difference.specs.declared.folded_sets.FoldedSets.{FoldedSets}
use Rattle.zone_difference.specs.declared.name_case.NameCase.TheVariants.{Folded}

turned : (r s : Record) → AreOfOneRrset r s → AreOfOneRrset s r
turned r s o = record { owner = sym o.owner; class = sym o.class; kind = sym o.kind }

joined : (r s t : Record) → AreOfOneRrset r s → AreOfOneRrset s t → AreOfOneRrset r t
joined r s t o p = record { owner = o.owner ∙ p.owner; class = o.class ∙ p.class; kind = o.kind ∙ p.kind }

on_taken : (P Q : Record → Type 0) (head : Option RrRef) → ((t : Record) → P t → Q t) → OnTaken P head → OnTaken Q head
on_taken P Q None f on = on
on_taken P Q (Some h) f on = f (record_of h) on

-- what holds of the record that was taken
of_taken : (P : Record → Type 0) (head : Option RrRef) (A : Type 0) → ((h : Record) → OnTaken (λ t. t ≡ h) head → P h → A) → OnTaken P head → A
of_taken P None A f on = absurd on
of_taken P (Some h) A f on = f (record_of h) refl on

-- ---- the RRset is gathered

module _ (all wanted : List Record) (r : Record) (f f' : FoldedSets) (a : IsAt all f (r ∷ wanted))
    (other : OnTaken (AreOfOneRrset r) f.head → ⊥)
    (g : IsGathered (with_taken f.next f.rest) (with_taken f'.next f'.rest) r f'.head f'.keys.keys) where
  -- a record of the RRset of the one that was taken is of that of r
  of_head : (s : Record) → OnTaken (AreOfOneRrset s) f'.head → AreOfOneRrset s r
  of_head s on = of_taken (AreOfOneRrset s) f'.head (AreOfOneRrset s r) (λ h is one. joined s h r one (g.gathering.of_rrset h is)) on

  to_head : (s : Record) → AreOfOneRrset s r → OnTaken (AreOfOneRrset r) f'.head → OnTaken (AreOfOneRrset s) f'.head
  to_head s one on = on_taken (AreOfOneRrset r) (AreOfOneRrset s) f'.head (λ t is. joined s r t one is) on

  in_both : (s : Record) → Has (a.passed ++ g.gathering.passed) s → Has a.passed s ⊎ Has g.gathering.passed s
  in_both s has = (Has-append a.passed g.gathering.passed s).0 has

  no_older : (s : Record) → Has a.passed s → AreOfOneRrset s r → ⊥
  no_older s has one = other (a.known s r has (inl refl) one)

  known_older : (s q : Record) → Has a.passed s → Has wanted q → AreOfOneRrset s q → ⊥
  known_older s q has want one = of_taken (AreOfOneRrset q) f.head ⊥ (λ h is same.
      other (on_taken (λ t. t ≡ h) (AreOfOneRrset r) f.head
      (λ t it. subst (AreOfOneRrset r) (sym it) (turned h r (squeezed h r q (a.before h r is (inl refl)) (inl (each_Has (λ t. canonical_cmp r t ≡ Less) wanted q a.wanted_up.0 want)) (turned q h same)))) is))
      (a.known s q has (inr want) one)

  known_newer : (s q : Record) → Has g.gathering.passed s → Has wanted q → AreOfOneRrset s q → OnTaken (AreOfOneRrset q) f'.head
  known_newer s q has want one =
      let near : AreOfOneRrset s r = squeezed s r q (g.gathering.upto s has) (inl (each_Has (λ t. canonical_cmp r t ≡ Less) wanted q a.wanted_up.0 want)) one in
      to_head q (joined q s r (turned s q one) near) (g.gathering.is_one s has near)

  pub at_next : IsAt all f' wanted
  at_next = record {
    each = a.each;
    up = a.up;
    wanted_each = a.wanted_each.1;
    wanted_up = a.wanted_up.1;
    passed = a.passed ++ g.gathering.passed;
    split = a.split ∙ ap (λ l. a.passed ++ l) g.gathering.split ∙ sym (append_assoc a.passed g.gathering.passed (with_taken f'.next f'.rest));
    keys = λ octets. (
      λ has. let k = (g.gathering.are_keys octets).0 has in (k.0, (Has-append a.passed g.gathering.passed k.0).1 (inr k.1), to_head k.0 k.2 (g.gathering.is_one k.0 k.1 k.2), k.3),
      λ (s, has, on, key). ⊎_elim
          (λ old. absurd (no_older s old (of_head s on)))
          (λ new. (g.gathering.are_keys octets).1 (s, new, of_head s on, key)) (in_both s has),
    );
    cut = λ s has on. (g.after s has).1 (turned s r (of_head s on));
    known = λ s q has want one. ⊎_elim (λ old. absurd (known_older s q old want one)) (λ new. known_newer s q new want one) (in_both s has);
    before = λ h q is want. removal_goes h q (still_at_most h r q (g.gathering.of_rrset h is) (each_Has (λ t. canonical_cmp r t ≡ Less) wanted q a.wanted_up.0 want));
  }

  pub key_is_alike : (key : List ℕ) → IsKey r key → HasKey f'.keys.keys key ↔ HasEqual Folded all r
  key_is_alike key own = (
    λ has.
        let k = (g.gathering.are_keys key).0 has in
        let there : Has all k.0 = subst (λ l. Has l k.0) (sym a.split) ((Has-append a.passed (with_taken f.next f.rest) k.0).1 (inr (subst (λ l. Has l k.0) (sym g.gathering.split) ((Has-append g.gathering.passed (with_taken f'.next f'.rest) k.0).1 (inl k.1))))) in
        (k.0, there, alike_of_key r k.0 key a.wanted_each.0 (each_Has IsRecord all k.0 a.each there) k.2 own k.3),
    λ (s, has, alike). (g.gathering.are_keys key).1 (s, among s has (rrset_of_alike r s alike), rrset_of_alike r s alike, key_of_alike r s key alike own),
  )
    where
      among : (s : Record) → Has all s → AreOfOneRrset s r → Has g.gathering.passed s
      among s has one = ⊎_elim
          (λ old. absurd (no_older s old one))
          (λ rest. ⊎_elim (λ new. new) (λ left. absurd ((g.after s left).1 (turned s r one))) ((Has-append g.gathering.passed (with_taken f'.next f'.rest) s).0 (subst (λ l. Has l s) g.gathering.split rest)))
          ((Has-append a.passed (with_taken f.next f.rest) s).0 (subst (λ l. Has l s) a.split has))

-- ---- the RRset was gathered before

module _ (all wanted : List Record) (r : Record) (f : FoldedSets) (a : IsAt all f (r ∷ wanted))
    (same : OnTaken (AreOfOneRrset r) f.head) where
  near : (s : Record) → AreOfOneRrset s r → OnTaken (AreOfOneRrset s) f.head
  near s one = on_taken (AreOfOneRrset r) (AreOfOneRrset s) f.head (λ t is. joined s r t one is) same

  -- a record of the RRset of the one that was taken is of that of r
  far : (s : Record) → OnTaken (AreOfOneRrset s) f.head → AreOfOneRrset s r
  far s on = of_taken (AreOfOneRrset s) f.head (AreOfOneRrset s r) (λ h is one. of_taken (AreOfOneRrset r) f.head (AreOfOneRrset s r) (λ k it also. joined s h r one (turned r h (subst (AreOfOneRrset r) (one_head f.head h k is it) also))) same) on
    where
      one_head : (head : Option RrRef) (h k : Record) → OnTaken (λ t. t ≡ h) head → OnTaken (λ t. t ≡ k) head → k ≡ h
      one_head None h k is it = absurd is
      one_head (Some x) h k is it = sym it ∙ is

  pub kept_is_alike : (key : List ℕ) → IsKey r key → HasKey f.keys.keys key ↔ HasEqual Folded all r
  kept_is_alike key own = (
    λ has.
        let k = (a.keys key).0 has in
        let there : Has all k.0 = subst (λ l. Has l k.0) (sym a.split) ((Has-append a.passed (with_taken f.next f.rest) k.0).1 (inl k.1)) in
        (k.0, there, alike_of_key r k.0 key a.wanted_each.0 (each_Has IsRecord all k.0 a.each there) (far k.0 k.2) own k.3),
    λ (s, has, alike).
        let one = rrset_of_alike r s alike in
        (a.keys key).1 (s, ⊎_elim (λ old. old) (λ rest. absurd (a.cut s rest (near s one))) ((Has-append a.passed (with_taken f.next f.rest) s).0 (subst (λ l. Has l s) a.split has)), near s one, key_of_alike r s key alike own),
  )

-- ---- what isn't looked up

-- data without names has no letters of names
same_data : (r s : Record) → names_in Every r.kind r.octets ≡ None → ((octets : List ℕ) → names_in Every r.kind octets ≡ None) → AreAlike r s → s ≡ r
same_data r s none all (low, is, iz) =
    let kinds : s.kind ≡ r.kind = sym iz.kind ∙ is.kind in
    let own : low.octets ≡ r.octets = as_it_is r low none is in
    let other : low.octets ≡ s.octets = as_it_is s low (subst (λ k. names_in Every k s.octets ≡ None) (sym kinds) (all s.octets)) iz in
    all_same s r (sym iz.owner ∙ is.owner, kinds, sym other ∙ own) (sym iz.class ∙ is.class) (sym iz.ttl ∙ is.ttl)
  where
    as_it_is : (t lower : Record) → names_in Every t.kind t.octets ≡ None → IsLoweredRecord Every t lower → lower.octets ≡ t.octets
    as_it_is t lower nowhere lowered = lowered_once (names_in Every t.kind t.octets) t.octets lower.octets t.octets lowered.octets
        (with_none (λ place front names rest is h. absurd (let bad : None ≡ Some place = sym nowhere ∙ is in cc)) refl)

pub none_alike : (all : List Record) (r : Record) → ((octets : List ℕ) → names_in Every r.kind octets ≡ None) → (Has all r → ⊥) → HasEqual Folded all r → ⊥
none_alike all r none lacks (s, has, alike) = lacks (subst (Has all) (same_data r s (none r.octets) none alike) has)

-- a record is not looked up
pub passed_over : (all wanted : List Record) (r : Record) (f : FoldedSets) → IsAt all f (r ∷ wanted) → IsAt all f wanted
passed_over all wanted r f a = record {
  each = a.each;
  up = a.up;
  wanted_each = a.wanted_each.1;
  wanted_up = a.wanted_up.1;
  passed = a.passed;
  split = a.split;
  keys = a.keys;
  cut = a.cut;
  known = λ s q has want one. a.known s q has (inr want) one;
  before = λ h q is want. a.before h q is (inr want);
}

-- ---- nothing was looked up yet

pub at_start : (z : Zone) (wanted : List Record) (f : FoldedSets) → IsZone z → AllByRecursion IsRecord wanted → Ascends wanted → with_taken f.next f.rest ≡ z.records → f.head ≡ None → f.keys.keys ≡ [] → IsAt z.records f wanted
at_start z wanted f is each up same none empty = record {
  each = is.compatible.each;
  up = is.compatible.ascend;
  wanted_each = each;
  wanted_up = up;
  passed = [];
  split = sym same;
  keys = λ octets. (λ has. absurd (subst (λ k. HasKey k octets) empty has), λ h. absurd h.1);
  cut = λ s has on. subst (OnTaken (AreOfOneRrset s)) none on;
  known = λ s r has want one. absurd has;
  before = λ h r on want. absurd (subst (OnTaken (λ t. t ≡ h)) none on);
}
