-- The steps of the walk over the records of a zone in the order of a digest.
use Rattle.zone_set.proofs.Common.{[], ◌≡◌, ℕ, List, ◌∷◌, ◌++◌, refl, sym, ap, ◌∙◌, subst, append_assoc, append-nil, inl, inr, ⊎_elim, ◌⊎◌, ◌↔◌, AllByRecursion, AllByRecursion-append, Ordering, Equal, Less, Greater, Record, IsRecord, Has, InOneSet, IsZone, None}
use Rattle.zone_name.specs.Common.{Labels}
use Rattle.zone_set.specs.Zone.{Zone}
use Rattle.zone_set.proofs.Ordering.Between.{Has-append}
use Rattle.zone_set.proofs.Holding.Together.{each_Has, each_from_Has}
use Rattle.std.specs.List.{flat_map}
use Rattle.std.proofs.lemmas.Grind.{flat_map-append}
use Rattle.zone_digest.specs.Digest.{AreDigested, AscendsByOwner, digest_cmp, IsLeftOut, IsLoweredRecord, record_octets}
use Rattle.zone_digest.specs.Machine.Sets.{AreAlike, AreLowered, AreOneSet, IsOfFirst}
use Rattle.zone_digest.specs.Machine.Walk.{by_owner, IsWalked}
use Rattle.data_names.specs.NamesInData.{names_of, with_none}
use Rattle.data_names.proofs.Once.{lowered_once}
use Rattle.zone_digest.proofs.Sets.{record_same}
use Rattle.zone_digest.proofs.Soa.{by_owner_ascends, has_by_owner}
use Rattle.zone_digest.proofs.SetOrder.{set_cmp, after_set, in_one_set, lowered_before, not_after, one_set_tied}

-- ---- ascending lists
has_front : (ls bs : List Record) (r : Record) → Has ls r → Has (ls ++ bs) r
has_front ls bs r has = (Has-append ls bs r).1 (inl has)

has_back : (ls bs : List Record) (r : Record) → Has bs r → Has (ls ++ bs) r
has_back ls bs r has = (Has-append ls bs r).1 (inr has)

has_around : (ls : List Record) (x : Record) (bs : List Record) (r : Record) → Has (ls ++ bs) r → Has (ls ++ x ∷ bs) r
has_around ls x bs r has = ⊎_elim (λ h. has_front ls (x ∷ bs) r h) (λ h. has_back ls (x ∷ bs) r (inr h)) ((Has-append ls bs r).0 has)

ascends_append : (ls bs : List Record) → AscendsByOwner ls → AscendsByOwner bs → ((a b : Record) → Has ls a → Has bs b → digest_cmp a b ≡ Less) → AscendsByOwner (ls ++ bs)
ascends_append [] bs up ub across = ub
ascends_append (a ∷ ls) bs up ub across = (
  AllByRecursion-append (λ s. digest_cmp a s ≡ Less) ls bs up.0 (each_from_Has (λ s. digest_cmp a s ≡ Less) bs (λ b has. across a b (inl refl) has)),
  ascends_append ls bs up.1 ub (λ x y has. across x y (inr has)),
)

ascends_without : (ls : List Record) (x : Record) (bs : List Record) → AscendsByOwner (ls ++ x ∷ bs) → AscendsByOwner (ls ++ bs)
ascends_without [] x bs up = up.1
ascends_without (a ∷ ls) x bs up = (
  each_from_Has (λ s. digest_cmp a s ≡ Less) (ls ++ bs) (λ s has. each_Has (λ t. digest_cmp a t ≡ Less) (ls ++ x ∷ bs) s up.0 (has_around ls x bs s has)),
  ascends_without ls x bs up.1,
)

ascends_back : (ls bs : List Record) → AscendsByOwner (ls ++ bs) → AscendsByOwner bs
ascends_back [] bs up = up
ascends_back (a ∷ ls) bs up = ascends_back ls bs up.1

pub ascends_front : (ls bs : List Record) → AscendsByOwner (ls ++ bs) → AscendsByOwner ls
ascends_front [] bs up = tt
ascends_front (a ∷ ls) bs up = (
  each_from_Has (λ s. digest_cmp a s ≡ Less) ls (λ s has. each_Has (λ t. digest_cmp a t ≡ Less) (ls ++ bs) s up.0 (has_front ls bs s has)),
  ascends_front ls bs up.1,
)

ascends_across : (ls bs : List Record) (a b : Record) → AscendsByOwner (ls ++ bs) → Has ls a → Has bs b → digest_cmp a b ≡ Less
ascends_across [] bs a b up has_a has_b = absurd has_a
ascends_across (c ∷ ls) bs a b up has_a has_b =
    ⊎_elim (λ same. subst (λ t. digest_cmp t b ≡ Less) (sym same) (each_Has (λ t. digest_cmp c t ≡ Less) (ls ++ bs) b up.0 (has_back ls bs b has_b)))
    (λ more. ascends_across ls bs a b up.1 more has_b) has_a

-- ---- canonical forms
lowered_append : (ls bs la lb : List Record) → AreLowered ls la → AreLowered bs lb → ((a b : Record) → Has la a → Has lb b → digest_cmp a b ≡ Less) → AreLowered (ls ++ bs) (la ++ lb)
lowered_append ls bs la lb one two across = record {
  ascend = ascends_append la lb one.ascend two.ascend across;
  same = λ s. (
    λ has. ⊎_elim
        (λ h. let f = (one.same s).0 h in (f.0, has_front ls bs f.0 f.1, f.2))
        (λ h. let f = (two.same s).0 h in (f.0, has_back ls bs f.0 f.1, f.2))
        ((Has-append la lb s).0 has),
    λ from. ⊎_elim
        (λ h. has_front la lb s ((one.same s).1 (from.0, h, from.2)))
        (λ h. has_back la lb s ((two.same s).1 (from.0, h, from.2)))
        ((Has-append ls bs from.0).0 from.1),
  );
}

-- a record without names in its data is its own canonical form, and its only one
stays_own : (x : Record) → names_of x.kind x.octets ≡ None → IsLoweredRecord x x
stays_own x none = record { owner = refl; class = refl; kind = refl; ttl = refl; octets = with_none (λ place front names rest is. absurd (let bad = sym none ∙ is in cc)) refl }

own_alone : (x low : Record) → names_of x.kind x.octets ≡ None → IsLoweredRecord x low → low ≡ x
own_alone x low none is = record_same x low is.owner is.class is.kind is.ttl (lowered_once (names_of x.kind x.octets) x.octets low.octets x.octets is.octets (stays_own x none).octets)

alone : (x : Record) → names_of x.kind x.octets ≡ None → AreLowered (x ∷ []) (x ∷ [])
alone x none = record {
  ascend = (tt, tt);
  same = λ s. (
    λ has. (x, inl refl, subst (IsLoweredRecord x) (⊎_elim (λ same. sym same) (λ no_more. absurd no_more) has) (stays_own x none)),
    λ from. ⊎_elim (λ same. inl (own_alone x s none (subst (λ t. IsLoweredRecord t s) same from.2))) (λ no_more. absurd no_more) from.1,
  );
}

-- ---- the steps
pub start : (apex : Labels) (all : List Record) → AscendsByOwner all → IsWalked apex all [] all []
start apex all up = record {
  passed = [];
  same = λ r. (λ has. inr (inr has), λ any. ⊎_elim (λ none. absurd none) (λ more. ⊎_elim (λ none. absurd none) (λ has. has) more) any);
  lowered = record { ascend = tt; same = λ s. (λ none. absurd none, λ from. absurd from.1) };
  before = λ d s lower none. absurd none;
  ascend = up;
  one_set = tt;
}

pub skip : (apex : Labels) (all set rest done : List Record) (x : Record) → IsWalked apex all set (x ∷ rest) done → IsLeftOut apex x → IsWalked apex all set rest done
skip apex all set rest done x w out = record {
  passed = w.passed;
  same = λ r. (
    λ has. ⊎_elim inl (λ more. inr (⊎_elim inl (λ h. inr (still r h)) more)) ((w.same r).0 has),
    λ any. (w.same r).1 (⊎_elim inl (λ more. inr (⊎_elim inl (λ h. inr (inr h.0, h.1)) more)) any),
  );
  lowered = w.lowered;
  before = λ d s lower has later. w.before d s lower has (has_around set x rest s later);
  ascend = ascends_without set x rest w.ascend;
  one_set = w.one_set;
}
  where
    still : (r : Record) → (Has (x ∷ rest) r × (IsLeftOut apex r → ⊥)) → Has rest r × (IsLeftOut apex r → ⊥)
    still r (inl same, kept) = absurd (kept (subst (IsLeftOut apex) (sym same) out))
    still r (inr more, kept) = (more, kept)

grown_set : (set : List Record) (x : Record) → AreOneSet set → IsOfFirst set x → AreOneSet (set ++ x ∷ [])
grown_set [] x one of = tt
grown_set (s ∷ set) x one of = AllByRecursion-append (InOneSet s) set (x ∷ []) one (of, tt)

pub keep : (apex : Labels) (all set rest done : List Record) (x : Record) → IsWalked apex all set (x ∷ rest) done → (IsLeftOut apex x → ⊥) → IsOfFirst set x → IsWalked apex all (set ++ x ∷ []) rest done
keep apex all set rest done x w kept of = record {
  passed = w.passed;
  same = λ r. (
    λ has. ⊎_elim inl (λ more. inr (⊎_elim (λ h. inl (has_front set (x ∷ []) r h)) (λ h. put r h.0 h.1) more)) ((w.same r).0 has),
    λ any. (w.same r).1 (⊎_elim inl (λ more. inr (⊎_elim (λ h. back r ((Has-append set (x ∷ []) r).0 h)) (λ h. inr (inr h.0, h.1)) more)) any),
  );
  lowered = w.lowered;
  before = λ d s lower has later. w.before d s lower has (subst (λ l. Has l s) moved later);
  ascend = subst AscendsByOwner (sym moved) w.ascend;
  one_set = grown_set set x w.one_set of;
}
  where
    moved : (set ++ x ∷ []) ++ rest ≡ set ++ x ∷ rest
    moved = append_assoc set (x ∷ []) rest

    put : (r : Record) → Has (x ∷ rest) r → (IsLeftOut apex r → ⊥) → Has (set ++ x ∷ []) r ⊎ (Has rest r × (IsLeftOut apex r → ⊥))
    put r (inl same) stays = inl (has_back set (x ∷ []) r (inl same))
    put r (inr more) stays = inr (more, stays)

    back : (r : Record) → (Has set r ⊎ Has (x ∷ []) r) → Has set r ⊎ (Has (x ∷ rest) r × (IsLeftOut apex r → ⊥))
    back r (inl h) = inl h
    back r (inr (inl same)) = inr (inl same, λ out. kept (subst (IsLeftOut apex) same out))
    back r (inr (inr none)) = absurd none

-- the set is passed where it is before all that is to come
pass_set : (apex : Labels) (all set rest done low : List Record) → IsWalked apex all set rest done → AreLowered set low → ((s y : Record) → Has set s → Has rest y → set_cmp s y ≡ Less) → IsWalked apex all [] rest (done ++ low)
pass_set apex all set rest done low w lowered across = record {
  passed = w.passed ++ set;
  same = λ r. (
    λ has. ⊎_elim (λ h. inl (has_front w.passed set r h)) (λ more. ⊎_elim (λ h. inl (has_back w.passed set r h)) (λ h. inr (inr h)) more) ((w.same r).0 has),
    λ any. (w.same r).1 (⊎_elim (λ h. ⊎_elim inl (λ s. inr (inl s)) ((Has-append w.passed set r).0 h)) (λ more. inr (⊎_elim (λ none. absurd none) inr more)) any),
  );
  lowered = lowered_append w.passed set done low w.lowered lowered (λ a b has_a has_b. let f = (lowered.same b).0 has_b in w.before a f.0 b has_a (has_front set rest f.0 f.1) f.2);
  before = λ d s lower has later is. ⊎_elim
      (λ h. w.before d s lower h (has_back set rest s later) is)
      (λ h. let f = (lowered.same d).0 h in lowered_before f.0 s d lower f.2 is (across f.0 s f.1 later))
      ((Has-append done low d).0 has);
  ascend = ascends_back set rest w.ascend;
  one_set = tt;
}

pub flush : (apex : Labels) (all set rest done low : List Record) (x : Record) → ((r s : Record) → Has all r → Has all s → r.class ≡ s.class) → IsWalked apex all set (x ∷ rest) done → AreLowered set low → (IsOfFirst set x → ⊥) → IsWalked apex all [] (x ∷ rest) (done ++ low)
flush apex all [] rest done low x one_class w lowered other = absurd (other tt)
flush apex all (first ∷ set) rest done low x one_class w lowered other = pass_set apex all (first ∷ set) (x ∷ rest) done low w lowered across
  where
    tied : (s : Record) → Has (first ∷ set) s → set_cmp first s ≡ Equal
    tied s (inl same) = one_set_tied first s (ap (λ t. t.class) (sym same)) (record { owner = ap (λ t. t.owner) (sym same); kind = ap (λ t. t.kind) (sym same); covers = cc })
    tied s (inr more) = one_set_tied first s (one_class first s ((w.same first).1 (inr (inl (inl refl)))).0 ((w.same s).1 (inr (inl (inr more)))).0) (each_Has (InOneSet first) set s w.one_set more)

    later : (y : Record) → Has (x ∷ rest) y → (y ≡ x) ⊎ (digest_cmp x y ≡ Less)
    later y (inl same) = inl same
    later y (inr more) = inr (each_Has (λ t. digest_cmp x t ≡ Less) rest y (ascends_back (first ∷ set) (x ∷ rest) w.ascend).0 more)

    across : (s y : Record) → Has (first ∷ set) s → Has (x ∷ rest) y → set_cmp s y ≡ Less
    across s y has_s has_y = after_set first s x y (tied s has_s) (ascends_across (first ∷ set) (x ∷ rest) first x w.ascend (inl refl) (inl refl)) other (later y has_y)

-- a record of a type that has no names in its data is passed by itself
pub pass : (apex : Labels) (all rest done : List Record) (x : Record) → IsWalked apex all [] (x ∷ rest) done → (IsLeftOut apex x → ⊥) → ((octets : List ℕ) → names_of x.kind octets ≡ None) → IsWalked apex all [] rest (done ++ x ∷ [])
pass apex all rest done x w kept none = record {
  passed = w.passed ++ x ∷ [];
  same = λ r. (
    λ has. ⊎_elim (λ h. inl (has_front w.passed (x ∷ []) r h)) (λ more. ⊎_elim (λ no_set. absurd no_set) (λ h. put r h.0 h.1) more) ((w.same r).0 has),
    λ any. (w.same r).1 (⊎_elim (λ h. back r ((Has-append w.passed (x ∷ []) r).0 h)) (λ more. inr (⊎_elim (λ no_set. absurd no_set) (λ h. inr (inr h.0, h.1)) more)) any),
  );
  lowered = lowered_append w.passed (x ∷ []) done (x ∷ []) w.lowered (alone x (none x.octets)) (λ a b has_a has_b. w.before a x b has_a (inl refl) (⊎_elim (λ same. subst (IsLoweredRecord x) (sym same) (stays_own x (none x.octets))) (λ no_more. absurd no_more) has_b));
  before = λ d s lower has later is. ⊎_elim
      (λ h. w.before d s lower h (inr later) is)
      (λ h. ⊎_elim (λ same. subst (λ t. digest_cmp t lower ≡ Less) (sym same) (own_before s lower later is)) (λ no_more. absurd no_more) h)
      ((Has-append done (x ∷ []) d).0 has);
  ascend = w.ascend.1;
  one_set = tt;
}
  where
    put : (r : Record) → Has (x ∷ rest) r → (IsLeftOut apex r → ⊥) → Has (w.passed ++ x ∷ []) r ⊎ (Has [] r ⊎ (Has rest r × (IsLeftOut apex r → ⊥)))
    put r (inl same) stays = inl (has_back w.passed (x ∷ []) r (inl same))
    put r (inr more) stays = inr (inr (more, stays))

    back : (r : Record) → (Has w.passed r ⊎ Has (x ∷ []) r) → Has w.passed r ⊎ (Has [] r ⊎ (Has (x ∷ rest) r × (IsLeftOut apex r → ⊥)))
    back r (inl h) = inl h
    back r (inr (inl same)) = inr (inr (inl same, λ out. kept (subst (IsLeftOut apex) same out)))
    back r (inr (inr no_more)) = absurd no_more

    own_before : (s lower : Record) → Has rest s → IsLoweredRecord s lower → digest_cmp x lower ≡ Less
    own_before s lower has is = by_order (set_cmp x s) refl
      where
        less : digest_cmp x s ≡ Less
        less = each_Has (λ t. digest_cmp x t ≡ Less) rest s w.ascend.0 has

        by_order : (o : Ordering) → set_cmp x s ≡ o → digest_cmp x lower ≡ Less
        by_order Less known = lowered_before x s x lower (stays_own x (none x.octets)) is known
        by_order Greater known = absurd (not_after x s less known)
        by_order Equal known =
            let kind : x.kind ≡ s.kind = (in_one_set x s known).kind in
            let own : lower ≡ s = own_alone s lower (subst (λ k. names_of k s.octets ≡ None) kind (none s.octets)) is in
            subst (λ t. digest_cmp x t ≡ Less) (sym own) less

pub finish : (z : Zone) (all set done low : List Record) → ((r : Record) → Has all r ↔ Has z.records r) → IsWalked z.apex all set [] done → AreLowered set low → AreDigested z (done ++ low)
finish z all set done low among walked lowered =
    let w = pass_set z.apex all set [] done low walked lowered (λ s y has none. absurd none) in
    record {
      ascend = w.lowered.ascend;
      same = λ s. (
        λ has. let f = (w.lowered.same s).0 has in let own = (w.same f.0).1 (inl f.1) in (f.0, (among f.0).0 own.0, own.1, f.2),
        λ from. (w.lowered.same s).1 (from.0, ⊎_elim (λ h. h) (λ more. ⊎_elim (λ no_set. absurd no_set) (λ no_rest. absurd no_rest.0) more) ((w.same from.0).0 ((among from.0).1 from.1, from.2)), from.3),
      );
    }

-- ---- the records of a set that is kept
in_all : (apex : Labels) (all set rest done : List Record) (r : Record) → IsWalked apex all set rest done → Has set r → Has all r
in_all apex all set rest done r w has = ((w.same r).1 (inr (inl has))).0

pub set_records : (apex : Labels) (all set rest done : List Record) → AllByRecursion IsRecord all → IsWalked apex all set rest done → AllByRecursion IsRecord set
set_records apex all set rest done each w = each_from_Has IsRecord set (λ r has. each_Has IsRecord all r each (in_all apex all set rest done r w has))

both_of : (first : Record) (set : List Record) (r s : Record) → AllByRecursion (InOneSet first) set → Has (first ∷ set) r → Has (first ∷ set) s → InOneSet r s
both_of first set r s each has_r has_s =
    let one = to_first r has_r in
    let two = to_first s has_s in
    record { owner = sym one.owner ∙ two.owner; kind = sym one.kind ∙ two.kind; covers = sym one.covers ∙ two.covers }
  where
    to_first : (t : Record) → Has (first ∷ set) t → InOneSet first t
    to_first t (inl same) = subst (InOneSet first) (sym same) (record { owner = refl; kind = refl; covers = refl })
    to_first t (inr more) = each_Has (InOneSet first) set t each more

pub set_alike : (apex : Labels) (all set rest done : List Record) → ((r s : Record) → Has all r → Has all s → r.class ≡ s.class) → ((r s : Record) → Has all r → Has all s → InOneSet r s → r.ttl ≡ s.ttl) → IsWalked apex all set rest done → AreAlike set
set_alike apex all [] rest done one_class one_ttl w r s has_r has_s = absurd has_r
set_alike apex all (first ∷ set) rest done one_class one_ttl w r s has_r has_s =
    let one = both_of first set r s w.one_set has_r has_s in
    let in_r = in_all apex all (first ∷ set) rest done r w has_r in
    let in_s = in_all apex all (first ∷ set) rest done s w has_s in
    (one.owner, one_class r s in_r in_s, one.kind, one_ttl r s in_r in_s one)

-- ---- what a hasher has
module _ (Holds : List ℕ → Type 0) where
  pub held_after : (done low : List Record) → Holds (flat_map record_octets done ++ flat_map record_octets low) → Holds (flat_map record_octets (done ++ low))
  held_after done low held = subst Holds (sym (flat_map-append record_octets done low)) held

  pub held_one : (done : List Record) (x : Record) → Holds (flat_map record_octets done ++ record_octets x) → Holds (flat_map record_octets (done ++ x ∷ []))
  held_one done x held = held_after done (x ∷ []) (subst (λ o. Holds (flat_map record_octets done ++ o)) (sym (append-nil (record_octets x))) held)

-- a zone's records in the order of a digest
module _ (z : Zone) (is : IsZone z) where
  pub all_ascend : AscendsByOwner (by_owner z.records)
  all_ascend = by_owner_ascends z.apex z.records is.compatible is.soa is.within

  pub all_class : (r s : Record) → Has (by_owner z.records) r → Has (by_owner z.records) s → r.class ≡ s.class
  all_class r s has_r has_s = is.compatible.one_class r s ((has_by_owner z.records r).0 has_r) ((has_by_owner z.records s).0 has_s)

  pub all_ttl : (r s : Record) → Has (by_owner z.records) r → Has (by_owner z.records) s → InOneSet r s → r.ttl ≡ s.ttl
  all_ttl r s has_r has_s = is.compatible.one_ttl r s ((has_by_owner z.records r).0 has_r) ((has_by_owner z.records s).0 has_s)

  pub all_records : AllByRecursion IsRecord (by_owner z.records)
  all_records = each_from_Has IsRecord (by_owner z.records) (λ r has. each_Has IsRecord z.records r is.compatible.each ((has_by_owner z.records r).0 has))
