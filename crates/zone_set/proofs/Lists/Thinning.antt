-- Records of which repeats were dropped: what is kept tells of what was given the same.
use Rattle.std.specs.Prelude.{IfOk}
use Rattle.zone_set.proofs.Common.{Bool, Err, Ok, Result, true, Accepts, AllAccepted, AllByRecursion, AllByRecursion-back, Entry, all_records, drop, entry_record, placed_at, suc, zero, ℕ, Fault, Has, InOneSet, IsRefusedFor, IsSettledAs, List, OtherClass, Place, Placed, Record, SameRecords, Stop, StopsSettling, [], ap, append-nil, append_assoc, arith, inl, inr, map-append, records_of, refl, subst, sym, ⊎_elim, ◌++◌, ◌↔◌, ◌∙◌, ◌∷◌, ◌≡◌, ◌≢◌, ◌⊎◌}
use Rattle.zone_set.proofs.Holding.Together.{flipped}
use Rattle.zone_set.proofs.Lists.ListPush.{all_taken}
use Rattle.zone_set.proofs.Ordering.Between.{Has-append}
use Rattle.zone_set.specs.Builder as builder
use Rattle.zone_set.specs.Refusal.{IsFirstRefused}
use Rattle.zone_rdata.specs.RrSource.{Pending}
use Rattle.zone_set.specs.ZoneList.{ListsAll, StopsListing, Tells}
use Rattle.zone_set.specs.ZoneList as zone_list

pub Tells-itself : (placed : List Placed) → Tells placed placed
Tells-itself placed = record { same = λ r. (λ has. has, λ has. has); accepted = λ all. all; refused = λ f place first. first }

pub Tells-trans : (a b c : List Placed) → Tells a b → Tells b c → Tells a c
Tells-trans a b c near far = record {
  same = λ r. (λ has. (near.same r).0 ((far.same r).0 has), λ has. (far.same r).1 ((near.same r).1 has));
  accepted = λ all. near.accepted (far.accepted all);
  refused = λ f place first. near.refused f place (far.refused f place first);
}

-- ---- what a record may stand with

fewer : (held less : List Record) (r : Record) → ((s : Record) → Has less s → Has held s) → Accepts held r → Accepts less r
fewer held less r early fits = record {
  one_class = λ (s, has, other). fits.one_class (s, early s has, other);
  one_soa = λ (s, has, other). fits.one_soa (s, early s has, other);
  one_ttl = λ (s, has, one, other). fits.one_ttl (s, early s has, one, other);
}

from_each : (held : List Record) (r : Record) → ((s : Record) → Has held s → Accepts (s ∷ []) r) → Accepts held r
from_each held r fits = record {
  one_class = λ (s, has, other). (fits s has).one_class (s, inl refl, other);
  one_soa = λ (s, has, other). (fits s has).one_soa (s, inl refl, other);
  one_ttl = λ (s, has, one, other). (fits s has).one_ttl (s, inl refl, one, other);
}

itself : (r : Record) → Accepts (r ∷ []) r
itself r = record {
  one_class = λ (s, has, other). grind (arith, has, other);
  one_soa = λ (s, has, (soa_r, soa_s, other)). grind (arith, has, other);
  one_ttl = λ (s, has, one, other). grind (arith, has, other);
}

swapped : (r s : Record) → Accepts (s ∷ []) r → Accepts (r ∷ []) s
swapped r s fits = record {
  one_class = λ (t, has, other). grind (arith, has, other, fits.one_class (s, inl refl, λ is. alike t has (λ u. u.class ≢ s.class) other (sym is)));
  one_soa = λ (t, has, two). let two = alike t has (λ u. builder.AreTwoSoas u s) two in fits.one_soa (s, inl refl, (two.1, two.0, ⊎_elim (λ other. inl (λ is. other (sym is))) (λ other. inr (λ is. other (sym is))) two.2));
  one_ttl = λ (t, has, one, other). fits.one_ttl (s, inl refl, flipped (alike t has (λ u. InOneSet u s) one), λ is. alike t has (λ u. u.ttl ≢ s.ttl) other (sym is));
}
  where
    alike : (t : Record) → Has (r ∷ []) t → (P : Record → Type 0) → P t → P r
    alike t has P holds = ⊎_elim (λ same. subst P same holds) (λ none. absurd none) has

-- ---- records that stand together

later : (p : Placed) (placed : List Placed) → AllAccepted (p ∷ placed) → AllAccepted placed
later p placed all before others q parts = fewer (p.rr ∷ records_of before) (records_of before) q.rr (λ s has. inr has) (all (p ∷ before) others q (ap (λ ps. p ∷ ps) parts))

found : (placed : List Placed) (r : Record) → Has (records_of placed) r → (before others : List Placed) × (p : Placed) × (placed ≡ before ++ p ∷ others) × (r ≡ p.rr)
found [] r has = absurd has
found (p ∷ placed) r (inl same) = ([], placed, p, refl, same)
found (p ∷ placed) r (inr more) =
    let (before, others, q, parts, same) = found placed r more in
    (p ∷ before, others, q, ap (λ ps. p ∷ ps) parts, same)

with_first : (p : Placed) (placed : List Placed) (r : Record) → AllAccepted (p ∷ placed) → Has (records_of placed) r → Accepts (p.rr ∷ []) r
with_first p placed r all has =
    let (before, others, q, parts, same) = found placed r has in
    subst (λ x. Accepts (p.rr ∷ []) x) (sym same) (fewer (p.rr ∷ records_of before) (p.rr ∷ []) q.rr (λ s is. ⊎_elim (λ one. inl one) (λ none. absurd none) is) (all (p ∷ before) others q (ap (λ ps. p ∷ ps) parts)))

together : (placed : List Placed) → AllAccepted placed → (s r : Record) → Has (records_of placed) s → Has (records_of placed) r → Accepts (s ∷ []) r
together [] all s r has_s has_r = absurd has_s
together (p ∷ placed) all s r (inl is_s) (inl is_r) = subst (λ x. Accepts (x ∷ []) r) (is_r ∙ sym is_s) (itself r)
together (p ∷ placed) all s r (inl is_s) (inr has_r) = subst (λ x. Accepts (x ∷ []) r) (sym is_s) (with_first p placed r all has_r)
together (p ∷ placed) all s r (inr has_s) (inl is_r) = swapped s r (subst (λ x. Accepts (x ∷ []) s) (sym is_r) (with_first p placed s all has_s))
together (p ∷ placed) all s r (inr has_s) (inr has_r) = together placed (later p placed all) s r has_s has_r

-- a record that came before may stand with all
pub Accepts-again : (placed : List Placed) (r : Record) → AllAccepted placed → Has (records_of placed) r → Accepts (records_of placed) r
Accepts-again placed r all has = from_each (records_of placed) r (λ s has_s. together placed all s r has_s has)

-- ---- one more record

split_end : (before others placed : List Placed) (p q : Placed) → placed ++ q ∷ [] ≡ before ++ p ∷ others → ((placed ≡ before) × (q ≡ p)) ⊎ ((more : List Placed) × (placed ≡ before ++ p ∷ more))
split_end [] others [] p q is = inl (refl, cc)
split_end [] others (x ∷ placed) p q is = inr (placed, cc)
split_end (b ∷ before) others [] p q is = grind (arith, no_end before)
  where
    no_end : (before : List Placed) → before ++ p ∷ others ≢ []
    no_end [] none = grind arith
    no_end (b ∷ before) none = grind arith
split_end (b ∷ before) others (x ∷ placed) p q is =
    let first : x ≡ b = cc in
    let rest : placed ++ q ∷ [] ≡ before ++ p ∷ others = cc in
    ⊎_elim (λ (same, last). inl (cc, last)) (λ (more, same). inr (more, cc)) (split_end before others placed p q rest)

front : (placed others : List Placed) → AllAccepted (placed ++ others) → AllAccepted placed
front placed others all before more p parts = all before (more ++ others) p (ap (λ ps. ps ++ others) parts ∙ append_assoc before (p ∷ more) others)

accepted_more : (placed : List Placed) (q : Placed) → AllAccepted placed → Accepts (records_of placed) q.rr → AllAccepted (placed ++ q ∷ [])
accepted_more placed q all fits before others p parts =
    ⊎_elim (λ (same, last). subst (λ x. Accepts (records_of before) x.rr) last (subst (λ ps. Accepts (records_of ps) q.rr) same fits)) (λ (more, same). all before more p same) (split_end before others placed p q parts)

refused_more : (placed others : List Placed) (f : Fault) (place : Place) → IsFirstRefused placed f place → IsFirstRefused (placed ++ others) f place
refused_more placed others f place first = record {
  before = first.before;
  refused = first.refused;
  others = first.others ++ others;
  parts = ap (λ ps. ps ++ others) first.parts ∙ append_assoc first.before (first.refused ∷ first.others) others;
  accepted = first.accepted;
  why = first.why;
  stands = first.stands;
}

refused_same : (held more : List Record) (r : Record) (f : Fault) → SameRecords held more → IsRefusedFor held r f → IsRefusedFor more r f
refused_same held more r f same (builder.class (s, has, other)) = builder.class (s, (same s).0 has, other)
refused_same held more r f same (builder.soa class (s, has, other)) = builder.soa (λ (t, among, differ). class (t, (same t).1 among, differ)) (s, (same s).0 has, other)
refused_same held more r f same (builder.ttl class soa (s, has, one, other)) = builder.ttl (λ (t, among, differ). class (t, (same t).1 among, differ)) (λ (t, among, differ). soa (t, (same t).1 among, differ)) (s, (same s).0 has, one, other)

has_end : (placed : List Placed) (p : Placed) (r : Record) → Has (records_of (placed ++ p ∷ [])) r ↔ (Has (records_of placed) r ⊎ Has (p.rr ∷ []) r)
has_end placed p r = subst (λ rs. Has rs r ↔ (Has (records_of placed) r ⊎ Has (p.rr ∷ []) r)) (sym (map-append (λ (q : Placed). q.rr) placed (p ∷ []))) (Has-append (records_of placed) (p.rr ∷ []) r)

module _ (given kept : List Placed) (tells : Tells given kept) (p : Placed) where
  -- a record that is kept
  pub Tells-first : Tells (given ++ p ∷ []) (kept ++ p ∷ [])
  Tells-first = record {
    same = λ r. grind (arith, has_end given p r, has_end kept p r, tells.same r);
    accepted = λ all. accepted_more given p (tells.accepted (front kept (p ∷ []) all)) (fewer (records_of kept) (records_of given) p.rr (λ s. (tells.same s).1) (all kept [] p refl));
    refused = λ f place first. ⊎_elim (own f place first) (λ (more, is). refused_more given (p ∷ []) f place (tells.refused f place (record {
      before = first.before;
      refused = first.refused;
      others = more;
      parts = is;
      accepted = first.accepted;
      why = first.why;
      stands = first.stands;
    }))) (split_end first.before first.others kept first.refused p first.parts);
  }
    where
      own : (f : Fault) (place : Place) (first : IsFirstRefused (kept ++ p ∷ []) f place) → ((kept ≡ first.before) × (p ≡ first.refused)) → IsFirstRefused (given ++ p ∷ []) f place
      own f place first (same, last) = record {
        before = given;
        refused = p;
        others = [];
        parts = refl;
        accepted = tells.accepted (subst AllAccepted (sym same) first.accepted);
        why = refused_same (records_of kept) (records_of given) p.rr f tells.same (subst (λ ps. IsRefusedFor (records_of ps) p.rr f) (sym same) (subst (λ q. IsRefusedFor (records_of first.before) q.rr f) (sym last) first.why));
        stands = first.stands ∙ ap (λ q. q.place) (sym last);
      }

  -- and a repeat, which is dropped
  pub Tells-again : Has (records_of kept) p.rr → Tells (given ++ p ∷ []) kept
  Tells-again has = record {
    same = λ r. (λ among. (has_end given p r).1 (inl ((tells.same r).0 among)), λ among. ⊎_elim (λ early. (tells.same r).1 early) (⊎_elim (λ is. subst (Has (records_of kept)) (sym is) has) (λ none. absurd none)) ((has_end given p r).0 among));
    accepted = λ all. accepted_more given p (tells.accepted all) (Accepts-again given p.rr (tells.accepted all) ((tells.same p.rr).0 has));
    refused = λ f place first. refused_more given (p ∷ []) f place (tells.refused f place first);
  }

pub tells_pushed : (given kept new : List Placed) (p : Placed) → Tells given kept → new ≡ kept ++ p ∷ [] → Tells (given ++ p ∷ []) new
tells_pushed given kept new p tells is = subst (Tells (given ++ p ∷ [])) (sym is) (Tells-first given kept tells p)

pub told_pushed : {E : Type 0} (told : Result Bool E) (given kept new : List Placed) (p : Placed) → Tells given kept → IfOk told (λ b. b ≡ true → new ≡ kept ++ p ∷ []) → IfOk told (λ b. b ≡ true → Tells (given ++ p ∷ []) new)
told_pushed (Ok b) given kept new p tells pushed = λ is. tells_pushed given kept new p tells (pushed is)
told_pushed (Err e) given kept new p tells pushed = tt

-- records that are given after
pub Tells-more : (given kept more : List Placed) → Tells given kept → Tells (given ++ more) (kept ++ more)
Tells-more given kept [] tells = subst (λ ps. Tells ps (kept ++ [])) (sym (append-nil given)) (subst (Tells given) (sym (append-nil kept)) tells)
Tells-more given kept (p ∷ more) tells =
    subst (λ ps. Tells ps (kept ++ p ∷ more)) (append_assoc given (p ∷ []) more)
    (subst (Tells ((given ++ p ∷ []) ++ more)) (append_assoc kept (p ∷ []) more) (Tells-more (given ++ p ∷ []) (kept ++ p ∷ []) more (Tells-first given kept tells p)))

-- ---- what is listed of a source after them

pub ListsAll-given : (given old : List Placed) (pending : Pending) (new : List Placed) (rest : Pending) → Tells given old → ListsAll old pending new rest → ListsAll given pending new rest
ListsAll-given given old pending new rest tells lists = record {
  works = lists.works;
  whole = lists.whole;
  listed = Tells-trans (given ++ pending.records) (old ++ pending.records) new (Tells-more given old pending.records tells) lists.listed;
  emptied = lists.emptied;
}

onto : (given old new taken : List Placed) → Tells given old → Tells (old ++ taken) new → Tells (given ++ taken) new
onto given old new taken tells more = Tells-trans (given ++ taken) (old ++ taken) new (Tells-more given old taken tells) more

pub StopsListing-given : (given old : List Placed) (pending : Pending) (new : List Placed) (rest : Pending) (stop : Stop) → Tells given old → StopsListing old pending new rest stop → StopsListing given pending new rest stop
StopsListing-given given old pending new rest _ tells (zone_list.failure fails kept left) = zone_list.failure fails (Tells-trans given old new tells kept) left
StopsListing-given given old pending new rest _ tells (zone_list.memory taken others p works parts kept left) = zone_list.memory taken others p works parts (onto given old new taken tells kept) left
StopsListing-given given old pending new rest _ tells (zone_list.class taken others p works parts kept left other) = zone_list.class taken others p works parts (onto given old new taken tells kept) left other
StopsListing-given given old pending new rest _ tells (zone_list.ending e works is kept left) = zone_list.ending e works is (onto given old new pending.records tells kept) left

-- ---- what is told once they are settled

pub IsSettledAs-given : (given kept : List Placed) (held : List Record) → Tells given kept → IsSettledAs kept held → IsSettledAs given held
IsSettledAs-given given kept held tells settled = record {
  accepted = tells.accepted settled.accepted;
  same = λ r. (λ has. (tells.same r).0 ((settled.same r).0 has), λ has. (settled.same r).1 ((tells.same r).1 has));
}

pub StopsSettling-given : (given kept : List Placed) (stop : Stop) → Tells given kept → StopsSettling kept stop → StopsSettling given stop
StopsSettling-given given kept stop tells zone_list.memory = zone_list.memory
StopsSettling-given given kept stop tells (zone_list.refused f place first) = zone_list.refused f place (tells.refused f place first)

-- another class shows in what is kept
pub OtherClass-given : (given kept : List Placed) (r : Record) → Tells given kept → OtherClass (records_of kept) r → OtherClass (records_of given) r
OtherClass-given given kept r tells (s, has, other) = (s, (tells.same s).0 has, other)

-- ---- records that are listed again

-- an entry stands among them
pub has_entry : (class : ℕ) (octets : List ℕ) (es : List Entry) (k : ℕ) (e : Entry) (rest : List Entry) → drop k es ≡ e ∷ rest → Has (all_records class octets es) (entry_record class octets e)
has_entry class octets [] zero e rest is = grind arith
has_entry class octets [] (suc k) e rest is = grind arith
has_entry class octets (x ∷ es) zero e rest is = inl cc
has_entry class octets (x ∷ es) (suc k) e rest is = inr (has_entry class octets es k e rest is)

-- some first records are told by what is kept, and these are left with their places
pub record HasThinned (placed kept : List Placed) (records : List Record) (places : List Place) : Type 0 where
  pub taken : List Placed
  pub parts : placed ≡ taken ++ placed_at records places
  pub tells : Tells taken kept

module _ (placed kept : List Placed) (r : Record) (place : Place) (records : List Record) (places : List Place) (had : HasThinned placed kept (r ∷ records) (place ∷ places)) where
  abbrev Next : Placed
  Next = record { rr = r; place = place }

  pub HasThinned-first : HasThinned placed (kept ++ Next ∷ []) records places
  HasThinned-first = record {
    taken = had.taken ++ Next ∷ [];
    parts = had.parts ∙ sym (append_assoc had.taken (Next ∷ []) (placed_at records places));
    tells = Tells-first had.taken kept had.tells Next;
  }

  pub HasThinned-again : Has (records_of kept) r → HasThinned placed kept records places
  HasThinned-again has = record {
    taken = had.taken ++ Next ∷ [];
    parts = had.parts ∙ sym (append_assoc had.taken (Next ∷ []) (placed_at records places));
    tells = Tells-again had.taken kept had.tells Next has;
  }

  -- what holds of all holds of the next
  pub next_has : (P : Record → Type 0) → AllByRecursion (λ p. P p.rr) placed → P r
  next_has P each = (AllByRecursion-back (λ p. P p.rr) had.taken (placed_at (r ∷ records) (place ∷ places)) (subst (AllByRecursion (λ p. P p.rr)) had.parts each)).0

pub Tells-at_end : (placed kept : List Placed) (records : List Record) (places : List Place) → HasThinned placed kept records places → (records ≡ []) ⊎ (places ≡ []) → Tells placed kept
Tells-at_end placed kept records places had none = subst (λ ps. Tells ps kept) (all_taken placed had.taken records places had.parts none) had.tells
