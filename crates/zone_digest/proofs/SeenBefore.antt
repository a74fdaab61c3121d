-- The hash algorithms of the records that were looked at, and the one that follows them.
use Rattle.zone_set.proofs.Common.{◌≡◌, ℕ, ◌+◌, ◌<◌, List, ◌∷◌, ◌++◌, [], length, take, drop, refl, sym, ap, ◌∙◌, subst, map, inl, inr, ⊎_elim, ◌⊎◌, Less, Equal, Ascends, canonical_cmp, Record, Has, take-append-drop, map-append, tied_itself, true}
use Rattle.std.proofs.Common.{drop-cons, get_or, suc}
use Rattle.zone_rdata.specs.Lent.{record_of}
use Rattle.zone_rdata.specs.declared.lent.RrRef.{RrRef}
use Rattle.zone_set.specs.Zone.{Zone}
use Rattle.zone_set.proofs.Ordering.Between.{Has-append, before_all}
use Rattle.zone_set.proofs.Ordering.SetOrder.{canonical_total}
use Rattle.zone_digest.specs.Verdict.{AreZonemds}
use Rattle.zone_digest.specs.Machine.Seen.{AreSeen, HasPair, IsSeenElsewhere, has_seen}
use Rattle.zone_digest.specs.declared.algorithm.Algorithm.{Algorithm}
use Rattle.zone_digest.specs.declared.seen.Seen.{Seen}
use Rattle.zone_digest.proofs.Sets.{one_more}

pub seen_more : (found : List RrRef) (i : ℕ) (item : RrRef) (seen next : Seen) → item ≡ get_or found i item → i < length found → AreSeen (map record_of (take i found)) seen
    → ((a : Algorithm) → has_seen next a ≡ true → (has_seen seen a ≡ true) ⊎ HasPair (record_of item).octets a) → AreSeen (map record_of (take (i + 1) found)) next
seen_more found i item seen next is fits are grows a has =
    let front = map record_of (take i found) in
    subst (λ rs. (r : Record) × Has rs r × HasPair r.octets a) (sym (one_more found i item is fits))
    (⊎_elim (λ before. let it = are a before in (it.0, (Has-append front (record_of item ∷ []) it.0).1 (inl it.1), it.2))
    (λ pair. (record_of item, (Has-append front (record_of item ∷ []) (record_of item)).1 (inr (inl refl)), pair)) (grows a has))

pub seen_elsewhere : (z : Zone) (found : List RrRef) (i : ℕ) (item : RrRef) (seen : Seen) → AreZonemds z (map record_of found) → item ≡ get_or found i item → i < length found → AreSeen (map record_of (take i found)) seen
    → IsSeenElsewhere z (record_of item) seen
seen_elsewhere z found i item seen zonemds is fits are a has f scheme algorithm =
    let it = are a has in
    let front = map record_of (take i found) in
    let back = map record_of (drop i found) in
    let parts : front ++ back ≡ map record_of found = sym (map-append record_of (take i found) (drop i found)) ∙ ap (map record_of) (take-append-drop i found) in
    let next : drop i found ≡ item ∷ drop (suc i) found = drop-cons found i item fits ∙ ap (λ x. x ∷ drop (suc i) found) (sym is) in
    let here : Has back (record_of item) = rw next (inl refl) in
    let less : canonical_cmp it.0 (record_of item) ≡ Less = before_all front back it.0 (record_of item) (subst Ascends (sym parts) zonemds.ascend) it.1 here in
    record {
      other = it.0;
      zonemd = (zonemds.same it.0).0 (subst (λ rs. Has rs it.0) parts ((Has-append front back it.0).1 (inl it.1)));
      differs = λ same. (let tied : canonical_cmp it.0 it.0 ≡ Equal = tied_itself canonical_total it.0 in let no : Less ≡ Equal = sym (subst (λ r. canonical_cmp it.0 r ≡ Less) (sym same) less) ∙ tied in absurd cc);
      fields = it.2.fields;
      parts = it.2.parts;
      scheme = it.2.scheme ∙ sym scheme;
      algorithm = it.2.algorithm ∙ sym algorithm;
    }
