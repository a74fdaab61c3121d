-- A zone has a digest of each algorithm.
use Rattle.zone_set.proofs.Common.{[], ◌≡◌, List, ◌∷◌, refl, sym, ap, ◌∙◌, subst, inl, inr, ⊎_elim, ◌⊎◌, ◌↔◌, Equal, Has, InOneSet, IsRecord, IsZone, Record, bytes_decides, exact_bytes, exact_unsigned, name_cmp-exact, take, if◌then◌else◌, ◌==◌}
use Rattle.std.proofs.lemmas.Bool.Decides.{Decides-eqb}
use Rattle.std.specs.Cmp.Lexicographic.{pointwise_decides}
use Rattle.std.specs.List.{flat_map}
use Rattle.zone_name.specs.Common.{Labels}
use Rattle.zone_set.proofs.Holding.Together.{each_Has}
use Rattle.zone_set.proofs.Ordering.SetOrder.{both_equal}
use Rattle.zone_set.specs.Zone.{Zone}
use Rattle.zone_digest.specs.Digest.{AscendsByOwner, digest_cmp, hashed, IsDigest, IsLeftOut, IsLoweredRecord, record_octets}
use Rattle.data_names.specs.NamesInData.{names_of}
use Rattle.zone_digest.specs.declared.algorithm.Algorithm.{Algorithm}
use Rattle.zone_digest.specs.declared.algorithm.ZoneDigest.{ZoneDigest}
use Rattle.data_names.proofs.Lowered.{low_of}
use Rattle.zone_digest.proofs.Putting.{put}
use Rattle.zone_digest.proofs.SameDigest.{one_form}
use Rattle.zone_digest.proofs.SetOrder.{same_covers}
use Rattle.zone_digest.proofs.Sets.{lower_as, record_same}
use Rattle.zone_digest.proofs.Soa.{digest_total}
use Rattle.zone_rdata.proofs.Choices.{Decided, both_or_not, either_or_not, tested_or_not}
use Rattle.zone_rdata.proofs.Words.OneWord.{same_or_not}

-- ---- a record that is left out
left_out : (apex : Labels) (r : Record) → Decided (IsLeftOut apex r)
left_out apex r =
    both_or_not (tested_or_not _ (pointwise_decides bytes_decides r.owner apex))
    (either_or_not (tested_or_not _ (Decides-eqb r.kind 63))
    (both_or_not (tested_or_not _ (Decides-eqb r.kind 46)) (same_or_not (take 2 r.octets) (0 ∷ 63 ∷ []))))

-- ---- the canonical forms
form_of : (r : Record) → IsRecord r → (low : Record) × IsLoweredRecord r low
form_of r is =
    let low = low_of (names_of r.kind r.octets) r.octets is.rdata.octets.each in
    (lower_as r low.0, record { owner = refl; class = refl; kind = refl; ttl = refl; octets = low.1 })

-- records that the order doesn't tell apart differ in their TTL at most
exact : (r s : Record) → digest_cmp r s ≡ Equal → (r.owner ≡ s.owner) × (r.class ≡ s.class) × (r.kind ≡ s.kind) × (r.octets ≡ s.octets)
exact r s tied =
    let owners = both_equal _ _ tied in
    let classes = both_equal _ _ owners.1 in
    let kinds = both_equal _ _ classes.1 in
    (name_cmp-exact r.owner s.owner owners.0, exact_unsigned r.class s.class classes.0, exact_unsigned r.kind s.kind kinds.0, exact_bytes r.octets s.octets kinds.1)

module _ (z : Zone) (is : IsZone z) where
  -- those of a zone's records don't
  one_low : (r s low other : Record) → Has z.records r → Has z.records s → IsLoweredRecord r low → IsLoweredRecord s other → digest_cmp low other ≡ Equal → other ≡ low
  one_low r s low other has_r has_s is_r is_s tied =
      let e = exact low other tied in
      let one : InOneSet r s = record {
        owner = sym is_r.owner ∙ e.0 ∙ is_s.owner;
        kind = sym is_r.kind ∙ e.2 ∙ is_s.kind;
        covers = sym (same_covers r low is_r) ∙ ap (λ k. if k == 46 then take 2 low.octets else []) e.2 ∙ ap (λ o. if other.kind == 46 then take 2 o else []) e.3 ∙ same_covers s other is_s;
      } in
      record_same low other (sym e.0) (sym e.1) (sym e.2) (is_s.ttl ∙ sym (is.compatible.one_ttl r s has_r has_s one) ∙ sym is_r.ttl) (sym e.3)

  -- the canonical forms of some of a zone's records, without those that are left out
  abbrev AreFormsOf : List Record → List Record → Type 0
  AreFormsOf rs lower = AscendsByOwner lower × ((s : Record) → Has lower s ↔ ((r : Record) × Has rs r × (IsLeftOut z.apex r → ⊥) × IsLoweredRecord r s))

  form_in : (x : Record) → Has z.records x → (low : Record) × IsLoweredRecord x low
  form_in x has = form_of x (each_Has IsRecord z.records x is.compatible.each has)

  -- a record that isn't left out is put among the forms
  one_more : (x : Record) (rs lower : List Record) → Has z.records x → ((r : Record) → Has rs r → Has z.records r) → (IsLeftOut z.apex x → ⊥) → AreFormsOf rs lower → (new : List Record) × AreFormsOf (x ∷ rs) new
  one_more x rs lower has_x among kept (up, same) = (grown.0, (grown.1, λ s. (there s, back s)))
    where
      form : (low : Record) × IsLoweredRecord x low
      form = form_in x has_x

      tied : (s : Record) → Has lower s → digest_cmp form.0 s ≡ Equal → s ≡ form.0
      tied s has equal = let f = (same s).0 has in one_low x f.0 form.0 s has_x (among f.0 f.1) form.1 f.3 equal

      grown : (new : List Record) × AscendsByOwner new × ((s : Record) → Has new s ↔ ((s ≡ form.0) ⊎ Has lower s))
      grown = put digest_cmp digest_total AscendsByOwner tt (λ r records. (λ u. u, λ u. u)) form.0 lower up tied

      there : (s : Record) → Has grown.0 s → (r : Record) × Has (x ∷ rs) r × (IsLeftOut z.apex r → ⊥) × IsLoweredRecord r s
      there s has = ⊎_elim (λ e. (x, inl refl, kept, subst (IsLoweredRecord x) (sym e) form.1)) (λ h. (let f = (same s).0 h in (f.0, inr f.1, f.2, f.3))) ((grown.2 s).0 has)

      back : (s : Record) → ((r : Record) × Has (x ∷ rs) r × (IsLeftOut z.apex r → ⊥) × IsLoweredRecord r s) → Has grown.0 s
      back s (r, inl e, stays, low) = (grown.2 s).1 (inl (one_form x form.0 s form.1 (subst (λ t. IsLoweredRecord t s) e low)))
      back s (r, inr h, stays, low) = (grown.2 s).1 (inr ((same s).1 (r, h, stays, low)))

  none_more : (x : Record) (rs lower : List Record) → IsLeftOut z.apex x → AreFormsOf rs lower → AreFormsOf (x ∷ rs) lower
  none_more x rs lower out (up, same) = (up, λ s. (there s, back s))
    where
      there : (s : Record) → Has lower s → (r : Record) × Has (x ∷ rs) r × (IsLeftOut z.apex r → ⊥) × IsLoweredRecord r s
      there s has = let f = (same s).0 has in (f.0, inr f.1, f.2, f.3)

      back : (s : Record) → ((r : Record) × Has (x ∷ rs) r × (IsLeftOut z.apex r → ⊥) × IsLoweredRecord r s) → Has lower s
      back s (r, inl e, kept, low) = absurd (kept (subst (IsLeftOut z.apex) (sym e) out))
      back s (r, inr h, kept, low) = (same s).1 (r, h, kept, low)

  forms_by : (x : Record) (rs lower : List Record) → Has z.records x → ((r : Record) → Has rs r → Has z.records r) → AreFormsOf rs lower → Decided (IsLeftOut z.apex x) → (new : List Record) × AreFormsOf (x ∷ rs) new
  forms_by x rs lower has among forms (inl out) = (lower, none_more x rs lower out forms)
  forms_by x rs lower has among forms (inr kept) = one_more x rs lower has among kept forms

  forms_of : (rs : List Record) → ((r : Record) → Has rs r → Has z.records r) → (lower : List Record) × AreFormsOf rs lower
  forms_of [] among = ([], (tt, λ s. (λ none. absurd none, λ from. absurd from.1)))
  forms_of (x ∷ rs) among =
      let rest = forms_of rs (λ r has. among r (inr has)) in
      forms_by x rs rest.0 (among x (inl refl)) (λ r has. among r (inr has)) rest.1 (left_out z.apex x)

  pub some_digest : (a : Algorithm) → (d : ZoneDigest) × IsDigest z a d
  some_digest a =
      let forms = forms_of z.records (λ r has. has) in
      let octets = flat_map record_octets forms.0 in
      (hashed a octets, (octets, (forms.0, record { ascend = forms.1.0; same = forms.1.1 }, refl), refl))
