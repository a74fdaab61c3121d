-- The data of a host's identity, whose lengths are put back within it and then printed.
use Rattle.zone_rdata.proofs.Octets.Sent.{append_same}
use Rattle.zone_rdata.specs.Limits.{longest_data}
use Rattle.type_data.proofs.Common.{List, NamedField, [], ap, append_assoc, arith, length, refl, subst, sym, TouchingItem, StateParts, ℕ, ◌++◌, ◌∙◌, ◌∷◌, ◌≡◌, ◌≤◌}
use Rattle.type_data.proofs.OfKinds.HostIdentity.Lengths.{HipParts, hip_parts, in_octets, in_words, key_after}
use Rattle.type_data.proofs.OfKinds.Number.Printed.{u8_printed_states}
use Rattle.type_data.proofs.Printed.OwnFields.{one_printed}
use Rattle.type_data.proofs.OfKinds.Gateway.Ipseckey.{u8_octet}
use Rattle.type_data.specs.Data.{joined, left_over, lengths_first}
use Rattle.type_data.specs.Kinds.HostIdentity.Machine.{HasNoLengthsFirst, PutsLengthsWithin}
use Rattle.type_data.specs.Machine.PrintedFields.{OnlyLastPrintsAll}
use Rattle.type_data.specs.Parameters.Printed.{PrintsTouching}
use Rattle.type_data.specs.PrintedData.{HasNoWords, NoItemsOf, PrintParts, PrintsData, PrintsFields}
use Rattle.type_data.specs.Table.{hip_fields, of_hip}
use Rattle.type_data.specs.declared.field.BareKind.TheVariants.{HostIdentityTag, PublicKey, U8}

-- ---- the order of the octets

-- octets in the order of the fields give those in the order of the data, and back
to_octets : (a b : ℕ) (t s : List ℕ) (h l i m : ℕ) (r q : List ℕ) → a ∷ length t ∷ (t ++ h ∷ l ∷ r) ≡ b ∷ length s ∷ (s ++ i ∷ m ∷ q) → length t ∷ a ∷ h ∷ l ∷ (t ++ r) ≡ length s ∷ b ∷ i ∷ m ∷ (s ++ q)
to_octets a b t s h l i m r q e =
    let longs : length t ≡ length s = cc e in
    let of = append_same t s (h ∷ l ∷ r) (i ∷ m ∷ q) longs (cc e) in
    cc (e, of.0, of.1)

to_fields : (a b : ℕ) (t s : List ℕ) (h l i m : ℕ) (r q : List ℕ) → length t ∷ a ∷ h ∷ l ∷ (t ++ r) ≡ length s ∷ b ∷ i ∷ m ∷ (s ++ q) → a ∷ length t ∷ (t ++ h ∷ l ∷ r) ≡ b ∷ length s ∷ (s ++ i ∷ m ∷ q)
to_fields a b t s h l i m r q e =
    let longs : length t ≡ length s = cc e in
    let of = append_same t s r q longs (cc e) in
    cc (e, of.0, of.1)

again : (octets ordered : List ℕ) (parts : List (List ℕ)) → PutsLengthsWithin octets [] ordered → HipParts parts → ordered ≡ joined parts → octets ≡ lengths_first parts
again octets ordered parts w h value =
    w.are ∙ to_octets w.algorithm h.algorithm w.tag h.tag w.high w.low h.high h.low w.rest (h.key ++ h.servers) (sym w.written ∙ value ∙ in_words parts h) ∙ sym (in_octets parts h)

within : (octets ordered : List ℕ) (parts : List (List ℕ)) → PutsLengthsWithin octets [] ordered → HipParts parts → octets ≡ lengths_first parts → ordered ≡ joined parts
within octets ordered parts w h value =
    w.written ∙ to_fields w.algorithm h.algorithm w.tag h.tag w.high w.low h.high h.low w.rest (h.key ++ h.servers) (sym w.are ∙ value ∙ in_octets parts h) ∙ sym (in_words parts h)

-- the lengths, as they are taken one after another
pub put_within : (octets r1 r2 r3 lens tag rest old o1 o2 o3 new : List ℕ) (tag_len algorithm n : ℕ) → octets ≡ tag_len ∷ r1 → r1 ≡ algorithm ∷ r2 → length lens ≡ 2 → r2 ≡ lens ++ r3 → length tag ≡ n → n ≡ tag_len → r3 ≡ tag ++ rest → o1 ≡ old ++ algorithm ∷ tag_len ∷ [] → o2 ≡ o1 ++ tag → o3 ≡ o2 ++ lens → new ≡ o3 ++ rest → PutsLengthsWithin octets old new
put_within octets r1 r2 r3 [] tag rest old o1 o2 o3 new tag_len algorithm n e0 e1 two e2 long same e3 w1 w2 w3 w4 = absurd (omega (arith, two))
put_within octets r1 r2 r3 (high ∷ []) tag rest old o1 o2 o3 new tag_len algorithm n e0 e1 two e2 long same e3 w1 w2 w3 w4 = absurd (omega (arith, two))
put_within octets r1 r2 r3 (high ∷ low ∷ x ∷ more) tag rest old o1 o2 o3 new tag_len algorithm n e0 e1 two e2 long same e3 w1 w2 w3 w4 = absurd (omega (arith, two))
put_within octets r1 r2 r3 (high ∷ low ∷ []) tag rest old o1 o2 o3 new tag_len algorithm n e0 e1 two e2 long same e3 w1 w2 w3 w4 =
    let tag_is : tag_len ≡ length tag = sym (long ∙ same) in
    let all : new ≡ (((old ++ algorithm ∷ tag_len ∷ []) ++ tag) ++ high ∷ low ∷ []) ++ rest = w4 ∙ ap (λ o. o ++ rest) (w3 ∙ ap (λ o. o ++ high ∷ low ∷ []) (w2 ∙ ap (λ o. o ++ tag) w1)) in
    let apart : (((old ++ algorithm ∷ tag_len ∷ []) ++ tag) ++ high ∷ low ∷ []) ++ rest ≡ old ++ (algorithm ∷ tag_len ∷ (tag ++ high ∷ low ∷ rest)) = simp append_assoc in
    record {
      algorithm = algorithm;
      tag = tag;
      high = high;
      low = low;
      rest = rest;
      are = cc (e0, e1, e2, e3, tag_is);
      written = all ∙ apart ∙ ap (λ k. old ++ (algorithm ∷ k ∷ (tag ++ high ∷ low ∷ rest))) tag_is;
    }

-- ---- the parts of printed data

printed_parts : (items : List TouchingItem) (parts : List (List ℕ)) → PrintParts hip_fields items parts → HipParts parts
printed_parts items [] p = absurd p
printed_parts items (a ∷ []) p = absurd p.4
printed_parts items (a ∷ t ∷ []) p = absurd p.4.4
printed_parts items (a ∷ t ∷ k ∷ []) p = absurd p.4.4.4
printed_parts items (a ∷ t ∷ k ∷ s ∷ more ∷ parts) p = absurd p.4.4.4.4
printed_parts items (a ∷ t ∷ k ∷ s ∷ []) p =
    let x = one_printed U8 p.0 p.1 items a p.2 p.3 in
    let y = one_printed HostIdentityTag p.4.0 p.4.1 p.1 t p.4.2 p.4.3 in
    let z = one_printed PublicKey p.4.4.0 p.4.4.1 p.4.1 k p.4.4.2 p.4.4.3 in
    let number = u8_printed_states x.text a x.printed in
    let key = key_after z.text k z.printed in
    record {
      algorithm = number.number;
      tag = y.printed.value;
      high = key.high;
      low = key.low;
      key = key.value;
      servers = s;
      are = cc (u8_octet x.text a number, y.printed.written, key.is);
    }

pub hip_printed : (fields : List NamedField) (octets ordered empty old new : List ℕ) → empty ≡ [] → fields ≡ hip_fields → PutsLengthsWithin octets empty ordered → length octets ≤ longest_data → PrintsTouching (PrintsFields fields) ordered old new → PrintsTouching (PrintsData of_hip) octets old new
hip_printed fields octets ordered empty old new none are put short p =
    let w : PutsLengthsWithin octets [] ordered = subst (λ e. PutsLengthsWithin octets e ordered) none put in
    let each : PrintParts hip_fields p.items p.printed.parts = subst (λ fs. PrintParts fs p.items p.printed.parts) are p.printed.each in
    record {
      items = p.items;
      printed = record { parts = p.printed.parts; each = each; value = again octets ordered p.printed.parts w (printed_parts p.items p.printed.parts each) p.printed.value; short = short };
      appended = p.appended;
    }

-- ---- data without words

pub hip_none : (fields : List NamedField) (octets ordered empty : List ℕ) → empty ≡ [] → fields ≡ hip_fields → PutsLengthsWithin octets empty ordered → (OnlyLastPrintsAll fields → NoItemsOf fields ordered) → HasNoWords of_hip octets
hip_none fields octets ordered empty nothing are put none origin items states =
    let w : PutsLengthsWithin octets [] ordered = subst (λ e. PutsLengthsWithin octets e ordered) nothing put in
    let h = hip_parts origin items states.parts states.each in
    none (subst OnlyLastPrintsAll (sym are) (refl, (refl, (refl, tt)))) origin items states.parts (subst (λ fs. StateParts origin fs items states.parts) (sym are) states.each)
    (subst (λ fs. left_over fs items ≡ []) (sym are) states.whole) (within octets ordered states.parts w h states.value)

pub hip_cut : (octets : List ℕ) → HasNoLengthsFirst octets → HasNoWords of_hip octets
hip_cut octets none origin items states =
    let h = hip_parts origin items states.parts states.each in
    none h.algorithm h.tag h.high h.low (h.key ++ h.servers) (states.value ∙ in_octets states.parts h)
