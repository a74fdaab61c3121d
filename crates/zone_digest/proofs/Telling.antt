-- The octets that are digested tell the digested records.
use Rattle.zone_set.proofs.Common.{[], ◌≡◌, ◌<◌, ◌++◌, ℕ, List, ◌∷◌, length, refl, sym, ap, ◌∙◌, subst, arith, ◌↔◌, Has, IsRecord, IsZone, Record}
use Rattle.std.proofs.Common.{append_assoc, ap₂, ◌^◌, ◌+◌, length-append}
use Rattle.std.proofs.lemmas.List.{append_cancel_left}
use Rattle.std.proofs.lemmas.Nat.{from_be_bytes-to_be_bytes_2, from_be_bytes-to_be_bytes_4}
use Rattle.std.specs.Int.{from_be_bytes, to_be_bytes, w16, w32}
use Rattle.std.specs.List.{AllByRecursion, flat_map}
use Rattle.zone_name.proofs.InOctets.Octets.{labels_of-wire_append}
use Rattle.zone_name.specs.Common.{Labels, Octets}
use Rattle.zone_name.specs.Name.{IsLabel, labels_of, wire}
use Rattle.zone_rdata.proofs.Octets.Sent.{append_same}
use Rattle.zone_set.proofs.Holding.Together.{each_Has, each_from_Has}
use Rattle.zone_set.specs.Zone.{Zone}
use Rattle.zone_digest.specs.Digest.{AreDigestOctets, IsDigested, record_octets}
use Rattle.data_names.proofs.Once.{lowered_length}
use Rattle.data_names.specs.NamesInData.{names_of}
use Rattle.zone_digest.proofs.Sets.{record_same}

-- what can be got back from a record's octets
pub record IsTold (r : Record) : Type 0 where
  pub owner : AllByRecursion IsLabel r.owner
  pub class : r.class < 2 ^ 16
  pub kind : r.kind < 2 ^ 16
  pub ttl : r.ttl < 2 ^ 32
  pub short : length r.octets < 2 ^ 16

two : (m n : ℕ) (x y : List ℕ) → m < 2 ^ 16 → n < 2 ^ 16 → to_be_bytes w16 m ++ x ≡ to_be_bytes w16 n ++ y → (m ≡ n) × (x ≡ y)
two m n x y a b e =
    let s = append_same (to_be_bytes w16 m) (to_be_bytes w16 n) x y refl e in
    (sym (from_be_bytes-to_be_bytes_2 m a) ∙ ap (from_be_bytes w16) s.0 ∙ from_be_bytes-to_be_bytes_2 n b, s.1)

four : (m n : ℕ) (x y : List ℕ) → m < 2 ^ 32 → n < 2 ^ 32 → to_be_bytes w32 m ++ x ≡ to_be_bytes w32 n ++ y → (m ≡ n) × (x ≡ y)
four m n x y a b e =
    let s = append_same (to_be_bytes w32 m) (to_be_bytes w32 n) x y refl e in
    (sym (from_be_bytes-to_be_bytes_4 m a) ∙ ap (from_be_bytes w32) s.0 ∙ from_be_bytes-to_be_bytes_4 n b, s.1)

name : (a b : Labels) (x y : List ℕ) → AllByRecursion IsLabel a → AllByRecursion IsLabel b → wire a ++ x ≡ wire b ++ y → (a ≡ b) × (x ≡ y)
name a b x y p q e =
    let same : a ≡ b = sym (labels_of-wire_append a x p) ∙ ap labels_of e ∙ labels_of-wire_append b y q in
    (same, append_cancel_left (wire b) x y (subst (λ l. wire l ++ x ≡ wire b ++ y) same e))

abbrev after_name : Record → List ℕ → List ℕ
after_name r x =
    to_be_bytes w16 r.kind ++ (to_be_bytes w16 r.class ++ (to_be_bytes w32 r.ttl
    ++ (to_be_bytes w16 (length r.octets) ++ (r.octets ++ x))))

parts : (r : Record) (x : List ℕ) → record_octets r ++ x ≡ wire r.owner ++ after_name r x
parts r x = append_assoc (wire r.owner) (to_be_bytes w16 r.kind ++ (to_be_bytes w16 r.class ++ (to_be_bytes w32 r.ttl ++ (to_be_bytes w16 (length r.octets) ++ r.octets)))) x

front : (r s : Record) (x y : List ℕ) → IsTold r → IsTold s → record_octets r ++ x ≡ record_octets s ++ y → (r ≡ s) × (x ≡ y)
front r s x y a b e =
    let n = name r.owner s.owner (after_name r x) (after_name s y) a.owner b.owner (sym (parts r x) ∙ e ∙ parts s y) in
    let k = two r.kind s.kind _ _ a.kind b.kind n.1 in
    let c = two r.class s.class _ _ a.class b.class k.1 in
    let t = four r.ttl s.ttl _ _ a.ttl b.ttl c.1 in
    let l = two (length r.octets) (length s.octets) _ _ a.short b.short t.1 in
    let o = append_same r.octets s.octets x y l.0 l.1 in
    (record_same s r n.0 c.0 k.0 t.0 o.0, o.1)

none : (r : Record) (x : List ℕ) → record_octets r ++ x ≡ [] → ⊥
none r x e =
    let size : length (wire r.owner) + length (after_name r x) ≡ 0 = sym (length-append (wire r.owner) (after_name r x)) ∙ ap length (sym (parts r x) ∙ e) in
    omega arith

lists : (rs ss : List Record) → AllByRecursion IsTold rs → AllByRecursion IsTold ss → flat_map record_octets rs ≡ flat_map record_octets ss → rs ≡ ss
lists [] [] a b e = refl
lists [] (s ∷ ss) a b e = absurd (none s (flat_map record_octets ss) (sym e))
lists (r ∷ rs) [] a b e = absurd (none r (flat_map record_octets rs) e)
lists (r ∷ rs) (s ∷ ss) a b e =
    let f = front r s (flat_map record_octets rs) (flat_map record_octets ss) a.0 b.0 e in
    ap₂ ◌∷◌ f.0 (lists rs ss a.1 b.1 f.1)

told : (z : Zone) → IsZone z → (low : Record) → IsDigested z low → IsTold low
told z zone low (r, has, kept, is) =
    let v = each_Has IsRecord z.records r zone.compatible.each has in
    let size = lowered_length (names_of r.kind r.octets) r.octets low.octets is.octets in
    record {
      owner = subst (AllByRecursion IsLabel) (sym is.owner) v.owner.each;
      class = subst (λ n. n < 2 ^ 16) (sym is.class) v.rdata.class.short;
      kind = subst (λ n. n < 2 ^ 16) (sym is.kind) v.rdata.kind.short;
      ttl = subst (λ n. n < 2 ^ 32) (sym is.ttl) (omega (arith, v.ttl));
      short = subst (λ n. n < 2 ^ 16) (sym size) (omega (arith, v.rdata.octets.short));
    }

pub records_told : (z w : Zone) (octets : Octets) (r : Record) → IsZone z → IsZone w → AreDigestOctets z octets → AreDigestOctets w octets → IsDigested z r ↔ IsDigested w r
records_told z w octets r zone other (rs, are, made) (ss, iz, makes) =
    let same : rs ≡ ss = lists rs ss (each_from_Has IsTold rs (λ x has. told z zone x ((are.same x).0 has))) (each_from_Has IsTold ss (λ x has. told w other x ((iz.same x).0 has))) (sym made ∙ makes) in
    (λ d. (iz.same r).0 (subst (λ l. Has l r) same ((are.same r).1 d)), λ d. (are.same r).0 (subst (λ l. Has l r) (sym same) ((iz.same r).1 d)))
