-- Keys of records: records have one key exactly if they differ in letters of names in data alone.
use Rattle.zone_set.proofs.Common.{◌≡◌, Equal, Ordering, List, [], ◌∷◌, ◌++◌, ◌<◌, ◌≤◌, ◌↔◌, ◌⊎◌, ℕ, Bool, IsTrue, refl, sym, ap, ◌∙◌, subst, arith, inl, inr, ⊎_elim, length, from_be_bytes-to_be_bytes_4, Has, IsRecord, Record}
use Rattle.std.specs.BTreeMap.{is_at}
use Rattle.std.specs.BTreeSet.{insert_key}
use Rattle.std.specs.Global.{Vec}
use Rattle.std.specs.Int.{to_be_bytes, from_be_bytes, w32}
use Rattle.std.specs.List.{list_any}
use Rattle.zone_rdata.proofs.Octets.Sent.{append_same}
use Rattle.data_names.proofs.Once.{lowered_once}
use Rattle.data_names.specs.NamesInData.{IsLowered, IsLoweredRecord, names_in}
use Rattle.data_names.specs.declared.table.FoldedTypes.TheVariants.{Every}
use Rattle.zone_difference.specs.Difference.{AreAlike, AreOfOneRrset}
use Rattle.zone_difference.specs.Folded.{AddsKey, HasKey, IsKey}

-- a record has one key
pub key_once : (r : Record) (a b : List ℕ) → IsKey r a → IsKey r b → a ≡ b
key_once r a b k l = k.parts ∙ ap (λ o. to_be_bytes w32 r.ttl ++ o) (lowered_once (names_in Every r.kind r.octets) r.octets k.low l.low k.lowered l.lowered) ∙ sym l.parts

-- ---- a set of keys

module _ (cmp : Vec ℕ → Vec ℕ → Ordering) (exact : (a b : Vec ℕ) → cmp a b ≡ Equal → a.items ≡ b.items) where
  pub insert_has : (keys : List (Vec ℕ)) (k : Vec ℕ) (octets : List ℕ) → HasKey (insert_key cmp keys k) octets ↔ ((octets ≡ k.items) ⊎ HasKey keys octets)
  insert_has [] k octets = grind arith
  insert_has (x ∷ keys) k octets = grind (arith, insert_has keys k octets, exact k x)

  -- the key of a record is put into the set
  pub adds_key : (r : Record) (old new : List (Vec ℕ)) (k : Vec ℕ) → IsKey r k.items → new ≡ insert_key cmp old k → AddsKey r old new
  adds_key r old new k is grown octets = (
    λ has. ⊎_elim (λ own. inl (subst (IsKey r) (sym own) is)) (λ held. inr held) ((insert_has old k octets).0 (subst (λ l. HasKey l octets) grown has)),
    λ choice. subst (λ l. HasKey l octets) (sym grown) ((insert_has old k octets).1 (⊎_elim (λ own. inl (key_once r octets k.items own is)) (λ held. inr held) choice)),
  )

  module _ (tied : (a b : Vec ℕ) → a.items ≡ b.items → cmp a b ≡ Equal) where
    pub any_has : (keys : List (Vec ℕ)) (k : Vec ℕ) → IsTrue (list_any (is_at (cmp k)) keys) ↔ HasKey keys k.items
    any_has [] k = grind arith
    any_has (x ∷ keys) k = grind (arith, any_has keys k, exact k x, tied k x)

-- ---- one key

ttl_small : (r : Record) → IsRecord r → r.ttl < 4294967296
ttl_small r is = omega (arith, is.ttl)

same_ttl : (m n : ℕ) → m < 4294967296 → n < 4294967296 → to_be_bytes w32 m ≡ to_be_bytes w32 n → m ≡ n
same_ttl m n low less same = sym (from_be_bytes-to_be_bytes_4 m low) ∙ ap (from_be_bytes w32) same ∙ from_be_bytes-to_be_bytes_4 n less

pub alike_of_key : (r s : Record) (key : List ℕ) → IsRecord r → IsRecord s → AreOfOneRrset s r → IsKey r key → IsKey s key → AreAlike r s
alike_of_key r s key is iz one k l =
    let cut = append_same (to_be_bytes w32 r.ttl) (to_be_bytes w32 s.ttl) k.low l.low refl (sym k.parts ∙ l.parts) in
    let ttl : r.ttl ≡ s.ttl = same_ttl r.ttl s.ttl (ttl_small r is) (ttl_small s iz) cut.0 in (
      record { owner = r.owner; class = r.class; kind = r.kind; ttl = r.ttl; octets = k.low },
      record { owner = refl; class = refl; kind = refl; ttl = refl; octets = k.lowered },
      record { owner = sym one.owner; class = sym one.class; kind = sym one.kind; ttl = ttl; octets = subst (IsLowered (names_in Every s.kind s.octets) s.octets) (sym cut.1) l.lowered },
    )

pub rrset_of_alike : (r s : Record) → AreAlike r s → AreOfOneRrset s r
rrset_of_alike r s (low, is, iz) = record { owner = sym iz.owner ∙ is.owner; class = sym iz.class ∙ is.class; kind = sym iz.kind ∙ is.kind }

pub key_of_alike : (r s : Record) (key : List ℕ) → AreAlike r s → IsKey r key → IsKey s key
key_of_alike r s key (low, is, iz) k = record {
  low = low.octets;
  parts = k.parts ∙ ap (λ o. to_be_bytes w32 r.ttl ++ o) (lowered_once (names_in Every r.kind r.octets) r.octets k.low low.octets k.lowered is.octets) ∙ ap (λ t. to_be_bytes w32 t ++ low.octets) (sym is.ttl ∙ iz.ttl);
  lowered = iz.octets;
}
