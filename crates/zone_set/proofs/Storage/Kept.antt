-- Octets that keep records one after another, and the first of these.
use Rattle.zone_set.proofs.Common.{Bool, eqb-true, false, true, ◌==◌, AreKept, IsRecord, IsStored, List, Record, [], ap, ap₂, arith, common_steps, drop, drop_at, flat_map, length, length-append, length-drop, read_record, record_from, refl, span, stored, subst, suc, sym, take_at, zero, ℕ, ◌++◌, ◌<◌, ◌∙◌, ◌∷◌, ◌≡◌, ◌≤◌}
use Rattle.zone_set.proofs.Lists.Repeats.{span_len-stored}
use Rattle.zone_set.proofs.Storage.Storing.{read_stored}
use Rattle.zone_set.specs.Machine.Stored.{kept_records}

-- the record whose octets these begin with
module _ {class : ℕ} {octets : List ℕ} (r : Record) (rest : List ℕ) (whole : IsRecord r) (class_of : r.class ≡ class) (kept : octets ≡ stored r ++ rest) where
  read : record_from class octets 0 ≡ r
  read = ap (λ k. read_record k octets) (sym class_of) ∙ ap (read_record r.class) kept ∙ read_stored r rest whole

  pub spanned : length (span octets 0) ≡ length (stored r)
  spanned = grind (arith, kept, span_len-stored r rest whole, take_at (stored r) rest (length (stored r)) refl)

-- the first of those that are kept, if octets are left, and those after it
pub record FirstKept (class : ℕ) (octets : List ℕ) (records : List Record) : Type 0 where
  pub others : List Record
  pub parts : records ≡ record_from class octets 0 ∷ others
  pub stands : IsStored class octets 0
  pub whole : IsRecord (record_from class octets 0)
  pub spans : length (span octets 0) ≡ length (stored (record_from class octets 0))
  pub rest : AreKept class (drop (length (span octets 0)) octets) others

pub first_kept : (class : ℕ) (octets : List ℕ) (records : List Record) → AreKept class octets records → (octets ≡ [] → ⊥) → FirstKept class octets records
first_kept class octets [] are some = absurd (some are.kept)
first_kept class octets (r ∷ others) are some =
    let rest = flat_map stored others in
    let is : record_from class octets 0 ≡ r = read r rest are.whole.0 are.classes.0 are.kept in
    let long : length (span octets 0) ≡ length (stored r) = spanned r rest are.whole.0 are.classes.0 are.kept in
    record {
      others = others;
      parts = ap (λ s. s ∷ others) (sym is);
      stands = (rest, are.kept ∙ ap (λ s. stored s ++ rest) (sym is));
      whole = subst IsRecord (sym is) are.whole.0;
      spans = long ∙ ap (λ s. length (stored s)) (sym is);
      rest = record { classes = are.classes.1; whole = are.whole.1; kept = ap₂ drop long are.kept ∙ drop_at (stored r) rest (length (stored r)) refl };
    }

stored_some : (r : Record) → 0 < length (stored r)
stored_some r = grind (arith, common_steps)

none_kept : (n class : ℕ) → kept_records class n [] ≡ []
unfolding kept_records
none_kept zero class = refl
none_kept (suc n) class = refl

-- they are the records that the octets keep
kept_are : (n class : ℕ) (octets : List ℕ) (records : List Record) → AreKept class octets records → length octets ≤ n → kept_records class n octets ≡ records
unfolding kept_records
kept_are n class [] [] are few = none_kept n class
kept_are n class [] (r ∷ records) are few =
    absurd (omega (arith, ap length are.kept, length-append (stored r) (flat_map stored records), stored_some r))
kept_are zero class (c ∷ octets) records are few = absurd (omega (arith, few))
kept_are (suc n) class (c ∷ octets) records are few =
    let f = first_kept class (c ∷ octets) records are (λ none. cc) in
    let r = read_record class (c ∷ octets) in
    let rest : AreKept class (drop (length (stored r)) (c ∷ octets)) f.others = subst (λ k. AreKept class (drop k (c ∷ octets)) f.others) f.spans f.rest in
    ap (λ rs. r ∷ rs) (kept_are n class (drop (length (stored r)) (c ∷ octets)) f.others rest (omega (arith, few, length-drop (length (stored r)) (c ∷ octets), stored_some r))) ∙ sym f.parts

-- the records of octets are those that they keep
pub kept_list : (class : ℕ) (octets : List ℕ) (records : List Record) → AreKept class octets records → kept_records class (length octets) octets ≡ records
kept_list class octets records are = kept_are (length octets) class octets records are (omega arith)

pub some_left : (octets : List ℕ) (told : Bool) → told ≡ (length octets == 0) → told ≡ false → octets ≡ [] → ⊥
some_left octets told is some none = grind arith

pub none_left : (octets : List ℕ) (told : Bool) → told ≡ (length octets == 0) → told ≡ true → (class : ℕ) → kept_records class (length octets) octets ≡ []
none_left [] told is empty class = none_kept 0 class
none_left (c ∷ octets) told is empty class = absurd (omega (arith, eqb-true (length (c ∷ octets)) 0 (sym is ∙ empty)))

-- the first was passed, and these octets are left
pub passed : (class : ℕ) (octets rest : List ℕ) (records : List Record) (r : Record) → AreKept class octets records → (octets ≡ [] → ⊥) → r ≡ record_from class octets 0 → rest ≡ drop (length (span octets 0)) octets
    → (left : List Record) × AreKept class rest left × (kept_records class (length octets) octets ≡ r ∷ kept_records class (length rest) rest)
passed class octets rest records r are some is left =
    let f = first_kept class octets records are some in
    let still : AreKept class rest f.others = subst (λ l. AreKept class l f.others) (sym left) f.rest in
    (f.others, still, kept_list class octets records are ∙ f.parts ∙ ap₂ (λ s rs. s ∷ rs) (sym is) (sym (kept_list class rest f.others still)))
