-- Names at the beginning of octets, their letters as they are written.
use Rattle.zone_rdata.proofs.Common.{[], ◌≡◌, ℕ, ◌+◌, ◌<◌, ◌≤◌, List, ◌∷◌, ◌++◌, length, take, drop, refl, sym, ap, ◌∙◌, subst, arith, append_assoc, length-append, append-nil, take-append-drop, length-take, append_cancel_left, flat_map, AllByRecursion, map, map-append}
use Rattle.std.proofs.lemmas.Grind.{flat_map-append}
use Rattle.std.proofs.Common.{suc, zero, Option, Some}
use Rattle.zone_name.specs.Common.{AreOctets, Labels}
use Rattle.zone_name.specs.Name.{folded, folded_octet, IsCasedLabel, IsCasedName, labels_by, labels_of, wire, with_length}
use Rattle.zone_name.proofs.InOctets.Octets.{AreSome, AllByRecursion-weaker, labels_of-frames}
use Rattle.zone_name.proofs.InOctets.Pushing.{folded_frames, AllByRecursion-append, AllByRecursion-back, AllByRecursion-front}
use Rattle.zone_rdata.proofs.Octets.Sent.{frames_push, frame_at}
use Rattle.data_names.specs.Machine.Front.{AreNames, BeginsWithCased, BeginsWithExtent, BeginsWithMany}
use Rattle.data_names.specs.NamesInData.{HasExtent, HasNames, IsLowered, with_names}
use Rattle.data_names.specs.declared.table.Extent.TheVariants.{Front, ToEnd, Whole}
use Rattle.data_names.specs.declared.table.NamesAt.{NamesAt}

-- the labels that were passed over so far
pub record HasPassed (octets rest : List ℕ) (count : ℕ) : Type 0 where
  pub labels : Labels
  pub each : AllByRecursion IsCasedLabel labels
  pub parts : octets ≡ flat_map with_length labels ++ rest
  pub len : count ≡ length (wire labels)

cased_some : (labels : Labels) → AllByRecursion IsCasedLabel labels → AreSome labels
cased_some = AllByRecursion-weaker IsCasedLabel (λ label. 0 < length label) (λ label is. is.some)

pub passed_more : (octets rest : List ℕ) (len new c : ℕ) (following after : List ℕ) → HasPassed octets rest len → rest ≡ c ∷ following → 0 < c → c ≤ 63 → c ≤ length following → AreOctets octets → after ≡ drop c following → new ≡ len + (c + 1) → HasPassed octets after new
passed_more octets rest len new c following after p e some short fits low back grown =
    let cut : flat_map with_length p.labels ++ (with_length (take c following) ++ after) ≡ octets = grind (arith, frame_at c following fits, p.parts) in
    let each : AreOctets (take c following) = grind (arith, AllByRecursion-back, AllByRecursion-front, append_assoc) in
    record {
      labels = p.labels ++ take c following ∷ [];
      each = AllByRecursion-append IsCasedLabel p.labels (take c following ∷ []) p.each (record { some = grind (arith, length-take); short = grind (arith, length-take); each = each }, tt);
      parts = grind (arith, frames_push p.labels (take c following) after);
      len = grind (arith, flat_map-append, length-append, length-take, append-nil);
    }

pub found : (octets rest : List ℕ) (len : ℕ) (following : List ℕ) → (p : HasPassed octets rest len) → rest ≡ 0 ∷ following → len ≤ 255 → BeginsWithCased octets p.labels following
found octets rest len following p e short = record { is_name = record { each = p.each; short = grind arith }; parts = grind (arith, append_assoc) }

-- a name there goes on from what was passed over
pub goes_on : (octets rest tail : List ℕ) (len : ℕ) (name : Labels) (p : HasPassed octets rest len) (b : BeginsWithCased octets name tail) → (more : Labels) × (name ≡ p.labels ++ more) × (rest ≡ wire more ++ tail)
goes_on octets rest tail len name p b =
    let there = labels_of-frames name (0 ∷ tail) (cased_some name b.is_name.each) in
    let passed = labels_of-frames p.labels rest (cased_some p.labels p.each) in
    let more = labels_by passed.0 rest in
    let whole : name ≡ p.labels ++ more = grind (arith, append_assoc, append-nil, there, passed, b.parts, p.parts) in
    (more, whole, append_cancel_left (flat_map with_length p.labels) rest (wire more ++ tail) (grind (arith, flat_map-append, append_assoc, p.parts, b.parts)))

pub no_first : (octets rest : List ℕ) (len : ℕ) → HasPassed octets rest len → length rest ≡ 0 → (name : Labels) (tail : List ℕ) → BeginsWithCased octets name tail → ⊥
no_first octets rest len p none name tail b = grind (arith, goes_on octets rest tail len name p b, length-append)

next_label : (more : Labels) (tail following : List ℕ) (c : ℕ) → 0 < c → c ∷ following ≡ wire more ++ tail → (label : List ℕ) × (others : Labels) × (more ≡ label ∷ others) × (length label ≡ c) × (following ≡ label ++ (wire others ++ tail))
next_label [] tail following c some e = absurd (let bad : c ≡ 0 = cc in omega arith)
next_label (l ∷ others) tail following c some e = grind (arith, append_assoc)

-- what a name there says of the next label
pub next_fits : (octets rest : List ℕ) (len c : ℕ) (following : List ℕ) → HasPassed octets rest len → rest ≡ c ∷ following → 0 < c → (name : Labels) (tail : List ℕ) → BeginsWithCased octets name tail → (c ≤ 63) × (len + (c + 1) ≤ 255) × (c ≤ length following)
next_fits octets rest len c following p e some name tail b =
    let on = goes_on octets rest tail len name p b in
    let next = next_label on.0 tail following c some (sym e ∙ on.2) in
    let label : IsCasedLabel next.0 = (AllByRecursion-back IsCasedLabel p.labels (next.0 ∷ next.1) (subst (AllByRecursion IsCasedLabel) (on.1 ∙ ap (λ m. p.labels ++ m) next.2) b.is_name.each)).0 in
    (grind (arith, label), grind (arith, b.is_name.short, p.len, on.1, next, flat_map-append, length-append), grind (arith, next, length-append))

-- ---- many names
drop_front : (a b : List ℕ) → drop (length a) (a ++ b) ≡ b
drop_front [] b = refl
drop_front (c ∷ a) b = drop_front a b

pub left_over : (k : ℕ) (octets tail : List ℕ) (len : ℕ) → (p : BeginsWithMany k octets len) → tail ≡ drop len octets → tail ≡ p.rest
left_over k octets tail len p back = back ∙ ap (λ n. drop n octets) p.all ∙ ap (drop (length (flat_map wire p.names))) p.parts ∙ drop_front (flat_map wire p.names) p.rest

labels_by-root : (n : ℕ) (rest : List ℕ) → labels_by n (0 ∷ rest) ≡ []
labels_by-root zero rest = refl
labels_by-root (suc n) rest = refl

pub labels_of-cased : (name : Labels) (rest : List ℕ) → IsCasedName name → labels_of (wire name ++ rest) ≡ name
labels_of-cased name rest is =
    let there = labels_of-frames name (0 ∷ rest) (cased_some name is.each) in
    grind (arith, append_assoc, append-nil, there, labels_by-root there.0 rest)

pub front_same : (a b : List Labels) (x y : List ℕ) → AllByRecursion IsCasedName a → AllByRecursion IsCasedName b → flat_map wire a ++ x ≡ flat_map wire b ++ y → length a ≤ length b → (more : List Labels) × (b ≡ a ++ more) × (x ≡ flat_map wire more ++ y)
front_same [] b x y is_a is_b e le = (b, refl, e)
front_same (n ∷ a) [] x y is_a is_b e le = absurd (omega (arith, le))
front_same (n ∷ a) (m ∷ b) x y is_a is_b e le =
    let left : wire n ++ (flat_map wire a ++ x) ≡ wire m ++ (flat_map wire b ++ y) = sym (append_assoc (wire n) (flat_map wire a) x) ∙ e ∙ append_assoc (wire m) (flat_map wire b) y in
    let same : n ≡ m = sym (labels_of-cased n (flat_map wire a ++ x) is_a.0) ∙ ap labels_of left ∙ labels_of-cased m (flat_map wire b ++ y) is_b.0 in
    let cut : flat_map wire a ++ x ≡ flat_map wire b ++ y = append_cancel_left (wire n) _ _ (left ∙ ap (λ k. wire k ++ (flat_map wire b ++ y)) (sym same)) in
    let on = front_same a b x y is_a.1 is_b.1 cut (omega (arith, le)) in
    (on.0, ap (λ k. k ∷ b) (sym same) ∙ ap (λ k. n ∷ k) on.1, on.2)

pub none_yet : (octets : List ℕ) (len : ℕ) → len ≡ 0 → BeginsWithMany 0 octets len
none_yet octets len e = record { names = []; rest = octets; as_many = refl; each = tt; parts = refl; all = e }

pub many_more : (k : ℕ) (octets tail : List ℕ) (len next new : ℕ) → BeginsWithMany k octets len → tail ≡ drop len octets → (name : Labels) (rest : List ℕ) → BeginsWithCased tail name rest → next ≡ length (wire name) → new ≡ len + next → BeginsWithMany (k + 1) octets new
many_more k octets tail len next new p back name rest b all grown =
    let left : p.rest ≡ wire name ++ rest = sym (left_over k octets tail len p back) ∙ b.parts in
    record {
      names = p.names ++ name ∷ [];
      rest = rest;
      as_many = grind (arith, length-append, p.as_many);
      each = AllByRecursion-append IsCasedName p.names (name ∷ []) p.each (b.is_name, tt);
      parts = grind (arith, p.parts, left, flat_map-append, append_assoc, append-nil);
      all = grind (arith, p.all, flat_map-append, length-append, append-nil);
    }

pub no_more : (k n : ℕ) (octets tail : List ℕ) (len : ℕ) → BeginsWithMany k octets len → k < n → tail ≡ drop len octets → ((name : Labels) (rest : List ℕ) → BeginsWithCased tail name rest → ⊥) → (all : ℕ) → BeginsWithMany n octets all → ⊥
no_more k n octets tail len p less back none all b =
    let on = front_same p.names b.names p.rest b.rest p.each b.each (sym p.parts ∙ b.parts) (omega (arith, p.as_many, b.as_many)) in
    let left : tail ≡ p.rest = left_over k octets tail len p back in
    first on.0 on.1 (left ∙ on.2)
  where
    first : (more : List Labels) → b.names ≡ p.names ++ more → tail ≡ flat_map wire more ++ b.rest → ⊥
    first [] whole e = absurd (omega (arith, ap length whole, length-append p.names [], p.as_many, b.as_many))
    first (m ∷ more) whole e = none m (flat_map wire more ++ b.rest) (record { is_name = (AllByRecursion-back IsCasedName p.names (m ∷ more) (subst (AllByRecursion IsCasedName) whole b.each)).0; parts = e ∙ append_assoc (wire m) (flat_map wire more) b.rest })

take_front : (a b : List ℕ) → take (length a) (a ++ b) ≡ a
take_front [] b = refl
take_front (c ∷ a) b = ap (λ x. c ∷ x) (take_front a b)

-- octets that begin with names end with what is left
pub behind : (octets tail rest : List ℕ) (len : ℕ) (names : List Labels) → octets ≡ flat_map wire names ++ rest → len ≡ length (flat_map wire names) → tail ≡ drop len octets → tail ≡ rest
behind octets tail rest len names parts all back = back ∙ ap (λ n. drop n octets) all ∙ ap (drop (length (flat_map wire names))) parts ∙ drop_front (flat_map wire names) rest

pub has_extent : (at : NamesAt) (octets front : List ℕ) (names : List Labels) (rest from : List ℕ) → HasNames at octets front names rest → from ≡ drop at.before octets → BeginsWithExtent at.extent from (length (flat_map wire names))
has_extent at octets front names rest from h back = record {
  names = names;
  rest = rest;
  fits = h.extent;
  each = h.each;
  parts = back ∙ ap (λ n. drop n octets) (sym h.before) ∙ ap (drop (length front)) h.parts ∙ drop_front front (flat_map wire names ++ rest);
  all = refl;
}

pub one_place : (p q : NamesAt) → Some p ≡ Some q → p ≡ q
one_place p q e = cc

pub no_names : (at : NamesAt) (found : Option NamesAt) (octets from : List ℕ) → found ≡ Some at → from ≡ drop at.before octets → ((len : ℕ) → BeginsWithExtent at.extent from len → ⊥) → (place : NamesAt) (front : List ℕ) (names : List Labels) (rest : List ℕ) → found ≡ Some place → HasNames place octets front names rest → ⊥
no_names at found octets from is back none place front names rest other h =
    none (length (flat_map wire names)) (has_extent at octets front names rest from (subst (λ p. HasNames p octets front names rest) (one_place place at (sym other ∙ is)) h) back)

pub whole : (at : NamesAt) (octets front from mid after : List ℕ) (len : ℕ) → front ≡ take at.before octets → from ≡ drop at.before octets → at.before ≤ length octets → (p : BeginsWithExtent at.extent from len) → mid ≡ take len from → after ≡ drop len from → HasNames at octets front p.names after × (mid ≡ flat_map wire p.names)
whole at octets front from mid after len is_front is_from fits p is_mid is_after =
    let left : after ≡ p.rest = behind from after p.rest len p.names p.parts p.all is_after in (
      record {
        parts = sym (take-append-drop at.before octets) ∙ ap (λ x. x ++ drop at.before octets) (sym is_front) ∙ ap (λ x. front ++ x) (sym is_from ∙ p.parts ∙ ap (λ r. flat_map wire p.names ++ r) (sym left));
        before = ap length is_front ∙ grind (arith, length-take, fits);
        each = p.each;
        extent = subst (HasExtent at.extent p.names) (sym left) p.fits;
      },
      is_mid ∙ ap (λ n. take n from) p.all ∙ ap (take (length (flat_map wire p.names))) p.parts ∙ take_front (flat_map wire p.names) p.rest,
    )

-- ---- names of an extent
pub front_begins : (count : ℕ) (octets : List ℕ) (len : ℕ) → BeginsWithMany count octets len → BeginsWithExtent (Front count) octets len
front_begins count octets len p = record { names = p.names; rest = p.rest; fits = p.as_many; each = p.each; parts = p.parts; all = p.all }

pub front_many : (count : ℕ) (octets : List ℕ) (len : ℕ) → BeginsWithExtent (Front count) octets len → BeginsWithMany count octets len
front_many count octets len p = record { names = p.names; rest = p.rest; as_many = p.fits; each = p.each; parts = p.parts; all = p.all }

no_octets : (front rest : List ℕ) → length front ≡ length (front ++ rest) → rest ≡ []
no_octets front [] e = refl
no_octets front (c ∷ rest) e = absurd (omega (arith, e, length-append front (c ∷ rest)))

pub whole_begins : (count : ℕ) (octets : List ℕ) (len : ℕ) → BeginsWithMany count octets len → len ≡ length octets → BeginsWithExtent (Whole count) octets len
whole_begins count octets len p all = record {
  names = p.names;
  rest = p.rest;
  fits = (p.as_many, no_octets (flat_map wire p.names) p.rest (sym p.all ∙ all ∙ ap length p.parts));
  each = p.each;
  parts = p.parts;
  all = p.all;
}

pub whole_many : (count : ℕ) (octets : List ℕ) (len : ℕ) → BeginsWithExtent (Whole count) octets len → BeginsWithMany count octets len
whole_many count octets len p = record { names = p.names; rest = p.rest; as_many = p.fits.0; each = p.each; parts = p.parts; all = p.all }

one_len : (count : ℕ) (octets : List ℕ) (a b : ℕ) → BeginsWithMany count octets a → BeginsWithMany count octets b → a ≡ b
one_len count octets a b p q =
    let on = front_same p.names q.names p.rest q.rest p.each q.each (sym p.parts ∙ q.parts) (omega (arith, p.as_many, q.as_many)) in
    by on.0 on.1
  where
    by : (more : List Labels) → q.names ≡ p.names ++ more → a ≡ b
    by [] e = p.all ∙ ap (λ l. length (flat_map wire l)) (sym (append-nil p.names) ∙ sym e) ∙ sym q.all
    by (m ∷ more) e = absurd (omega (arith, ap length e, length-append p.names (m ∷ more), p.as_many, q.as_many))

pub not_whole : (count : ℕ) (octets : List ℕ) (len : ℕ) → BeginsWithMany count octets len → (len ≡ length octets → ⊥) → (all : ℕ) → BeginsWithExtent (Whole count) octets all → ⊥
not_whole count octets len p other all q =
    let same : len ≡ all = one_len count octets len all p (whole_many count octets all q) in
    other (same ∙ q.all ∙ sym (ap length (q.parts ∙ ap (λ r. flat_map wire q.names ++ r) q.fits.1 ∙ append-nil (flat_map wire q.names))))

pub end_begins : (octets : List ℕ) → AreNames octets → BeginsWithExtent ToEnd octets (length octets)
end_begins octets a = record { names = a.names; rest = []; fits = refl; each = a.each; parts = a.parts ∙ sym (append-nil (flat_map wire a.names)); all = ap length a.parts }

pub end_names : (octets : List ℕ) (len : ℕ) → BeginsWithExtent ToEnd octets len → AreNames octets
end_names octets len p = record { names = p.names; each = p.each; parts = p.parts ∙ ap (λ r. flat_map wire p.names ++ r) p.fits ∙ append-nil (flat_map wire p.names) }

-- ---- octets that are names
pub nothing_is_names : AreNames []
nothing_is_names = record { names = []; each = tt; parts = refl }

pub names_after : (octets rest : List ℕ) (name : Labels) → BeginsWithCased octets name rest → AreNames rest → AreNames octets
names_after octets rest name b a = record { names = name ∷ a.names; each = (b.is_name, a.each); parts = b.parts ∙ ap (λ r. wire name ++ r) a.parts }

pub names_behind : (octets rest : List ℕ) (name : Labels) → BeginsWithCased octets name rest → AreNames octets → AreNames rest
names_behind octets rest name b a = by a.names a.each a.parts
  where
    nothing_there : (front after : List ℕ) → [] ≡ front ++ (0 ∷ after) → ⊥
    nothing_there [] after e = cc
    nothing_there (c ∷ front) after e = cc

    by : (names : List Labels) → AllByRecursion IsCasedName names → octets ≡ flat_map wire names → AreNames rest
    by [] each e = absurd (nothing_there (flat_map with_length name) rest (sym e ∙ b.parts ∙ append_assoc (flat_map with_length name) (0 ∷ []) rest))
    by (m ∷ more) each e =
        let same : m ≡ name = sym (labels_of-cased m (flat_map wire more) each.0) ∙ ap labels_of (sym e ∙ b.parts) ∙ labels_of-cased name rest b.is_name in
        record { names = more; each = each.1; parts = append_cancel_left (wire name) rest (flat_map wire more) (sym b.parts ∙ e ∙ ap (λ l. wire l ++ flat_map wire more) same) }

pub first_of_names : (octets : List ℕ) → (octets ≡ [] → ⊥) → AreNames octets → (name : Labels) × (rest : List ℕ) × BeginsWithCased octets name rest
first_of_names octets some a = by a.names a.each a.parts
  where
    by : (names : List Labels) → AllByRecursion IsCasedName names → octets ≡ flat_map wire names → (name : Labels) × (rest : List ℕ) × BeginsWithCased octets name rest
    by [] each e = absurd (some e)
    by (m ∷ more) each e = (m, flat_map wire more, record { is_name = each.0; parts = e })

-- what is left after the first of names
pub behind_first : (octets tail rest : List ℕ) (len : ℕ) (name : Labels) → BeginsWithCased octets name rest → len ≡ length (wire name) → tail ≡ drop len octets → tail ≡ rest
behind_first octets tail rest len name b all back = back ∙ ap (λ n. drop n octets) all ∙ ap (drop (length (wire name))) b.parts ∙ drop_front (wire name) rest

-- ---- names in lower case
pub folded_wire : (name : Labels) → IsCasedName name → map folded_octet (wire name) ≡ wire (folded name)
folded_wire name is = map-append folded_octet (flat_map with_length name) (0 ∷ []) ∙ ap (λ x. x ++ 0 ∷ []) (folded_frames name is.each)

pub folded_wires : (names : List Labels) → AllByRecursion IsCasedName names → map folded_octet (flat_map wire names) ≡ flat_map wire (map folded names)
folded_wires [] each = refl
folded_wires (n ∷ names) each = map-append folded_octet (wire n) (flat_map wire names) ∙ ap (λ x. x ++ map folded_octet (flat_map wire names)) (folded_wire n each.0) ∙ ap (λ x. wire (folded n) ++ x) (folded_wires names each.1)

pub lowered_names : (at : Option NamesAt) (octets front mid rest lower : List ℕ) (place : NamesAt) (names : List Labels) → at ≡ Some place → HasNames place octets front names rest → mid ≡ flat_map wire names → lower ≡ front ++ (map folded_octet mid ++ rest) → IsLowered at octets lower
lowered_names at octets front mid rest lower place named is h same e =
    with_names place front named rest is h (e ∙ ap (λ x. front ++ (x ++ rest)) (ap (map folded_octet) same ∙ folded_wires named h.each))

pub lowered_same : (at : Option NamesAt) (octets front mid rest : List ℕ) (place : NamesAt) (names : List Labels) → at ≡ Some place → HasNames place octets front names rest → mid ≡ flat_map wire names → map folded_octet mid ≡ mid → IsLowered at octets octets
lowered_same at octets front mid rest place named is h same low =
    lowered_names at octets front mid rest octets place named is h same (h.parts ∙ ap (λ x. front ++ (x ++ rest)) (sym same ∙ sym low))

pub joined : (old one two new front mid rest : List ℕ) → one ≡ old ++ front → two ≡ one ++ mid → new ≡ two ++ rest → new ≡ old ++ (front ++ (mid ++ rest))
joined old one two new front mid rest a b c = grind (arith, append_assoc)
