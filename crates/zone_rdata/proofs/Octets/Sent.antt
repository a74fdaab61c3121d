-- Uncompressed octets: what stands at their front, and that it is one thing.
use Rattle.zone_rdata.proofs.Common.{[], ◌≡◌, ℕ, ◌<◌, ◌≤◌, List, ◌∷◌, ◌++◌, length, take, drop, Result, Err, refl, sym, ap, ◌∙◌, subst, arith, append_assoc, length-append, flat_map, AllByRecursion, append-nil, append_cancel_left, take-append-drop, length-map, length-take, map-append, flat_map-append, Labels, IsLabel, IsName, folded_label, folded, with_length, wire, IsLabelFault, BeginsWithSent, AllByRecursion-append, AllByRecursion-back, common_steps, ◌↔◌, NameFault}
use Rattle.zone_name.proofs.InOctets.Octets.{AreSome, labels_of-frames}
use Rattle.zone_name.specs.Name.{labels_by, labels_of}
use Rattle.zone_name.specs.declared.fault.NameFault.TheVariants.{EmptyLabel, LabelTooLong, NameTooLong}

-- ---- lists one after another
-- lists of one length are cut off alike
pub append_same : (x y a b : List ℕ) → length x ≡ length y → x ++ a ≡ y ++ b → (x ≡ y) × (a ≡ b)
append_same [] [] a b count e = (refl, e)
append_same (c ∷ x) (d ∷ y) a b count e = grind (arith, append_same x y a b)
append_same x y a b count e = absurd (omega arith)

-- what stands after its length is cut off alike
pub frame_same : (x y a b : List ℕ) → with_length x ++ a ≡ with_length y ++ b → (x ≡ y) × (a ≡ b)
frame_same x y a b e = grind (arith, append_same)

-- octets up to a place, where the number there and so many octets are one with_length
pub frame_at : (c : ℕ) (following : List ℕ) → c ≤ length following → c ∷ following ≡ with_length (take c following) ++ drop c following
frame_at c following fits = grind (arith, length-take, take-append-drop)

pub frames_push : (many : List (List ℕ)) (x a : List ℕ) → flat_map with_length many ++ (with_length x ++ a) ≡ flat_map with_length (many ++ x ∷ []) ++ a
frames_push many x a = grind (arith, append_assoc, append-nil, flat_map-append)

-- ---- names
pub folded_some : (sent : Labels) → AllByRecursion IsLabel (folded sent) → AreSome sent
folded_some [] each = tt
folded_some (label ∷ sent) each = grind (arith, length-map, folded_some sent each.1)

-- a name at the beginning has the labels that are found there
pub sent_labels : (octets tail : List ℕ) (name : Labels) (b : BeginsWithSent octets name tail) → labels_of octets ≡ b.sent
sent_labels octets tail name b =
    let some = folded_some b.sent (subst (AllByRecursion IsLabel) (sym b.folds) b.is_name.each) in
    grind (arith, labels_of-frames b.sent (0 ∷ tail) some, append_assoc, append-nil)

-- the labels that were cut off so far
pub record HasCut (octets : List ℕ) (labels : Labels) (rest : List ℕ) : Type 0 where
  pub sent : List (List ℕ)
  pub folds : folded sent ≡ labels
  pub some : AreSome sent
  pub parts : octets ≡ flat_map with_length sent ++ rest

pub cut_more : (octets rest : List ℕ) (labels new : List (List ℕ)) (c : ℕ) (following label after : List ℕ) → HasCut octets labels rest → rest ≡ c ∷ following → 0 < c → c ≤ length following → label ≡ take c following → after ≡ drop c following → new ≡ labels ++ folded_label label ∷ [] → HasCut octets new after
cut_more octets rest labels new c following label after cut e some fits front back grown = grind (arith, common_steps, length-take, map-append, AllByRecursion-append, frame_at, frames_push)

-- a name there goes on from what was cut off
pub goes_on : (octets rest tail : List ℕ) (labels name : Labels) (cut : HasCut octets labels rest) (b : BeginsWithSent octets name tail) → (more : List (List ℕ)) × (b.sent ≡ cut.sent ++ more) × (rest ≡ wire more ++ tail)
goes_on octets rest tail labels name cut b =
    let found = labels_of-frames cut.sent rest cut.some in
    let more = labels_by found.0 rest in
    let whole : b.sent ≡ cut.sent ++ more = sym (sent_labels octets tail name b) ∙ ap labels_of cut.parts ∙ found.1 in
    (more, whole, append_cancel_left (flat_map with_length cut.sent) rest (wire more ++ tail) (grind (arith, flat_map-append, append_assoc, cut.parts, b.parts)))

pub no_first : (octets rest : List ℕ) (labels : Labels) → HasCut octets labels rest → length rest ≡ 0 → (name : Labels) (tail : List ℕ) → BeginsWithSent octets name tail → ⊥
no_first octets rest labels cut none name tail b = grind (arith, goes_on octets rest tail labels name cut b, length-append)

-- a label there, where the number isn't 0
next_label : (more : List (List ℕ)) (tail following : List ℕ) (c : ℕ) → 0 < c → c ∷ following ≡ wire more ++ tail → (label : List ℕ) × (others : List (List ℕ)) × (more ≡ label ∷ others) × (length label ≡ c) × (following ≡ label ++ (wire others ++ tail))
next_label [] tail following c some e = absurd (let bad : c ≡ 0 = cc in omega arith)
next_label (l ∷ others) tail following c some e = grind (arith, append_assoc)

pub no_room : (octets rest : List ℕ) (labels : Labels) (c : ℕ) (following : List ℕ) → HasCut octets labels rest → rest ≡ c ∷ following → 0 < c → length following < c → (name : Labels) (tail : List ℕ) → BeginsWithSent octets name tail → ⊥
no_room octets rest labels c following cut e some few name tail b = grind (arith, goes_on octets rest tail labels name cut b, next_label, length-append)

-- what a name there says of the next label
record Fits (labels : Labels) (label : List ℕ) : Type 0 where
  short : length label ≤ 63
  room : length (wire (labels ++ label ∷ [])) ≤ 255

fits_by : (before : List (List ℕ)) (label : List ℕ) (others : List (List ℕ)) → IsName (folded (before ++ label ∷ others)) → Fits (folded before) label
fits_by before label others name = grind (arith, map-append, AllByRecursion-back, length-map, flat_map-append, length-append)

next_fits : (octets rest : List ℕ) (labels : Labels) (c : ℕ) (following : List ℕ) → HasCut octets labels rest → rest ≡ c ∷ following → 0 < c → c ≤ length following → (name : Labels) (tail : List ℕ) → BeginsWithSent octets name tail → Fits labels (take c following)
next_fits octets rest labels c following cut e some fits name tail b = grind (arith, common_steps, goes_on octets rest tail labels name cut b, next_label, length-take, append_same, take-append-drop, fits_by)

pub no_label : (octets rest : List ℕ) (labels : Labels) (c : ℕ) (following label : List ℕ) (fault : NameFault) (r : Result (Unit {0}) NameFault) → HasCut octets labels rest → rest ≡ c ∷ following → 0 < c → c ≤ length following → label ≡ take c following → r ≡ Err fault → IsLabelFault fault → ((r ≡ Err EmptyLabel) ↔ (length label ≡ 0)) → ((r ≡ Err LabelTooLong) ↔ (63 < length label)) → ((r ≡ Err NameTooLong) ↔ ((0 < length label) × (length label ≤ 63) × (255 < length (wire (labels ++ label ∷ []))))) → (name : Labels) (tail : List ℕ) → BeginsWithSent octets name tail → ⊥
no_label octets rest labels c following label fault r cut e some fits same is only empty long too_long name tail b = grind (arith, length-take c following, next_fits octets rest labels c following cut e some fits name tail b)

-- ---- a name at the beginning is one name
pub sent_once : (octets rest tail : List ℕ) (a b : Labels) → BeginsWithSent octets a rest → BeginsWithSent octets b tail → (a ≡ b) × (rest ≡ tail)
sent_once octets rest tail a b x y =
    let same : x.sent ≡ y.sent = sym (sent_labels octets rest a x) ∙ sent_labels octets tail b y in
    (sym x.folds ∙ ap folded same ∙ y.folds, append_cancel_left (wire x.sent) rest tail (sym x.parts ∙ y.parts ∙ ap (λ s. wire s ++ tail) (sym same)))
