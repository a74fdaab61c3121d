-- Names and what they are written from.
use Rattle.std.proofs.Common.{◌≡◌, ℕ, ◌<◌, List, [], ◌∷◌, ◌++◌, length, take, drop, Option, Some, refl, sym, ap, subst, ◌∙◌, arith, append_assoc, append-nil, length-append, map}
use Rattle.std.proofs.lemmas.Grind.{common_steps}
use Rattle.std.specs.List.{AllByRecursion, flat_map}
use Rattle.zone_name.specs.Common.{Labels}
use Rattle.zone_name.specs.Name.{IsCasedLabel, wire, with_length}
use Rattle.zone_name.specs.Spelling.{SpellsCased}
use Rattle.zone_name.specs.Text.{label_text, name_text}
use Rattle.zone_rdata.specs.Item.{RawItem, bare, raw}
use Rattle.zone_rdata.specs.declared.item.Item.{Item}
use Rattle.zone_words.specs.Inherited.{IsOneOrNone}
use Rattle.zone_words.specs.Origin.{NamesOrigin}
use Rattle.zone_files.specs.Machine.Naming.{TakesLabel}

-- one bare item names it
pub named_by : (above : Labels) (items : List RawItem) (text : List ℕ) (rest : List Item) (found : Option Labels) → items ≡ bare text ∷ map raw rest → length rest < 1 → IsOneOrNone (SpellsCased (Some above) text) found → IsOneOrNone (NamesOrigin above items) found
named_by above items text [] found is few spelt = subst (λ i. IsOneOrNone (NamesOrigin above i) found) (sym is) spelt
named_by above items text (item ∷ rest) found is few spelt = absurd (omega (arith, few))

wire_front : (label : List ℕ) (others : Labels) → wire (label ∷ others) ≡ length label ∷ (label ++ wire others)
wire_front label others = ap (λ t. length label ∷ t) (append_assoc label (flat_map with_length others) (0 ∷ []))

take_front : (a b : List ℕ) → take (length a) (a ++ b) ≡ a
take_front a b = grind (arith, common_steps)

drop_front : (a b : List ℕ) → drop (length a) (a ++ b) ≡ b
drop_front a b = grind (arith, common_steps)

-- the front label is taken
pub label_taken : (labels : Labels) (len : ℕ) (after : List ℕ) → len ∷ after ≡ wire labels → (len ≡ 0 → ⊥) → TakesLabel labels (take len after) (drop len after)
label_taken [] len after is some = absurd (some (let e : len ∷ after ≡ 0 ∷ [] = is in cc))
label_taken (label ∷ others) len after is some =
    let e : len ∷ after ≡ length label ∷ (label ++ wire others) = is ∙ wire_front label others in
    let n : len ≡ length label = cc in
    let a : after ≡ label ++ wire others = cc in
    record {
      others = others;
      first = ap (λ l. l ∷ others) (sym (ap (λ k. take k after) n ∙ ap (take (length label)) a ∙ take_front label (wire others)));
      octets = ap (λ k. drop k after) n ∙ ap (drop (length label)) a ∙ drop_front label (wire others);
    }

-- no label is left
pub no_label : (labels : Labels) (len : ℕ) (after : List ℕ) → AllByRecursion IsCasedLabel labels → len ∷ after ≡ wire labels → len ≡ 0 → labels ≡ []
no_label [] len after each is none = refl
no_label (label ∷ others) len after each is none =
    let e : len ∷ after ≡ length label ∷ (label ++ wire others) = is ∙ wire_front label others in
    let n : len ≡ length label = cc in
    absurd (omega (arith, n, none, each.0.some))

-- a label is never cut short
pub long_enough : (labels : Labels) (len : ℕ) (after : List ℕ) → len ∷ after ≡ wire labels → length after < len → labels ≡ []
long_enough [] len after is short = refl
long_enough (label ∷ others) len after is short =
    let e : len ∷ after ≡ length label ∷ (label ++ wire others) = is ∙ wire_front label others in
    let n : len ≡ length label = cc in
    let a : after ≡ label ++ wire others = cc in
    absurd (omega (arith, n, short, ap length a, length-append label (wire others)))

pub nothing_empty : (labels : Labels) → [] ≡ wire labels → ⊥
nothing_empty [] is = absurd cc
nothing_empty (label ∷ others) is = absurd (let e : [] ≡ length label ∷ (label ++ wire others) = is ∙ wire_front label others in cc)

pub ruleset label_steps = (label_taken, no_label, long_enough, nothing_empty)

-- ---- the text of a name, label by label

-- some labels are left, and the text of those before them was appended
pub record LabelsLeft (name : Labels) (rest before now : List ℕ) : Type 0 where
  pub others : Labels
  pub each : AllByRecursion IsCasedLabel others
  pub octets : rest ≡ wire others
  pub shown : now ++ flat_map label_text others ≡ before ++ flat_map label_text name

pub labels_begin : (name : Labels) (rest before : List ℕ) → AllByRecursion IsCasedLabel name → rest ≡ wire name → LabelsLeft name rest before before
labels_begin name rest before each is = record { others = name; each = each; octets = is; shown = refl }

pub labels_more : (name : Labels) (rest before now next label after : List ℕ) (left : LabelsLeft name rest before now) → TakesLabel left.others label after → next ≡ now ++ label_text label → LabelsLeft name after before next
labels_more name rest before now next label after left takes is =
    let each : AllByRecursion IsCasedLabel (label ∷ takes.others) = subst (AllByRecursion IsCasedLabel) takes.first left.each in
    record {
      others = takes.others;
      each = each.1;
      octets = takes.octets;
      shown = ap (λ t. t ++ flat_map label_text takes.others) is ∙ append_assoc now (label_text label) (flat_map label_text takes.others) ∙ ap (λ ls. now ++ flat_map label_text ls) (sym takes.first) ∙ left.shown;
    }

pub labels_end : (name : Labels) (rest before now : List ℕ) (left : LabelsLeft name rest before now) → left.others ≡ [] → (name ≡ [] → ⊥) → now ≡ before ++ name_text name
labels_end [] rest before now left none some = absurd (some refl)
labels_end (label ∷ name) rest before now left none some = sym (append-nil now) ∙ ap (λ ls. now ++ flat_map label_text ls) (sym none) ∙ left.shown

pub not_root : (name : Labels) (rest : List ℕ) → rest ≡ wire name → (length rest ≡ 1 → ⊥) → name ≡ [] → ⊥
not_root name rest is long none = long (ap length is ∙ ap (λ n. length (wire n)) none)

pub root_text : (name : Labels) (rest : List ℕ) → rest ≡ wire name → length rest ≡ 1 → name_text name ≡ 46 ∷ []
root_text [] rest is one = refl
root_text (label ∷ name) rest is one = absurd (omega (arith, one, ap length is, ap length (wire_front label name), length-append label (wire name), length-append (flat_map with_length name) (0 ∷ [])))
