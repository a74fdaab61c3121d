-- The walk over a text: what was read so far, and what it leads to.
use Rattle.zone_name.proofs.Common.{nat_tests, Ahead, BadEscape, Bool, Collects, EmptyLabel, Err, Folded, IsBadEscape, Joins, Kept, LabelTooLong, Letters, List, NameFault, Ok, Result, Step, [], ahead_in, ap, arith, at_dot, at_fault, at_octet, common_steps, done, failed, false, flat_map-append, folded_label, goes, le-leb, length, length-append, lettered, lt-leb, map-append, not, read, refl, step_at, suc, sym, true, wire, zero, ℕ, ◌++◌, ◌<◌, ◌||◌, ◌∙◌, ◌∷◌, ◌≡◌, ◌≤◌}
use Rattle.zone_name.specs.Machine.LabelWalk.{reading}
use Rattle.zone_name.proofs.InOctets.Pushing.{held_none}
use Rattle.zone_name.proofs.Spelling.Ahead.{ahead-bad, ahead_shrinks, dot_seen, unit_seen}
use Rattle.zone_name.proofs.Spelling.Letters.{joined_size, lettered_size}

-- ---- one step of the reading

abbrev pub after_step : ℕ → Step → Result (List (List ℕ) × Bool) NameFault
after_step n (done found whole) = Ok (found, whole)
after_step n (failed fault) = Err fault
after_step n (goes more open_next left) = read n more open_next left

pub read_step : (n : ℕ) (labels : List (List ℕ)) (open_label rest : List ℕ) (ahead : Ahead) → ahead_in rest ≡ ahead → read (suc n) labels open_label rest ≡ after_step n (step_at labels open_label ahead)
read_step n labels open_label rest ahead e = cc

-- an octet of a label that has no room
pub full_step : (labels : List (List ℕ)) (open_label after : List ℕ) (c : ℕ) → 63 ≤ length open_label → step_at labels open_label (at_octet c after) ≡ failed LabelTooLong
full_step labels open_label after c full = grind (arith, le-leb)

octet_by : (fuel : ℕ) (labels : List (List ℕ)) (open_label rest after : List ℕ) (c : ℕ) → length rest < fuel → ahead_in rest ≡ at_octet c after → length open_label < 63 → (n : ℕ) × (length rest < suc n) × (read fuel labels open_label rest ≡ read n labels (open_label ++ c ∷ []) after)
octet_by zero labels open_label rest after c enough e room = absurd (omega arith)
octet_by (suc n) labels open_label rest after c enough e room = grind (arith, read_step n labels open_label rest (at_octet c after) e, lt-leb)

pub fault_by : (fuel : ℕ) (labels : List (List ℕ)) (open_label rest : List ℕ) (ahead : Ahead) (fault : NameFault) → length rest < fuel → ahead_in rest ≡ ahead → step_at labels open_label ahead ≡ failed fault → read fuel labels open_label rest ≡ Err fault
fault_by fuel labels open_label rest ahead fault enough e fails = grind (arith, read_step)

-- ---- the labels of a text

-- what was read so far, with a label open, leads to what the whole text leads to
pub record Reads (letters : Letters) (text : List ℕ) (held : List (List ℕ)) (is_too_long : Bool) (open_label rest : List ℕ) : Type 0 where
  pub labels : List (List ℕ)
  pub collects : Collects held is_too_long (lettered letters labels)
  pub fuel : ℕ
  pub enough : length rest < fuel
  pub leads : read fuel labels open_label rest ≡ reading text

lettered_nil : (letters : Letters) → lettered letters [] ≡ []
lettered_nil Kept = refl
lettered_nil Folded = refl

pub Reads-start : (letters : Letters) (text : List ℕ) (held : List (List ℕ)) (label : List ℕ) → 0 < length text → held ≡ [] → label ≡ [] → Reads letters text held false label text
unfolding reading
Reads-start letters [] held label some none empty = absurd (omega (arith, some))
Reads-start letters (c ∷ text) held label some none empty =
    rw empty (record { labels = []; collects = none ∙ sym (lettered_nil letters); fuel = suc (length (c ∷ text)); enough = omega arith; leads = refl })

-- no text spells no label
pub reading-nil : (text : List ℕ) → length text ≡ 0 → reading text ≡ Err EmptyLabel
unfolding reading
reading-nil text e = grind arith

-- an octet of a label
pub Reads-octet : (letters : Letters) (text : List ℕ) (held : List (List ℕ)) (is_too_long : Bool) (open_label rest after new : List ℕ) (c : ℕ) → Reads letters text held is_too_long open_label rest → at_octet c after ≡ ahead_in rest → length open_label < 63 → new ≡ open_label ++ c ∷ [] → Reads letters text held is_too_long new after
Reads-octet letters text held is_too_long open_label rest after new c reads e room grown =
    let next = octet_by reads.fuel reads.labels open_label rest after c reads.enough (sym e) room in
    let shorter = rw (← e) at (ahead_shrinks rest) in
    rw grown (record { labels = reads.labels; collects = reads.collects; fuel = next.0; enough = omega (arith, next.1, shorter); leads = sym next.2 ∙ reads.leads })

-- what fails from here on fails from the start
pub Reads-fault : (letters : Letters) (text : List ℕ) (held : List (List ℕ)) (is_too_long : Bool) (open_label rest : List ℕ) (ahead : Ahead) (fault : NameFault) → Reads letters text held is_too_long open_label rest → ahead_in rest ≡ ahead → ((labels : List (List ℕ)) → step_at labels open_label ahead ≡ failed fault) → reading text ≡ Err fault
Reads-fault letters text held is_too_long open_label rest ahead fault reads e fails =
    sym reads.leads ∙ fault_by reads.fuel reads.labels open_label rest ahead fault reads.enough e (fails reads.labels)

-- at the 64th octet
pub Reads-full : (letters : Letters) (text : List ℕ) (held : List (List ℕ)) (is_too_long : Bool) (open_label rest after : List ℕ) (c : ℕ) → Reads letters text held is_too_long open_label rest → at_octet c after ≡ ahead_in rest → 63 ≤ length open_label → reading text ≡ Err LabelTooLong
Reads-full letters text held is_too_long open_label rest after c reads e full =
    Reads-fault letters text held is_too_long open_label rest (at_octet c after) LabelTooLong reads (sym e) (λ labels. full_step labels open_label after c full)

-- at a dot after no octet
pub Reads-empty : (letters : Letters) (text : List ℕ) (held : List (List ℕ)) (is_too_long : Bool) (open_label rest more : List ℕ) → Reads letters text held is_too_long open_label rest → length open_label ≡ 0 → rest ≡ 46 ∷ more → reading text ≡ Err EmptyLabel
Reads-empty letters text held is_too_long [] rest more reads none e =
    Reads-fault letters text held is_too_long [] rest (at_dot more) EmptyLabel reads (ap ahead_in e) (λ labels. refl)
Reads-empty letters text held is_too_long (c ∷ open_label) rest more reads none e = absurd (omega (arith, none))

pub Reads-bad : (letters : Letters) (text : List ℕ) (held : List (List ℕ)) (is_too_long : Bool) (open_label rest : List ℕ) → Reads letters text held is_too_long open_label rest → IsBadEscape rest → reading text ≡ Err BadEscape
Reads-bad letters text held is_too_long open_label rest reads bad =
    Reads-fault letters text held is_too_long open_label rest at_fault BadEscape reads (ahead-bad rest bad) (λ labels. refl)

-- ---- a label's end

-- one label more of those that are held, or are too long
lettered_push : (letters : Letters) (labels : List (List ℕ)) (label : List ℕ) → lettered letters (labels ++ label ∷ []) ≡ lettered letters labels ++ lettered letters (label ∷ [])
lettered_push Kept labels label = refl
lettered_push Folded labels label = map-append folded_label labels (label ∷ [])

collects_more : (letters : Letters) (held labels after : List (List ℕ)) (label : List ℕ) (is_too_long kept : Bool) → Collects held is_too_long (lettered letters labels) → Joins letters held label kept after → Collects after (is_too_long || not kept) (lettered letters (labels ++ label ∷ []))
collects_more letters held labels after label true kept collects joins =
    omega (arith, collects, lettered_size letters labels, lettered_size letters (labels ++ label ∷ []), joined_size labels (label ∷ []), length-append label (0 ∷ []))
collects_more letters held labels after label false true collects joins =
    joins ∙ ap (λ ls. ls ++ lettered letters (label ∷ [])) collects ∙ sym (lettered_push letters labels label)
collects_more letters held labels after label false false collects joins =
    omega (arith, joins.1, ap (λ ls. length (wire ls)) collects, lettered_size letters labels, lettered_size letters (labels ++ label ∷ []), joined_size labels (label ∷ []), joined_size held (label ∷ []))

end_step : (fuel : ℕ) (labels : List (List ℕ)) (label rest : List ℕ) → length rest < fuel → 0 < length label → rest ≡ [] → read fuel labels label rest ≡ Ok (labels ++ label ∷ [], false)
end_step fuel labels label rest enough some e = grind (arith, read_step)

last_step : (fuel : ℕ) (labels : List (List ℕ)) (label rest : List ℕ) → length rest < fuel → length label ≡ 0 → rest ≡ [] → read fuel labels label rest ≡ Ok (labels, true)
last_step fuel labels label rest enough none e = grind (arith, read_step)

dot_step : (fuel : ℕ) (labels : List (List ℕ)) (label rest more : List ℕ) → length rest < fuel → 0 < length label → rest ≡ 46 ∷ more → (m : ℕ) × (length more < m) × (read fuel labels label rest ≡ read m (labels ++ label ∷ []) [] more)
dot_step zero labels label rest more enough some e = absurd (omega arith)
dot_step (suc n) labels [] rest more enough some e = absurd (omega arith)
dot_step (suc n) labels (c ∷ label) rest more enough some e = grind (arith, read_step n labels (c ∷ label) rest (at_dot more) (ap ahead_in e))

-- a label with its dot
pub Reads-label : (letters : Letters) (text : List ℕ) (before after : List (List ℕ)) (is_too_long kept : Bool) (label rest more next : List ℕ) → Reads letters text before is_too_long label rest → 0 < length label → rest ≡ 46 ∷ more → Joins letters before label kept after → next ≡ [] → Reads letters text after (is_too_long || not kept) next more
Reads-label letters text before after is_too_long kept label rest more next reads some is joins none =
    let step = dot_step reads.fuel reads.labels label rest more reads.enough some is in
    rw none (record { labels = reads.labels ++ label ∷ []; collects = collects_more letters before reads.labels after label is_too_long kept reads.collects joins; fuel = step.0; enough = step.1; leads = sym step.2 ∙ reads.leads })

-- at the end of the text, after a dot or in a label
pub Reads-absolute : (letters : Letters) (text : List ℕ) (held : List (List ℕ)) (is_too_long : Bool) (label rest : List ℕ) → Reads letters text held is_too_long label rest → length label ≡ 0 → rest ≡ [] → (labels : List (List ℕ)) × (reading text ≡ Ok (labels, true)) × Collects held is_too_long (lettered letters labels)
Reads-absolute letters text held is_too_long label rest reads none is =
    (reads.labels, sym reads.leads ∙ last_step reads.fuel reads.labels label rest reads.enough none is, reads.collects)

pub Reads-relative : (letters : Letters) (text : List ℕ) (before after : List (List ℕ)) (is_too_long kept : Bool) (label rest : List ℕ) → Reads letters text before is_too_long label rest → 0 < length label → rest ≡ [] → Joins letters before label kept after → (labels : List (List ℕ)) × (reading text ≡ Ok (labels, false)) × Collects after (is_too_long || not kept) (lettered letters labels)
Reads-relative letters text before after is_too_long kept label rest reads some is joins = (
  reads.labels ++ label ∷ [],
  sym reads.leads ∙ end_step reads.fuel reads.labels label rest reads.enough some is,
  collects_more letters before reads.labels after label is_too_long kept reads.collects joins,
)

pub ruleset labels_read = (reading-nil, nat_tests, held_none, Reads-full, Reads-empty, Reads-bad, unit_seen, dot_seen)
