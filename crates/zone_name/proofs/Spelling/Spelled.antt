-- What the walk over a text finds is what the text spells: from the left, as far as it has come.
use Rattle.zone_name.proofs.Common.{Ahead, AllByRecursion, AreWrittenLabels, Bool, Err, FaultAt, IsUnit, IsWrittenLabel, LabelTooLong, List, NameFault, Ok, Reaches, Result, Written, [], append-nil, append_assoc, arith, at_dot, at_end, at_fault, at_octet, bad_escape, codes, common_steps, dotted, empty_label, failed, false, goes, if◌then◌else◌, inl, inr, is_dot, kept, length, length-append, length-map, long_label, map_push, nat_le, nat_tests, octet_of, parted, read, refl, step_at, suc, sym, text_of, true, written_octets, written_text, zero, ℕ, ◌++◌, ◌<◌, ◌∙◌, ◌∷◌, ◌≡◌, ◌≢◌, ◌≤◌}
use Rattle.zone_name.specs.Machine.LabelWalk.{reading}
use Rattle.zone_name.proofs.Spelling.Ahead.{IsAhead, ahead_is, Shrinks, ahead_shrinks}
use Rattle.zone_name.proofs.Spelling.Steps.{after_step, read_step}
use Rattle.zone_name.proofs.InOctets.Pushing.{AllByRecursion-append}

-- labels of at most 63 octets
abbrev pub AreShort : List (List Written) → Type 0
AreShort written = AllByRecursion (λ label. length label ≤ 63) written

-- the written labels that a walk found
pub record Finds (spelling : List (List Written) → List ℕ) (text : List ℕ) (labels : List (List ℕ)) : Type 0 where
  pub written : List (List Written)
  pub are : AreWrittenLabels written
  pub short : AreShort written
  pub text_is : text ≡ spelling written
  pub labels_are : labels ≡ kept written

pub finds : (spelling : List (List Written) → List ℕ) (text : List ℕ) (written : List (List Written)) → 0 < length written → AllByRecursion IsWrittenLabel written → AreShort written → text ≡ spelling written → Finds spelling text (kept written)
finds spelling text written some each short is = record { written = written; are = record { some = some; each = each }; short = short; text_is = is; labels_are = refl }

-- what an answer says of the text
abbrev pub Says : List ℕ → Result (List (List ℕ) × Bool) NameFault → Type 0
Says text (Ok (labels, true)) = Finds dotted text labels
Says text (Ok (labels, false)) = Finds parted text labels
Says text (Err fault) = FaultAt text fault

-- ---- one label or one octet more

join_more : (a b c : List ℕ) → a ++ (46 ∷ (b ++ c)) ≡ ((a ++ 46 ∷ []) ++ b) ++ c
join_more a b c = sym (append_assoc (a ++ 46 ∷ []) b c ∙ append_assoc a (46 ∷ []) (b ++ c))

parted_push : (before : List (List Written)) (label : List Written) → parted (before ++ label ∷ []) ≡ dotted before ++ written_text label
parted_push [] label = refl
parted_push (l ∷ []) label = join_more (written_text l) [] (written_text label)
parted_push (l ∷ m ∷ ls) label = grind (arith, join_more, parted_push (m ∷ ls) label)

-- ---- the ends
relative_end : (text : List ℕ) (before : List (List Written)) (w : Written) (label : List Written) (rest : List ℕ) → Reaches text before (w ∷ label) rest → rest ≡ [] → Finds parted text (kept before ++ written_octets (w ∷ label) ∷ [])
relative_end text before w label rest r e =
    rw (← map_push written_octets before (w ∷ label)) (finds parted text (before ++ (w ∷ label) ∷ []) (omega (arith, length-append before ((w ∷ label) ∷ [])))
    (AllByRecursion-append IsWrittenLabel before ((w ∷ label) ∷ []) r.labels (record { some = omega arith; each = r.octets }, tt))
    (AllByRecursion-append (λ l. length l ≤ 63) before ((w ∷ label) ∷ []) r.short (r.room, tt)) (cc (append-nil (dotted before ++ written_text (w ∷ label)), parted_push before (w ∷ label))))

-- ---- one step
abbrev Later : ℕ → List ℕ → Type 0
Later n text = (before : List (List Written)) (label : List Written) (rest : List ℕ) → Reaches text before label rest → length rest < n → Says text (read n (kept before) (written_octets label) rest)

full_label : (n : ℕ) (text : List ℕ) (before : List (List Written)) (label : List Written) (rest more : List ℕ) (c : ℕ) → Later n text → Reaches text before label rest → length more < length rest → length rest < suc n → (w : Written) → IsUnit is_dot w → octet_of w ≡ c → rest ≡ text_of w ++ more → (full : Bool) → nat_le 63 (length (written_octets label)) ≡ full → Says text (after_step n (if full then failed LabelTooLong else goes (kept before) (written_octets label ++ c ∷ []) more))
full_label n text before label rest more c later r shorter enough w is oc e true test =
    long_label before label w more (rw e at r) (grind (arith, nat_tests, length-map label octet_of, r.room, test)) is
full_label n text before label rest more c later r shorter enough w is oc e false test =
    let open_is : written_octets (label ++ w ∷ []) ≡ written_octets label ++ c ∷ [] = cc (map_push octet_of label w) in
    rw open_is at (later before (label ++ w ∷ []) more (grind (arith, common_steps, nat_tests, length-map label octet_of)) (omega arith))

step_says : (n : ℕ) (text : List ℕ) (before : List (List Written)) (label : List Written) (rest : List ℕ) (ahead : Ahead) → text ≢ codes "." → 0 < length text → Later n text → Reaches text before label rest → length rest < suc n → IsAhead rest ahead → Shrinks rest ahead → Says text (after_step n (step_at (kept before) (written_octets label) ahead))
step_says n text before [] rest at_end other some later r enough is shorter = grind (arith, common_steps)
step_says n text before (w ∷ label) rest at_end other some later r enough is shorter = relative_end text before w label rest r is
step_says n text before [] rest (at_dot more) other some later r enough is shorter = empty_label before rest r (inr (more, is)) (λ h. cc) other
step_says n text before (w ∷ label) rest (at_dot more) other some later r enough is shorter =
    rw (map_push written_octets before (w ∷ label)) at (later (before ++ (w ∷ label) ∷ []) [] more (grind (arith, common_steps)) (omega arith))
step_says n text before label rest (at_octet c more) other some later r enough is shorter = full_label n text before label rest more c later r shorter enough is.unit is.is_unit is.value is.parts (nat_le 63 (length (written_octets label))) refl
step_says n text before label rest at_fault other some later r enough is shorter = bad_escape before label rest r is

walk_says : (n : ℕ) (text : List ℕ) → text ≢ codes "." → 0 < length text → Later n text
walk_says zero text other some before label rest r enough = absurd (omega arith)
walk_says (suc n) text other some before label rest r enough = grind (arith, after_step, step_says, ahead_is, ahead_shrinks, read_step, walk_says n text other some)

reaches_start : (text : List ℕ) → Reaches text [] [] text
reaches_start text = grind arith

-- what is read is so
pub reading-says : (text : List ℕ) → text ≢ codes "." → Says text (reading text)
unfolding reading
reading-says [] other = empty_label [] [] (reaches_start []) (inl refl) (λ h. refl) other
reading-says (c ∷ text) other = walk_says (suc (length (c ∷ text))) (c ∷ text) other (omega arith) [] [] (c ∷ text) (reaches_start (c ∷ text)) (omega arith)
