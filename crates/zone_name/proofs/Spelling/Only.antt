-- What a text spells, and its own first fault, is what the walk over it finds.
use Rattle.zone_name.proofs.Common.{common_steps, Ahead, AllByRecursion, AreWrittenLabels, BadEscape, EmptyLabel, EndsLabel, Err, FaultAt, IsUnit, IsWrittenLabel, Kept, LabelTooLong, List, NameFault, Ok, Reaches, Written, [], ahead_in, ap, append-nil, append_assoc, arith, at_dot, at_fault, at_octet, bad_escape, dotted, empty_label, failed, false, inl, inr, is_dot, kept, length, length-append, length-map, long_label, octet_of, parted, refl, step_at, subst, sym, text_of, true, written_octets, written_text, ℕ, ◌++◌, ◌+◌, ◌<◌, ◌∙◌, ◌∷◌, ◌≡◌, ◌≤◌}
use Rattle.zone_name.specs.Machine.LabelWalk.{reading}
use Rattle.zone_name.proofs.Spelling.Ahead.{ahead-unit, ahead-bad}
use Rattle.zone_name.proofs.Spelling.Units.{text_of-some}
use Rattle.zone_name.proofs.Spelling.Steps.{Reads, Reads-absolute, Reads-fault, Reads-label, Reads-octet, Reads-relative, Reads-start, full_step, reading-nil}
use Rattle.zone_name.proofs.Spelling.Spelled.{AreShort}

-- what was read of a text whose letters are kept
abbrev ReadsOf : List ℕ → List (List ℕ) → List ℕ → List ℕ → Type 0
ReadsOf text held open_label rest = Reads Kept text held false open_label rest

-- a written label is read
label_goes : (label : List Written) (text : List ℕ) (held : List (List ℕ)) (open_label tail : List ℕ) → AllByRecursion (IsUnit is_dot) label → length open_label + length label ≤ 63 → ReadsOf text held open_label (written_text label ++ tail) → ReadsOf text held (open_label ++ written_octets label) tail
label_goes [] text held open_label tail each room so_far = rw (append-nil open_label) so_far
label_goes (w ∷ label) text held open_label tail each room so_far =
    let rest = written_text label ++ tail in
    let next = Reads-octet Kept text held false open_label (text_of w ++ rest) rest (open_label ++ octet_of w ∷ []) (octet_of w) (rw (append_assoc (text_of w) (written_text label) tail) at so_far) (sym (ahead-unit w rest each.0)) (omega arith) refl in
    rw (append_assoc open_label (octet_of w ∷ []) (written_octets label)) at (label_goes label text held (open_label ++ octet_of w ∷ []) tail each.1 (omega (arith, length-append open_label (octet_of w ∷ []))) next)

dot_reads : (text : List ℕ) (held : List (List ℕ)) (label : List Written) (rest : List ℕ) → IsWrittenLabel label → length label ≤ 63 → ReadsOf text held [] (written_text label ++ 46 ∷ rest) → ReadsOf text (held ++ written_octets label ∷ []) [] rest
dot_reads text held label rest is short reads =
    Reads-label Kept text held (held ++ written_octets label ∷ []) false true (written_octets label) (46 ∷ rest) rest [] (label_goes label text held [] (46 ∷ rest) is.each (omega (arith, short)) reads) (omega (arith, is.some, length-map label octet_of)) refl refl refl

-- labels with dots after them are read
dots_read : (written : List (List Written)) (text : List ℕ) (held : List (List ℕ)) (rest : List ℕ) → AllByRecursion IsWrittenLabel written → AreShort written → ReadsOf text held [] (dotted written ++ rest) → ReadsOf text (held ++ kept written) [] rest
dots_read [] text held rest each short reads = rw (append-nil held) reads
dots_read (label ∷ written) text held rest each short reads =
    grind (arith, common_steps, append_assoc, dots_read written text (held ++ written_octets label ∷ []) rest, dot_reads)

-- labels parted by dots are read
parted_reads : (written : List (List Written)) (text : List ℕ) (held : List (List ℕ)) (label : List Written) → AllByRecursion IsWrittenLabel (label ∷ written) → AreShort (label ∷ written) → ReadsOf text held [] (parted (label ∷ written)) → reading text ≡ Ok (held ++ kept (label ∷ written), false)
parted_reads [] text held label each short reads =
    let opened = label_goes label text held [] [] each.0.each (omega (arith, short.0)) (subst (ReadsOf text held []) (sym (append-nil (written_text label))) reads) in
    let found = Reads-relative Kept text held (held ++ written_octets label ∷ []) false true (written_octets label) [] opened (omega (arith, each.0.some, length-map label octet_of)) refl refl in
    found.1 ∙ ap (λ ls. Ok (ls, false)) (sym found.2)
parted_reads (next ∷ written) text held label each short reads =
    cc (append_assoc held (written_octets label ∷ []) (kept (next ∷ written)), parted_reads written text (held ++ written_octets label ∷ []) next each.1 short.1 (dot_reads text held label (parted (next ∷ written)) each.0 short.0 reads))

octets_some : (label : List Written) → IsWrittenLabel label → 0 < length (written_text label)
octets_some [] is = absurd (omega (arith, is.some))
octets_some (w ∷ label) is = grind (arith, length-append, text_of-some)

parted_some : (written : List (List Written)) (label : List Written) → IsWrittenLabel label → 0 < length (parted (label ∷ written))
parted_some written label is = grind (arith, octets_some, length-append)

-- a relative text
pub reading-parted : (written : List (List Written)) → AreWrittenLabels written → AreShort written → reading (parted written) ≡ Ok (kept written, false)
reading-parted [] are short = absurd (omega (arith, are.some))
reading-parted (label ∷ written) are short = parted_reads written (parted (label ∷ written)) [] label are.each short (Reads-start Kept (parted (label ∷ written)) [] [] (parted_some written label are.each.0) refl refl)

-- a walk comes to each place in a text
reached : (text : List ℕ) (before : List (List Written)) (open_label : List Written) (rest : List ℕ) → 0 < length text → Reaches text before open_label rest → ReadsOf text (kept before) (written_octets open_label) rest
reached text before open_label rest some r =
    let tail = written_text open_label ++ rest in
    let start = subst (ReadsOf text [] []) (r.parts ∙ append_assoc (dotted before) (written_text open_label) rest) (Reads-start Kept text [] [] some refl refl) in
    label_goes open_label text (kept before) [] rest r.octets (omega (arith, r.room)) (dots_read before text [] tail r.labels r.short start)

-- an absolute text
pub reading-dotted : (written : List (List Written)) → AreWrittenLabels written → AreShort written → reading (dotted written) ≡ Ok (kept written, true)
reading-dotted [] are short = absurd (omega (arith, are.some))
reading-dotted (label ∷ written) are short =
    let text = dotted (label ∷ written) in
    let found = reached text (label ∷ written) [] [] (omega (arith, length-append (written_text label ++ 46 ∷ []) (dotted written), length-append (written_text label) (46 ∷ []))) (record { labels = are.each; short = short; octets = tt; room = omega arith; parts = cc (append-nil text) }) in
    let last = Reads-absolute Kept text (kept (label ∷ written)) false [] [] found refl refl in
    last.1 ∙ ap (λ ls. Ok (ls, true)) (sym last.2)

-- ---- the faults
-- a step that fails where a walk comes to is what is read
reads_fault : (text : List ℕ) (before : List (List Written)) (open_label : List Written) (rest : List ℕ) (ahead : Ahead) (fault : NameFault) → 0 < length rest → Reaches text before open_label rest → ahead_in rest ≡ ahead → ((labels : List (List ℕ)) → step_at labels (written_octets open_label) ahead ≡ failed fault) → reading text ≡ Err fault
reads_fault text before open_label rest ahead fault some r at fails =
    Reads-fault Kept text (kept before) false (written_octets open_label) rest ahead fault (reached text before open_label rest (omega (arith, ap length r.parts, length-append (dotted before ++ written_text open_label) rest)) r) at fails

empty_reads : (text : List ℕ) (before : List (List Written)) (rest : List ℕ) → Reaches text before [] rest → EndsLabel rest → (rest ≡ [] → before ≡ []) → reading text ≡ Err EmptyLabel
empty_reads text before rest r (inl e) first = grind (arith, reading-nil)
empty_reads text before rest r (inr dot) first = cc (reads_fault text before [] rest (at_dot dot.0) EmptyLabel (omega (arith, ap length dot.1)) r (ap ahead_in dot.1) (λ labels. refl))

-- the leftmost fault of a text is what is read
pub reading-fault : (text : List ℕ) (fault : NameFault) → FaultAt text fault → reading text ≡ Err fault
reading-fault text fault (empty_label before rest r ends first other) = grind (arith, empty_reads)
reading-fault text fault (long_label before open_label w rest r full is) = cc (reads_fault text before open_label (text_of w ++ rest) (at_octet (octet_of w) rest) LabelTooLong (omega (arith, length-append (text_of w) rest, text_of-some w)) r (ahead-unit w rest is) (λ labels. full_step labels (written_octets open_label) rest (octet_of w) (omega (arith, length-map open_label octet_of))))
reading-fault text fault (bad_escape before open_label rest r bad) = cc (reads_fault text before open_label rest at_fault BadEscape (omega (arith, ap length bad.1)) r (ahead-bad rest bad) (λ labels. refl))
