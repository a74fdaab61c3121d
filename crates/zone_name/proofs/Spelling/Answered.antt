-- The name that a text spells under an origin, its letters folded or kept, or its first fault, as an
-- answer on lists.
use Rattle.zone_name.proofs.Common.{common_steps, AllByRecursion, AreOctets, AreWrittenLabels, Bool, EmptyLabel, Err, FaultAt, Folded, HasShape, HoldsNameBy, IfErr, IfSome, IsCasedLabel, IsCasedName, IsLabel, IsRelative, IsUnit, IsWrittenLabel, Kept, Labels, Letters, List, NameFault, NameTooLong, None, Ok, Option, Origin, RelativeName, Result, Root, Some, SpellingFault, SpellsBy, SpellsCased, WritesBy, Written, [], absolute, arith, at_origin, bytes_decides, cases_lt, codes, dotted, false, false≢true, get_or, inl, inr, is_dot, kept, length, length-map, lettered, long_name, name_read, nat_eq, origin_in, parted, plain, pointwise, refl, relative, root, sized, sym, text_of, true, unfounded, w8, wire, within, written_octets, written_text, ℕ, ◌++◌, ◌<◌, ◌∙◌, ◌∷◌, ◌≡◌, ◌≢◌, ◌≤◌, ◌⊎◌}
use Rattle.zone_name.specs.declared.reading.NameShape.{NameShape}
use Rattle.zone_name.specs.Machine.LabelWalk.{reading}
use Rattle.std.proofs.Common.{Fits, append-nil, append_assoc}
use Rattle.std.specs.Prelude.{IsOk, OnOk}
use Rattle.zone_name.specs.Common.{IsVerdict}
use Rattle.zone_name.specs.Spelling.{named}
use Rattle.zone_name.proofs.InOctets.Octets.{AllByRecursion-weaker}
use Rattle.zone_name.proofs.Spelling.Spelled.{AreShort, Says, reading-says}
use Rattle.zone_name.proofs.Spelling.Only.{reading-dotted, reading-parted, reading-fault}
use Rattle.zone_name.proofs.Spelling.Letters.{held_origin, joined_size, lettered_size, sized_by, taken_by}
use Rattle.zone_name.proofs.InOctets.Pushing.{IsLabelBy, IsNameBy, AllByRecursion-from_places, AllByRecursion-append, AllByRecursion-front, AllByRecursion-back, folded_labels, sized-long}

-- labels of at most 63 octets
abbrev pub ShortLabels : List (List ℕ) → Type 0
ShortLabels labels = AllByRecursion (λ label. length label ≤ 63) labels

-- what a text of this form is under an origin
abbrev pub answered : Letters → Option (List (List ℕ)) → List ℕ → NameShape → Result (List (List ℕ)) NameFault
answered letters origin text Root = sized []
answered letters None text Origin = Err RelativeName
answered letters (Some above) text Origin = sized above
answered letters origin text Labels = name_read letters origin text

-- each text has a form
pub form_at : (text : List ℕ) → (form : NameShape) × HasShape text form
form_at text = by (pointwise nat_eq text (codes ".")) (pointwise nat_eq text (codes "@")) refl refl
  where
    by : (is_dot is_at : Bool) → pointwise nat_eq text (codes ".") ≡ is_dot → pointwise nat_eq text (codes "@") ≡ is_at → (form : NameShape) × HasShape text form
    by true is_at e f = (Root, (bytes_decides text (codes ".")).0 e)
    by false true e f = (Origin, (bytes_decides text (codes "@")).0 f)
    by false false e f = (Labels, (λ h. false≢true (sym e ∙ (bytes_decides text (codes ".")).1 h), λ h. false≢true (sym f ∙ (bytes_decides text (codes "@")).1 h)))

-- ---- lengths

short_folded : (written : List (List Written)) → AreShort written → ShortLabels (named written)
short_folded [] short = tt
short_folded (label ∷ written) short = grind (arith, length-map, short_folded written short.1)

short_by : (letters : Letters) (labels : List (List ℕ)) → IsNameBy letters labels → ShortLabels labels
short_by Kept labels name = AllByRecursion-weaker IsCasedLabel _ (λ l is. is.short) labels name.each
short_by Folded labels name = AllByRecursion-weaker IsLabel _ (λ l is. is.short) labels name.each

short_written : (letters : Letters) (written : List (List Written)) → ShortLabels (taken_by letters written) → AreShort written
short_written letters [] each = tt
short_written Kept (label ∷ written) each = grind (arith, length-map, short_written Kept written each.1)
short_written Folded (label ∷ written) each = grind (arith, length-map, short_written Folded written each.1)

-- ---- what is so is answered
absolute_reads : (letters : Letters) (text : List ℕ) (written : List (List Written)) (labels : List (List ℕ)) → AreWrittenLabels written → text ≡ dotted written → labels ≡ taken_by letters written → ShortLabels labels → reading text ≡ Ok (kept written, true)
absolute_reads letters text written labels are text_is is short = rw text_is (reading-dotted written are (short_written letters written (rw is at short)))

relative_reads : (letters : Letters) (text : List ℕ) (written : List (List Written)) (above labels : List (List ℕ)) → AreWrittenLabels written → text ≡ parted written → labels ≡ taken_by letters written ++ above → ShortLabels labels → reading text ≡ Ok (kept written, false)
relative_reads letters text written above labels are text_is is short = rw text_is (reading-parted written are (short_written letters written (AllByRecursion-front (λ label. length label ≤ 63) (taken_by letters written) above (rw is at short))))

reading_dot : reading (codes ".") ≡ Err EmptyLabel
unfolding reading
reading_dot = refl

reading_at : reading (codes "@") ≡ Ok ((64 ∷ []) ∷ [], false)
unfolding reading
reading_at = refl

-- a text that writes labels is answered by them, where they fit
writes_answered : (letters : Letters) (origin : Option (List (List ℕ))) (text : List ℕ) (labels : List (List ℕ)) (form : NameShape) → HasShape text form → WritesBy (taken_by letters) origin text labels → ShortLabels labels → answered letters origin text form ≡ sized labels
writes_answered letters origin text labels form dot given short = grind (arith, reading_dot, absolute_reads, relative_reads, reading_at)

pub spells_by : (letters : Letters) (origin : Option (List (List ℕ))) (text : List ℕ) (name : List (List ℕ)) → WritesBy (taken_by letters) origin text name → IsNameBy letters name → SpellsBy letters origin text name
spells_by Kept origin text name writes is = record { written = writes; name = is }
spells_by Folded origin text name writes is = record { written = writes; name = is }

-- the name that a text spells is its answer
pub answered-only : (letters : Letters) (origin : Option (List (List ℕ))) (text : List ℕ) (form : NameShape) (name : List (List ℕ)) → HasShape text form → SpellsBy letters origin text name → answered letters origin text form ≡ Ok name
answered-only Kept origin text form name has spells = writes_answered Kept origin text name form has spells.written (short_by Kept name spells.name) ∙ sized_by Kept name spells.name
answered-only Folded origin text form name has spells = writes_answered Folded origin text name form has spells.written (short_by Folded name spells.name) ∙ sized_by Folded name spells.name

-- an origin that is a name is the answer of an `@`
pub answered-origin : (letters : Letters) (origin : Option (List (List ℕ))) (text : List ℕ) (above : List (List ℕ)) → origin ≡ Some above → IfSome origin (IsNameBy letters) → answered letters origin text Origin ≡ Ok above
answered-origin letters origin text above is known = grind (arith, common_steps, sized_by)

-- a dot alone has no fault
faultless_dot : (text : List ℕ) (fault : NameFault) → text ≡ codes "." → FaultAt text fault → reading text ≡ Err fault → ⊥
faultless_dot text fault dot h e = grind (arith, reading_dot)

relative_answered : (letters : Letters) (text : List ℕ) (form : NameShape) → HasShape text form → IsRelative text → answered letters None text form ≡ Err RelativeName
relative_answered letters text form dot is = grind (arith, reading_dot, reading-parted)

same_fault : (letters others : Letters) (origin : Option (List (List ℕ))) (text : List ℕ) (form : NameShape) (fault : NameFault) → answered letters origin text form ≡ Err fault → answered others origin text form ≡ Err fault
same_fault letters others origin text form fault e = grind (arith, common_steps, sized, lettered_size, joined_size)

-- the first fault of a text is its answer
pub answered-fault : (letters : Letters) (origin : Option (List (List ℕ))) (text : List ℕ) (form : NameShape) (fault : NameFault) → HasShape text form → SpellingFault origin text fault → answered letters origin text form ≡ Err fault
answered-fault letters origin text form fault has (within f at) = grind (arith, faultless_dot, reading-fault, reading_at)
answered-fault letters origin text form fault has (unfounded none is) = cc (relative_answered letters text form has is)
answered-fault letters origin text form fault has (long_name labels writes short long) = same_fault Folded letters origin text form NameTooLong (writes_answered Folded origin text labels form has writes short ∙ sized-long labels long)

-- ---- the labels of a text of octets

octets_short : (label : List Written) → AllByRecursion (IsUnit is_dot) label → AreOctets (written_text label) → AreOctets (written_octets label)
octets_short [] is each = tt
octets_short (w ∷ label) is each = grind (arith, octets_short label is.1 (AllByRecursion-back (λ c. c < 256) (text_of w) (written_text label) each))

dotted_are : (written : List (List Written)) → AllByRecursion IsWrittenLabel written → AreShort written → AreOctets (dotted written) → AllByRecursion IsCasedLabel (kept written)
dotted_are [] is short each = tt
dotted_are (label ∷ written) is short each =
    grind (arith, common_steps, AllByRecursion-front, AllByRecursion-back, length-map, octets_short, dotted_are written)

pub parted-dotted : (label : List Written) (labels : List (List Written))
    → parted (label ∷ labels) ++ 46 ∷ [] ≡ dotted (label ∷ labels)
parted-dotted label [] = sym (append-nil (written_text label ++ 46 ∷ []))
parted-dotted label (next ∷ labels) = grind (arith, append_assoc, parted-dotted next labels)

parted_are : (written : List (List Written)) → AllByRecursion IsWrittenLabel written → AreShort written → AreOctets (parted written) → AllByRecursion IsCasedLabel (kept written)
parted_are [] is short each = tt
parted_are (label ∷ written) is short each = dotted_are (label ∷ written) is short (rw (parted-dotted label written) at (AllByRecursion-append (λ c. c < 256) (parted (label ∷ written)) (46 ∷ []) each (omega arith, tt)))

-- what is said of the labels that are read
pub reading-says_ok : (text : List ℕ) (labels : List (List ℕ)) (is_absolute : Bool) → Says text (Ok (labels, is_absolute)) → reading text ≡ Ok (labels, is_absolute)
reading-says_ok text labels is_absolute says = grind (arith, reading-dotted, reading-parted)

pub labels-says_ok : (text : List ℕ) (labels : List (List ℕ)) (is_absolute : Bool) → AreOctets text → Says text (Ok (labels, is_absolute)) → AllByRecursion IsCasedLabel labels
labels-says_ok text labels is_absolute octets says = grind (arith, dotted_are, parted_are)

lettered_each : (letters : Letters) (labels : List (List ℕ)) → AllByRecursion IsCasedLabel labels → AllByRecursion (IsLabelBy letters) (lettered letters labels)
lettered_each letters labels each = grind (arith, common_steps, folded_labels)

name_by : (letters : Letters) (labels : List (List ℕ)) → AllByRecursion (IsLabelBy letters) labels → length (wire labels) ≤ 255 → IsNameBy letters labels
name_by Kept labels each short = record { each = each; short = short }
name_by Folded labels each short = record { each = each; short = short }

each_by : (letters : Letters) (labels : List (List ℕ)) → IsNameBy letters labels → AllByRecursion (IsLabelBy letters) labels
each_by Kept labels name = name.each
each_by Folded labels name = name.each

-- ---- one answer
-- an `@` is a relative text
pub at-relative : (text : List ℕ) → text ≡ codes "@" → IsRelative text
at-relative text e = ((plain 64 ∷ []) ∷ [], record { some = omega arith; each = (record { some = omega arith; each = ((refl, λ h. cc), tt) }, tt) }, (omega arith, tt), e)

pub root_is : (letters : Letters) → IsNameBy letters []
root_is letters = name_by letters [] tt (omega arith)

abbrev OneOf : Letters → Option (List (List ℕ)) → List ℕ → Type 0
OneOf letters origin text = ((labels : List (List ℕ)) × SpellsBy letters origin text labels) ⊎ ((fault : NameFault) × SpellingFault origin text fault)

-- labels that are a name, or too long for one
one_by : (letters : Letters) (origin : Option (List (List ℕ))) (text : List ℕ) (labels lower : List (List ℕ)) → WritesBy (taken_by letters) origin text labels → WritesBy (taken_by Folded) origin text lower → ShortLabels lower → length (wire lower) ≡ length (wire labels) → AllByRecursion (IsLabelBy letters) labels → OneOf letters origin text
one_by letters origin text labels lower writes named short size each = elim (cases_lt 255 (length (wire labels))) [
  | inl long ↦ inr (NameTooLong, long_name lower named short (omega arith))
  | inr fits ↦ inl (labels, spells_by letters origin text labels writes (name_by letters labels each fits))
]

one_says : (letters : Letters) (origin : Option (List (List ℕ))) (text : List ℕ) (found : Result (List (List ℕ) × Bool) NameFault) → IfSome origin (IsNameBy letters) → AreOctets text → text ≢ codes "@" → Says text found → OneOf letters origin text
one_says letters origin text (Err fault) known octets other says = inr (fault, within fault says)
one_says letters origin text (Ok (labels, true)) known octets other says =
    let written = says.written in
    one_by letters origin text (taken_by letters written) (taken_by Folded written) (absolute written says.are says.text_is refl) (absolute written says.are says.text_is refl) (short_folded written says.short)
    (omega (arith, lettered_size letters (kept written), lettered_size Folded (kept written))) (lettered_each letters (kept written) (dotted_are written says.are.each says.short (rw says.text_is at octets)))
one_says letters None text (Ok (labels, false)) known octets other says = inr (RelativeName, unfounded refl (says.written, says.are, says.short, says.text_is))
one_says letters (Some above) text (Ok (labels, false)) known octets other says =
    let written = says.written in
    one_by letters (Some above) text (taken_by letters written ++ above) (taken_by Folded written ++ above) (relative written above says.are other says.text_is refl refl) (relative written above says.are other says.text_is refl refl)
    (AllByRecursion-append (λ label. length label ≤ 63) (named written) above (short_folded written says.short) (short_by letters above known))
    (omega (arith, joined_size (taken_by letters written) above, joined_size (taken_by Folded written) above, lettered_size letters (kept written), lettered_size Folded (kept written)))
    (AllByRecursion-append (IsLabelBy letters) (taken_by letters written) above (lettered_each letters (kept written) (parted_are written says.are.each says.short (rw says.text_is at octets))) (each_by letters above known))

-- a text of octets spells a name or has a first fault
pub either_by : (letters : Letters) (origin : Option (List (List ℕ))) (text : List ℕ) → IfSome origin (IsNameBy letters) → AreOctets text → OneOf letters origin text
either_by letters origin text known octets = let form = form_at text in by origin known form.0 form.1
  where
    by : (origin : Option (List (List ℕ))) → IfSome origin (IsNameBy letters) → (form : NameShape) → HasShape text form → OneOf letters origin text
    by origin known Root dot = inl ([], spells_by letters origin text [] (root dot refl) (root_is letters))
    by None known Origin at = inr (RelativeName, unfounded refl (at-relative text at))
    by (Some above) known Origin at = inl (above, spells_by letters (Some above) text above (at_origin at refl) known)
    by origin known Labels other = one_says letters origin text (reading text) known octets other.1 (reading-says text other.0)

-- an answer that is a name is spelled, and one that is a fault is the first
abbrev Told : Letters → Option (List (List ℕ)) → List ℕ → Result (List (List ℕ)) NameFault → Type 0
Told letters origin text (Ok name) = SpellsBy letters origin text name
Told letters origin text (Err fault) = SpellingFault origin text fault

told : (letters : Letters) (origin : Option (List ℕ)) (text : List ℕ) (form : NameShape) (answer : Result (List (List ℕ)) NameFault) → HasShape text form → IfSome origin (HoldsNameBy letters) → ((k : ℕ) → Fits w8 (get_or text k 0)) → answered letters (origin_in origin) text form ≡ answer → Told letters (origin_in origin) text answer
told letters origin text form answer has known octets is = elim (either_by letters (origin_in origin) text (held_origin letters origin known) (AllByRecursion-from_places (λ c. c < 256) text (λ k h. (octets k).fits))) [
  | inl found ↦ let same : Ok found.0 ≡ answer = cc (answered-only letters (origin_in origin) text form found.0 has found.1) in rw (← same) (found.1)
  | inr bad ↦ let same : Err bad.0 ≡ answer = cc (answered-fault letters (origin_in origin) text form bad.0 has bad.1) in rw (← same) (bad.1)
]

-- what is told of a call that answers
pub record Tells (letters : Letters) (origin : Option (List (List ℕ))) (text : List ℕ) (result : Result (Unit {0}) NameFault) (labels : List (List ℕ)) : Type 0 where
  pub found : OnOk result (SpellsBy letters origin text labels)
  pub only : (name : List (List ℕ)) → SpellsBy letters origin text name → IsOk result × (labels ≡ name)
  pub fault : IfErr result (SpellingFault origin text)

pub tells : (letters : Letters) (origin : Option (List ℕ)) (text : List ℕ) (form : NameShape) (result : Result (Unit {0}) NameFault) (labels : List (List ℕ)) → HasShape text form → IfSome origin (HoldsNameBy letters) → ((k : ℕ) → Fits w8 (get_or text k 0)) → OnOk result (answered letters (origin_in origin) text form ≡ Ok labels) → IfErr result (λ fault. answered letters (origin_in origin) text form ≡ Err fault) → Tells letters (origin_in origin) text result labels
tells letters origin text form (Ok done) labels has known octets ok err = record {
  found = told letters origin text form (Ok labels) has known octets ok;
  only = λ name spells. (refl, cc (answered-only letters (origin_in origin) text form name has spells));
  fault = tt;
}
tells letters origin text form (Err first) labels has known octets ok err = record {
  found = tt;
  only = λ name spells. absurd (cc (answered-only letters (origin_in origin) text form name has spells));
  fault = told letters origin text form (Err first) has known octets err;
}

pub once_by : (letters : Letters) (origin : Option (List (List ℕ))) (text : List ℕ) (a b : List (List ℕ)) → SpellsBy letters origin text a → SpellsBy letters origin text b → a ≡ b
once_by letters origin text a b one two =
    let form = form_at text in
    cc (answered-only letters origin text form.0 a form.1 one, answered-only letters origin text form.0 b form.1 two)

pub faultless_by : (letters : Letters) (origin : Option (List (List ℕ))) (text : List ℕ) (labels : List (List ℕ)) (fault : NameFault) → SpellsBy letters origin text labels → SpellingFault origin text fault → ⊥
faultless_by letters origin text labels fault spells first =
    let form = form_at text in
    cc (answered-fault letters origin text form.0 fault form.1 first, answered-only letters origin text form.0 labels form.1 spells)

pub SpellsCased-once : (origin : Option (List (List ℕ))) (text : List ℕ) (a b : List (List ℕ)) → SpellsCased origin text a → SpellsCased origin text b → a ≡ b
SpellsCased-once = once_by Kept

pub SpellsCased-faultless : (origin : Option (List (List ℕ))) (text : List ℕ) (labels : List (List ℕ)) (fault : NameFault) → SpellsCased origin text labels → SpellingFault origin text fault → ⊥
SpellsCased-faultless = faultless_by Kept

pub FirstFault-once : (origin : Option (List (List ℕ))) (text : List ℕ) (f g : NameFault) → SpellingFault origin text f → SpellingFault origin text g → f ≡ g
FirstFault-once origin text f g one two =
    let form = form_at text in
    cc (answered-fault Folded origin text form.0 f form.1 one, answered-fault Folded origin text form.0 g form.1 two)

pub one_verdict : (letters : Letters) (origin : Option (List (List ℕ))) (text : List ℕ) → IfSome origin (IsNameBy letters) → AreOctets text → IsVerdict (SpellsBy letters origin text) (SpellingFault origin text)
one_verdict letters origin text known octets =
    grind (arith, common_steps, either_by, faultless_by, once_by, FirstFault-once)

pub one_verdict_cased : (origin : Option (List (List ℕ))) (text : List ℕ) → IfSome origin IsCasedName → AreOctets text → IsVerdict (SpellsCased origin text) (SpellingFault origin text)
one_verdict_cased = one_verdict Kept
