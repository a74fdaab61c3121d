-- What an entry, and what follows it, make of a file.
use Rattle.std.proofs.Common.{◌≡◌, ℕ, zero, List, [], ◌∷◌, ◌++◌, Option, Some, None, true, false, refl, sym, ap, subst, ◌∙◌, append_assoc, append-nil, inl}
use Rattle.std.specs.List.{flat_map}
use Rattle.zone_name.specs.Common.{Labels}
use Rattle.zone_rdata.specs.declared.fault.Fault.{Fault}
use Rattle.zone_text.proofs.Entries.Begun.{no_tokens}
use Rattle.zone_text.proofs.Files.Left.{IsSplit, break_more, cut_more, split}
use Rattle.zone_text.proofs.Tokens.CutAgain.{again_zero, cut_whole, joined}
use Rattle.zone_text.proofs.Tokens.Lasting.{breaks_for_good}
use Rattle.zone_text.specs.Breaks.{Breaks}
use Rattle.zone_text.specs.Entries.{Cut, cut_from}
use Rattle.zone_text.specs.FirstEntry.{IsBrokenOff, IsOneEntry}
use Rattle.zone_text.specs.Tokens.{Token, Cuts, line_feed, text}
use Rattle.zone_words.proofs.Files.{closed}
use Rattle.zone_files.specs.Expansion.{AfterIncluded, EachExpands, Ending, EntryBecomes, Expands, Files, Holds, IsFile, Opening, as_lines, back_in, breaks_off, broken, each_with_line_feed, ends, fails, file, lacks_line, no_files, opens, origin_line, stays, stops, stops_at, wants, whole, within}
use Rattle.zone_files.specs.FileExpander.{AfterInner, AfterLines, Continues, then}
use Rattle.zone_files.specs.declared.fault.ExpansionFault.{ExpansionFault}

-- ---- the entries of a file

one_split : (e : List ℕ) (tokens : List Token) → IsOneEntry e tokens → IsSplit e (tokens ∷ []) []
one_split e tokens one =
    let same : (cut_from zero tokens).ended ≡ tokens ∷ [] = ap (λ (c : Cut). c.ended) one.ended in
    subst (λ es. IsSplit e es []) same (split e tokens [] (inl one.cut) (closed e tokens one.cut (ap (λ (c : Cut). c.open_tokens) one.ended)))

with_feed_front : (tokens : List Token) (ended : List (List Token)) (others : List Token) → each_with_line_feed (tokens ∷ ended) others ≡ tokens ∷ each_with_line_feed ended others
with_feed_front tokens ended [] = refl
with_feed_front tokens ended (p ∷ others) = refl

-- an entry, and a file after it
pub file_after : (e more : List ℕ) (tokens : List Token) (entries : List (List Token)) (tail : Option (List ℕ)) → IsOneEntry e tokens → IsFile more entries tail → IsFile (e ++ more) (tokens ∷ entries) tail
file_after e more tokens entries tail one (whole ts cut es n) =
    let s : IsSplit e (tokens ∷ []) [] = one_split e tokens one in
    let all = again_zero (tokens ∷ []) ts s.stays in
    whole (joined (tokens ∷ []) ++ ts) (cut_more e more (tokens ∷ []) [] ts s cut)
    (ap (λ t. tokens ∷ t) es ∙ sym (with_feed_front tokens (cut_from zero ts).ended (cut_from zero ts).open_tokens) ∙ sym (ap (λ (c : Cut). each_with_line_feed c.ended c.open_tokens) all))
    n
file_after e more tokens entries tail one (broken ts fault rest breaks es parts n) =
    let s : IsSplit e (tokens ∷ []) [] = one_split e tokens one in
    let all = again_zero (tokens ∷ []) ts s.stays in
    broken (joined (tokens ∷ []) ++ ts) fault rest (break_more e more (tokens ∷ []) [] ts fault s breaks)
    (ap (λ t. tokens ∷ t) es ∙ sym (ap (λ (c : Cut). c.ended) all))
    (ap (λ t. t ++ more) one.cut.whole ∙ ap (λ t. text tokens ++ t) parts ∙ sym (append_assoc (text tokens) (flat_map text entries) rest))
    n

pub file_none : IsFile [] [] None
file_none = whole [] no_tokens refl refl

-- an entry alone
pub file_one : (e : List ℕ) (tokens : List Token) → IsOneEntry e tokens → IsFile e (tokens ∷ []) None
file_one e tokens one = subst (λ t. IsFile t (tokens ∷ []) None) (append-nil e) (file_after e [] tokens [] None one file_none)

-- the last entry, which no line feed ends
pub file_last : (e : List ℕ) (tokens : List Token) → Cuts e tokens → (cut_from zero tokens).ended ≡ [] → (e ≡ [] → ⊥) → IsFile e ((tokens ++ line_feed ∷ []) ∷ []) None
file_last e [] cut none some = absurd (some cut.whole)
file_last e (p ∷ ts) cut none some =
    let all : (cut_from zero (p ∷ ts)).open_tokens ≡ p ∷ ts = sym (ap (λ (es : List (List Token)). joined es ++ (cut_from zero (p ∷ ts)).open_tokens) none) ∙ cut_whole zero (p ∷ ts) in
    whole (p ∷ ts) cut (sym (ap (λ es. each_with_line_feed es (cut_from zero (p ∷ ts)).open_tokens) none ∙ ap (each_with_line_feed []) all)) refl

-- a text that breaks, whatever follows
pub file_broken : (w more : List ℕ) (fault : Fault) → IsBrokenOff w fault → IsFile (w ++ more) [] (Some (w ++ more))
file_broken w more fault b = broken b.tokens fault (w ++ more) (breaks_for_good w more b.tokens fault b.breaks).breaks (sym b.none) refl refl

-- one that breaks since it ends
pub file_breaks : (w : List ℕ) (fault : Fault) (tokens : List Token) → Breaks w tokens fault → (cut_from zero tokens).ended ≡ [] → IsFile w [] (Some w)
file_breaks w fault tokens breaks none = broken tokens fault w breaks (sym none) refl refl

-- ---- files

pub then_none : (files : Files) → then files no_files ≡ files
then_none no_files = refl
then_none (file octets inner others) = ap (λ t. file octets inner t) (then_none others)

pub then_file : (files : Files) (octets : List ℕ) (inner later : Files) → then (then files (file octets inner no_files)) later ≡ then files (file octets inner later)
then_file no_files octets inner later = refl
then_file (file o i others) octets inner later = ap (λ t. file o i t) (then_file others octets inner later)

-- ---- an entry and what follows it

stays_then : (h next : Holds) (e more : List ℕ) (tokens : List Token) (made written : List ℕ) (later : Files) (ending : Ending) → IsOneEntry e tokens → EntryBecomes h tokens (stays made next) → Expands next more later written ending → Expands h (e ++ more) later (made ++ written) ending
stays_then h next e more tokens made written later ending one becomes x = record {
  entries = tokens ∷ x.entries;
  tail = x.tail;
  is_file = file_after e more tokens x.entries x.tail one x.is_file;
  each = (stays made next, becomes, (written, refl, x.each));
}

opened : (h : Holds) (all : List ℕ) (tokens : List Token) (entries : List (List Token)) (tail : Option (List ℕ)) (name : List ℕ) (origin : Labels) (octets : List ℕ) (inner others : Files) (inside rest : List ℕ) (last ending : Ending)
    → IsFile all (tokens ∷ entries) tail → EntryBecomes h tokens (opens name origin) → Expands (within name origin h) octets inner inside last
    → AfterIncluded (λ next more end. EachExpands (Opening others) next entries tail more end) h rest ending last
    → Expands h all (file octets inner others) (origin_line origin ++ (inside ++ rest)) ending
opened h all tokens entries tail name origin octets inner others inside rest last ending is becomes x after = record {
  entries = tokens ∷ entries;
  tail = tail;
  is_file = is;
  each = (opens name origin, becomes, (record { entries = x.entries; tail = x.tail; is_file = x.is_file; written = inside; ending = last; each = x.each }, rest, refl, after));
}

module _ (start h : Holds) (fed : List ℕ) (files : Files) (given : List ℕ) where
  -- what these octets make, from what holds on, follows the text that was given
  abbrev pub Leads : List ℕ → Type 0
  Leads octets = (later : Files) (written : List ℕ) (ending : Ending) → Expands h octets later written ending → Expands start fed (then files later) (given ++ written) ending

  module _ (octets : List ℕ) (leads : Leads octets) where
    alone : (written : List ℕ) (ending : Ending) → Expands h octets no_files written ending → Expands start fed files (given ++ written) ending
    alone written ending x = subst (λ f. Expands start fed f (given ++ written) ending) (then_none files) (leads no_files written ending x)

    module _ (tokens : List Token) (entries : List (List Token)) (tail : Option (List ℕ)) (is : IsFile octets (tokens ∷ entries) tail) where
      pub leads_failed : (fault : ExpansionFault) → EntryBecomes h tokens (fails fault) → Expands start fed files given (stops fault)
      leads_failed fault becomes = subst (λ t. Expands start fed files t (stops fault)) (append-nil given) (alone [] (stops fault) (record { entries = tokens ∷ entries; tail = tail; is_file = is; each = (fails fault, becomes, (refl, refl)) }))

      pub leads_lacking : (lines : List ℕ) (value : ℕ) → EntryBecomes h tokens (lacks_line lines value) → Expands start fed files (given ++ lines) (stops_at value)
      leads_lacking lines value becomes = alone lines (stops_at value) (record { entries = tokens ∷ entries; tail = tail; is_file = is; each = (lacks_line lines value, becomes, (refl, refl)) })

      pub leads_stopped : (name : List ℕ) (origin : Labels) (own : List ℕ) (inner : Files) (inside : List ℕ) (ending : Ending) → EntryBecomes h tokens (opens name origin) → Expands (within name origin h) own inner inside ending
          → AfterIncluded (λ next more end. EachExpands (Opening no_files) next entries tail more end) h [] ending ending
          → Expands start fed (then files (file own inner no_files)) ((given ++ origin_line origin) ++ inside) ending
      leads_stopped name origin own inner inside ending becomes x after =
          subst (λ t. Expands start fed (then files (file own inner no_files)) t ending)
          (ap (λ t. given ++ (origin_line origin ++ t)) (append-nil inside) ∙ sym (append_assoc given (origin_line origin) inside))
          (leads (file own inner no_files) (origin_line origin ++ (inside ++ [])) ending (opened h octets tokens entries tail name origin own inner no_files inside [] ending ending is becomes x after))

    module _ (tokens : List Token) (is : IsFile octets (tokens ∷ []) None) where
      pub leads_ended : (made : List ℕ) (next : Holds) → EntryBecomes h tokens (stays made next) → Expands start fed files (given ++ made) (ends next)
      leads_ended made next becomes = alone made (ends next) (record { entries = tokens ∷ []; tail = None; is_file = is; each = (stays made next, becomes, ([], sym (append-nil made), (refl, refl))) })

      -- after the lines of the last entry
      pub leads_lines : (next : Holds) (lines : List ℕ) (fault : Option ℕ) → EntryBecomes h tokens (as_lines lines next fault) → AfterLines true start next fed files (given ++ lines) fault
      leads_lines next lines None becomes = leads_ended lines next becomes
      leads_lines next lines (Some value) becomes = leads_lacking tokens [] None is lines value becomes

      -- after an included file, which was in the last entry
      pub leads_back : (name : List ℕ) (origin : Labels) (own : List ℕ) (inner : Files) (inside : List ℕ) (below : Holds) → EntryBecomes h tokens (opens name origin) → Expands (within name origin h) own inner inside (ends below)
          → Expands start fed (then files (file own inner no_files)) (((given ++ origin_line origin) ++ inside) ++ origin_line h.origin) (ends (back_in h below))
      leads_back name origin own inner inside below becomes x =
          subst (λ t. Expands start fed (then files (file own inner no_files)) t (ends (back_in h below)))
          (sym (append_assoc given (origin_line origin) (inside ++ origin_line h.origin)) ∙ sym (append_assoc (given ++ origin_line origin) inside (origin_line h.origin)))
          (leads (file own inner no_files) (origin_line origin ++ (inside ++ origin_line h.origin)) (ends (back_in h below))
          (opened h octets tokens [] None name origin own inner no_files inside (origin_line h.origin) (ends below) (ends (back_in h below)) is becomes x ([], sym (append-nil (origin_line h.origin)), (refl, refl))))

      pub leads_after : (name : List ℕ) (origin : Labels) → EntryBecomes h tokens (opens name origin) → (own : List ℕ) (inner : Files) (inside : List ℕ) (ending : Ending) → Expands (within name origin h) own inner inside ending → AfterInner true start h fed (then files (file own inner no_files)) ((given ++ origin_line origin) ++ inside) ending
      leads_after name origin becomes own inner inside (ends below) x = leads_back name origin own inner inside below becomes x
      leads_after name origin becomes own inner inside breaks_off x = leads_stopped tokens [] None is name origin own inner inside breaks_off becomes x (refl, refl)
      leads_after name origin becomes own inner inside (stops fault) x = leads_stopped tokens [] None is name origin own inner inside (stops fault) becomes x (refl, refl)
      leads_after name origin becomes own inner inside (stops_at value) x = leads_stopped tokens [] None is name origin own inner inside (stops_at value) becomes x (refl, refl)
      leads_after name origin becomes own inner inside (wants other) x = leads_stopped tokens [] None is name origin own inner inside (wants other) becomes x (refl, refl)

-- ---- octets that are an entry, and what follows them

module _ (start h : Holds) (w part fed : List ℕ) (files : Files) (given : List ℕ) (c : Continues start h w fed files given) where
  -- the octets so far, and others after them
  with_more : (more : List ℕ) (later : Files) (written : List ℕ) (ending : Ending) → Expands h ((w ++ part) ++ more) later written ending → Expands start ((fed ++ part) ++ more) (then files later) (given ++ written) ending
  with_more more later written ending x =
      subst (λ t. Expands start t (then files later) (given ++ written) ending) (sym (append_assoc fed part more))
      (c (part ++ more) later written ending (subst (λ t. Expands h t later written ending) (append_assoc w part more) x))

  pub continues_more : Continues start h (w ++ part) (fed ++ part) files given
  continues_more = with_more

  module _ (tokens : List Token) (one : IsOneEntry (w ++ part) tokens) where
    pub continues_entry : (made : List ℕ) (next : Holds) → EntryBecomes h tokens (stays made next) → Continues start next [] (fed ++ part) files (given ++ made)
    continues_entry made next becomes more later written ending x =
        subst (λ t. Expands start ((fed ++ part) ++ more) (then files later) t ending) (sym (append_assoc given made written))
        (with_more more later (made ++ written) ending (stays_then h next (w ++ part) more tokens made written later ending one becomes x))

    pub continues_failed : (fault : ExpansionFault) → EntryBecomes h tokens (fails fault) → Expands start (fed ++ part) files given (stops fault)
    continues_failed fault becomes = leads_failed start h (fed ++ part) files given (w ++ part) (c part) tokens [] None (file_one (w ++ part) tokens one) fault becomes

    pub continues_lines : (next : Holds) (lines : List ℕ) (fault : Option ℕ) → EntryBecomes h tokens (as_lines lines next fault) → AfterLines false start next (fed ++ part) files (given ++ lines) fault
    continues_lines next lines None becomes = continues_entry lines next becomes
    continues_lines next lines (Some value) becomes = leads_lacking start h (fed ++ part) files given (w ++ part) (c part) tokens [] None (file_one (w ++ part) tokens one) lines value becomes

    continues_back : (name : List ℕ) (origin : Labels) (own : List ℕ) (inner : Files) (inside : List ℕ) (below : Holds) → EntryBecomes h tokens (opens name origin) → Expands (within name origin h) own inner inside (ends below)
        → Continues start (back_in h below) [] (fed ++ part) (then files (file own inner no_files)) (((given ++ origin_line origin) ++ inside) ++ origin_line h.origin)
    continues_back name origin own inner inside below becomes x more later written ending y =
        subst (λ f. Expands start ((fed ++ part) ++ more) f ((((given ++ origin_line origin) ++ inside) ++ origin_line h.origin) ++ written) ending) (sym (then_file files own inner later))
        (subst (λ t. Expands start ((fed ++ part) ++ more) (then files (file own inner later)) t ending)
        (sym (append_assoc given (origin_line origin) (inside ++ (origin_line h.origin ++ written))) ∙ sym (append_assoc (given ++ origin_line origin) inside (origin_line h.origin ++ written)) ∙ sym (append_assoc ((given ++ origin_line origin) ++ inside) (origin_line h.origin) written))
        (with_more more (file own inner later) (origin_line origin ++ (inside ++ (origin_line h.origin ++ written))) ending
        (opened h ((w ++ part) ++ more) tokens y.entries y.tail name origin own inner later inside (origin_line h.origin ++ written) (ends below) ending (file_after (w ++ part) more tokens y.entries y.tail one y.is_file) becomes x (written, refl, y.each))))

    pub continues_after : (name : List ℕ) (origin : Labels) → EntryBecomes h tokens (opens name origin) → (own : List ℕ) (inner : Files) (inside : List ℕ) (ending : Ending) → Expands (within name origin h) own inner inside ending → AfterInner false start h (fed ++ part) (then files (file own inner no_files)) ((given ++ origin_line origin) ++ inside) ending
    continues_after name origin becomes own inner inside (ends below) x = continues_back name origin own inner inside below becomes x
    continues_after name origin becomes own inner inside breaks_off x = leads_stopped start h (fed ++ part) files given (w ++ part) (c part) tokens [] None (file_one (w ++ part) tokens one) name origin own inner inside breaks_off becomes x (refl, refl)
    continues_after name origin becomes own inner inside (stops fault) x = leads_stopped start h (fed ++ part) files given (w ++ part) (c part) tokens [] None (file_one (w ++ part) tokens one) name origin own inner inside (stops fault) becomes x (refl, refl)
    continues_after name origin becomes own inner inside (stops_at value) x = leads_stopped start h (fed ++ part) files given (w ++ part) (c part) tokens [] None (file_one (w ++ part) tokens one) name origin own inner inside (stops_at value) becomes x (refl, refl)
    continues_after name origin becomes own inner inside (wants other) x = leads_stopped start h (fed ++ part) files given (w ++ part) (c part) tokens [] None (file_one (w ++ part) tokens one) name origin own inner inside (wants other) becomes x (refl, refl)

  -- ---- octets that break, whatever follows them

  pub continues_broken : (fault : Fault) → IsBrokenOff (w ++ part) fault → (more : List ℕ) → Expands start ((fed ++ part) ++ more) files ((given ++ (w ++ part)) ++ more) breaks_off
  continues_broken fault b more =
      subst (λ t. Expands start ((fed ++ part) ++ more) files t breaks_off) (sym (append_assoc given (w ++ part) more))
      (subst (λ f. Expands start ((fed ++ part) ++ more) f (given ++ ((w ++ part) ++ more)) breaks_off) (then_none files)
      (with_more more no_files ((w ++ part) ++ more) breaks_off (record { entries = []; tail = Some ((w ++ part) ++ more); is_file = file_broken (w ++ part) more fault b; each = (refl, refl) })))
