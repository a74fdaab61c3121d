-- What a step makes of how far a file is.
use Rattle.std.proofs.Common.{◌≡◌, ℕ, List, [], ◌∷◌, ◌++◌, Some, Bool, true, false, sym, ap, subst, ◌∙◌, append-nil}
use Rattle.std.specs.List.{flat_map, slice_get}
use Rattle.zone_name.specs.Common.{Labels}
use Rattle.zone_rdata.specs.Item.{RawItem}
use Rattle.zone_text.proofs.Common.{flat_map-append}
use Rattle.zone_text.specs.Entries.{item_of}
use Rattle.zone_text.specs.Kept.{AreKept, KeepsItems}
use Rattle.zone_text.specs.Statements.{statement_by}
use Rattle.zone_text.specs.Tokens.{Token, line_feed, text, token_text}
use Rattle.zone_files.specs.Expansion.{BecomesBy, EntryBecomes, Holds, Outcome, as_lines, fails, opens, origin_line, stays}
use Rattle.zone_generate.specs.Entry.{Generation}
use Rattle.zone_files.specs.Machine.Expanding.{EntersLast, EntersOctets}
use Rattle.zone_files.specs.Machine.Progressing.{Enters, end_of, has_begun, has_failed, has_opened, named_of, was_written}
use Rattle.zone_files.specs.Machine.Stepping.{IsBegun, IsLeft, IsWritten, TakesEntry}
use Rattle.zone_files.specs.declared.expansion.progress.FileStatus.TheVariants as statuses
use Rattle.zone_files.specs.declared.expansion.progress.Progress.{Progress}
use Rattle.zone_files.specs.declared.expansion.step.Step.{Step}
use Rattle.zone_files.specs.declared.expansion.step.Step.TheVariants as steps
use Rattle.zone_files.specs.declared.fault.ExpansionFault.{ExpansionFault}
use Rattle.zone_files.proofs.Expansions.KeptItems.{kept_becomes}

-- what becomes of an entry, as the items that are kept say
pub becomes_of : (h : Holds) (entry : List ℕ) (kept : List RawItem) (outcome : Outcome) (tokens : List Token) → text tokens ≡ entry → AreKept (flat_map item_of tokens) kept → BecomesBy h entry kept (statement_by (slice_get entry 0) kept) outcome → EntryBecomes h tokens outcome
becomes_of h entry kept outcome tokens is are p =
    kept_becomes h (text tokens) outcome (slice_get (text tokens) 0) (flat_map item_of tokens) kept are
    (subst (λ t. BecomesBy h t kept (statement_by (slice_get t 0) kept) outcome) (sym is) p)

module _ (old new : Progress) (entry : List ℕ) (kept : List RawItem) (last : Bool) (step : Step) (holding : Holds) (before middle : List ℕ) (takes : TakesEntry old.holding entry kept step holding before middle) (held : new.holding ≡ holding) where
  pub entered_written : (after : List ℕ) → step ≡ steps.Written → after ≡ middle → new.status ≡ end_of last → Enters old entry kept last new before after
  entered_written after is out st tokens says are =
      let w : IsWritten (BecomesBy old.holding entry kept (statement_by (slice_get entry 0) kept)) holding before middle = subst (λ s. TakesEntry old.holding entry kept s holding before middle) is takes in
      was_written w.made (becomes_of old.holding entry kept (stays w.made new.holding) tokens says are (subst (λ h. BecomesBy old.holding entry kept (statement_by (slice_get entry 0) kept) (stays w.made h)) (sym held) w.becomes)) (out ∙ w.written) st

  pub entered_opened : (after name : List ℕ) (origin : Labels) → step ≡ steps.Opens name origin → after ≡ middle ++ origin_line origin → new.status ≡ statuses.Including → named_of new.included ≡ Some (record { name = name; origin = origin }) → new.last ≡ last → Enters old entry kept last new before after
  entered_opened after name origin is out st inc end tokens says are =
      let w : IsLeft (BecomesBy old.holding entry kept (statement_by (slice_get entry 0) kept)) (opens name origin) old.holding holding before middle = subst (λ s. TakesEntry old.holding entry kept s holding before middle) is takes in
      has_opened (record { name = name; origin = origin }) (becomes_of old.holding entry kept (opens name origin) tokens says are w.becomes) (out ∙ ap (λ t. t ++ origin_line origin) w.nothing) (held ∙ w.same) st inc end

  pub entered_begun : (after : List ℕ) (g : Generation) → step ≡ steps.Generates g → after ≡ middle → new.status ≡ statuses.Generating → new.generated ≡ Some g → new.last ≡ last → Enters old entry kept last new before after
  entered_begun after g is out st gen end tokens says are =
      let w : IsBegun (BecomesBy old.holding entry kept (statement_by (slice_get entry 0) kept)) g holding before middle = subst (λ s. TakesEntry old.holding entry kept s holding before middle) is takes in
      has_begun g
      (λ lines fault all. becomes_of old.holding entry kept (as_lines lines new.holding fault) tokens says are (subst (λ h. BecomesBy old.holding entry kept (statement_by (slice_get entry 0) kept) (as_lines lines h fault)) (sym held) (w.becomes lines fault all)))
      (out ∙ w.nothing) st gen end

  pub entered_failed : (after : List ℕ) (fault : ExpansionFault) → step ≡ steps.Fails fault → after ≡ middle → new.status ≡ statuses.Faulty fault → Enters old entry kept last new before after
  entered_failed after fault is out st tokens says are =
      let w : IsLeft (BecomesBy old.holding entry kept (statement_by (slice_get entry 0) kept)) (fails fault) old.holding holding before middle = subst (λ s. TakesEntry old.holding entry kept s holding before middle) is takes in
      has_failed fault (becomes_of old.holding entry kept (fails fault) tokens says are w.becomes) (out ∙ w.nothing) st

-- ---- the octets of a whole entry

-- those that are held
pub octets_entered : (old new : Progress) (octets : List ℕ) (kept : List RawItem) (before after : List ℕ) → KeepsItems octets kept → Enters old octets kept false new before after → EntersOctets octets old new before after
octets_entered old new octets kept before after keeps enters tokens cut = enters tokens (sym cut.whole) (keeps tokens cut)

-- those that the file ends with
pub last_entered : (old new : Progress) (octets entry : List ℕ) (kept : List RawItem) (before after : List ℕ) → entry ≡ octets ++ 10 ∷ [] → KeepsItems octets kept → Enters old entry kept true new before after → EntersLast octets old new before after
last_entered old new octets entry kept before after is keeps enters tokens cut =
    enters (tokens ++ line_feed ∷ [])
    (flat_map-append token_text tokens (line_feed ∷ []) ∙ ap (λ t. t ++ 10 ∷ []) (sym cut.whole) ∙ sym is)
    (subst (λ items. AreKept items kept) (sym (flat_map-append item_of tokens (line_feed ∷ []) ∙ append-nil (flat_map item_of tokens))) (keeps tokens cut))
