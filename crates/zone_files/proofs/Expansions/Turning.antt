-- That the reading of a file ends: what its end and the lines of a `$GENERATE` leave.
use Rattle.std.proofs.Common.{◌≡◌, ℕ, ◌<◌, ◌⊎◌, inl, inr, List, [], ◌∷◌, ◌++◌, length, Bool, true, false, refl, sym, ap, subst, ◌∙◌, arith, length-append}
use Rattle.zone_text.specs.Tokens.{Token, line_feed}
use Rattle.zone_text.specs.OpenEntry.{EndIs}
use Rattle.zone_rdata.specs.declared.fault.Fault.{Fault}
use Rattle.std.specs.Prelude.{Option, None}
use Rattle.zone_files.specs.FileExpander.{ExpanderState}
use Rattle.zone_files.specs.Machine.Expanding.{EntersLast, state_of}
use Rattle.zone_files.specs.Machine.Progressing.{Entered, GivesLines, end_of, gives_fault, gives_last, gives_some, has_begun, has_failed, has_none, has_opened, was_written}
use Rattle.zone_files.specs.Turns.{EndsFile, GoesAfterLines, IsTaking, TakesSome}
use Rattle.zone_files.specs.declared.expansion.file_expansion.FileExpansion.{FileExpansion}
use Rattle.zone_files.specs.declared.expansion.progress.FileStatus.{FileStatus}
use Rattle.zone_files.specs.declared.expansion.progress.FileStatus.TheVariants as statuses
use Rattle.zone_files.specs.declared.expansion.progress.Progress.{Progress}

last_by : (tokens : List Token) (old new : Progress) (before after : List ℕ) → Entered tokens true old new before after → new.status ≡ statuses.Generating → new.last ≡ true
last_by tokens old new before after (was_written made becomes w st) e = let no_way : statuses.Ended ≡ statuses.Generating = sym st ∙ e in absurd (cc)
last_by tokens old new before after (has_opened named becomes w same st inc last) e = last
last_by tokens old new before after (has_begun g becomes w st gen last) e = last
last_by tokens old new before after (has_failed fault becomes w st) e = let no_way : statuses.Faulty fault ≡ statuses.Generating = sym st ∙ e in absurd (cc)

-- the last entry
pub end_last : (old new : FileExpansion) (fault : Option Fault) → fault ≡ None → EndIs old.unfinished.octets fault → (before after : List ℕ) → EntersLast old.unfinished.octets old.progress new.progress before after → EndsFile (state_of old) (state_of new)
end_last old new fault is end before after enters taking e =
    let whole : EndIs old.unfinished.octets None = subst (EndIs old.unfinished.octets) is end in
    last_by (whole.0 ++ line_feed ∷ []) old.progress new.progress before after (enters whole.0 whole.1) e

-- a status that isn't that of lines
pub ends_as : (old new : ExpanderState) (status : FileStatus) → (status ≡ statuses.Generating → ⊥) → new.status ≡ status → EndsFile old new
ends_as old new status never is taking e = absurd (never (sym is ∙ e))

-- nothing was taken
pub not_taking : (old new : ExpanderState) → (old.status ≡ statuses.Going → ⊥) → (old.status ≡ statuses.Broken → ⊥) → EndsFile old new
not_taking old new going broken (inl e) is = absurd (going e)
not_taking old new going broken (inr e) is = absurd (broken e)

-- ---- lines

taking_end : (last : Bool) → IsTaking (end_of last) → last ≡ false
taking_end false taking = refl
taking_end true (inl e) = absurd (cc)
taking_end true (inr e) = absurd (cc)

generating_end : (last : Bool) → end_of last ≡ statuses.Generating → ⊥
generating_end true e = absurd (cc)
generating_end false e = absurd (cc)

pub goes_after : (old new : FileExpansion) (before after : List ℕ) → GivesLines old.progress new.progress before after → GoesAfterLines (state_of old) (state_of new)
goes_after old new before after (gives_some g left is takes gen few st same last) = record {
  last = λ e. last;
  going = λ taking. never (subst IsTaking st taking);
}
  where
    never : IsTaking statuses.Generating → old.progress.last ≡ false
    never (inl e) = absurd (cc)
    never (inr e) = absurd (cc)
goes_after old new before after (gives_last g left is takes empty st same) = record {
  last = λ e. absurd (generating_end old.progress.last (sym st ∙ e));
  going = λ taking. taking_end old.progress.last (subst IsTaking st taking);
}
goes_after old new before after (gives_fault g left value is takes lacks st) = record {
  last = λ e. let no_way : statuses.FaultyAt value ≡ statuses.Generating = sym st ∙ e in absurd (cc);
  going = λ taking. never (subst IsTaking st taking);
}
  where
    never : IsTaking (statuses.FaultyAt value) → old.progress.last ≡ false
    never (inl e) = absurd (cc)
    never (inr e) = absurd (cc)
goes_after old new before after (has_none is w st) = record {
  last = λ e. let no_way : statuses.Failed ≡ statuses.Generating = sym st ∙ e in absurd (cc);
  going = λ taking. never (subst IsTaking st taking);
}
  where
    never : IsTaking statuses.Failed → old.progress.last ≡ false
    never (inl e) = absurd (cc)
    never (inr e) = absurd (cc)

-- ---- octets

-- the loop of a piece: nothing was taken of it yet, or some of it was
abbrev pub TakesSoFar : List ℕ → List ℕ → FileExpansion → FileExpansion → Type 0
TakesSoFar piece rest was now = (length rest < length piece) ⊎ ((rest ≡ piece) × (now ≡ was))

pub some_more : (piece rest left : List ℕ) (was now next : FileExpansion) → TakesSoFar piece rest was now → length left < length rest → TakesSoFar piece left was next
some_more piece rest left was now next (inl fewer) less = inl (omega (arith, fewer, less))
some_more piece rest left was now next (inr (same, is)) less = inl (omega (arith, ap length same, less))

pub none_taken : (piece : List ℕ) (was : FileExpansion) → TakesSoFar piece piece was was
none_taken piece was = inr (refl, refl)

pub some_left : (piece rest : List ℕ) (was now : FileExpansion) → TakesSoFar piece rest was now → (0 < length rest → now.progress.status ≡ statuses.Going → ⊥) → (now.progress.status ≡ statuses.Broken → ⊥) → TakesSome was.progress.status piece rest
some_left piece rest was now (inl fewer) going broken taking some = fewer
some_left piece rest was now (inr (same, is)) going broken (inl e) some =
    absurd (going (subst (λ l. 0 < length l) (sym same) some) (ap (λ (x : FileExpansion). x.progress.status) is ∙ e))
some_left piece rest was now (inr (same, is)) going broken (inr e) some = absurd (broken (ap (λ (x : FileExpansion). x.progress.status) is ∙ e))
