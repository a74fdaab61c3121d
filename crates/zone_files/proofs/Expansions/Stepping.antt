-- What becomes of an entry, as the code has it.
use Rattle.std.proofs.Common.{◌≡◌, ℕ, List, ◌++◌, Bool, true, false, Option, Some, None, refl, sym, ap, subst, ◌∙◌, append_assoc}
use Rattle.std.specs.List.{slice_get}
use Rattle.std.specs.Prelude.{drop}
use Rattle.zone_name.specs.Common.{Labels}
use Rattle.zone_name.specs.Text.{name_text}
use Rattle.zone_rdata.specs.Item.{RawItem}
use Rattle.zone_text.specs.Statements.{Statement, includes, statement_by, unknown, unowned}
use Rattle.zone_files.specs.Expansion.{BecomesBy, DirectiveBecomes, Generates, Holds, StatementBecomes, TakenOutOr, another, as_lines, fails, is_next, lines_of, none, opens, past, same, says_generate, stating, stays}
use Rattle.zone_files.specs.Machine.Stepping.{GeneratesAs, IncludesAs, Judges, StepsTo, TakesEntry, UnknownAs, Unowned}
use Rattle.zone_files.specs.declared.expansion.step.Step.{Step}
use Rattle.zone_files.specs.declared.expansion.step.Step.TheVariants as steps
use Rattle.zone_files.specs.declared.fault.ExpansionFault.TheVariants as faults

-- by whether it is taken out
pub takes_either : (old new : Holds) (entry : List ℕ) (items : List RawItem) (form : Statement) (test : Bool) (step : Step) (before after : List ℕ) → form ≡ statement_by (slice_get entry 0) items → is_next old.taken_out old.line (lines_of form items) ≡ test → StepsTo (TakenOutOr test old entry items form) old step new before after → TakesEntry old entry items step new before after
takes_either old new entry items form test step before after is decides w =
    subst (λ s. StepsTo (BecomesBy old entry items s) old step new before after) is
    (subst (λ t. StepsTo (TakenOutOr t old entry items form) old step new before after) (sym decides) w)

-- a record that omits its owner
pub judges_unowned : (old new : Holds) (entry : List ℕ) (kept items : List RawItem) (form : Statement) (step : Step) (before after : List ℕ) → form ≡ unowned items → Unowned old entry step new before after → Judges old entry kept form step new before after
judges_unowned old new entry kept items form steps.Written before after is w = record { made = w.made; becomes = subst (λ f. StatementBecomes old entry kept f (stays w.made new)) (sym is) w.becomes; written = w.written }
judges_unowned old new entry kept items form (steps.Opens name origin) before after is w = record { becomes = subst (λ f. StatementBecomes old entry kept f (opens name origin)) (sym is) w.becomes; same = w.same; nothing = w.nothing }
judges_unowned old new entry kept items form (steps.Generates g) before after is w = record { becomes = λ lines fault are. subst (λ f. StatementBecomes old entry kept f (as_lines lines new fault)) (sym is) (w.becomes lines fault are); nothing = w.nothing }
judges_unowned old new entry kept items form (steps.Fails fault) before after is w = record { becomes = subst (λ f. StatementBecomes old entry kept f (fails fault)) (sym is) w.becomes; same = w.same; nothing = w.nothing }

-- ---- a directive of another word

-- a `$GENERATE`
pub generate_taken : (old new : Holds) (entry : List ℕ) (kept : List RawItem) (step : Step) (before : List ℕ) → says_generate kept ≡ true → GeneratesAs old (drop 1 kept) step new → UnknownAs old entry kept step new before before
generate_taken old new entry kept steps.Written before is p = absurd p
generate_taken old new entry kept (steps.Opens name origin) before is p = absurd p
generate_taken old new entry kept (steps.Generates g) before is p = record {
  becomes = λ lines fault are. subst (λ test. DirectiveBecomes test old entry kept (as_lines lines new fault)) (sym is) (p lines fault are);
  nothing = refl;
}
generate_taken old new entry kept (steps.Fails fault) before is p = record {
  becomes = subst (λ test. DirectiveBecomes test old entry kept (fails fault)) (sym is) p.0;
  same = p.1;
  nothing = refl;
}

-- it stays
pub other_taken : (old : Holds) (entry : List ℕ) (kept : List RawItem) (step : Step) (before after : List ℕ) → says_generate kept ≡ false → (step ≡ steps.Written) × (after ≡ before ++ entry) → UnknownAs old entry kept step (past entry old) before after
other_taken old entry kept step before after is w =
    subst (λ t. UnknownAs old entry kept t (past entry old) before after) (sym w.0)
    (record { made = entry; becomes = subst (λ test. DirectiveBecomes test old entry kept (stays entry (past entry old))) (sym is) refl; written = w.1 })

module _ (old : Holds) (entry : List ℕ) (step : Step) (before after : List ℕ) where
  -- the same owner holds
  pub owner_same : old.owner ≡ old.stated → (step ≡ steps.Written) × (after ≡ before ++ entry) → Unowned old entry step (past entry old) before after
  owner_same e w = subst (λ t. Unowned old entry t (past entry old) before after) (sym w.0) (record { made = entry; becomes = same e refl; written = w.1 })

  -- another one
  pub owner_another : (owner : Labels) (middle : List ℕ) → old.owner ≡ Some owner → (old.owner ≡ old.stated → ⊥) → middle ≡ before ++ name_text owner → (step ≡ steps.Written) × (after ≡ middle ++ entry) → Unowned old entry step (stating (Some owner) (past entry old)) before after
  owner_another owner middle is other out w = subst (λ t. Unowned old entry t (stating (Some owner) (past entry old)) before after) (sym w.0) (record {
    made = name_text owner ++ entry;
    becomes = another owner is (λ e. other (is ∙ sym e)) refl;
    written = w.1 ∙ ap (λ t. t ++ entry) out ∙ append_assoc before (name_text owner) entry;
  })

-- none
pub owner_none : (old : Holds) (entry before : List ℕ) → old.owner ≡ None → (old.owner ≡ old.stated → ⊥) → Unowned old entry (steps.Fails faults.NoOwner) old before before
owner_none old entry before is other = by old.stated refl
  where
    by : (stated : Option Labels) → old.stated ≡ stated → Unowned old entry (steps.Fails faults.NoOwner) old before before
    by None e = absurd (other (is ∙ sym e))
    by (Some owner) e = record { becomes = none owner is e refl; same = refl; nothing = refl }
