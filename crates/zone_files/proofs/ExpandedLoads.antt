-- The loader of files with those that they include: what it stands for, and why it refuses them.
use Rattle.std.proofs.Common.{◌≡◌, ℕ, ◌-◌, List, [], ◌∷◌, ◌++◌, Option, Some, None, refl, sym, ap, subst, ◌∙◌}
use Rattle.std.specs.Prelude.{option_map}
use Rattle.zone_name.specs.Common.{Labels}
use Rattle.zone_rdata.specs.declared.fault.Fault.{Fault}
use Rattle.zone_rdata.specs.declared.fault.Place.TheVariants.{Line}
use Rattle.zone_rdata.specs.declared.fault.Stop.{Stop}
use Rattle.zone_rdata.specs.declared.fault.Stop.TheVariants as stop
use Rattle.zone_set.specs.Zone.{Zone}
use Rattle.zone_engine.specs.Refusal.{IfRefused}
use Rattle.zone_words.specs.Refusal.{refused_of}
use Rattle.zone_files.specs.Expansion.{Holds, first_without}
use Rattle.zone_files.specs.ExpandedLoader.{ExpandedState, FilesDenoteWithout, IsFaultlessTo, IsReportedOn, LoadsEnd, LoadsInnermost, RefusesFor, ReportsText, StandsForExpanded, fault_of, judged, judged_by, stopped}
use Rattle.zone_files.specs.FileExpander.{ExpanderState}
use Rattle.zone_files.specs.IncludeStack.{BeginsInner, EndsInnermost, FedFiles, FeedsInnermost, MakesLines, StackState, StandsForFiles, WritesForFiles, fed_ended, fed_inner, fed_more, main_alone, main_file}
use Rattle.zone_files.specs.Loading.Fed.{LoadingState, StandsForPresentation}
use Rattle.zone_files.specs.Loading.Report.{IsReported}
use Rattle.zone_files.specs.Machine.ExpandedLoading.{DenotesLoaded, RefusesFaulty, RefusesUnread, RefusesWhole}
use Rattle.zone_files.specs.Presentation.{PresentationDenotes}
use Rattle.zone_files.specs.declared.expansion.progress.FileStatus.{FileStatus}
use Rattle.zone_files.specs.declared.expansion.progress.FileStatus.TheVariants as statuses
use Rattle.zone_files.specs.declared.fault.ExpansionFault.{ExpansionFault}
use Rattle.zone_files.specs.declared.loading.refusal.PresentationRefusal.{PresentationRefusal}
use Rattle.zone_files.specs.declared.stack.expanded_loader.ExpandedRefusal.{ExpandedRefusal}
use Rattle.zone_files.specs.declared.stack.expanded_loader.ExpandedRefusal.TheVariants.{Expansion, Unread, Text}
use Rattle.zone_files.proofs.Stacks.{broken_text, ended_text, faulty_text, lacking_text}

-- what the loader goes on with
abbrev pub LoadsText : LoadingState → List ℕ → LoadingState → Type 0
LoadsText old text new =
    (origin : Labels) (fed : List ℕ) → StandsForPresentation origin old fed → StandsForPresentation origin new (fed ++ text)

pub loads_part : (old new : ExpandedState) (piece left text : List ℕ) → FeedsInnermost old.stack piece left new.stack [] text → LoadsText old.loader text new.loader → LoadsInnermost old piece left new
loads_part old new piece left text feeds loads = record {
  part = feeds.part;
  whole = feeds.whole;
  outer = feeds.outer;
  stands = λ origin first fed st. record {
    text = st.text ++ feeds.writes.made;
    expands = feeds.writes.stands first fed st.text st.expands;
    loads = subst (λ t. StandsForPresentation origin new.loader (st.text ++ t)) feeds.writes.written (loads origin st.text st.loads);
  };
}

loads_ended : (old new : ExpandedState) (text : List ℕ) (ended : ℕ) → WritesForFiles old.stack (fed_ended ended) new.stack [] text → LoadsText old.loader text new.loader → LoadsEnd old new
loads_ended old new text ended writes loads = record {
  ended = ended;
  stands = λ origin first fed st. record {
    text = st.text ++ writes.made;
    expands = writes.stands first fed st.text st.expands;
    loads = subst (λ t. StandsForPresentation origin new.loader (st.text ++ t)) writes.written (loads origin st.text st.loads);
  };
}

pub loads_end : (old new : ExpandedState) (text : List ℕ) → EndsInnermost old.stack new.stack [] text → LoadsText old.loader text new.loader → LoadsEnd old new
loads_end old new text ends loads = loads_ended old new text ends.ended ends.writes loads

pub loads_lines : (old new : ExpandedState) (text : List ℕ) → MakesLines old.stack new.stack [] text → LoadsText old.loader text new.loader → LoadsEnd old new
loads_lines old new text makes loads = loads_ended old new text makes.ended makes.writes loads

pub loads_inner : (old new : ExpandedState) → BeginsInner old.stack new.stack → new.loader ≡ old.loader → (origin : Labels) (first : Holds) (fed : FedFiles) → StandsForExpanded old origin first fed → StandsForExpanded new origin first (fed_inner fed)
loads_inner old new begins same origin first fed st = record {
  text = st.text;
  expands = begins.stands first fed st.text st.expands;
  loads = subst (λ l. StandsForPresentation origin l st.text) (sym same) st.loads;
}

-- ---- what is denoted

module _ (stack : StackState) (loader : LoadingState) (z : Zone) (denotes : DenotesLoaded loader z) (lines : List ℕ) (directory : Option (List ℕ)) (name : List ℕ) (origin : Labels) (fed : FedFiles) (text : List ℕ) (st : StandsForFiles stack (first_without lines directory name origin) fed text) (loads : StandsForPresentation origin loader text) where
  pub ended_denotes : stack.innermost.status ≡ statuses.Ended → stack.outer ≡ [] → FilesDenoteWithout lines directory name origin (main_file fed).octets (main_file fed).files z
  ended_denotes is none = record { text = text; ending = _; expanded = ended_text lines directory name origin stack fed text st is none; denotes = denotes origin text loads }

  pub broken_denotes : stack.innermost.status ≡ statuses.BrokenOff → FilesDenoteWithout lines directory name origin (main_file fed).octets (main_file fed).files z
  broken_denotes is = record { text = text; ending = _; expanded = broken_text lines directory name origin stack fed text st is; denotes = denotes origin text loads }

  pub faulty_denotes : (fault : ExpansionFault) → stack.innermost.status ≡ statuses.Faulty fault → FilesDenoteWithout lines directory name origin (main_file fed).octets (main_file fed).files z
  faulty_denotes fault is = record { text = text; ending = _; expanded = faulty_text lines directory name origin stack fed text st fault is; denotes = denotes origin text loads }

  pub lacking_denotes : (value : ℕ) → stack.innermost.status ≡ statuses.FaultyAt value → FilesDenoteWithout lines directory name origin (main_file fed).octets (main_file fed).files z
  lacking_denotes value is = record { text = text; ending = _; expanded = lacking_text lines directory name origin stack fed text st value is; denotes = denotes origin text loads }

-- ---- why it is refused

abbrev IsJudged : StackState → List ℕ → List ℕ → Type 0
IsJudged stack text whole = judged stack text ≡ whole

pub refuses_whole : (stack : StackState) (refusal : ExpandedRefusal) (origin : Labels) (text : List ℕ) → judged stack text ≡ text → RefusesWhole refusal origin text → RefusesFor refusal stack origin text
refuses_whole stack (Expansion other) origin text same refuses = absurd refuses
refuses_whole stack Unread origin text same refuses = absurd refuses
refuses_whole stack (Text refusal) origin text same refuses = subst (ReportsText refusal origin) (sym same) refuses

pub refuses_faulty : (stack : StackState) (refusal : ExpandedRefusal) (fault : ExpansionFault) (origin : Labels) (text : List ℕ) → fault_of stack.innermost.status ≡ Some fault → judged stack text ≡ text → RefusesFaulty refusal fault (stack.next_line - 1) origin text → RefusesFor refusal stack origin text
refuses_faulty stack (Expansion other) fault origin text is same refuses = (is ∙ ap Some (sym refuses.0), refuses.1)
refuses_faulty stack Unread fault origin text is same refuses = absurd refuses
refuses_faulty stack (Text refusal) fault origin text is same refuses = subst (ReportsText refusal origin) (sym same) refuses

pub refuses_unread : (stack : StackState) (refusal : ExpandedRefusal) (origin : Labels) (text : List ℕ) → judged stack text ≡ text ++ stopped → RefusesUnread refusal stack.next_line origin (text ++ stopped) → RefusesFor refusal stack origin text
refuses_unread stack (Expansion other) origin text same refuses = absurd refuses
refuses_unread stack Unread origin text same refuses = subst (λ t. IsFaultlessTo origin t stack.next_line) (sym same) refuses
refuses_unread stack (Text refusal) origin text same refuses = subst (ReportsText refusal origin) (sym same) refuses

-- a refusal at a line
pub reported_on : (refusal : PresentationRefusal) (fault : Fault) (line : ℕ) (origin : Labels) (text : List ℕ) → refusal.stop ≡ stop.Refused fault (Line line) → ReportsText refusal origin text → IsReportedOn origin text line
reported_on refusal fault line origin text is reports = record {
  fault = fault;
  entry = option_map refused_of refusal.entry;
  reported = subst (λ s. IfRefused s (λ f place. IsReported origin text f place (option_map refused_of refusal.entry))) is reports;
}

-- ---- the text that is judged

module _ (stack : StackState) (text : List ℕ) where
  judged_by_status : (status : FileStatus) → stack.innermost.status ≡ status → judged_by status stack.outer text ≡ text → judged stack text ≡ text
  judged_by_status status is same = ap (λ s. judged_by s stack.outer text) is ∙ same

  pub judged_ended : stack.innermost.status ≡ statuses.Ended → stack.outer ≡ [] → judged stack text ≡ text
  judged_ended is none = judged_by_status statuses.Ended is (ap (λ outer. judged_by statuses.Ended outer text) none)

  pub judged_broken : stack.innermost.status ≡ statuses.BrokenOff → judged stack text ≡ text
  judged_broken is = judged_by_status statuses.BrokenOff is refl

  pub judged_faulty : (fault : ExpansionFault) → stack.innermost.status ≡ statuses.Faulty fault → judged stack text ≡ text
  judged_faulty fault is = judged_by_status (statuses.Faulty fault) is refl

  pub judged_lacking : (value : ℕ) → stack.innermost.status ≡ statuses.FaultyAt value → judged stack text ≡ text
  judged_lacking value is = judged_by_status (statuses.FaultyAt value) is refl

pub denotes_judged : (stack : StackState) (loader : LoadingState) (z : Zone) → ((text : List ℕ) → judged stack text ≡ text) → DenotesLoaded loader z → (origin : Labels) (text : List ℕ) → StandsForPresentation origin loader text → PresentationDenotes origin (judged stack text) z
denotes_judged stack loader z same denotes origin text loads = subst (λ t. PresentationDenotes origin t z) (sym (same text)) (denotes origin text loads)
