-- From what a loader of presentation format holds to what the octets denote that it was fed.
use Rattle.std.proofs.Common.{◌≡◌, ℕ, ◌+◌, ◌-◌, ◌^◌, ◌<◌, ◌≤◌, false, true, List, [], ◌++◌, length, length-append, min, refl, sym, ap, ◌∙◌, subst, append_assoc, arith}
use Rattle.std.specs.Prelude.{Option, Some, None}
use Rattle.zone_name.specs.Common.{Labels}
use Rattle.zone_name.specs.Name.{folded}
use Rattle.zone_rdata.specs.FedSource.{is_finished}
use Rattle.zone_rdata.specs.declared.fault.Fault.TheVariants.{InputTooLong, UnknownType}
use Rattle.zone_rdata.specs.declared.fault.Place.{Place}
use Rattle.zone_rdata.specs.declared.fault.Place.TheVariants.{Line, Whole}
use Rattle.zone_rdata.specs.declared.fault.Stop.{Stop}
use Rattle.zone_set.specs.Zone.{Zone}
use Rattle.zone_print.specs.Canonical.{text_limit}
use Rattle.zone_engine.specs.FileLoader.{LoaderState, StandsForFed}
use Rattle.zone_engine.specs.Input.{InputDenotes, file}
use Rattle.zone_engine.specs.Refusal.{IfRefused, IsRefusal}
use Rattle.zone_words.specs.Entry.{IsRewriting}
use Rattle.zone_words.specs.Refusal.{AreInShort}
use Rattle.zone_words.specs.Rewriter.{RewriterState, StandsForRewriting}
use Rattle.zone_words.specs.Rewriting as rewriting
use Rattle.zone_files.proofs.Forms.{DenotesItsForm, OneRewriting}
use Rattle.zone_files.proofs.Presenting.Reports.{Reported, reported}
use Rattle.zone_files.specs.Loading.Fed.{LoadingState, LoadsWritten, StandsForPresentation}
use Rattle.zone_files.specs.Loading.Report.{IsFirstWithoutData, IsReported, of_file}
use Rattle.zone_files.specs.Machine.Loading.{IsReportOf}
use Rattle.zone_files.specs.Presentation.{PresentationDenotes, too_long}
use Rattle.zone_files.specs.declared.loading.refusal.PresentationRefusal.{PresentationRefusal}

pub begins : (origin name : Labels) (state : LoadingState) → StandsForRewriting origin state.rewriter [] [] → name ≡ folded origin → StandsForFed name state.loader [] → state.fed ≡ 0 → state.failed ≡ false → StandsForPresentation origin state []
begins origin name state rewrites named loads uncounted works = record {
  count = rw uncounted (omega arith);
  works = works;
  loaded = λ short. record { given = []; rewrites = rewrites; loads = subst (λ n. StandsForFed n state.loader []) named loads };
}

-- ---- the end of the file

-- the file was rewritten whole, and what was written was loaded
record IsLoaded (origin : Labels) (rewriter : RewriterState) (loader : LoaderState) (fed : List ℕ) : Type 0 where
  pub within : length fed ≤ text_limit
  pub generic : List ℕ
  pub told : List rewriting.Refused
  pub in_short : AreInShort told rewriter.held.told
  pub is : IsRewriting origin fed generic told
  pub loads : StandsForFed (folded origin) loader generic

ended : (state : LoadingState) (rewriter : RewriterState) (loader : LoaderState) → state.fed ≤ text_limit
    → ((origin : Labels) (fed given : List ℕ) → StandsForRewriting origin state.rewriter fed given → StandsForRewriting origin rewriter fed given)
    → is_finished rewriter.status ≡ true
    → ((origin : Labels) (fed : List ℕ) → StandsForFed origin state.loader fed → StandsForFed origin loader (fed ++ rewriter.held.written))
    → (origin : Labels) (fed : List ℕ) → StandsForPresentation origin state fed → IsLoaded origin rewriter loader fed
ended state rewriter loader few ends finished loads origin fed stands =
    let within : length fed ≤ text_limit = omega (arith, stands.count, few) in
    let before = stands.loaded within in
    let rewrites = ends origin fed before.given before.rewrites in
    record {
      within = within;
      generic = before.given ++ rewriter.held.written;
      told = rewrites.told;
      in_short = rewrites.in_short;
      is = rewrites.all finished;
      loads = loads (folded origin) before.given before.loads;
    }

module _ (state : LoadingState) (rewriter : RewriterState) (loader : LoaderState) (few : state.fed ≤ text_limit)
    (ends : (origin : Labels) (fed given : List ℕ) → StandsForRewriting origin state.rewriter fed given → StandsForRewriting origin rewriter fed given)
    (finished : is_finished rewriter.status ≡ true)
    (loads : (origin : Labels) (fed : List ℕ) → StandsForFed origin state.loader fed → StandsForFed origin loader (fed ++ rewriter.held.written)) where
  pub zone_denoted : DenotesItsForm → (z : Zone) → ((origin : Labels) (fed : List ℕ) → StandsForFed origin loader fed → InputDenotes (file origin fed) z) → (origin : Labels) (fed : List ℕ) → StandsForPresentation origin state fed → PresentationDenotes origin fed z
  zone_denoted denotes z own origin fed stands =
      let end = ended state rewriter loader few ends finished loads origin fed stands in
      (denotes origin fed end.generic z end.within (record { refused = end.told; rewriting = end.is })).1 (own (folded origin) end.generic end.loads)

  pub stop_reported : OneRewriting → (stop : Stop) (refusal : PresentationRefusal) → IsReportOf stop rewriter.held.told.first refusal → ((origin : Labels) (fed : List ℕ) → StandsForFed origin loader fed → IfRefused stop (IsRefusal (file origin fed))) → (origin : Labels) (fed : List ℕ) → StandsForPresentation origin state fed → Reported origin fed refusal
  stop_reported one stop refusal report own origin fed stands =
      let end = ended state rewriter loader few ends finished loads origin fed stands in
      reported one origin fed end.generic end.told rewriter.held.told end.in_short end.is end.within stop refusal report (own (folded origin) end.generic end.loads)

pub too_long_reported : (state : LoadingState) → text_limit < state.fed → (origin : Labels) (fed : List ℕ) → StandsForPresentation origin state fed → IsReported origin fed InputTooLong Whole None
too_long_reported state long origin fed stands =
    let over : text_limit < length fed = omega (arith, stands.count, long) in
    of_file InputTooLong Whole (too_long over) (λ same. let never : InputTooLong ≡ UnknownType = same in cc)
