-- Files that are read and loaded.
use Rattle.std.proofs.Common.{◌≡◌, ℕ, List, [], ◌∷◌, ◌++◌, length, true, false, Option, refl, ap, subst, sym, ◌∙◌, arith, ◌≤◌}
use Rattle.std.proofs.lemmas.List.{nil_from_length}
use Rattle.std.proofs.KnownBytes.{Appends-nil, Appends-trans}
use Rattle.std.specs.Io.KnownBytes.{Appends}
use Rattle.std.specs.List.{AllByRecursion}
use Rattle.zone_print.specs.Canonical.{text_limit}
use Rattle.std.specs.Prelude.{Err, IfErr, IfOk, Ok, Result, reverse}
use Rattle.std.proofs.lemmas.Result.{IfErr-at_err}
use Rattle.zone_name.specs.Common.{Labels}
use Rattle.zone_print.specs.Device.{Device, WorksOn}
use Rattle.zone_set.specs.Zone.{Zone}
use Rattle.zone_files.specs.ExpandedLoader.{ExpandedState, FilesDenote, RefusesFor, StandsForExpanded, accepted, judged}
use Rattle.zone_files.specs.Presentation.{PresentationDenotes}
use Rattle.zone_files.specs.declared.stack.expanded_loader.ExpandedRefusal.{ExpandedRefusal}
use Rattle.zone_files.specs.declared.stack.expanded_loader.ExpandedRefusal.TheVariants as refusals
use Rattle.zone_files.specs.Expansion.{Ending, Files, Holds, IsExpanded, at_first}
use Rattle.zone_files.specs.IncludeStack.{FedFile, FedFiles, StackState, StandsForFiles, main_by, main_file}
use Rattle.zone_files.specs.Loading.Fed.{LoadingState, StandsForPresentation}
use Rattle.zone_files.specs.FilesStopped.{HasEnded, IsReadNoFurther, IsWhole, RefusesRead, StopsLoading, WritesWhole, has_ended}
use Rattle.zone_files.specs.Machine.OpenReading.{AllGiven, AreZone, Gave, HasGiven, IsReading, IsRefusedAs, LoadsFiles, StandsForRead, StopsLoads, StopsReading, WritesFiles}
use Rattle.zone_files.specs.Reading.{EachFile, Has, OpenedFile, OpensEach, ReadsFiles, ReadsPart, octets_in}
use Rattle.zone_files.specs.declared.files.files_reader.ReadingStop.{ReadingStop}
use Rattle.zone_files.specs.declared.files.files_reader.ReadingStop.TheVariants as reading
use Rattle.zone_files.specs.declared.files.stop.FilesStop.{FilesStop}
use Rattle.zone_files.specs.declared.files.stop.FilesStop.TheVariants.{Files as of_files, Input}
use Rattle.zone_files.specs.declared.files.files_reader.FilesReader.{FilesReader}
use Rattle.zone_files.specs.declared.files.open_file.OpenFile.{OpenFile}
use Rattle.zone_files.proofs.FilesReading.{each_weaker, has_all, reads_no_further, reads_part, short_all}

pub ok_at : {T E : Type 0} (P : T → Type 0) (r : Result T E) (x : T) → r ≡ Ok x → IfOk r P → P x
ok_at P (Ok y) x is h = let same : y ≡ x = cc in subst P same h
ok_at P (Err e) x is h = absurd (cc)

module _ {F : Type 0} (state : F → Device) where
  gave_has : (reader : F) (octets : List ℕ) → Gave state false reader octets → Has state reader octets
  gave_has reader octets gave = gave.0

  each_within : (opened : List (OpenedFile F)) (files : List (List ℕ)) → EachFile (Gave state false) opened files → AllByRecursion (λ (octets : List ℕ). length octets ≤ text_limit) files
  each_within [] [] each = tt
  each_within [] (octets ∷ files) each = absurd each
  each_within (it ∷ opened) [] each = absurd each
  each_within (it ∷ opened) (octets ∷ files) each = (each.0.1, each_within opened files each.1)

module _ {F : Type 0} (state : F → Device) (main : F) (directory : Option (List ℕ)) (name : List ℕ) (origin : Labels) (z : Zone) where
  alone : (o : OpenFile F) (inner : FedFile) (others : List FedFile) (opened : List (OpenedFile F)) → o.is_at_end ≡ true → AllGiven state main false o [] inner others opened → FilesDenote directory name origin (main_by inner others).octets (main_by inner others).files z → AreZone state main opened directory name origin z
  alone o inner [] opened ended given denotes = record {
    octets = inner.octets;
    files = inner.files;
    main_has = has_all state main o inner.octets given.0 ended;
    each = each_weaker (HasGiven state) (Gave state false) (Has state) main (λ reader octets. gave_has state reader octets) opened (octets_in inner.files) given.1;
    within = (short_all state main o inner.octets given.0, each_within state opened (octets_in inner.files) given.1);
    denotes = denotes;
  }
  alone o inner (other ∷ others) opened ended given denotes = absurd given

  -- the main file is the only one that is open, and was read to its end
  pub are_zone : (reader : FilesReader F) (loader : LoadingState) (whole : ExpandedState) → whole.stack ≡ reader.stack → whole.loader ≡ loader → length reader.«open».outer.items ≡ 0 → reader.«open».innermost.is_at_end ≡ true → reader.is_cut ≡ false
      → ((fed : FedFiles) → StandsForExpanded whole origin (at_first directory name origin) fed → FilesDenote directory name origin (main_file fed).octets (main_file fed).files z)
      → (opened : List (OpenedFile F)) (text : List ℕ) → StandsForRead state main (at_first directory name origin) reader opened text → StandsForPresentation origin loader text → AreZone state main opened directory name origin z
  are_zone reader loader whole same is none ended uncut denotes opened text stands loads =
      let given = subst (λ cut. AllGiven state main cut reader.«open».innermost [] stands.fed.innermost stands.fed.outer opened) uncut
      (subst (λ os. AllGiven state main reader.is_cut reader.«open».innermost (reverse os) stands.fed.innermost stands.fed.outer opened) (nil_from_length reader.«open».outer.items none) stands.given) in
      alone reader.«open».innermost stands.fed.innermost stands.fed.outer opened ended given
      (denotes stands.fed (record {
        text = text;
        expands = subst (λ s. StandsForFiles s (at_first directory name origin) stands.fed text) (sym same) stands.stands;
        loads = subst (λ l. StandsForPresentation origin l text) (sym is) loads;
      }))

-- one step
pub loads_on : {S F : Type 0} (Opens : S → List ℕ → Option F → S → Type 0) (state : F → Device) (main : F) (first : Holds) (start : S) (origin : Labels) (old new : FilesReader F) (before now : S) (loader next : LoadingState)
    → ((text : List ℕ) → IsReading Opens state main first start old before text → IsReading Opens state main first start new now (text ++ new.text.items))
    → ((fed : List ℕ) → StandsForPresentation origin loader fed → StandsForPresentation origin next (fed ++ new.text.items))
    → LoadsFiles Opens state main first start origin old before loader → LoadsFiles Opens state main first start origin new now next
loads_on Opens state main first start origin old new before now loader next reads loads was = record {
  text = was.text ++ new.text.items;
  reads = reads was.text was.reads;
  loads = loads was.text was.loads;
}

pub loads_same : {S F : Type 0} (Opens : S → List ℕ → Option F → S → Type 0) (state : F → Device) (main : F) (first : Holds) (start : S) (origin : Labels) (old new : FilesReader F) (before now : S) (loader : LoadingState)
    → ((text : List ℕ) → IsReading Opens state main first start old before text → IsReading Opens state main first start new now text)
    → LoadsFiles Opens state main first start origin old before loader → LoadsFiles Opens state main first start origin new now loader
loads_same Opens state main first start origin old new before now loader reads was = record { text = was.text; reads = reads was.text was.reads; loads = was.loads }

-- nothing was read
pub loads_none : {S F : Type 0} (Opens : S → List ℕ → Option F → S → Type 0) (state : F → Device) (main : F) (first : Holds) (start : S) (origin : Labels) (reader : FilesReader F) (loader : LoadingState)
    → StandsForRead state main first reader [] [] → reader.included ≡ 0 → reader.expanded ≡ 0 → StandsForPresentation origin loader [] → LoadsFiles Opens state main first start origin reader start loader
loads_none Opens state main first start origin reader loader stands none nothing loads = record {
  text = [];
  reads = record { opened = []; opens = refl; stands = stands; counted = none; few = omega arith; long = nothing };
  loads = loads;
}

-- the files denote a zone
pub zone_of : {S F : Type 0} (Opens : S → List ℕ → Option F → S → Type 0) (state : F → Device) (main : F) (directory : Option (List ℕ)) (name : List ℕ) (origin : Labels) (start now : S) (z : Zone) (opened : List (OpenedFile F)) → OpensEach Opens start opened now → length opened ≤ 10000 → AreZone state main opened directory name origin z
    → (octets : List ℕ) × (files : Files) × ReadsFiles Opens state main start now octets files × FilesDenote directory name origin octets files z
zone_of Opens state main directory name origin start now z opened opens few it =
    (it.octets, it.files, record { main_has = it.main_has; opened = opened; opens = opens; each = it.each; few = few; within = it.within }, it.denotes)

-- ---- why no zone is given

module _ {S F : Type 0} (Opens : S → List ℕ → Option F → S → Type 0) (state : F → Device) (main : F) (directory : Option (List ℕ)) (name : List ℕ) (origin : Labels) (start now : S) where
  pub stops_refused : (stack : StackState) (text : List ℕ) (stop : FilesStop) → IsReadNoFurther Opens state main (at_first directory name origin) start now stack text → IsRefusedAs stack origin text stop → StopsLoading Opens state main directory name origin start now stop
  stops_refused stack text (of_files refusal given) read (same, refuses) =
      subst (λ s. RefusesRead Opens state main directory name origin start now refusal s) (sym same) (record { text = text; read = read; refuses = refuses })
  stops_refused stack text (Input stop) read never = absurd never

-- what a loader of these parts answers
module _ (whole : ExpandedState) (stack given : StackState) (loader : LoadingState) (same : whole.stack ≡ stack) (is : whole.loader ≡ loader) (handed : given ≡ whole.stack) (origin : Labels) (first : Holds) (fed : FedFiles) (text : List ℕ) (stands : StandsForFiles stack first fed text) (loads : StandsForPresentation origin loader text) where
  pub refused_as : (r : Result Zone ExpandedRefusal) → IfErr r (λ refusal. (other : Labels) (start : Holds) (files : FedFiles) (t : List ℕ) → StandsForFiles whole.stack start files t → StandsForPresentation other whole.loader t → RefusesFor refusal whole.stack other t) → (refusal : ExpandedRefusal) → r ≡ Err refusal → IsRefusedAs stack origin text (of_files refusal given)
  refused_as r refuses refusal e = (
    handed ∙ same,
    subst (λ s. RefusesFor refusal s origin text) same
        (IfErr-at_err _ e refuses origin first fed text (subst (λ s. StandsForFiles s first fed text) (sym same) stands) (subst (λ l. StandsForPresentation origin l text) (sym is) loads)),
  )

  pub unread_as : (r : Result Zone ExpandedRefusal) → IfOk r (λ z. (other : Labels) (t : List ℕ) → StandsForPresentation other whole.loader t → PresentationDenotes other (judged whole.stack t) z) → (z : Zone) → r ≡ Ok z → IsRefusedAs stack origin text (of_files refusals.Unread given)
  unread_as r denotes z e = (
    handed ∙ same,
    subst (λ s. RefusesFor refusals.Unread s origin text) same
        (accepted z (ok_at _ r z e denotes origin text (subst (λ l. StandsForPresentation origin l text) (sym is) loads))),
  )

-- the text has ended
pub reads_to_end : {S F : Type 0} (Opens : S → List ℕ → Option F → S → Type 0) (state : F → Device) (main : F) (first : Holds) (start now : S) (text : List ℕ) (reader : FilesReader F) → IsReading Opens state main first start reader now text → HasEnded reader.stack.innermost.status → IsReadNoFurther Opens state main first start now reader.stack text
reads_to_end Opens state main first start now text reader was ended = reads_no_further Opens state main first start now text reader was now (has_ended ended refl)

module _ {S F : Type 0} (Opens : S → List ℕ → Option F → S → Type 0) (state : F → Device) (main : F) (first : Holds) (start : S) (origin : Labels) (old new : FilesReader F) (before now : S) (loader : LoadingState) where
  pub at_stop : (stop other : ReadingStop) → stop ≡ other → StopsLoads Opens state main first start origin new now loader stop → StopsLoads Opens state main first start origin new now loader other
  at_stop stop other is stops = subst (StopsLoads Opens state main first start origin new now loader) is stops

  pub stops_loads : (stop : ReadingStop) → ((text : List ℕ) → IsReading Opens state main first start old before text → StopsReading Opens state main first start now new text stop) → LoadsFiles Opens state main first start origin old before loader → StopsLoads Opens state main first start origin new now loader stop
  stops_loads reading.Unread stops was = (was.text, stops was.text was.reads, was.loads)
  stops_loads reading.TooLong stops was = stops was.text was.reads
  stops_loads reading.Memory stops was = tt

-- ---- a text that is written

module _ {S F : Type 0} (Opens : S → List ℕ → Option F → S → Type 0) (state : F → Device) (main : F) (first : Holds) (start : S) (before : Device) where
  pub writes_on : (old new : FilesReader F) (was now : S) (mid after : Device) → ((text : List ℕ) → IsReading Opens state main first start old was text → IsReading Opens state main first start new now (text ++ new.text.items)) → Appends mid.octets after.octets new.text.items → WorksOn mid after → WritesFiles Opens state main first start before old was mid → WritesFiles Opens state main first start before new now after
  writes_on old new was now mid after reads more works writes = record {
    text = writes.text ++ new.text.items;
    reads = reads writes.text writes.reads;
    written = Appends-trans before.octets mid.octets after.octets writes.text new.text.items writes.written more;
    works = λ worked. works (writes.works worked);
  }

  pub writes_none : (reader : FilesReader F) → StandsForRead state main first reader [] [] → reader.included ≡ 0 → reader.expanded ≡ 0 → WritesFiles Opens state main first start before reader start before
  writes_none reader stands none nothing = record {
    text = [];
    reads = record { opened = []; opens = refl; stands = stands; counted = none; few = omega arith; long = nothing };
    written = Appends-nil before.octets;
    works = λ worked. worked;
  }

module _ {S F : Type 0} (Opens : S → List ℕ → Option F → S → Type 0) (state : F → Device) (main : F) (directory : Option (List ℕ)) (name : List ℕ) (origin : Labels) (start now : S) (before after : Device) (reader : FilesReader F) (it : WritesFiles Opens state main (at_first directory name origin) start before reader now after) where
  pub written_text : (ending : Ending) × IsExpanded directory name origin (main_file it.reads.stands.fed).octets (main_file it.reads.stands.fed).files it.text ending × IsWhole ending
      → (octets : List ℕ) × (files : Files) × (text : List ℕ) × (ending : Ending) × ReadsPart Opens state main start now octets files × IsExpanded directory name origin octets files text ending × Appends before.octets after.octets text
  written_text (ending, expanded, whole) =
      ((main_file it.reads.stands.fed).octets, (main_file it.reads.stands.fed).files, it.text, ending, reads_part Opens state main (at_first directory name origin) start now it.text reader it.reads, expanded, it.written)

  pub written_whole : (ending : Ending) × IsExpanded directory name origin (main_file it.reads.stands.fed).octets (main_file it.reads.stands.fed).files it.text ending × IsWhole ending
      → WritesWhole Opens state main directory name origin start now before.octets after.octets
  written_whole (ending, expanded, whole) = record {
    octets = (main_file it.reads.stands.fed).octets;
    files = (main_file it.reads.stands.fed).files;
    reads = reads_part Opens state main (at_first directory name origin) start now it.text reader it.reads;
    text = it.text;
    ending = ending;
    expanded = expanded;
    whole = whole;
    written = it.written;
  }
