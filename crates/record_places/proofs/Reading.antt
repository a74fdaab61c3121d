-- What a source gives, record by record, and the lines of records as far as it was read.
use Rattle.std.proofs.Common.{◌≡◌, ℕ, List, [], ◌∷◌, ◌++◌, Ok, Some, None, append-nil, append_assoc, refl, sym, ap, ◌∙◌, subst}
use Rattle.std.specs.Prelude.{◌↔◌, false, replicate, true}
use Rattle.std.proofs.Common.{arith, drop, length, take}
use Rattle.std.proofs.Math.Seq.{take-append_seam}
use Rattle.zone_name.specs.Common.{Labels}
use Rattle.zone_name.specs.Name.{folded}
use Rattle.zone_rdata.specs.FedSource.{SourceState}
use Rattle.zone_rdata.specs.Record.{Record}
use Rattle.zone_rdata.specs.RrSource.{after, answer_of, first_of}
use Rattle.zone_rdata.specs.declared.record.Placed.{Placed}
use Rattle.zone_set.proofs.Lists.Taking.{lent_first}
use Rattle.zone_set.specs.Zone.{Zone}
use Rattle.zone_text.specs.File.{FileStates}
use Rattle.zone_text.specs.FileReads.{Ending, FileReads}
use Rattle.zone_text.specs.TextSource.{FileKept, StandsForFile}
use Rattle.zone_words.specs.Entry.{IsRewriting}
use Rattle.zone_words.specs.Rewriter.{RewritesFile}
use Rattle.zone_words.specs.Rewriting.{Refused}
use Rattle.zone_words.specs.WithWords.{FileStatesWithWords}
use Rattle.zone_words.specs.declared.refusal.Refusals.{Refusals}
use Rattle.zone_files.specs.Presentation.{PresentationDenotes}
use Rattle.record_places.proofs.Lines.{all_found, none_so_far, stated_on_lines}
use Rattle.record_places.specs.FirstLines.{AreFirstLines}
use Rattle.record_places.specs.Machine.SoFar.{AreLinesSoFar, EachSoFar, Finds}

-- the first record of those that are left was taken
pub found_more : (origin : Labels) (old new : SourceState FileKept) (p : Placed) (fed : List ℕ) (records : List Record) (lines lines' : List ℕ)
    → ((given : List Placed) → new.pending ≡ after old.pending → new.held ≡ old.held → answer_of old.pending ≡ Ok (Some p) → StandsForFile origin old fed given → StandsForFile origin new fed (given ++ p ∷ []))
    → Some p ≡ first_of old.pending → new.pending ≡ after old.pending → new.held ≡ old.held
    → ((given : List Placed) → AreLinesSoFar given records lines → AreLinesSoFar (given ++ p ∷ []) records lines')
    → Finds origin old fed records lines → Finds origin new fed records lines'
found_more origin old new p fed records lines lines' law is left held step it = record {
  given = it.given ++ p ∷ [];
  stands = law it.given left held (lent_first old.pending p is) it.stands;
  so_far = step it.given it.so_far;
}

-- a front of the octets was fed, and what it decides was taken
pub record HasRead (old : SourceState FileKept) (was : List ℕ) (new : SourceState FileKept) (lines : List ℕ) (records : List Record) (octets rest : List ℕ) : Type 0 where
  pub front : List ℕ
  pub split : octets ≡ front ++ rest
  pub finds : (origin : Labels) (fed : List ℕ) → Finds origin old fed records was → Finds origin new (fed ++ front) records lines

-- the next piece was fed, and what it decides was taken
pub read_more : (old mid next new : SourceState FileKept) (was lines lines' : List ℕ) (records : List Record) (octets rest piece others : List ℕ)
    → rest ≡ piece ++ others
    → ((origin : Labels) (fed : List ℕ) (given : List Placed) → StandsForFile origin mid fed given → StandsForFile origin next (fed ++ piece) given)
    → ((origin : Labels) (fed : List ℕ) → Finds origin next fed records lines → Finds origin new fed records lines')
    → HasRead old was mid lines records octets rest → HasRead old was new lines' records octets others
read_more old mid next new was lines lines' records octets rest piece others cut feeds takes read = record {
  front = read.front ++ piece;
  split = read.split ∙ ap (λ os. read.front ++ os) cut ∙ sym (append_assoc read.front piece others);
  finds = λ origin fed found.
      let it = read.finds origin fed found in
      subst (λ os. Finds origin new os records lines') (append_assoc fed read.front piece)
      (takes origin ((fed ++ read.front) ++ piece) (record { given = it.given; stands = feeds origin (fed ++ read.front) it.given it.stands; so_far = it.so_far }));
}

-- nothing was read yet
pub read_none : (old : SourceState FileKept) (was : List ℕ) (records : List Record) (octets : List ℕ) → HasRead old was old was records octets octets
read_none old was records octets = record {
  front = [];
  split = refl;
  finds = λ origin fed found. subst (λ os. Finds origin old os records was) (sym (append-nil fed)) found;
}

-- all was read
pub read_all : (old new : SourceState FileKept) (was lines : List ℕ) (records : List Record) (octets rest : List ℕ) → rest ≡ [] → HasRead old was new lines records octets rest
    → (origin : Labels) (fed : List ℕ) → Finds origin old fed records was → Finds origin new (fed ++ octets) records lines
read_all old new was lines records octets rest none read origin fed found =
    let whole : read.front ≡ octets = sym (read.split ∙ ap (λ os. read.front ++ os) none ∙ append-nil read.front) in
    subst (λ os. Finds origin new (fed ++ os) records lines) whole (read.finds origin fed found)

-- ---- the whole file

-- the source has no record left
none_left : (source : SourceState FileKept) → source.pending.failed ≡ false → first_of source.pending ≡ None → source.pending.records ≡ []
none_left source works none = grind arith

-- the lines of the records of a zone, where all that its file states was read
pub all_lines : (origin : Labels) (octets generic : List ℕ) (short : Refusals) (z : Zone) (source : SourceState FileKept) (lines : List ℕ)
    → ((told : List Refused) (placed : List Placed) → IsRewriting origin octets generic told → FileStates (folded origin) generic placed ↔ FileStatesWithWords origin (folded origin) octets placed)
    → ((placed : List Placed) → FileStates (folded origin) generic placed ↔ FileReads (folded origin) generic placed None)
    → ((a b : List Placed) (e f : Ending) → FileReads (folded origin) generic a e → FileReads (folded origin) generic b f → (a ≡ b) × (e ≡ f))
    → RewritesFile origin octets generic short → source.held.finished ≡ true → first_of source.pending ≡ None
    → Finds (folded origin) source generic z.records lines
    → PresentationDenotes origin octets z → AreFirstLines origin octets z.records lines
all_lines origin octets generic short z source lines rewriting states_read once rewrites finished none it denotes =
    let states : FileStates (folded origin) generic denotes.placed = (rewriting rewrites.told denotes.placed rewrites.is).1 denotes.states in
    let left : source.pending.records ≡ [] = none_left source it.stands.works none in
    let same : it.given ≡ denotes.placed = sym (append-nil it.given) ∙ ap (λ ps. it.given ++ ps) (sym left)
    ∙ (once (it.given ++ source.pending.records) denotes.placed source.pending.ending None (it.stands.read finished) ((states_read denotes.placed).0 states)).0 in
    record {
      placed = denotes.placed;
      states = denotes.states;
      first = all_found denotes.placed z.records lines (λ r has. (denotes.makes.same r).0 has)
          (subst (λ ps. AreLinesSoFar ps z.records lines) same it.so_far (stated_on_lines (folded origin) generic denotes.placed states));
    }

-- the same, by what the calls say of them
pub lines_of_all : (origin : Labels) (octets generic : List ℕ) (short : Refusals) (z : Zone) (name : Labels) (fed : List ℕ) (records : List Record) (source : SourceState FileKept) (lines : List ℕ)
    → ((told : List Refused) (placed : List Placed) → IsRewriting origin octets generic told → FileStates (folded origin) generic placed ↔ FileStatesWithWords origin (folded origin) octets placed)
    → ((placed : List Placed) → FileStates (folded origin) generic placed ↔ FileReads (folded origin) generic placed None)
    → ((a b : List Placed) (e f : Ending) → FileReads (folded origin) generic a e → FileReads (folded origin) generic b f → (a ≡ b) × (e ≡ f))
    → RewritesFile origin octets generic short → name ≡ folded origin → fed ≡ generic → records ≡ z.records
    → source.held.finished ≡ true → first_of source.pending ≡ None → Finds name source fed records lines
    → PresentationDenotes origin octets z → AreFirstLines origin octets z.records lines
lines_of_all origin octets generic short z name fed records source lines rewriting states_read once rewrites named all same finished none it =
    all_lines origin octets generic short z source lines rewriting states_read once rewrites finished none
    (subst (λ n. Finds n source generic z.records lines) named (subst (λ os. Finds name source os z.records lines) all (subst (λ rs. Finds name source fed rs lines) same it)))

-- nothing was read yet
pub started : (name : Labels) (source : SourceState FileKept) (records : List Record) (lines : List ℕ) → StandsForFile name source [] [] → lines ≡ replicate (length records) 0 → Finds name source [] records lines
started name source records lines stands zeros = record {
  given = [];
  stands = stands;
  so_far = λ on. subst (EachSoFar [] records) (sym zeros) (none_so_far records);
}

-- a slice of a vector is written back
pub written_back : (n : ℕ) (xs ys : List ℕ) → length xs ≡ n → take n (xs ++ drop (length xs) ys) ≡ xs
written_back n xs ys long = subst (λ k. take k (xs ++ drop (length xs) ys) ≡ xs) long (take-append_seam xs (drop (length xs) ys))
