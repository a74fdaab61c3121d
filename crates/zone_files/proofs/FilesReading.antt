-- Files that are read and expanded: what their readers gave, from step to step.
use Rattle.std.proofs.Common.{◌≡◌, ℕ, zero, suc, ◌+◌, ◌-◌, ◌<◌, ◌≤◌, List, [], ◌∷◌, ◌++◌, drop, length, Bool, true, false, Option, Some, None, refl, sym, ap, subst, ◌∙◌, append_assoc, append-nil, length-append, arith}
use Rattle.std.proofs.KnownBytes.{Consumes-nil, Consumes-trans, Consumes-whole}
use Rattle.std.proofs.lemmas.Grind.{common_steps}
use Rattle.std.proofs.lemmas.List.{drop_at, reverse-append}
use Rattle.std.specs.Io.KnownBytes.{Consumes, IsAtEnd}
use Rattle.std.specs.Prelude.{Err, IfSome, Ok, OnOk, Result, ◌^◌, min, reverse}
use Rattle.zone_print.specs.Canonical.{text_limit}
use Rattle.zone_print.specs.Device.{Device, Fails}
use Rattle.zone_files.specs.Expansion.{Files, Holds, file, no_files}
use Rattle.zone_files.specs.FileExpander.{then}
use Rattle.zone_files.specs.IncludeStack.{BeginsInner, EndsInnermost, FedFile, FedFiles, FeedsInnermost, MakesLines, StandsForFiles, WritesForFiles, ended_by, fed_ended, fed_inner, fed_more, main_alone, main_by, with_inner}
use Rattle.zone_files.specs.FilesStopped.{EndsReading, IsRead, IsReadNoFurther, IsReadSoFar, IsTooLong, long_text, of_main, of_opened}
use Rattle.zone_files.specs.Machine.OpenReading.{AllGiven, AllOpened, ClosesFile, Gave, HasGiven, IsNew, IsOpened, IsReading, ReadsStep, StandsAfter, StandsForRead, another, main_file}
use Rattle.zone_files.specs.Reading.{Begins, EachFile, Has, OpenedFile, OpensEach, ReadsPart, octets_in}
use Rattle.zone_files.specs.declared.files.files_reader.FilesReader.{FilesReader}
use Rattle.zone_files.specs.declared.files.open_file.OpenFile.{OpenFile}
use Rattle.zone_files.specs.declared.files.open_files.OpenFiles.{OpenFiles}

-- ---- trees

octets_then : (a b : Files) → octets_in (then a b) ≡ octets_in a ++ octets_in b
octets_then no_files b = refl
octets_then (file octets inner others) b = ap (λ l. octets ∷ l) (ap (λ l. octets_in inner ++ l) (octets_then others b) ∙ sym (append_assoc (octets_in inner) (octets_in others) (octets_in b)))

octets_inner : (a : Files) (octets : List ℕ) (inner : Files) → octets_in (then a (file octets inner no_files)) ≡ octets_in a ++ octets ∷ octets_in inner
octets_inner a octets inner = octets_then a (file octets inner no_files) ∙ ap (λ l. octets_in a ++ octets ∷ l) (append-nil (octets_in inner))

module _ {F : Type 0} (Reads : F → List ℕ → Type 0) where
  each_both : (xs ys : List (OpenedFile F)) (heads tails : List (List ℕ)) → EachFile Reads xs heads → EachFile Reads ys tails → EachFile Reads (xs ++ ys) (heads ++ tails)
  each_both [] ys [] tails one other = other
  each_both [] ys (o ∷ heads) tails one other = absurd one
  each_both (x ∷ xs) ys [] tails one other = absurd one
  each_both (x ∷ xs) ys (o ∷ heads) tails one other = (one.0, each_both xs ys heads tails one.1 other)

-- ---- a front of what a reader has to give

begins_by : (known now : Option (List ℕ)) (taken left : List ℕ) → Consumes known now (taken ++ left) → IfSome known (λ octets. (rest : List ℕ) × (octets ≡ taken ++ rest))
begins_by None now taken left consumed = tt
begins_by (Some octets) None taken left consumed = absurd consumed
begins_by (Some octets) (Some rest) taken left consumed = (left ++ rest, consumed ∙ append_assoc taken left rest)

begins_all : (known : Option (List ℕ)) (octets : List ℕ) → IfSome known (λ others. others ≡ octets) → IfSome known (λ others. (rest : List ℕ) × (others ≡ octets ++ rest))
begins_all None octets has = tt
begins_all (Some others) octets has = ([], has ∙ sym (append-nil octets))

-- ---- a file

module _ {F : Type 0} (state : F → Device) (reader : F) where
  pub has_all : (o : OpenFile F) (taken : List ℕ) → HasGiven state reader o taken → o.is_at_end ≡ true → Has state reader taken
  has_all o taken given ended =
      let none = (given.ended ended).1 in
      Consumes-whole _ _ (taken ++ o.piece) (λ known. known ≡ taken) given.consumed (given.ended ended).0 (ap (λ l. taken ++ l) none ∙ append-nil taken)

  pub short_all : (o : OpenFile F) (taken : List ℕ) → HasGiven state reader o taken → length taken ≤ text_limit
  short_all o taken given = omega (arith, given.counted, given.short, length-append taken o.piece)

  pub begins_of : (o : OpenFile F) (taken : List ℕ) → HasGiven state reader o taken → Begins state reader taken
  begins_of o taken given = begins_by (state reader).octets (state o.reader).octets taken o.piece given.consumed

  pub gave_begins : (cut : Bool) (octets : List ℕ) → Gave state cut reader octets → Begins state reader octets
  gave_begins false octets gave = begins_all (state reader).octets octets gave.0
  gave_begins true octets gave = gave

  given_new : (o : OpenFile F) → IsNew reader o → HasGiven state reader o []
  given_new o is = record {
    consumed = subst (λ l. Consumes (state reader).octets (state o.reader).octets l) (sym is.none) (subst (λ r. Consumes (state reader).octets (state r).octets []) (sym is.same) (Consumes-nil (state reader).octets));
    works = λ worked. subst (λ r. (state r).works) (sym is.same) worked;
    counted = is.nothing ∙ ap length (sym is.none);
    short = subst (λ n. n ≤ text_limit) (sym is.nothing) (omega arith);
    ended = λ ended. let never : false ≡ true = sym is.unended ∙ ended in absurd (cc);
  }

  given_more : (old new : OpenFile F) (part left taken : List ℕ) → old.piece ≡ part ++ left → new.piece ≡ left → new.reader ≡ old.reader → new.count ≡ old.count → new.is_at_end ≡ old.is_at_end → HasGiven state reader old taken → HasGiven state reader new (taken ++ part)
  given_more old new part left taken whole is same count ended given =
      let all : taken ++ old.piece ≡ (taken ++ part) ++ new.piece = ap (λ l. taken ++ l) (whole ∙ ap (λ l. part ++ l) (sym is)) ∙ sym (append_assoc taken part new.piece) in
      record {
        consumed = subst (λ r. Consumes (state reader).octets (state r).octets ((taken ++ part) ++ new.piece)) (sym same) (subst (λ l. Consumes (state reader).octets (state old.reader).octets l) all given.consumed);
        works = λ worked. subst (λ r. (state r).works) (sym same) (given.works worked);
        counted = count ∙ given.counted ∙ ap length all;
        short = subst (λ n. n ≤ text_limit) (sym count) given.short;
        ended = λ at. let was = given.ended (sym ended ∙ at) in
            (subst (λ r. IsAtEnd (state r).octets) (sym same) was.0, is ∙ none_left part left (sym whole ∙ was.1));
      }
    where
      none_left : (xs ys : List ℕ) → xs ++ ys ≡ [] → ys ≡ []
      none_left [] ys none = none
      none_left (x ∷ xs) ys none = absurd (cc)

  pub too_long : (o : OpenFile F) (taken given : List ℕ) (after : Option (List ℕ)) → HasGiven state reader o taken → o.piece ≡ [] → Consumes (state o.reader).octets after given → text_limit - o.count < length given → (x : List ℕ) × (text_limit < length x) × Consumes (state reader).octets after x
  too_long o taken given after was none consumes over =
      let counted : o.count ≡ length (taken ++ o.piece) = was.counted in
      let long : text_limit < length ((taken ++ o.piece) ++ given) = omega (arith, length-append (taken ++ o.piece) given) in
      ((taken ++ o.piece) ++ given, long, Consumes-trans _ _ _ _ _ was.consumed consumes)

-- ---- closing

module _ {F : Type 0} (Open : F → OpenFile F → List ℕ → Type 0) (Closed : F → List ℕ → Type 0) (main : F) where
  closed_in : (o : OpenFile F) (fed other : FedFile) (earlier opened : List (OpenedFile F)) → ((reader : F) (octets : List ℕ) → Open reader o octets → Closed reader octets) → (inner : IsOpened Open Closed o fed opened) → EachFile Closed earlier (octets_in other.files) → EachFile Closed (earlier ++ inner.it ∷ inner.closed) (octets_in (with_inner other fed).files)
  closed_in o fed other earlier opened ends inner each =
      subst (λ l. EachFile Closed (earlier ++ inner.it ∷ inner.closed) l) (sym (octets_inner other.files fed.octets fed.files))
      (each_both Closed earlier (inner.it ∷ inner.closed) (octets_in other.files) (fed.octets ∷ octets_in fed.files) each (ends inner.it.reader fed.octets inner.given, inner.gave))

  opened_closed : (o above : OpenFile F) (outer : List (OpenFile F)) (fed other : FedFile) (others : List FedFile) (opened : List (OpenedFile F)) → ((reader : F) (octets : List ℕ) → Open reader o octets → Closed reader octets) → AllOpened Open Closed main o (above ∷ outer) fed (other ∷ others) opened → AllOpened Open Closed main above outer (with_inner other fed) others opened
  opened_closed o above [] fed other [] opened ends (inner, given) =
      (given.0, subst (λ l. EachFile Closed l (octets_in (with_inner other fed).files)) (sym inner.opened_is) (closed_in o fed other inner.earlier opened ends inner given.1))
  opened_closed o above [] fed other (next ∷ others) opened ends (inner, given) = absurd given
  opened_closed o above (next ∷ outer) fed other [] opened ends (inner, given) = absurd given
  opened_closed o above (next ∷ outer) fed other (f ∷ others) opened ends (inner, (own, given)) = (
    record {
      earlier = own.earlier;
      it = own.it;
      closed = own.closed ++ inner.it ∷ inner.closed;
      opened_is = inner.opened_is ∙ ap (λ l. l ++ inner.it ∷ inner.closed) own.opened_is ∙ append_assoc own.earlier (own.it ∷ own.closed) (inner.it ∷ inner.closed);
      given = own.given;
      gave = closed_in o fed other own.closed opened ends inner own.gave;
    },
    given,
  )

  -- as if all that are open were closed
  opened_all : (o : OpenFile F) (outer : List (OpenFile F)) (fed : FedFile) (others : List FedFile) (opened : List (OpenedFile F)) → ((reader : F) (file : OpenFile F) (octets : List ℕ) → Open reader file octets → Closed reader octets) → AllOpened Open Closed main o outer fed others opened → Closed main (main_by fed others).octets × EachFile Closed opened (octets_in (main_by fed others).files)
  opened_all o [] fed [] opened ends given = (ends main o fed.octets given.0, given.1)
  opened_all o [] fed (other ∷ others) opened ends given = absurd given
  opened_all o (above ∷ outer) fed [] opened ends given = absurd given
  opened_all o (above ∷ outer) fed (other ∷ others) opened ends given =
      opened_all above outer (with_inner other fed) others opened ends (opened_closed o above outer fed other others opened (λ reader octets. ends reader o octets) given)

module _ {F : Type 0} (Open : F → OpenFile F → List ℕ → Type 0) (Closed Weak : F → List ℕ → Type 0) (main : F) (weak : (reader : F) (octets : List ℕ) → Closed reader octets → Weak reader octets) where
  pub each_weaker : (opened : List (OpenedFile F)) (heads : List (List ℕ)) → EachFile Closed opened heads → EachFile Weak opened heads
  each_weaker [] [] each = tt
  each_weaker [] (octets ∷ heads) each = absurd each
  each_weaker (it ∷ opened) [] each = absurd each
  each_weaker (it ∷ opened) (octets ∷ heads) each = (weak it.reader octets each.0, each_weaker opened heads each.1)

  opened_weaker : (o : OpenFile F) (outer : List (OpenFile F)) (fed : FedFile) (others : List FedFile) (opened : List (OpenedFile F)) → AllOpened Open Closed main o outer fed others opened → AllOpened Open Weak main o outer fed others opened
  opened_weaker o [] fed [] opened given = (given.0, each_weaker opened (octets_in fed.files) given.1)
  opened_weaker o [] fed (other ∷ others) opened given = absurd given
  opened_weaker o (above ∷ outer) fed [] opened given = absurd given
  opened_weaker o (above ∷ outer) fed (other ∷ others) opened (inner, given) =
      (record { earlier = inner.earlier; it = inner.it; closed = inner.closed; opened_is = inner.opened_is; given = inner.given; gave = each_weaker inner.closed (octets_in fed.files) inner.gave }, opened_weaker above outer other others inner.earlier given)

-- ---- all files that are open

module _ {F : Type 0} (state : F → Device) (main : F) where
  -- the reader of the innermost file
  pub innermost_of : (cut : Bool) (o : OpenFile F) (outer : List (OpenFile F)) (fed : FedFile) (others : List FedFile) (opened : List (OpenedFile F)) → AllGiven state main cut o outer fed others opened → (reader : F) × IsRead main opened reader × HasGiven state reader o fed.octets
  innermost_of cut o [] fed [] opened given = (main, of_main refl, given.0)
  innermost_of cut o [] fed (other ∷ others) opened given = absurd given
  innermost_of cut o (above ∷ outer) fed [] opened given = absurd given
  innermost_of cut o (above ∷ outer) fed (other ∷ others) opened (inner, given) = (inner.it.reader, of_opened inner.earlier inner.closed inner.it inner.opened_is refl, inner.given)

  -- another state of the innermost file
  given_by : (cut : Bool) (old new : OpenFile F) (outer : List (OpenFile F)) (fed next : FedFile) (others : List FedFile) (opened : List (OpenedFile F)) → next.files ≡ fed.files → ((reader : F) → HasGiven state reader old fed.octets → HasGiven state reader new next.octets) → AllGiven state main cut old outer fed others opened → AllGiven state main cut new outer next others opened
  given_by cut old new [] fed next [] opened same on given = (on main given.0, subst (λ f. EachFile (Gave state cut) opened (octets_in f)) (sym same) given.1)
  given_by cut old new [] fed next (other ∷ others) opened same on given = absurd given
  given_by cut old new (above ∷ outer) fed next [] opened same on given = absurd given
  given_by cut old new (above ∷ outer) fed next (other ∷ others) opened same on given =
      let inner = given.0 in
      (record { earlier = inner.earlier; it = inner.it; closed = inner.closed; opened_is = inner.opened_is; given = on inner.it.reader inner.given; gave = subst (λ f. EachFile (Gave state cut) inner.closed (octets_in f)) (sym same) inner.gave }, given.1)

  -- the innermost file is closed: it was read to its end, or is cut off
  given_closed : (was now : Bool) (o above : OpenFile F) (outer : List (OpenFile F)) (fed other : FedFile) (others : List FedFile) (opened : List (OpenedFile F)) → (now ≡ false → (was ≡ false) × (o.is_at_end ≡ true)) → AllGiven state main was o (above ∷ outer) fed (other ∷ others) opened → AllGiven state main now above outer (with_inner other fed) others opened
  given_closed was true o above outer fed other others opened whole given =
      opened_closed (HasGiven state) (Gave state true) main o above outer fed other others opened (λ reader octets own. begins_of state reader o octets own)
      (opened_weaker (HasGiven state) (Gave state was) (Gave state true) main (λ reader octets. gave_begins state reader was octets) o (above ∷ outer) fed (other ∷ others) opened given)
  given_closed was false o above outer fed other others opened whole given =
      opened_closed (HasGiven state) (Gave state false) main o above outer fed other others opened (λ reader octets own. (has_all state reader o octets own (whole refl).1, short_all state reader o octets own))
      (subst (λ cut. AllGiven state main cut o (above ∷ outer) fed (other ∷ others) opened) (whole refl).0 given)

  -- ---- steps

  module _ (first : Holds) (opened : List (OpenedFile F)) (text : List ℕ) where
    pub stands_read : (old new : FilesReader F) → new.stack ≡ old.stack → new.«open».outer ≡ old.«open».outer → new.is_cut ≡ old.is_cut → ((reader : F) (taken : List ℕ) → HasGiven state reader old.«open».innermost taken → HasGiven state reader new.«open».innermost taken) → StandsForRead state main first old opened text → StandsForRead state main first new opened text
    stands_read old new same outer cut on was = record {
      fed = was.fed;
      stands = subst (λ s. StandsForFiles s first was.fed text) (sym same) was.stands;
      given = subst (λ b. AllGiven state main b new.«open».innermost (reverse new.«open».outer.items) was.fed.innermost was.fed.outer opened) (sym cut)
          (subst (λ os. AllGiven state main old.is_cut new.«open».innermost (reverse os.items) was.fed.innermost was.fed.outer opened) (sym outer)
          (given_by old.is_cut old.«open».innermost new.«open».innermost (reverse old.«open».outer.items) was.fed.innermost was.fed.innermost was.fed.outer opened refl (λ reader. on reader was.fed.innermost.octets) was.given));
      outer = omega (arith, was.outer, ap (λ os. length os.items) outer, ap (λ s. length s.outer) same);
    }

    pub stands_fed : (old new : FilesReader F) (left : List ℕ) → FeedsInnermost old.stack old.«open».innermost.piece left new.stack [] new.text.items → new.«open».outer ≡ old.«open».outer → new.«open».innermost.piece ≡ left → new.«open».innermost.reader ≡ old.«open».innermost.reader → new.«open».innermost.count ≡ old.«open».innermost.count → new.«open».innermost.is_at_end ≡ old.«open».innermost.is_at_end → new.is_cut ≡ old.is_cut → StandsForRead state main first old opened text → StandsForRead state main first new opened (text ++ new.text.items)
    stands_fed old new left feeds outer is same count ended cut was = record {
      fed = fed_more feeds.part was.fed;
      stands = subst (λ made. StandsForFiles new.stack first (fed_more feeds.part was.fed) (text ++ made)) (sym feeds.writes.written) (feeds.writes.stands first was.fed text was.stands);
      given = subst (λ b. AllGiven state main b new.«open».innermost (reverse new.«open».outer.items) (fed_more feeds.part was.fed).innermost was.fed.outer opened) (sym cut)
          (subst (λ os. AllGiven state main old.is_cut new.«open».innermost (reverse os.items) (fed_more feeds.part was.fed).innermost was.fed.outer opened) (sym outer)
          (given_by old.is_cut old.«open».innermost new.«open».innermost (reverse old.«open».outer.items) was.fed.innermost (fed_more feeds.part was.fed).innermost was.fed.outer opened refl
          (λ reader. given_more state reader old.«open».innermost new.«open».innermost feeds.part left was.fed.innermost.octets feeds.whole is same count ended) was.given));
      outer = omega (arith, was.outer, ap (λ os. length os.items) outer, ap length feeds.outer);
    }

    stands_after : (old new : FilesReader F) (ended : ℕ) → WritesForFiles old.stack (fed_ended ended) new.stack [] new.text.items → length old.stack.outer ≡ ended + length new.stack.outer → new.«open» ≡ old.«open» → new.is_cut ≡ old.is_cut → StandsForRead state main first old opened text → StandsAfter state main ended first new opened (text ++ new.text.items)
    stands_after old new ended writes outer same cut was = record {
      fed = was.fed;
      stands = subst (λ made. StandsForFiles new.stack first (fed_ended ended was.fed) (text ++ made)) (sym writes.written) (writes.stands first was.fed text was.stands);
      given = subst (λ b. AllGiven state main b new.«open».innermost (reverse new.«open».outer.items) was.fed.innermost was.fed.outer opened) (sym cut)
          (subst (λ (os : OpenFiles F). AllGiven state main old.is_cut os.innermost (reverse os.outer.items) was.fed.innermost was.fed.outer opened) (sym same) was.given);
      outer = omega (arith, was.outer, ap (λ (os : OpenFiles F). length os.outer.items) same, outer);
    }

    pub stands_ended : (old new : FilesReader F) (ends : EndsInnermost old.stack new.stack [] new.text.items) → new.«open» ≡ old.«open» → new.is_cut ≡ old.is_cut → StandsForRead state main first old opened text → StandsAfter state main ends.ended first new opened (text ++ new.text.items)
    stands_ended old new ends same cut was = stands_after old new ends.ended ends.writes ends.outer same cut was

    pub stands_made : (old new : FilesReader F) (makes : MakesLines old.stack new.stack [] new.text.items) → new.«open» ≡ old.«open» → new.is_cut ≡ old.is_cut → StandsForRead state main first old opened text → StandsAfter state main makes.ended first new opened (text ++ new.text.items)
    stands_made old new makes same cut was = stands_after old new makes.ended makes.writes makes.outer same cut was

    pub stands_begun : (old new : FilesReader F) (name : List ℕ) (reader : F) → BeginsInner old.stack new.stack → IsNew reader new.«open».innermost → new.«open».outer.items ≡ old.«open».outer.items ++ old.«open».innermost ∷ [] → new.is_cut ≡ old.is_cut → StandsForRead state main first old opened text → StandsForRead state main first new (opened ++ record { name = name; reader = reader } ∷ []) text
    stands_begun old new name reader begins is outer cut was =
        let reversed : reverse new.«open».outer.items ≡ old.«open».innermost ∷ reverse old.«open».outer.items = ap reverse outer ∙ reverse-append old.«open».outer.items (old.«open».innermost ∷ []) in
        record {
          fed = fed_inner was.fed;
          stands = begins.stands first was.fed text was.stands;
          given = subst (λ b. AllGiven state main b new.«open».innermost (reverse new.«open».outer.items) (fed_inner was.fed).innermost (fed_inner was.fed).outer (opened ++ record { name = name; reader = reader } ∷ [])) (sym cut)
              (subst (λ os. AllGiven state main old.is_cut new.«open».innermost os (fed_inner was.fed).innermost (fed_inner was.fed).outer (opened ++ record { name = name; reader = reader } ∷ [])) (sym reversed)
              (record { earlier = opened; it = record { name = name; reader = reader }; closed = []; opened_is = refl; given = given_new state reader new.«open».innermost is; gave = tt }, was.given));
          outer = ap length outer ∙ (omega (arith, was.outer, ap length begins.outer, length-append old.«open».outer.items (old.«open».innermost ∷ [])));
        }

    closed_by : (k : ℕ) (old new : FilesReader F) (above : OpenFile F) (outer : List (OpenFile F)) (inner : FedFile) (others : List FedFile) → new.stack ≡ old.stack → above ≡ new.«open».innermost → outer ≡ reverse new.«open».outer.items → (new.is_cut ≡ false → (old.is_cut ≡ false) × (old.«open».innermost.is_at_end ≡ true)) → StandsForFiles old.stack first (ended_by (suc k) inner others) text → AllGiven state main old.is_cut old.«open».innermost (above ∷ outer) inner others opened → length new.«open».outer.items ≡ k + length old.stack.outer → StandsAfter state main k first new opened text
    closed_by k old new above outer inner [] same is are whole stands given len = absurd given
    closed_by k old new above outer inner (other ∷ others) same is are whole stands given len = record {
      fed = record { innermost = with_inner other inner; outer = others };
      stands = subst (λ s. StandsForFiles s first (ended_by k (with_inner other inner) others) text) (sym same) stands;
      given = subst (λ o. AllGiven state main new.is_cut o (reverse new.«open».outer.items) (with_inner other inner) others opened) is
          (subst (λ os. AllGiven state main new.is_cut above os (with_inner other inner) others opened) are (given_closed old.is_cut new.is_cut old.«open».innermost above outer inner other others opened whole given));
      outer = len ∙ ap (λ s. k + length s.outer) (sym same);
    }

    pub stands_closed : (k : ℕ) (old new : FilesReader F) → length old.stack.outer < length old.«open».outer.items → (new.is_cut ≡ false → (old.is_cut ≡ false) × (old.«open».innermost.is_at_end ≡ true)) → new.stack ≡ old.stack → ClosesFile old.«open» new.«open» → StandsAfter state main k first old opened text → (j : ℕ) × StandsAfter state main j first new opened text
    stands_closed k old new more ended same (main_file none) was = absurd (omega (arith, ap length none))
    stands_closed zero old new more ended same (another parts) was = absurd (omega (arith, was.outer))
    stands_closed (suc k) old new more ended same (another parts) was =
        let reversed : reverse old.«open».outer.items ≡ new.«open».innermost ∷ reverse new.«open».outer.items = ap reverse parts ∙ reverse-append new.«open».outer.items (new.«open».innermost ∷ []) in (
          k,
          closed_by k old new new.«open».innermost (reverse new.«open».outer.items) was.fed.innermost was.fed.outer same refl refl ended was.stands
              (subst (λ os. AllGiven state main old.is_cut old.«open».innermost os was.fed.innermost was.fed.outer opened) reversed was.given)
              (omega (arith, was.outer, ap length parts, length-append new.«open».outer.items (new.«open».innermost ∷ []))),
        )

    pub stands_none_left : (k : ℕ) (reader : FilesReader F) → length reader.«open».outer.items ≤ length reader.stack.outer → StandsAfter state main k first reader opened text → StandsForRead state main first reader opened text
    stands_none_left zero reader few was = was
    stands_none_left (suc k) reader few was = absurd (omega (arith, was.outer))

-- ---- what is kept of a piece

pub kept_is : (piece part left : List ℕ) (n : ℕ) → piece ≡ part ++ left → n ≡ length left → drop (length piece - n) piece ≡ left
kept_is piece part left n whole is =
    let len : length piece - n ≡ length part = omega (arith, ap length whole, length-append part left) in
    ap (λ k. drop k piece) len ∙ ap (λ l. drop (length part) l) whole ∙ dropped part left
  where
    dropped : (xs ys : List ℕ) → drop (length xs) (xs ++ ys) ≡ ys
    dropped [] ys = refl
    dropped (x ∷ xs) ys = dropped xs ys

-- ---- what was opened

module _ {S F : Type 0} (Opens : S → List ℕ → Option F → S → Type 0) where
  opens_more : (old mid new : S) (opened : List (OpenedFile F)) (it : OpenedFile F) → OpensEach Opens old opened mid → Opens mid it.name (Some it.reader) new → OpensEach Opens old (opened ++ it ∷ []) new
  opens_more old mid new [] it same opens = (new, subst (λ s. Opens s it.name (Some it.reader) new) same opens, refl)
  opens_more old mid new (f ∷ opened) it (next, first, others) opens = (next, first, opens_more next mid new opened it others opens)

  module _ (state : F → Device) (main : F) (first : Holds) (start : S) (text : List ℕ) where
    -- without another file
    pub reading_on : (old new : FilesReader F) (now : S) → new.included ≡ old.included → new.expanded ≡ old.expanded → ((opened : List (OpenedFile F)) → StandsForRead state main first old opened text → StandsForRead state main first new opened (text ++ new.text.items)) → IsReading Opens state main first start old now text → ReadsStep Opens state main first start new now text
    reading_on old new now same counted on was = record {
      opened = was.opened;
      opens = was.opens;
      stands = on was.opened was.stands;
      counted = same ∙ was.counted;
      few = was.few;
      long = counted ∙ was.long;
    }

    -- nothing was expanded
    pub reading_none : (reader : FilesReader F) (now : S) → reader.text.items ≡ [] → IsReading Opens state main first start reader now text → ReadsStep Opens state main first start reader now text
    reading_none reader now none was = record {
      opened = was.opened;
      opens = was.opens;
      stands = subst (λ t. StandsForRead state main first reader was.opened t) (sym (ap (λ l. text ++ l) none ∙ append-nil text)) was.stands;
      counted = was.counted;
      few = was.few;
      long = was.long;
    }

    -- with another file
    pub reading_begun : (old new : FilesReader F) (mid now : S) (name : List ℕ) (reader : F) → Opens mid name (Some reader) now → new.included ≡ old.included + 1 → new.included ≤ 10000 → new.expanded ≡ old.expanded → ((opened : List (OpenedFile F)) → StandsForRead state main first old opened text → StandsForRead state main first new (opened ++ record { name = name; reader = reader } ∷ []) text) → IsReading Opens state main first start old mid text → IsReading Opens state main first start new now text
    reading_begun old new mid now name reader opens more few expanded on was =
        let it : OpenedFile F = record { name = name; reader = reader } in
        let len : new.included ≡ length (was.opened ++ it ∷ []) = omega (arith, was.counted, length-append was.opened (it ∷ [])) in
        record {
          opened = was.opened ++ it ∷ [];
          opens = opens_more start mid now was.opened it was.opens opens;
          stands = on was.opened was.stands;
          counted = len;
          few = subst (λ n. n ≤ 10000) len few;
          long = expanded ∙ was.long;
        }

-- the same reader with another text
pub stands_same : {F : Type 0} (state : F → Device) (main : F) (first : Holds) (old new : FilesReader F) (opened : List (OpenedFile F)) (text : List ℕ) → new.stack ≡ old.stack → new.«open» ≡ old.«open» → new.is_cut ≡ old.is_cut → StandsForRead state main first old opened text → StandsForRead state main first new opened text
stands_same state main first old new opened text same files cut was =
    stands_read state main first opened text old new same (ap (λ (os : OpenFiles _). os.outer) files) cut
    (λ reader taken given. subst (λ (os : OpenFiles _). HasGiven state reader os.innermost taken) (sym files) given) was

-- nothing was read
pub stands_new : {F : Type 0} (state : F → Device) (main : F) (first : Holds) (reader : FilesReader F) → StandsForFiles reader.stack first main_alone [] → reader.stack.outer ≡ [] → IsNew main reader.«open».innermost → reader.«open».outer.items ≡ [] → StandsForRead state main first reader [] []
stands_new state main first reader stands none is alone = record {
  fed = main_alone;
  stands = stands;
  given = subst (λ os. AllGiven state main reader.is_cut reader.«open».innermost (reverse os) main_alone.innermost main_alone.outer []) (sym alone) (given_new state main reader.«open».innermost is, tt);
  outer = omega (arith, ap length alone, ap length none);
}

pub reading_same : {S F : Type 0} (Opens : S → List ℕ → Option F → S → Type 0) (state : F → Device) (main : F) (first : Holds) (start : S) (text : List ℕ) (old new : FilesReader F) (now : S) → new.stack ≡ old.stack → new.«open» ≡ old.«open» → new.is_cut ≡ old.is_cut → new.included ≡ old.included → new.expanded ≡ old.expanded → IsReading Opens state main first start old now text → IsReading Opens state main first start new now text
reading_same Opens state main first start text old new now same files cut included expanded was = record {
  opened = was.opened;
  opens = was.opens;
  stands = stands_same state main first old new was.opened text same files cut was.stands;
  counted = included ∙ was.counted;
  few = was.few;
  long = expanded ∙ was.long;
}

-- the text of a step is counted
pub reading_counted : {S F : Type 0} (Opens : S → List ℕ → Option F → S → Type 0) (state : F → Device) (main : F) (first : Holds) (start : S) (text : List ℕ) (old new : FilesReader F) (now : S) → new.stack ≡ old.stack → new.«open» ≡ old.«open» → new.is_cut ≡ old.is_cut → new.included ≡ old.included → new.text.items ≡ old.text.items → new.expanded ≡ min (old.expanded + length old.text.items) (2 ^ 64 - 1) → ReadsStep Opens state main first start old now text → IsReading Opens state main first start new now (text ++ new.text.items)
reading_counted Opens state main first start text old new now same files cut included items expanded was = record {
  opened = was.opened;
  opens = was.opens;
  stands = subst (λ made. StandsForRead state main first new was.opened (text ++ made)) (sym items) (stands_same state main first old new was.opened (text ++ old.text.items) same files cut was.stands);
  counted = included ∙ was.counted;
  few = was.few;
  long = rw (expanded, was.long, items) (omega (arith, length-append text old.text.items));
}

-- ---- answers of calls

pub nothing_more : (text made : List ℕ) → made ≡ [] → text ++ made ≡ text
nothing_more text made none = ap (λ l. text ++ l) none ∙ append-nil text

pub on_ok_two : {T E P Q R : Type 0} (r : Result T E) → (P → Q → R) → OnOk r P → OnOk r Q → OnOk r R
on_ok_two (Ok x) f p q = f p q
on_ok_two (Err e) f p q = tt

pub on_ok_three : {T E P Q R O : Type 0} (r : Result T E) → (P → Q → R → O) → OnOk r P → OnOk r Q → OnOk r R → OnOk r O
on_ok_three (Ok x) f p q u = f p q u
on_ok_three (Err e) f p q u = tt

-- ---- what was read so far of each file

module _ {S F : Type 0} (Opens : S → List ℕ → Option F → S → Type 0) (state : F → Device) (main : F) (first : Holds) (start now : S) (text : List ℕ) (reader : FilesReader F) where
  pub reads_part : (was : IsReading Opens state main first start reader now text) → ReadsPart Opens state main start now (main_by was.stands.fed.innermost was.stands.fed.outer).octets (main_by was.stands.fed.innermost was.stands.fed.outer).files
  reads_part was =
      let all = opened_all (HasGiven state) (Begins state) main reader.«open».innermost (reverse reader.«open».outer.items) was.stands.fed.innermost was.stands.fed.outer was.opened
      (λ (r : F) (o : OpenFile F) (octets : List ℕ) (given : HasGiven state r o octets). begins_of state r o octets given)
      (opened_weaker (HasGiven state) (Gave state reader.is_cut) (Begins state) main (λ (r : F) (octets : List ℕ). gave_begins state r reader.is_cut octets) reader.«open».innermost (reverse reader.«open».outer.items) was.stands.fed.innermost was.stands.fed.outer was.opened was.stands.given) in
      record { main_begins = all.0; opened = was.opened; opens = was.opens; each = all.1; few = was.few }

  pub reads_so_far : IsReading Opens state main first start reader now text → IsReadSoFar Opens state main first start now reader.stack text
  reads_so_far was = record { fed = was.stands.fed; stands = was.stands.stands; reads = reads_part was }

  pub reads_no_further : (was : IsReading Opens state main first start reader now text) (new : S) → EndsReading Opens state main was.opened reader.stack now new → IsReadNoFurther Opens state main first start new reader.stack text
  unfolding reads_so_far reads_part
  reads_no_further was new why = record { before = now; so_far = reads_so_far was; why = why }

  -- the expanded text is too long
  pub text_too_long : IsReading Opens state main first start reader now text → text_limit < reader.expanded → IsTooLong Opens state main first start now
  text_too_long was over = long_text reader.stack text (reads_so_far was) (omega (arith, was.long, over))
