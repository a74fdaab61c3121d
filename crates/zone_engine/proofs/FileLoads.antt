-- From what a loader of a master file holds to what the octets are read as that it was fed.
use Rattle.zone_engine.proofs.Common.{◌≡◌, ℕ, ◌+◌, ◌-◌, ◌^◌, ◌<◌, ◌≤◌, ◌⊎◌, ⊎_elim, inl, inr, false, List, [], ◌++◌, length, length-append, min, refl, sym, ap, ◌∙◌, subst, append_assoc, append-nil, arith, AllByRecursion, Option, Some, None, IfSome, Result, Ok, Err, IfOk, Labels, Octets, IsName, Placed, Fault, InputTooLong, Place, Whole, ZoneTooLarge, Stop, Refused, SourceState, Zone, canon, text_limit, FileDecides, FileLeave, IsFile, as_file, input_of, Decides, IsForm, ReadAs, IsLoadedOf, all_taken, front_refuses, RefusesFront, RefusesRead, ReadsZone, ReadsZoneWithin, InputDenotes, InputReads, InputStates, IsInput, Input, file, IfRefused, IsRefusal, reading, too_long}
use Rattle.zone_name.proofs.InOctets.Pushing.{AllByRecursion-append}
use Rattle.zone_set.proofs.Lists.Thinning.{Tells-itself}
use Rattle.zone_text.specs.TextSource.{FileKept, StandsForFile}
use Rattle.zone_engine.specs.declared.loader.ZoneLoader.{ZoneLoader}
use Rattle.zone_engine.specs.FileLoader.{HasTaken, LoaderState, RefusesBeginning, StandsForFed}
use Rattle.zone_engine.proofs.Feeding.{refused_within}
use Rattle.zone_engine.proofs.Written.{ReadIsStated, denotes_zone, large}

not_both : {e : Fault × Place} → Some e ≡ None → ⊥
not_both same = cc

abbrev Low : List ℕ → Type 0
Low = AllByRecursion (λ c. c < 256)

-- what refuses a beginning of an input refuses the input
abbrev pub FrontRefuses : Type 0
FrontRefuses = (form : ReadAs) (octets front more : Octets) (placed : List Placed) (ending : Option (Fault × Place)) (fault : Fault) (place : Place) → IsForm form → Low octets → octets ≡ front ++ more → Decides (input_of form front) placed ending → RefusesFront placed ending fault place → RefusesRead (input_of form octets) fault place

-- the loader as the source and the list that it is made of see it
abbrev Loaded : LoaderState → ReadAs → Octets → Type 0
Loaded loader form fed = IsLoadedOf IsFile FileLeave loader.source.pending loader.source.held loader.listed loader.refusal form fed

loaded : (origin : Labels) (loader : LoaderState) (fed : Octets) → loader.refusal ≡ None → HasTaken origin loader fed → Loaded loader (as_file origin) fed
loaded origin loader fed none taken =
    all_taken taken.given none (record { is = tt; stands = taken.stands }) taken.tells (grind (arith, taken.stands.works, taken.none_left, taken.unbroken))

refused_beginning : FrontRefuses → (origin : Labels) (fed front after : Octets) (placed : List Placed) (ending : Option (Fault × Place)) (fault : Fault) (place : Place) → IsName origin → fed ≡ front ++ after → Decides (input_of (as_file origin) front) placed ending → RefusesFront placed ending fault place → RefusesBeginning origin fed fault place
refused_beginning decided origin fed front after placed ending fault place name parts decides refuses more each short =
    let r = decided (as_file origin) (fed ++ more) front (after ++ more) placed ending fault place name each (ap (λ o. o ++ more) parts ∙ append_assoc front after more) decides refuses in
    reading r.placed r.ending fault place short r.reads r.refuses

record IsSettled (origin : Labels) (loader : LoaderState) (fed : Octets) : Type 0 where
  pub taken : loader.refusal ≡ None → HasTaken origin loader fed
  pub refused : IfSome loader.refusal (λ it. RefusesBeginning origin fed it.0 it.1)

settled : FrontRefuses → (origin : Labels) → IsName origin → (loader : LoaderState) (fed : Octets) → Loaded loader (as_file origin) fed → IsSettled origin loader fed
settled decided origin name loader fed (all_taken given none stands tells nothing) = record {
  taken = λ _. record { given = given; stands = stands.stands; tells = tells; none_left = ap (λ p. p.records) nothing; unbroken = ap (λ p. p.ending) nothing };
  refused = rw none tt;
}
settled decided origin name loader fed (front_refuses front after placed ending fault place is parts decides refuses) = record {
  taken = λ none. absurd (not_both (sym is ∙ none));
  refused = rw is (refused_beginning decided origin fed front after placed ending fault place name parts decides refuses);
}

-- ---- a loader that begins

pub begins : ((origin : Labels) (placed : List Placed) (ending : Option (Fault × Place)) → FileDecides origin [] placed ending → (placed ≡ []) × (ending ≡ None)) → (origin : Labels) (loader : LoaderState) → IsName origin → StandsForFile origin loader.source [] [] → loader.source.held.finished ≡ false → loader.listed ≡ [] → loader.refusal ≡ None → loader.fed ≡ 0 → loader.failed ≡ false → StandsForFed origin loader []
begins nothing origin loader name stands going empty unrefused uncounted works =
    let none = nothing origin loader.source.pending.records loader.source.pending.ending (stands.decided going) in
    record {
      name = name;
      octets = tt;
      count = rw uncounted (omega arith);
      works = works;
      taken = λ _. record { given = []; stands = stands; tells = rw empty (Tells-itself []); none_left = none.0; unbroken = none.1 };
      refused = rw unrefused tt;
      too_long = λ long. absurd (omega (arith, long));
    }

-- ---- a loader that goes on

-- after a refusal the list stays
pub kept_refusal : (old new : ZoneLoader) (P : Type 0) → IfSome old.refusal (λ e. P × (new ≡ old)) → (e : Fault × Place) → old.refusal ≡ Some e → new.refusal ≡ old.refusal
kept_refusal old new P kept e is =
    let same = subst (λ (r : Option (Fault × Place)). IfSome r (λ e. P × (new ≡ old))) is kept in
    ap (λ (l : ZoneLoader). l.refusal) same.1

counts : (fed more : Octets) (old new : ℕ) → old ≡ min (length fed) (2 ^ 64 - 1) → new ≡ min (old + length more) (2 ^ 64 - 1) → new ≡ min (length (fed ++ more)) (2 ^ 64 - 1)
counts fed more old new was is = rw (is, was, length-append) (omega arith)

module _ (old new : LoaderState) (piece : Octets) (each : Low piece) (counted : new.fed ≡ min (old.fed + length piece) (2 ^ 64 - 1)) (works : new.failed ≡ false) where
  pub fed_too_long : text_limit < new.fed → new.refusal ≡ Some (InputTooLong, Whole) → (origin : Labels) (fed : Octets) → StandsForFed origin old fed → StandsForFed origin new (fed ++ piece)
  fed_too_long long is origin fed stands =
      let count = counts fed piece old.fed new.fed stands.count counted in
      let over : text_limit < length (fed ++ piece) = omega (arith, count, long) in
      record {
        name = stands.name;
        octets = AllByRecursion-append (λ c. c < 256) fed piece stands.octets each;
        count = count;
        works = works;
        taken = λ none. absurd (not_both (sym is ∙ none));
        refused = rw is (λ more low short. absurd (omega (arith, over, short, length-append (fed ++ piece) more)));
        too_long = λ _. is;
      }

  module _ (short : new.fed ≤ text_limit) where
    joined : (origin : Labels) (fed : Octets) → StandsForFed origin old fed → IsSettled origin new (fed ++ piece) → StandsForFed origin new (fed ++ piece)
    joined origin fed stands settles =
        let count = counts fed piece old.fed new.fed stands.count counted in
        record {
          name = stands.name;
          octets = AllByRecursion-append (λ c. c < 256) fed piece stands.octets each;
          count = count;
          works = works;
          taken = settles.taken;
          refused = settles.refused;
          too_long = λ long. absurd (omega (arith, long, count, short));
        }

    refused_on : (origin : Labels) (fed : Octets) (refusal : Option (Fault × Place)) → IfSome refusal (λ it. RefusesBeginning origin fed it.0 it.1) → IfSome refusal (λ it. RefusesBeginning origin (fed ++ piece) it.0 it.1)
    refused_on origin fed None is = tt
    refused_on origin fed (Some it) is = λ more low few.
        subst (λ octets. IsRefusal (file origin octets) it.0 it.1) (sym (append_assoc fed piece more))
        (is (piece ++ more) (subst Low (append_assoc fed piece more) low) (subst (λ octets. length octets ≤ text_limit) (append_assoc fed piece more) few))

    pub fed_more : FrontRefuses → ((e : Fault × Place) → old.refusal ≡ Some e → new.refusal ≡ old.refusal) → ((form : ReadAs) (octets : Octets) → Loaded old form octets → Loaded new form (octets ++ piece)) → (origin : Labels) (fed : Octets) → StandsForFed origin old fed → StandsForFed origin new (fed ++ piece)
    fed_more decided kept on origin fed stands = joined origin fed stands (by_refusal old.refusal refl)
      where
        by_refusal : (refusal : Option (Fault × Place)) → old.refusal ≡ refusal → IsSettled origin new (fed ++ piece)
        by_refusal None none = settled decided origin stands.name new (fed ++ piece) (on (as_file origin) fed (loaded origin old fed none (stands.taken none)))
        by_refusal (Some e) is = record {
          taken = λ none. absurd (not_both (sym (kept e is ∙ is) ∙ none));
          refused = subst (λ refusal. IfSome refusal (λ it. RefusesBeginning origin (fed ++ piece) it.0 it.1)) (sym (kept e is)) (refused_on origin fed old.refusal stands.refused);
        }

-- ---- the end of the file

-- what is refused already is refused
already : (origin : Labels) (loader : LoaderState) (fed : Octets) (it : Fault × Place) → StandsForFed origin loader fed → loader.refusal ≡ Some it → IsRefusal (file origin fed) it.0 it.1
already origin loader fed it stands is = ⊎_elim within over (cases (length fed))
  where
    cases : (n : ℕ) → (n ≤ text_limit) ⊎ (text_limit < n)
    cases n = grind arith

    within : length fed ≤ text_limit → IsRefusal (file origin fed) it.0 it.1
    within short =
        let nil = append-nil fed in
        let refuses = subst (λ r. IfSome r (λ it. RefusesBeginning origin fed it.0 it.1)) is stands.refused in
        subst (λ octets. IsRefusal (file origin octets) it.0 it.1) nil (refuses [] (subst Low (sym nil) stands.octets) (subst (λ octets. length octets ≤ text_limit) (sym nil) short))

    over : text_limit < length fed → IsRefusal (file origin fed) it.0 it.1
    over long =
        let same : (InputTooLong, Whole) ≡ it = grind (arith, stands.too_long long, is) in
        subst (λ e. IsRefusal (file origin fed) e.0 e.1) same (too_long long)

short_unrefused : (origin : Labels) (loader : LoaderState) (fed : Octets) → StandsForFed origin loader fed → loader.refusal ≡ None → length fed ≤ text_limit
short_unrefused origin loader fed stands none =
    let never : text_limit < length fed → ⊥ = λ long. not_both (sym (stands.too_long long) ∙ none) in
    omega (arith, never)

abbrev ReadsTo : LoaderState → Zone → Type 0
ReadsTo loader z = (form : ReadAs) (octets : Octets) → Loaded loader form octets → ReadsZone (input_of form octets) z

-- a loader whose source and list were read as a zone isn't refused
pub unrefused : (refusal : Option (Fault × Place)) (r : Result Zone Stop) (z : Zone) → IfSome refusal (λ it. r ≡ Err (Refused it.0 it.1)) → r ≡ Ok z → refusal ≡ None
unrefused None r z refused is = refl
unrefused (Some it) r z refused is = let no : Ok z ≡ Err (Refused it.0 it.1) = sym is ∙ refused in cc

module _ (loader : LoaderState) (z : Zone) (none : loader.refusal ≡ None) (reads : ReadsTo loader z) (origin : Labels) (fed : Octets) (stands : StandsForFed origin loader fed) where
  reads_within : ReadsZoneWithin text_limit (file origin fed) z
  reads_within = record { each = stands.octets; short = short_unrefused origin loader fed stands none; reads = reads (as_file origin) fed (loaded origin loader fed none (stands.taken none)) }

  pub zone_denoted : ReadIsStated → length (canon z) ≤ text_limit → InputDenotes (file origin fed) z
  zone_denoted stated short = (denotes_zone text_limit (omega arith) (file origin fed) z reads_within stated (stands.name, stands.octets) short).1

  pub zone_too_large : text_limit < length (canon z) → IsRefusal (file origin fed) ZoneTooLarge Whole
  zone_too_large long = large text_limit (omega arith) (file origin fed) z reads_within long

pub stop_refuses : (loader : LoaderState) (r : Result Zone Stop) (stop : Stop) → r ≡ Err stop → IfSome loader.refusal (λ it. r ≡ Err (Refused it.0 it.1)) → ((form : ReadAs) (octets : Octets) → IsForm form → Low octets → Loaded loader form octets → IfRefused stop (RefusesRead (input_of form octets))) → (origin : Labels) (fed : Octets) → StandsForFed origin loader fed → IfRefused stop (IsRefusal (file origin fed))
stop_refuses loader r stop is refused refuses origin fed stands = by_refusal loader.refusal refl
  where
    by_refusal : (refusal : Option (Fault × Place)) → loader.refusal ≡ refusal → IfRefused stop (IsRefusal (file origin fed))
    by_refusal None none =
        refused_within text_limit (as_file origin) fed stop (short_unrefused origin loader fed stands none)
        (refuses (as_file origin) fed stands.name stands.octets (loaded origin loader fed none (stands.taken none)))
    by_refusal (Some it) held =
        let told : r ≡ Err (Refused it.0 it.1) = subst (λ refusal. IfSome refusal (λ it. r ≡ Err (Refused it.0 it.1))) held refused in
        let same : Refused it.0 it.1 ≡ stop = grind (arith, told, is) in
        subst (λ s. IfRefused s (IsRefusal (file origin fed))) same (already origin loader fed it stands held)
