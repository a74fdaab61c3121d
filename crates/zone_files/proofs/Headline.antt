-- The parts of the headline for master files in presentation format.
use Rattle.std.proofs.Common.{◌≡◌, ◌↔◌, ◌⊎◌, ◌<◌, ◌≤◌, ℕ, List, [], length, subst, sym, ap, refl, arith, ◌∙◌, ⊎_elim}
use Rattle.zone_name.specs.Common.{AreOctets, AtMostOneIs, Labels, NothingIs}
use Rattle.zone_name.specs.Name.{IsCasedName, folded}
use Rattle.zone_name.proofs.Spelling.Folding.{IsName-folded}
use Rattle.zone_rdata.specs.Record.{IsRecord, Record}
use Rattle.std.specs.List.{AllByRecursion}
use Rattle.zone_rdata.specs.declared.fault.Fault.{Fault}
use Rattle.zone_rdata.specs.declared.fault.Place.{Place}
use Rattle.zone_set.specs.Zone.{IsZone, Zone}
use Rattle.zone_print.specs.Canonical.{canon, lines, text_limit}
use Rattle.zone_print.specs.Denotes.{Denotes}
use Rattle.zone_engine.specs.Headline.{DenotesOnly}
use Rattle.zone_engine.specs.Input.{Input, InputDenotes, IsInput, file, transfer}
use Rattle.zone_engine.specs.Refusal.{IsRefusal, reading, too_long as file_too_long}
use Rattle.zone_words.specs.Entry.{IsRewriting}
use Rattle.words_print.specs.Shown.{IsShownText}
use Rattle.zone_files.proofs.Forms.{DenotesItsForm, OneForm}
use Rattle.zone_files.specs.Presentation.{AreOneZone, HasGenericForm, IsRefusedSource, IsSource, IsSourceRefusal, PresentationDenotes, RefusesPresentation, Source, SourceDenotes, in_generic_form, master_file, too_long, zone_transfer}

-- the input that is read of a source
record IsReadOf (source : Source) (input : Input) : Type 0 where
  pub is : IsInput input
  pub denotes : (z : Zone) → SourceDenotes source z ↔ InputDenotes input z
  pub refuses : (fault : Fault) (place : Place) → IsSourceRefusal source fault place ↔ IsRefusal input fault place

abbrev pub SomeForm : Type 0
SomeForm = (origin : Labels) (octets : List ℕ) → IsCasedName origin → AreOctets octets → (generic : List ℕ) × HasGenericForm origin octets generic × AreOctets generic

short_or_long : (n : ℕ) → (n ≤ text_limit) ⊎ (text_limit < n)
short_or_long n = grind arith

refused_over : (origin : Labels) (octets : List ℕ) → text_limit < length octets → (fault : Fault) (place : Place) → RefusesPresentation origin octets fault place → IsRefusal (file (folded origin) octets) fault place
refused_over origin octets long _ _ (too_long over) = file_too_long over
refused_over origin octets long _ _ (in_generic_form generic fault place short form refuses) = absurd (omega (arith, long, short))

refused_back : (origin : Labels) (octets : List ℕ) → text_limit < length octets → (fault : Fault) (place : Place) → IsRefusal (file (folded origin) octets) fault place → RefusesPresentation origin octets fault place
refused_back origin octets long _ _ (file_too_long over) = too_long over
refused_back origin octets long _ _ (reading placed ending fault place short reads refuses) = absurd (omega (arith, long, short))

module _ (denotes : DenotesItsForm) (some : SomeForm) (one : OneForm) where
  refused_form : (origin : Labels) (octets generic : List ℕ) → length octets ≤ text_limit → HasGenericForm origin octets generic → (fault : Fault) (place : Place) → RefusesPresentation origin octets fault place → IsRefusal (file (folded origin) generic) fault place
  refused_form origin octets generic short form _ _ (too_long over) = absurd (omega (arith, over, short))
  refused_form origin octets generic short form _ _ (in_generic_form other fault place few of refuses) =
      subst (λ t. IsRefusal (file (folded origin) t) fault place) (one origin octets other generic of form) refuses

  -- a file within the limit is read as its generic form
  within : (origin : Labels) (octets : List ℕ) → IsSource (master_file origin octets) → length octets ≤ text_limit → (input : Input) × IsReadOf (master_file origin octets) input
  within origin octets is short =
      let (generic, form, low) = some origin octets is.0 is.1 in (
        file (folded origin) generic,
        record {
          is = (IsName-folded origin is.0, low);
          denotes = λ z. denotes origin octets generic z short form;
          refuses = λ fault place. (
            refused_form origin octets generic short form fault place,
            λ r. in_generic_form generic fault place short form r,
          );
        },
      )

  -- and a longer one as it is: neither denotes a zone
  over : (origin : Labels) (octets : List ℕ) → IsSource (master_file origin octets) → text_limit < length octets → (input : Input) × IsReadOf (master_file origin octets) input
  over origin octets is long = (
    file (folded origin) octets,
    record {
      is = (IsName-folded origin is.0, is.1);
      denotes = λ z. (λ d. absurd (omega (arith, long, d.within)), λ d. absurd (omega (arith, long, d.short)));
      refuses = λ fault place. (refused_over origin octets long fault place, refused_back origin octets long fault place);
    },
  )

  read_of : (source : Source) → IsSource source → (input : Input) × IsReadOf source input
  read_of (zone_transfer octets) is = (transfer octets, record { is = is; denotes = λ z. (λ d. d, λ d. d); refuses = λ fault place. (λ r. r, λ r. r) })
  read_of (master_file origin octets) is = ⊎_elim (within origin octets is) (over origin octets is) (short_or_long (length octets))

  pub one_source : ((input : Input) → AtMostOneIs (InputDenotes input)) → (source : Source) → IsSource source → AtMostOneIs (SourceDenotes source)
  one_source one_zone source is z w a b =
      let (input, read) = read_of source is in one_zone input z w ((read.denotes z).0 a) ((read.denotes w).0 b)

  pub same_text : ((input : Input) → AtMostOneIs (InputDenotes input)) → ((z w : Zone) → IsZone z → IsZone w → (canon z ≡ canon w) ↔ (z ≡ w))
      → (a b : Source) (z w : Zone) → IsSource a → IsSource b → SourceDenotes a z → SourceDenotes b w → (canon z ≡ canon w) ↔ AreOneZone a b
  same_text one_zone equal a b z w is too of_a of_b =
      let (input, read) = read_of a is in
      let (other, reads) = read_of b too in (
        λ same. (z, of_a, subst (SourceDenotes b) (sym ((equal z w ((read.denotes z).0 of_a).makes.zone ((reads.denotes w).0 of_b).makes.zone).0 same)) of_b),
        λ (v, a_v, b_v). ap canon (one_source one_zone a is z v of_a a_v ∙ one_source one_zone b too v w b_v of_b),
      )

  pub back_only : ((input : Input) (z : Zone) (origin : Labels) → InputDenotes input z → DenotesOnly (file origin (canon z)) z)
      → (source : Source) (z : Zone) (origin : Labels) → IsSource source → SourceDenotes source z → DenotesOnly (file origin (canon z)) z
  back_only back source z origin is d = let (input, read) = read_of source is in back input z origin ((read.denotes z).0 d)

  pub shown_back : ((records : List Record) (shown : List ℕ) → AllByRecursion IsRecord records → IsShownText (lines records) shown → IsRewriting [] shown (lines records) [])
      → ((origin : Labels) (z : Zone) → IsZone z → length (canon z) ≤ text_limit → Denotes origin (canon z) z)
      → (source : Source) (z : Zone) (shown : List ℕ) → IsSource source → SourceDenotes source z → IsShownText (canon z) shown → length shown ≤ text_limit → PresentationDenotes [] shown z
  shown_back comes reads source z shown is d shows few =
      let (input, read) = read_of source is in
      let i = (read.denotes z).0 d in
      (denotes [] shown (canon z) z few (record { refused = []; rewriting = comes z.records shown i.makes.zone.compatible.each shows })).1
      (reads [] z i.makes.zone i.makes.text_short)

  pub refused_if_none : ((input : Input) (fault : Fault) (place : Place) → IsRefusal input fault place → NothingIs (InputDenotes input))
      → ((input : Input) → IsInput input → ((fault : Fault) × (place : Place) × IsRefusal input fault place) ⊎ ((z : Zone) × InputDenotes input z))
      → (source : Source) → IsSource source → IsRefusedSource source ↔ NothingIs (SourceDenotes source)
  refused_if_none never either source is =
      let (input, read) = read_of source is in (
        λ (fault, place, r) z d. never input fault place ((read.refuses fault place).0 r) z ((read.denotes z).0 d),
        λ none. ⊎_elim
            (λ (fault, place, r). (fault, place, (read.refuses fault place).1 r))
            (λ (z, d). absurd (none z ((read.denotes z).1 d)))
            (either input read.is),
      )

pub one_fault : OneForm → ((input : Input) (fault other : Fault) (place elsewhere : Place) → IsRefusal input fault place → IsRefusal input other elsewhere → (fault ≡ other) × (place ≡ elsewhere))
    → (source : Source) (fault other : Fault) (place elsewhere : Place) → IsSourceRefusal source fault place → IsSourceRefusal source other elsewhere → (fault ≡ other) × (place ≡ elsewhere)
one_fault one once (zone_transfer octets) fault other place elsewhere a b = once (transfer octets) fault other place elsewhere a b
one_fault one once (master_file origin octets) fault other place elsewhere a b = one_of_files fault other place elsewhere a b
  where
    one_of_files : (fault other : Fault) (place elsewhere : Place) → RefusesPresentation origin octets fault place → RefusesPresentation origin octets other elsewhere → (fault ≡ other) × (place ≡ elsewhere)
    one_of_files _ _ _ _ (too_long over) (too_long long) = (refl, refl)
    one_of_files _ _ _ _ (too_long over) (in_generic_form generic fault place short form refuses) = absurd (omega (arith, over, short))
    one_of_files _ _ _ _ (in_generic_form generic fault place short form refuses) (too_long over) = absurd (omega (arith, over, short))
    one_of_files _ _ _ _ (in_generic_form generic fault place short form refuses) (in_generic_form others other elsewhere few of refuses') =
        once (file (folded origin) others) fault other place elsewhere
        (subst (λ t. IsRefusal (file (folded origin) t) fault place) (one origin octets generic others form of) refuses) refuses'
