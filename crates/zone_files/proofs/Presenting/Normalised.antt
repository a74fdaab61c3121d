-- What is written of sources and the verdict on two of them, by the zones that they denote.
use Rattle.std.proofs.Common.{◌≡◌, ◌↔◌, ℕ, List, refl, sym, ap, ◌∙◌, subst}
use Rattle.std.specs.Prelude.{Option}
use Rattle.std.specs.Io.KnownBytes.{Appends}
use Rattle.zone_set.specs.Zone.{Zone}
use Rattle.zone_print.specs.Canonical.{canon}
use Rattle.zone_engine.specs.Compare.{IsVerdictOnTexts, line_at}
use Rattle.zone_engine.specs.declared.comparison.Verdict.{Verdict}
use Rattle.zone_engine.specs.declared.comparison.Verdict.TheVariants.{Different, Same}
use Rattle.zone_files.specs.Loading.Compare.{ComparesSources}
use Rattle.zone_files.specs.Normalise.{NormalisesSource, NormalisesSourceTo}
use Rattle.zone_files.specs.Presentation.{AreOneZone, IsSource, Source, SourceDenotes}

abbrev pub SameIfOne : Type 0
SameIfOne = (a b : Source) (z w : Zone) → IsSource a → IsSource b → SourceDenotes a z → SourceDenotes b w → (canon z ≡ canon w) ↔ AreOneZone a b

pub texts_if_one : SameIfOne → (a b : Source) (text other : List ℕ) → IsSource a → IsSource b → NormalisesSourceTo a text → NormalisesSourceTo b other → (text ≡ other) ↔ AreOneZone a b
texts_if_one same a b text other is too of_a of_b =
    let one = same a b of_a.zone of_b.zone is too of_a.denotes of_b.denotes in (
      λ texts. one.0 (sym of_a.canonical ∙ texts ∙ of_b.canonical),
      λ zones. of_a.canonical ∙ one.1 zones ∙ sym of_b.canonical,
    )

pub text_written : (source : Source) (old new : Option (List ℕ)) (count : ℕ) → NormalisesSource source old new count → (text : List ℕ) × NormalisesSourceTo source text × Appends old new text
text_written source old new count is = (canon is.zone, record { zone = is.zone; denotes = is.denotes; canonical = refl }, is.written)

verdict_same : (verdict : Verdict) (text other : List ℕ) → IsVerdictOnTexts verdict text other → (verdict ≡ Same) ↔ (text ≡ other)
verdict_same Same text other judged = (λ is. judged, λ same. refl)
verdict_same (Different line) text other judged = (
  λ is. let never : Different line ≡ Same = is in cc,
  λ same. absurd (judged.differs (ap (λ (t : List ℕ). line_at t line) same)),
)

pub same_if_one : SameIfOne → (a b : Source) (verdict : Verdict) → IsSource a → IsSource b → ComparesSources a b verdict → (verdict ≡ Same) ↔ AreOneZone a b
same_if_one same a b verdict is too compares =
    let one = same a b compares.zone compares.other is too compares.denotes compares.other_denotes in
    let judged = verdict_same verdict (canon compares.zone) (canon compares.other) compares.judged in (
      λ v. one.0 (judged.0 v),
      λ zones. judged.1 (one.1 zones),
    )
