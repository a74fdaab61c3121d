-- From the zones of two sources to the verdict on them.
use Rattle.std.proofs.Common.{◌≡◌, ℕ, List, arith}
use Rattle.std.specs.Prelude.{Option, IfSome}
use Rattle.zone_set.specs.Zone.{Zone}
use Rattle.zone_print.specs.Canonical.{canon}
use Rattle.zone_engine.specs.Compare.{IsVerdictOnTexts}
use Rattle.zone_engine.specs.declared.comparison.Verdict.{Verdict}
use Rattle.zone_files.specs.Loading.Compare.{ComparesSources, IsAcceptedSource}
use Rattle.zone_files.specs.Presentation.{Source, SourceDenotes}

pub compares_zones : (form form' : List ℕ → Source) (known known' : Option (List ℕ)) (z w : Zone) (verdict : Verdict) → IfSome known (λ octets. SourceDenotes (form octets) z) → IfSome known' (λ octets. SourceDenotes (form' octets) w) → IsVerdictOnTexts verdict (canon z) (canon w) → IfSome known (λ octets. IfSome known' (λ others. ComparesSources (form octets) (form' others) verdict))
compares_zones form form' known known' z w verdict denotes denotes' judged = grind arith

pub is_accepted : (form : List ℕ → Source) (known : Option (List ℕ)) (z : Zone) → IfSome known (λ octets. SourceDenotes (form octets) z) → IsAcceptedSource form known
is_accepted form known z denotes = grind arith
