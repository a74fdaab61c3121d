use Rattle.std.proofs.Common.{◌≡◌, refl, sym, ap, ◌∙◌}
use Rattle.std.specs.Prelude.{Some, None}
use Rattle.std.proofs.lemmas.Bool.{false≢true}
use Rattle.zone_rdata.specs.declared.fault.Fault.TheVariants.{UnknownType}
use Rattle.zone_rdata.specs.declared.fault.Place.TheVariants.{Line}
use Rattle.zone_rdata.specs.declared.fault.Stop.TheVariants.{Refused}
use Rattle.zone_words.specs.declared.refusal.Refusal.{Refusal}
use Rattle.zone_files.specs.Machine.Loading.{of_entry, of_stop}
use Rattle.zone_files.proofs.loading.refusal.PresentationRefusal.of_first.Goals as goal

pub returns-then-is_unknown_type_on : goal.returns-then-is_unknown_type_on
returns-then-is_unknown_type_on c = of_entry c.in-Some.entry (c.if-is_unknown_type_on.ensures.0 refl) c.in-Some.is

pub returns-else-is_unknown_type_on : goal.returns-else-is_unknown_type_on
returns-else-is_unknown_type_on c =
    of_stop (λ entry held stopped.
    let same : c.in-Some.entry ≡ entry = cc in
    false≢true (c.if-is_unknown_type_on.ensures.1 (stopped ∙ ap (λ (e : Refusal). Refused UnknownType (Line e.line)) (sym same))))

pub returns-in-None : goal.returns-in-None
returns-in-None c = of_stop (λ entry held stopped. let never : None ≡ Some entry = sym c.in-None.is ∙ held in cc)
