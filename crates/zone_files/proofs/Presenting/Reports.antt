-- From the first refusal of a rewriter and a stop of the engine to what is reported of a file.
use Rattle.std.proofs.Common.{◌≡◌, ◌≤◌, ℕ, List, [], ◌∷◌, length, refl, sym, ap, ◌∙◌, subst, arith}
use Rattle.std.specs.Prelude.{Option, Some, None, option_map}
use Rattle.zone_name.specs.Common.{Labels}
use Rattle.zone_name.specs.Name.{folded}
use Rattle.zone_rdata.specs.declared.fault.Fault.{Fault}
use Rattle.zone_rdata.specs.declared.fault.Fault.TheVariants.{BadRdata, UnknownType}
use Rattle.zone_rdata.specs.declared.fault.Place.{Place}
use Rattle.zone_rdata.specs.declared.fault.Place.TheVariants.{Line}
use Rattle.zone_rdata.specs.declared.fault.Stop.{Stop}
use Rattle.zone_rdata.specs.declared.fault.Stop.TheVariants.{Refused, Read, Write, Memory}
use Rattle.zone_print.specs.Canonical.{text_limit}
use Rattle.zone_engine.specs.Input.{file}
use Rattle.zone_engine.specs.Normalise.{IsOfBytes}
use Rattle.zone_engine.specs.Refusal.{IfRefused, IsRefusal}
use Rattle.zone_words.specs.Entry.{IsRewriting}
use Rattle.zone_words.specs.Refusal.{AreInShort, first_of, refused_of}
use Rattle.zone_words.specs.Rewriting as rewriting
use Rattle.zone_words.specs.declared.refusal.Refusal.{Refusal}
use Rattle.zone_words.specs.declared.refusal.Refusals.{Refusals}
use Rattle.zone_files.proofs.Forms.{OneRewriting}
use Rattle.zone_files.specs.Loading.Report.{IsFirstWithoutData, IsReported, of_data, of_file}
use Rattle.zone_files.specs.Machine.Loading.{IsReportOf, of_entry, of_stop}
use Rattle.zone_files.specs.Presentation.{HasGenericForm, RefusesPresentation, in_generic_form}
use Rattle.zone_files.specs.declared.loading.refusal.PresentationRefusal.{PresentationRefusal}

abbrev pub Reported : Labels → List ℕ → PresentationRefusal → Type 0
Reported origin octets refusal = IfRefused refusal.stop (λ fault place. IsReported origin octets fault place (option_map refused_of refusal.entry))

first_in : (told : List rewriting.Refused) (entry : rewriting.Refused) → first_of told ≡ Some entry → (others : List rewriting.Refused) × (told ≡ entry ∷ others)
first_in [] entry is = let never : None ≡ Some entry = is in cc
first_in (it ∷ told) entry is = let same : it ≡ entry = cc in (told, ap (λ e. e ∷ told) same)

held_by : (first : Option Refusal) (entry : rewriting.Refused) → option_map refused_of first ≡ Some entry → (e : Refusal) × (first ≡ Some e) × (refused_of e ≡ entry)
held_by None entry is = let never : None ≡ Some entry = is in cc
held_by (Some e) entry is = let same : refused_of e ≡ entry = cc in (e, refl, same)

module _ (one : OneRewriting) (origin : Labels) (octets generic : List ℕ) (told : List rewriting.Refused) (short : Refusals) (in_short : AreInShort told short) (is : IsRewriting origin octets generic told) (within : length octets ≤ text_limit) where
  refuses : (fault : Fault) (place : Place) → IsRefusal (file (folded origin) generic) fault place → RefusesPresentation origin octets fault place
  refuses fault place refused = in_generic_form generic fault place within (record { refused = told; rewriting = is }) refused

  first_held : (e : Refusal) → short.first ≡ Some e → IsFirstWithoutData origin octets (refused_of e)
  first_held e held =
      let (others, same) = first_in told (refused_of e) (sym in_short.first ∙ ap (option_map refused_of) held) in
      record { generic = generic; others = others; rewriting = subst (IsRewriting origin octets generic) same is }

  held_first : (entry : rewriting.Refused) → IsFirstWithoutData origin octets entry → (e : Refusal) × (short.first ≡ Some e) × (refused_of e ≡ entry)
  held_first entry first =
      held_by short.first entry (in_short.first ∙ ap first_of (one origin octets generic first.generic told (entry ∷ first.others) is first.rewriting).1)

  other_stop : (stop : Stop) → ((entry : Refusal) → short.first ≡ Some entry → stop ≡ Refused UnknownType (Line entry.line) → ⊥) → IfRefused stop (IsRefusal (file (folded origin) generic)) → IfRefused stop (λ fault place. IsReported origin octets fault place None)
  other_stop (Refused fault place) other refused =
      of_file fault place (refuses fault place refused)
      (λ unknown entry first at.
      let (e, held, same) = held_first entry first in
      let line : e.line ≡ entry.line = ap (λ r. r.line) same in
      let place_is : place ≡ Line e.line = at ∙ ap Line (sym line) in
      other e held (ap (λ f. Refused f place) unknown ∙ ap (Refused UnknownType) place_is))
  other_stop Read other refused = tt
  other_stop Write other refused = tt
  other_stop Memory other refused = tt

  pub reported : (stop : Stop) (refusal : PresentationRefusal) → IsReportOf stop short.first refusal → IfRefused stop (IsRefusal (file (folded origin) generic)) → Reported origin octets refusal
  reported stop _ (of_entry entry stopped held) refused =
      of_data (refused_of entry) (first_held entry held)
      (refuses UnknownType (Line entry.line) (subst (λ s. IfRefused s (IsRefusal (file (folded origin) generic))) stopped refused))
  reported stop _ (of_stop other) refused = other_stop stop other refused

pub report_is_of_bytes : (stop : Stop) (first : Option Refusal) (refusal : PresentationRefusal) → IsReportOf stop first refusal → IsOfBytes stop → IsOfBytes refusal.stop
report_is_of_bytes stop first _ (of_entry entry stopped held) is = tt
report_is_of_bytes stop first _ (of_stop other) is = is
