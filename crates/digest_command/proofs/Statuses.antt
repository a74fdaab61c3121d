-- What the status of a run tells of its input.
use Rattle.std.proofs.Common.{◌≡◌, ◌⊎◌, ℕ, List, inl, inr, refl, subst, ⊎_elim}
use Rattle.std.specs.Prelude.{IfSome, None, Option, Some, ⊤}
use Rattle.zone_name.specs.Common.{AtMostOneIs, Labels, NothingIs}
use Rattle.zone_rdata.specs.declared.fault.Fault.{Fault}
use Rattle.zone_rdata.specs.declared.fault.Place.{Place}
use Rattle.zone_rdata.specs.declared.fault.Stop.{Stop}
use Rattle.zone_rdata.specs.declared.fault.Stop.TheVariants.{Memory, Read, Refused, Write}
use Rattle.zone_set.specs.Zone.{Zone}
use Rattle.zone_digest.specs.Verdict.{IsVerified}
use Rattle.zone_print.specs.Canonical.{text_limit}
use Rattle.zone_print.specs.Device.{Device}
use Rattle.zone_engine.specs.Input.{Input, InputDenotes}
use Rattle.zone_engine.specs.Refusal.{IfRefused, IsRefusal, IsRefusalWithin, IsRefused}
use Rattle.zone_engine.specs.Telling.{TellsLine, part, stop_line, stop_status, whole}
use Rattle.digest_command.specs.Run.{Devices, IsAnswer, IsAnswered, IsStopped, Runs, TellsInput, TellsKnown, answering, digest, done, input_for, not_verified, reading, stopped, verified, writing}
use Rattle.digest_command.specs.declared.order.Order.{Order}
use Rattle.digest_command.specs.declared.order.Order.TheVariants.{Digest, Verify}

-- ---- an answer
abbrev pub OfVerify : Order → Type 0 → Type 0
OfVerify (Verify origin) P = P
OfVerify (Digest origin algorithm notation) P = ⊤

abbrev pub HasVerdict : Zone → ℕ → Type 0
HasVerdict z status = (IsVerified z × (status ≡ 0)) ⊎ ((IsVerified z → ⊥) × (status ≡ 1))

verdict_of : (z : Zone) (order : Order) (text : List ℕ) (status : ℕ) → IsAnswer z order text status → OfVerify order (HasVerdict z status)
verdict_of z _ text _ (verified origin t is told) = inl (is, refl)
verdict_of z _ text _ (not_verified origin t never told) = inr (never, refl)
verdict_of z _ text _ (digest origin algorithm notation r wanted) = tt

pub of_verified : (z : Zone) (status : ℕ) → HasVerdict z status → IsVerified z → status ≡ 0
of_verified z status (inl good) is = good.1
of_verified z status (inr bad) is = absurd (bad.0 is)

pub of_unverified : (z : Zone) (status : ℕ) → HasVerdict z status → (IsVerified z → ⊥) → status ≡ 1
of_unverified z status (inl good) never = absurd (never good.0)
of_unverified z status (inr bad) never = bad.1

-- ---- a stop
of_line : (line : List ℕ) (status answer : ℕ) (old new : Device) → TellsLine line status old new answer → (answer ≡ status) ⊎ (answer ≡ 4)
of_line line status _ old new (whole written works) = inl refl
of_line line status _ old new (part written failed) = inr refl

-- a stop is told with 4, but a refusal with 3 or 4
told_by : (input : Input) (stop : Stop) (status : ℕ) (old new : Device) → IfRefused stop (IsRefusal input) → TellsLine (stop_line stop) (stop_status stop) old new status → (status ≡ 4) ⊎ ((status ≡ 3) × IsRefused input)
told_by input (Refused fault place) status old new refusal tells = ⊎_elim (λ three. inr (three, (fault, place, refusal))) inl (of_line _ 3 status old new tells)
told_by input Read status old new refusal tells = ⊎_elim inl inl (of_line _ 4 status old new tells)
told_by input Write status old new refusal tells = ⊎_elim inl inl (of_line _ 4 status old new tells)
told_by input Memory status old new refusal tells = ⊎_elim inl inl (of_line _ 4 status old new tells)

module _ (one : (input : Input) → AtMostOneIs (InputDenotes input)) (never : (input : Input) (fault : Fault) (place : Place) → IsRefusal input fault place → NothingIs (InputDenotes input)) (order : Order) (old new : Devices) where
  module _ (octets : List ℕ) (known : old.input.octets ≡ Some octets) where
    refused_by : (stop : Stop) → IsStopped order old new stop → IfRefused stop (IsRefusal (input_for order octets))
    refused_by _ (reading stop of h left) = subst (λ (k : Option (List ℕ)). IfSome k (λ (o : List ℕ). IfRefused stop (IsRefusalWithin text_limit (input_for order o)))) known h.fault
    refused_by _ (answering accepted end left) = tt
    refused_by _ (writing text status answered end written failed) = tt

    denoted_by : (text : List ℕ) (status : ℕ) (a : IsAnswered order old.input.octets text status) → InputDenotes (input_for order octets) a.zone
    denoted_by text status a = subst (λ (k : Option (List ℕ)). IfSome k (λ (o : List ℕ). InputDenotes (input_for order o) a.zone)) known a.denoted

    -- the verdict that an answer gives is that on the zone that the input denotes
    verdict_on : (text : List ℕ) (status : ℕ) (a : IsAnswered order old.input.octets text status) (origin : Option Labels) (z : Zone) → order ≡ Verify origin → InputDenotes (input_for order octets) z → HasVerdict z status
    verdict_on text status a origin z is denotes =
        let same : a.zone ≡ z = one (input_for order octets) a.zone z (denoted_by text status a) denotes in
        subst (λ (w : Zone). HasVerdict w status) same (subst (λ (o : Order). OfVerify o (HasVerdict a.zone status)) is (verdict_of a.zone order text status a.answer))

    tells : (status : ℕ) → Runs order old new status → (status ≡ 4) ⊎ TellsInput order (input_for order octets) status
    tells _ (done text status a read written works left) = inr (record {
      verified_zone = λ origin z is denotes verified. of_verified z status (verdict_on text status a origin z is denotes) verified;
      other_zone = λ origin z is denotes unverified. of_unverified z status (verdict_on text status a origin z is denotes) unverified;
      refused = λ refused. absurd (never (input_for order octets) refused.0 refused.1 refused.2 a.zone (denoted_by text status a));
    })
    tells _ (stopped stop status is told) = ⊎_elim inl (λ three. inr (refused_tells three.0 three.1)) (told_by (input_for order octets) stop status old.errors new.errors (refused_by stop is) told)
      where
        refused_tells : status ≡ 3 → IsRefused (input_for order octets) → TellsInput order (input_for order octets) status
        refused_tells three refusal = record {
          verified_zone = λ origin z is denotes verified. absurd (never (input_for order octets) refusal.0 refusal.1 refusal.2 z denotes);
          other_zone = λ origin z is denotes unverified. absurd (never (input_for order octets) refusal.0 refusal.1 refusal.2 z denotes);
          refused = λ again. three;
        }

  pub tells_known : (status : ℕ) → Runs order old new status → TellsKnown order old.input.octets status
  tells_known status run = by old.input.octets refl
    where
      by : (k : Option (List ℕ)) → old.input.octets ≡ k → TellsKnown order k status
      by None is = tt
      by (Some octets) is = tells octets is status run
