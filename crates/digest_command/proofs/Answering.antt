-- From findings and records to what an order is answered.
use Rattle.std.proofs.Common.{◌<◌, ◌^◌, ◌≡◌, ◌⊎◌, ◌∙◌, ◌∷◌, ◌++◌, [], ℕ, List, ap, append_assoc, ap₂, codes, decimal, drop, inl, inr, subst, sym}
use Rattle.std.proofs.lemmas.Nat.{from_be_bytes-to_be_bytes_4}
use Rattle.std.specs.Int.{to_be_bytes, w32}
use Rattle.std.specs.Result.{is_ok}
use Rattle.std.specs.Prelude.{if◌then◌else◌, Err, IfErr, IfOk, IfSome, None, Ok, OnOk, Option, Result, Some, ◌↔◌}
use Rattle.hex.specs.Hex.{encode_lower}
use Rattle.zone_name.specs.Common.{Labels}
use Rattle.zone_name.specs.Text.{name_text}
use Rattle.zone_rdata.specs.Record.{Record}
use Rattle.zone_rdata.specs.Words.{class_text}
use Rattle.zone_rdata.specs.declared.fault.Stop.{Stop}
use Rattle.zone_rdata.specs.declared.fault.Stop.TheVariants.{Memory, Read, Refused, Write}
use Rattle.zone_set.specs.Zone.{Zone}
use Rattle.zone_digest.specs.Findings.{AreFindings}
use Rattle.zone_digest.specs.Laws.{TellsVerified}
use Rattle.zone_digest.specs.Verdict.{IsSerial, IsVerified}
use Rattle.zone_digest.specs.declared.verdict.Finding.{Finding}
use Rattle.zone_print.specs.Canonical.{text_limit}
use Rattle.zone_print.specs.Device.{Device, IsLeft}
use Rattle.zone_print.specs.Writing.{AppendsPart, IsFailedWrite}
use Rattle.zone_engine.specs.Compare.{IsAccepted}
use Rattle.zone_engine.specs.Form.{read_as_with}
use Rattle.zone_engine.specs.Input.{Input, InputDenotes}
use Rattle.zone_engine.specs.Normalise.{IsOfReading}
use Rattle.zone_engine.specs.Reading.{ReadsFew, ReadsToEnd, StopsReading}
use Rattle.digest_command.specs.Lines.{fields_text, findings_text, words_line}
use Rattle.digest_command.specs.Machine.Answering.{StopsAnswer, unread, untold}
use Rattle.digest_command.specs.Run.{Devices, IsAnswer, IsAnswered, IsStopped, TellsFindings, answering, input_for, not_verified, origin_of, reading, verified, writing}
use Rattle.digest_command.specs.declared.order.Order.{Order}
use Rattle.digest_command.specs.declared.order.Order.TheVariants.{Verify}

-- the status of findings, as a run has it
abbrev pub HasStatus : List Finding → ℕ → Type 0
HasStatus findings status = (TellsVerified findings × (status ≡ 0)) ⊎ ((TellsVerified findings → ⊥) × (status ≡ 1))

module _ (z : Zone) (serial : ℕ) (findings : List Finding) (text : List ℕ) (short : serial < 2 ^ 32) (is_serial : IsSerial z (to_be_bytes w32 serial)) (are : AreFindings z findings) (is : text ≡ findings_text serial findings) (tells : TellsVerified findings ↔ IsVerified z) where
  told_of : TellsFindings z text
  told_of = record { serial = to_be_bytes w32 serial; is_serial = is_serial; findings = findings; are_findings = are; is_text = is ∙ ap (λ n. findings_text n findings) (sym (from_be_bytes-to_be_bytes_4 serial short)) }

  pub told : (status : ℕ) → HasStatus findings status → (origin : Option Labels) → IsAnswer z (Verify origin) text status
  told status (inl good) origin = subst (IsAnswer z (Verify origin) text) (sym good.1) (verified origin text (tells.0 good.0) told_of)
  told status (inr bad) origin = subst (IsAnswer z (Verify origin) text) (sym bad.1) (not_verified origin text (λ v. bad.0 (tells.1 v)) told_of)

-- ---- a record in words, written piece by piece
written : (a b c d e f : List ℕ) → a ++ b ++ (c ++ d) ++ e ++ f ≡ a ++ (b ++ (c ++ (d ++ (e ++ f))))
written a b c d e f = simp append_assoc

parted : (a b c d e f g h : List ℕ) → a ++ (b ++ c ++ d ++ e ++ f ++ g ++ h) ≡ a ++ (b ++ (c ++ (d ++ (e ++ (f ++ (g ++ h))))))
parted a b c d e f g h = simp append_assoc

behind : (a b c d : List ℕ) → a ++ b ++ c ++ d ≡ a ++ (b ++ (c ++ d))
behind a b c d = simp append_assoc

pub parts_of_line : (line name ttl class word fields digest : List ℕ) → line ++ name ++ (32 ∷ ttl ++ 32 ∷ []) ++ class ++ (word ++ fields ++ 32 ∷ digest ++ 10 ∷ []) ≡ line ++ (name ++ 32 ∷ ttl ++ 32 ∷ class ++ word ++ fields ++ 32 ∷ digest ++ 10 ∷ [])
parts_of_line line name ttl class word fields digest =
    written line name (32 ∷ ttl) (32 ∷ []) class (word ++ fields ++ 32 ∷ digest ++ 10 ∷ [])
    ∙ ap (λ rest. line ++ (name ++ (32 ∷ (ttl ++ (32 ∷ (class ++ rest)))))) (behind word fields (32 ∷ digest) (10 ∷ []))
    ∙ sym (parted line name (32 ∷ ttl) (32 ∷ class) word fields (32 ∷ digest) (10 ∷ []))

pub whole_line : (old named ttl numbered classed rest new : List ℕ) (r : Record) → named ≡ old ++ name_text r.owner → ttl ≡ 32 ∷ decimal r.ttl ++ 32 ∷ [] → numbered ≡ named ++ ttl → classed ≡ numbered ++ class_text r.class
    → rest ≡ codes " ZONEMD " ++ fields_text r.octets ++ 32 ∷ encode_lower (drop 6 r.octets) ++ 10 ∷ [] → new ≡ classed ++ rest → new ≡ old ++ words_line r
whole_line old named ttl numbered classed rest new r by_name by_ttl by_number by_class by_rest by_all =
    by_all ∙ ap₂ (λ (x y : List ℕ). x ++ y) (by_class ∙ ap (λ x. x ++ class_text r.class) (by_number ∙ ap₂ (λ (x y : List ℕ). x ++ y) by_name by_ttl)) by_rest
    ∙ parts_of_line old (name_text r.owner) (decimal r.ttl) (class_text r.class) (codes " ZONEMD ") (fields_text r.octets) (encode_lower (drop 6 r.octets))

-- octets that were appended where there was room for them
pub if_taken : {X Y : Type 0} (r : Result X Y) (new all some : List ℕ) (P : Type 0) → new ≡ (if is_ok r then all else some) → (new ≡ all → P) → OnOk r P
if_taken (Ok x) new all some P is on = on is
if_taken (Err y) new all some P is on = tt

pub if_ok : {X Y : Type 0} (r : Result X Y) (P Q : X → Type 0) → ((x : X) → P x → Q x) → IfOk r P → IfOk r Q
if_ok (Ok x) P Q on h = on x h
if_ok (Err y) P Q on h = tt

pub if_err : {X Y : Type 0} (r : Result X Y) (P Q : Y → Type 0) → ((y : Y) → P y → Q y) → IfErr r P → IfErr r Q
if_err (Ok x) P Q on h = tt
if_err (Err y) P Q on h = on y h

-- ---- what was read, and what is answered to it
module _ (order : Order) (form : List ℕ → Input) (is : form ≡ read_as_with (origin_of order)) where
  pub not_read : (old new : Device) (stop : Stop) → IsOfReading stop → StopsReading text_limit form old new stop → StopsAnswer (input_for order) old new stop
  not_read old new stop of h = unread stop of (subst (λ (f : List ℕ → Input). StopsReading text_limit f old new stop) is h)

  pub answered_by : (known : Option (List ℕ)) (z : Zone) (text : List ℕ) (status : ℕ) → IfSome known (λ octets. InputDenotes (form octets) z) → IsAnswer z order text status → IsAnswered order known text status
  answered_by known z text status denotes answer = record { zone = z; denoted = subst (λ (f : List ℕ → Input). IfSome known (λ octets. InputDenotes (f octets) z)) is denotes; answer = answer }

  pub not_told : (old new : Device) (z : Zone) (stop : Stop) → IfSome old.octets (λ octets. InputDenotes (form octets) z) → ReadsToEnd text_limit old new → stop ≡ Memory → StopsAnswer (input_for order) old new stop
  not_told old new z stop denotes end out = subst (StopsAnswer (input_for order) old new) (sym out) (untold (accepted old.octets (subst (λ (f : List ℕ → Input). IfSome old.octets (λ octets. InputDenotes (f octets) z)) is denotes)) end)
    where
      accepted : (known : Option (List ℕ)) → IfSome known (λ octets. InputDenotes (input_for order octets) z) → IsAccepted (input_for order) known
      accepted None h = tt
      accepted (Some octets) h = (z, h)

-- ---- what a run leaves
module _ (order : Order) (old new : Devices) where
  pub stopped_by : (stop : Stop) → StopsAnswer (input_for order) old.input new.input stop → IsLeft old.output new.output → IsStopped order old new stop
  stopped_by _ (unread stop of h) left = reading stop of h left
  stopped_by _ (untold accepted end) left = answering accepted end left

  pub not_written : (stop : Stop) (text : List ℕ) (status : ℕ) → IsAnswered order old.input.octets text status → ReadsToEnd text_limit old.input new.input → AppendsPart old.output.octets new.output.octets text → IsFailedWrite old.output new.output stop → IsStopped order old new stop
  not_written (Refused fault place) text status answered end part failed = absurd failed
  not_written Read text status answered end part failed = absurd failed
  not_written Write text status answered end part failed = writing text status answered end part failed
  not_written Memory text status answered end part failed = absurd failed

pub few_read : (form : List ℕ → Input) (old new : Device) (stop : Stop) → StopsAnswer form old new stop → ReadsFew old new
few_read form old new _ (unread stop of h) = h.few
few_read form old new _ (untold accepted end) = end.few
