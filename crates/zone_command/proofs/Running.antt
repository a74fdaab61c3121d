-- From what an order's call answers, and what is told of it, to what a run leaves.
use Rattle.zone_command.proofs.Common.{◌≡◌, ◌++◌, ℕ, List, [], sym, subst, Option, IfSome, Stop, Write, text_limit, Compares, StopsCompare, Answers, answered, outputs, unanswered, Normalises, ReadsToEnd, ReadsWhole, StopsReading, read_as_with, AreCompared, Device, Devices, IsLeft, WorksOn, Runs, StopsNormalise, TellsLine, TellsRead, stop_line, stop_status, verdict_line, verdict_status, which_words, Verdict, arith, Input, Octets}
use Rattle.std.specs.Prelude.{None, Some}
use Rattle.std.specs.Io.KnownBytes.{Consumes, Keeps}
use Rattle.zone_engine.specs.Compare.{by_first, by_second}
use Rattle.zone_engine.specs.Explain.{Explains, StopsExplain}
use Rattle.zone_engine.specs.Reading.{ReadsFew}
use Rattle.zone_command.specs.Run as runs
use Rattle.zone_engine.specs.declared.comparison.Which.{Which}
use Rattle.zone_command.specs.declared.order.Order.TheVariants.{Normalise, Explain, Compare}
use Rattle.zone_command.specs.declared.order.Source.{Source}

-- ---- what stopped a run is told

-- octets of the form are an input with the origin
module _ (origin : Option (List (List ℕ))) (form : Octets → Input) (is : form ≡ read_as_with origin) (old new : Devices) where
  pub normalises : (count : ℕ) → IfSome old.first.octets (λ octets. Normalises (form octets) old.output.octets new.output.octets count) → ReadsToEnd text_limit old.first new.first → WorksOn old.output new.output → IsLeft old.second new.second → IsLeft old.errors new.errors → Runs (Normalise origin) old new 0
  normalises count h read works second errors =
      runs.done 0 (runs.normalised origin count (subst (λ (f : Octets → Input). IfSome old.first.octets (λ octets. Normalises (f octets) old.output.octets new.output.octets count)) is h) read second works) errors

  pub normalise_stopped : (stop : Stop) (answer : ℕ) → StopsNormalise form old.first old.output new.output stop → StopsReading text_limit form old.first new.first stop → IsLeft old.second new.second → TellsLine (stop_line stop) (stop_status stop) old.errors new.errors answer → Runs (Normalise origin) old new answer
  normalise_stopped stop answer h read second report =
      runs.stopped [] stop answer
      (runs.normalising origin stop (subst (λ (f : Octets → Input). StopsNormalise f old.first old.output new.output stop) is h) (subst (λ (f : Octets → Input). StopsReading text_limit f old.first new.first stop) is read) second) report

  pub explains_input : (status : ℕ) → Explains form old.first old.output new.output status → ReadsWhole text_limit old.first new.first → WorksOn old.first new.first × WorksOn old.output new.output → IsLeft old.second new.second → IsLeft old.errors new.errors → Runs (Explain origin) old new status
  explains_input status h whole works second errors =
      runs.done status (runs.explained origin status (subst (λ (f : Octets → Input). Explains f old.first old.output new.output status) is h) whole works.0 second works.1) errors

  pub explain_stopped : (stop : Stop) (answer : ℕ) → StopsExplain form old.first old.output new.output stop → TellsRead old.first new.first stop → IsLeft old.second new.second → TellsLine (stop_line stop) (stop_status stop) old.errors new.errors answer → Runs (Explain origin) old new answer
  explain_stopped stop answer h tells_read second report =
      runs.stopped [] stop answer (runs.explaining origin stop (subst (λ (f : Octets → Input). StopsExplain f old.first old.output new.output stop) is h) tells_read second) report

module _ (one other : Source) (form other_form : Octets → Input) (is : form ≡ read_as_with one.origin) (other_is : other_form ≡ read_as_with other.origin) (old new : Devices) where
  judged : (verdict : Verdict) (answer : ℕ) → AreCompared one other old new verdict → Answers (verdict_line verdict) (verdict_status verdict) (outputs old.output new.output old.errors new.errors) answer → Runs (Compare one other) old new answer
  judged verdict _ are (answered line works errors) = runs.done _ (runs.compared one other verdict are line works) errors
  judged verdict _ are (unanswered answer part failed line) = runs.stopped [] Write answer (runs.telling one other verdict are part failed) line

  pub compares : (verdict : Verdict) (answer : ℕ) → IfSome old.first.octets (λ octets. IfSome old.second.octets (λ others. Compares (form octets) (other_form others) verdict)) → ReadsToEnd text_limit old.first new.first × ReadsToEnd text_limit old.second new.second → Answers (verdict_line verdict) (verdict_status verdict) (outputs old.output new.output old.errors new.errors) answer → Runs (Compare one other) old new answer
  compares verdict answer h read line = grind (arith, judged)

  pub compare_stopped : (which : Which) (stop : Stop) (answer : ℕ) (words : List ℕ) → StopsCompare form other_form old.first new.first old.second new.second which stop → IsLeft old.output new.output → words ≡ which_words which → TellsLine (words ++ stop_line stop) (stop_status stop) old.errors new.errors answer → Runs (Compare one other) old new answer
  compare_stopped which stop answer words h output named report =
      runs.stopped (which_words which) stop answer
      (runs.comparing one other which stop
      (subst (λ (f : Octets → Input). StopsCompare f (read_as_with other.origin) old.first new.first old.second new.second which stop) is
      (subst (λ (f : Octets → Input). StopsCompare form f old.first new.first old.second new.second which stop) other_is h)) output)
      (subst (λ (w : List ℕ). TellsLine (w ++ stop_line stop) (stop_status stop) old.errors new.errors answer) named report)

-- ---- how much of two inputs a comparison reads that stops

-- what was left as it was lost no octet
pub left_few : (old new : Device) → IsLeft old new → ReadsFew old new
left_few old new left = ([], omega arith, kept old.octets new.octets left.0)
  where
    kept : (known known' : Option (List ℕ)) → Keeps known known' → Consumes known known' []
    kept None known' h = tt
    kept (Some octets) None h = absurd h
    kept (Some octets) (Some octets') h = sym h

module _ (form other_form : Octets → Input) (first first' second second' : Device) where
  pub few_of_first : (which : Which) (stop : Stop) → StopsCompare form other_form first first' second second' which stop → ReadsFew first first'
  few_of_first _ _ (by_first stop is read left) = read.few
  few_of_first _ _ (by_second stop is accepted end read) = end.few

  pub few_of_second : (which : Which) (stop : Stop) → StopsCompare form other_form first first' second second' which stop → ReadsFew second second'
  few_of_second _ _ (by_first stop is read left) = left_few second second' left
  few_of_second _ _ (by_second stop is accepted end read) = read.few
