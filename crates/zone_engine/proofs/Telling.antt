-- The lines that people are told: no line has a line feed, and what explains an input.
use Rattle.zone_engine.proofs.Common.{ℕ, List, ◌++◌, arith, codes, refl, IsTrue, decimal, Fault, Place, Stop, argument_of, place_words, records_line, refusal_line, fault_row, stop_line, verdict_line, Verdict, rules, HasNoFeed, has_no_feed, high, none_append, none_decimal, none_name, none_tested, Same, Different, ◌≡◌, ◌-◌, ◌^◌, length, min, subst, Option, IfSome, Refused, IsFailedWrite, Device, Zone, InputDenotes, IfRefused, IsRefusal, WritesLine, WritesPartOfLine, IfSome_then, Input, Octets}
use Rattle.zone_engine.specs.Explain.{accepted, refused, Explains, IsExplanation, StopsExplain}

-- ---- the parts of the line of a refusal

row_name : (fault : Fault) → IsTrue (has_no_feed (fault_row fault).name)
row_name fault = grind arith

row_text : (fault : Fault) → IsTrue (has_no_feed (fault_row fault).text)
row_text fault = grind arith

argument : (fault : Fault) → HasNoFeed (argument_of fault)
argument fault = grind (arith, high, none_decimal, none_name)

numbered : (words : List ℕ) (n : ℕ) → IsTrue (has_no_feed words) → HasNoFeed (words ++ decimal n)
numbered words n tested = none_append words (decimal n) (none_tested words tested) (none_decimal n)

place : (p : Place) → HasNoFeed (place_words p)
place p = grind (arith, numbered, none_append, none_tested, none_decimal)

-- ---- the lines

parts : (a b c d e f g h : List ℕ) → HasNoFeed a → HasNoFeed b → HasNoFeed c → HasNoFeed d → HasNoFeed e → HasNoFeed f → HasNoFeed g → HasNoFeed h → HasNoFeed (a ++ b ++ c ++ d ++ e ++ f ++ g ++ h)
parts a b c d e f g h pa pb pc pd pe pf pg ph = grind (arith, none_append)

refusal : (fault : Fault) (p : Place) → HasNoFeed (refusal_line fault p)
refusal fault p = search (rules, parts, none_tested, none_decimal, row_name, argument, place, row_text)

pub line_of_stop : (stop : Stop) → HasNoFeed (stop_line stop)
line_of_stop stop = grind (arith, refusal, none_tested)

pub line_of_records : (count : ℕ) → HasNoFeed (records_line count)
line_of_records count = numbered (codes "accepted, records: ") count refl

pub line_of_verdict : (verdict : Verdict) → HasNoFeed (verdict_line verdict)
line_of_verdict Same = none_tested (codes "same") refl
line_of_verdict (Different line) = numbered (codes "different at line ") line refl

-- ---- from what an input is to the line that explains it

abbrev Known : Type 0
Known = Option (List ℕ)

module _ (form : Octets → Input) (known : Known) where
  pub on_records : (z : Zone) (count : ℕ) → IfSome known (λ octets. InputDenotes (form octets) z) → count ≡ min (length z.records) (2 ^ 64 - 1) → IsExplanation form known (records_line count) 0
  on_records z count h counted = accepted count (IfSome_then known h (λ octets d. (z, d, counted)))

  pub on_refusal : (stop : Stop) (fault : Fault) (place : Place) → stop ≡ Refused fault place → IfSome known (λ octets. IfRefused stop (IsRefusal (form octets))) → IsExplanation form known (refusal_line fault place) 3
  on_refusal stop fault place is h = refused fault place (subst (λ (s : Stop). IfSome known (λ octets. IfRefused s (IsRefusal (form octets)))) is h)

-- the line was written, or a proper prefix of it
module _ (form : Octets → Input) (reader old new : Device) where
  pub explains : (line text : List ℕ) (status : ℕ) → IsExplanation form reader.octets line status → text ≡ line → WritesLine text old new → Explains form reader old new status
  explains line text status is same wrote = (line, is, subst (λ (t : List ℕ). WritesLine t old new) same wrote)

  pub explains_part : (stop : Stop) (line text : List ℕ) (status : ℕ) → IsFailedWrite old new stop → IsExplanation form reader.octets line status → text ≡ line → WritesPartOfLine text old new → StopsExplain form reader old new stop
  explains_part stop line text status of_writer is same part = grind arith

pub ruleset told_lines = (line_of_stop, line_of_verdict)
