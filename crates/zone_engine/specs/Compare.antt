-- What comparing two inputs answers: that their canonical texts are equal, or the first line at
-- which they differ (this project's own).
use Rattle.std.specs.Prelude.{◌≡◌, ◌≢◌, ℕ, zero, suc, ◌<◌, ◌≤◌, ◌==◌, if◌then◌else◌, List, [], ◌∷◌, slice_get, Option, None, IfSome}
use Rattle.std.specs.List.{onto_first}
use Rattle.zone_rdata.specs.declared.fault.Stop.{Stop}
use Rattle.zone_set.specs.Zone.{Zone}
use Rattle.zone_print.specs.Canonical.{canon, text_limit}
use Rattle.zone_print.specs.Device.{Device, IsLeft}
use Rattle.zone_engine.specs.Input.{Input, InputDenotes}
use Rattle.zone_engine.specs.Normalise.{IsOfBytes, IsOfReading}
use Rattle.zone_engine.specs.Reading.{ReadsToEnd, StopsReading}
use Rattle.zone_engine.specs.Refusal.{IfRefused, IsRefusal}
use Rattle.zone_engine.specs.declared.comparison.Verdict.{Verdict}
use Rattle.zone_engine.specs.declared.comparison.Verdict.TheVariants.{Same, Different}
use Rattle.zone_engine.specs.declared.comparison.Which.{Which}
use Rattle.zone_engine.specs.declared.comparison.Which.TheVariants.{First, Second}

-- the lines of a text, each with the line feed that ends it; octets after the last line feed are a
-- line too
abbrev pub lines_of : List ℕ → List (List ℕ)
lines_of [] = []
lines_of (c ∷ text) = if c == 10 then (c ∷ []) ∷ lines_of text else onto_first c (lines_of text)

-- the line of this number, from 1; there is none after the last
abbrev pub line_at : List ℕ → ℕ → Option (List ℕ)
line_at text zero = None
line_at text (suc n) = slice_get (lines_of text) n

-- n is the number of the first line, from 1, at which the texts differ: a line differs from none
pub record DifferFirstAt (n : ℕ) (text other : List ℕ) : Type 0 where
  pub from_one : 1 ≤ n
  pub equal : (m : ℕ) → m < n → line_at text m ≡ line_at other m
  pub differs : line_at text n ≢ line_at other n

-- the verdict on two texts
abbrev pub IsVerdictOnTexts : Verdict → List ℕ → List ℕ → Type 0
IsVerdictOnTexts Same text other = text ≡ other
IsVerdictOnTexts (Different line) text other = DifferFirstAt line text other

-- both inputs denote a zone, and this is the verdict on their canonical texts
pub record Compares (first second : Input) (verdict : Verdict) : Type 0 where
  pub zone : Zone
  pub denotes : InputDenotes first zone
  pub other : Zone
  pub other_denotes : InputDenotes second other
  pub judged : IsVerdictOnTexts verdict (canon zone) (canon other)

-- known octets denote a zone
abbrev pub IsAccepted : (List ℕ → Input) → Option (List ℕ) → Type 0
IsAccepted form known = IfSome known (λ octets. (z : Zone) × InputDenotes (form octets) z)

-- Which input stopped a comparison, and by what. The first did, and the second was left as it was;
-- or the second did, and the first is accepted and was read to its end.
pub data StopsCompare (form other_form : List ℕ → Input)
    (first first' second second' : Device) : Which → Stop → Type 0 where
  by_first : (stop : Stop) → IsOfReading stop → StopsReading text_limit form first first' stop
      → IsLeft second second'
      → StopsCompare form other_form first first' second second' First stop
  by_second : (stop : Stop) → IsOfReading stop → IsAccepted form first.octets
      → ReadsToEnd text_limit first first'
      → StopsReading text_limit other_form second second' stop
      → StopsCompare form other_form first first' second second' Second stop

-- The same of two inputs whose octets are in memory: no read and no write fails.
pub data StopsCompareBytes (first second : Input) : Which → Stop → Type 0 where
  by_first_bytes : (stop : Stop) → IsOfBytes stop → IfRefused stop (IsRefusal first)
      → StopsCompareBytes first second First stop
  by_second_bytes : (stop : Stop) → IsOfBytes stop → (z : Zone) → InputDenotes first z
      → IfRefused stop (IsRefusal second) → StopsCompareBytes first second Second stop
