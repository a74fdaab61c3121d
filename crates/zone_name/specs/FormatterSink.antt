-- What a formatter takes as a sink.
use Rattle.std.specs.Prelude.{◌≡◌, ℕ, List, Bool, false}
use Rattle.std.specs.Fmt.{HasWritten, IsPlainFormatter}
use Rattle.std.specs.declared.fmt.Formatter.{Formatter}
use Rattle.zone_name.specs.declared.formatter_sink.FormatterSink.{FormatterSink}

-- the formatter, as far as it was written to
abbrev pub formatter_of : {W : Type 0} → FormatterSink W → Formatter W
formatter_of sink = sink.formatter.now

-- octets were refused
abbrev pub has_failed : {W : Type 0} → FormatterSink W → Bool
has_failed sink = sink.failed

-- the sink writes to the same formatter, and unless octets were refused it wrote these
pub record Formats {W : Type 0} (writes : W → List ℕ → W → Type 0)
    (old : FormatterSink W) (octets : List ℕ) (new : FormatterSink W) : Type 0 where
  pub same : new.formatter.ghost_name ≡ old.formatter.ghost_name
  pub before : has_failed new ≡ false → has_failed old ≡ false
  pub wrote : has_failed new ≡ false → IsPlainFormatter (formatter_of old)
      → HasWritten writes (formatter_of old) octets (formatter_of new)
