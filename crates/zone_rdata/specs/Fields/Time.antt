-- A field that is a number of seconds of 32 bits, written in digits or as a time (RFC 1035 3.3.13).
use Rattle.std.specs.Prelude.{ℕ, List}
use Rattle.std.specs.Int.{w32}
use Rattle.zone_rdata.specs.Fields.Number.{IsNumber}
use Rattle.zone_rdata.specs.Number.{IsTime}

abbrev pub SpellsTime : List ℕ → ℕ → Type 0
SpellsTime text n = IsTime text n × IsNumber w32 n
