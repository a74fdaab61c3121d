-- A field that is a number of 16 or of 32 bits, written in decimal digits (RFC 1035 3.3.9, 3.3.13).
use Rattle.std.specs.Prelude.{ℕ, ◌^◌, ◌<◌, List, take}
use Rattle.std.specs.Int.{Width, byte_len, from_be_bytes}
use Rattle.zone_rdata.specs.Number.{IsDecimal}

-- the number has its place in so many octets
abbrev pub IsNumber : Width → ℕ → Type 0
IsNumber w n = n < 256 ^ byte_len w

-- the number at the beginning of octets, the highest octet first
abbrev pub number_at : Width → List ℕ → ℕ
number_at w octets = from_be_bytes w (take (byte_len w) octets)

abbrev pub SpellsNumber : Width → List ℕ → ℕ → Type 0
SpellsNumber w text n = IsDecimal text n × IsNumber w n
