-- Numbers by which records are told apart: equal records have equal ones.
use Rattle.std.specs.Prelude.{◌≡◌, ℕ, zero, suc, ◌-◌, ◌*◌, ◌/◌, ◌%◌, ◌^◌, nat_lt, List, length, take, drop, slice_index, if◌then◌else◌}
use Rattle.std.specs.Int.{bit_at, from_le_bytes, w64}
use Rattle.std.specs.Int.RustNames.{bit_xor}
use Rattle.zone_set.specs.declared.distinct.Look.{Look}
use Rattle.zone_set.specs.declared.distinct.Look.TheVariants.{Quick, Whole}
use Rattle.zone_set.specs.declared.distinct.Seen.{Seen}

-- a number in which the bits of two are mixed
abbrev pub mixed : ℕ → ℕ → ℕ
mixed a b = (bit_xor (bit_xor a b) (a / 2 ^ 29)) * 11400714819323198485 % 2 ^ 64

-- the last eight octets, or 0 where there are fewer
abbrev pub last_eight : List ℕ → ℕ
last_eight octets =
    if nat_lt (length octets) 8 then 0 else from_le_bytes w64 (drop (length octets - 8) octets)

-- n times eight octets are mixed with a number, one after another
abbrev pub mixed_with : ℕ → ℕ → List ℕ → ℕ
mixed_with zero digest octets = digest
mixed_with (suc n) digest octets =
    mixed_with n (mixed digest (from_le_bytes w64 (take 8 octets))) (drop 8 octets)

abbrev pub digest : ℕ → List ℕ → ℕ
digest seed octets =
    mixed (mixed_with (length octets / 8) (mixed seed (length octets)) octets) (last_eight octets)

-- the number of a record with a hint that octets keep
abbrev pub number_of : Look → ℕ → List ℕ → ℕ
number_of Quick hint octets = mixed hint (last_eight octets)
number_of Whole hint octets = digest 0 octets

-- the bit of a number is set
abbrev pub IsSeen : Seen → ℕ → Type 0
IsSeen seen number =
    bit_at (slice_index seen.bits.items (number / 2 ^ (seen.shift % 64) / 64))
    (number / 2 ^ (seen.shift % 64) % 64)
    ≡ 1
