-- The octets that records take in messages where no name is compressed (RFC 1035 3.2.1).
use Rattle.std.specs.Prelude.{◌+◌, ℕ, List, length}
use Rattle.std.specs.List.{sum_by}
use Rattle.zone_name.specs.Name.{wire}
use Rattle.zone_rdata.specs.Record.{Record}

-- owner, type, class, TTL, the length of the data, and the data
abbrev pub message_len : Record → ℕ
message_len r = length (wire r.owner) + 10 + length r.octets

abbrev pub message_octets : List Record → ℕ
message_octets records = sum_by message_len records
