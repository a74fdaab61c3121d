-- The limits on resource records.
use Rattle.std.specs.Prelude.{ℕ}

-- the most octets of a record's data: RDLENGTH is a number of 16 bits (RFC 1035 3.2.1)
abbrev pub longest_data : ℕ
longest_data = 65535

-- the greatest TTL, in seconds: a number of 31 bits (RFC 2181 8)
abbrev pub greatest_ttl : ℕ
greatest_ttl = 2147483647
