-- The order of record data: by class and type, which is this project's choice, and within a set by
-- canonical octets (RFC 4034 6.3).
use Rattle.std.specs.Ordering.{nat_cmp, on, then_cmp}
use Rattle.std.specs.declared.cmp.Ordering.{Ordering}
use Rattle.std.specs.Cmp.Lexicographic.{slice_cmp}
use Rattle.zone_rdata.specs.Record.{Data}

-- by class, by type number, then by canonical octets as unsigned strings, a missing octet first
abbrev pub data_cmp : Data → Data → Ordering
data_cmp =
    then_cmp (on (λ d. d.class) nat_cmp)
    (then_cmp (on (λ d. d.kind) nat_cmp) (on (λ d. d.octets) (slice_cmp nat_cmp)))
