-- The order of names (RFC 4034 6.1).
use Rattle.std.specs.Prelude.{ℕ, List, reverse}
use Rattle.std.specs.Ordering.{nat_cmp, on}
use Rattle.std.specs.declared.cmp.Ordering.{Ordering}
use Rattle.std.specs.Cmp.Lexicographic.{slice_cmp}
use Rattle.zone_name.specs.Common.{Labels}

-- labels as unsigned octet strings, a missing octet before octet 0
abbrev pub label_cmp : List ℕ → List ℕ → Ordering
label_cmp = slice_cmp nat_cmp

-- labels compared from the rightmost, a missing label before any label
abbrev pub name_cmp : Labels → Labels → Ordering
name_cmp = on reverse (slice_cmp label_cmp)
