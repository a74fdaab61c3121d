use Rattle.std.proofs.Common.{◌-◌, ◌^◌}
use Rattle.zone_difference.specs.Lacked.{left_in}
use Rattle.zonenorm_c.proofs.Listing.{IsListing}
use Rattle.zonenorm_c.proofs.differing.list_of.Given as goal

-- with those to come the text and the count are those of all records
abbrev pub invariant-walk : goal.invariant-walk
invariant-walk l = IsListing (2 ^ 64 - 1) l.fn.case l.form l.zone.records l.other.records l.lacking l.text.items l.count

abbrev pub decreases-walk : goal.decreases-walk
decreases-walk l = left_in l.lacking
