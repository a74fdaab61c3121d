-- Where a walk over octets leaves the entry that they begin.
use Rattle.std.specs.Prelude.{◌≡◌, ℕ, List, [], false, length}
use Rattle.zone_rdata.specs.declared.fault.Fault.TheVariants.{BadEscape, UnbalancedParenthesis}
use Rattle.zone_text.specs.FirstEntry.{IsBrokenOff}
use Rattle.zone_text.specs.Machine.Walk.{EndsEntry, StandsOpen}
use Rattle.zone_text.specs.declared.open_entry.EntryState.{EntryState}
use Rattle.zone_text.specs.declared.open_entry.EntryState.TheVariants.{Open, Ended, Broken}
use Rattle.zone_text.specs.declared.walk.Reached.{Reached}
use Rattle.zone_text.specs.declared.walk.Reached.TheVariants as reached

abbrev pub state_of : Reached → EntryState
state_of (reached.Open at) = Open
state_of (reached.Ends n feeds) = Ended
state_of (reached.LostEscape n) = Broken BadEscape
state_of (reached.ClosesNothing n) = Broken UnbalancedParenthesis

-- how many of the octets walked over are the entry's, of so many
abbrev pub len_of : Reached → ℕ → ℕ
len_of (reached.Open at) all = all
len_of (reached.Ends n feeds) all = n
len_of (reached.LostEscape n) all = n
len_of (reached.ClosesNothing n) all = n

-- the octets lead there, and where they end an entry none follow
abbrev pub IsHeld : List ℕ → Reached → Type 0
IsHeld octets (reached.Open at) = StandsOpen octets at false []
IsHeld octets (reached.Ends n feeds) = EndsEntry octets n feeds false [] × (n ≡ length octets)
IsHeld octets (reached.LostEscape n) = IsBrokenOff octets BadEscape
IsHeld octets (reached.ClosesNothing n) = IsBrokenOff octets UnbalancedParenthesis
