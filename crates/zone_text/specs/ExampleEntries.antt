-- Files on which the records and faults of entries are computed (RFC 1035 5.1).
use Rattle.std.specs.Prelude.{ℕ, List, [], ◌∷◌, ◌++◌, codes, Some}
use Rattle.zone_name.specs.Common.{Labels}
use Rattle.zone_name.specs.Name.{wire}
use Rattle.zone_rdata.specs.Record.{Record}
use Rattle.zone_rdata.specs.declared.fault.Fault.{Fault}
use Rattle.zone_rdata.specs.declared.fault.Place.TheVariants.{Line}
use Rattle.zone_rdata.specs.declared.record.Placed.{Placed}
use Rattle.zone_text.specs.FileReads.{FileReads, Ending}

-- the origin `x.`, and the name of one letter under a name
abbrev pub x : Labels
x = codes "x" ∷ []

abbrev pub under : ℕ → Labels → Labels
under letter name = (letter ∷ []) ∷ name

-- an NS record of the name server `n.x.`
abbrev pub ns : Labels → ℕ → ℕ → Record
ns owner class ttl =
    record { owner = owner; class = class; kind = 2; ttl = ttl; octets = wire (under 110 x) }

-- a small number in 32 bits
abbrev pub long : ℕ → List ℕ
long n = 0 ∷ 0 ∷ 0 ∷ n ∷ []

-- the SOA of `x.` with the names `n.x.` and `h.x.` and the numbers 1, 2, 3, 4 and a MINIMUM of 5
-- (RFC 1035 3.3.13)
abbrev pub soa : ℕ → Record
soa ttl =
    record {
      owner = x;
      class = 1;
      kind = 6;
      ttl = ttl;
      octets = wire (under 110 x) ++ wire (under 104 x) ++ long 1 ++ long 2 ++ long 3 ++ long 4
          ++ long 5;
    }

-- the address 10.0.0.1 of an owner, in class IN (RFC 1035 3.4.1)
abbrev pub address : Labels → ℕ → Record
address owner ttl =
    record { owner = owner; class = 1; kind = 1; ttl = ttl; octets = 10 ∷ 0 ∷ 0 ∷ 1 ∷ [] }

abbrev pub at_line : ℕ → Record → Placed
at_line line r = record { rr = r; place = Line line }

abbrev pub fault_at : ℕ → Fault → Ending
fault_at line fault = Some (fault, Line line)

-- a text under the origin `x.` gives these records and this fault
abbrev pub TextGives : List ℕ → List Placed → Ending → Type 0
TextGives octets placed ending = FileReads x octets placed ending
