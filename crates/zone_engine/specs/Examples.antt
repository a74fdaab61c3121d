-- Records of small inputs, on which refusals and canonical texts are computed.
use Rattle.std.specs.Prelude.{ℕ, List, [], ◌∷◌, ◌++◌, codes}
use Rattle.zone_name.specs.Common.{Labels}
use Rattle.zone_name.specs.Name.{wire}
use Rattle.zone_rdata.specs.Record.{Record}
use Rattle.zone_set.specs.Zone.{Zone}

-- the name of one label, and that label under another name
abbrev pub top : List ℕ → Labels
top label = label ∷ []

abbrev pub under : List ℕ → Labels → Labels
under label name = label ∷ name

-- x., n.x., h.x. and a.x.
abbrev pub x : Labels
x = top (codes "x")

abbrev pub n_x : Labels
n_x = under (codes "n") x

abbrev pub h_x : Labels
h_x = under (codes "h") x

abbrev pub a_x : Labels
a_x = under (codes "a") x

-- a small number in 32 bits
abbrev pub long : ℕ → List ℕ
long n = 0 ∷ 0 ∷ 0 ∷ n ∷ []

-- the SOA of x. with names n.x. and h.x. and the numbers SERIAL, 2, 3, 4, 5 (RFC 1035 3.3.13)
abbrev pub soa_of : ℕ → ℕ → ℕ → Record
soa_of class ttl serial =
    record {
      owner = x;
      class = class;
      kind = 6;
      ttl = ttl;
      octets = wire n_x ++ wire h_x ++ long serial ++ long 2 ++ long 3 ++ long 4 ++ long 5;
    }

-- the name server n.x. of an owner, in class IN (RFC 1035 3.3.11)
abbrev pub server_of : Labels → ℕ → Record
server_of owner ttl = record { owner = owner; class = 1; kind = 2; ttl = ttl; octets = wire n_x }

-- the zone of x. with both, in class IN
abbrev pub example_zone : ℕ → Zone
example_zone ttl = record { apex = x; class = 1; records = soa_of 1 ttl 1 ∷ server_of x ttl ∷ [] }

-- the address 10.0.0.n of an owner, in class IN (RFC 1035 3.4.1)
abbrev pub address_of : Labels → ℕ → ℕ → Record
address_of owner ttl n =
    record { owner = owner; class = 1; kind = 1; ttl = ttl; octets = 10 ∷ 0 ∷ 0 ∷ n ∷ [] }
