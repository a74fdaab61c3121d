-- Messages and streams on which walks, names, records and faults are computed: this project's own
-- choice of them.
use Rattle.std.specs.Prelude.{◌≡◌, ℕ, zero, suc, ◌+◌, ◌/◌, ◌%◌, List, [], ◌∷◌, ◌++◌, length, replicate, Option}
use Rattle.std.specs.List.{flat_map}
use Rattle.zone_name.specs.Common.{Labels}
use Rattle.zone_rdata.specs.Record.{Record}
use Rattle.zone_rdata.specs.declared.fault.Place.TheVariants.{Message}
use Rattle.zone_rdata.specs.declared.record.Placed.{Placed}
use Rattle.zone_wire.specs.Walk.{Visit, IsWalk}
use Rattle.zone_rdata.specs.declared.fault.Fault.{Fault}

-- octets after a header of twelve zeros
abbrev pub after_zeros : List ℕ → List ℕ
after_zeros octets = replicate 12 0 ++ octets

-- the walk of the name at an offset of octets after twelve zeros ends so, after so many places
pub record WalkEnds (octets : List ℕ) (offset : ℕ) (fault : Option Fault)
    (places : ℕ) : Type 0 where
  pub visits : List Visit
  pub walk : IsWalk (after_zeros octets) offset visits fault
  pub count : length visits ≡ places

-- n pointers one after another, the first at an offset and to a target, each other one to the one
-- before it
abbrev pub chain : ℕ → ℕ → ℕ → List ℕ
chain zero offset target = []
chain (suc n) offset target = (192 + target / 256) ∷ (target % 256) ∷ chain n (offset + 2) offset

-- an SOA of the root, of class IN: two names of no label, and five numbers
abbrev pub root_soa : Record
root_soa = record { owner = []; class = 1; kind = 6; ttl = 9; octets = replicate 21 0 ++ 7 ∷ [] }

-- the record as it stands in a message
abbrev pub soa_answer : List ℕ
soa_answer = (0 ∷ 0 ∷ 6 ∷ 0 ∷ 1 ∷ 0 ∷ 0 ∷ 0 ∷ 9 ∷ 0 ∷ 22 ∷ []) ++ replicate 21 0 ++ 7 ∷ []

-- a message with ID 1 and two answers, the SOA and the SOA again
abbrev pub soa_message : List ℕ
soa_message = (0 ∷ 1 ∷ 128 ∷ 0 ∷ 0 ∷ 0 ∷ 0 ∷ 2 ∷ 0 ∷ 0 ∷ 0 ∷ 0 ∷ []) ++ soa_answer ++ soa_answer

abbrev pub placed_soa : ℕ → Placed
placed_soa offset = record { rr = root_soa; place = Message 1 offset }

-- n labels `a`, and no root
abbrev pub labels_a : ℕ → List ℕ
labels_a n = flat_map (λ c. 1 ∷ c ∷ []) (replicate n 97)

-- 127 labels and the root, and 128 pointers, the first to the labels, each other one to the one
-- before it
abbrev pub longest_walk : List ℕ
longest_walk = labels_a 127 ++ 0 ∷ chain 128 267 12

-- the header of an answer with ID 1, and how many questions, answers and additional records follow
abbrev pub answer_header : ℕ → ℕ → ℕ → List ℕ
answer_header questions answers additional =
    0 ∷ 1 ∷ 132 ∷ 0 ∷ 0 ∷ questions ∷ 0 ∷ answers ∷ 0 ∷ 0 ∷ 0 ∷ additional ∷ []

-- a question for the zone `x.` of class IN, in a message at offset 12
abbrev pub question_x : List ℕ
question_x = 1 ∷ 120 ∷ 0 ∷ 0 ∷ 252 ∷ 0 ∷ 1 ∷ []

-- the numbers of an SOA: its serial, and 2 3 4 5
abbrev pub numbers : ℕ → List ℕ
numbers serial =
    0 ∷ 0 ∷ 0 ∷ serial ∷ 0 ∷ 0 ∷ 0 ∷ 2 ∷ 0 ∷ 0 ∷ 0 ∷ 3 ∷ 0 ∷ 0 ∷ 0 ∷ 4 ∷ 0 ∷ 0 ∷ 0 ∷ 5 ∷ []

-- After the question, from offset 19 on: the SOA of `x.` with `n.x.` and `h.x.`, TTL 3600. The
-- names are compressed.
abbrev pub opening_x : List ℕ
opening_x =
    (192 ∷ 12 ∷ 0 ∷ 6 ∷ 0 ∷ 1 ∷ 0 ∷ 0 ∷ 14 ∷ 16 ∷ 0 ∷ 28
    ∷ 1 ∷ 110 ∷ 192 ∷ 12 ∷ 1 ∷ 104 ∷ 192 ∷ 12 ∷ []) ++ numbers 1

-- a record of `x.` with TTL 3600, of a class and a type and with data
abbrev pub record_of_class : ℕ → ℕ → List ℕ → List ℕ
record_of_class class kind octets =
    (192 ∷ 12 ∷ 0 ∷ kind ∷ 0 ∷ class ∷ 0 ∷ 0 ∷ 14 ∷ 16 ∷ 0 ∷ length octets ∷ []) ++ octets

abbrev pub record_x : ℕ → List ℕ → List ℕ
record_x kind octets = record_of_class 1 kind octets

-- the name server of `x.`: a pointer to `n.x.`
abbrev pub server_x : List ℕ
server_x = record_x 2 (192 ∷ 31 ∷ [])

-- the SOA again, with a serial, its names being pointers to the first one's
abbrev pub closing_x : ℕ → List ℕ
closing_x serial =
    (192 ∷ 12 ∷ 0 ∷ 6 ∷ 0 ∷ 1 ∷ 0 ∷ 0 ∷ 14 ∷ 16 ∷ 0 ∷ 24 ∷ 192 ∷ 31 ∷ 192 ∷ 35 ∷ [])
    ++ numbers serial

-- the question, the SOA, and an answer as the last part of the message
abbrev pub ends_with : List ℕ → List ℕ
ends_with answer = answer_header 1 2 0 ++ question_x ++ opening_x ++ answer

-- after the header: the question, the SOA, an answer, and the SOA again
abbrev pub body_with : List ℕ → List ℕ
body_with answer = question_x ++ opening_x ++ answer ++ closing_x 1

abbrev pub message_with : List ℕ → List ℕ
message_with answer = answer_header 1 3 0 ++ body_with answer

abbrev pub small_body : List ℕ
small_body = body_with server_x

abbrev pub small_message : List ℕ
small_message = message_with server_x

-- the first of two messages: the SOA, the name server, and OPT as additional record
abbrev pub first_message : List ℕ
first_message =
    answer_header 1 2 1 ++ question_x ++ opening_x ++ server_x
    ++ 0 ∷ 0 ∷ 41 ∷ 4 ∷ 208 ∷ 0 ∷ 0 ∷ 0 ∷ 0 ∷ 0 ∷ 0 ∷ []

-- the second: the address 10.0.0.1 of `n.x.`, the name server again, and the SOA again, without a
-- question
abbrev pub second_message : List ℕ
second_message =
    (0 ∷ 1 ∷ 132 ∷ 0 ∷ 0 ∷ 0 ∷ 0 ∷ 3 ∷ 0 ∷ 0 ∷ 0 ∷ 0 ∷ [])
    ++ (1 ∷ 110 ∷ 1 ∷ 120 ∷ 0 ∷ 0 ∷ 1 ∷ 0 ∷ 1 ∷ 0 ∷ 0 ∷ 14 ∷ 16 ∷ 0 ∷ 4 ∷ 10 ∷ 0 ∷ 0 ∷ 1 ∷ [])
    ++ (192 ∷ 14 ∷ 0 ∷ 2 ∷ 0 ∷ 1 ∷ 0 ∷ 0 ∷ 14 ∷ 16 ∷ 0 ∷ 2 ∷ 192 ∷ 12 ∷ [])
    ++ (192 ∷ 14 ∷ 0 ∷ 6 ∷ 0 ∷ 1 ∷ 0 ∷ 0 ∷ 14 ∷ 16 ∷ 0 ∷ 26 ∷ 192 ∷ 12 ∷ 1 ∷ 104 ∷ 192 ∷ 14 ∷ [])
    ++ numbers 1

-- the records that these messages state
abbrev pub name_x : Labels
name_x = (120 ∷ []) ∷ []

abbrev pub name_n : Labels
name_n = (110 ∷ []) ∷ (120 ∷ []) ∷ []

abbrev pub soa_x : Record
soa_x =
    record {
      owner = name_x;
      class = 1;
      kind = 6;
      ttl = 3600;
      octets = (1 ∷ 110 ∷ 1 ∷ 120 ∷ 0 ∷ 1 ∷ 104 ∷ 1 ∷ 120 ∷ 0 ∷ []) ++ numbers 1;
    }

abbrev pub ns_x : Record
ns_x =
    record { owner = name_x; class = 1; kind = 2; ttl = 3600; octets = 1 ∷ 110 ∷ 1 ∷ 120 ∷ 0 ∷ [] }

abbrev pub srv_x : Record
srv_x =
    record {
      owner = name_x;
      class = 1;
      kind = 33;
      ttl = 3600;
      octets = 0 ∷ 0 ∷ 0 ∷ 5 ∷ 19 ∷ 196 ∷ 1 ∷ 110 ∷ 1 ∷ 120 ∷ 0 ∷ [];
    }

-- order 100, preference 10, the strings `U` and two empty ones, and `n.x.`
abbrev pub naptr_x : Record
naptr_x =
    record {
      owner = name_x;
      class = 1;
      kind = 35;
      ttl = 3600;
      octets = 0 ∷ 100 ∷ 0 ∷ 10 ∷ 1 ∷ 85 ∷ 0 ∷ 0 ∷ 1 ∷ 110 ∷ 1 ∷ 120 ∷ 0 ∷ [];
    }

abbrev pub address_n : Record
address_n = record { owner = name_n; class = 1; kind = 1; ttl = 3600; octets = 10 ∷ 0 ∷ 0 ∷ 1 ∷ [] }

abbrev pub placed_at : ℕ → ℕ → Record → Placed
placed_at message offset r = record { rr = r; place = Message message offset }

-- the opening SOA and the name server of the small message
abbrev pub small_records : List Placed
small_records = placed_at 1 19 soa_x ∷ placed_at 1 59 ns_x ∷ []
