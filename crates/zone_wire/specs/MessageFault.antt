-- The first fault in the structure of a message and the offset of the part that has it: the parts
-- before it stand (RFC 1035 4.1, RFC 5936 2.2).
use Rattle.std.specs.Prelude.{◌≡◌, ◌⊎◌, ℕ, zero, suc, ◌≤◌, List, length}
use Rattle.zone_rdata.specs.declared.fault.Fault.{Fault}
use Rattle.zone_rdata.specs.declared.fault.Fault.TheVariants.{ShortMessage, NotAResponse, Truncated, ErrorCode, BadCounts, TrailingOctets}
use Rattle.zone_wire.specs.Message.{tc_of, rcode_of, qdcount_of, ancount_of, arcount_of, IsResponse, HasCounts, IsQuestionAt, IsRecordAt}
use Rattle.zone_wire.specs.Name.{Found, IsNameAt}
use Rattle.zone_wire.specs.Unless.{Unless, NoFault}
use Rattle.zone_wire.specs.Walk.{NameFault}

-- Why no part that begins with a name stands at an offset: the name has a fault, or what comes
-- after it runs past the message.
abbrev pub PartFault : {X : Type 0} → List ℕ → (ℕ → X → Type 0) → ℕ → Fault → Type 0
PartFault {X} octets Is offset fault =
    NameFault octets offset fault
    ⊎ ((fault ≡ ShortMessage)
    × (found : Found) × IsNameAt octets offset found × ((x : X) → Is offset x → ⊥))

-- the first of so many parts from an offset on that has a fault, or after all of them what comes
-- next has one
abbrev pub FaultIn : {X : Type 0} → List ℕ → (ℕ → X → Type 0) → (X → ℕ) → ℕ
    → (ℕ → Fault × ℕ → Type 0) → ℕ → Fault × ℕ → Type 0
FaultIn octets Is end_of zero next offset e = next offset e
FaultIn {X} octets Is end_of (suc count) next offset e =
    (PartFault octets Is offset e.0 × (e.1 ≡ offset))
    ⊎ ((x : X) × Is offset x × FaultIn octets Is end_of count next (end_of x) e)

-- The first fault of a message: its header isn't whole, is of no response to a query, is truncated,
-- carries an error, or has counts that are none of a transfer; a question, an answer or an
-- additional record has one; or octets are left over. Those of the header and the last are of the
-- whole message.
abbrev pub MessageFault : List ℕ → Fault → ℕ → Type 0
MessageFault octets fault start =
    Unless (12 ≤ length octets) (ShortMessage, 0)
    (Unless (IsResponse octets) (NotAResponse, 0)
    (Unless (tc_of octets ≡ 0) (Truncated, 0)
    (Unless (rcode_of octets ≡ 0) (ErrorCode (rcode_of octets), 0)
    (Unless (HasCounts octets) (BadCounts, 0)
    (FaultIn octets (IsQuestionAt octets) (λ q. q.end) (qdcount_of octets)
    (FaultIn octets (IsRecordAt octets) (λ r. r.end) (ancount_of octets)
    (FaultIn octets (IsRecordAt octets) (λ r. r.end) (arcount_of octets)
    (λ end. Unless (end ≡ length octets) (TrailingOctets, 0) NoFault))) 12)))))
    (fault, start)
