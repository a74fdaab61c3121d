-- How a record is judged by what stands before it in the stream: all questions, and the records of
-- all answers (RFC 5936 2.2, 3).
use Rattle.std.specs.Prelude.{ℕ, List, [], ◌∷◌, ◌==◌, ◌&&◌, nat_eq, not, if◌then◌else◌, Bool, true, Option, Some, None}
use Rattle.std.specs.List.{list_any}
use Rattle.std.specs.Cmp.Lexicographic.{pointwise}
use Rattle.zone_name.specs.Common.{Labels}
use Rattle.zone_rdata.specs.Record.{Record}
use Rattle.zone_rdata.specs.declared.fault.Fault.{Fault}
use Rattle.zone_rdata.specs.declared.fault.Fault.TheVariants.{AfterClosing, NoOpeningSoa, BadQuestion, SoaMismatch}
use Rattle.zone_rdata.specs.declared.record.Placed.{Placed}
use Rattle.zone_wire.specs.Answers.{ZoneAsked, zone_of}
use Rattle.zone_wire.specs.Message.{QuestionAt}

-- the same name, and the same record, letters being folded
abbrev pub same_name : Labels → Labels → Bool
same_name n m = pointwise (pointwise nat_eq) n m

abbrev pub same_record : Record → Record → Bool
same_record r s =
    same_name r.owner s.owner && r.class == s.class && r.kind == s.kind && r.ttl == s.ttl
    && pointwise nat_eq r.octets s.octets

-- a name and a class are those of the zone, if it is fixed
abbrev pub agrees : Option ZoneAsked → Labels → ℕ → Bool
agrees None name class = true
agrees (Some zone) name class = same_name name zone.name && class == zone.class

-- The fault of a record after others: the first is an SOA of the zone that a question fixed,
-- another SOA is the first again, and nothing follows that.
abbrev pub order_fault : List QuestionAt → List Placed → Record → Option Fault
order_fault questions [] r =
    if not (r.kind == 6) then Some NoOpeningSoa
    else if agrees (zone_of questions []) r.owner r.class then None
    else Some BadQuestion
order_fault questions (opening ∷ others) r =
    if list_any (λ p. p.rr.kind == 6) others then Some AfterClosing
    else if r.kind == 6 && not (same_record r opening.rr) then Some SoaMismatch
    else None
