-- What stands before an answer in a stream: the questions, and the records of the answers (RFC 5936
-- 2.2, 3).
use Rattle.std.specs.Prelude.{◌≡◌, ℕ, List, [], ◌∷◌, ◌==◌, not, Bool, false, Option, Some, None, MatchOption, ⊤}
use Rattle.std.specs.List.{filter, list_any}
use Rattle.zone_name.specs.Common.{Labels}
use Rattle.zone_rdata.specs.Record.{Record}
use Rattle.zone_rdata.specs.declared.record.Placed.{Placed}
use Rattle.zone_wire.specs.Message.{QuestionAt}

-- a zone's name and class
pub record ZoneAsked : Type 0 where
  pub name : Labels
  pub class : ℕ

-- what questions and records before fix as the zone: the first question or the first record, since
-- these agree
abbrev pub zone_of : List QuestionAt → List Placed → Option ZoneAsked
zone_of (q ∷ questions) placed = Some (record { name = q.name; class = q.class })
zone_of [] (opening ∷ placed) = Some (record { name = opening.rr.owner; class = opening.rr.class })
zone_of [] [] = None

-- a name and a class are those of the zone, if it is fixed
abbrev pub AgreeWith : Option ZoneAsked → Labels → ℕ → Type 0
AgreeWith zone name class = MatchOption zone ⊤ (λ z. (name ≡ z.name) × (class ≡ z.class))

-- the opening SOA and the records that are none: the closing SOA isn't handed on
abbrev pub handed_on : List Placed → List Placed
handed_on [] = []
handed_on (opening ∷ others) = opening ∷ filter (λ p. not (p.rr.kind == 6)) others

-- an SOA stands after the opening one
abbrev pub is_closed : List Placed → Bool
is_closed [] = false
is_closed (opening ∷ others) = list_any (λ p. p.rr.kind == 6) others

-- Where a record can stand after questions and records: as the opening SOA, of the zone that a
-- question fixed; or after that, the transfer not being closed, as no SOA or the opening one again.
abbrev pub ComesAfter : List QuestionAt → List Placed → Record → Type 0
ComesAfter questions [] r = (r.kind ≡ 6) × AgreeWith (zone_of questions []) r.owner r.class
ComesAfter questions (opening ∷ others) r =
    (is_closed (opening ∷ others) ≡ false) × (r.kind ≡ 6 → r ≡ opening.rr)
