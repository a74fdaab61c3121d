-- What is taken of an input that a source is fed.
use Rattle.zone_engine.proofs.Common.{◌≡◌, ◌≢◌, true, false, List, [], ◌∷◌, ◌++◌, refl, sym, ap, ◌∙◌, subst, append_assoc, append-nil, Option, Some, None, is_some, Result, IfOk, Octets, Record, Held, Pending, Fault, Place, Stop, Refused, Placed, class, leaves, StopsFinish, soa, no_soa, outside, AllAccepted, SameRecords, records_of, Zone, IsZone, ReadAs, input_of, InputReads, IsLoaded, all_taken, front_refuses, IsFirstStop, earlier, itself, RefusesFront, by_record, by_ending, ReadsZone, RefusesRead, IsOfBytes, RefusesReading, refused, unread, unfinished, IfRefused, arith, rules, StandsForInput, ClassMismatch, Memory}
use Rattle.zone_set.proofs.Lists.Thinning.{IsSettledAs-given, ListsAll-given, OtherClass-given, StopsListing-given, StopsSettling-given}
use Rattle.zone_set.specs.ZoneList.{Tells, ListsAll, StopsListing, failure, memory, class as of_class, ending as ending_fault, IsSettledAs, StopsSettling, memory as unsettled, refused as refused_record}
use Rattle.zone_engine.proofs.Refusals.Decided.{first_stays}

-- ---- what is refused of records that were listed, some of them before

-- what is listed tells of a beginning of what the source had to give
listed_front : (given new : List Placed) (pending rest : Pending) (stop : Stop) → StopsListing given pending new rest stop → (begun more : List Placed) × (given ++ pending.records ≡ begun ++ more) × Tells begun new
listed_front given new pending rest _ (failure fails tells left) = (given, pending.records, refl, tells)
listed_front given new pending rest _ (memory taken others p works parts tells left) = (given ++ taken, p ∷ others, rw parts (sym (append_assoc given taken (p ∷ others))), tells)
listed_front given new pending rest _ (of_class taken others p works parts tells left other) = (given ++ taken, p ∷ others, rw parts (sym (append_assoc given taken (p ∷ others))), tells)
listed_front given new pending rest _ (ending_fault e works is tells left) = (given ++ pending.records, [], sym (append-nil (given ++ pending.records)), tells)

-- a record that was listed is refused, whatever follows
listed_refused : (listed more : List Placed) (ending : Option (Fault × Place)) (stop : Stop) → StopsSettling listed stop → IfRefused stop (RefusesFront (listed ++ more) ending)
listed_refused listed more ending _ unsettled = tt
listed_refused listed more ending _ (refused_record fault place first) = by_record fault place (first_stays listed more fault place first)

pub front_refused : (given new : List Placed) (pending rest : Pending) (stop first : Stop) → StopsListing given pending new rest stop → IsFirstStop new stop first → IfRefused first (RefusesFront (given ++ pending.records) pending.ending)
front_refused given new pending rest stop first stops (earlier _ why) =
    let (begun, more, parts, tells) = listed_front given new pending rest stop stops in
    rw parts (listed_refused begun more pending.ending first (StopsSettling-given begun new first tells why))
front_refused given new pending rest _ _ (failure fails tells left) (itself all) = tt
front_refused given new pending rest _ _ (memory taken others p works parts tells left) (itself all) = tt
front_refused given new pending rest _ _ (of_class taken others p works parts tells left other) (itself all) = by_record ClassMismatch p.place (record {
  before = given ++ taken;
  refused = p;
  others = others;
  parts = rw parts (sym (append_assoc given taken (p ∷ others)));
  accepted = tells.accepted all;
  why = class (OtherClass-given (given ++ taken) new p.rr tells other);
  stands = refl;
})
front_refused given new pending rest _ _ (ending_fault e works is tells left) (itself all) = by_ending e.0 e.1 (tells.accepted all) is

pub settling_is_of_bytes : (listed : List Placed) (stop : Stop) → StopsSettling listed stop → IsOfBytes stop
settling_is_of_bytes listed stop given = grind arith

listing_is_of_bytes : (listed new : List Placed) (pending rest : Pending) (stop : Stop) → StopsListing listed pending new rest stop → IsOfBytes stop
listing_is_of_bytes listed new pending rest stop given = grind arith

pub finishing_is_of_bytes : (held : List Record) (stop : Stop) → StopsFinish held stop → IsOfBytes stop
finishing_is_of_bytes held stop given = grind arith

-- an input stops for no failed read and no failed write
pub first_is_of_bytes : (listed new : List Placed) (pending rest : Pending) (stop first : Stop) → StopsListing listed pending new rest stop → IsFirstStop new stop first → IsOfBytes first
first_is_of_bytes listed new pending rest stop first stops is_first = grind (arith, settling_is_of_bytes, listing_is_of_bytes)

-- and what is no refusal is want of memory
pub only_memory : (listed new : List Placed) (pending rest : Pending) (stop first : Stop) → StopsListing listed pending new rest stop → IsFirstStop new stop first → ((fault : Fault) (place : Place) → first ≢ Refused fault place) → first ≡ Memory
only_memory listed new pending rest stop _ stops (earlier _ unsettled) other = refl
only_memory listed new pending rest stop _ stops (earlier _ (refused_record fault place why)) other = absurd (other fault place refl)
only_memory listed new pending rest _ _ (failure fails same left) (itself all) other = refl
only_memory listed new pending rest _ _ (memory taken others p works parts same left) (itself all) other = refl
only_memory listed new pending rest _ _ (of_class taken others p works parts same left why) (itself all) other = absurd (other ClassMismatch p.place refl)
only_memory listed new pending rest _ _ (ending_fault e works is same left) (itself all) other = absurd (other e.0 e.1 refl)

-- what is said of records held is said of those that are the same as a set
StopsFinish-same : (held others : List Record) (stop : Stop) → SameRecords held others → StopsFinish held stop → StopsFinish others stop
StopsFinish-same held others stop same given = grind (arith, no_soa, outside, soa)

not_both : {e : Fault × Place} → Some e ≡ None → ⊥
not_both same = cc

pub is_none_of : (refusal : Option (Fault × Place)) → is_some refusal ≡ false → refusal ≡ None
is_none_of refusal none = grind arith

pub some_of : (refusal : Option (Fault × Place)) → is_some refusal ≡ true → (e : Fault × Place) × (refusal ≡ Some e)
some_of refusal some = grind arith

pub zone_of_records : (r : Result Zone Stop) (records : List Record) → IfOk r IsZone → IfOk r (λ z. z.records ≡ records) → IfOk r (λ z. IsZone z × (z.records ≡ records))
zone_of_records r records zone same = grind arith

front_reading : (placed : List Placed) (ending : Option (Fault × Place)) (fault : Fault) (place : Place) → RefusesFront placed ending fault place → RefusesReading placed ending fault place
front_reading placed ending fault place given = grind (arith, refused, unread)

-- ---- a source that is fed

module _ {Kept : Type 0} (IsOf : ReadAs → Type 0) (Leave : ReadAs → Octets → Kept → Octets → Type 0) (form : ReadAs) where
  abbrev Stands : Pending → Held Kept → Octets → List Placed → Type 0
  Stands = StandsForInput IsOf Leave form

  -- what is given is pending no more
  gives_all : (pending : Pending) (held : Held Kept) (octets : Octets) (given : List Placed) → Stands pending held octets given → Stands (leaves pending []) held octets (given ++ pending.records)
  gives_all pending held octets given stands = search rules

  -- after a refusal nothing more is taken
  pub taken_after : (pending : Pending) (inside : Held Kept) (listed : List Placed) (refusal : Option (Fault × Place)) (octets piece : Octets) (e : Fault × Place) → refusal ≡ Some e → IsLoaded (Stands pending inside) form pending listed refusal octets → IsLoaded (Stands pending inside) form pending listed refusal (octets ++ piece)
  taken_after pending inside listed refusal octets piece e is (all_taken given none stands tells nothing) = absurd (not_both (sym is ∙ none))
  taken_after pending inside listed refusal octets piece e is (front_refuses front more placed ending fault place at parts decides refuses) =
      front_refuses front (more ++ piece) placed ending fault place at (ap (λ os. os ++ piece) parts ∙ append_assoc front more piece) decides refuses

  module _ (p0 p1 p2 : Pending) (b0 b1 b2 : Held Kept) (listed new : List Placed) (octets piece : Octets) (refusal : Option (Fault × Place)) (none : refusal ≡ None) (fed : (given : List Placed) → Stands p0 b0 octets given → Stands p1 b1 (octets ++ piece) given) where
    pub taken_more : (again : Option (Fault × Place)) → again ≡ refusal → ListsAll listed p1 new p2 → b2 ≡ b1 → IsLoaded (Stands p0 b0) form p0 listed refusal octets → IsLoaded (Stands p2 b2) form p2 new again (octets ++ piece)
    taken_more again same lists beside (front_refuses front more placed ending f at told parts decided refuses) = absurd (not_both (sym told ∙ none))
    taken_more again same lists beside (all_taken given unrefused stands tells nothing) =
        let all = ListsAll-given given listed p1 new p2 tells lists in
        all_taken (given ++ p1.records) (same ∙ none) (rw (all.emptied, beside) (gives_all p1 b1 (octets ++ piece) given (fed given stands))) all.listed (grind (arith, all.emptied, all.works, all.whole))

    pub taken_refused : b1.finished ≡ false → (left : List Placed) (stop first : Stop) (fault : Fault) (place : Place) → StopsListing listed p1 new p2 stop → IsFirstStop new stop first → first ≡ Refused fault place → IsLoaded (Stands p0 b0) form p0 listed refusal octets → IsLoaded (Stands p2 b2) form p2 left (Some (fault, place)) (octets ++ piece)
    taken_refused going left stop first fault place stops is_first is (front_refuses front more placed ending f at told parts decided refuses) = absurd (not_both (sym told ∙ none))
    taken_refused going left stop first fault place stops is_first is (all_taken given unrefused stands tells nothing) =
        front_refuses (octets ++ piece) [] (given ++ p1.records) p1.ending fault place refl (sym (append-nil (octets ++ piece)))
        ((fed given stands).stands.decided going)
        (rw is at (front_refused given new p1 p2 stop first (StopsListing-given given listed p1 new p2 stop tells stops) is_first))

  -- ---- the end of the input

  module _ (p0 p1 : Pending) (b0 b1 : Held Kept) (listed : List Placed) (octets : Octets) (refusal : Option (Fault × Place)) (none : refusal ≡ None) (ended : b1.finished ≡ true) (kept : (given : List Placed) → Stands p0 b0 octets given → Stands p1 b1 octets given) where
    pub zone_read : (new : List Placed) (held : List Record) (rest : Pending) (z : Zone) → ListsAll listed p1 new rest → IsSettledAs new held → IsZone z → z.records ≡ held → IsLoaded (Stands p0 b0) form p0 listed refusal octets → ReadsZone (input_of form octets) z
    zone_read new held rest z lists settled zone records (front_refuses front more placed ending f at is parts decided refuses) = absurd (not_both (sym is ∙ none))
    zone_read new held rest z lists settled zone records (all_taken given unrefused stands tells nothing) =
        let all = ListsAll-given given listed p1 new rest tells lists in
        let settles = IsSettledAs-given (given ++ p1.records) new held all.listed settled in
        record {
          placed = given ++ p1.records;
          reads = subst (InputReads (input_of form octets) (given ++ p1.records)) all.whole ((kept given stands).stands.read ended);
          same = rw records settles.same;
          zone = zone;
        }

    refused_with : (given : List Placed) → Stands p0 b0 octets given → (stop : Stop) → IfRefused stop (RefusesFront (given ++ p1.records) p1.ending) → IfRefused stop (RefusesRead (input_of form octets))
    refused_with given stands stop refuses = grind (arith, front_reading)

    pub listing_refused : (new : List Placed) (rest : Pending) (stop first : Stop) → StopsListing listed p1 new rest stop → IsFirstStop new stop first → IsLoaded (Stands p0 b0) form p0 listed refusal octets → IfRefused first (RefusesRead (input_of form octets))
    listing_refused new rest stop first stops is_first (front_refuses front more placed ending f at is parts decided refuses) = absurd (not_both (sym is ∙ none))
    listing_refused new rest stop first stops is_first (all_taken given unrefused stands tells nothing) =
        refused_with given stands first (front_refused given new p1 rest stop first (StopsListing-given given listed p1 new rest stop tells stops) is_first)

    pub settling_refused : (new : List Placed) (rest : Pending) (stop : Stop) → ListsAll listed p1 new rest → StopsSettling new stop → IsLoaded (Stands p0 b0) form p0 listed refusal octets → IfRefused stop (RefusesRead (input_of form octets))
    settling_refused new rest stop lists stops (front_refuses front more placed ending f at is parts decided refuses) = absurd (not_both (sym is ∙ none))
    settling_refused new rest stop lists stops (all_taken given unrefused stands tells nothing) =
        let all = ListsAll-given given listed p1 new rest tells lists in
        refused_with given stands stop (subst (λ ps. IfRefused stop (RefusesFront ps p1.ending)) (append-nil (given ++ p1.records)) (listed_refused (given ++ p1.records) [] p1.ending stop (StopsSettling-given (given ++ p1.records) new stop all.listed stops)))

    finished_refused : (placed : List Placed) (ending : Option (Fault × Place)) → InputReads (input_of form octets) placed ending → AllAccepted placed → ending ≡ None → (stop : Stop) → StopsFinish (records_of placed) stop → IfRefused stop (RefusesRead (input_of form octets))
    finished_refused placed ending is_read all whole stop stops = grind (arith, unfinished)

    pub finishing_refused : (new : List Placed) (held : List Record) (rest : Pending) (stop : Stop) → ListsAll listed p1 new rest → IsSettledAs new held → StopsFinish held stop → IsLoaded (Stands p0 b0) form p0 listed refusal octets → IfRefused stop (RefusesRead (input_of form octets))
    finishing_refused new held rest stop lists settled stops (front_refuses front more placed ending f at is parts decided refuses) = absurd (not_both (sym is ∙ none))
    finishing_refused new held rest stop lists settled stops (all_taken given unrefused stands tells nothing) =
        let all = ListsAll-given given listed p1 new rest tells lists in
        let settles = IsSettledAs-given (given ++ p1.records) new held all.listed settled in
        finished_refused (given ++ p1.records) p1.ending ((kept given stands).stands.read ended) settles.accepted lists.whole stop (StopsFinish-same held (records_of (given ++ p1.records)) stop settles.same stops)

pub ruleset first_stops = (earlier, itself)
