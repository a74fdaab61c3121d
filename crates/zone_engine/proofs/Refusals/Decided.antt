-- What refuses a front of an input refuses all of it.
use Rattle.zone_engine.proofs.Common.{◌≡◌, ℕ, ◌<◌, List, ◌++◌, sym, ◌∙◌, subst, get_or, Option, Some, AllByRecursion, IsName, Fault, Place, Placed, FileReads, IsFirstRefused, ReadAs, as_file, as_transfer, input_of, Decides, IsForm, RefusesFront, by_record, by_ending, RefusesRead, RefusesReading, refused, unread, arith, common_steps, Stays, StreamReads, Labels, Input, InputReads, file, transfer, each_below}
use Rattle.zone_text.specs.Decided as file_decides
use Rattle.zone_wire.specs.Stream as stream_decides

abbrev Ending : Type 0
Ending = Option (Fault × Place)

-- the records go on after those that are decided, and nothing follows a decided fault
abbrev GoesOn : List Placed → Ending → List Placed → Ending → Type 0
GoesOn placed ending later last = ((others : List Placed) × (later ≡ placed ++ others)) × ((e : Fault × Place) → ending ≡ Some e → (later ≡ placed) × (last ≡ ending))

-- what is refused stays refused where more records follow
pub first_stays : (placed others : List Placed) (fault : Fault) (place : Place) → IsFirstRefused placed fault place → IsFirstRefused (placed ++ others) fault place
first_stays placed others fault place first = grind (arith, common_steps)

refuses_on : (placed later : List Placed) (ending last : Ending) (fault : Fault) (place : Place) → GoesOn placed ending later last → RefusesFront placed ending fault place → RefusesReading later last fault place
refuses_on placed later ending last _ _ on (by_record fault place first) = grind (arith, refused, first_stays)
refuses_on placed later ending last _ _ on (by_ending fault place all is) = grind (arith, unread)

read_refused : (input : Input) (placed later : List Placed) (ending last : Ending) (fault : Fault) (place : Place) → InputReads input later last → GoesOn placed ending later last → RefusesFront placed ending fault place → RefusesRead input fault place
read_refused input placed later ending last fault place reads on refuses = record { placed = later; ending = last; reads = reads; refuses = refuses_on placed later ending last fault place on refuses }

abbrev FilesGoOn : Type 0
FilesGoOn = (origin : Labels) (octets more : List ℕ) (placed later : List Placed) (ending last : Ending) → file_decides.FileDecides origin octets placed ending → FileReads origin (octets ++ more) later last → Stays placed ending later last

abbrev FilesAreRead : Type 0
FilesAreRead = (origin : Labels) (octets : List ℕ) → IsName origin → AllByRecursion (λ c. c < 256) octets → (placed : List Placed) × ((ending : Ending) × FileReads origin octets placed ending)

abbrev StreamsAreRead : Type 0
StreamsAreRead = (stream : List ℕ) → ((i : ℕ) → get_or stream i 0 < 256) → (placed : List Placed) × (ending : Ending) × StreamReads stream placed ending

abbrev RecordsGoOn : Type 0
RecordsGoOn = (stream more : List ℕ) (placed other : List Placed) (ending late : Ending) → stream_decides.StreamDecides stream placed ending → StreamReads (stream ++ more) other late → (rest : List Placed) × (other ≡ placed ++ rest)

abbrev FaultsStay : Type 0
FaultsStay = (stream more : List ℕ) (placed other : List Placed) (e : Fault × Place) (late : Ending) → stream_decides.StreamDecides stream placed (Some e) → StreamReads (stream ++ more) other late → (other ≡ placed) × (late ≡ Some e)

module _ (files : FilesAreRead) (files_go : FilesGoOn) (streams : StreamsAreRead) (records_go : RecordsGoOn) (faults : FaultsStay) where
  refused_whole : (form : ReadAs) (front more : List ℕ) (placed : List Placed) (ending : Ending) (fault : Fault) (place : Place) → IsForm form → AllByRecursion (λ c. c < 256) (front ++ more) → Decides (input_of form front) placed ending → RefusesFront placed ending fault place → RefusesRead (input_of form (front ++ more)) fault place
  refused_whole (as_file origin) front more placed ending fault place name octets decides refuses =
      let (later, (last, reads)) = files origin (front ++ more) name octets in
      let stays = files_go origin front more placed later ending last decides reads in
      read_refused (file origin (front ++ more)) placed later ending last fault place reads ((stays.others, stays.first), stays.fault) refuses
  refused_whole as_transfer front more placed ending fault place name octets decides refuses =
      let (later, last, reads) = streams (front ++ more) (each_below 256 (front ++ more) (omega arith) octets) in
      read_refused (transfer (front ++ more)) placed later ending last fault place reads
      (records_go front more placed later ending last decides reads, λ e is. let same = faults front more placed later e last (subst (stream_decides.StreamDecides front placed) is decides) reads in (same.0, same.1 ∙ sym is)) refuses

  pub refused_by_front : (form : ReadAs) (octets front more : List ℕ) (placed : List Placed) (ending : Ending) (fault : Fault) (place : Place) → IsForm form → AllByRecursion (λ c. c < 256) octets → octets ≡ front ++ more → Decides (input_of form front) placed ending → RefusesFront placed ending fault place → RefusesRead (input_of form octets) fault place
  refused_by_front form octets front more placed ending fault place is each parts decides refuses = grind (arith, refused_whole)
