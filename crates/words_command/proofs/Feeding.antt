-- What was read, fed and written so far.
use Rattle.words_command.proofs.Halting.{◌≡◌, Bool, false, ends_inside, ℕ, List, [], ◌++◌, length, refl, Consumes-kept, Appends, Consumes, Keeps, Device, Fails, WorksOn, AppendsPart, part_then, Filtering, IsHalted, IsSoFarInPart, IsWrittenFor, Read, Write, Memory, ◌<◌, ◌≤◌, most_octets}
use Rattle.std.proofs.KnownBytes.{Appends-nil, Consumes-nil}
use Rattle.words_command.specs.Machine.Halting as halts
use Rattle.words_command.specs.Filtering as runs

-- octets that were read in pieces, so many, were fed to a filter, and all that it gave was written
pub record HasFed {U : Type 0} (Begun : U → Type 0) (Stands : U → List ℕ → List ℕ → Type 0) (Going : Type 0) (fed : ℕ) (inside : Bool) (input input' output output' : Device) (count : ℕ) : Type 0 where
  pub octets : List ℕ
  pub given : List ℕ
  pub read : Consumes input.octets input'.octets octets
  pub written : Appends output.octets output'.octets given
  pub ends : inside ≡ ends_inside given
  pub works : WorksOn input input' × WorksOn output output'
  pub counted : count ≡ length octets
  pub few : fed ≤ length octets
  pub going : Going
  pub stands : (under : U) → Begun under → Stands under octets given

module _ (filter : Filtering) (held : List ℕ) (inside : Bool) (input mid output output' : Device) (octets given : List ℕ) (read : Consumes input.octets mid.octets octets) (written : Appends output.octets output'.octets given) (ends : inside ≡ ends_inside given) (works : WorksOn input mid × WorksOn output output') where
  -- the next read failed, or too many octets were read
  pub halts_unread : (input' : Device) → filter.SoFar octets (given ++ held) → Keeps mid.octets input'.octets → Fails mid input' → IsHalted filter held inside input input' output output' Read
  halts_unread input' so_far kept fails = halts.unread octets given (Consumes-kept _ _ _ octets read kept) so_far written ends works.1 (runs.failed (λ w. fails (works.0 w)))

  pub halts_long : filter.SoFar octets (given ++ held) → most_octets < length octets → IsHalted filter held inside input mid output output' Read
  halts_long so_far long = halts.unread octets given read so_far written ends works.1 (runs.too_many long works.0)

  -- memory was refused
  pub halts_memory : IsSoFarInPart filter.SoFar octets (given ++ held) → IsHalted filter held inside input mid output output' Memory
  halts_memory part = halts.out_of_memory octets given read part written ends works.1 works.0

  -- the writer failed
  pub halts_unwritten : (writing : List ℕ) (last : Device) → IsWrittenFor filter octets (given ++ writing) → AppendsPart output'.octets last.octets writing → Fails output' last → (after : Bool) → IsHalted filter held after input mid output last Write
  halts_unwritten writing last is part fails after = halts.unwritten octets (given ++ writing) read is (part_then output.octets output'.octets last.octets given given writing refl written part) (λ w. fails (works.1 w)) works.0

-- memory was refused before anything was read
pub halts_begun : (filter : Filtering) (held : List ℕ) (inside : Bool) (input output : Device) → inside ≡ false → filter.SoFar [] held → IsHalted filter held inside input input output output Memory
halts_begun filter held inside input output begun so_far = halts.out_of_memory [] [] (Consumes-nil _) (record { front = []; back = []; whole = refl; so_far = so_far }) (Appends-nil _) begun (λ w. w) (λ w. w)
