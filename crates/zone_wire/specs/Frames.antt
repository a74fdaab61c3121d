-- The frames of a stream (RFC 1035 4.2.2).
use Rattle.std.specs.Prelude.{◌≡◌, ℕ, ◌+◌, ◌<◌, ◌≤◌, List, ◌++◌, length}
use Rattle.std.specs.List.{flat_map, AllByRecursion}
use Rattle.zone_wire.specs.Message.{u16_at, longest_message}
use Rattle.zone_wire.specs.Transfer.{frame}

-- a stream is the frames of messages, and the octets of a last frame that is cut off
pub record IsFramed (stream : List ℕ) (messages : List (List ℕ)) (rest : List ℕ) : Type 0 where
  pub whole : stream ≡ flat_map frame messages ++ rest
  pub short : AllByRecursion (λ octets. length octets ≤ longest_message) messages
  pub cut : length rest < 2 + u16_at rest 0
