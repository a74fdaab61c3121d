-- What a source stands for.
use Rattle.zone_text.proofs.Common.{EndedEntries, FileKept, FileReads, Follow, Labels, List, Placed, SourceState, StandsForFile, [], arith, both_ways, false, is_finished, length, length-append, lit<, refl, state_of, true, ℕ, ◌++◌, ◌+◌, ◌≡◌}
use Rattle.zone_rdata.proofs.Octets.Bytes.{Bytes, bytes_append}
use Rattle.zone_rdata.specs.declared.fed.FedStatus.{FedStatus}
use Rattle.zone_rdata.specs.declared.fed.FedStatus.TheVariants.{Open, Finished}
use Rattle.zone_rdata.specs.declared.rr_source.Reading.{Reading}
use Rattle.zone_text.proofs.Files.Followed.{Reads}
use Rattle.zone_text.proofs.Scanning.FedPieces.{FollowsOn}

pub stands_begun : (origin : Labels) (ended : EndedEntries) (unfinished : List ℕ) → Follow origin ended unfinished [] [] → StandsForFile origin (state_of Open 0 ended unfinished) [] []
stands_begun origin ended unfinished follow = record {
  works = refl;
  octets = λ i. lit< tt;
  count = refl;
  decided = λ _. follow.decided;
  leave = λ _. follow.leave;
  read = λ e. absurd cc;
}

-- a piece more
pub stands_more : (origin : Labels) (status : FedStatus) (n more : ℕ) (old new : EndedEntries) (unfinished left part fed : List ℕ) (given : List Placed) → is_finished status ≡ false → Bytes part → more ≡ n + length part → FollowsOn old unfinished new left part → StandsForFile origin (state_of status n old unfinished) fed given → StandsForFile origin (state_of status more new left) (fed ++ part) given
stands_more origin status n more old new unfinished left part fed given going each count on stands =
    let follow : Follow origin new left (fed ++ part) given = on origin fed given (record { decided = stands.decided going; leave = stands.leave going }) in
    record {
      works = stands.works;
      octets = bytes_append fed part stands.octets each;
      count = omega (arith, count, stands.count, length-append fed part);
      decided = λ _. follow.decided;
      leave = λ _. follow.leave;
      read = λ ended. absurd (both_ways (is_finished status) going ended);
    }

-- the end of the file
pub stands_finished : (origin : Labels) (status : FedStatus) (n : ℕ) (old new : EndedEntries) (unfinished left fed : List ℕ) (given : List Placed) → is_finished status ≡ false → ((above : Labels) (octets : List ℕ) (before : List Placed) → Follow above old unfinished octets before → Reads above octets before new) → StandsForFile origin (state_of status n old unfinished) fed given → StandsForFile origin (state_of Finished n new left) fed given
stands_finished origin status n old new unfinished left fed given going reads stands = record {
  works = refl;
  octets = stands.octets;
  count = stands.count;
  decided = λ e. absurd cc;
  leave = λ e. absurd cc;
  read = λ _. reads origin fed given (record { decided = stands.decided going; leave = stands.leave going });
}

-- ---- the whole file

pub reads_whole : (origin : Labels) (source : SourceState FileKept) (reading : Reading) (octets : List ℕ) → source.held.finished ≡ true → StandsForFile origin source octets [] → reading.placed.items ≡ source.pending.records → reading.ending ≡ source.pending.ending → FileReads origin octets reading.placed.items reading.ending
reads_whole origin source reading octets ended stands records ending = rw (records, ending) (stands.read ended)
