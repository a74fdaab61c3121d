use Rattle.std.proofs.Common.{◌-◌, ◌+◌}
use Rattle.zone_print.specs.Canonical.{text_limit}
use Rattle.zone_print.specs.Device.{WorksOn}
use Rattle.zone_files.specs.Loading.Fed.{StandsForPresentation}
use Rattle.zone_files.proofs.Presenting.Readers.{HasFed}
use Rattle.zone_files.proofs.loading.accepting.accepted_file.Given as goal

-- what the reader gave so far was taken, and is at most one octet over the limit
abbrev pub invariant-loop-count : goal.invariant-loop-count
invariant-loop-count g l =
    let state = g.R.OctetReader.state in
    record {
      fed : HasFed (StandsForPresentation l.origin l.loader) (state l.initial.reader).octets (state l.reader).octets l.count;
      works : WorksOn (state l.initial.reader) (state l.reader);
    }

-- the octets that may still come
abbrev pub decreases-loop-count : goal.decreases-loop-count
decreases-loop-count g l = text_limit + 1 - l.count
