use Rattle.std.proofs.Common.{◌≡◌, ◌<◌, length, refl, rules, arith}
use Rattle.zone_files.proofs.FilesReading.{stands_closed}
use Rattle.zone_files.proofs.ReadingEnds.{closes_more}
use Rattle.zone_files.proofs.files.files_reader.FilesReader.close_ended.Goals as goal

pub ended-preserved : goal.ended-preserved
ended-preserved g c =
    let more : length c.ended.self.stack.outer < length c.ended.self.«open».outer.items = omega arith in
    record {
      text = c.ended.invariant.text;
      expanded = c.ended.invariant.expanded;
      closes = closes_more c.args.self.now c.ended.self _ c.ended.invariant.closes more refl refl c.close.ensures;
      stands = λ main before first opened text was.
          let now = c.ended.invariant.stands main before first opened text was in
          stands_closed g.R.OctetReader.state main first opened text now.0 c.ended.self _ more c.is_cut_now-self.ensures refl c.close.ensures now.1;
    }
