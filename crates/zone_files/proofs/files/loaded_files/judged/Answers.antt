use Rattle.zone_files.proofs.FilesLoading.{are_zone, ok_at, refused_as, unread_as}
use Rattle.zone_files.proofs.files.loaded_files.judged.Goals as goal

pub returns-then-is_whole-clause-zone : goal.returns-then-is_whole-clause-zone
returns-then-is_whole-clause-zone g c =
    λ main directory name origin opened text stands loads.
    are_zone g.R.OctetReader.state main directory name origin c.in-Ok.zone c.args.reader c.args.loader c.of_parts.result c.of_parts.ensures.stack c.of_parts.ensures.loader
    (c.has_read_all-is_whole.ensures.alone c.if-is_whole.true) (c.has_read_all-is_whole.ensures.ended c.if-is_whole.true) (c.has_read_all-is_whole.ensures.whole c.if-is_whole.true)
    (λ fed st. ok_at _ _ c.in-Ok.zone c.in-Ok.is c.load-loaded.ensures.zone directory name origin fed st) opened text stands loads

pub returns-in-Ok-clause-refused : goal.returns-in-Ok-clause-refused
returns-in-Ok-clause-refused g c =
    λ first origin fed text stands loads.
    unread_as c.of_parts.result c.args.reader.stack _ c.args.loader c.of_parts.ensures.stack c.of_parts.ensures.loader c.load-loaded.ensures.stack origin first fed text stands loads
    _ c.load-loaded.ensures.accepted c.in-Ok.zone c.in-Ok.is

pub returns-clause-refused : goal.returns-clause-refused
returns-clause-refused g c =
    λ first origin fed text stands loads.
    refused_as c.of_parts.result c.args.reader.stack _ c.args.loader c.of_parts.ensures.stack c.of_parts.ensures.loader c.load-loaded.ensures.stack origin first fed text stands loads
    _ c.load-loaded.ensures.refused c.in-Err.refusal c.in-Err.is
