use Rattle.zone_files.proofs.FilesLoading.{refused_as, unread_as}
use Rattle.zone_files.proofs.files.loaded_files.unread.Goals as goal

pub returns-in-Ok : goal.returns-in-Ok
returns-in-Ok g c =
    λ first origin fed text stands loads.
    unread_as c.of_parts.result c.args.reader.stack _ c.args.loader c.of_parts.ensures.stack c.of_parts.ensures.loader c.load-loaded.ensures.stack origin first fed text stands loads
    _ c.load-loaded.ensures.accepted c.in-Ok._zone c.in-Ok.is

pub returns : goal.returns
returns g c =
    λ first origin fed text stands loads.
    refused_as c.of_parts.result c.args.reader.stack _ c.args.loader c.of_parts.ensures.stack c.of_parts.ensures.loader c.load-loaded.ensures.stack origin first fed text stands loads
    _ c.load-loaded.ensures.refused c.in-Err.refusal c.in-Err.is
