use Rattle.std.proofs.Common.{refl}
use Rattle.zonenorm_c.proofs.Tables.{denotes_given}
use Rattle.zonenorm_c.proofs.files.zone_of_files.Goals as goal

pub returns-in-Ok-load_files-clause-zone : goal.returns-in-Ok-load_files-clause-zone
returns-in-Ok-load_files-clause-zone c =
    denotes_given c.args.given.now _ _ _ _ c.in-Ok-load_files.zone c.requires c.in-Ok.ensures.origin c.in-Ok.ensures.directory refl c.in-Ok-load_files.ensures.zone
