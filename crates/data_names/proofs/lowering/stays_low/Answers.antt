use Rattle.data_names.proofs.Once.{low_names}
use Rattle.data_names.proofs.Walks.{lowered_same}
use Rattle.data_names.proofs.lowering.stays_low.Goals as goal

pub returns-in-Some : goal.returns-in-Some
returns-in-Some c =
    let f = c.in-Some.ensures.found in (
      λ low. lowered_same _ c.args.octets.now _ c.in-Some.names.now _ f.0 f.1 f.2 f.3 f.4 (c.is_low.ensures.0 low),
      λ stays. c.is_low.ensures.1 (low_names _ c.args.octets.now _ c.in-Some.names.now _ f.0 f.1 f.2 f.3 f.4 stays),
    )
