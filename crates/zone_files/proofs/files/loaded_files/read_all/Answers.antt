use Rattle.std.proofs.Common.{List, ℕ, ◌++◌, subst}
use Rattle.zone_files.specs.Loading.Fed.{StandsForPresentation}
use Rattle.zone_files.proofs.FilesLoading.{loads_on, stops_loads}
use Rattle.zone_files.proofs.files.loaded_files.read_all.Goals as goal

pub files-preserved : goal.files-preserved
files-preserved g c = record {
  aligned = c.in-Ok.ensures.aligned;
  loads = λ main first start origin was.
      loads_on g.S.IncludedFiles.opens g.S.File.OctetReader.state main first start origin c.files.reader c.read_on.new.reader c.files.files c.read_on.new.files c.files.loader c.feed.new.self
      (λ text. c.in-Ok.ensures.reads main first start text)
      (λ fed st. subst (λ (t : List ℕ). StandsForPresentation origin c.feed.new.self (fed ++ t)) c.deref.ensures.value (c.in-Ok-feed.ensures.stands origin fed st))
      (c.files.invariant.loads main first start origin was);
}

pub returns-in-Err-clause-stops : goal.returns-in-Err-clause-stops
returns-in-Err-clause-stops g c =
    λ main first start origin was.
    stops_loads g.S.IncludedFiles.opens g.S.File.OctetReader.state main first start origin c.files.reader c.read_on.new.reader c.files.files c.read_on.new.files c.files.loader c.in-Err.stop
    (λ text. c.in-Err.ensures.stops main first start text)
    (c.files.invariant.loads main first start origin was)
