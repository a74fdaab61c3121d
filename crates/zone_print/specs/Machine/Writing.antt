-- What may stop the writing of lines.
use Rattle.zone_rdata.specs.declared.fault.Stop.{Stop}
use Rattle.zone_rdata.specs.declared.fault.Stop.TheVariants.{Refused, Read, Write, Memory}
use Rattle.zone_print.specs.Device.{Device, WorksOn, Fails}

-- the writer failed, or it works and memory was refused
abbrev pub IsOfWriting : Device → Device → Stop → Type 0
IsOfWriting old new (Refused fault place) = ⊥
IsOfWriting old new Read = ⊥
IsOfWriting old new Write = Fails old new
IsOfWriting old new Memory = WorksOn old new
