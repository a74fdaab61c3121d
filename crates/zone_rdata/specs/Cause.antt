-- The fault, and the failing, that a cause stands for.
use Rattle.std.specs.Prelude.{Option, Some, None}
use Rattle.zone_rdata.specs.declared.cause.Cause.{Cause}
use Rattle.zone_rdata.specs.declared.cause.Cause.TheVariants as causes
use Rattle.zone_rdata.specs.declared.fault.Failing.{Failing}
use Rattle.zone_rdata.specs.declared.fault.Failing.TheVariants as failings
use Rattle.zone_rdata.specs.declared.fault.Fault.{Fault}
use Rattle.zone_rdata.specs.declared.fault.Fault.TheVariants as faults

abbrev pub fault_for : Cause → Fault
fault_for causes.EmptyLabel = faults.EmptyLabel
fault_for causes.LabelTooLong = faults.LabelTooLong
fault_for causes.NameTooLong = faults.NameTooLong
fault_for causes.BadEscape = faults.BadEscape
fault_for causes.RelativeName = faults.RelativeName
fault_for causes.BadClass = faults.BadClass
fault_for causes.UnknownType = faults.UnknownType
fault_for causes.MetaType = faults.MetaType
fault_for causes.BadRdata = faults.BadRdata
fault_for causes.BadGeneric = faults.BadGeneric
fault_for causes.StringTooLong = faults.StringTooLong
fault_for causes.RdataTooLong = faults.RdataTooLong
fault_for causes.BadNumber = faults.BadNumber
fault_for causes.IncludeDirective = faults.IncludeDirective
fault_for causes.UnknownDirective = faults.UnknownDirective
fault_for causes.BadDirective = faults.BadDirective
fault_for causes.NoOwner = faults.NoOwner
fault_for causes.NoTtl = faults.NoTtl
fault_for causes.BadTtl = faults.BadTtl
fault_for causes.ShortMessage = faults.ShortMessage
fault_for causes.NotAResponse = faults.NotAResponse
fault_for causes.Truncated = faults.Truncated
fault_for (causes.ErrorCode code) = faults.ErrorCode code
fault_for causes.BadCounts = faults.BadCounts
fault_for causes.IdMismatch = faults.IdMismatch
fault_for causes.BadQuestion = faults.BadQuestion
fault_for causes.ReservedLabel = faults.ReservedLabel
fault_for causes.BadPointer = faults.BadPointer
fault_for causes.TooManyPointers = faults.TooManyPointers
fault_for causes.CompressibleType = faults.CompressibleType
fault_for causes.TrailingOctets = faults.TrailingOctets
fault_for causes.NoOpeningSoa = faults.NoOpeningSoa
fault_for causes.SoaMismatch = faults.SoaMismatch
fault_for causes.AfterClosing = faults.AfterClosing

-- with no cause, memory was refused
abbrev pub failing_for : Option Cause → Failing
failing_for (Some cause) = failings.Fault (fault_for cause)
failing_for None = failings.Memory
