-- What most proofs of this crate name, from below it and from its definitions.
pub use Rattle.clap.specs.Words.{Text}
pub use Rattle.std.proofs.Common.{Bool, Global, List, [], ap, ap₂, arith, codes, false, length, map, nat_eq, refl, rules, subst, sym, true, ℕ, ◌++◌, ◌-◌, ◌∙◌, ◌≡◌, ◌⊎◌}
pub use Rattle.std.proofs.KnownBytes.{Keeps-refl}
pub use Rattle.std.specs.Cmp.Lexicographic.{bytes_decides, pointwise}
pub use Rattle.std.specs.Io.KnownBytes.{IsAtEnd}
pub use Rattle.std.specs.Prelude.{IfErr, IfOk, IfSome, None, OnErr, Option, Result, Some, String, decimal, drop, option_map, string_bytes, take, ◌||◌}
pub use Rattle.zone_name.specs.Common.{NothingIs, Octets}
pub use Rattle.zone_print.specs.Canonical.{text_limit}
pub use Rattle.zone_print.specs.Device.{Device, Fails, IsLeft, WorksOn}
pub use Rattle.zone_print.specs.Writing.{IsFailedWrite}
pub use Rattle.zone_rdata.specs.declared.fault.Fault.{Fault}
pub use Rattle.zone_rdata.specs.declared.fault.Place.{Place}
pub use Rattle.zone_rdata.specs.declared.fault.Stop.{Stop}
pub use Rattle.zone_rdata.specs.declared.fault.Stop.TheVariants.{Memory, Read, Refused, Write}
pub use Rattle.zone_engine.specs.Compare.{Compares, StopsCompare}
pub use Rattle.zone_engine.specs.Input.{Input}
pub use Rattle.command_input.specs.Answering.{Answers, answered, outputs, unanswered}
pub use Rattle.zone_engine.specs.Normalise.{Normalises, StopsNormalise}
pub use Rattle.zone_command.specs.Order.{IsLineFault}
pub use Rattle.zone_command.specs.Run.{AreCompared, Devices, IsStopped, Runs}
pub use Rattle.zone_engine.specs.Reading.{ReadsToEnd, ReadsWhole, StopsReading, TellsRead}
pub use Rattle.zone_engine.specs.Telling.{TellsLine, stop_line, stop_status, verdict_line, verdict_status, which_words}
pub use Rattle.zone_engine.specs.declared.comparison.Verdict.{Verdict}
pub use Rattle.zone_command.specs.declared.order.Order.{Order}
pub use Rattle.zone_engine.specs.Form.{read_as_with}
