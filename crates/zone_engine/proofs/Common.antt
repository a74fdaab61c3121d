-- What most proofs of this crate name, from below it and from its definitions.
pub use Rattle.std.proofs.Common.{Bool, Equal, Global, Greater, Less, List, Ordering, Vec, [], ap, append-nil, append_assoc, ap₂, arith, codes, false, inl, inr, length, length-append, lit≤, map, min, nat_eq, refl, rules, string_bytes, subst, suc, sym, take, true, zero, ℕ, ⊎_elim, ◌&&◌, ◌++◌, ◌+◌, ◌-◌, ◌<◌, ◌^◌, ◌↔◌, ◌∙◌, ◌∷◌, ◌≡◌, ◌≢◌, ◌≤◌, ◌⊎◌}
pub use Rattle.std.proofs.KnownBytes.{Appends-trans, Consumes-nil, Consumes-trans, Consumes-whole, Keeps-refl}
pub use Rattle.std.proofs.lemmas.Bool.{cases_eq, false≢true, ne_eqb}
pub use Rattle.std.proofs.lemmas.Bool.Decides.{leb_tells}
pub use Rattle.std.proofs.lemmas.Grind.{common_steps}
pub use Rattle.std.proofs.lemmas.Option.{IfSome_then}
pub use Rattle.std.proofs.lemmas.Result.{MatchResult-weaker, err_from_is_err_and}
pub use Rattle.std.specs.Cmp.{IsTotalOrder}
pub use Rattle.std.specs.Cmp.Lexicographic.{bytes_decides, pointwise, pointwise_decides}
pub use Rattle.std.specs.Io.KnownBytes.{Appends, Consumes, IsAtEnd, Keeps}
pub use Rattle.std.specs.List.{AllByRecursion, flat_map}
pub use Rattle.std.specs.Ordering.{ordering_reverse}
pub use Rattle.std.specs.Prelude.{Err, IfOk, IfSome, IsTrue, None, Ok, OnErr, OnOk, Option, Result, Some, decimal, get_or, is_some, slice_get, ◌==◌, ◌||◌}
pub use Rattle.zone_name.specs.Common.{AtMostOneIs, Labels, NothingIs, Octets}
pub use Rattle.zone_name.specs.Name.{IsFoldedOctet, IsLabel, IsName, IsWithin}
pub use Rattle.zone_name.specs.Order.{name_cmp}
pub use Rattle.zone_name.specs.Text.{label_text, name_text, octet_text}
pub use Rattle.zone_print.proofs.Feeds.{has_no_feed, high, line_ends_with_feed, none_append, none_decimal, none_name, none_tested}
pub use Rattle.zone_print.specs.Canonical.{canon, line, lines, text_limit}
pub use Rattle.zone_print.specs.Denotes.{Denotes, MakesZone}
pub use Rattle.zone_print.specs.Device.{Device, Fails, IsLeft, WorksOn}
pub use Rattle.zone_print.specs.Laws.{EndsWithItsFeed, HasNoFeed}
pub use Rattle.zone_print.specs.Writing.{AppendsPart, IsFailedWrite, StopsPush, StopsWrite}
pub use Rattle.zone_rdata.specs.FedSource.{Held, SourceState}
pub use Rattle.zone_rdata.specs.Record.{IsRecord, Record, data_of}
pub use Rattle.zone_rdata.specs.RrSource.{Pending}
pub use Rattle.zone_rdata.specs.declared.fault.Fault.{Fault}
pub use Rattle.zone_rdata.specs.declared.fault.Fault.TheVariants.{ClassMismatch, DifferingTtl, InputTooLong, MultipleSoa, NoSoa, OutOfZone, UnclosedQuote, ZoneTooLarge}
pub use Rattle.zone_rdata.specs.declared.fault.Place.{Place}
pub use Rattle.zone_rdata.specs.declared.fault.Place.TheVariants.{Line, Whole}
pub use Rattle.zone_rdata.specs.declared.fault.Stop.{Stop}
pub use Rattle.zone_rdata.specs.declared.fault.Stop.TheVariants.{Memory, Read, Refused, Write}
pub use Rattle.zone_rdata.specs.declared.record.Placed.{Placed}
pub use Rattle.zone_set.proofs.Holding.Together.{accepted_class, accepted_soa, accepted_ttl, each_Has, each_from_Has, one_set, stable_owner}
pub use Rattle.zone_set.specs.Builder.{Accepts, Adds, AreTwoSoas, HasNoSoa, IsLeastOutside, IsRefusedFor, OtherClass, OtherSoa, OtherTtl, StopsFinish, class, leaves, no_soa, outside, soa, ttl}
pub use Rattle.zone_set.specs.Refusal.{AllAccepted, IsFirstRefused, records_of}
pub use Rattle.zone_set.specs.Zone.{AreCompatible, Has, InOneSet, IsZone, SameRecords, Zone, covered_octets}
pub use Rattle.zone_text.specs.Decided.{FileDecides, Stays}
pub use Rattle.zone_text.specs.FileReads.{FileReads}
pub use Rattle.zone_wire.specs.Stream.{StreamReads}
pub use Rattle.zone_engine.specs.Compare.{Compares, DifferFirstAt, IsAccepted, IsVerdictOnTexts, by_first, by_second, line_at, lines_of}
pub use Rattle.zone_engine.specs.Examples.{a_x, address_of, example_zone, server_of, soa_of, top, under, x}
pub use Rattle.zone_engine.specs.Input.{Input, InputDenotes, InputDenotesWithin, InputReads, InputStates, IsInput, file, input_octets, transfer}
pub use Rattle.zone_engine.specs.Machine.Fed.{FileLeave, IsFile, IsTransfer, StandsForInput, TransferLeave}
pub use Rattle.zone_engine.specs.Machine.Input.{Decides, IsForm, ReadAs, as_file, as_transfer, form_of, input_of}
pub use Rattle.zone_engine.specs.Machine.Loading.{BeginsAs, IsFirstStop, IsLoaded, IsLoadedOf, ReadsZone, ReadsZoneWithin, RefusesFront, RefusesRead, all_taken, by_ending, by_record, earlier, front_refuses, itself, nothing_pending}
pub use Rattle.zone_engine.specs.Normalise.{IsOfBytes, IsOfReading, Normalises, NormalisesTo, StopsNormalise, WritesNothing, WritesPrefix}
pub use Rattle.zone_engine.specs.Reading.{ConsumesAtMost, IsFailedRead, Reads, ReadsToEnd, ReadsWhole, StopsReading, TellsRead}
pub use Rattle.zone_engine.specs.Refusal.{IfRefused, IsRefusal, IsRefusalWithin, IsRefused, RefusesReading, reading, refused, too_large, too_long, unfinished, unread}
pub use Rattle.zone_engine.specs.Telling.{WritesLine, WritesPartOfLine, argument_of, place_words, records_line, refusal_line, stop_line, verdict_line}
pub use Rattle.zone_engine.specs.declared.comparison.Verdict.{Verdict}
pub use Rattle.zone_engine.specs.declared.comparison.Verdict.TheVariants.{Different, Same}
pub use Rattle.zone_rdata.specs.FaultTable.{fault_row}
pub use Rattle.zone_rdata.proofs.Lists.{bytes_each, each_below}
