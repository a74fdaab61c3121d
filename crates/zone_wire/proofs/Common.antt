-- The names that proofs here cite most: of definitions, and of std.
pub use Rattle.std.proofs.Common.{Bool, List, [], ap, append_assoc, ap₂, arith, false, get_or-drop, inl, inr, length, length-append, lit<, lit≤, nat_eq, nat_le, nat_lt, refl, rules, subst, suc, sym, take-add, true, vec_len, zero, ℕ, ◌%◌, ◌*◌, ◌++◌, ◌+◌, ◌-◌, ◌/◌, ◌<◌, ◌^◌, ◌∙◌, ◌∷◌, ◌≡◌, ◌≢◌, ◌≤◌}
pub use Rattle.std.proofs.lemmas.Bool.{and_cases, and_from, and_parts, cases_lt, cond-false, cond-true, cond_both, eq-eqb, eqb-false, eqb-true, false_from_ne_true, false≢true, le-leb, le-ltb, leb-false, leb-true, lt-leb, lt-ltb, ltb-false, ltb-true, ne_eqb, not-false, or_from, or_left, or_parts, or_right, true_from_ne_false}
pub use Rattle.std.proofs.lemmas.Bool.Decides.{nat_tests}
pub use Rattle.std.proofs.lemmas.Grind.{common_steps}
pub use Rattle.std.proofs.lemmas.List.{append-nil, drop-drop, drop-take, drop_all, drop_at, drop_more, length-drop, length-map, length-set, length-take, length-take-le, map-append, reverse-reverse, take-append-drop, take-map, take-take, take_all, take_at, take_more_set}
pub use Rattle.std.proofs.lemmas.List.Concat.{flat_map-append}
pub use Rattle.std.proofs.lemmas.List.Elements.{filter-append}
pub use Rattle.std.proofs.lemmas.Nat.{be_bytes_4, from_be_bytes-to_be_bytes_2, from_be_bytes-to_be_bytes_4}
pub use Rattle.std.proofs.lemmas.Result.{IfOk-weaker, err_from_is_err_and, on_ok_weaker}
pub use Rattle.std.proofs.lemmas.Simd.{chunk-fits, length-chunk, length-put_chunk, length-replicate, map-map, splat_is_map, take_more_put_chunk, zip2_of_maps, zip2_splat}
pub use Rattle.std.specs.Cmp.Lexicographic.{bytes_decides, pointwise, pointwise_decides}
pub use Rattle.std.specs.Int.{from_be_bytes, to_be_bytes, w16, w32}
pub use Rattle.std.specs.List.{AllByRecursion, filter, flat_map, list_all, list_any}
pub use Rattle.std.specs.Option.{option_or, unwrap_or}
pub use Rattle.std.specs.Prelude.{Err, IfErr, IfOk, IfSome, IsErr, IsOk, IsTrue, MatchOption, MatchResult, None, Ok, Option, Result, Some, drop, get_or, if◌then◌else◌, is_some, map, not, reverse, slice_get, slice_index, take, ⊤, ◌&&◌, ◌==◌, ◌||◌, ◌↔◌, ◌⊎◌}
pub use Rattle.zone_name.proofs.InOctets.Octets.{labels_of-open, labels_of-open_cased, length-frames}
pub use Rattle.zone_name.proofs.InOctets.Pushing.{AllByRecursion-append, HoldsLabels-frames, HoldsLabels-nil, HoldsName-finish, IsLabel-folded, folded_frames, folded_labels, frames_push, labels_of-finish, labels_of-none}
pub use Rattle.zone_name.specs.Common.{EitherIs, IsVerdict}
pub use Rattle.zone_name.specs.Name.{HoldsLabels, IsCasedLabel, IsLabel, IsName, folded, folded_label, folded_octet, labels_of, wire, with_length}
pub use Rattle.zone_rdata.proofs.Octets.Building.{octets_push}
pub use Rattle.zone_rdata.proofs.Octets.Bytes.{Bytes, back_bytes, bytes_append, front_bytes}
pub use Rattle.zone_rdata.proofs.Failings.{IfErr-fault, fault_answered, if_fault_passed}
pub use Rattle.zone_rdata.proofs.FedSources.{stands_given, stands_none, stands_record, stands_stop}
pub use Rattle.zone_rdata.proofs.Fields.Strings.{Framed, framed_short, some_frames}
pub use Rattle.zone_rdata.proofs.Lists.{bytes_each}
pub use Rattle.zone_rdata.proofs.Words.Tables.{table_row}
pub use Rattle.zone_rdata.specs.Builder.{Built, FitsString, IsNext, IsPushFault, IsWhole, Pushes, ends_with_strings, long_string, misplaced, part_at, too_long}
pub use Rattle.zone_rdata.specs.Cause.{fault_for}
pub use Rattle.zone_rdata.specs.Fault.{IfFault}
pub use Rattle.zone_rdata.proofs.Octets.Each.{HoldEach}
pub use Rattle.zone_rdata.specs.Field.{FieldValue, Holds, Suits, field_at, field_octets, fixed, name, octets_of, string, strings, u16_value, u32_value}
pub use Rattle.zone_rdata.specs.Fields.OneString.{string_at}
pub use Rattle.zone_rdata.specs.Fields.Strings.{AreStrings, strings_by}
unfoldable pub use Rattle.zone_rdata.specs.Fields.Strings.{strings_of}
pub use Rattle.zone_rdata.specs.Layout.{IsData, IsSized, StringsLast, fields_of, layout}
pub use Rattle.zone_rdata.specs.Record.{Data, IsRecord, Record, record_with}
pub use Rattle.zone_rdata.specs.Strings.{IsString}
pub use Rattle.zone_rdata.specs.Words.{IsClass, IsKind, is_meta}
pub use Rattle.zone_rdata.specs.declared.fault.Failing.{Failing}
pub use Rattle.zone_rdata.specs.declared.fault.Fault.{Fault}
pub use Rattle.zone_rdata.specs.declared.fault.Fault.TheVariants.{AfterClosing, BadClass, BadPointer, BadQuestion, BadRdata, CompressibleType, IdMismatch, MetaType, NameTooLong, NoOpeningSoa, ShortFrame, ShortMessage, SoaMismatch, TooManyPointers, TrailingOctets}
pub use Rattle.zone_rdata.specs.declared.fault.Place.{Place}
pub use Rattle.zone_rdata.specs.declared.fault.Place.TheVariants.{Message}
pub use Rattle.zone_rdata.specs.declared.fed.FedStatus.TheVariants.{Finished, Open}
pub use Rattle.zone_rdata.specs.declared.field.Field.{Field}
pub use Rattle.zone_rdata.specs.declared.field.Field.TheVariants.{Name, Octets, OneString, Serial, Strings, Time, U16}
pub use Rattle.zone_rdata.specs.declared.record.Placed.{Placed}
pub use Rattle.zone_wire.specs.AnswerFault.{AnswerFault, AnswersGive, OrderFault, OwnFault, no_more, states}
pub use Rattle.zone_wire.specs.Answers.{AgreeWith, ComesAfter, ZoneAsked, handed_on, is_closed, zone_of}
pub use Rattle.zone_wire.specs.DataFault.{DataFault, FieldFault, FieldsFault, IsFieldAt}
pub use Rattle.zone_wire.specs.Examples.{WalkEnds, after_zeros, answer_header, closing_x, ends_with, first_message, message_with, numbers, opening_x, placed_soa, question_x, record_of_class, record_x, second_message, server_x, small_body, small_message, soa_message}
pub use Rattle.zone_wire.specs.Frames.{IsFramed}
pub use Rattle.zone_wire.specs.Machine.Answers.{agrees, order_fault, same_name, same_record}
pub use Rattle.zone_wire.specs.Machine.Data.{name_before, sized_before, strings_before, values_at}
unfoldable pub use Rattle.zone_wire.specs.Machine.Data.{data_at, value_at}
pub use Rattle.zone_wire.specs.Machine.DataReading.{Awaits, AwaitsStrings, IsRead, IsReadyFor, PutsValue, PutsValues, Reads, TakesOctets, data_of, next_value, parts_for, put_after}
pub use Rattle.zone_wire.specs.Machine.Feeding.{Follow, Going, IsCut}
pub use Rattle.zone_wire.specs.Machine.Finding.{Outcome, after_label, after_pointer, named, refused}
unfoldable pub use Rattle.zone_wire.specs.Machine.Finding.{outcome}
pub use Rattle.zone_wire.specs.Machine.Parsing.{AreRecordsAt, HasRecordsFrom, IsParsed, name_end_of, parsed, part_end_of, raw_from, run_end_of, sections_or_none}
pub use Rattle.zone_wire.specs.Machine.Room.{IsRoom, IsRun}
pub use Rattle.zone_wire.specs.Machine.Sections.{after_header, and_then, at_offset, each_from, inside, question_at, questions_from, record_at, records_from, to_the_end, unless_faulted}
unfoldable pub use Rattle.zone_wire.specs.Machine.Sections.{header_fault, sections_of}
pub use Rattle.zone_wire.specs.Machine.Spot.{IsSound, spot_of}
pub use Rattle.zone_wire.proofs.Records.NextAnswers.{Answered, answers_of, asks_for, before_others, has_first_id, is_no_class, of_answers, of_sections}
unfoldable pub use Rattle.zone_wire.proofs.Records.NextAnswers.{answer_record, next_message, own_record, stream_records}
pub use Rattle.zone_wire.specs.Machine.Transferring.{Among, Gains, Hands, HeadFault, IfNoMemory, IsAfter, IsRefused, IsTaken, ReadsNext, StopsIn, Takes, TakesEach, TakesHead, TakesMessage, TakesMessageUpTo, TakesUpTo, TakesWhole, other_id, other_zone, zone_held, zone_with}
pub use Rattle.zone_wire.specs.Machine.Walk.{Spot, label_of, outset, past_label, past_pointer, pointer_of, walk_on}
unfoldable pub use Rattle.zone_wire.specs.Machine.Walk.{ending, standing_in, walk, walk_by}
pub use Rattle.zone_wire.specs.Message.{AreAt, HasCounts, HasHeader, IsMessage, IsPartAt, IsQuestionAt, IsRecordAt, IsResponse, QuestionAt, RecordAt, Sections, ancount_of, arcount_of, qdcount_of, question_by, record_by, u16_at, u32_at}
pub use Rattle.zone_wire.specs.MessageFault.{FaultIn, MessageFault, PartFault}
pub use Rattle.zone_wire.specs.Name.{At, Found, IsLabelAt, IsNameAt, IsPointerAt, found_by, label, label_at, pointer, root, target_at}
pub use Rattle.zone_wire.specs.Stream.{AreRead, AskAfter, AsksIn, FaultAfter, GiveAfter, HasFirstId, IsReadAfter, ReadAfter, StreamDecides, StreamReads, asked_in, end_fault, octets_in, placed_in, reads, stops, whole}
pub use Rattle.zone_wire.specs.Transfer.{AnswerStates, AnswersState, AreFieldsAt, AreStatedMessages, AreValuesAt, AsksFor, IsDataAt, IsReadable, IsStatedMessage, IsValueAt, StatedMessage, StreamStates, compressible, frame, octets_between, ttl_of}
pub use Rattle.zone_wire.specs.TransferSource.{AreAlike, StandsForStream, StreamKept, first_id, opening_of}
pub use Rattle.zone_wire.specs.Unless.{NoFault, Unless, fails, holds}
pub use Rattle.zone_wire.specs.View.{RawRecord, asked, raw_at}
pub use Rattle.zone_wire.specs.Visits.{LeadToLast, is_label, labels_in, pointers_in}
pub use Rattle.zone_wire.specs.Walk.{FaultHere, IsWalk, NameFault, Standing, Visit, Walks, at_fault, at_label, at_pointer, at_root, by_pointer, outside, over_label, to_fault, to_root, visit}
pub use Rattle.zone_wire.specs.declared.cursor.Cursor.{Cursor}
pub use Rattle.zone_wire.specs.declared.message.Question.{Question}
pub use Rattle.zone_wire.specs.declared.transfer.Transfer.{Transfer}
