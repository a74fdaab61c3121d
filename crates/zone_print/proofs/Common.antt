-- The names that proofs here cite most: of definitions, and of std.
pub use Rattle.std.proofs.Common.{Bool, Equal, Err, IfErr, IsTrue, Less, List, None, Ok, OnErr, Option, Result, Some, [], add-zero, ap, append_assoc, ap₂, arith, codes, cond, decimal, drop, eq-eqb, false, if◌then◌else◌, inl, inr, length, length-append, map, nat_lt, refl, rules, subst, suc, sym, take, take-append-drop, true, zero, ℕ, ⊎_elim, ◌%◌, ◌*◌, ◌++◌, ◌+◌, ◌/◌, ◌<◌, ◌==◌, ◌^◌, ◌||◌, ◌↔◌, ◌∙◌, ◌∷◌, ◌≡◌, ◌≢◌, ◌≤◌}
pub use Rattle.std.proofs.KnownBytes.{Appends-trans, Keeps-refl}
pub use Rattle.std.proofs.lemmas.Grind.{common_steps}
pub use Rattle.std.proofs.lemmas.List.{append-nil, length-map}
pub use Rattle.std.proofs.lemmas.Result.{MatchResult-weaker, err_from_is_err_and}
pub use Rattle.std.specs.List.{AllByRecursion, count_by, flat_map, join_with_byte, list_all}
pub use Rattle.std.specs.Prelude.{IfSome, fold, slice_get, slice_index}
pub use Rattle.zone_name.proofs.Texts.Sinks.{Took, Took-more}
pub use Rattle.zone_name.specs.Common.{Labels}
pub use Rattle.zone_name.specs.Text.{decimal_escape, is_printed, is_special, label_text, name_text, octet_text}
pub use Rattle.zone_print.specs.Canonical.{canon, line, lines, text_limit}
pub use Rattle.zone_print.specs.Denotes.{Denotes}
pub use Rattle.zone_print.specs.Laws.{EndsWithItsFeed, HasNoFeed, IsLineOf, placed_from}
pub use Rattle.zone_print.specs.Writing.{AppendsPart, StopsWrite, large, memory}
pub use Rattle.zone_rdata.specs.Lent.{record_of}
pub use Rattle.zone_rdata.specs.Record.{Data, IsRdata, IsRecord, Record, data_of}
pub use Rattle.zone_rdata.specs.Text.{data_items, data_text, laid_out_items, written_item}
pub use Rattle.zone_rdata.specs.Words.{IsClass, IsClassWord, IsKind, IsKindWord, class_mnemonic, class_text, kind_text, laid_out_mnemonic, word_or_numbered}
pub use Rattle.zone_rdata.specs.declared.record.Placed.{Placed}
pub use Rattle.zone_set.specs.Refusal.{records_of}
pub use Rattle.zone_set.specs.Zone.{Has, IsZone, SameRecords, Zone}
pub use Rattle.zone_text.specs.Entries.{Cut, Entry, and_last, cut_from, entries_of, entry_of, item_of, numbered}
pub use Rattle.zone_text.specs.File.{EntriesState, FileStates, states_one}
pub use Rattle.zone_text.specs.Line.{IsItem, StatesWhole, line_of}
pub use Rattle.zone_text.specs.Tokens.{Cuts, Token, is_blank, text}
pub use Rattle.zone_print.specs.Device.{Device, WorksOn}
pub use Rattle.zone_rdata.specs.Spelling.{RawItem, States}
