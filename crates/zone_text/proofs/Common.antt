-- The names that proofs here cite most: of definitions, and of std.
pub use Rattle.std.proofs.Common.{Bool, Bor, Err, IfSome, List, MatchOption, None, Ok, Option, Result, Some, [], add-one, add-zero, add_assoc, ap, append_assoc, arith, bytes_eq, codes, cond, drop, drop-cons, drop_of_length-le, false, get_or, if◌then◌else◌, inl, inr, is_ok, length, length-append, lit<, lit≤, map, min, nat_eq, nat_le, refl, rules, subst, suc, sym, take, true, zero, zero-add, ℕ, ◌&&◌, ◌++◌, ◌+◌, ◌-◌, ◌<◌, ◌==◌, ◌^◌, ◌||◌, ◌↔◌, ◌∙◌, ◌∷◌, ◌≡◌, ◌≢◌, ◌≤◌, ◌⊎◌}
pub use Rattle.std.proofs.Math.Seq.{drop-append_seam, take-append_seam, take-length}
pub use Rattle.std.proofs.lemmas.Bool.{agree_below_at, and_cases, and_parts, both_ways, cases_Bool, cases_eq, cases_lt, cond_both, eqb-false, eqb-true, leb-false, leb-true, ne_eqb, not-false, not-true, or_cases, or_parts}
pub use Rattle.std.proofs.lemmas.Grind.{common_steps}
pub use Rattle.std.proofs.lemmas.List.{append-nil, append_cancel_left, drop-drop, drop-map, flat_map_more, length-drop, length-map, length-take, map-append, reverse-append, take-append-drop, take-map}
pub use Rattle.std.proofs.lemmas.List.Concat.{flat_map-append}
pub use Rattle.std.proofs.lemmas.List.Elements.{All-more, recursion_from_All}
pub use Rattle.std.proofs.lemmas.List.Sums.{sum_by-append, sum_by-cons}
pub use Rattle.std.proofs.lemmas.Result.{err_from_is_err_and, on_ok_weaker}
pub use Rattle.std.proofs.lemmas.Slice.Eq.{bytes_eq-Decides}
pub use Rattle.std.specs.List.{All, AllByRecursion, count_by, flat_map, join_with_byte, list_all, list_any}
pub use Rattle.std.specs.Option.{option_or}
pub use Rattle.std.specs.Prelude.{IsSomeAnd, OnOk, is_some, option_and_then, option_map, reverse, slice_get, unwrap_or, ⊤}
pub use Rattle.zone_name.proofs.InOctets.Pushing.{AllByRecursion-append, AllByRecursion-back, AllByRecursion-front}
pub use Rattle.zone_name.proofs.Spelling.Units.{NoUnit, UnitsAre, at_backslash, at_end, at_octet, text_of-some, unit_of_escape, units_first_are, units_first_only}
pub use Rattle.zone_name.specs.Common.{Labels, NothingIs}
pub use Rattle.zone_name.specs.Machine.Units.{Units}
unfoldable pub use Rattle.zone_name.specs.Machine.Units.{units_by, units_first}
pub use Rattle.zone_name.specs.Name.{IsName, folded_label, folded_octet, wire}
unfoldable pub use Rattle.zone_name.specs.Name.{labels_of}
pub use Rattle.zone_name.specs.Spelling.{IsBadEscape, IsEscape, IsUnit, SpellingFault, Spells, Written, absolute, at_origin, decimal, empty_label, escaped, is_digit, is_dot, no_octet, octet_of, plain, relative, text_of, within, written_octets, written_text}
pub use Rattle.zone_name.specs.declared.fault.NameFault.TheVariants.{EmptyLabel}
pub use Rattle.zone_rdata.proofs.FedSources.{stands_given, stands_none, stands_record, stands_stop}
pub use Rattle.zone_rdata.proofs.Items.LeftOut.{after_item, are_many, begin_with, fault_of_all, one_kept, one_left_out, state_none}
pub use Rattle.zone_rdata.specs.DataFault.{IsDataFault}
pub use Rattle.zone_rdata.specs.Fault.{IfFault, fault_of}
pub use Rattle.zone_rdata.specs.FedSource.{SourceState, is_finished}
pub use Rattle.zone_rdata.specs.Item.{RawItem, raw}
pub use Rattle.zone_rdata.specs.LeftOut.{AreShortened, LeavesOut}
pub use Rattle.zone_rdata.proofs.Items.LeftOut.{IsWritten}
pub use Rattle.zone_rdata.specs.Minimum.{minimum}
pub use Rattle.zone_rdata.specs.Number.{Group, IsDecimal, IsTime, IsTimeGroup, decimal_value, group_text}
pub use Rattle.zone_rdata.specs.Record.{Data, IsRecord, Record, data_of}
pub use Rattle.zone_rdata.specs.Spelling.{States, in_words}
pub use Rattle.zone_rdata.specs.Strings.{SpellsString, is_quote, item_text}
pub use Rattle.zone_rdata.specs.Words.{IsClass, IsClassWord, IsKind, IsKindWord, IsNumbered, IsWordFault, beyond, by_mnemonic, by_number, for_queries}
pub use Rattle.zone_rdata.specs.declared.fault.Fault.{Fault}
pub use Rattle.zone_rdata.specs.declared.fault.Fault.TheVariants.{BadDirective, BadEscape, BadTtl, IncludeDirective, MetaType, NoOwner, NoTtl, UnbalancedParenthesis, UnclosedQuote, UnknownDirective, UnknownType}
pub use Rattle.zone_rdata.specs.declared.fault.Place.{Place}
pub use Rattle.zone_rdata.specs.declared.fault.Place.TheVariants.{Line}
pub use Rattle.zone_rdata.specs.declared.item.Item.{Item}
pub use Rattle.zone_rdata.specs.declared.queue.PendingRecords.{PendingRecords}
pub use Rattle.zone_rdata.specs.declared.record.Placed.{Placed}
pub use Rattle.zone_text.specs.Breaks.{Breaks, IsBroken, MayEndBefore, closes_nothing, no_escape, no_quote, no_quoted_escape, not_closed}
pub use Rattle.zone_text.specs.Decided.{AreTokens, FileDecides, Stays, decided, undecided}
pub use Rattle.zone_text.specs.Entries.{Cut, Entry, and_last, cut_from, ended_entries, entries_of, entry_of, in_front, in_front_of, item_of, numbered, open_line}
pub use Rattle.zone_text.specs.EntryFault.{EntryFault, IsNameFaultAfter, PartsFault, StatementFault, TtlFault, WordFault, long, none, of_parts, of_rdata, of_statement, of_ttl}
pub use Rattle.zone_text.specs.ExampleEntries.{address, ns, soa, under, x}
pub use Rattle.zone_text.specs.FirstEntry.{IsBrokenOff, IsFirstEntry, IsOneEntry, IsOpen}
pub use Rattle.zone_text.specs.Kept.{AreKept, KeepsItems}
pub use Rattle.zone_text.specs.Stated.{directive_in, statement_in}
pub use Rattle.zone_text.specs.File.{EntriesState, FileStates, states_none, states_one}
pub use Rattle.zone_text.specs.FileReads.{Ending, FileReads, ReadEach, broken, refused, stated, whole}
pub use Rattle.zone_text.specs.Inherited.{HasClass, IsLastOwner, IsOrigin, IsOwner, IsTtl, SpellsAfter, class_word, default_ttl_text, latest, origin_text, owner_text, stated_ttl, ttl_text}
pub use Rattle.zone_text.specs.Lasting.{BreaksAtEnd, BreaksForGood, EndInLineFeed, IsCutOff, IsLostEscape, StaysBroken, after_backslash, after_digit, after_two_digits, at_line_end, closing_stays, escape_open, escape_stays, nothing_left, one_digit, quote_open, quoted_escape_open, quoted_escape_stays, too_great, two_digits}
pub use Rattle.zone_text.specs.Line.{IsItem, StatesWhole, line_of}
pub use Rattle.zone_text.specs.Machine.Cutting.{Cutting, Front, Sign, a_blank, a_closing, a_line_feed, a_quote, a_semicolon, an_opening, bare_front, cut_on, depth_past, end_front, front_by, of_item, quoted_front, sign_of, stops, takes}
unfoldable pub use Rattle.zone_text.specs.Machine.Cutting.{before_line_feed, cut_by, cutting, from_line_feed, front_of}
pub use Rattle.zone_text.proofs.Entries.Heads.{HasHeadOf, Head}
pub use Rattle.zone_text.specs.Machine.EntryReading.{AppendsRecord, DecidesEntry, HasOwnerOrNone, IsRecordEntry, decides_fault, decides_none, decides_one, one_bare, with_owner}
pub use Rattle.zone_text.specs.Machine.Feeding.{Follow, IsSplitter, ReadsEntry, ReadsOctets, state_of}
pub use Rattle.zone_text.specs.Machine.ItemLengths.{EndsAt, ends_within, stops_bare, stops_within}
pub use Rattle.zone_text.specs.Machine.Kept.{IsShort, Keeps, KeepsBare}
pub use Rattle.zone_text.specs.Machine.Lower.{Choices, Lower, Once}
pub use Rattle.zone_text.specs.Machine.WordTexts.{HaveTexts}
pub use Rattle.zone_text.specs.Machine.WordValues.{AreWordsOf, HaveValues}
pub use Rattle.zone_text.specs.Outcome.{AllState, AreOctetItems}
pub use Rattle.zone_text.specs.ParserState.{IsOneOrNone, IsStateAfter, IsTtlOrNone}
pub use Rattle.zone_text.specs.Records.{EntryStates, HasContents, HasHead, HasTtl, HasValue, IsLastMinimum, StatesMinimum, StatesNothing}
pub use Rattle.zone_text.specs.Statements.{Parts, Statement, Word, are_digits, begins_with_digit, class, class_among, directive, includes, is_class_word, no_items, owned, parts_after, parts_in, sets_origin, sets_ttl, statement_by, statement_of, ttl, ttl_among, unknown, unless_stated, unowned, word_after}
pub use Rattle.zone_text.specs.TextSource.{AreUnfinished, FileKept, FileLeaves, StandsForFile}
pub use Rattle.zone_text.specs.Tokens.{AllFollow, AreTokensOf, Cuts, IsToken, MayFollow, Token, bare, blank, closing, comment, depth_after, ends_item, is_blank, line_feed, opening, quoted, text, token_text}
pub use Rattle.zone_text.specs.declared.ended.EndedEntries.{EndedEntries}
pub use Rattle.zone_text.specs.declared.parser_state.ParserState.{ParserState}
pub use Rattle.zone_text.specs.declared.splitter.EntrySplitter.{EntrySplitter}
pub use Rattle.zone_text.specs.declared.words.Words.{Words}
