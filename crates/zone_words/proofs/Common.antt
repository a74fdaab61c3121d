-- The names that proofs here cite most: of definitions, and of std.
pub use Rattle.hex.proofs.HexLemmas.{decode_of-ok, decode_of-same}
pub use Rattle.hex.specs.Hex.{encode_lower, lower_digits}
unfoldable pub use Rattle.hex.specs.Hex.{encode_with}
pub use Rattle.std.proofs.Common.{Bool, Err, IsTrue, List, None, Ok, Option, Result, Some, [], ap, append-nil, append_assoc, arith, bytes_eq, codes, cond, count_by, drop, false, get_or, if◌then◌else◌, inl, inr, length, length-append, map, nat_eq, nat_lt, not, option_map, refl, subst, suc, sym, take, take-append-drop, true, zero, zero-add, ℕ, ◌%◌, ◌&&◌, ◌++◌, ◌+◌, ◌-◌, ◌/◌, ◌<◌, ◌==◌, ◌||◌, ◌↔◌, ◌∙◌, ◌∷◌, ◌≡◌, ◌≢◌, ◌≤◌, ◌⊎◌}
pub use Rattle.std.proofs.Math.Seq.{take-length}
pub use Rattle.std.proofs.lemmas.Bool.{cases_lt, false≢true, not-true}
pub use Rattle.std.proofs.lemmas.Bool.Decides.{nat_tests}
pub use Rattle.std.proofs.lemmas.Grind.{common_steps}
pub use Rattle.std.proofs.lemmas.List.{drop-drop, drop_all, get_or_past, length-map, length-take, map-append, map_push, reverse-append}
pub use Rattle.std.proofs.lemmas.List.Elements.{recursion_from_All}
pub use Rattle.std.proofs.lemmas.List.Sums.{count_by-le-length, sum_by-cons}
pub use Rattle.std.proofs.lemmas.Result.{IfOk-weaker}
pub use Rattle.std.proofs.lemmas.Slice.Eq.{bytes_eq-Decides}
pub use Rattle.std.specs.Fmt.{digit_glyph, digits_onto}
unfoldable pub use Rattle.std.specs.Fmt.{digits}
pub use Rattle.std.specs.List.{AllByRecursion, AllZip, find, flat_map, list_all, list_any}
pub use Rattle.std.specs.Option.{option_or}
pub use Rattle.std.specs.Prelude.{IfNone, IsSome, MatchOption, OnErr, filter, is_some, option_and_then, option_to_list, slice_get, slice_index, ⊤}
pub use Rattle.zone_name.proofs.InOctets.Pushing.{AllByRecursion-append, AllByRecursion-back}
pub use Rattle.zone_name.proofs.Spelling.Answered.{SpellsCased-faultless, SpellsCased-once}
pub use Rattle.zone_name.specs.Common.{AreOctets, Labels, NothingIs}
pub use Rattle.zone_name.specs.Name.{folded_label}
pub use Rattle.zone_name.specs.Spelling.{IsUnit, SpellsCased, Written, escaped, plain, written_text}
pub use Rattle.zone_rdata.proofs.Lists.{each_below}
pub use Rattle.zone_rdata.proofs.Words.OneWord.{class_word_once, word_once}
unfoldable pub use Rattle.zone_rdata.proofs.Words.OneWord.{is_number, own_numbers, unlike}
pub use Rattle.zone_rdata.proofs.Words.Tables.{each_mnemonic, find_mapped, found_each}
pub use Rattle.zone_rdata.specs.Item.{IsGeneric, RawItem, generic_mark, raw}
pub use Rattle.zone_rdata.specs.Strings.{item_text}
pub use Rattle.zone_rdata.specs.Table.{Named, in_class, mnemonic_among, named, type_names, types}
pub use Rattle.zone_rdata.specs.Words.{IsClass, IsClassWord, IsKindWord, IsMnemonic, IsNumbered, IsWordAmong, by_mnemonic, by_number}
pub use Rattle.zone_rdata.specs.declared.fault.Fault.{Fault}
pub use Rattle.zone_rdata.specs.declared.item.Item.{Item}
pub use Rattle.zone_text.proofs.Common.{AllByRecursion-front, Breaks, Cut, IsOneEntry, add_assoc, and_last, append_cancel_left, both_ways, cut_from, depth_after, flat_map-append, in_front, in_front_of, numbered, on_ok_weaker, reverse, sum_by-append, take-append_seam, token_text, word_after}
pub use Rattle.zone_text.proofs.Entries.Begun.{none_left, some_left}
pub use Rattle.zone_text.proofs.Files.Left.{IsSplit, break_more, cut_more, ended_as_before, entries_text, line_feeds, numbered_then, one_ended, split, text_of_entries, turned}
pub use Rattle.zone_text.proofs.Tokens.CutAgain.{AreEnded, again_zero, cut_ended, cut_whole}
pub use Rattle.zone_text.proofs.Tokens.Cuttings.{cut_not_broken, cut_or_broken, follow_after, one_break, one_cut, shorter}
pub use Rattle.zone_text.specs.Entries.{Entry, ended_entries, entry_of, item_of}
pub use Rattle.zone_text.specs.FirstEntry.{FirstIs, IsBrokenOff, IsFirstEntry, IsOpen}
pub use Rattle.zone_text.specs.Inherited.{HasClass, class_word, latest}
pub use Rattle.zone_text.specs.Stated.{directive_in}
pub use Rattle.zone_text.specs.Statements.{Parts, Statement, Word, class_among, directive, includes, owned, parts_after, parts_in, sets_origin, sets_ttl, statement_by, statement_of, unknown, unowned}
pub use Rattle.zone_text.specs.Tokens.{AllFollow, AreTokensOf, Cuts, IsToken, MayFollow, Token, blank, closing, comment, ends_item, is_blank, line_feed, opening, text}
pub use Rattle.type_data.specs.Data.{DataFails, StatesData}
pub use Rattle.type_data.specs.DataItem.{TouchingItem, given}
pub use Rattle.zone_words.specs.Entry.{AreOnOneLine, BecomesUnder, IsFurtherRecord, IsFurtherUnder, IsRefused, IsRewriting, SaysAnew, TokensFail, TokensSay, anew, in_generic_form, kept, line_feeds_in, most_items, no_data, on_more_lines, refusal, refused, too_many, touching_items}
pub use Rattle.zone_words.specs.Inherited.{IsInherited, IsInternetAfter, IsOneOrNone}
pub use Rattle.zone_words.specs.Machine.FedWriting.{FollowInPart, FollowOn, HasWritten, HasWrittenAll, HasWrittenInPart, IsFedWriter, IsLeft, PushesOctets, TakesFront, WritesAll, count_reach, held_of, line_reach, state_of}
pub use Rattle.zone_words.specs.Machine.Further.{FindsParts, IsRecordOf, NoneIsFurther}
pub use Rattle.zone_words.specs.Machine.KnownItems.{FollowsItem, FollowsItems, FrontIs, KeepsGap, PassesGap, StandsAround, before_item, from_item, past_items}
pub use Rattle.zone_words.specs.Machine.Walking.{BeginsBlank, WritesBetween}
pub use Rattle.zone_words.specs.Origin.{IsCasedOrigin, NamesOrigin, origin_items}
pub use Rattle.zone_words.specs.Refusal.{AddsTold, AreInShort, first_of, refused_of}
pub use Rattle.zone_words.specs.Rewriter.{GoesOn, HeldText, IsSoFar, RewriterState, RewritesFile, StandsForRewriting, StandsInPart, all_given, going, stopped}
pub use Rattle.zone_words.specs.Rewriting.{AreEntries, Becomes, EachBecomes, IsRewritten, IsRewrittenInPart, IsRewrittenSoFar, IsStopped, Outcome, Refused, broken, told_of, written_of}
pub use Rattle.type_data.specs.Table.{FurtherType, IsFurtherWord, further_names, further_of, further_type, further_types}
pub use Rattle.zone_words.specs.Written.{Anew, digit_tokens, generic_tokens, renamed, stays, type_token, word, written}
pub use Rattle.type_data.specs.declared.data_item.DataItem.{DataItem}
pub use Rattle.type_data.specs.declared.fault.WordsFault.{WordsFault}
pub use Rattle.type_data.specs.declared.fault.WordsFault.TheVariants.{LineFeedWithinQuotes, TooManyItems}
pub use Rattle.zone_words.specs.declared.inherited.Inherited.{Inherited}
