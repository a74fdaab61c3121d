-- The names that proofs here cite most: of definitions, and of std.
pub use Rattle.hex.proofs.HexLemmas.{decode_of-ok, decode_of-same, decode_sized-ok}
pub use Rattle.hex.specs.Hex.{encode_lower, lower_digits}
unfoldable pub use Rattle.hex.specs.Hex.{encode_with}
pub use Rattle.std.proofs.Common.{Bool, Err, IsTrue, List, None, Ok, Option, Result, Some, [], add-zero, ap, append-nil, append_assoc, ap₂, arith, bytes_eq, codes, cond, count_by, drop, false, get_or, if◌then◌else◌, inl, inr, length, length-append, lit<, ltb, map, min, nat_eq, nat_lt, not, option_map, refl, replicate, set, subst, suc, sym, take, take-add, take-append-drop, true, w8, zero, zero-add, ℕ, ◌%◌, ◌&&◌, ◌*◌, ◌++◌, ◌+◌, ◌-◌, ◌/◌, ◌<◌, ◌==◌, ◌^◌, ◌||◌, ◌↔◌, ◌∙◌, ◌∷◌, ◌≡◌, ◌≢◌, ◌≤◌, ◌⊎◌}
pub use Rattle.std.proofs.Math.Nat.{mul-le-mul_right, pow-le-pow_right, pow-suc}
pub use Rattle.std.proofs.Math.Seq.{take-length}
pub use Rattle.std.proofs.lemmas.Bool.{and_parts, cases_lt, eqb-true, false≢true, leb-true, ltb-false, ltb-true, not-true}
pub use Rattle.std.proofs.lemmas.Bool.Decides.{eqb_tells, nat_tests}
pub use Rattle.std.proofs.lemmas.Grind.{common_steps}
pub use Rattle.std.proofs.lemmas.List.{drop-drop, drop-map, drop_all, drop_more, flat_map_more, get_or-append_right, get_or-drop, get_or-set_other, get_or-set_same, get_or-take, get_or_append_left, get_or_default, get_or_past, length-drop, length-map, length-replicate, length-take, map-append, map_push, nil_from_length, reverse-append, take-map, take-take, take_all, take_more}
pub use Rattle.std.proofs.lemmas.List.Elements.{All-from_recursion, AllZip-get_or, AllZip-push, filter-append, length_all_zip, recursion_from_All}
pub use Rattle.std.proofs.lemmas.List.Sorted.{All-permutation, IsNonDecreasingBy-from_sort, IsPermutation-middle, IsPermutation-refl, IsPermutation-trans, sum_by-IsPermutation}
pub use Rattle.std.proofs.lemmas.List.Sums.{AllPass-from_list_all, count_by-le-length, length-filter, list_all-from_AllPass, sum_by-cons}
pub use Rattle.std.proofs.lemmas.Result.{IfOk-weaker}
pub use Rattle.std.proofs.lemmas.Slice.Eq.{bytes_eq-Decides}
pub use Rattle.std.specs.Fmt.{digit_glyph, digits_onto}
unfoldable pub use Rattle.std.specs.Fmt.{digits}
pub use Rattle.std.specs.Int.{Width, bit_at, byte_len, to_be_bytes, w16, w32}
pub use Rattle.std.specs.List.{AllByRecursion, AllZip, find, flat_map, join_with_byte, list_all, list_any, onto_first, sum_by}
pub use Rattle.std.specs.List.Sorted.{IsNonDecreasing, IsPermutation}
unfoldable pub use Rattle.std.specs.List.Sorted.{IsStrictlySortedBy}
pub use Rattle.std.specs.Option.{option_copied, option_or}
pub use Rattle.std.specs.Prelude.{IfErr, IfNone, IfSome, IsErrAnd, IsSome, MatchOption, OnErr, filter, fold, is_some, option_and_then, option_to_list, slice_get, slice_index, ⊤}
pub use Rattle.zone_name.proofs.InOctets.Pushing.{AllByRecursion-append, AllByRecursion-back}
pub use Rattle.zone_name.proofs.Spelling.Answered.{FirstFault-once, SpellsCased-faultless, SpellsCased-once}
pub use Rattle.zone_name.specs.Common.{AreOctets, Labels, NothingIs}
pub use Rattle.zone_name.specs.Name.{folded_label, folded_octet, wire, with_length}
pub use Rattle.zone_name.specs.Spelling.{BeginsWithUnit, IsUnit, SpellsCased, Written, escaped, no_octet, octet_of, plain, written_octets, written_text}
pub use Rattle.zone_rdata.proofs.Addresses.AddressGaps.{groups_unique}
pub use Rattle.zone_rdata.proofs.Addresses.Cut.{numbers_unique, split_cut, split_lacks}
pub use Rattle.zone_rdata.proofs.Lists.{bytes_each, each_below, from_place}
pub use Rattle.zone_rdata.proofs.Words.OneWord.{class_word_once, mnemonic_once, numbered_once, word_once}
unfoldable pub use Rattle.zone_rdata.proofs.Words.OneWord.{is_number, own_numbers, unlike}
pub use Rattle.zone_rdata.proofs.Words.Tables.{each_mnemonic, find_mapped, found_each, found_passes}
pub use Rattle.zone_rdata.specs.Item.{IsGeneric, RawItem, generic_mark, raw}
pub use Rattle.zone_rdata.specs.Number.{IsCapped, IsDecimal, decimal_value}
pub use Rattle.zone_rdata.specs.Strings.{item_text}
pub use Rattle.zone_rdata.specs.Table.{Named, NamedType, in_class, mnemonic_among, named, type_names, types}
pub use Rattle.zone_rdata.specs.Words.{IsClass, IsClassWord, IsKind, IsKindWord, IsMnemonic, IsNumbered, IsWordAmong, by_mnemonic, by_number}
pub use Rattle.zone_rdata.specs.declared.fault.Fault.{Fault}
pub use Rattle.zone_rdata.specs.declared.item.Item.{Item}
pub use Rattle.zone_text.proofs.Common.{AllByRecursion-front, Breaks, Cut, IsOneEntry, add_assoc, and_last, append_cancel_left, both_ways, cut_from, depth_after, flat_map-append, in_front, in_front_of, numbered, on_ok_weaker, reverse, sum_by-append, take-append_seam, token_text, word_after}
pub use Rattle.zone_text.proofs.Entries.Begun.{none_left, some_left}
pub use Rattle.zone_text.proofs.Files.Left.{IsSplit, break_more, cut_more, ended_as_before, entries_text, line_feeds, numbered_then, one_ended, split, text_of_entries, turned}
pub use Rattle.zone_text.proofs.Tokens.CutAgain.{AreEnded, again_zero, cut_ended, cut_whole}
pub use Rattle.zone_text.proofs.Tokens.Cuttings.{cut_not_broken, cut_or_broken, follow_after, one_break, one_cut, shorter}
pub use Rattle.zone_text.specs.Entries.{Entry, ended_entries, entry_of, item_of}
pub use Rattle.zone_text.specs.FirstEntry.{FirstIs, IsBrokenOff, IsFirstEntry, IsOpen}
pub use Rattle.zone_text.specs.Inherited.{HasClass, class_word, latest}
pub use Rattle.zone_text.specs.Stated.{directive_in, statement_in}
pub use Rattle.zone_text.specs.Statements.{Parts, Statement, Word, class_among, directive, includes, owned, parts_after, parts_in, sets_origin, sets_ttl, statement_by, statement_of, unknown, unowned}
pub use Rattle.zone_text.specs.Tokens.{AllFollow, AreTokensOf, Cuts, IsToken, MayFollow, Token, blank, closing, comment, ends_item, is_blank, line_feed, opening, text}
pub use Rattle.type_data.proofs.PassedFaults.{fault_answered, fault_passed, found_passed}
pub use Rattle.type_data.specs.Data.{AFieldFails, DataFails, IfDataFault, StateParts, StatesData, at_field, items_left, last_name, too_long}
pub use Rattle.type_data.specs.DataItem.{TouchingItem, given, raw_item}
pub use Rattle.type_data.specs.Fault.{AppendsStated, IfFault, NothingStated}
pub use Rattle.type_data.specs.Field.{FailsBare, FailsField, Items, StatesBare, StatesField, field_meaning, items_after, own_count, own_items, takes_one, text_meaning}
pub use Rattle.type_data.specs.Kinds.Bitmap.{AscendFrom, HasBit, HaveType, IsWindow, Window, window_octets}
pub use Rattle.type_data.specs.Kinds.Time.Calendar.{IsDateTime, days_of_years}
pub use Rattle.type_data.specs.Kinds.Hexadecimal.{IsHex}
pub use Rattle.type_data.specs.Kinds.Location.{AreCentimetres, ArePartsOfDegree, BeginsWithAltitude, BeginsWithPlace, BeginsWithSize, FailsLocation, IsAltitude, IsAngle, IsFirstDigit, IsHalfOf, IsLocation, IsScaled, OfBareItem, StatesLocation, above, below, from_middle, letter, location_octets, most_degrees, with_point, without_m}
pub use Rattle.type_data.specs.Kinds.Number.{IsInOctets, NumberFails, digits_number}
pub use Rattle.type_data.specs.Kinds.Types.{FailsPerhapsTypes, FailsTypes, NameType, NamesAType, NamesType, StatesPerhapsTypes, StatesTypes}
pub use Rattle.type_data.specs.Machine.Cuts.{IsCutFirst, IsCutLast, IsMissing}
pub use Rattle.type_data.specs.Kinds.Location.Machine.{BeginsWithMinus, IsAfterMinus, IsCutAtHalf, IsNoHalf, IsWholeIn, UpTo, minus}
pub use Rattle.type_data.specs.Parameters.Machine.Parts.{FailsEscaped, HasName, HasNoItems, IsAddressOf, IsKeyNumber, wrong}
pub use Rattle.type_data.specs.Parameters.Machine.Stated.{AddsParameter, AreSent, FailsAfter, HasStated, Holds, again, all_sent, keyless, valueless}
pub use Rattle.type_data.specs.Mnemonics.{IsAlgorithm, IsNumberOrMnemonic, IsTypeWord, algorithms, certificate_types, further_algorithms, name_of, notify_schemes}
pub use Rattle.type_data.specs.Parameters.{AreComplete, AreOnce, Ascend, BeginWithKey, BeginWithNoKey, FailsParameters, IsNew, IsShort, IsThere, Parameter, Precede, Sent, StateEach, StatesParameter, StatesParameters, all_required, bad_value, long_value, missing_key, no_key, repeated_key, sent, sent_octets}
pub use Rattle.type_data.specs.Parameters.Keys.{SpellsKey, key_text}
pub use Rattle.type_data.specs.Parameters.Text.{BeginWith, BeginWithTouchingQuote, ParameterText, alone, bare_value, placed, quoted_value}
pub use Rattle.type_data.specs.Parameters.Value.{AscendAbove, FailsValue, HasEscapes, IsKeyText, IsProtocol, ListsAddresses, ListsItems, ListsKeys, ListsProtocols, RequiresKeys, StatesPath, StatesValue, bad_escape, listed}
unfoldable pub use Rattle.type_data.specs.Table.{early_types, late_types, signed_types}
pub use Rattle.type_data.specs.Table.{FurtherType, IsFurtherWord, NamedField, RegisteredType, address_kind, field_of, further_in, further_names, further_of, further_type, further_types, in_words, is_one, key_kind, name_only, number_at, registered_of, registered_type, registered_types, type_registry}
pub use Rattle.type_data.specs.Unescaped.{ComesToBadEscape, Unescaped}
pub use Rattle.type_data.specs.declared.data_item.DataItem.{DataItem}
pub use Rattle.type_data.specs.declared.fault.WordsFault.{WordsFault}
pub use Rattle.type_data.specs.declared.fault.WordsFault.TheVariants.{BadEscape, LineFeedWithinQuotes, MandatoryKeyMissing, NotAKey, NotALocation, NotAName, NotATime, RepeatedKey, TooLong, TooManyItems}
pub use Rattle.type_data.specs.declared.parameters.key.Key.{Key}
pub use Rattle.type_data.specs.declared.parameters.key.Key.TheVariants.{Alpn, DohPath, Ech, Ipv4Hint, Ipv6Hint, Mandatory, NoDefaultAlpn, Numbered, Ohttp, Port}
