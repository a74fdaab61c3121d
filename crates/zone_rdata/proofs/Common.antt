-- The names that proofs here cite most: of definitions, and of std.
pub use Rattle.hex.proofs.HexLemmas.{IsOk-decode_sized, decode_of-encode_lower, decode_of-ok, decode_of-same, decode_sized-encode_lower, decode_sized-ok, decode_sized-twice, length-encode_with}
pub use Rattle.hex.specs.Hex.{decode_of, decode_sized, encode_lower, is_hex_digit, lower_digits}
unfoldable pub use Rattle.hex.specs.Hex.{encode_with}
pub use Rattle.hex.specs.declared.error.FromHexError.{FromHexError}
pub use Rattle.std.proofs.Common.{Bool, Bor, Err, IsTrue, List, None, Ok, Option, Result, Some, [], add-one, ap, append_assoc, arith, bytes_eq, codes, cond, decimal, drop, false, get_or, inl, inr, le-ltb, length, length-append, lit<, lt-ltb, map, min, nat_le, nat_lt, not, refl, replicate, rules, subst, suc, sym, take, true, zero, ℕ, ◌%◌, ◌&&◌, ◌*◌, ◌++◌, ◌+◌, ◌-◌, ◌/◌, ◌<◌, ◌==◌, ◌^◌, ◌||◌, ◌↔◌, ◌∙◌, ◌∷◌, ◌≡◌, ◌≢◌, ◌≤◌, ◌⊎◌, nat_eq, ltb, w8}
pub use Rattle.std.proofs.Math.Seq.{drop-append_seam, take-set-lt}
pub use Rattle.std.proofs.lemmas.Bool.{and_parts, cases_Bool, cases_eq, cases_lt, cond-true, eq-eqb, eqb-false, eqb-true, false≢true, le-leb, leb-false, leb-true, lt-leb, ne_eqb, not-true, or_cases, or_parts, agree_below_at}
pub use Rattle.std.proofs.lemmas.Bool.Decides.{nat_tests}
pub use Rattle.std.proofs.lemmas.Fmt.{decimal_by_steps, decimal_digit, decimal_nonempty, digits_decimal, digits_value-decimal, length-decimal-le}
pub use Rattle.std.proofs.lemmas.Grind.{common_steps}
pub use Rattle.std.proofs.lemmas.List.{nil_from_length, append-nil, append_cancel_left, drop-drop, drop-replicate, drop_all, drop_at, drop_more, flat_map_more, get_or_append_left, get_or_at, length-drop, length-map, length-replicate, length-take, length-take-le, map-append, map_push, replicate-append-replicate, take-append-drop, take_all, take_at, take_rest, drop-set-lt, drop-take, take-append-le}
pub use Rattle.std.proofs.lemmas.List.Concat.{flat_map-append}
pub use Rattle.std.proofs.lemmas.List.Elements.{All-replicate, All-drop, All-from_recursion, All-weaker, recursion_from_All}
pub use Rattle.std.proofs.lemmas.List.Splits.{join_with_byte-slice_split, length-slice_split, slice_split_at, slice_split_none}
pub use Rattle.std.proofs.lemmas.List.Sums.{AllPass-from_list_all, sum_by-append, prefix_len-le-length}
pub use Rattle.std.proofs.lemmas.Result.{IfErr-weaker, IfOk-weaker, err_from_is_err_and, on_err_weaker, on_ok_weaker}
pub use Rattle.std.proofs.lemmas.Simd.{chunk-fits, leading_from_mask_l, length-chunk, splat_is_map, trailing_mask_l, zip2_of_maps, zip2_splat}
pub use Rattle.std.proofs.lemmas.Slice.Eq.{bytes_eq-Decides}
pub use Rattle.std.specs.Char.{digit_char, to_ascii_lowercase}
pub use Rattle.std.specs.List.{All, AllByRecursion, AllZip, find, flat_map, join_with_byte, list_all, slice_get, slice_split, sum_by, list_any, prefix_len}
pub use Rattle.std.specs.Net.Text.{longest_zero_run, zero_run}
unfoldable pub use Rattle.std.specs.Net.Text.{hex, hex_groups_text}
pub use Rattle.std.specs.Option.{ok_or, option_map}
pub use Rattle.std.specs.Prelude.{IfNone, IfSome, MatchOption, OnOk, fold, if◌then◌else◌, slice_index, ⊤}
pub use Rattle.zone_name.proofs.InOctets.Octets.{labels_of-wire_append, length-frames}
pub use Rattle.zone_name.proofs.InOctets.Pushing.{AllByRecursion-append, AllByRecursion-back, AllByRecursion-front}
pub use Rattle.zone_name.proofs.InOctets.Runs.{first_fails, one_more, run_tells}
pub use Rattle.zone_name.proofs.Texts.Bare.{StandsBare, bare_append, bare_name, bare_octets, bare_unit, is_bare}
pub use Rattle.zone_name.proofs.Texts.Lawful.{digit_test, printed_text, value_by}
pub use Rattle.zone_name.proofs.Texts.Sinks.{Took, Took-more, stops_after, stops_last, takes_both}
pub use Rattle.zone_name.specs.Common.{AreOctets, Labels}
pub use Rattle.zone_name.specs.Name.{IsFoldedOctet, IsLabel, IsName, folded, folded_label, folded_octet, wire, with_length, HoldsName, labels_of}
pub use Rattle.zone_name.specs.Spelling.{BeginsWithUnit, IsBadEscape, IsLabelFault, IsUnit, SpellingFault, Spells, Written, escaped, is_digit, no_octet, octet_of, text_of, written_octets, written_text}
pub use Rattle.zone_name.specs.Text.{label_text, name_text, octet_text}
pub use Rattle.zone_name.specs.declared.fault.NameFault.{NameFault}
pub use Rattle.zone_rdata.proofs.Choices.{Choice, Decided, below_or_not, choice_as, choice_both, each_or_not, if_none_any, if_none_weaker, if_some_weaker, true_or_not}
pub use Rattle.zone_rdata.proofs.Failings.{IfErr-fault, each_fault_passed, fault_answered, if_fault_passed}
pub use Rattle.zone_rdata.proofs.Lists.{bytes_each, each_below, each_weaker, from_place}
pub use Rattle.zone_rdata.proofs.Octets.Each.{HoldEach, SpellEachString}
pub use Rattle.zone_rdata.specs.Address.{AddressPart, AreAround, AreNumbers, AreParts, ArePartsOf, IsAddressOctet, IsGroup, IsIpv4Address, IsIpv6Address, IsLastPart, IsOctetNumber, IsShortenedRun, IsZeroRun, eight, fewer, ipv4_text, ipv6_text, parted_groups, parts_octets, parts_text, shortened_groups}
pub use Rattle.zone_rdata.specs.Appended.{Appends}
pub use Rattle.zone_rdata.specs.Builder.{Built, FitsString, IsNext, IsPushFault, IsWhole, Pushes, ends_with_strings, misplaced, part_at}
pub use Rattle.zone_rdata.specs.Cause.{fault_for}
pub use Rattle.zone_rdata.specs.DataFault.{FirstFieldFault, IsDataFault, IsFaultFor, IsGenericDataFault, IsWordsFault, in_generic_form, malformed, no_value, opaque_words, too_long, unspelt}
pub use Rattle.zone_rdata.specs.Fault.{IfFault, NoValue, fault_of}
pub use Rattle.zone_rdata.specs.Field.{FieldValue, Holds, IsFieldFault, IsSent, SpellsField, Suits, field_at, field_items, field_octets, field_text, fixed, is_strings, items_after, name, octets_of, own_items, string, strings, u16_value, u32_value, values_of}
pub use Rattle.zone_rdata.specs.Fields.Address.{AreFixed, IsAddress, address_text, of_ipv4, of_ipv6}
pub use Rattle.zone_rdata.specs.Fields.OneString.{string_at, string_item}
pub use Rattle.zone_rdata.specs.Fields.Strings.{AreStrings, FirstStringFault, SpellsStrings, StringsFault, strings_by, strings_text}
unfoldable pub use Rattle.zone_rdata.specs.Fields.Strings.{strings_of}
pub use Rattle.zone_rdata.specs.Generic.{GenericFault, IsGenericForm, JoinTo, StatesGeneric, StatesLength, bad_digits, digit_items, generic_items, long_length, no_length}
pub use Rattle.zone_rdata.specs.Item.{IsGeneric, RawItem, bare, generic_mark, quoted, raw}
pub use Rattle.zone_rdata.specs.Layout.{AreLaidOut, IsData, IsLayout, IsSized, StringsLast, fields_in, fields_of, layout}
pub use Rattle.zone_rdata.specs.Machine.AddressReading.{HasGapAt, IsCutAtFirst, IsGroupOf, IsLastPartOf, Lacks, NoneFits}
pub use Rattle.zone_rdata.specs.Machine.Appending.{AppendsFirst, AppendsPrefix, AppendsValue, AreSpelt, BeginsWithNone, BeginsWithValue}
pub use Rattle.zone_rdata.specs.Machine.Building.{ArePushedParts, Grows, IsBuilt, IsOver, IsReal, least_of, more_fields, over_data, over_string, part_field, part_fields, parts_held}
pub use Rattle.zone_rdata.specs.Machine.Fronts.{AreWithLengths, BeginsWithSent, BeginsWithString, HoldsStrings}
pub use Rattle.zone_rdata.specs.Machine.Printing.{BeginsWithField, after_field, generic_head, laid_out_text, spaced}
pub use Rattle.zone_rdata.specs.Machine.TimeProgress.{ReadsTime}
pub use Rattle.zone_rdata.specs.Machine.Unescaped.{is_escaped, is_unescaped}
pub use Rattle.zone_rdata.specs.Number.{Group, IsDecimal, IsTime, IsTimeGroup, decimal_value, group_seconds, group_text, grouped, plain, unit_seconds}
pub use Rattle.zone_rdata.specs.Part.{value_of}
pub use Rattle.zone_rdata.specs.Record.{Data, IsRdata}
pub use Rattle.zone_rdata.specs.RrSource.{after, answer_of, others}
pub use Rattle.zone_rdata.specs.Spelling.{IsCanonicalOf, SpellEach, States, StatesFor, in_octets, in_words}
pub use Rattle.zone_rdata.specs.Strings.{IsString, ReachesUnit, SpellsString, StandsInQuotes, StringFault, bad_escape, inside_text, is_quote, is_shown, item_text, long_string, string_text, unit_text}
pub use Rattle.zone_rdata.specs.Table.{Named, NamedType, ascend, ascends, classes, in_every, in_one, mnemonic_among, number_among, type_names, types}
pub use Rattle.zone_rdata.specs.Text.{data_items, data_text, generic_text, laid_out_items, written_item}
pub use Rattle.zone_rdata.specs.Uncompressed.{AreSent, IsUncompressed}
pub use Rattle.zone_rdata.specs.Words.{IsClass, IsClassWord, IsKind, IsKindWord, IsMnemonic, IsNumbered, IsWordAmong, IsWordFault, beyond, by_mnemonic, by_number, class_text, for_queries, is_meta, kind_text, laid_out_mnemonic, nameless, word_or_numbered}
pub use Rattle.zone_rdata.specs.declared.cause.Cause.{Cause}
pub use Rattle.zone_rdata.specs.declared.fault.Failing.{Failing}
pub use Rattle.zone_rdata.specs.declared.fault.Fault.{Fault}
pub use Rattle.zone_rdata.specs.declared.fault.Fault.TheVariants.{BadEscape, BadGeneric, BadNumber, BadRdata, MetaType, RdataTooLong, StringTooLong, UnknownType}
pub use Rattle.zone_rdata.specs.declared.field.Field.{Field}
pub use Rattle.zone_rdata.specs.declared.field.Field.TheVariants.{Name, Octets, OneString, Serial, Strings, Time, U16}
pub use Rattle.zone_rdata.specs.declared.item.Item.{Item}
pub use Rattle.zone_rdata.specs.declared.item.Item.TheVariants.{Bare}
pub use Rattle.zone_rdata.specs.declared.layout.Layout.{Layout}
pub use Rattle.zone_rdata.specs.declared.record.Placed.{Placed}
