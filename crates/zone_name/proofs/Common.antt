-- The names that proofs here cite most: of definitions, and of std.
pub use Rattle.std.proofs.Common.{Bool, Err, IfErr, IfOk, IfSome, IsTrue, List, MatchOption, None, Ok, OnErr, Option, Result, Some, [], ap, append_assoc, ap₂, arith, bit_or, codes, cond, count_by, count_ones, div-add-mod', drop, eqb, false, get_or, get_or-drop, if◌then◌else◌, inl, inr, length, length-append, ltb, nat_eq, nat_le, not, option_copied, refl, replicate, reverse, rules, set, subst, suc, sym, take, take-add, true, w8, zero, ℕ, ◌%◌, ◌&&◌, ◌*◌, ◌++◌, ◌+◌, ◌-◌, ◌/◌, ◌<◌, ◌==◌, ◌||◌, ◌↔◌, ◌∙◌, ◌∷◌, ◌≡◌, ◌≢◌, ◌≤◌, ◌⊎◌}
pub use Rattle.std.proofs.lemmas.Bool.{agree_below, agree_below_at, and_parts, both_ways, cases_Bool, cases_lt, cond_both, eqb-false, eqb-true, false≢true, le-leb, leb-false, leb-true, lt-leb, ne_eqb, not-true, or_cases, or_parts}
pub use Rattle.std.proofs.lemmas.Bool.Decides.{nat_tests}
pub use Rattle.std.proofs.lemmas.Cmp.{nat_cmp_total}
pub use Rattle.std.proofs.lemmas.Grind.{common_steps}
pub use Rattle.std.proofs.lemmas.List.{append-nil, drop-drop, drop_at, drop_more, length-drop, length-map, length-reverse, length-set, length-take, length-take-le, map-append, map_push, nil_from_length, reverse-append, reverse-reverse, set_at, take-append-drop, take_all, take_at, take_rest}
pub use Rattle.std.proofs.lemmas.List.Concat.{flat_map-append}
pub use Rattle.std.proofs.lemmas.Result.{IfErr-weaker, err_from_is_err_and, on_err_weaker, on_ok_weaker}
pub use Rattle.std.proofs.lemmas.Simd.{bitmask_splat, chunk-fits, leading_from_mask_l, length-chunk, length-put_chunk, map-map, mask_l-mod, ones-mask_l, put_chunk_is, run_in_chunk_fails, run_in_chunk_stops, splat_is_map, take_more_put_chunk, trailing_mask_l, zip2_of_maps, zip2_splat}
pub use Rattle.std.specs.Char.{to_ascii_lowercase}
pub use Rattle.std.specs.Cmp.Lexicographic.{bytes_decides, lists_ties, lists_total, pointwise, pointwise_decides, slice_cmp, texts_ties}
pub use Rattle.std.specs.List.{AllByRecursion, flat_map, list_all, prefix_len, refill}
pub use Rattle.std.specs.Ordering.{is_eq, nat_cmp, ordering_then}
pub use Rattle.std.specs.Prelude.{EachIndex, map, option_map, slice_index}
pub use Rattle.std.specs.Result.{IsOk, OnOk, is_ok}
pub use Rattle.std.specs.declared.cmp.Ordering.TheVariants.{Equal}
pub use Rattle.zone_name.specs.Common.{AreOctets, each_after}
pub use Rattle.zone_name.specs.Machine.LabelWalk.{Ahead, Collects, Step, ahead_in, at_dot, at_end, at_fault, at_octet, done, failed, goes, read, reading, sized, step_at, under_origin, unit_ahead}
pub use Rattle.zone_name.specs.Machine.Plain.{TellsMarks, TurnsEvens, TurnsFront, WritesLengths, after_dots, is_mark, is_plain}
pub use Rattle.zone_name.specs.Machine.Seen.{HasShape, HoldsCasedLabels}
pub use Rattle.zone_name.specs.Machine.Letters.{HoldsLabelsBy, HoldsNameBy, IsReadBy, Joins, SpellsBy, lettered, lettered_in, lettered_octet, name_read, origin_in}
pub use Rattle.zone_name.specs.Machine.Shown.{IsShown, is_bare, is_odd}
pub use Rattle.zone_name.specs.Name.{BeginsWithName, HoldsCasedName, HoldsLabels, HoldsName, IsCasedLabel, IsCasedName, IsFoldedOctet, IsLabel, IsName, IsWithin, folded, folded_label, folded_octet, labels_by, labels_of, wire, with_length}
pub use Rattle.zone_name.specs.Order.{label_cmp, name_cmp}
pub use Rattle.zone_name.specs.Spelling.{AreWrittenLabels, BeginsWithEscape, BeginsWithUnit, EndsLabel, FaultAt, IsBadEscape, IsEscape, IsRelative, IsUnit, IsWrittenLabel, Reaches, SpellingFault, Spells, SpellsCased, Writes, WritesBy, WritesCased, Written, absolute, at_origin, bad_escape, decimal, dotted, empty_label, escaped, is_digit, is_dot, kept, long_label, long_name, named, no_octet, octet_of, parted, plain, relative, root, text_of, unfounded, within, written_octets, written_text}
pub use Rattle.zone_name.specs.Text.{decimal_escape, is_printed, is_special, label_text, name_text, octet_text}
pub use Rattle.zone_name.specs.declared.fault.NameFault.{NameFault}
pub use Rattle.zone_name.specs.declared.fault.NameFault.TheVariants.{BadEscape, EmptyLabel, LabelTooLong, NameTooLong, RelativeName}
pub use Rattle.zone_name.specs.declared.reading.Letters.{Letters}
pub use Rattle.zone_name.specs.declared.reading.Letters.TheVariants.{Folded, Kept}
pub use Rattle.zone_name.specs.declared.reading.NameShape.TheVariants.{Labels, Origin, Root}
