-- The names that proofs here cite most: of definitions, and of std.
pub use Rattle.std.proofs.Common.{Bool, Bor, Err, IsTrue, List, None, Ok, Option, Result, Some, [], add-one, ap, append-nil, append_assoc, arith, codes, drop, false, get_or, inl, inr, length, length-append, map, min, option_map, refl, subst, suc, sym, take, true, zero, ℕ, ◌++◌, ◌+◌, ◌-◌, ◌/◌, ◌<◌, ◌==◌, ◌∙◌, ◌∷◌, ◌≡◌, ◌≢◌, ◌≤◌, ◌⊎◌}
pub use Rattle.std.proofs.lemmas.Bool.{cases_eq, cases_lt}
pub use Rattle.std.proofs.lemmas.Grind.{common_steps}
pub use Rattle.std.proofs.lemmas.List.{drop-drop, drop_all, drop_more, length-drop, length-map, length-take, map-append, map_more, take-map, take_all, take_more}
pub use Rattle.std.specs.List.{Any, slice_get}
pub use Rattle.std.specs.Prelude.{slice_index_or}
pub use Rattle.zone_name.specs.Common.{Labels, NothingIs}
pub use Rattle.zone_rdata.proofs.Lists.{from_place}
pub use Rattle.zone_rdata.specs.Item.{IsGeneric, RawItem, bare, generic_mark, quoted, raw}
pub use Rattle.zone_rdata.specs.declared.item.Item.{Item}
pub use Rattle.type_data.specs.Data.{DataFails, StatesData, joined}
pub use Rattle.type_data.specs.DataItem.{TouchingItem, given}
pub use Rattle.type_data.specs.Table.{NamedField, field_of}
pub use Rattle.type_data.specs.declared.field.Field.{Field}
pub use Rattle.type_data.specs.declared.data_item.DataItem.{DataItem}
pub use Rattle.type_data.specs.declared.fault.WordsFault.{WordsFault}
pub use Rattle.faulty_items.specs.FurtherStop.{AreSoFar, CanGoOn, FailAlone, FurtherFieldsStop, FurtherStop, IsOfWhatIsMissing, StateItsData, continuations, further_stop}
pub use Rattle.faulty_items.specs.StopsAt.{StopsAt, at_end, at_item}
