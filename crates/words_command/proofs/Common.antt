-- What most proofs of this crate name, from below it and from its definitions.
pub use Rattle.clap.specs.Words.{Text}
pub use Rattle.std.proofs.Common.{Bool, Global, List, [], ap, ap₂, arith, codes, false, length, map, nat_eq, refl, rules, subst, sym, true, ℕ, ◌++◌, ◌-◌, ◌∙◌, ◌≡◌, ◌⊎◌}
pub use Rattle.std.specs.Cmp.Lexicographic.{bytes_decides, pointwise}
pub use Rattle.std.specs.Prelude.{IfErr, IfOk, IfSome, None, OnErr, Option, Result, Some, String, decimal, drop, option_map, string_bytes, take, ◌||◌}
pub use Rattle.zone_name.specs.Common.{NothingIs, Octets}
pub use Rattle.words_command.specs.Order.{IsLineFault}
pub use Rattle.words_command.specs.declared.order.Order.{Order}
