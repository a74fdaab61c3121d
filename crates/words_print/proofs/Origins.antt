-- The text `x.` spells a name that isn't the root.
use Rattle.std.proofs.Common.{[], ◌∷◌, arith, refl}
use Rattle.std.specs.Prelude.{None}
use Rattle.zone_name.specs.Spelling.{SpellsCased, absolute, plain}

pub x_spelled : SpellsCased None (120 ∷ 46 ∷ []) ((120 ∷ []) ∷ [])
x_spelled = record {
  written = absolute ((plain 120 ∷ []) ∷ []) (record { some = omega arith; each = (record { some = omega arith; each = ((refl, omega arith), tt) }, tt) }) refl refl;
  name = record { each = (record { some = omega arith; short = omega arith; each = (omega arith, tt) }, tt); short = omega arith };
}
