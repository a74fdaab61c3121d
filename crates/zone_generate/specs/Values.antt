-- Bounds of a range, by which its values are numbers of 31 bits.
use Rattle.std.specs.Prelude.{◌<◌, ◌+◌, ◌*◌, ◌^◌}
use Rattle.zone_generate.specs.declared.range.Range.{Range}

-- a step after the last value is no more than a step above 2 ^ 31
pub record AreSmall (r : Range) : Type 0 where
  pub last : r.start + r.count * r.step < 2 ^ 31 + r.step
  pub step : r.step < 10 ^ 10
