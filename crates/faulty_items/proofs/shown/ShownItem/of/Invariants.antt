use Rattle.faulty_items.proofs.Common.{codes, length, take, ◌++◌, ◌+◌, ◌≡◌, ◌≤◌}
use Rattle.std.specs.Prelude.{◌*◌}
use Rattle.std.specs.List.{flat_map}
use Rattle.faulty_items.specs.ShownItem.{shown_octet}
use Rattle.faulty_items.proofs.shown.ShownItem.of.Given as goal

abbrev pub invariant-loop-octet : goal.invariant-loop-octet
invariant-loop-octet l =
    (l.text.items ≡ codes ": \"" ++ flat_map shown_octet (take l.octet-index l.shown))
    × (length l.text.items ≤ 3 + 4 * l.octet-index)
