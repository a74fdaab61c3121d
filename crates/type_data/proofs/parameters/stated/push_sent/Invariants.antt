use Rattle.type_data.proofs.Common.{AllByRecursion, IsShort, all_sent, flat_map, map, sent_octets, ◌++◌, ◌≡◌}
use Rattle.type_data.proofs.OfParameters.Reading.{entry_sent}
use Rattle.type_data.proofs.parameters.stated.push_sent.Given as goal

abbrev pub invariant-loop-number : goal.invariant-loop-number
invariant-loop-number l = record {
  written : l.out.items ++ flat_map sent_octets (map entry_sent l.number-iterator) ≡ l.fn.out.items ++ flat_map sent_octets (all_sent l.values);
  short : AllByRecursion IsShort (map entry_sent l.number-iterator) → AllByRecursion IsShort (all_sent l.values);
  long : AllByRecursion IsShort (all_sent l.values) → AllByRecursion IsShort (map entry_sent l.number-iterator);
}
