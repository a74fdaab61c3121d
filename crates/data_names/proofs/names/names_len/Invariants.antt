use Rattle.data_names.specs.Machine.Front.{BeginsWithMany}
use Rattle.data_names.proofs.names.names_len.Given as goal

abbrev pub invariant-loop : goal.invariant-loop
invariant-loop l = BeginsWithMany l.counter l.octets l.len
