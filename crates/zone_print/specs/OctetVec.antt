-- What a writer to memory was given.
use Rattle.std.specs.Prelude.{ℕ, List}
use Rattle.zone_print.specs.declared.octet_vec.OctetVec.{OctetVec}

-- all octets that were written to it
abbrev pub written : OctetVec → List ℕ
written writer = writer.written.octets
