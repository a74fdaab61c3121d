-- What a table of files opens (private).
use Rattle.std.specs.Prelude.{◌≡◌, ℕ, List, map, Option, option_map}
use Rattle.zone_engine.specs.declared.octets.OctetSlice.{OctetSlice}
use Rattle.zonenorm_c.specs.Files.{file_in}
use Rattle.zonenorm_c.specs.declared.file_table.FileTable.{FileTable}

-- the table stays, and a reader has the octets of the first file of this name
abbrev pub OpensGiven : FileTable → List ℕ → Option OctetSlice → FileTable → Type 0
OpensGiven old name file new = (new ≡ old)
    × (option_map (λ (reader : OctetSlice). reader.rest.now) file
    ≡ file_in (map (λ n. n.now) old.names.now) (map (λ f. f.now) old.files.now) name)
