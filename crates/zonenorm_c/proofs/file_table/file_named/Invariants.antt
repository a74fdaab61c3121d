-- The file is looked for among those that are left.
use Rattle.std.proofs.Common.{◌≡◌, ◌-◌, drop, length, map}
use Rattle.zonenorm_c.specs.Files.{file_in}
use Rattle.zonenorm_c.proofs.file_table.file_named.Given as goal

abbrev pub invariant-names : goal.invariant-names
invariant-names l =
    file_in (map (λ n. n.now) (drop l.index l.names)) (map (λ f. f.now) (drop l.index l.files)) l.name
    ≡ file_in (map (λ n. n.now) l.names) (map (λ f. f.now) l.files) l.name

abbrev pub decreases-names : goal.decreases-names
decreases-names l = length l.names - l.index
