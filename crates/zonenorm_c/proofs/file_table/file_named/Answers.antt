use Rattle.std.proofs.Common.{◌∙◌, arith, sym}
use Rattle.zonenorm_c.proofs.Reports.{no_file, no_name, passes}
use Rattle.zonenorm_c.proofs.file_table.file_named.Goals as goal
use Rattle.zonenorm_c.proofs.file_table.file_named.Goals.{then-names-test+else-index-files, else-names-test}

pub names-preserved : goal.names-preserved
names-preserved c =
    sym (passes c.args.names.now c.args.files.now c.names.index c.args.name.now _ (omega (arith, c.names-test.true)) (omega (arith, c.if-index-files.true)) (sym c.eq.ensures ∙ c.if-eq.false)) ∙ c.names.invariant

pub returns : goal.returns
returns c = elim c.names-test.branch [
  | then-names-test+else-index-files w ↦ sym (no_file c.args.names.now c.args.files.now c.names.index c.args.name.now (omega (arith, w.if-index-files.false))) ∙ c.names.invariant
  | else-names-test w ↦ sym (no_name c.args.names.now c.args.files.now c.names.index c.args.name.now (omega (arith, w.names-test.false))) ∙ c.names.invariant
]
