use Rattle.zone_rdata.proofs.Common.{ap, by_mnemonic, bytes_eq-Decides, folded_label, refl, sym, ◌∙◌}
use Rattle.zone_rdata.proofs.class.Class.read_word.Goals as goal

pub returns-then-eq-clause-found : goal.returns-then-eq-clause-found
returns-then-eq-clause-found c =
    rw c.internet.ensures (by_mnemonic (record { name = _; row = refl; same = ap folded_label ((bytes_eq-Decides c.args.word.now _).0 (sym c.eq.ensures ∙ c.if-eq.true)) }))
