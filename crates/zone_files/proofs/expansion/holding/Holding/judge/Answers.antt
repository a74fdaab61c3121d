use Rattle.std.proofs.Common.{ap, map}
use Rattle.std.proofs.lemmas.Result.{IfOk-weaker}
use Rattle.zone_rdata.specs.Item.{raw}
use Rattle.zone_text.specs.Stated.{statement_in}
use Rattle.zone_files.proofs.Expansions.Stepping.{judges_unowned}
use Rattle.zone_files.proofs.expansion.holding.Holding.judge.Goals as goal

pub returns-in-Unowned : goal.returns-in-Unowned
returns-in-Unowned c =
    IfOk-weaker c.take_unowned.result _ _ (λ step w. judges_unowned c.args.self.now _ c.args.entry.now (map raw c.args.items.now) (map raw c.in-Unowned.field-0.now) (statement_in c.args.statement) step c.args.out.now.items _ (ap statement_in c.in-Unowned.is) w) c.take_unowned.ensures
