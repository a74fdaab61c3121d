use Rattle.std.proofs.Common.{◌∙◌, map, subst, sym}
use Rattle.std.proofs.lemmas.Result.{IfOk-weaker}
use Rattle.zone_rdata.specs.Item.{raw}
use Rattle.zone_files.specs.Expansion.{Holds}
use Rattle.zone_files.specs.Machine.Stepping.{UnknownAs}
use Rattle.zone_files.proofs.Expansions.Stepping.{generate_taken, other_taken}
use Rattle.zone_files.proofs.expansion.holding.Holding.take_unknown.Goals as goal

pub returns-then-says_generate : goal.returns-then-says_generate
returns-then-says_generate c =
    IfOk-weaker c.generate.result _ _ (λ step p. generate_taken c.args.self.now c.generate.new.self c.args.entry.now (map raw c.args.items.now) step c.args.out.now.items (sym c.says_generate.ensures ∙ c.if-says_generate.true) p) c.generate.ensures

pub returns-else-says_generate : goal.returns-else-says_generate
returns-else-says_generate c =
    IfOk-weaker c.keep.result _ _
    (λ step w. subst (λ (h : Holds). UnknownAs c.args.self.now c.args.entry.now (map raw c.args.items.now) step h c.args.out.now.items c.keep.new.out.items) (sym c.pass.ensures)
    (other_taken c.args.self.now c.args.entry.now (map raw c.args.items.now) step c.args.out.now.items c.keep.new.out.items (sym c.says_generate.ensures ∙ c.if-says_generate.false) w))
    c.keep.ensures
