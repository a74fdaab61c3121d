use Rattle.std.proofs.Common.{Some, ◌∙◌, ap, subst, sym}
use Rattle.std.proofs.lemmas.Result.{IfOk-weaker}
use Rattle.zone_files.specs.Expansion.{Holds, past, stating}
use Rattle.zone_files.specs.Machine.Stepping.{Unowned}
use Rattle.std.specs.Prelude.{IfOk}
use Rattle.zone_files.proofs.Expansions.Stepping.{owner_another, owner_none}
use Rattle.zone_files.proofs.expansion.holding.Holding.take_unowned.Goals as goal

pub returns-in-None : goal.returns-in-None
returns-in-None c =
    owner_none c.args.self.now c.args.entry.now c.args.out.now.items (ap (λ (h : Holds). h.owner) (sym c.self.view_is) ∙ c.in-None.is)
    (λ e. let yes = c.are_same.ensures.1 (ap (λ (h : Holds). h.owner) c.self.view_is ∙ e ∙ ap (λ (h : Holds). h.stated) (sym c.self.view_is)) in let other = c.if-are_same.false in cc)

pub returns : goal.returns
returns c =
    let was : Holds = record {
      origin = c.self.inside.origin;
      owner = c.self.inside.owner;
      stated = c.self.inside.stated;
      directory = c.self.inside.directory;
      open_files = c.self.inside.open.items;
      opened = c.self.inside.opened;
      line = c.self.inside.line;
      taken_out = c.self.inside.taken_out.items;
    } in
    let owner = c.copy-owner.result in
    let now = c.pass-2.ensures ∙ ap (past c.args.entry.now) c.state.ensures ∙ ap (λ (h : Holds). past c.args.entry.now (stating (Some owner) h)) (sym c.self.view_is) in
    subst (λ (h : Holds). IfOk c.keep-2.result (λ step. Unowned h c.args.entry.now step c.pass-2.new.self c.args.out.now.items c.keep-2.new.out.items)) c.self.view_is
    (IfOk-weaker c.keep-2.result _ _
    (λ step w. subst (λ (h : Holds). Unowned was c.args.entry.now step h c.args.out.now.items c.keep-2.new.out.items) (sym now)
    (owner_another was c.args.entry.now step c.args.out.now.items c.keep-2.new.out.items owner c.push_name.new.out.items (c.in-Some.is ∙ ap Some (sym c.copy-owner.ensures))
    (λ e. let yes = c.are_same.ensures.1 e in let other = c.if-are_same.false in cc) c.in_ok-push_name.ensures w))
    c.keep-2.ensures)
