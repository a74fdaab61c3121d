use Rattle.std.proofs.Common.{◌∙◌, ap, subst, sym}
use Rattle.std.specs.Prelude.{string_bytes}
use Rattle.zone_files.specs.Expansion.{Holds, Includes, MayOpen, opens}
use Rattle.zone_files.proofs.Expansions.Including.{many_opened, opened_name, refused_name}
use Rattle.zone_files.proofs.expansion.holding.Holding.open_file.Goals as goal

pub returns-then-not-may_open : goal.returns-then-not-may_open
returns-then-not-may_open c items states =
    many_opened c.args.self.now items c.args.file.now c.args.origin _ (c.directory_text-directory.ensures ∙ ap (λ (h : Holds). h.directory) c.self.view_is) states (string_bytes c.in-Ok.name) c.in-Ok.ensures.named
    (subst (λ t. MayOpen c.args.self.now t → ⊥) c.as_bytes.ensures.value (c.may_open.ensures.no c.if-not-may_open.true))

pub returns-else-not-may_open : goal.returns-else-not-may_open
returns-else-not-may_open c items states =
    subst (λ t. Includes c.args.self.now items (opens t c.args.origin)) (sym c.new.ensures)
    (opened_name c.args.self.now items c.args.file.now c.args.origin _ (c.directory_text-directory.ensures ∙ ap (λ (h : Holds). h.directory) c.self.view_is) states (string_bytes c.in-Ok.name) c.in-Ok.ensures.named
    (subst (MayOpen c.args.self.now) c.as_bytes.ensures.value (c.may_open.ensures.yes c.if-not-may_open.false)))

pub returns-in-Err-Fault : goal.returns-in-Err-Fault
returns-in-Err-Fault c items states =
    refused_name c.args.self.now items c.args.file.now c.args.origin _ (c.directory_text-directory.ensures ∙ ap (λ (h : Holds). h.directory) c.self.view_is) states c.in-Err-Fault.field-0-0 (rw c.in-Err-Fault.field-0-is at c.in-Err-Fault.ensures.refused)
