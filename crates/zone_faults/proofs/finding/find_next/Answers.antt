use Rattle.std.proofs.Common.{List, ℕ, subst}
use Rattle.std.proofs.lemmas.Result.{IfOk-weaker}
use Rattle.zone_faults.specs.Checking.{AreDenoted, AreRefused}
use Rattle.zone_faults.specs.Machine.Finding.{main_of}
use Rattle.zone_files.specs.declared.stack.expanded_loader.ExpandedRefusal.{ExpandedRefusal}
use Rattle.zone_faults.proofs.Checks.{adds_last, adds_one, ends_accepted, ends_unread, first_fault, of_err, of_ok}
use Rattle.zone_faults.proofs.finding.find_next.Goals as goal

pub returns-in-Ok-clause-ends : goal.returns-in-Ok-clause-ends
returns-in-Ok-clause-ends g c =
    let main = main_of c.args.main in
    let denotes = subst (λ (lines : List ℕ). AreDenoted main lines c.in-Ok.zone) c.deref.ensures.value (of_ok c.in_ok-loaded.loaded c.in-Ok.zone _ c.in-Ok.is c.in_ok-loaded.ensures.zone) in
    ends_accepted main c.args.found.now c.in-Ok.zone c.len.result denotes c.len.ensures

pub returns-in-Err-Unread-clause-ends : goal.returns-in-Err-Unread-clause-ends
returns-in-Err-Unread-clause-ends g c =
    let main = main_of c.args.main in
    let refuses = subst (λ (lines : List ℕ). AreRefused main lines c.in-Err-Unread.field-0 c.in_ok-loaded.stack) c.deref.ensures.value (of_err c.in_ok-loaded.loaded c.in-Err-Unread.field-0 _ c.in-Err-Unread.is c.in_ok-loaded.ensures.refused) in
    ends_unread main c.args.found.now c.in_ok-loaded.stack (subst (λ (why : ExpandedRefusal). AreRefused main c.args.found.now.lines.items why c.in_ok-loaded.stack) c.in-Err-Unread.field-0-is refuses)

pub returns-in_ok-fault-in-Err : goal.returns-in_ok-fault-in-Err
returns-in_ok-fault-in-Err g c =
    let main = main_of c.args.main in
    let refuses = subst (λ (lines : List ℕ). AreRefused main lines c.in-Err.refusal c.in_ok-loaded.stack) c.deref.ensures.value (of_err c.in_ok-loaded.loaded c.in-Err.refusal _ c.in-Err.is c.in_ok-loaded.ensures.refused) in
    let fault = c.in_ok-fault-in-Err.fault in
    let is = first_fault main c.args.found.now.lines.items c.in-Err.refusal c.in_ok-loaded.stack fault refuses c.in_ok-fault-in-Err.ensures in
    record {
      ends = IfOk-weaker c.add.result _ _ (λ answer adds. adds_last main c.args.found.now c.add.new.self fault answer is adds) c.add.ensures;
      one = IfOk-weaker c.add.result _ _ (λ answer adds. adds_one main c.args.found.now c.add.new.self fault answer is adds) c.add.ensures;
    }
