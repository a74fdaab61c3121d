use Rattle.std.proofs.Common.{subst, sym}
use Rattle.std.specs.Prelude.{Some}
use Rattle.zone_name.specs.Common.{Labels}
use Rattle.zone_name.specs.Spelling.{SpellsCased}
use Rattle.zonefile_command.proofs.Texts.{not_same}
use Rattle.zonefile_command.proofs.order.name_of.Goals as goal

pub returns-in-Ok-clause-found : goal.returns-in-Ok-clause-found
returns-in-Ok-clause-found c = record {
  no_transfer = not_same _ _ _ c.eq.ensures c.if-eq.false;
  no_sign = not_same _ _ _ c.eq-else-eq.ensures c.if-eq-2.false;
  spells = subst (λ (above : Labels). SpellsCased (Some above) c.args.text.now c.in-Ok.name) c.root.ensures (rw (← c.as_bytes.ensures.value) c.in-Ok.ensures.found);
}

pub returns-in-Err-clause-refused : goal.returns-in-Err-clause-refused
returns-in-Err-clause-refused c = λ name is.
    let h = c.in-Err.ensures.only name (rw (c.as_bytes.ensures.value, c.root.ensures) is.spells) in cc
