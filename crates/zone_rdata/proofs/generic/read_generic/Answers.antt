use Rattle.zone_rdata.proofs.Common.{IfErr-fault, IsDecimal, JoinTo, StatesLength, ap, arith, length-drop, map, raw, subst, sym, take_all}
use Rattle.zone_rdata.proofs.Items.GenericLaws.{form_digits, form_faults, form_parts}
use Rattle.zone_rdata.proofs.Items.Values.{that_number}
use Rattle.zone_rdata.specs.Machine.GenericLength.{beyond}
use Rattle.zone_rdata.proofs.generic.read_generic.Goals as goal

pub returns-in-Some-clause-fault : goal.returns-in-Some-clause-fault
returns-in-Some-clause-fault c =
    let found = c.in-Some.ensures.found in
    rw c.of-in-Some.ensures (form_faults _ _ _ _ (form_parts c.args.items.now _ c.in-len2-up.len_at_least c.requires) (beyond found.0 (subst (λ r. StatesLength r found.0) (sym (ap raw c.in-Bare.is)) found.1.0) (omega (arith, found.1.1, c.if-len.true))))

pub returns-in-Some-2-clause-fault : goal.returns-in-Some-2-clause-fault
returns-in-Some-2-clause-fault c =
    let states = that_number (IsDecimal c.in-Bare.length.now) c.in-Some.len 65535 4294967296 c.decimal_of.result (omega arith) c.in-Some.is (omega (arith, c.if-len.false)) c.decimal_of.ensures.found in
    IfErr-fault c.join_digits.result _ _
    (λ fault bad. form_digits _ _ _ c.in-Some.len fault (form_parts c.args.items.now _ c.in-len2-up.len_at_least c.requires) (subst (λ r. StatesLength r c.in-Some.len) (sym (ap raw c.in-Bare.is)) states) (omega (arith, c.if-len.false)) (bad.0, λ octets h. bad.1 octets (subst (λ r. JoinTo (map raw r) octets) (sym (take_all _ _ (omega (arith, length-drop 2 c.args.items.now)))) h)))
    c.join_digits.ensures.fault
