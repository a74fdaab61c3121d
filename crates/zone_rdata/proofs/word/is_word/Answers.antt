use Rattle.zone_rdata.proofs.Common.{arith}
use Rattle.zone_rdata.proofs.Words.AnyCase.{first_alike, same_word}
use Rattle.zone_rdata.proofs.word.is_word.Goals as goal

pub returns-in-Some-Some : goal.returns-in-Some-Some
returns-in-Some-Some c = (
  λ h. grind arith,
  λ same.
      let alike = first_alike c.args.word.now c.args.wanted.now _ _ c.in-Some-Some.first.now c.in-Some-Some.other.now c.in-Some-Some.ensures.cases.0 c.in-Some-Some.ensures'.cases.0 c.type_inv.word c.type_inv.wanted same in
      grind (arith, alike, c.if-first-other.true),
)

pub returns-in_default : goal.returns-in_default
returns-in_default c = same_word c.args.word.now c.args.wanted.now c.eq_ignore_ascii_case.result c.eq_ignore_ascii_case.ensures.test
