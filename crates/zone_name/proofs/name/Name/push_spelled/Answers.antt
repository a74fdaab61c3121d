use Rattle.std.proofs.lemmas.Result.{IfOk-weaker}
use Rattle.zone_name.proofs.Common.{Err, Folded, IfErr, IsOk, List, NameFault, Ok, Option, Result, SpellingFault, Spells, option_copied, refl, subst, ℕ}
use Rattle.zone_name.specs.Common.{Labels}
use Rattle.zone_name.proofs.Spelling.Answered.{faultless_by}
use Rattle.zone_name.proofs.name.Name.push_spelled.Goals as goal

pub returns-then-branch-clause-found : goal.returns-then-branch-clause-found
returns-then-branch-clause-found c =
    let found = c.in_ok-push_plain.ensures.done c.if-branch.true in
    (found.0, subst (λ o. Spells o c.args.text.now found.0) c.octets_of.ensures.labels found.1, found.2)

pub returns-clause-found : goal.returns-clause-found
returns-clause-found c = rw (c.in_ok-push_plain.ensures.left c.if-branch.false) at c.push_read.ensures.found

sound : (origin : Option Labels) (text : List ℕ) (name : Labels) → Spells origin text name → (read : Result (Unit {0}) NameFault) → IfErr read (SpellingFault origin text) → IsOk read
sound origin text name spells (Ok done) fault = refl
sound origin text name spells (Err f) fault = absurd (faultless_by Folded origin text name f spells fault)

pub returns-clause-only : goal.returns-clause-only
returns-clause-only c = λ name spells.
    IfOk-weaker c.push_read.result _ _ (sound (option_copied c.args.origin) c.args.text.now name spells) c.push_read.ensures.fault
