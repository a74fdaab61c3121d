use Rattle.zone_engine.proofs.Common.{◌≡◌, codes, refl, ap, sym, ◌∙◌, ⊎_elim, arith, NoSoa, Whole, no_soa, top, server_of, unfinished}
use Rattle.zone_engine.proofs.Refusals.Deciding.{fits, all_of_two}
use Rattle.zone_engine.proofs.examples.records_without_an_soa.Goals as goal

pub returns : goal.returns
returns c =
    unfinished NoSoa Whole
    (all_of_two _ _ (fits _ (server_of (top (codes "b")) 60) (refl, tt) (λ same. let no : 2 ≡ 6 = same in omega arith) (λ one. refl, tt)))
    refl
    (no_soa (λ r has soa. ⊎_elim (λ is. let no : 2 ≡ 6 = sym (ap (λ t. t.kind) is) ∙ soa in omega arith)
    (λ more. ⊎_elim (λ is. let no : 2 ≡ 6 = sym (ap (λ t. t.kind) is) ∙ soa in omega arith) (λ none. none) more) has))
