use Rattle.zone_rdata.specs.Item.{bare}
use Rattle.zone_text.proofs.Common.{HasOwnerOrNone, ap, arith, err_from_is_err_and, map, raw, refl, statement_in, statement_of, of_statement, owned, subst, sym, ◌∙◌, ◌≡◌}
use Rattle.zone_text.proofs.Entries.EntryTaken.{appended_decides}
use Rattle.zone_text.proofs.Entries.RecordsRead.{has_stated_owner}
use Rattle.zone_text.proofs.parser_state.ParserState.take.Goals as goal

pub returns-in_err-follow-in-Directive-clause-fault : goal.returns-in_err-follow-in-Directive-clause-fault
returns-in_err-follow-in-Directive-clause-fault c origin before entry so_far form =
    let p = err_from_is_err_and c.from_residual.result c.from_residual.ensures.1 in
    rw (p.1, p.2) (c.in_err-follow-in-Directive.ensures.fault origin before entry so_far (form ∙ ap statement_in c.in-Directive.is))

pub returns-in_ok-set_owner-in-Owned-clause-found : goal.returns-in_ok-set_owner-in-Owned-clause-found
returns-in_ok-set_owner-in-Owned-clause-found c origin before entry ending so_far form =
    let sets = c.in_ok-set_owner-in-Owned.ensures.found in
    let states : statement_of entry ≡ owned (bare c.in-Bare.text.now) (map raw c.in-Owned.items.now) = rw (form, c.in-Owned.is, c.in-Bare.is) refl in
    let has = subst (λ d. HasOwnerOrNone origin before entry d (map raw c.in-Owned.items.now)) (sym sets.others)
    (has_stated_owner origin before entry c.args.self.now sets.name _ _ states so_far (c.args.self.now.origin, (so_far.under, sets.spelled))) in
    appended_decides _ _ _ _ _ _ _ _ _ (c.append_record.ensures.found origin before entry has)

pub returns-in_ok-set_owner-in-Owned-clause-fault : goal.returns-in_ok-set_owner-in-Owned-clause-fault
returns-in_ok-set_owner-in-Owned-clause-fault c origin before entry so_far form =
    let sets = c.in_ok-set_owner-in-Owned.ensures.found in
    let states : statement_of entry ≡ owned (bare c.in-Bare.text.now) (map raw c.in-Owned.items.now) = rw (form, c.in-Owned.is, c.in-Bare.is) refl in
    let has = subst (λ d. HasOwnerOrNone origin before entry d (map raw c.in-Owned.items.now)) (sym sets.others)
    (has_stated_owner origin before entry c.args.self.now sets.name _ _ states so_far (c.args.self.now.origin, (so_far.under, sets.spelled))) in
    c.append_record.ensures.fault origin before entry has

pub returns-in-Unowned-clause-found : goal.returns-in-Unowned-clause-found
returns-in-Unowned-clause-found c origin before entry ending so_far form =
    appended_decides _ _ _ _ _ _ _ _ _ (c.append_record-in-Unowned.ensures.found origin before entry (grind (arith, form, c.in-Unowned.is)))

pub returns-in_default-clause-fault : goal.returns-in_default-clause-fault
returns-in_default-clause-fault c origin before entry so_far form = rw c.of.ensures (of_statement (rw (form, c.in-Owned.is, c.in_default.is) refl))
