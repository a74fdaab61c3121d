use Rattle.zone_rdata.proofs.Common.{[], ◌∷◌, if_none_any, refl}
use Rattle.zone_rdata.proofs.Addresses.Cut.{numbers_more, rest_refused, last_refused}
use Rattle.zone_rdata.proofs.address.ipv4.ipv4_octets_of.Goals as goal

pub returns-in_err-first-clause-none : goal.returns-in_err-first-clause-none
returns-in_err-first-clause-none c = if_none_any _ _ (c.in_err-first.ensures.none 2)

pub returns-in_err-second-clause-none : goal.returns-in_err-second-clause-none
returns-in_err-second-clause-none c = if_none_any _ _ (rest_refused 2 c.args.text.now _ _ c.in_ok-first.ensures.found.1.0 (c.in_err-second.ensures.none 1))

pub returns-in_err-third-clause-none : goal.returns-in_err-third-clause-none
returns-in_err-third-clause-none c = if_none_any _ _ (rest_refused 2 c.args.text.now _ _ c.in_ok-first.ensures.found.1.0 (rest_refused 1 _ _ _ c.in_ok-second.ensures.found.1.0 (c.in_err-third.ensures.none 0)))

pub returns-in_err-fourth-clause-none : goal.returns-in_err-fourth-clause-none
returns-in_err-fourth-clause-none c = if_none_any _ _ (rest_refused 2 c.args.text.now _ _ c.in_ok-first.ensures.found.1.0 (rest_refused 1 _ _ _ c.in_ok-second.ensures.found.1.0 (rest_refused 0 _ _ _ c.in_ok-third.ensures.found.1.0 (last_refused _ c.in_err-fourth.ensures.none))))

pub returns-clause-found : goal.returns-clause-found
returns-clause-found c =
    let a = c.in_ok-first.ensures.found in
    let b = c.in_ok-second.ensures.found in
    let d = c.in_ok-third.ensures.found in
    numbers_more 2 _ a.0 _ _ _ a.1.0 a.1.1 (numbers_more 1 _ b.0 _ _ _ b.1.0 b.1.1 (numbers_more 0 _ d.0 _ _ _ d.1.0 d.1.1 (record { numbers = _ ∷ []; counted = refl; parted = refl; each = (c.in_ok-fourth.ensures.found, tt) })))
