use Rattle.zone_rdata.proofs.Common.{◌∙◌}
use Rattle.zone_rdata.proofs.Items.ReadDigits.{none_read, one_more, first_unread, grown_so_far, read_to_end, read_to_odd}
use Rattle.zone_rdata.proofs.hexadecimal.push_pairs.Goals as goal

pub loop-rest-init : goal.loop-rest-init
loop-rest-init c = none_read c.args.text.now c.args.out.now.items

pub returns-in_default-octet_of_pair-clause-no : goal.returns-in_default-octet_of_pair-clause-no
returns-in_default-octet_of_pair-clause-no c =
    λ is. first_unread c.args.text.now c.loop-rest.rest.now _ c.loop-rest.out.items 0 c.in-len2-up.len_at_least c.loop-rest.invariant c.in_default-octet_of_pair.ensures.none

pub returns-in_default-octet_of_pair-clause-grown : goal.returns-in_default-octet_of_pair-clause-grown
returns-in_default-octet_of_pair-clause-grown c = grown_so_far c.args.text.now c.loop-rest.rest.now _ c.loop-rest.out.items c.loop-rest.invariant

pub returns-in_err-extend_from_slice-clause-grown : goal.returns-in_err-extend_from_slice-clause-grown
returns-in_err-extend_from_slice-clause-grown c =
    let so_far = grown_so_far c.args.text.now c.loop-rest.rest.now _ c.loop-rest.out.items c.loop-rest.invariant in
    (so_far.0, c.in_err-extend_from_slice.ensures.items ∙ so_far.1)

pub loop-rest-preserved : goal.loop-rest-preserved
loop-rest-preserved c = one_more c.args.text.now c.loop-rest.rest.now _ c.loop-rest.out.items _ 0 c.in-Some.octet c.in-len2-up.len_at_least c.loop-rest.invariant c.in-Some.ensures.found c.in_ok-extend_from_slice.ensures.items

pub returns-clause-yes : goal.returns-clause-yes
returns-clause-yes c = read_to_end c.args.text.now c.loop-rest.rest.now _ c.loop-rest.out.items c.is_empty.result c.is_empty.ensures c.loop-rest.invariant

pub returns-clause-no : goal.returns-clause-no
returns-clause-no c = read_to_odd c.args.text.now c.loop-rest.rest.now _ c.loop-rest.out.items c.is_empty.result c.in_default.len_below c.is_empty.ensures c.loop-rest.invariant

pub returns-clause-grown : goal.returns-clause-grown
returns-clause-grown c = grown_so_far c.args.text.now c.loop-rest.rest.now _ c.loop-rest.out.items c.loop-rest.invariant
