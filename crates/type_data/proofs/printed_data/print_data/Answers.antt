use Rattle.type_data.proofs.PrintedDataLaws.{fields_are_data, no_data_of, too_long, words_put, words_shown}
use Rattle.type_data.proofs.PrintedKinds.{none_weaker, ok_goes}
use Rattle.type_data.proofs.Common.{map}
use Rattle.type_data.proofs.printed_data.print_data.Goals as goal
use Rattle.type_data.specs.Table.{field_of, of_amtrelay, of_code, of_hip, of_ipseckey, same}

pub returns-in-Ipseckey-clause-printed : goal.returns-in-Ipseckey-clause-printed
returns-in-Ipseckey-clause-printed c = rw c.in-Ipseckey.is (ok_goes c.print_ipseckey.result _ _ (λ h. words_put of_ipseckey c.args.octets.now _ _ c.clear.ensures.items h) c.print_ipseckey.ensures.printed)

pub returns-in-Ipseckey-clause-shown : goal.returns-in-Ipseckey-clause-shown
returns-in-Ipseckey-clause-shown c = ok_goes c.print_ipseckey.result _ _ (λ h. words_shown of_ipseckey c.args.octets.now _ (words_put of_ipseckey c.args.octets.now _ _ c.clear.ensures.items h)) c.print_ipseckey.ensures.printed

pub returns-in-Ipseckey-clause-none : goal.returns-in-Ipseckey-clause-none
returns-in-Ipseckey-clause-none c = rw c.in-Ipseckey.is (none_weaker c.print_ipseckey.result _ _ (λ h type. h) c.print_ipseckey.ensures.none)

pub returns-in-Amtrelay-clause-printed : goal.returns-in-Amtrelay-clause-printed
returns-in-Amtrelay-clause-printed c = rw c.in-Amtrelay.is (ok_goes c.print_amtrelay.result _ _ (λ h. words_put of_amtrelay c.args.octets.now _ _ c.clear.ensures.items h) c.print_amtrelay.ensures.printed)

pub returns-in-Amtrelay-clause-shown : goal.returns-in-Amtrelay-clause-shown
returns-in-Amtrelay-clause-shown c = ok_goes c.print_amtrelay.result _ _ (λ h. words_shown of_amtrelay c.args.octets.now _ (words_put of_amtrelay c.args.octets.now _ _ c.clear.ensures.items h)) c.print_amtrelay.ensures.printed

pub returns-in-Amtrelay-clause-none : goal.returns-in-Amtrelay-clause-none
returns-in-Amtrelay-clause-none c = rw c.in-Amtrelay.is (none_weaker c.print_amtrelay.result _ _ (λ h type. h) c.print_amtrelay.ensures.none)

pub returns-in-Hip-clause-printed : goal.returns-in-Hip-clause-printed
returns-in-Hip-clause-printed c = rw c.in-Hip.is (ok_goes c.print_hip.result _ _ (λ h. words_put of_hip c.args.octets.now _ _ c.clear.ensures.items h) c.print_hip.ensures.printed)

pub returns-in-Hip-clause-shown : goal.returns-in-Hip-clause-shown
returns-in-Hip-clause-shown c = ok_goes c.print_hip.result _ _ (λ h. words_shown of_hip c.args.octets.now _ (words_put of_hip c.args.octets.now _ _ c.clear.ensures.items h)) c.print_hip.ensures.printed

pub returns-in-Hip-clause-none : goal.returns-in-Hip-clause-none
returns-in-Hip-clause-none c = rw c.in-Hip.is (none_weaker c.print_hip.result _ _ (λ h type. h) c.print_hip.ensures.none)

pub returns-in-Same-clause-printed : goal.returns-in-Same-clause-printed
returns-in-Same-clause-printed c = rw c.in-Same.is (ok_goes c.print_fields.result _ _ (λ h. words_put (same (map field_of c.in-Same.fields.now)) c.args.octets.now _ _ c.clear.ensures.items (fields_are_data (map field_of c.in-Same.fields.now) c.args.octets.now _ _ c.if-octets-gt-LONGEST_DATA.false h)) c.print_fields.ensures.printed)

pub returns-in-Same-clause-shown : goal.returns-in-Same-clause-shown
returns-in-Same-clause-shown c = ok_goes c.print_fields.result _ _ (λ h. words_shown (same (map field_of c.in-Same.fields.now)) c.args.octets.now _ (words_put (same (map field_of c.in-Same.fields.now)) c.args.octets.now _ _ c.clear.ensures.items (fields_are_data (map field_of c.in-Same.fields.now) c.args.octets.now _ _ c.if-octets-gt-LONGEST_DATA.false h))) c.print_fields.ensures.printed

pub returns-in-Same-clause-none : goal.returns-in-Same-clause-none
returns-in-Same-clause-none c = rw c.in-Same.is (none_weaker c.print_fields.result _ _ (λ h. no_data_of (map field_of c.in-Same.fields.now) c.args.octets.now h) c.print_fields.ensures.none)

pub returns-then-octets-gt-LONGEST_DATA-clause-none : goal.returns-then-octets-gt-LONGEST_DATA-clause-none
returns-then-octets-gt-LONGEST_DATA-clause-none c type = too_long (of_code c.args.fields) c.args.octets.now c.if-octets-gt-LONGEST_DATA.true
