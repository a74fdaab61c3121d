use Rattle.type_data.proofs.UnescapedTexts.{unescaped_or_bad}
use Rattle.type_data.proofs.OfParameters.Values.{escaped_fails, plain_fails}
use Rattle.type_data.proofs.Common.{Alpn, DohPath, Ech, FailsValue, Ipv4Hint, Ipv6Hint, Mandatory, NoDefaultAlpn, Numbered, Ohttp, Port, bad_escape, fault_answered, subst, sym}
use Rattle.type_data.proofs.parameters.value.read_value.Goals as goal

pub returns-in-Mandatory-clause-fault : goal.returns-in-Mandatory-clause-fault
returns-in-Mandatory-clause-fault c = rw c.in-Mandatory.is (fault_answered c.read_mandatory.result _ _ (λ fault is. plain_fails Mandatory c.args.text.now fault (λ has. has) is) c.read_mandatory.ensures.fault)

pub returns-in-Alpn-clause-fault : goal.returns-in-Alpn-clause-fault
returns-in-Alpn-clause-fault c = rw c.in-Alpn.is (fault_answered c.read_protocols.result _ _ (λ fault is. escaped_fails Alpn c.args.text.now fault tt is) c.read_protocols.ensures.fault)

pub returns-in-NoDefaultAlpn-clause-fault : goal.returns-in-NoDefaultAlpn-clause-fault
returns-in-NoDefaultAlpn-clause-fault c = rw c.in-NoDefaultAlpn.is (fault_answered c.read_none.result _ _ (λ fault is. plain_fails NoDefaultAlpn c.args.text.now fault (λ has. has) is) c.read_none.ensures.fault)

pub returns-in-Port-clause-fault : goal.returns-in-Port-clause-fault
returns-in-Port-clause-fault c = rw c.in-Port.is (fault_answered c.read_port.result _ _ (λ fault is. plain_fails Port c.args.text.now fault (λ has. has) is) c.read_port.ensures.fault)

pub returns-in-Ipv4Hint-clause-fault : goal.returns-in-Ipv4Hint-clause-fault
returns-in-Ipv4Hint-clause-fault c = rw c.in-Ipv4Hint.is (fault_answered c.read_addresses.result _ _ (λ fault is. plain_fails Ipv4Hint c.args.text.now fault (λ has. has) is) c.read_addresses.ensures.fault)

pub returns-in-Ech-clause-fault : goal.returns-in-Ech-clause-fault
returns-in-Ech-clause-fault c = rw c.in-Ech.is (fault_answered c.read_ech.result _ _ (λ fault is. plain_fails Ech c.args.text.now fault (λ has. has) is) c.read_ech.ensures.fault)

pub returns-in-Ipv6Hint-clause-fault : goal.returns-in-Ipv6Hint-clause-fault
returns-in-Ipv6Hint-clause-fault c = rw c.in-Ipv6Hint.is (fault_answered c.read_addresses-in-Ipv6Hint.result _ _ (λ fault is. plain_fails Ipv6Hint c.args.text.now fault (λ has. has) is) c.read_addresses-in-Ipv6Hint.ensures.fault)

pub returns-in-DohPath-clause-fault : goal.returns-in-DohPath-clause-fault
returns-in-DohPath-clause-fault c = rw c.in-DohPath.is (fault_answered c.read_path.result _ _ (λ fault is. escaped_fails DohPath c.args.text.now fault tt is) c.read_path.ensures.fault)

pub returns-in-Ohttp-clause-fault : goal.returns-in-Ohttp-clause-fault
returns-in-Ohttp-clause-fault c = rw c.in-Ohttp.is (fault_answered c.read_none-in-Ohttp.result _ _ (λ fault is. plain_fails Ohttp c.args.text.now fault (λ has. has) is) c.read_none-in-Ohttp.ensures.fault)

pub returns-in-Numbered-clause-fault : goal.returns-in-Numbered-clause-fault
returns-in-Numbered-clause-fault c = rw c.in-Numbered.is (fault_answered c.push_unescaped.result _ _ (λ fault is. (subst (FailsValue (Numbered c.in-Numbered.field-0) c.args.text.now) (sym is.0) (bad_escape tt (λ octets states. unescaped_or_bad c.args.text.now octets states is.1)))) c.push_unescaped.ensures.fault)
