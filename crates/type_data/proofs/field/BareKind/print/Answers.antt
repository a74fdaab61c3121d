use Rattle.std.proofs.lemmas.Result.{IfOk-weaker}
use Rattle.type_data.proofs.PrintedKinds.{front_of_more, no_front_of_more, none_weaker}
use Rattle.type_data.proofs.field.BareKind.print.Goals as goal
use Rattle.type_data.specs.PrintedData.{PrintsBare, StatesSomewhere}
use Rattle.type_data.specs.Kinds.Address.{StatesIpv4, StatesIpv6}
use Rattle.type_data.specs.Kinds.Eui.{StatesEui}
use Rattle.type_data.specs.Kinds.Gateway.{StatesAddressType, StatesDiscovery, StatesNoAddress}
use Rattle.type_data.specs.Kinds.Hash.{StatesHash}
use Rattle.type_data.specs.Kinds.HostIdentity.{StatesHostIdentityTag, StatesPublicKey}
use Rattle.type_data.specs.Kinds.Name.{StatesSomeName}
use Rattle.type_data.specs.Kinds.NodeId.{StatesNodeId}
use Rattle.type_data.specs.Kinds.Number.{StatesU16, StatesU32, StatesU8}
use Rattle.type_data.specs.Kinds.Salt.{StatesSalt}
use Rattle.type_data.specs.Kinds.Tag.{StatesTag}
use Rattle.type_data.specs.Kinds.Time.{StatesTime}
use Rattle.type_data.specs.Kinds.Word.{StatesAlgorithm, StatesCertificateType, StatesNotifyScheme, StatesType}
use Rattle.type_data.specs.declared.field.BareKind.TheVariants as kinds

pub returns-in-U8-clause-printed : goal.returns-in-U8-clause-printed
returns-in-U8-clause-printed c = rw c.in-U8.is (IfOk-weaker c.print_u8.result _ _ (λ rest h. front_of_more (PrintsBare kinds.U8) StatesU8 (StatesSomewhere kinds.U8) c.args.octets.now rest.now _ _ (λ text part is. is.1) h) c.print_u8.ensures.printed)

pub returns-in-U8-clause-none : goal.returns-in-U8-clause-none
returns-in-U8-clause-none c = rw c.in-U8.is (none_weaker c.print_u8.result _ _ (λ h. no_front_of_more StatesU8 (StatesSomewhere kinds.U8) c.args.octets.now (λ text part is. is.1) h) c.print_u8.ensures.none)

pub returns-in-U16-clause-printed : goal.returns-in-U16-clause-printed
returns-in-U16-clause-printed c = rw c.in-U16.is (IfOk-weaker c.print_u16.result _ _ (λ rest h. front_of_more (PrintsBare kinds.U16) StatesU16 (StatesSomewhere kinds.U16) c.args.octets.now rest.now _ _ (λ text part is. is.1) h) c.print_u16.ensures.printed)

pub returns-in-U16-clause-none : goal.returns-in-U16-clause-none
returns-in-U16-clause-none c = rw c.in-U16.is (none_weaker c.print_u16.result _ _ (λ h. no_front_of_more StatesU16 (StatesSomewhere kinds.U16) c.args.octets.now (λ text part is. is.1) h) c.print_u16.ensures.none)

pub returns-in-U32-clause-printed : goal.returns-in-U32-clause-printed
returns-in-U32-clause-printed c = rw c.in-U32.is (IfOk-weaker c.print_u32.result _ _ (λ rest h. front_of_more (PrintsBare kinds.U32) StatesU32 (StatesSomewhere kinds.U32) c.args.octets.now rest.now _ _ (λ text part is. is.1) h) c.print_u32.ensures.printed)

pub returns-in-U32-clause-none : goal.returns-in-U32-clause-none
returns-in-U32-clause-none c = rw c.in-U32.is (none_weaker c.print_u32.result _ _ (λ h. no_front_of_more StatesU32 (StatesSomewhere kinds.U32) c.args.octets.now (λ text part is. is.1) h) c.print_u32.ensures.none)

pub returns-in-Algorithm-clause-printed : goal.returns-in-Algorithm-clause-printed
returns-in-Algorithm-clause-printed c = rw c.in-Algorithm.is (IfOk-weaker c.print_algorithm.result _ _ (λ rest h. front_of_more (PrintsBare kinds.Algorithm) StatesAlgorithm (StatesSomewhere kinds.Algorithm) c.args.octets.now rest.now _ _ (λ text part is. is.1) h) c.print_algorithm.ensures.printed)

pub returns-in-Algorithm-clause-none : goal.returns-in-Algorithm-clause-none
returns-in-Algorithm-clause-none c = rw c.in-Algorithm.is (none_weaker c.print_algorithm.result _ _ (λ h. no_front_of_more StatesAlgorithm (StatesSomewhere kinds.Algorithm) c.args.octets.now (λ text part is. is.1) h) c.print_algorithm.ensures.none)

pub returns-in-CertificateType-clause-printed : goal.returns-in-CertificateType-clause-printed
returns-in-CertificateType-clause-printed c = rw c.in-CertificateType.is (IfOk-weaker c.print_certificate_type.result _ _ (λ rest h. front_of_more (PrintsBare kinds.CertificateType) StatesCertificateType (StatesSomewhere kinds.CertificateType) c.args.octets.now rest.now _ _ (λ text part is. is.1) h) c.print_certificate_type.ensures.printed)

pub returns-in-CertificateType-clause-none : goal.returns-in-CertificateType-clause-none
returns-in-CertificateType-clause-none c = rw c.in-CertificateType.is (none_weaker c.print_certificate_type.result _ _ (λ h. no_front_of_more StatesCertificateType (StatesSomewhere kinds.CertificateType) c.args.octets.now (λ text part is. is.1) h) c.print_certificate_type.ensures.none)

pub returns-in-NotifyScheme-clause-printed : goal.returns-in-NotifyScheme-clause-printed
returns-in-NotifyScheme-clause-printed c = rw c.in-NotifyScheme.is (IfOk-weaker c.print_notify_scheme.result _ _ (λ rest h. front_of_more (PrintsBare kinds.NotifyScheme) StatesNotifyScheme (StatesSomewhere kinds.NotifyScheme) c.args.octets.now rest.now _ _ (λ text part is. is.1) h) c.print_notify_scheme.ensures.printed)

pub returns-in-NotifyScheme-clause-none : goal.returns-in-NotifyScheme-clause-none
returns-in-NotifyScheme-clause-none c = rw c.in-NotifyScheme.is (none_weaker c.print_notify_scheme.result _ _ (λ h. no_front_of_more StatesNotifyScheme (StatesSomewhere kinds.NotifyScheme) c.args.octets.now (λ text part is. is.1) h) c.print_notify_scheme.ensures.none)

pub returns-in-RecordType-clause-printed : goal.returns-in-RecordType-clause-printed
returns-in-RecordType-clause-printed c = rw c.in-RecordType.is (IfOk-weaker c.print_type.result _ _ (λ rest h. front_of_more (PrintsBare kinds.RecordType) StatesType (StatesSomewhere kinds.RecordType) c.args.octets.now rest.now _ _ (λ text part is. is.1) h) c.print_type.ensures.printed)

pub returns-in-RecordType-clause-none : goal.returns-in-RecordType-clause-none
returns-in-RecordType-clause-none c = rw c.in-RecordType.is (none_weaker c.print_type.result _ _ (λ h. no_front_of_more StatesType (StatesSomewhere kinds.RecordType) c.args.octets.now (λ text part is. is.1) h) c.print_type.ensures.none)

pub returns-in-Time-clause-printed : goal.returns-in-Time-clause-printed
returns-in-Time-clause-printed c = rw c.in-Time.is (IfOk-weaker c.print_time.result _ _ (λ rest h. front_of_more (PrintsBare kinds.Time) StatesTime (StatesSomewhere kinds.Time) c.args.octets.now rest.now _ _ (λ text part is. is.1) h) c.print_time.ensures.printed)

pub returns-in-Time-clause-none : goal.returns-in-Time-clause-none
returns-in-Time-clause-none c = rw c.in-Time.is (none_weaker c.print_time.result _ _ (λ h. no_front_of_more StatesTime (StatesSomewhere kinds.Time) c.args.octets.now (λ text part is. is.1) h) c.print_time.ensures.none)

pub returns-in-Name-clause-printed : goal.returns-in-Name-clause-printed
returns-in-Name-clause-printed c = rw c.in-Name.is (IfOk-weaker c.print_name.result _ _ (λ rest h. front_of_more (PrintsBare kinds.Name) StatesSomeName (StatesSomewhere kinds.Name) c.args.octets.now rest.now _ _ (λ text part is. is) h) c.print_name.ensures.printed)

pub returns-in-Name-clause-none : goal.returns-in-Name-clause-none
returns-in-Name-clause-none c = rw c.in-Name.is (none_weaker c.print_name.result _ _ (λ h. no_front_of_more StatesSomeName (StatesSomewhere kinds.Name) c.args.octets.now (λ text part is. is) h) c.print_name.ensures.none)

pub returns-in-Salt-clause-printed : goal.returns-in-Salt-clause-printed
returns-in-Salt-clause-printed c = rw c.in-Salt.is (IfOk-weaker c.print_salt.result _ _ (λ rest h. front_of_more (PrintsBare kinds.Salt) StatesSalt (StatesSomewhere kinds.Salt) c.args.octets.now rest.now _ _ (λ text part is. is.1) h) c.print_salt.ensures.printed)

pub returns-in-Salt-clause-none : goal.returns-in-Salt-clause-none
returns-in-Salt-clause-none c = rw c.in-Salt.is (none_weaker c.print_salt.result _ _ (λ h. no_front_of_more StatesSalt (StatesSomewhere kinds.Salt) c.args.octets.now (λ text part is. is.1) h) c.print_salt.ensures.none)

pub returns-in-Hash-clause-printed : goal.returns-in-Hash-clause-printed
returns-in-Hash-clause-printed c = rw c.in-Hash.is (IfOk-weaker c.print_hash.result _ _ (λ rest h. front_of_more (PrintsBare kinds.Hash) StatesHash (StatesSomewhere kinds.Hash) c.args.octets.now rest.now _ _ (λ text part is. is.1) h) c.print_hash.ensures.printed)

pub returns-in-Hash-clause-none : goal.returns-in-Hash-clause-none
returns-in-Hash-clause-none c = rw c.in-Hash.is (none_weaker c.print_hash.result _ _ (λ h. no_front_of_more StatesHash (StatesSomewhere kinds.Hash) c.args.octets.now (λ text part is. is.1) h) c.print_hash.ensures.none)

pub returns-in-Tag-clause-printed : goal.returns-in-Tag-clause-printed
returns-in-Tag-clause-printed c = rw c.in-Tag.is (IfOk-weaker c.print_tag.result _ _ (λ rest h. front_of_more (PrintsBare kinds.Tag) StatesTag (StatesSomewhere kinds.Tag) c.args.octets.now rest.now _ _ (λ text part is. is.1) h) c.print_tag.ensures.printed)

pub returns-in-Tag-clause-none : goal.returns-in-Tag-clause-none
returns-in-Tag-clause-none c = rw c.in-Tag.is (none_weaker c.print_tag.result _ _ (λ h. no_front_of_more StatesTag (StatesSomewhere kinds.Tag) c.args.octets.now (λ text part is. is.1) h) c.print_tag.ensures.none)

pub returns-in-Ipv4-clause-printed : goal.returns-in-Ipv4-clause-printed
returns-in-Ipv4-clause-printed c = rw c.in-Ipv4.is (IfOk-weaker c.print_address.result _ _ (λ rest h. front_of_more (PrintsBare kinds.Ipv4) StatesIpv4 (StatesSomewhere kinds.Ipv4) c.args.octets.now rest.now _ _ (λ text part is. is.1) h) c.print_address.ensures.printed)

pub returns-in-Ipv4-clause-none : goal.returns-in-Ipv4-clause-none
returns-in-Ipv4-clause-none c = rw c.in-Ipv4.is (none_weaker c.print_address.result _ _ (λ h. no_front_of_more StatesIpv4 (StatesSomewhere kinds.Ipv4) c.args.octets.now (λ text part is. is.1) h) c.print_address.ensures.none)

pub returns-in-Ipv6-clause-printed : goal.returns-in-Ipv6-clause-printed
returns-in-Ipv6-clause-printed c = rw c.in-Ipv6.is (IfOk-weaker c.print_address-in-Ipv6.result _ _ (λ rest h. front_of_more (PrintsBare kinds.Ipv6) StatesIpv6 (StatesSomewhere kinds.Ipv6) c.args.octets.now rest.now _ _ (λ text part is. is.1) h) c.print_address-in-Ipv6.ensures.printed)

pub returns-in-Ipv6-clause-none : goal.returns-in-Ipv6-clause-none
returns-in-Ipv6-clause-none c = rw c.in-Ipv6.is (none_weaker c.print_address-in-Ipv6.result _ _ (λ h. no_front_of_more StatesIpv6 (StatesSomewhere kinds.Ipv6) c.args.octets.now (λ text part is. is.1) h) c.print_address-in-Ipv6.ensures.none)

pub returns-in-AddressType-clause-printed : goal.returns-in-AddressType-clause-printed
returns-in-AddressType-clause-printed c = rw c.in-AddressType.is (IfOk-weaker c.print_address_type.result _ _ (λ rest h. front_of_more (PrintsBare (kinds.AddressType c.in-AddressType.optional)) (StatesAddressType c.in-AddressType.optional) (StatesSomewhere (kinds.AddressType c.in-AddressType.optional)) c.args.octets.now rest.now _ _ (λ text part is. is.1) h) c.print_address_type.ensures.printed)

pub returns-in-AddressType-clause-none : goal.returns-in-AddressType-clause-none
returns-in-AddressType-clause-none c = rw c.in-AddressType.is (none_weaker c.print_address_type.result _ _ (λ h. no_front_of_more (StatesAddressType c.in-AddressType.optional) (StatesSomewhere (kinds.AddressType c.in-AddressType.optional)) c.args.octets.now (λ text part is. is.1) h) c.print_address_type.ensures.none)

pub returns-in-Discovery-clause-printed : goal.returns-in-Discovery-clause-printed
returns-in-Discovery-clause-printed c = rw c.in-Discovery.is (IfOk-weaker c.print_discovery.result _ _ (λ rest h. front_of_more (PrintsBare kinds.Discovery) StatesDiscovery (StatesSomewhere kinds.Discovery) c.args.octets.now rest.now _ _ (λ text part is. is.1) h) c.print_discovery.ensures.printed)

pub returns-in-Discovery-clause-none : goal.returns-in-Discovery-clause-none
returns-in-Discovery-clause-none c = rw c.in-Discovery.is (none_weaker c.print_discovery.result _ _ (λ h. no_front_of_more StatesDiscovery (StatesSomewhere kinds.Discovery) c.args.octets.now (λ text part is. is.1) h) c.print_discovery.ensures.none)

pub returns-in-NoAddress-clause-printed : goal.returns-in-NoAddress-clause-printed
returns-in-NoAddress-clause-printed c = rw c.in-NoAddress.is (IfOk-weaker c.print_no_address.result _ _ (λ rest h. front_of_more (PrintsBare kinds.NoAddress) StatesNoAddress (StatesSomewhere kinds.NoAddress) c.args.octets.now rest.now _ _ (λ text part is. is.1) h) c.print_no_address.ensures.printed)

pub returns-in-NoAddress-clause-none : goal.returns-in-NoAddress-clause-none
returns-in-NoAddress-clause-none c = rw c.in-NoAddress.is (none_weaker c.print_no_address.result _ _ (λ h. no_front_of_more StatesNoAddress (StatesSomewhere kinds.NoAddress) c.args.octets.now (λ text part is. is.1) h) c.print_no_address.ensures.none)

pub returns-in-NodeId-clause-printed : goal.returns-in-NodeId-clause-printed
returns-in-NodeId-clause-printed c = rw c.in-NodeId.is (IfOk-weaker c.print_node_id.result _ _ (λ rest h. front_of_more (PrintsBare kinds.NodeId) StatesNodeId (StatesSomewhere kinds.NodeId) c.args.octets.now rest.now _ _ (λ text part is. is.1) h) c.print_node_id.ensures.printed)

pub returns-in-NodeId-clause-none : goal.returns-in-NodeId-clause-none
returns-in-NodeId-clause-none c = rw c.in-NodeId.is (none_weaker c.print_node_id.result _ _ (λ h. no_front_of_more StatesNodeId (StatesSomewhere kinds.NodeId) c.args.octets.now (λ text part is. is.1) h) c.print_node_id.ensures.none)

pub returns-in-Eui48-clause-printed : goal.returns-in-Eui48-clause-printed
returns-in-Eui48-clause-printed c = rw c.in-Eui48.is (IfOk-weaker c.print_eui.result _ _ (λ rest h. front_of_more (PrintsBare kinds.Eui48) (StatesEui 6) (StatesSomewhere kinds.Eui48) c.args.octets.now rest.now _ _ (λ text part is. is.1) h) c.print_eui.ensures.printed)

pub returns-in-Eui48-clause-none : goal.returns-in-Eui48-clause-none
returns-in-Eui48-clause-none c = rw c.in-Eui48.is (none_weaker c.print_eui.result _ _ (λ h. no_front_of_more (StatesEui 6) (StatesSomewhere kinds.Eui48) c.args.octets.now (λ text part is. is.1) h) c.print_eui.ensures.none)

pub returns-in-Eui64-clause-printed : goal.returns-in-Eui64-clause-printed
returns-in-Eui64-clause-printed c = rw c.in-Eui64.is (IfOk-weaker c.print_eui-in-Eui64.result _ _ (λ rest h. front_of_more (PrintsBare kinds.Eui64) (StatesEui 8) (StatesSomewhere kinds.Eui64) c.args.octets.now rest.now _ _ (λ text part is. is.1) h) c.print_eui-in-Eui64.ensures.printed)

pub returns-in-Eui64-clause-none : goal.returns-in-Eui64-clause-none
returns-in-Eui64-clause-none c = rw c.in-Eui64.is (none_weaker c.print_eui-in-Eui64.result _ _ (λ h. no_front_of_more (StatesEui 8) (StatesSomewhere kinds.Eui64) c.args.octets.now (λ text part is. is.1) h) c.print_eui-in-Eui64.ensures.none)

pub returns-in-HostIdentityTag-clause-printed : goal.returns-in-HostIdentityTag-clause-printed
returns-in-HostIdentityTag-clause-printed c = rw c.in-HostIdentityTag.is (IfOk-weaker c.print_host_identity_tag.result _ _ (λ rest h. front_of_more (PrintsBare kinds.HostIdentityTag) StatesHostIdentityTag (StatesSomewhere kinds.HostIdentityTag) c.args.octets.now rest.now _ _ (λ text part is. is.1) h) c.print_host_identity_tag.ensures.printed)

pub returns-in-HostIdentityTag-clause-none : goal.returns-in-HostIdentityTag-clause-none
returns-in-HostIdentityTag-clause-none c = rw c.in-HostIdentityTag.is (none_weaker c.print_host_identity_tag.result _ _ (λ h. no_front_of_more StatesHostIdentityTag (StatesSomewhere kinds.HostIdentityTag) c.args.octets.now (λ text part is. is.1) h) c.print_host_identity_tag.ensures.none)

pub returns-in-PublicKey-clause-printed : goal.returns-in-PublicKey-clause-printed
returns-in-PublicKey-clause-printed c = rw c.in-PublicKey.is (IfOk-weaker c.print_public_key.result _ _ (λ rest h. front_of_more (PrintsBare kinds.PublicKey) StatesPublicKey (StatesSomewhere kinds.PublicKey) c.args.octets.now rest.now _ _ (λ text part is. is.1) h) c.print_public_key.ensures.printed)

pub returns-in-PublicKey-clause-none : goal.returns-in-PublicKey-clause-none
returns-in-PublicKey-clause-none c = rw c.in-PublicKey.is (none_weaker c.print_public_key.result _ _ (λ h. no_front_of_more StatesPublicKey (StatesSomewhere kinds.PublicKey) c.args.octets.now (λ text part is. is.1) h) c.print_public_key.ensures.none)
