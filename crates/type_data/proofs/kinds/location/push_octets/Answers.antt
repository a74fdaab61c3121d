use Rattle.type_data.proofs.OfKinds.Location.Once.{octets_pushed}
use Rattle.type_data.proofs.kinds.location.push_octets.Goals as goal

pub returns : goal.returns
returns c = octets_pushed c.args.l c.args.out.now.items c.extend_from_slice.new.self.items c.extend_from_slice-2.new.self.items c.extend_from_slice-3.new.self.items c.extend_from_slice-4.new.self.items c.in_ok-extend_from_slice.ensures.items (cc (c.in_ok-extend_from_slice-2.ensures.items, c.to_be_bytes.ensures)) (cc (c.in_ok-extend_from_slice-3.ensures.items, c.to_be_bytes-2.ensures)) (cc (c.in_ok-extend_from_slice-4.ensures.items, c.to_be_bytes-3.ensures))
