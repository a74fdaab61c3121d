use Rattle.type_data.proofs.OfKinds.HostIdentity.PrintedData.{put_within}
use Rattle.type_data.proofs.printed_data.push_lengths_within.Goals as goal

pub returns-clause-put : goal.returns-clause-put
returns-clause-put c =
    put_within c.args.octets.now c.in_ok-tag_len.rest.now c.in_ok-algorithm.rest.now c.in_ok-key_len.rest.now c.in_ok-key_len.key_len.now c.in_ok-tag.tag.now c.in_ok-tag.rest.now c.args.out.now.items c.extend_from_slice.new.self.items c.extend_from_slice-2.new.self.items c.extend_from_slice-3.new.self.items c.extend_from_slice-4.new.self.items c.in_ok-tag_len.tag_len c.in_ok-algorithm.algorithm c.from.result
    c.in_ok-tag_len.ensures.whole c.in_ok-algorithm.ensures.whole c.in_ok-key_len.ensures.front c.in_ok-key_len.ensures.whole c.in_ok-tag.ensures.front c.from.ensures c.in_ok-tag.ensures.whole
    c.in_ok-extend_from_slice.ensures.items c.in_ok-extend_from_slice-2.ensures.items c.in_ok-extend_from_slice-3.ensures.items c.in_ok-extend_from_slice-4.ensures.items
