use Rattle.std.specs.List.{swap}
use Rattle.type_data.proofs.Common.{ap, arith, get_or, length, sym, ◌++◌, ◌∙◌, ◌∷◌, ◌≡◌}
use Rattle.type_data.proofs.OfKinds.HostIdentity.Lengths.{put_first}
use Rattle.type_data.proofs.kinds.host_identity.lengths_first.Goals as goal

pub returns : goal.returns
returns c algorithm tag high low rest is =
    let swapped : c.swap.new.self.items ≡ length tag ∷ algorithm ∷ tag ++ high ∷ low ∷ rest = c.swap.ensures.items ∙ ap (λ t. swap t 0 1) is in
    let tag_length : c.from-key_length.result ≡ length tag = c.from-key_length.ensures ∙ c.index.ensures ∙ ap (λ t. get_or t 0 c.index.result.now) swapped in
    put_first c.swap.new.self.items c.deref_mut.result.now c.rotate_right.new.self c.swap.new.self.len _ c.from-key_length.result algorithm tag high low rest swapped c.deref_mut.ensures.value tag_length (omega arith) c.rotate_right.ensures.after (sym c.deref_mut.ensures.len ∙ ap length c.deref_mut.ensures.value)
