use Rattle.std.proofs.Common.{sym, ◌∙◌}
use Rattle.words_print.proofs.Heads.{no_back, owner_and_ttl, some_ttl}
use Rattle.words_print.proofs.canonical_head.are_owner_and_ttl.Goals as goal

pub returns : goal.returns
returns c = λ is.
    let ttl = some_ttl c.in-Some-around_first.ttl.now c.ttl_of.result c.ttl_of.ensures.some (sym c.is_some.ensures ∙ is) in
    record {
      owner = c.in-Some.owner.now;
      ttl = c.in-Some-around_first.ttl.now;
      whole = owner_and_ttl c.args.octets.now c.in-Some.owner.now c.in-Some.rest.now c.in-Some-around_first.ttl.now c.in-Some-around_first.back.now c.in-Some.ensures.some.whole c.in-Some-around_first.ensures.some.whole (no_back c.in-Some-around_first.back.now c.is_empty.result c.is_empty.ensures c.if-not-is_empty.false);
      owner_stands = c.is_plain_owner.ensures.bare c.if-not-is_plain_owner.false;
      no_directive = c.is_plain_owner.ensures.owner c.if-not-is_plain_owner.false;
      ttl_stands = c.is_plain_word.ensures c.if-not-is_plain_word.false;
      seconds = ttl.0;
      is_ttl = ttl.1;
    }
