use Rattle.zone_words.proofs.OneRewriting.{one_rewriting}
use Rattle.zone_words.proofs.laws.rewriting_is_unique.Goals as goal

pub returns : goal.returns
returns c origin octets new other told others a b =
    let same = one_rewriting origin octets new other told others a b in
    (same.written, same.told_same)
