use Rattle.zone_text.proofs.Files.Decides.{tokens_of}
use Rattle.zone_text.proofs.Common.{ap, append_cancel_left, cut_from, flat_map, sym, text, zero, ◌++◌, ◌∙◌}
use Rattle.zone_text.proofs.laws.file.one_end_of_a_text_is_unfinished.Goals as goal

pub returns : goal.returns
returns c = λ octets a b x y. append_cancel_left (flat_map text (cut_from zero x.tokens).ended) a b (sym x.whole ∙ y.whole ∙ ap (λ p. flat_map text (cut_from zero p).ended ++ b) (tokens_of octets y.tokens x.tokens y.are x.are))
