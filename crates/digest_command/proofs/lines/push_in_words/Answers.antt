use Rattle.std.proofs.Common.{List, [], ap, codes, drop, ℕ, ◌++◌, ◌∙◌, ◌∷◌}
use Rattle.hex.specs.Hex.{encode_lower}
use Rattle.zone_rdata.specs.Lent.{record_of}
use Rattle.digest_command.specs.Lines.{fields_text}
use Rattle.digest_command.proofs.Answering.{if_taken, whole_line}
use Rattle.digest_command.proofs.lines.push_in_words.Goals as goal

pub returns : goal.returns
returns c =
    if_taken c.extend_from_slice-2.result _ _ _ _ c.extend_from_slice-2.ensures.items
    (λ all. whole_line _ _ _ _ _ _ _ (record_of c.args.rr.now) c.in_ok-print.ensures.ok (c.as_bytes.ensures.value ∙ c.in_ok-format.ensures.ok) c.in_ok-extend_from_slice.ensures.items c.in_ok-push_word.ensures.ok
    (c.as_bytes-2.ensures.value ∙ c.in_ok-data_in_words.ensures ∙ ap (λ (o : List ℕ). codes " ZONEMD " ++ fields_text o ++ 32 ∷ encode_lower (drop 6 o) ++ 10 ∷ []) c.octets.ensures) all)
