-- Room of fixed size.
use Rattle.zone_name.proofs.Common.{◌≡◌, ◌∙◌, ℕ, List, [], ◌++◌, length, ap, arith, length-append, IsName, name_text}
use Rattle.zone_name.specs.Sink.{TakesWhatFits}
use Rattle.zone_name.proofs.Texts.Lengths.{name_text_length}

-- a name's spelling fits
pub spelling_fits : (text next : List ℕ) (labels : List (List ℕ)) → text ≡ [] → IsName labels
    → TakesWhatFits 1021 text (name_text labels) next → next ≡ name_text labels
spelling_fits text next labels none name takes =
    let fits = length-append text (name_text labels) in
    takes (omega (arith, ap length none, fits, name_text_length labels, name.short)) ∙ ap (λ t. t ++ name_text labels) none
