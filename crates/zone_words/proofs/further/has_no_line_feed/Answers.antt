use Rattle.zone_words.proofs.Common.{Bool, List, [], ap, arith, cond, count_by, false, list_any, nat_eq, not, not-true, refl, sum_by-cons, sym, true, zero-add, ℕ, ◌+◌, ◌==◌, ◌||◌, ◌↔◌, ◌∙◌, ◌∷◌, ◌≡◌}
use Rattle.zone_words.proofs.further.has_no_line_feed.Goals as goal

either : (b others : Bool) (n : ℕ) → (others ≡ false) ↔ (n ≡ 0) → ((b || others) ≡ false) ↔ (cond b 1 0 + n ≡ 0)
either true others n both = (λ e. absurd cc, λ e. absurd (omega (arith, e)))
either false others n both = (λ e. zero-add n ∙ both.0 e, λ e. both.1 (sym (zero-add n) ∙ e))

counted : (octets : List ℕ) → (list_any (λ y. nat_eq y 10) octets ≡ false) ↔ (count_by (λ c. c == 10) octets ≡ 0)
counted [] = (λ e. refl, λ e. refl)
counted (y ∷ octets) =
    let both = either (nat_eq y 10) (list_any (λ y. nat_eq y 10) octets) (count_by (λ c. c == 10) octets) (counted octets) in
    let step = sum_by-cons (λ c. cond (c == 10) 1 0) y octets in
    (λ e. step ∙ both.0 e, λ e. both.1 (sym step ∙ e))

pub returns : goal.returns
returns c =
    let found : c.contains.result ≡ list_any (λ y. nat_eq y 10) c.args.octets.now = c.contains.ensures.value in
    let both = counted c.args.octets.now in
    (λ is. both.0 (sym found ∙ not-true c.contains.result is), λ is. ap not (found ∙ both.1 is))
