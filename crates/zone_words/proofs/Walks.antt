-- What is written in place of the type's word and the tokens after it.
use Rattle.zone_words.proofs.Common.{AllByRecursion, AllFollow, IsToken, List, Token, WritesBetween, Written, [], ap, append-nil, append_assoc, arith, blank, codes, common_steps, digit_tokens, encode_lower, escaped, filter, flat_map-append, follow_after, generic_tokens, length, refl, renamed, stays, subst, sym, text, token_text, type_token, word, written, ℕ, ◌++◌, ◌∙◌, ◌∷◌, ◌≡◌}
use Rattle.zone_text.proofs.Common.{bare}
use Rattle.std.specs.Prelude.{decimal}
use Rattle.zone_words.specs.Written.{in_octets}
use Rattle.zone_name.proofs.Texts.Bare.{plain_text}

-- ---- words

pub word_text : (octets : List ℕ) → token_text (word octets) ≡ octets
word_text octets = sym (plain_text octets)

pub type_pushed : (number : ℕ) (old first new : List ℕ) → first ≡ old ++ codes "TYPE" → new ≡ first ++ decimal number → new ≡ old ++ token_text (type_token number)
type_pushed number old first new one two = two ∙ ap (λ t. t ++ decimal number) one ∙ append_assoc old (codes "TYPE") (decimal number) ∙ ap (λ t. old ++ t) (sym (word_text (codes "TYPE" ++ decimal number)))

-- the generic form, piece by piece
generic_text : (number : ℕ) (d : List ℕ) (tokens : List Token) → text (type_token number ∷ blank 32 ∷ bare (escaped 35 ∷ []) ∷ blank 32 ∷ word d ∷ tokens) ≡ token_text (type_token number) ++ (32 ∷ 92 ∷ 35 ∷ 32 ∷ (d ++ text tokens))
generic_text number d tokens = ap (λ t. token_text (type_token number) ++ (32 ∷ 92 ∷ 35 ∷ 32 ∷ (t ++ text tokens))) (word_text d)

three_joined : (old kind d first second new : List ℕ) → first ≡ old ++ kind → second ≡ first ++ (32 ∷ 92 ∷ 35 ∷ 32 ∷ []) → new ≡ second ++ d → new ≡ old ++ (kind ++ (32 ∷ 92 ∷ 35 ∷ 32 ∷ d))
three_joined old kind d first second new one two three = grind (arith, common_steps)

pub generic_none : (number : ℕ) (octets old first second new : List ℕ) → octets ≡ [] → first ≡ old ++ token_text (type_token number) → second ≡ first ++ (32 ∷ 92 ∷ 35 ∷ 32 ∷ []) → new ≡ second ++ decimal (length octets) → new ≡ old ++ text (generic_tokens number octets)
generic_none number octets old first second new none one two three =
    subst (λ o. new ≡ old ++ text (generic_tokens number o)) (sym none)
    (three_joined old (token_text (type_token number)) (decimal 0) first second new one two (three ∙ ap (λ o. second ++ decimal (length o)) none)
    ∙ ap (λ t. old ++ (token_text (type_token number) ++ (32 ∷ 92 ∷ 35 ∷ 32 ∷ t))) (sym (append-nil (decimal 0)))
    ∙ ap (λ t. old ++ t) (sym (generic_text number (decimal 0) [])))

generic_some : (number c : ℕ) (octets old first second third fourth new : List ℕ) → first ≡ old ++ token_text (type_token number) → second ≡ first ++ (32 ∷ 92 ∷ 35 ∷ 32 ∷ []) → third ≡ second ++ decimal (length (c ∷ octets)) → fourth ≡ third ++ (32 ∷ []) → new ≡ fourth ++ encode_lower (c ∷ octets) → new ≡ old ++ text (generic_tokens number (c ∷ octets))
generic_some number c octets old first second third fourth new one two three four five =
    let d : List ℕ = decimal (length (c ∷ octets)) in
    let h : List ℕ = encode_lower (c ∷ octets) in
    let tail : text (digit_tokens (c ∷ octets)) ≡ 32 ∷ h = ap (λ t. 32 ∷ (t ++ [])) (word_text h) ∙ ap (λ t. 32 ∷ t) (append-nil h) in
    five ∙ ap (λ t. t ++ h) (four ∙ ap (λ t. t ++ (32 ∷ [])) (three_joined old (token_text (type_token number)) d first second third one two three))
    ∙ five_joined old (token_text (type_token number)) d h
    ∙ ap (λ t. old ++ (token_text (type_token number) ++ (32 ∷ 92 ∷ 35 ∷ 32 ∷ (d ++ t)))) (sym tail)
    ∙ ap (λ t. old ++ t) (sym (generic_text number d (digit_tokens (c ∷ octets))))
  where
    five_joined : (old kind d h : List ℕ) → ((old ++ (kind ++ (32 ∷ 92 ∷ 35 ∷ 32 ∷ d))) ++ (32 ∷ [])) ++ h ≡ old ++ (kind ++ (32 ∷ 92 ∷ 35 ∷ 32 ∷ (d ++ (32 ∷ h))))
    five_joined old kind d h = grind (arith, common_steps)

pub generic_more : (number : ℕ) (octets old first second third fourth new : List ℕ) → (octets ≡ [] → ⊥) → first ≡ old ++ token_text (type_token number) → second ≡ first ++ (32 ∷ 92 ∷ 35 ∷ 32 ∷ []) → third ≡ second ++ decimal (length octets) → fourth ≡ third ++ (32 ∷ []) → new ≡ fourth ++ encode_lower octets → new ≡ old ++ text (generic_tokens number octets)
generic_more number [] old first second third fourth new some one two three four five = absurd (some refl)
generic_more number (c ∷ octets) old first second third fourth new some one two three four five = generic_some number c octets old first second third fourth new one two three four five

-- ---- the entry

joined_text : (old a b c : List ℕ) → ((old ++ a) ++ b) ++ c ≡ old ++ (a ++ (b ++ c))
joined_text old a b c = grind (arith, common_steps)

pub three_pushed : (old a b c first second new : List ℕ) → first ≡ old ++ a → second ≡ first ++ b → new ≡ second ++ c → new ≡ old ++ (a ++ (b ++ c))
three_pushed old a b c first second new one two three =
    three ∙ ap (λ t. t ++ c) (two ∙ ap (λ t. t ++ b) one) ∙ joined_text old a b c

pub renamed_pushed : (front_text back_text old first second new : List ℕ) (number : ℕ) → first ≡ old ++ front_text → second ≡ first ++ token_text (type_token number) → new ≡ second ++ back_text → WritesBetween front_text back_text (renamed number) old new
renamed_pushed front_text back_text old first second new number one two three back are =
    three_pushed old front_text (token_text (type_token number)) back_text first second new one two three
    ∙ ap (λ t. old ++ (front_text ++ (token_text (type_token number) ++ t))) are.whole

pub octets_pushed : (front_text octets staying new : List ℕ) (number : ℕ) (back : List Token) → new ≡ front_text ++ (text (generic_tokens number octets) ++ staying) → staying ≡ text (filter stays back) → new ≡ front_text ++ text (written (in_octets number octets) back)
octets_pushed front_text octets staying new number back pushed stay =
    pushed
    ∙ ap (λ t. front_text ++ (text (generic_tokens number octets) ++ t)) stay
    ∙ ap (λ t. front_text ++ t) (sym (flat_map-append token_text (generic_tokens number octets) (filter stays back)))

pub back_each : (front : List Token) (units : List Written) (back : List Token) → AllByRecursion IsToken (front ++ bare units ∷ back) → AllByRecursion IsToken back
back_each [] units back each = each.1
back_each (p ∷ front) units back each = back_each front units back each.1

pub back_follow : (front : List Token) (units : List Written) (back : List Token) → AllFollow (front ++ bare units ∷ back) → AllFollow back
back_follow [] units back follow = follow_after (bare units) back follow
back_follow (p ∷ front) units back follow = back_follow front units back (follow_after p (front ++ bare units ∷ back) follow)
