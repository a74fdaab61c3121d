-- What is written for a file of octets is octets.
use Rattle.zone_words.proofs.Common.{AllByRecursion-append, AllByRecursion-back, AllByRecursion-front, AreOctets, BecomesUnder, EachBecomes, Entry, IsRewriting, Labels, List, Outcome, Refused, Token, [], anew, arith, broken, codes, common_steps, count_by, cut_from, digit_glyph, digits, digits_onto, encode_lower, encode_with, entry_of, false, filter, flat_map, flat_map-append, kept, length, lower_digits, refused, slice_index, subst, suc, sym, text, token_text, written_of, zero, ℕ, ◌++◌, ◌+◌, ◌<◌, ◌==◌, ◌%◌, ◌/◌, ◌∙◌, ◌∷◌, ap}
use Rattle.std.specs.Prelude.{decimal}
use Rattle.zone_text.specs.Tokens.{bare, blank, closing, comment, line_feed, opening, quoted}
use Rattle.zone_text.proofs.Files.Left.{entries_text}
use Rattle.zone_words.specs.Rewriting.{whole}
use Rattle.zone_words.specs.Written.{Anew, digit_tokens, generic_tokens, in_octets, renamed, stays, type_token, word, written}

abbrev Low : ℕ → Type 0
Low c = c < 256

low_glyph : (d : ℕ) → digit_glyph false (d % 10) < 256
low_glyph d = grind (arith)

low_onto : (k n : ℕ) (acc : List ℕ) → AreOctets acc → AreOctets (digits_onto k 10 false n acc)
low_onto zero n acc h = h
low_onto (suc k) n acc h = grind (arith, low_glyph n, low_onto k (n / 10) (digit_glyph false (n % 10) ∷ acc))

low_decimal : (n : ℕ) → AreOctets (decimal n)
unfolding digits
low_decimal n = low_onto 64 n [] tt

low_codes : AreOctets lower_digits
low_codes = by_tests
  where
    by_tests : AreOctets (codes "0123456789abcdef")
    by_tests = grind arith

low_index : (l : List ℕ) (i : ℕ) → AreOctets l → slice_index l i < 256
low_index l i each = grind (arith, common_steps)

low_hex : (octets : List ℕ) → AreOctets (encode_lower octets)
unfolding encode_with
low_hex [] = tt
low_hex (c ∷ octets) = (low_index lower_digits (c / 16) low_codes, (low_index lower_digits (c % 16) low_codes, low_hex octets))

low_word : (octets : List ℕ) → AreOctets octets → AreOctets (token_text (word octets))
low_word [] low = tt
low_word (c ∷ octets) low = (low.0, low_word octets low.1)

low_type : (number : ℕ) → AreOctets (token_text (type_token number))
low_type number = low_word (codes "TYPE" ++ decimal number) (AllByRecursion-append Low (codes "TYPE") (decimal number) (grind arith) (low_decimal number))

low_digits : (octets : List ℕ) → AreOctets (text (digit_tokens octets))
low_digits [] = tt
low_digits (c ∷ octets) = (omega arith, AllByRecursion-append Low (token_text (word (encode_lower (c ∷ octets)))) [] (low_word (encode_lower (c ∷ octets)) (low_hex (c ∷ octets))) tt)

low_generic : (number : ℕ) (octets : List ℕ) → AreOctets (text (generic_tokens number octets))
low_generic number octets =
    AllByRecursion-append Low (token_text (type_token number)) _ (low_type number) (
      omega arith,
      (
        omega arith,
        (
          omega arith,
          (
            omega arith,
            AllByRecursion-append Low (token_text (word (decimal (length octets)))) (text (digit_tokens octets)) (low_word (decimal (length octets)) (low_decimal (length octets))) (low_digits octets),
          ),
        ),
      ),
    )

low_rest : (p : Token) (tokens : List Token) → AreOctets (text (p ∷ tokens)) → AreOctets (text tokens)
low_rest p tokens low = AllByRecursion-back Low (token_text p) (text tokens) low

low_first : (p : Token) (tokens : List Token) → AreOctets (text (p ∷ tokens)) → AreOctets (token_text p)
low_first p tokens low = AllByRecursion-front Low (token_text p) (text tokens) low

low_stays : (tokens : List Token) → AreOctets (text tokens) → AreOctets (text (filter stays tokens))
low_stays [] low = tt
low_stays (blank c ∷ tokens) low = low_stays tokens (low_rest (blank c) tokens low)
low_stays (bare units ∷ tokens) low = low_stays tokens (low_rest (bare units) tokens low)
low_stays (quoted units ∷ tokens) low = low_stays tokens (low_rest (quoted units) tokens low)
low_stays (opening ∷ tokens) low = (low.0, low_stays tokens low.1)
low_stays (closing ∷ tokens) low = (low.0, low_stays tokens low.1)
low_stays (line_feed ∷ tokens) low = (low.0, low_stays tokens low.1)
low_stays (comment octets ∷ tokens) low = AllByRecursion-append Low (59 ∷ octets) (text (filter stays tokens)) (low_first (comment octets) tokens low) (low_stays tokens (low_rest (comment octets) tokens low))

low_joined : (tokens others : List Token) → AreOctets (text tokens) → AreOctets (text others) → AreOctets (text (tokens ++ others))
low_joined tokens others a b = subst AreOctets (sym (flat_map-append token_text tokens others)) (AllByRecursion-append Low (text tokens) (text others) a b)

low_written : (it : Anew) (back : List Token) → AreOctets (text back) → AreOctets (text (written it back))
low_written (renamed number) back low = AllByRecursion-append Low (token_text (type_token number)) (text back) (low_type number) low
low_written (in_octets number octets) back low = low_joined (generic_tokens number octets) (filter stays back) (low_generic number octets) (low_stays back low)

module _ (origin : Labels) where
  low_outcome : (before : List Entry) (line : ℕ) (tokens : List Token) (outcome : Outcome) → BecomesUnder origin before line tokens outcome → AreOctets (text tokens) → AreOctets (text outcome.written)
  low_outcome before line tokens outcome (anew front back it says is) low =
      let parted : AreOctets (text front ++ text (bare says.word ∷ back)) = subst AreOctets (ap text says.split ∙ flat_map-append token_text front (bare says.word ∷ back)) low in
      let behind : AreOctets (text back) = low_rest (bare says.word) back (AllByRecursion-back Low (text front) (text (bare says.word ∷ back)) parted) in
      subst (λ o. AreOctets (text o)) (sym (ap (λ (o : Outcome). o.written) is)) (low_joined front (written it back) (AllByRecursion-front Low (text front) (text (bare says.word ∷ back)) parted) (low_written it back behind))
  low_outcome before line tokens outcome (refused it fails is) low = subst (λ o. AreOctets (text o)) (sym (ap (λ (o : Outcome). o.written) is)) low
  low_outcome before line tokens outcome (kept says fails is) low = subst (λ o. AreOctets (text o)) (sym (ap (λ (o : Outcome). o.written) is)) low

  low_each : (before : List Entry) (line : ℕ) (entries : List (List Token)) (outcomes : List Outcome) → EachBecomes (BecomesUnder origin) before line entries outcomes → AreOctets (flat_map text entries) → AreOctets (written_of outcomes)
  low_each before line [] [] each low = tt
  low_each before line [] (outcome ∷ outcomes) each low = absurd each
  low_each before line (tokens ∷ entries) [] each low = absurd each
  low_each before line (tokens ∷ entries) (outcome ∷ outcomes) each low =
      AllByRecursion-append Low (text outcome.written) (written_of outcomes)
      (low_outcome before line tokens outcome each.0 (AllByRecursion-front Low (text tokens) (flat_map text entries) low))
      (low_each (entry_of line tokens ∷ before) (line + count_by (λ c. c == 10) (text tokens)) entries outcomes each.1 (AllByRecursion-back Low (text tokens) (flat_map text entries) low))

  pub low_rewriting : (octets new : List ℕ) (told : List Refused) → IsRewriting origin octets new told → AreOctets octets → AreOctets new
  low_rewriting octets new told (whole tokens outcomes cut each is tells) low =
      subst AreOctets (sym is) (low_each [] 1 _ outcomes each (subst AreOctets (cut.whole ∙ sym (entries_text tokens)) low))
  low_rewriting octets new told (broken tokens fault outcomes rest breaks each parts is tells) low =
      let parted = subst AreOctets parts low in
      subst AreOctets (sym is) (AllByRecursion-append Low (written_of outcomes) rest
      (low_each [] 1 _ outcomes each (AllByRecursion-front Low (flat_map text (cut_from zero tokens).ended) rest parted))
      (AllByRecursion-back Low (flat_map text (cut_from zero tokens).ended) rest parted))
