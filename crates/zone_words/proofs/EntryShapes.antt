-- Tokens that are written anew are cut where they were: their parentheses, their line feeds outside
-- of them and the order of their tokens are as before.
use Rattle.zone_words.proofs.Common.{AllFollow, Anew, Cut, List, MayFollow, Token, Written, [], ap, blank, closing, codes, comment, cut_from, depth_after, encode_lower, filter, follow_after, generic_tokens, in_front, in_front_of, line_feed, map, opening, plain, refl, renamed, stays, subst, suc, sym, type_token, written, zero, ℕ, ⊤, ◌++◌, ◌∙◌, ◌∷◌, ◌≡◌}
use Rattle.zone_text.proofs.Common.{bare, quoted}
use Rattle.std.specs.Prelude.{decimal}
use Rattle.zone_words.specs.Written.{in_octets}

-- ---- depths

stay_depth : (d : ℕ) (back : List Token) → depth_after d (filter stays back) ≡ depth_after d back
stay_depth d [] = refl
stay_depth d (opening ∷ back) = stay_depth (suc d) back
stay_depth zero (closing ∷ back) = refl
stay_depth (suc d) (closing ∷ back) = stay_depth d back
stay_depth d (blank c ∷ back) = stay_depth d back
stay_depth d (bare units ∷ back) = stay_depth d back
stay_depth d (quoted units ∷ back) = stay_depth d back
stay_depth d (line_feed ∷ back) = stay_depth d back
stay_depth d (comment octets ∷ back) = stay_depth d back

generic_depth : (d number : ℕ) (octets : List ℕ) (more : List Token) → depth_after d (generic_tokens number octets ++ more) ≡ depth_after d more
generic_depth d number [] more = refl
generic_depth d number (c ∷ octets) more = refl

pub written_depth : (d : ℕ) (it : Anew) (units : List Written) (back : List Token) → depth_after d (written it back) ≡ depth_after d (bare units ∷ back)
written_depth d (renamed number) units back = refl
written_depth d (in_octets number octets) units back = generic_depth d number octets (filter stays back) ∙ stay_depth d back

pub front_depth : (d : ℕ) (front a b : List Token) → ((k : ℕ) → depth_after k a ≡ depth_after k b) → depth_after d (front ++ a) ≡ depth_after d (front ++ b)
front_depth d [] a b same = same d
front_depth d (opening ∷ front) a b same = front_depth (suc d) front a b same
front_depth zero (closing ∷ front) a b same = refl
front_depth (suc d) (closing ∷ front) a b same = front_depth d front a b same
front_depth d (blank c ∷ front) a b same = front_depth d front a b same
front_depth d (bare units ∷ front) a b same = front_depth d front a b same
front_depth d (quoted units ∷ front) a b same = front_depth d front a b same
front_depth d (line_feed ∷ front) a b same = front_depth d front a b same
front_depth d (comment octets ∷ front) a b same = front_depth d front a b same

-- ---- one token on

abbrev pub single : List Token → Cut
single tokens = record { ended = tokens ∷ []; open_tokens = [] }

-- the tokens are one entry, from a depth on
abbrev pub IsOne : ℕ → List Token → Type 0
IsOne d tokens = cut_from d tokens ≡ single tokens

-- no entry of the tokens is ended
abbrev pub IsUnended : ℕ → List Token → Type 0
IsUnended d tokens = (cut_from d tokens).ended ≡ []

-- a token after which the depth is another
abbrev pub Goes : ℕ → ℕ → Token → Type 0
Goes d k p = (back : List Token) → cut_from d (p ∷ back) ≡ in_front_of p (cut_from k back)

pub blank_goes : (d c : ℕ) → Goes d d (blank c)
blank_goes zero c back = refl
blank_goes (suc d) c back = refl

pub bare_goes : (d : ℕ) (u : List Written) → Goes d d (bare u)
bare_goes zero u back = refl
bare_goes (suc d) u back = refl

pub quoted_goes : (d : ℕ) (u : List Written) → Goes d d (quoted u)
quoted_goes zero u back = refl
quoted_goes (suc d) u back = refl

pub comment_goes : (d : ℕ) (o : List ℕ) → Goes d d (comment o)
comment_goes zero o back = refl
comment_goes (suc d) o back = refl

pub opening_goes : (d : ℕ) → Goes d (suc d) opening
opening_goes zero back = refl
opening_goes (suc d) back = refl

-- blanks and bare items
abbrev pub AreFlat : List Token → Type 0
AreFlat [] = ⊤
AreFlat (blank c ∷ tokens) = AreFlat tokens
AreFlat (bare units ∷ tokens) = AreFlat tokens
AreFlat (p ∷ tokens) = ⊥

pub generic_flat : (number : ℕ) (octets : List ℕ) → AreFlat (generic_tokens number octets)
generic_flat number [] = tt
generic_flat number (c ∷ octets) = tt

-- ---- what holds of tokens where it holds of those after the first, and the other way round

abbrev pub GoesOn : (ℕ → List Token → Type 0) → Type 0
GoesOn Is = (d k : ℕ) (p : Token) (tokens : List Token) → Goes d k p → Is k tokens → Is d (p ∷ tokens)

abbrev pub GoesBack : (ℕ → List Token → Type 0) → Type 0
GoesBack Is = (d k : ℕ) (p : Token) (tokens : List Token) → Goes d k p → Is d (p ∷ tokens) → Is k tokens

-- and a line feed outside parentheses is the last token, if it stands there
abbrev pub LastLine : (ℕ → List Token → Type 0) → Type 0
LastLine Is = (back : List Token) → Is zero (line_feed ∷ back) → back ≡ []

module _ (Is : ℕ → List Token → Type 0) (on : GoesOn Is) (off : GoesBack Is) (last : LastLine Is) where
  stay_line : (back : List Token) → Is zero (line_feed ∷ back) → Is zero (line_feed ∷ filter stays back)
  stay_line back is = subst (λ b. Is zero (line_feed ∷ filter stays b)) (sym (last back is)) (subst (λ b. Is zero (line_feed ∷ b)) (last back is) is)

  stay_so : (d : ℕ) (back : List Token) → Is d back → Is d (filter stays back)
  stay_so d [] is = is
  stay_so zero (line_feed ∷ back) is = stay_line back is
  stay_so (suc d) (line_feed ∷ back) is = on (suc d) (suc d) line_feed _ (λ b. refl) (stay_so (suc d) back (off (suc d) (suc d) line_feed back (λ b. refl) is))
  stay_so d (opening ∷ back) is = on d (suc d) opening _ (opening_goes d) (stay_so (suc d) back (off d (suc d) opening back (opening_goes d) is))
  stay_so zero (closing ∷ back) is = on zero zero closing _ (λ b. refl) (stay_so zero back (off zero zero closing back (λ b. refl) is))
  stay_so (suc d) (closing ∷ back) is = on (suc d) d closing _ (λ b. refl) (stay_so d back (off (suc d) d closing back (λ b. refl) is))
  stay_so d (comment o ∷ back) is = on d d (comment o) _ (comment_goes d o) (stay_so d back (off d d (comment o) back (comment_goes d o) is))
  stay_so d (blank c ∷ back) is = stay_so d back (off d d (blank c) back (blank_goes d c) is)
  stay_so d (bare u ∷ back) is = stay_so d back (off d d (bare u) back (bare_goes d u) is)
  stay_so d (quoted u ∷ back) is = stay_so d back (off d d (quoted u) back (quoted_goes d u) is)

  flat_so : (d : ℕ) (tokens more : List Token) → AreFlat tokens → Is d more → Is d (tokens ++ more)
  flat_so d [] more flat is = is
  flat_so d (blank c ∷ tokens) more flat is = on d d (blank c) (tokens ++ more) (blank_goes d c) (flat_so d tokens more flat is)
  flat_so d (bare u ∷ tokens) more flat is = on d d (bare u) (tokens ++ more) (bare_goes d u) (flat_so d tokens more flat is)
  flat_so d (opening ∷ tokens) more flat is = absurd flat
  flat_so d (closing ∷ tokens) more flat is = absurd flat
  flat_so d (line_feed ∷ tokens) more flat is = absurd flat
  flat_so d (comment octets ∷ tokens) more flat is = absurd flat
  flat_so d (quoted units ∷ tokens) more flat is = absurd flat

  written_so : (d : ℕ) (it : Anew) (units : List Written) (back : List Token) → Is d (bare units ∷ back) → Is d (written it back)
  written_so d (renamed number) units back is = on d d (type_token number) back (bare_goes d _) (off d d (bare units) back (bare_goes d units) is)
  written_so d (in_octets number octets) units back is = flat_so d (generic_tokens number octets) (filter stays back) (generic_flat number octets) (stay_so d back (off d d (bare units) back (bare_goes d units) is))

  some_after : (front : List Token) (units : List Written) (back : List Token) → front ++ bare units ∷ back ≡ [] → ⊥
  some_after [] units back e = absurd cc
  some_after (p ∷ front) units back e = absurd cc

  front_so : (d : ℕ) (front : List Token) (units : List Written) (back a : List Token) → ((k : ℕ) → Is k (bare units ∷ back) → Is k a) → Is d (front ++ bare units ∷ back) → Is d (front ++ a)
  front_so d [] units back a step is = step d is
  front_so zero (line_feed ∷ front) units back a step is = absurd (some_after front units back (last (front ++ bare units ∷ back) is))
  front_so (suc d) (line_feed ∷ front) units back a step is = on (suc d) (suc d) line_feed _ (λ b. refl) (front_so (suc d) front units back a step (off (suc d) (suc d) line_feed _ (λ b. refl) is))
  front_so d (opening ∷ front) units back a step is = on d (suc d) opening _ (opening_goes d) (front_so (suc d) front units back a step (off d (suc d) opening _ (opening_goes d) is))
  front_so zero (closing ∷ front) units back a step is = on zero zero closing _ (λ b. refl) (front_so zero front units back a step (off zero zero closing _ (λ b. refl) is))
  front_so (suc d) (closing ∷ front) units back a step is = on (suc d) d closing _ (λ b. refl) (front_so d front units back a step (off (suc d) d closing _ (λ b. refl) is))
  front_so d (comment o ∷ front) units back a step is = on d d (comment o) _ (comment_goes d o) (front_so d front units back a step (off d d (comment o) _ (comment_goes d o) is))
  front_so d (blank c ∷ front) units back a step is = on d d (blank c) _ (blank_goes d c) (front_so d front units back a step (off d d (blank c) _ (blank_goes d c) is))
  front_so d (bare u ∷ front) units back a step is = on d d (bare u) _ (bare_goes d u) (front_so d front units back a step (off d d (bare u) _ (bare_goes d u) is))
  front_so d (quoted u ∷ front) units back a step is = on d d (quoted u) _ (quoted_goes d u) (front_so d front units back a step (off d d (quoted u) _ (quoted_goes d u) is))

  pub anew_so : (front : List Token) (it : Anew) (units : List Written) (back : List Token) → Is zero (front ++ bare units ∷ back) → Is zero (front ++ written it back)
  anew_so front it units back is = front_so zero front units back (written it back) (λ k. written_so k it units back) is

-- ---- one entry

abbrev pub cut_of : List (List Token) → List Token → Cut
cut_of ended others = record { ended = ended; open_tokens = others }

pub record IsSingle (ended : List (List Token)) (others tokens : List Token) : Type 0 where
  pub entry : ended ≡ tokens ∷ []
  pub none : others ≡ []

parts_behind : (p : Token) (ended : List (List Token)) (others tokens : List Token) → in_front p ended others ≡ single (p ∷ tokens) → IsSingle ended others tokens
parts_behind p [] others tokens e = absurd (let h : [] ≡ (p ∷ tokens) ∷ [] = ap (λ (c : Cut). c.ended) e in cc)
parts_behind p (entry ∷ ended) others tokens e =
    let h : (p ∷ entry) ∷ ended ≡ (p ∷ tokens) ∷ [] = ap (λ (c : Cut). c.ended) e in
    record { entry = cc h; none = ap (λ (c : Cut). c.open_tokens) e }

behind : (p : Token) (cut : Cut) (tokens : List Token) → in_front_of p cut ≡ single (p ∷ tokens) → cut ≡ single tokens
behind p cut tokens e =
    let h = parts_behind p cut.ended cut.open_tokens tokens e in
    ap (λ t. cut_of t cut.open_tokens) h.entry ∙ ap (λ t. cut_of (tokens ∷ []) t) h.none

one_on : GoesOn IsOne
one_on d k p tokens goes e = goes tokens ∙ ap (in_front_of p) e

pub one_off : GoesBack IsOne
one_off d k p tokens goes e = behind p (cut_from k tokens) tokens (sym (goes tokens) ∙ e)

-- an entry written anew is an entry
pub anew_one : (front : List Token) (it : Anew) (units : List Written) (back : List Token) → IsOne zero (front ++ bare units ∷ back) → IsOne zero (front ++ written it back)
anew_one = anew_so IsOne one_on one_off (λ back e. let h : (line_feed ∷ []) ∷ (cut_from zero back).ended ≡ (line_feed ∷ back) ∷ [] = ap (λ (c : Cut). c.ended) e in cc)

-- ---- no entry

none_front : (p : Token) (ended : List (List Token)) (others : List Token) → ended ≡ [] → (in_front p ended others).ended ≡ []
none_front p [] others e = refl
none_front p (entry ∷ ended) others e = absurd cc

none_behind : (p : Token) (ended : List (List Token)) (others : List Token) → (in_front p ended others).ended ≡ [] → ended ≡ []
none_behind p [] others e = refl
none_behind p (entry ∷ ended) others e = absurd cc

none_last : LastLine IsUnended
none_last back e = absurd (let h : (line_feed ∷ []) ∷ (cut_from zero back).ended ≡ [] = e in cc)

-- an entry that isn't ended is none that is
pub anew_unended : (front : List Token) (it : Anew) (units : List Written) (back : List Token) → IsUnended zero (front ++ bare units ∷ back) → IsUnended zero (front ++ written it back)
anew_unended = anew_so IsUnended (λ d k p tokens goes e. ap (λ (c : Cut). c.ended) (goes tokens) ∙ none_front p (cut_from k tokens).ended (cut_from k tokens).open_tokens e) (λ d k p tokens goes e. none_behind p (cut_from k tokens).ended (cut_from k tokens).open_tokens (ap (λ (c : Cut). c.ended) (sym (goes tokens)) ∙ e)) none_last

-- ---- which token follows which

free : (p : Token) (tokens : List Token) → ((q : Token) → MayFollow p q) → AllFollow tokens → AllFollow (p ∷ tokens)
free p [] may f = tt
free p (q ∷ tokens) may f = (may q, f)

stay_follow : (back : List Token) → AllFollow back → AllFollow (filter stays back)
stay_follow [] f = tt
stay_follow (blank c ∷ back) f = stay_follow back (follow_after (blank c) back f)
stay_follow (bare u ∷ back) f = stay_follow back (follow_after (bare u) back f)
stay_follow (quoted u ∷ back) f = stay_follow back (follow_after (quoted u) back f)
stay_follow (opening ∷ back) f = free opening (filter stays back) (λ q. tt) (stay_follow back (follow_after opening back f))
stay_follow (closing ∷ back) f = free closing (filter stays back) (λ q. tt) (stay_follow back (follow_after closing back f))
stay_follow (line_feed ∷ back) f = free line_feed (filter stays back) (λ q. tt) (stay_follow back (follow_after line_feed back f))
stay_follow (comment o ∷ []) f = tt
stay_follow (comment o ∷ line_feed ∷ back) f = (tt, stay_follow (line_feed ∷ back) f.1)
stay_follow (comment o ∷ p ∷ back) f = absurd f.0

generic_follow : (number : ℕ) (octets : List ℕ) (more : List Token) → AllFollow more → ((u : List Written) (q : Token) (rest : List Token) → more ≡ q ∷ rest → MayFollow (bare u) q) → AllFollow (generic_tokens number octets ++ more)
generic_follow number [] [] f may = (tt, (tt, (tt, (tt, tt))))
generic_follow number [] (q ∷ more) f may = (tt, (tt, (tt, (tt, (may (map plain (decimal 0)) q more refl, f)))))
generic_follow number (c ∷ octets) [] f may = (tt, (tt, (tt, (tt, (tt, (tt, tt))))))
generic_follow number (c ∷ octets) (q ∷ more) f may = (tt, (tt, (tt, (tt, (tt, (tt, (may (map plain (encode_lower (c ∷ octets))) q more refl, f)))))))

stays_may : (back : List Token) (u : List Written) (q : Token) (rest : List Token) → filter stays back ≡ q ∷ rest → MayFollow (bare u) q
stays_may [] u q rest e = absurd cc
stays_may (blank c ∷ back) u q rest e = stays_may back u q rest e
stays_may (bare v ∷ back) u q rest e = stays_may back u q rest e
stays_may (quoted v ∷ back) u q rest e = stays_may back u q rest e
stays_may (opening ∷ back) u q rest e = subst (MayFollow (bare u)) (let h : opening ≡ q = cc in h) tt
stays_may (closing ∷ back) u q rest e = subst (MayFollow (bare u)) (let h : closing ≡ q = cc in h) tt
stays_may (line_feed ∷ back) u q rest e = subst (MayFollow (bare u)) (let h : line_feed ≡ q = cc in h) tt
stays_may (comment o ∷ back) u q rest e = subst (MayFollow (bare u)) (let h : comment o ≡ q = cc in h) tt

bare_may : (p : Token) (u v : List Written) → MayFollow p (bare u) → MayFollow p (bare v)
bare_may (bare w) u v may = absurd may
bare_may (comment o) u v may = absurd may
bare_may (blank c) u v may = tt
bare_may opening u v may = tt
bare_may closing u v may = tt
bare_may line_feed u v may = tt
bare_may (quoted w) u v may = tt

front_follow : (front : List Token) (u v : List Written) (back more : List Token) → AllFollow (front ++ bare u ∷ back) → AllFollow (bare v ∷ more) → AllFollow (front ++ bare v ∷ more)
front_follow [] u v back more f g = g
front_follow (p ∷ []) u v back more f g = (bare_may p u v f.0, g)
front_follow (p ∷ q ∷ front) u v back more f g = (f.0, front_follow (q ∷ front) u v back more f.1 g)

bare_next : (u v : List Written) (back : List Token) → AllFollow (bare u ∷ back) → AllFollow (bare v ∷ back)
bare_next u v [] f = tt
bare_next u v (bare w ∷ back) f = absurd f.0
bare_next u v (blank c ∷ back) f = (tt, f.1)
bare_next u v (opening ∷ back) f = (tt, f.1)
bare_next u v (closing ∷ back) f = (tt, f.1)
bare_next u v (line_feed ∷ back) f = (tt, f.1)
bare_next u v (comment o ∷ back) f = (tt, f.1)
bare_next u v (quoted w ∷ back) f = (tt, f.1)

from_front : (front : List Token) (u : List Written) (back : List Token) → AllFollow (front ++ bare u ∷ back) → AllFollow (bare u ∷ back)
from_front [] u back f = f
from_front (p ∷ front) u back f = from_front front u back (follow_after p (front ++ bare u ∷ back) f)

pub anew_follow : (it : Anew) (front : List Token) (u : List Written) (back : List Token) → AllFollow (front ++ bare u ∷ back) → AllFollow (front ++ written it back)
anew_follow (renamed number) front u back f = front_follow front u (map plain (codes "TYPE" ++ decimal number)) back back f (bare_next u (map plain (codes "TYPE" ++ decimal number)) back (from_front front u back f))
anew_follow (in_octets number octets) front u back f =
    front_follow front u (map plain (codes "TYPE" ++ decimal number)) back _ f
    (generic_follow number octets (filter stays back) (stay_follow back (follow_after (bare u) back (from_front front u back f))) (stays_may back))
