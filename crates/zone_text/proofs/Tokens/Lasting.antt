-- What is settled of a text by its front.
use Rattle.zone_text.proofs.Common.{AllByRecursion-append, AllByRecursion-back, AllByRecursion-front, AllFollow, BadEscape, Breaks, BreaksForGood, Cuts, EndInLineFeed, Fault, IsBadEscape, IsBroken, IsEscape, IsLostEscape, List, MayEndBefore, None, Option, Some, StaysBroken, Token, UnbalancedParenthesis, Written, [], ap, append-nil, append_assoc, at_line_end, closes_nothing, closing_stays, comment, depth_after, depth_past, escape_stays, flat_map-append, no_escape, no_quoted_escape, one_digit, quoted_escape_stays, rules, subst, sym, text, text_of, too_great, two_digits, written_text, zero, ℕ, ◌++◌, ◌∙◌, ◌∷◌, ◌≡◌, arith}
use Rattle.zone_text.proofs.Tokens.Cuttings.{front_stops, IsCut, is_cut, cuts, is_broken, breaks, last_after, last_in_front, follow_after, depth_on, room_of}

-- ---- tokens after tokens

ends_after : (p q : Token) (tokens : List Token) → EndInLineFeed (p ∷ q ∷ tokens) → EndInLineFeed (q ∷ tokens)
ends_after p q tokens ends = search rules

follow_append : (tokens more : List Token) → AllFollow tokens → EndInLineFeed tokens → AllFollow more → AllFollow (tokens ++ more)
follow_append [] more follow ends others = others
follow_append (p ∷ []) more follow ends others = search rules
follow_append (p ∷ q ∷ tokens) more follow ends others = (follow.0, follow_append (q ∷ tokens) more follow.1 (ends_after p q tokens ends) others)

follow_front : (tokens more : List Token) → AllFollow (tokens ++ more) → AllFollow tokens
follow_front (p ∷ q ∷ tokens) more follow = (follow.0, follow_front (q ∷ tokens) more follow.1)
follow_front tokens more follow = tt

follow_back : (tokens more : List Token) → AllFollow (tokens ++ more) → AllFollow more
follow_back [] more follow = follow
follow_back (p ∷ tokens) more follow = follow_back tokens more (follow_after p (tokens ++ more) follow)

last_back : (tokens more : List Token) (rest : List ℕ) → MayEndBefore (tokens ++ more) rest → MayEndBefore more rest
last_back [] more rest last = last
last_back (p ∷ tokens) more rest last = last_back tokens more rest (last_after p (tokens ++ more) rest last)

last_append : (tokens more : List Token) (rest : List ℕ) → EndInLineFeed tokens → MayEndBefore more rest → MayEndBefore (tokens ++ more) rest
last_append [] more rest ends last = last
last_append (p ∷ []) more rest ends last = search rules
last_append (p ∷ q ∷ tokens) more rest ends last = last_in_front p q (tokens ++ more) rest (last_append (q ∷ tokens) more rest (ends_after p q tokens ends) last)

depth_append : (depth at : ℕ) (tokens more : List Token) → depth_after depth tokens ≡ Some at → depth_after depth (tokens ++ more) ≡ depth_after at more
depth_append depth at [] more e = let same : depth ≡ at = cc in ap (λ d. depth_after d more) same
depth_append depth at (p ∷ tokens) more e =
    let room = room_of depth at p tokens e in
    depth_on depth p (tokens ++ more) room ∙ depth_append (depth_past depth p) at tokens more (sym (depth_on depth p tokens room) ∙ e)

-- ---- what stands after a line feed outside parentheses is cut by itself

pub both_cut : (front rest : List ℕ) (tokens more : List Token) (fault : Option Fault) → Cuts front tokens → EndInLineFeed tokens → IsCut zero rest more fault → IsCut zero (front ++ rest) (tokens ++ more) fault
both_cut front rest tokens more fault cut ends others = grind (arith, append_assoc, flat_map-append, AllByRecursion-append, follow_append, last_append, depth_append)

pub cut_joined : (front rest : List ℕ) (tokens more : List Token) → Cuts front tokens → EndInLineFeed tokens → Cuts rest more → Cuts (front ++ rest) (tokens ++ more)
cut_joined front rest tokens more cut ends others = search (rules, cuts, both_cut, is_cut)

pub break_joined : (front rest : List ℕ) (tokens more : List Token) (fault : Fault) → Cuts front tokens → EndInLineFeed tokens → Breaks rest more fault → Breaks (front ++ rest) (tokens ++ more) fault
break_joined front rest tokens more fault cut ends others = search (rules, breaks, both_cut, is_broken)

-- the text after tokens
pub record IsParted (octets : List ℕ) (tokens more : List Token) (fault : Option Fault) : Type 0 where
  pub rest : List ℕ
  pub whole : octets ≡ text tokens ++ rest
  pub front : Cuts (text tokens) tokens
  pub back : IsCut zero rest more fault

pub parted : (octets : List ℕ) (tokens more : List Token) (fault : Option Fault) → depth_after zero tokens ≡ Some zero → IsCut zero octets (tokens ++ more) fault → IsParted octets tokens more fault
parted octets tokens more fault balanced is = search (rules, flat_map-append, append_assoc, AllByRecursion-front, follow_front, AllByRecursion-back, follow_back, last_back, depth_append)

pub cut_parted : (octets : List ℕ) (tokens more : List Token) → depth_after zero tokens ≡ Some zero → Cuts octets (tokens ++ more) → (rest : List ℕ) × (octets ≡ text tokens ++ rest) × Cuts (text tokens) tokens × Cuts rest more
cut_parted octets tokens more balanced cut = search (rules, parted octets tokens more None balanced (is_cut octets (tokens ++ more) cut), is_cut octets (tokens ++ more) cut, cuts)

pub break_parted : (octets : List ℕ) (tokens more : List Token) (fault : Fault) → depth_after zero tokens ≡ Some zero → Breaks octets (tokens ++ more) fault → (rest : List ℕ) × (octets ≡ text tokens ++ rest) × Cuts (text tokens) tokens × Breaks rest more fault
break_parted octets tokens more fault balanced broken = grind (arith, parted octets tokens more (Some fault) balanced (is_broken octets (tokens ++ more) fault broken))

-- ---- a break that stays

-- no written octet begins such a text, nor one that it begins
begins_none : (rest more after : List ℕ) (w : Written) → IsLostEscape rest → IsEscape w → rest ++ more ≡ text_of w ++ after → ⊥
begins_none rest more after w h2 written h = search rules

pub begins_backslash : (rest : List ℕ) → IsLostEscape rest → (after : List ℕ) × (rest ≡ 92 ∷ after)
begins_backslash rest h = search rules

pub lost_escape : (rest more : List ℕ) → IsLostEscape rest → IsBadEscape (rest ++ more)
lost_escape rest more lost =
    let begins = begins_backslash rest lost in
    (begins.0 ++ more, ap (λ t. t ++ more) begins.1, λ w after written e. begins_none rest more after w lost written e)

one_fault : (depth : ℕ) (rest : List ℕ) (fault other : Fault) → IsBroken depth rest fault → IsBroken depth rest other → fault ≡ other
one_fault depth rest fault other broken as_well = cc (front_stops depth rest (Some fault) broken, front_stops depth rest (Some other) as_well)

-- a `)` breaks at depth zero alone
at_depth_zero : (depth : ℕ) (rest after : List ℕ) (fault : Fault) → rest ≡ 41 ∷ after → IsBroken depth rest fault → depth ≡ 0
at_depth_zero depth rest after fault e h = search rules

broken_more : (depth : ℕ) (rest more : List ℕ) (fault : Fault) → StaysBroken rest → IsBroken depth rest fault → IsBroken depth (rest ++ more) fault
broken_more depth rest more fault (closing_stays after e) broken =
    let zero_is : depth ≡ 0 = at_depth_zero depth rest after fault e broken in
    subst (IsBroken depth (rest ++ more)) (one_fault depth rest UnbalancedParenthesis fault (closes_nothing after zero_is e) broken) (closes_nothing (after ++ more) zero_is (ap (λ t. t ++ more) e))
broken_more depth rest more fault (escape_stays lost) broken =
    subst (IsBroken depth (rest ++ more)) (one_fault depth rest BadEscape fault (no_escape (subst IsBadEscape (append-nil rest) (lost_escape rest [] lost))) broken) (no_escape (lost_escape rest more lost))
broken_more depth rest more fault (quoted_escape_stays units after each whole lost) broken =
    subst (IsBroken depth (rest ++ more)) (one_fault depth rest BadEscape fault (no_quoted_escape units after each whole (subst IsBadEscape (append-nil after) (lost_escape after [] lost))) broken)
    (no_quoted_escape units (after ++ more) each (ap (λ t. t ++ more) whole ∙ ap (λ t. 34 ∷ t) (append_assoc (written_text units) after more)) (lost_escape after more lost))

lost_more : (rest more : List ℕ) → IsLostEscape rest → IsLostEscape (rest ++ more)
lost_more rest more (at_line_end c others e is) = at_line_end c (others ++ more) (ap (λ t. t ++ more) e) is
lost_more rest more (one_digit x c others e is is_not) = one_digit x c (others ++ more) (ap (λ t. t ++ more) e) is is_not
lost_more rest more (two_digits x y c others e is is_one is_not) = two_digits x y c (others ++ more) (ap (λ t. t ++ more) e) is is_one is_not
lost_more rest more (too_great x y z others e is is_one is_too great) = too_great x y z (others ++ more) (ap (λ t. t ++ more) e) is is_one is_too great

stays_more : (rest more : List ℕ) → StaysBroken rest → StaysBroken (rest ++ more)
stays_more rest more (closing_stays after e) = closing_stays (after ++ more) (ap (λ t. t ++ more) e)
stays_more rest more (escape_stays lost) = escape_stays (lost_more rest more lost)
stays_more rest more (quoted_escape_stays units after each whole lost) =
    quoted_escape_stays units (after ++ more) each (ap (λ t. t ++ more) whole ∙ ap (λ t. 34 ∷ t) (append_assoc (written_text units) after more)) (lost_more after more lost)

pub stays_some : (rest : List ℕ) → StaysBroken rest → rest ≡ [] → ⊥
stays_some rest h none = search rules

-- no comment is the last token before what breaks a text as it stands
last_before : (tokens : List Token) (rest after : List ℕ) → (rest ≡ [] → ⊥) → MayEndBefore tokens rest → MayEndBefore tokens after
last_before (comment octets ∷ []) rest after some last = absurd (some last)
last_before (p ∷ q ∷ tokens) rest after some last = last_in_front p q tokens after (last_before (q ∷ tokens) rest after some (last_after p (q ∷ tokens) rest last))
last_before tokens rest after some last = tt

pub breaks_for_good : (octets more : List ℕ) (tokens : List Token) (fault : Fault) → BreaksForGood octets tokens fault → BreaksForGood (octets ++ more) tokens fault
breaks_for_good octets more tokens fault good =
    let old : Breaks octets tokens fault = good.breaks in
    record {
      breaks = record {
        rest = old.rest ++ more;
        depth = old.depth;
        whole = ap (λ t. t ++ more) old.whole ∙ append_assoc (text tokens) old.rest more;
        each = old.each;
        follow = old.follow;
        last = last_before tokens old.rest (old.rest ++ more) (stays_some old.rest good.stays) old.last;
        parentheses = old.parentheses;
        broken = broken_more old.depth old.rest more fault good.stays old.broken;
      };
      stays = stays_more old.rest more good.stays;
    }
