-- A text cut from the left, token by token: what is read is so, and what is so is read.
use Rattle.zone_text.proofs.Common.{AllByRecursion, AllFollow, Breaks, Cuts, Cutting, Fault, Front, IsBroken, IsToken, List, MayEndBefore, MayFollow, NoUnit, None, Option, Some, Token, Written, [], ap, append-nil, append_assoc, arith, at_backslash, at_end, at_octet, bare, blank, both_ways, closes_nothing, closing, comment, common_steps, cut_by, cut_on, cutting, depth_after, depth_past, ends_item, front_of, inl, inr, is_blank, length, length-append, line_feed, no_escape, no_quote, no_quoted_escape, not_closed, opening, plain, quoted, refl, rules, subst, suc, sym, takes, text, token_text, written_text, zero, ℕ, ◌++◌, ◌<◌, ◌∙◌, ◌∷◌, ◌≡◌, ◌⊎◌, BadEscape, Bool, IsBadEscape, IsUnit, Sign, a_blank, a_closing, a_line_feed, a_quote, a_semicolon, an_opening, bare_front, before_line_feed, cond_both, decimal, drop, drop-append_seam, end_front, eqb-false, eqb-true, escaped, false, from_line_feed, front_by, is_quote, of_item, quoted_front, sign_of, stops, true, units_first, units_first_are, units_first_only, ◌==◌, ◌≢◌}
pub use Rattle.zone_text.specs.Machine.Walk.{Ends, IsCut}

-- ---- comments

-- where a comment ends: at a line feed or the end
abbrev pub EndsComment : List ℕ → Type 0
EndsComment [] = Unit {0}
EndsComment (c ∷ rest) = c ≡ 10

abbrev pub IsComment : List ℕ → Type 0
IsComment octets = AllByRecursion (λ c. c ≢ 10) octets

pub comment_whole : (octets : List ℕ) → octets ≡ before_line_feed octets ++ from_line_feed octets
unfolding before_line_feed from_line_feed
comment_whole [] = refl
comment_whole (c ∷ rest) = search (rules, comment_whole rest)

pub comment_each : (octets : List ℕ) → IsComment (before_line_feed octets)
unfolding before_line_feed
comment_each [] = tt
comment_each (c ∷ rest) = cond_both (c == 10) [] (c ∷ before_line_feed rest) IsComment (λ e. tt) (λ e. (eqb-false c 10 e, comment_each rest))

pub comment_ends : (octets : List ℕ) → EndsComment (from_line_feed octets)
unfolding from_line_feed
comment_ends [] = tt
comment_ends (c ∷ rest) = cond_both (c == 10) (c ∷ rest) (from_line_feed rest) EndsComment (eqb-true c 10) (λ e. comment_ends rest)

pub comment_dropped : (octets : List ℕ) → drop (length (before_line_feed octets)) octets ≡ from_line_feed octets
comment_dropped octets = cc (comment_whole octets, drop-append_seam (before_line_feed octets) (from_line_feed octets))

comment_only : (octets rest : List ℕ) → IsComment octets → EndsComment rest → (before_line_feed (octets ++ rest) ≡ octets) × (from_line_feed (octets ++ rest) ≡ rest)
unfolding before_line_feed from_line_feed
comment_only [] rest each ends = grind arith
comment_only (c ∷ octets) rest each ends = grind (arith, comment_only octets rest each.1 ends)

-- ---- what an octet is where no item, comment or quote is open

abbrev pub IsSign : ℕ → Sign → Type 0
IsSign c a_blank = is_blank c ≡ true
IsSign c a_line_feed = c ≡ 10
IsSign c a_quote = c ≡ 34
IsSign c an_opening = c ≡ 40
IsSign c a_closing = c ≡ 41
IsSign c a_semicolon = c ≡ 59
IsSign c of_item = ends_item c ≡ false

pub sign_is : (c : ℕ) → IsSign c (sign_of c)
sign_is c = search rules

pub sign_of_item : (c : ℕ) → ends_item c ≡ false → sign_of c ≡ of_item
sign_of_item c e = search rules

-- ---- first octets

-- an octet that begins the token
abbrev pub Begins : ℕ → Token → Type 0
Begins c (blank d) = is_blank c ≡ true
Begins c line_feed = c ≡ 10
Begins c opening = c ≡ 40
Begins c closing = c ≡ 41
Begins c (comment octets) = c ≡ 59
Begins c (bare units) = ends_item c ≡ false
Begins c (quoted units) = c ≡ 34

pub begins : (c : ℕ) (octets : List ℕ) (p : Token) (rest : List ℕ) → IsToken p → c ∷ octets ≡ token_text p ++ rest → Begins c p
begins c octets (blank d) rest is e = let same : c ≡ d = cc in ap is_blank same ∙ is
begins c octets (bare []) rest is e = absurd (omega (arith, is.0))
begins c octets (bare (escaped d ∷ units)) rest is e = let same : c ≡ 92 = cc in ap ends_item same
begins c octets p rest is e = cc

-- ---- the beginning of a text

-- a token ends before what follows it
abbrev pub Stops : Token → List ℕ → Type 0
Stops (bare units) rest = NoUnit ends_item rest
Stops (comment octets) rest = EndsComment rest
Stops p rest = Unit {0}

-- a parenthesis closes one that is open
abbrev pub HasRoom : ℕ → Token → Type 0
HasRoom depth closing = 0 < depth
HasRoom depth p = Unit {0}

pub record Takes (depth : ℕ) (octets : List ℕ) (p : Token) (rest : List ℕ) : Type 0 where
  pub whole : octets ≡ token_text p ++ rest
  pub token : IsToken p
  pub stop : Stops p rest
  pub room : HasRoom depth p

abbrev pub IsFront : ℕ → List ℕ → Front → Type 0
IsFront depth octets (takes p rest) = Takes depth octets p rest
IsFront depth octets (stops fault) = Ends depth octets fault

pub first_octet_is : (c d : ℕ) (rest : List ℕ) → c ≡ d → c ∷ rest ≡ d ∷ rest
first_octet_is c d rest e = ap (λ t. t ∷ rest) e

no_unit_bad : (out : ℕ → Bool) (c : ℕ) (rest : List ℕ) → out c ≡ false → NoUnit out (c ∷ rest) → IsBadEscape (c ∷ rest)
no_unit_bad out c rest e h = search (rules, both_ways)

quoted_is : (depth c : ℕ) (octets : List ℕ) (units : List Written) (rest : List ℕ) → c ≡ 34 → octets ≡ written_text units ++ rest → AllByRecursion (IsUnit is_quote) units → NoUnit is_quote rest → IsFront depth (c ∷ octets) (quoted_front units rest)
quoted_is depth c octets units [] is whole each none =
    no_quote units each (first_octet_is c 34 octets is ∙ ap (λ t. 34 ∷ t) (whole ∙ append-nil (written_text units)))
quoted_is depth c octets units (d ∷ rest) is whole each none =
    cond_both (is_quote d) (takes (quoted units) rest) (stops (Some BadEscape)) (IsFront depth (c ∷ octets))
    (λ e. let same : d ∷ rest ≡ 34 ∷ rest = first_octet_is d 34 rest (eqb-true d 34 e) in record {
      whole = first_octet_is c 34 octets is ∙ ap (λ t. 34 ∷ t) (whole ∙ ap (λ t. written_text units ++ t) same ∙ sym (append_assoc (written_text units) (34 ∷ []) rest));
      token = each;
      stop = tt;
      room = tt;
    })
    (λ e. no_quoted_escape units (d ∷ rest) each (first_octet_is c 34 octets is ∙ ap (λ t. 34 ∷ t) whole) (no_unit_bad is_quote d rest e none))

bare_is : (depth c : ℕ) (octets : List ℕ) (units : List Written) (rest : List ℕ) → ends_item c ≡ false → c ∷ octets ≡ written_text units ++ rest → AllByRecursion (IsUnit ends_item) units → NoUnit ends_item rest → IsFront depth (c ∷ octets) (bare_front units rest)
bare_is depth c octets [] rest goes_on whole each none = no_escape (no_unit_bad ends_item c octets goes_on (subst (NoUnit ends_item) (sym whole) none))
bare_is depth c octets (w ∷ units) rest goes_on whole each none = search rules

front_by_sign : (depth c : ℕ) (rest : List ℕ) (sign : Sign) → IsSign c sign → IsFront depth (c ∷ rest) (front_by depth c rest sign)
front_by_sign depth c rest a_blank is = record { whole = refl; token = is; stop = tt; room = tt }
front_by_sign zero c rest a_closing is = closes_nothing rest refl (first_octet_is c 41 rest is)
front_by_sign depth c rest a_semicolon is = grind (arith, first_octet_is, comment_whole, comment_each, comment_ends)
front_by_sign depth c rest a_quote is = search (rules, units_first_are is_quote rest, quoted_is depth c rest (units_first is_quote rest).units (units_first is_quote rest).rest is)
front_by_sign depth c rest of_item is = search (rules, units_first_are ends_item (c ∷ rest), bare_is depth c rest (units_first ends_item (c ∷ rest)).units (units_first ends_item (c ∷ rest)).rest is)
front_by_sign depth c rest sign is = search rules

end_is : (depth : ℕ) → IsFront depth [] (end_front depth)
end_is depth = grind (arith, not_closed)

-- what is read at the beginning is so
pub front_is : (depth : ℕ) (octets : List ℕ) → IsFront depth octets (front_of depth octets)
unfolding front_of
front_is depth octets = search (rules, end_is, front_by_sign, sign_is)

-- ---- what is so is read

pub at_sign : (depth c : ℕ) (rest : List ℕ) (sign : Sign) → sign_of c ≡ sign → front_of depth (c ∷ rest) ≡ front_by depth c rest sign
unfolding front_of
at_sign depth c rest sign e = ap (front_by depth c rest) e

front_of_units : (depth c : ℕ) (octets : List ℕ) (units : List Written) (rest : List ℕ) → ends_item c ≡ false → c ∷ octets ≡ written_text units ++ rest → AllByRecursion (IsUnit ends_item) units → NoUnit ends_item rest → front_of depth (c ∷ octets) ≡ bare_front units rest
front_of_units depth c octets units rest goes_on whole each none = cc (at_sign depth c octets of_item (sign_of_item c goes_on), units_first_only ends_item (c ∷ octets) units rest refl whole each none)

front_of_bare : (depth : ℕ) (w : Written) (units : List Written) (rest : List ℕ) → AllByRecursion (IsUnit ends_item) (w ∷ units) → NoUnit ends_item rest → front_of depth (written_text (w ∷ units) ++ rest) ≡ takes (bare (w ∷ units)) rest
front_of_bare depth (plain c) units rest each none = cc (front_of_units depth c (written_text units ++ rest) (plain c ∷ units) rest each.0.0 refl each none)
front_of_bare depth (escaped c) units rest each none = cc (front_of_units depth 92 (c ∷ (written_text units ++ rest)) (escaped c ∷ units) rest refl refl each none)
front_of_bare depth (decimal x y z) units rest each none = cc (front_of_units depth 92 (x ∷ y ∷ z ∷ (written_text units ++ rest)) (decimal x y z ∷ units) rest refl refl each none)

front_of_quote : (depth : ℕ) (octets : List ℕ) (units : List Written) (rest : List ℕ) → octets ≡ written_text units ++ rest → AllByRecursion (IsUnit is_quote) units → NoUnit is_quote rest → front_of depth (34 ∷ octets) ≡ quoted_front units rest
front_of_quote depth octets units rest whole each none = cc (at_sign depth 34 octets a_quote refl, units_first_only is_quote octets units rest refl whole each none)

pub front_takes : (depth : ℕ) (p : Token) (rest : List ℕ) → IsToken p → Stops p rest → HasRoom depth p → front_of depth (token_text p ++ rest) ≡ takes p rest
front_takes depth (blank c) rest is stop room = at_sign depth c rest a_blank (rw is refl)
front_takes depth line_feed rest is stop room = at_sign depth 10 rest a_line_feed refl
front_takes depth opening rest is stop room = at_sign depth 40 rest an_opening refl
front_takes zero closing rest is stop room = absurd (omega arith)
front_takes (suc depth) closing rest is stop room = at_sign (suc depth) 41 rest a_closing refl
front_takes depth (comment octets) rest is stop room = grind (arith, comment_only octets rest is stop, at_sign depth 59 (octets ++ rest) a_semicolon refl)
front_takes depth (bare []) rest is stop room = absurd (omega (arith, is.0))
front_takes depth (bare (w ∷ units)) rest is stop room = front_of_bare depth w units rest is.1 stop
front_takes depth (quoted units) rest is stop room = cc (front_of_quote depth ((written_text units ++ 34 ∷ []) ++ rest) units (34 ∷ rest) (append_assoc (written_text units) (34 ∷ []) rest) is (at_octet 34 rest refl refl))

pub broken_front : (depth : ℕ) (rest : List ℕ) (fault : Fault) → IsBroken depth rest fault → front_of depth rest ≡ stops (Some fault)
unfolding front_of
broken_front depth rest fault (closes_nothing after e whole) = rw (e, whole) refl
broken_front depth rest fault (no_escape bad) = cc (front_of_units depth 92 bad.0 [] (92 ∷ bad.0) refl refl tt (at_backslash (subst IsBadEscape bad.1 bad)))
broken_front depth rest fault (no_quoted_escape units after each whole bad) = rw whole (front_of_quote depth (written_text units ++ after) units after refl each (at_backslash bad) ∙ ap (quoted_front units) bad.1)
broken_front depth rest fault (no_quote units each whole) = cc (front_of_quote depth (written_text units) units [] (sym (append-nil (written_text units))) each (at_end refl))
broken_front depth rest fault (not_closed some whole) = grind arith

pub front_stops : (depth : ℕ) (octets : List ℕ) (fault : Option Fault) → Ends depth octets fault → front_of depth octets ≡ stops fault
unfolding front_of
front_stops depth octets fault ends = search (rules, broken_front)

-- ---- which token may follow which, by the octets

-- a written octet stands at the beginning
unit_stands : (units : List Written) (rest : List ℕ) → IsToken (bare units) → NoUnit ends_item (written_text units ++ rest) → ⊥
unit_stands [] rest is none = omega (arith, is.0)
unit_stands (w ∷ units) rest is none = grind (arith, common_steps)

-- a bare item begins with no line feed
no_line_feed : (units : List Written) (rest : List ℕ) → IsToken (bare units) → EndsComment (written_text units ++ rest) → ⊥
no_line_feed [] rest is ends = omega (arith, is.0)
no_line_feed (plain c ∷ units) rest is ends = both_ways (ends_item c) is.1.0.0 (ap ends_item ends)
no_line_feed units rest is ends = omega (arith, ends)

follows_comment : (octets : List ℕ) (q : Token) (rest : List ℕ) → IsToken q → EndsComment (token_text q ++ rest) → MayFollow (comment octets) q
follows_comment octets (blank c) rest is ends = both_ways (is_blank c) (ap is_blank ends) is
follows_comment octets line_feed rest is ends = tt
follows_comment octets (bare units) rest is ends = no_line_feed units rest is ends
follows_comment octets q rest is ends = absurd (omega (arith, ends))

follows_bare : (units : List Written) (q : Token) (rest : List ℕ) → IsToken q → NoUnit ends_item (token_text q ++ rest) → MayFollow (bare units) q
follows_bare units (bare more) rest is none = unit_stands more rest is none
follows_bare units q rest is none = tt

follows : (p q : Token) (rest : List ℕ) → IsToken q → Stops p (token_text q ++ rest) → MayFollow p q
follows (comment octets) q rest is stop = follows_comment octets q rest is stop
follows (bare units) q rest is stop = follows_bare units q rest is stop
follows p q rest is stop = tt

pub after_bare : (units : List Written) (q : Token) (rest : List ℕ) → IsToken q → MayFollow (bare units) q → NoUnit ends_item (token_text q ++ rest)
after_bare units (blank c) rest is may = at_octet c rest refl (rw is refl)
after_bare units line_feed rest is may = at_octet 10 rest refl refl
after_bare units opening rest is may = at_octet 40 rest refl refl
after_bare units closing rest is may = at_octet 41 rest refl refl
after_bare units (comment octets) rest is may = at_octet 59 (octets ++ rest) refl refl
after_bare units (bare more) rest is may = absurd may
after_bare units (quoted more) rest is may = at_octet 34 ((written_text more ++ 34 ∷ []) ++ rest) refl refl

pub next_stops : (p q : Token) (rest : List ℕ) → IsToken q → MayFollow p q → Stops p (token_text q ++ rest)
next_stops (comment octets) q rest is may = search rules
next_stops (bare units) q rest is may = after_bare units q rest is may
next_stops p q rest is may = tt

-- ---- what may follow the last token

ends_bare : (depth : ℕ) (rest : List ℕ) (fault : Fault) → IsBroken depth rest fault → NoUnit ends_item rest
ends_bare depth rest fault (closes_nothing after e whole) = at_octet 41 after whole refl
ends_bare depth rest fault (no_escape bad) = at_backslash bad
ends_bare depth rest fault (no_quoted_escape units after each whole bad) = search (rules, at_octet)
ends_bare depth rest fault (no_quote units each whole) = at_octet 34 (written_text units) whole refl
ends_bare depth rest fault (not_closed some whole) = at_end whole

stops_at_end : (p : Token) (depth : ℕ) (rest : List ℕ) (fault : Option Fault) → Ends depth rest fault → MayEndBefore (p ∷ []) rest → Stops p rest
stops_at_end (comment octets) depth rest fault ends last = subst EndsComment (sym last) tt
stops_at_end (bare units) depth rest None ends last = at_end ends.1
stops_at_end (bare units) depth rest (Some fault) ends last = ends_bare depth rest fault ends
stops_at_end p depth rest fault ends last = tt

-- ---- depths

pub depth_on : (depth : ℕ) (p : Token) (tokens : List Token) → HasRoom depth p → depth_after depth (p ∷ tokens) ≡ depth_after (depth_past depth p) tokens
depth_on depth p tokens room = search rules

pub room_of : (depth at : ℕ) (p : Token) (tokens : List Token) → depth_after depth (p ∷ tokens) ≡ Some at → HasRoom depth p
room_of depth at p tokens e = search rules

-- ---- the whole text

pub no_token : (depth : ℕ) (octets : List ℕ) (fault : Option Fault) → Ends depth octets fault → IsCut depth octets [] fault
no_token depth octets fault ends = search rules

follow_on : (p : Token) (tokens : List Token) (rest after : List ℕ) → Stops p rest → rest ≡ text tokens ++ after → AllByRecursion IsToken tokens → AllFollow tokens → AllFollow (p ∷ tokens)
follow_on p tokens rest after stop whole each follow = search (rules, follows, append_assoc)

pub last_in_front : (p q : Token) (tokens : List Token) (after : List ℕ) → MayEndBefore (q ∷ tokens) after → MayEndBefore (p ∷ q ∷ tokens) after
last_in_front p q tokens after last = search rules

pub one_token_more : (depth : ℕ) (octets rest : List ℕ) (p : Token) (tokens : List Token) (fault : Option Fault) → Takes depth octets p rest → IsCut (depth_past depth p) rest tokens fault → IsCut depth octets (p ∷ tokens) fault
one_token_more depth octets rest p tokens fault front more = search (rules, common_steps, follow_on, depth_on)

pub some_octet : (p : Token) → IsToken p → 0 < length (token_text p)
some_octet (bare []) is = absurd (omega (arith, is.0))
some_octet (bare (w ∷ units)) is = search rules
some_octet p is = omega arith

pub shorter : (octets rest : List ℕ) (p : Token) → IsToken p → octets ≡ token_text p ++ rest → length rest < length octets
shorter octets rest p is e = search (rules, length-append, some_octet)

cut_by_front : (depth : ℕ) (octets : List ℕ) (go_on : ℕ → List ℕ → Cutting) (front : Front) → IsFront depth octets front → ((at : ℕ) (rest : List ℕ) → length rest < length octets → IsCut at rest (go_on at rest).tokens (go_on at rest).broken) → IsCut depth octets (cut_on go_on depth front).tokens (cut_on go_on depth front).broken
cut_by_front depth octets go_on front is more = search (rules, no_token, one_token_more, shorter)

cut_is : (n depth : ℕ) (octets : List ℕ) → length octets < n → IsCut depth octets (cut_by n depth octets).tokens (cut_by n depth octets).broken
unfolding cut_by
cut_is zero depth octets enough = absurd (omega arith)
cut_is (suc n) depth octets enough = cut_by_front depth octets (cut_by n) (front_of depth octets) (front_is depth octets) (λ at rest less. cut_is n at rest (omega arith))

-- what follows a token ends it
pub stop_of : (p : Token) (tokens : List Token) (depth : ℕ) (after : List ℕ) (fault : Option Fault) → AllByRecursion IsToken tokens → AllFollow (p ∷ tokens) → MayEndBefore (p ∷ tokens) after → Ends depth after fault → Stops p (text tokens ++ after)
stop_of p tokens depth after fault each follow last ends = search (rules, stops_at_end, append_assoc, next_stops)

pub follow_after : (p : Token) (tokens : List Token) → AllFollow (p ∷ tokens) → AllFollow tokens
follow_after p tokens follow = search rules

pub last_after : (p : Token) (tokens : List Token) (after : List ℕ) → MayEndBefore (p ∷ tokens) after → MayEndBefore tokens after
last_after p tokens after last = search rules

cut_only : (tokens : List Token) (n depth : ℕ) (octets : List ℕ) (fault : Option Fault) → length octets < n → IsCut depth octets tokens fault → cut_by n depth octets ≡ record { tokens = tokens; broken = fault }
unfolding cut_by
cut_only tokens zero depth octets fault enough is = absurd (omega arith)
cut_only [] (suc n) depth octets fault enough is = search (rules, front_stops)
cut_only (p ∷ tokens) (suc n) depth octets fault enough is =
    let rest : List ℕ = text tokens ++ is.rest in
    let room : HasRoom depth p = room_of depth is.at p tokens is.parentheses in
    let whole : octets ≡ token_text p ++ rest = is.whole ∙ append_assoc (token_text p) (text tokens) is.rest in
    let less : length rest < length octets = shorter octets rest p is.each.0 whole in
    let front : front_of depth octets ≡ takes p rest = ap (front_of depth) whole ∙ front_takes depth p rest is.each.0 (stop_of p tokens is.at is.rest fault is.each.1 is.follow is.last is.ends) room in
    let more : IsCut (depth_past depth p) rest tokens fault = grind arith in
    ap (cut_on (cut_by n) depth) front
    ∙ ap (λ (found : Cutting). record { tokens = p ∷ found.tokens; broken = found.broken }) (cut_only tokens n (depth_past depth p) rest fault (omega arith) more)

-- ---- what the cutting says

pub cutting_is : (octets : List ℕ) → IsCut zero octets (cutting octets).tokens (cutting octets).broken
unfolding cutting
cutting_is octets = cut_is (suc (length octets)) zero octets (omega arith)

pub cutting_only : (octets : List ℕ) (tokens : List Token) (fault : Option Fault) → IsCut zero octets tokens fault → cutting octets ≡ record { tokens = tokens; broken = fault }
unfolding cutting
cutting_only octets tokens fault is = search (rules, cut_only)

-- ---- cut or broken

last_of_whole : (tokens : List Token) → MayEndBefore tokens []
last_of_whole (comment octets ∷ []) = refl
last_of_whole (p ∷ q ∷ tokens) = last_in_front p q tokens [] (last_of_whole (q ∷ tokens))
last_of_whole tokens = tt

pub is_cut : (octets : List ℕ) (tokens : List Token) → Cuts octets tokens → IsCut zero octets tokens None
is_cut octets tokens cut = search (rules, append-nil, last_of_whole)

pub cuts : (octets : List ℕ) (tokens : List Token) → IsCut zero octets tokens None → Cuts octets tokens
cuts octets tokens is = search rules

pub is_broken : (octets : List ℕ) (tokens : List Token) (fault : Fault) → Breaks octets tokens fault → IsCut zero octets tokens (Some fault)
is_broken octets tokens fault breaks = search rules

pub breaks : (octets : List ℕ) (tokens : List Token) (fault : Fault) → IsCut zero octets tokens (Some fault) → Breaks octets tokens fault
breaks octets tokens fault is = search rules

pub reads_cut : (octets : List ℕ) (tokens : List Token) → Cuts octets tokens → cutting octets ≡ record { tokens = tokens; broken = None }
reads_cut octets tokens cut = cutting_only octets tokens None (is_cut octets tokens cut)

pub reads_broken : (octets : List ℕ) (tokens : List Token) (fault : Fault) → Breaks octets tokens fault → cutting octets ≡ record { tokens = tokens; broken = Some fault }
reads_broken octets tokens fault broken = search (rules, cutting_only, is_broken)

pub cut_is_read : (octets : List ℕ) (tokens : List Token) → cutting octets ≡ record { tokens = tokens; broken = None } → Cuts octets tokens
cut_is_read octets tokens e =
    let P : Cutting → Type 0 = λ found. IsCut zero octets found.tokens found.broken in
    cuts octets tokens (subst P e (cutting_is octets))

pub broken_is_read : (octets : List ℕ) (tokens : List Token) (fault : Fault) → cutting octets ≡ record { tokens = tokens; broken = Some fault } → Breaks octets tokens fault
broken_is_read octets tokens fault e = grind (arith, cutting_is octets)

pub one_cut : (octets : List ℕ) (tokens other : List Token) → Cuts octets tokens → Cuts octets other → tokens ≡ other
one_cut octets tokens other cut another = ap (λ (found : Cutting). found.tokens) (sym (reads_cut octets tokens cut) ∙ reads_cut octets other another)

pub one_break : (octets : List ℕ) (tokens other : List Token) (fault another : Fault) → Breaks octets tokens fault → Breaks octets other another → (tokens ≡ other) × (fault ≡ another)
one_break octets tokens other fault another broken as_well = grind (arith, reads_broken octets tokens fault broken, reads_broken octets other another as_well)

pub cut_not_broken : (octets : List ℕ) (tokens other : List Token) (fault : Fault) → Cuts octets tokens → Breaks octets other fault → ⊥
cut_not_broken octets tokens other fault cut broken = grind (arith, reads_cut octets tokens cut, reads_broken octets other fault broken)

pub cut_or_broken : (octets : List ℕ) → ((tokens : List Token) × Cuts octets tokens) ⊎ ((tokens : List Token) × (fault : Fault) × Breaks octets tokens fault)
cut_or_broken octets = by (cutting octets).tokens (cutting octets).broken (cutting_is octets)
  where
    by : (tokens : List Token) (fault : Option Fault) → IsCut zero octets tokens fault → ((tokens : List Token) × Cuts octets tokens) ⊎ ((tokens : List Token) × (fault : Fault) × Breaks octets tokens fault)
    by tokens None is = inl (tokens, cuts octets tokens is)
    by tokens (Some fault) is = inr (tokens, fault, breaks octets tokens fault is)
