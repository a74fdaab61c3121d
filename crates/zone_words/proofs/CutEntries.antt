-- The entries of a text one by one, and other entries that are put together to a text.
use Rattle.zone_text.proofs.Tokens.Lasting.{break_joined, break_parted, cut_joined, cut_parted}
use Rattle.zone_words.proofs.Common.{AllByRecursion, AreEnded, Breaks, Cut, Cuts, Fault, IsOneEntry, List, Some, Token, [], again_zero, ap, append-nil, append_assoc, blank, closing, comment, cut_ended, cut_from, cut_whole, depth_after, flat_map, in_front, in_front_of, line_feed, opening, refl, subst, suc, sym, text, zero, ℕ, ◌++◌, ◌∙◌, ◌∷◌, ◌≡◌}
use Rattle.zone_text.proofs.Common.{EndInLineFeed, bare, quoted}
use Rattle.zone_text.proofs.Tokens.CutAgain.{joined}
use Rattle.zone_words.proofs.EntryShapes.{IsOne, IsUnended, bare_goes, blank_goes, comment_goes, cut_of, one_off, opening_goes, quoted_goes}

-- ---- the first entry

-- an entry that is ended, and the tokens after it
pub record IsFirst (d : ℕ) (tokens entry : List Token) (rest : List (List Token)) : Type 0 where
  pub more : List Token
  pub whole : tokens ≡ entry ++ more
  pub one : IsOne d entry
  pub later : (cut_from zero more).ended ≡ rest
  pub last : (cut_from zero more).open_tokens ≡ (cut_from d tokens).open_tokens

-- the tokens after a token have a first entry, if any is ended
abbrev pub HaveFirst : ℕ → List Token → List (List Token) → Type 0
HaveFirst k tokens ended = (entry : List Token) (rest : List (List Token)) → ended ≡ entry ∷ rest → IsFirst k tokens entry rest

module _ (d k : ℕ) (p : Token) (tokens : List Token) (goes : (back : List Token) → cut_from d (p ∷ back) ≡ in_front_of p (cut_from k back)) where
  last_behind : (found : List Token) (rest ended : List (List Token)) → ended ≡ found ∷ rest → (in_front p ended (cut_from k tokens).open_tokens).open_tokens ≡ (cut_from k tokens).open_tokens
  last_behind found rest [] e = absurd cc
  last_behind found rest (entry ∷ ended) e = refl

  open_behind : (found : List Token) (rest : List (List Token)) → (cut_from k tokens).ended ≡ found ∷ rest → (cut_from k tokens).open_tokens ≡ (cut_from d (p ∷ tokens)).open_tokens
  open_behind found rest e = sym (ap (λ (c : Cut). c.open_tokens) (goes tokens) ∙ last_behind found rest (cut_from k tokens).ended e)

  longer : (found entry : List Token) (rest others : List (List Token)) → (cut_from k tokens).ended ≡ found ∷ others → p ∷ found ≡ entry → others ≡ rest → IsFirst k tokens found others → IsFirst d (p ∷ tokens) entry rest
  longer found entry rest others e is same first = record {
    more = first.more;
    whole = ap (λ t. p ∷ t) first.whole ∙ ap (λ t. t ++ first.more) is;
    one = subst (IsOne d) is (goes found ∙ ap (in_front_of p) first.one);
    later = first.later ∙ same;
    last = first.last ∙ open_behind found others e;
  }

  first_by : (ended : List (List Token)) → (cut_from k tokens).ended ≡ ended → HaveFirst k tokens ended → (entry : List Token) (rest : List (List Token)) → (in_front p ended (cut_from k tokens).open_tokens).ended ≡ entry ∷ rest → IsFirst d (p ∷ tokens) entry rest
  first_by [] e more entry rest is = absurd cc
  first_by (found ∷ others) e more entry rest is = longer found entry rest others e (cc is) (cc is) (more found others refl)

  pub first_behind : HaveFirst k tokens (cut_from k tokens).ended → HaveFirst d (p ∷ tokens) (cut_from d (p ∷ tokens)).ended
  first_behind more entry rest is = first_by (cut_from k tokens).ended refl more entry rest (ap (λ (c : Cut). c.ended) (sym (goes tokens)) ∙ is)

line_first : (tokens entry : List Token) (rest : List (List Token)) → (line_feed ∷ []) ∷ (cut_from zero tokens).ended ≡ entry ∷ rest → IsFirst zero (line_feed ∷ tokens) entry rest
line_first tokens entry rest is =
    let e : line_feed ∷ [] ≡ entry = cc is in
    record {
      more = tokens;
      whole = ap (λ t. t ++ tokens) e;
      one = subst (IsOne zero) e refl;
      later = cc is;
      last = refl;
    }

pub first_of : (d : ℕ) (tokens : List Token) → HaveFirst d tokens (cut_from d tokens).ended
first_of d [] entry rest is = absurd cc
first_of zero (line_feed ∷ tokens) entry rest is = line_first tokens entry rest is
first_of (suc d) (line_feed ∷ tokens) entry rest is = first_behind (suc d) (suc d) line_feed tokens (λ b. refl) (first_of (suc d) tokens) entry rest is
first_of d (opening ∷ tokens) entry rest is = first_behind d (suc d) opening tokens (opening_goes d) (first_of (suc d) tokens) entry rest is
first_of zero (closing ∷ tokens) entry rest is = first_behind zero zero closing tokens (λ b. refl) (first_of zero tokens) entry rest is
first_of (suc d) (closing ∷ tokens) entry rest is = first_behind (suc d) d closing tokens (λ b. refl) (first_of d tokens) entry rest is
first_of d (comment o ∷ tokens) entry rest is = first_behind d d (comment o) tokens (comment_goes d o) (first_of d tokens) entry rest is
first_of d (blank c ∷ tokens) entry rest is = first_behind d d (blank c) tokens (blank_goes d c) (first_of d tokens) entry rest is
first_of d (bare u ∷ tokens) entry rest is = first_behind d d (bare u) tokens (bare_goes d u) (first_of d tokens) entry rest is
first_of d (quoted u ∷ tokens) entry rest is = first_behind d d (quoted u) tokens (quoted_goes d u) (first_of d tokens) entry rest is

-- it ends at depth zero
one_depth : (d at : ℕ) (entry more : List Token) → IsOne d entry → depth_after d (entry ++ more) ≡ Some at → depth_after d entry ≡ Some zero
one_depth d at [] more one e = absurd (let h : [] ≡ [] ∷ [] = ap (λ (c : Cut). c.ended) one in cc)
one_depth zero at (line_feed ∷ back) more one e =
    let h : (line_feed ∷ []) ∷ (cut_from zero back).ended ≡ (line_feed ∷ back) ∷ [] = ap (λ (c : Cut). c.ended) one in
    let none : [] ≡ back = cc h in
    subst (λ b. depth_after zero (line_feed ∷ b) ≡ Some zero) none refl
one_depth (suc d) at (line_feed ∷ back) more one e = one_depth (suc d) at back more (one_off (suc d) (suc d) line_feed back (λ b. refl) one) e
one_depth d at (opening ∷ back) more one e = one_depth (suc d) at back more (one_off d (suc d) opening back (opening_goes d) one) e
one_depth zero at (closing ∷ back) more one e = absurd cc
one_depth (suc d) at (closing ∷ back) more one e = one_depth d at back more (one_off (suc d) d closing back (λ b. refl) one) e
one_depth d at (comment o ∷ back) more one e = one_depth d at back more (one_off d d (comment o) back (comment_goes d o) one) e
one_depth d at (blank c ∷ back) more one e = one_depth d at back more (one_off d d (blank c) back (blank_goes d c) one) e
one_depth d at (bare u ∷ back) more one e = one_depth d at back more (one_off d d (bare u) back (bare_goes d u) one) e
one_depth d at (quoted u ∷ back) more one e = one_depth d at back more (one_off d d (quoted u) back (quoted_goes d u) one) e

-- ---- entries that are ended

abbrev pub IsWholeEntry : List Token → Type 0
IsWholeEntry tokens = IsOneEntry (text tokens) tokens

one_ended : (entry : List Token) → IsOne zero entry → AreEnded zero (entry ∷ [])
one_ended entry one = subst (AreEnded zero) (ap (λ (c : Cut). c.ended) one) (cut_ended zero entry)

-- ---- a text taken apart, and put together again

-- what octets are that are cut into tokens, to their end or to where they break
module _ (Ends : List ℕ → List Token → Type 0) where
  -- the text after entries
  pub record IsPartedInto (ended : List (List Token)) (octets : List ℕ) (tokens : List Token) : Type 0 where
    pub each : AllByRecursion IsWholeEntry ended
    pub rest : List ℕ
    pub whole : octets ≡ flat_map text ended ++ rest
    pub last : Ends rest (cut_from zero tokens).open_tokens
    pub unended : IsUnended zero (cut_from zero tokens).open_tokens

  -- the text of a first entry, and what is after it
  record IsFrontOf (octets : List ℕ) (entry more : List Token) : Type 0 where
    rest : List ℕ
    whole : octets ≡ text entry ++ rest
    cut : Cuts (text entry) entry
    ends : Ends rest more

  abbrev PartsAfter : Type 0
  PartsAfter = (octets : List ℕ) (entry more : List Token) → IsOne zero entry → Ends octets (entry ++ more) → IsFrontOf octets entry more

  abbrev JoinsTo : Type 0
  JoinsTo = (front rest : List ℕ) (tokens more : List Token) → Cuts front tokens → EndInLineFeed tokens → Ends rest more → Ends (front ++ rest) (tokens ++ more)

  nothing_ended : (octets : List ℕ) (tokens : List Token) → (cut_from zero tokens).ended ≡ [] → Ends octets tokens → IsPartedInto [] octets tokens
  nothing_ended octets tokens e ends =
      let own : (cut_from zero tokens).open_tokens ≡ tokens = ap (λ t. joined t ++ (cut_from zero tokens).open_tokens) (sym e) ∙ cut_whole zero tokens in
      record { each = tt; rest = octets; whole = refl; last = subst (Ends octets) (sym own) ends; unended = subst (IsUnended zero) (sym own) e }

  one_parted : (octets : List ℕ) (tokens entry : List Token) (rest : List (List Token)) (first : IsFirst zero tokens entry rest) (front : IsFrontOf octets entry first.more) → IsPartedInto rest front.rest first.more → IsPartedInto (entry ∷ rest) octets tokens
  one_parted octets tokens entry rest first front others = record {
    each = (record { cut = front.cut; ended = first.one }, others.each);
    rest = others.rest;
    whole = front.whole ∙ ap (λ t. text entry ++ t) others.whole ∙ sym (append_assoc (text entry) (flat_map text rest) others.rest);
    last = subst (Ends others.rest) first.last others.last;
    unended = subst (IsUnended zero) first.last others.unended;
  }

  parted_into : PartsAfter → (ended : List (List Token)) (octets : List ℕ) (tokens : List Token) → (cut_from zero tokens).ended ≡ ended → Ends octets tokens → IsPartedInto ended octets tokens
  parted_into part [] octets tokens e ends = nothing_ended octets tokens e ends
  parted_into part (entry ∷ rest) octets tokens e ends =
      let first = first_of zero tokens entry rest e in
      let front = part octets entry first.more first.one (subst (Ends octets) first.whole ends) in
      one_parted octets tokens entry rest first front (parted_into part rest front.rest first.more first.later front.ends)

  -- the entries and the tokens after them are the text's
  pub record IsPutTogether (ended : List (List Token)) (rest : List ℕ) (open_tokens : List Token) : Type 0 where
    pub ends : Ends (flat_map text ended ++ rest) (joined ended ++ open_tokens)
    pub cut : cut_from zero (joined ended ++ open_tokens) ≡ cut_of ended open_tokens

  put_nothing : (rest : List ℕ) (open_tokens : List Token) → Ends rest open_tokens → IsUnended zero open_tokens → IsPutTogether [] rest open_tokens
  put_nothing rest open_tokens ends unended =
      let own : (cut_from zero open_tokens).open_tokens ≡ open_tokens = ap (λ t. joined t ++ (cut_from zero open_tokens).open_tokens) (sym unended) ∙ cut_whole zero open_tokens in
      record { ends = ends; cut = ap (λ t. cut_of t (cut_from zero open_tokens).open_tokens) unended ∙ ap (λ t. cut_of [] t) own }

  put_together : JoinsTo → (ended : List (List Token)) (rest : List ℕ) (open_tokens : List Token) → AllByRecursion IsWholeEntry ended → Ends rest open_tokens → IsUnended zero open_tokens → IsPutTogether ended rest open_tokens
  put_together join [] rest open_tokens each ends unended = put_nothing rest open_tokens ends unended
  put_together join (entry ∷ ended) rest open_tokens each ends unended =
      let more = put_together join ended rest open_tokens each.1 ends unended in
      let same : entry ++ (joined ended ++ open_tokens) ≡ joined (entry ∷ ended) ++ open_tokens = sym (append_assoc entry (joined ended) open_tokens) in
      let octets : text entry ++ (flat_map text ended ++ rest) ≡ flat_map text (entry ∷ ended) ++ rest = sym (append_assoc (text entry) (flat_map text ended) rest) in
      record {
        ends = subst (λ o. Ends o (joined (entry ∷ ended) ++ open_tokens)) octets
            (subst (Ends (text entry ++ (flat_map text ended ++ rest))) same
            (join (text entry) (flat_map text ended ++ rest) entry (joined ended ++ open_tokens) each.0.cut (subst EndInLineFeed (append-nil entry) (one_ended entry each.0.ended).ends) more.ends));
        cut = ap (cut_from zero) (sym same) ∙ (ap (λ t. cut_from zero (t ++ (joined ended ++ open_tokens))) (sym (append-nil entry)) ∙ again_zero (entry ∷ []) (joined ended ++ open_tokens) (one_ended entry each.0.ended)) ∙ ap (λ (c : Cut). cut_of (entry ∷ c.ended) c.open_tokens) more.cut;
      }

-- ---- whole texts, and those that break

abbrev pub BreaksBy : Fault → List ℕ → List Token → Type 0
BreaksBy fault octets tokens = Breaks octets tokens fault

cut_front : PartsAfter Cuts
cut_front octets entry more one cut =
    let found = cut_parted octets entry more (one_depth zero zero entry more one cut.balanced) cut in
    record { rest = found.0; whole = found.1; cut = found.2; ends = found.3 }

break_front : (fault : Fault) → PartsAfter (BreaksBy fault)
break_front fault octets entry more one breaks =
    let found = break_parted octets entry more fault (one_depth zero breaks.depth entry more one breaks.parentheses) breaks in
    record { rest = found.0; whole = found.1; cut = found.2; ends = found.3 }

pub whole_parted : (octets : List ℕ) (tokens : List Token) → Cuts octets tokens → IsPartedInto Cuts (cut_from zero tokens).ended octets tokens
whole_parted octets tokens cut = parted_into Cuts cut_front (cut_from zero tokens).ended octets tokens refl cut

pub broken_parted : (fault : Fault) (octets : List ℕ) (tokens : List Token) → Breaks octets tokens fault → IsPartedInto (BreaksBy fault) (cut_from zero tokens).ended octets tokens
broken_parted fault octets tokens breaks = parted_into (BreaksBy fault) (break_front fault) (cut_from zero tokens).ended octets tokens refl breaks

pub whole_together : (ended : List (List Token)) (rest : List ℕ) (open_tokens : List Token) → AllByRecursion IsWholeEntry ended → Cuts rest open_tokens → IsUnended zero open_tokens → IsPutTogether Cuts ended rest open_tokens
whole_together = put_together Cuts cut_joined

pub broken_together : (fault : Fault) (ended : List (List Token)) (rest : List ℕ) (open_tokens : List Token) → AllByRecursion IsWholeEntry ended → Breaks rest open_tokens fault → IsUnended zero open_tokens → IsPutTogether (BreaksBy fault) ended rest open_tokens
broken_together fault = put_together (BreaksBy fault) (λ front rest tokens more cut ends breaks. break_joined front rest tokens more fault cut ends breaks)
