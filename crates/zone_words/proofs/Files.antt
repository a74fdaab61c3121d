-- Entries and what becomes of them, one by one, and the whole text.
use Rattle.zone_words.proofs.Common.{AreEnded, AreEntries, Becomes, Breaks, Cut, Cuts, EachBecomes, Entry, Fault, IsOneEntry, IsRewritten, IsSplit, List, Outcome, Refused, Token, [], add_assoc, again_zero, and_last, ap, append-nil, append_assoc, arith, break_more, broken, cut_from, cut_more, cut_whole, ended_as_before, entry_of, flat_map, flat_map-append, inl, line_feeds, numbered, one_ended, refl, reverse, split, subst, sum_by-append, sym, text, text_of_entries, told_of, turned, written_of, zero, ℕ, ◌++◌, ◌+◌, ◌∙◌, ◌∷◌, ◌≡◌}
use Rattle.zone_text.proofs.Common.{rules}
use Rattle.zone_text.proofs.Tokens.CutAgain.{joined}
use Rattle.zone_text.proofs.Entries.Begun.{no_tokens}
use Rattle.zone_words.specs.Rewriting.{whole}

pub whole_cut : (ended : List (List Token)) → AreEnded zero ended → cut_from zero (joined ended) ≡ record { ended = ended; open_tokens = [] }
whole_cut ended are = ap (cut_from zero) (sym (append-nil (joined ended))) ∙ again_zero ended [] are ∙ ap (λ (e : List (List Token)). record { ended = e; open_tokens = [] }) (append-nil ended)

pub closed : (done : List ℕ) (tokens : List Token) → Cuts done tokens → (cut_from zero tokens).open_tokens ≡ [] → done ≡ flat_map text (cut_from zero tokens).ended ++ []
closed done tokens cut none =
    let ended : List (List Token) = (cut_from zero tokens).ended in
    let same : tokens ≡ joined ended = sym (cut_whole zero tokens) ∙ ap (λ t. joined ended ++ t) none ∙ append-nil (joined ended) in
    cut.whole ∙ ap text same ∙ sym (text_of_entries ended) ∙ sym (append-nil (flat_map text ended))

module _ (Is : Becomes) where
  -- the entries before the rest, and what became of them
  pub record HasDone (octets rest new : List ℕ) (told : List Refused) : Type 0 where
    pub done : List ℕ
    pub begun : octets ≡ done ++ rest
    pub ended : List (List Token)
    pub outcomes : List Outcome
    pub parts : IsSplit done ended []
    pub each : EachBecomes Is [] 1 ended outcomes
    pub new_is : new ≡ written_of outcomes
    pub told_is : told ≡ told_of outcomes

  pub one_more : (before : List Entry) (line : ℕ) (ended : List (List Token)) (outcomes : List Outcome) (entry : List Token) (outcome : Outcome) → EachBecomes Is before line ended outcomes → Is (reverse (numbered line ended) ++ before) (line + line_feeds (flat_map text ended)) entry outcome → EachBecomes Is before line (ended ++ entry ∷ []) (outcomes ++ outcome ∷ [])
  one_more before line [] [] entry outcome are is = (subst (λ l. Is before l entry outcome) (omega arith) is, tt)
  one_more before line [] (other ∷ outcomes) entry outcome are is = absurd are
  one_more before line (first ∷ ended) [] entry outcome are is = absurd are
  one_more before line (first ∷ ended) (other ∷ outcomes) entry outcome are is =
      let next : ℕ = line + line_feeds (text first) in
      let past : List Entry = numbered next ended in
      let same : line + line_feeds (flat_map text (first ∷ ended)) ≡ next + line_feeds (flat_map text ended) = lines_on line (text first) (flat_map text ended) in (
        are.0,
        one_more (entry_of line first ∷ before) next ended outcomes entry outcome are.1
            (subst (λ l. Is (reverse past ++ (entry_of line first ∷ before)) l entry outcome) same
            (subst (λ b. Is b (line + line_feeds (flat_map text (first ∷ ended))) entry outcome) (turned (entry_of line first) past before) is)),
      )
    where
      lines_on : (line : ℕ) (a b : List ℕ) → line + line_feeds (a ++ b) ≡ line + line_feeds a + line_feeds b
      lines_on line a b = search (rules, add_assoc, sum_by-append)

  -- what becomes of an entry after those before the rest
  pub record NextBecomes (ended : List (List Token)) (entry : List Token) (old new : List ℕ) (told now : List Refused) : Type 0 where
    pub outcome : Outcome
    pub is : Is (reverse (numbered 1 ended) ++ []) (1 + line_feeds (flat_map text ended)) entry outcome
    pub new_is : new ≡ old ++ text outcome.written
    pub told_is : now ≡ told ++ outcome.told

  -- with one outcome more
  pub record IsLonger (ended : List (List Token)) (entry : List Token) (new : List ℕ) (told : List Refused) : Type 0 where
    pub outcomes : List Outcome
    pub each : EachBecomes Is [] 1 (ended ++ entry ∷ []) outcomes
    pub new_is : new ≡ written_of outcomes
    pub told_is : told ≡ told_of outcomes

  pub longer_by : (ended : List (List Token)) (outcomes : List Outcome) (old new : List ℕ) (told now : List Refused) (entry : List Token) → EachBecomes Is [] 1 ended outcomes → old ≡ written_of outcomes → told ≡ told_of outcomes → NextBecomes ended entry old new told now → IsLonger ended entry new now
  longer_by ended outcomes old new told now entry each written tells next = record {
    outcomes = outcomes ++ next.outcome ∷ [];
    each = one_more [] 1 ended outcomes entry next.outcome each next.is;
    new_is = next.new_is ∙ ap (λ t. t ++ text next.outcome.written) written ∙ one_text outcomes next.outcome;
    told_is = next.told_is ∙ ap (λ t. t ++ next.outcome.told) tells ∙ one_told outcomes next.outcome;
  }
    where
      one_text : (outcomes : List Outcome) (o : Outcome) → written_of outcomes ++ text o.written ≡ written_of (outcomes ++ o ∷ [])
      one_text outcomes o = ap (λ t. written_of outcomes ++ t) (sym (append-nil (text o.written))) ∙ sym (flat_map-append (λ (o : Outcome). text o.written) outcomes (o ∷ []))

      one_told : (outcomes : List Outcome) (o : Outcome) → told_of outcomes ++ o.told ≡ told_of (outcomes ++ o ∷ [])
      one_told outcomes o = ap (λ t. told_of outcomes ++ t) (sym (append-nil o.told)) ∙ sym (flat_map-append (λ (o : Outcome). o.told) outcomes (o ∷ []))

  pub one_joined : (ended : List (List Token)) (entry : List Token) → joined ended ++ entry ≡ joined (ended ++ entry ∷ [])
  one_joined ended entry = ap (λ t. joined ended ++ t) (sym (append-nil entry)) ∙ sym (flat_map-append (λ (e : List Token). e) ended (entry ∷ []))

  pub all_ended : (octets : List ℕ) (ended : List (List Token)) (entry : List Token) → Cuts octets (joined ended ++ entry) → (cut_from zero (joined ended ++ entry)).ended ≡ ended ++ entry ∷ [] → octets ≡ flat_map text (cut_from zero (joined ended ++ entry)).ended ++ []
  all_ended octets ended entry cuts same =
      cuts.whole ∙ ap text (one_joined ended entry) ∙ sym (text_of_entries (ended ++ entry ∷ [])) ∙ ap (flat_map text) (sym same) ∙ sym (append-nil (flat_map text (cut_from zero (joined ended ++ entry)).ended))

  -- an entry more
  unfoldable pub done_entry : (octets rest part after old new : List ℕ) (told now : List Refused) (has : HasDone octets rest old told) → rest ≡ part ++ after → (entry : List Token) → IsOneEntry part entry → NextBecomes has.ended entry old new told now → HasDone octets after new now
  done_entry octets rest part after old new told now has parts entry one next =
      let ended : List (List Token) = has.ended in
      let w = longer_by ended has.outcomes old new told now entry has.each has.new_is has.told_is next in
      let cuts : Cuts (has.done ++ part) (joined ended ++ entry) = cut_more has.done part ended [] entry has.parts one.cut in
      let same : (cut_from zero (joined ended ++ entry)).ended ≡ ended ++ entry ∷ [] = one_ended ended entry has.parts.stays one.ended in
      record {
        done = has.done ++ part;
        begun = has.begun ∙ ap (λ t. has.done ++ t) parts ∙ sym (append_assoc has.done part after);
        ended = ended ++ entry ∷ [];
        outcomes = w.outcomes;
        parts = subst (λ e. IsSplit (has.done ++ part) e []) same (split (has.done ++ part) (joined ended ++ entry) [] (inl cuts) (all_ended (has.done ++ part) ended entry cuts same));
        each = w.each;
        new_is = w.new_is;
        told_is = w.told_is;
      }

  all_cut : (ended : List (List Token)) (tokens : List Token) → AreEnded zero ended → (cut_from zero tokens).ended ≡ [] → and_last (cut_from zero (joined ended ++ tokens)).ended (cut_from zero (joined ended ++ tokens)).open_tokens ≡ and_last ended tokens
  all_cut ended tokens are none = cc (again_zero ended tokens are, append-nil ended, cut_whole zero tokens)

  whole_by : (octets rest old new : List ℕ) (told now : List Refused) (has : HasDone octets rest old told) (outcomes : List Outcome) (tokens : List Token) → Cuts rest tokens → (cut_from zero tokens).ended ≡ [] → EachBecomes Is [] 1 (and_last has.ended tokens) outcomes → new ≡ written_of outcomes → now ≡ told_of outcomes → IsRewritten Is octets new now
  whole_by octets rest old new told now has outcomes tokens cut none each out tells =
      let cuts : Cuts (has.done ++ rest) (joined has.ended ++ tokens) = cut_more has.done rest has.ended [] tokens has.parts cut in
      whole (joined has.ended ++ tokens) outcomes (subst (λ t. Cuts t (joined has.ended ++ tokens)) (sym has.begun) cuts)
      (subst (λ e. EachBecomes Is [] 1 e outcomes) (sym (all_cut has.ended tokens has.parts.stays none)) each) out tells

  -- no octets are left
  pub whole_done : (octets rest out : List ℕ) (told : List Refused) → HasDone octets rest out told → rest ≡ [] → IsRewritten Is octets out told
  whole_done octets rest out told has none = whole_by octets rest out out told told has has.outcomes [] (subst (λ t. Cuts t []) (sym none) no_tokens) refl has.each has.new_is has.told_is

  -- they are the last entry
  pub whole_last : (octets rest old new : List ℕ) (told now : List Refused) (has : HasDone octets rest old told) → (rest ≡ [] → ⊥) → (tokens : List Token) → Cuts rest tokens → (cut_from zero tokens).ended ≡ [] → NextBecomes has.ended tokens old new told now → IsRewritten Is octets new now
  whole_last octets rest old new told now has some [] cut none next = absurd (some cut.whole)
  whole_last octets rest old new told now has some (p ∷ tokens) cut none next =
      let w = longer_by has.ended has.outcomes old new told now (p ∷ tokens) has.each has.new_is has.told_is next in
      whole_by octets rest old new told now has w.outcomes (p ∷ tokens) cut none w.each w.new_is w.told_is

  -- they break
  pub broken_last : (octets rest old new : List ℕ) (told : List Refused) (fault : Fault) → HasDone octets rest old told → (tokens : List Token) → Breaks rest tokens fault → (cut_from zero tokens).ended ≡ [] → new ≡ old ++ rest → IsRewritten Is octets new told
  broken_last octets rest old new told fault has tokens breaks none pushed =
      let all : List Token = joined has.ended ++ tokens in
      let both : Breaks (has.done ++ rest) all fault = break_more has.done rest has.ended [] tokens fault has.parts breaks in
      let same : (cut_from zero all).ended ≡ has.ended = ended_as_before has.ended tokens has.parts.stays none in
      broken all fault has.outcomes rest (subst (λ t. Breaks t all fault) (sym has.begun) both)
      (subst (λ e. EachBecomes Is [] 1 e has.outcomes) (sym same) has.each)
      (has.begun ∙ ap (λ t. t ++ rest) (has.parts.whole ∙ append-nil (text (joined has.ended)) ∙ sym (text_of_entries has.ended) ∙ ap (flat_map text) (sym same)))
      (pushed ∙ ap (λ t. t ++ rest) has.new_is)
      has.told_is

  -- the same entries as the public record says them
  unfoldable pub as_entries : (octets rest out : List ℕ) (told : List Refused) (has : HasDone octets rest out told) → AreEntries Is has.done out told
  as_entries octets rest out told has =
      let all : cut_from zero (joined has.ended) ≡ record { ended = has.ended; open_tokens = [] } = whole_cut has.ended has.parts.stays in
      record {
        tokens = joined has.ended;
        cut = subst (λ t. Cuts t (joined has.ended)) (sym (has.parts.whole ∙ append-nil (text (joined has.ended)))) has.parts.front;
        ended = ap (λ (c : Cut). c.open_tokens) all;
        outcomes = has.outcomes;
        each = subst (λ e. EachBecomes Is [] 1 e has.outcomes) (sym (ap (λ (c : Cut). c.ended) all)) has.each;
        new_is = has.new_is;
        told_is = has.told_is;
      }

  pub from_entries : (done rest out : List ℕ) (told : List Refused) → AreEntries Is done out told → HasDone (done ++ rest) rest out told
  from_entries done rest out told are = record {
    done = done;
    begun = refl;
    ended = (cut_from zero are.tokens).ended;
    outcomes = are.outcomes;
    parts = split done are.tokens [] (inl are.cut) (closed done are.tokens are.cut are.ended);
    each = are.each;
    new_is = are.new_is;
    told_is = are.told_is;
  }
