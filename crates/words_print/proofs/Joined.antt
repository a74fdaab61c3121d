-- Records that state their class are rewritten one after the other as each is alone.
use Rattle.zone_text.proofs.Common.{AllByRecursion-append, Cut, List, Token, [], and_last, ap, append-nil, append_assoc, cut_from, entry_of, numbered, refl, reverse, subst, sym, text, zero, ℕ, ◌++◌, ◌∙◌, ◌∷◌, ◌≡◌}
use Rattle.zone_text.proofs.Tokens.Cuttings.{cut_not_broken, one_cut}
use Rattle.zone_text.proofs.Entries.Begun.{no_tokens}
use Rattle.zone_text.proofs.Tokens.CutAgain.{cut_ended}
use Rattle.zone_words.proofs.Files.{HasDone, NextBecomes, whole_done}
unfoldable use Rattle.zone_words.proofs.Files.{done_entry}
use Rattle.zone_words.proofs.Moved.{AreClassed, IsClassed, becomes_moves, before_classed}
use Rattle.type_data.specs.Data.{joined}
use Rattle.zone_words.specs.Entry.{BecomesUnder, IsRewriting}
use Rattle.zone_words.specs.Rewriting.{EachBecomes, Outcome, broken, told_of, whole, written_of}
use Rattle.words_print.specs.Shown.{StatesItsClass}

-- what becomes of one record that states its class
pub record LineBecomes (tokens : List Token) (new : List ℕ) : Type 0 where
  pub outcome : Outcome
  pub is : BecomesUnder [] [] 1 tokens outcome
  pub none : outcome.told ≡ []
  pub new_is : new ≡ text outcome.written

of_outcomes : (tokens : List Token) (new : List ℕ) (outcomes : List Outcome) → EachBecomes (BecomesUnder []) [] 1 (tokens ∷ []) outcomes → new ≡ written_of outcomes → [] ≡ told_of outcomes → LineBecomes tokens new
of_outcomes tokens new [] each new_is told_is = absurd each
of_outcomes tokens new (o ∷ []) each new_is told_is = record {
  outcome = o;
  is = each.0;
  none = sym (told_is ∙ append-nil o.told);
  new_is = new_is ∙ append-nil (text o.written);
}
of_outcomes tokens new (o ∷ p ∷ outcomes) each new_is told_is = absurd each.1

pub line_becomes : (octets new : List ℕ) (s : StatesItsClass octets) → IsRewriting [] octets new [] → LineBecomes s.tokens new
line_becomes octets new s (whole tokens outcomes cuts each new_is told_is) =
    let same : tokens ≡ s.tokens = one_cut octets tokens s.tokens cuts s.one.cut in
    let all : and_last (cut_from zero tokens).ended (cut_from zero tokens).open_tokens ≡ s.tokens ∷ [] =
    ap (λ t. and_last (cut_from zero t).ended (cut_from zero t).open_tokens) same ∙ ap (λ (c : Cut). and_last c.ended c.open_tokens) s.one.ended in
    of_outcomes s.tokens new outcomes (subst (λ e. EachBecomes (BecomesUnder []) [] 1 e outcomes) all each) new_is told_is
line_becomes octets new s (broken tokens fault outcomes rest breaks each parted new_is told_is) = absurd (cut_not_broken octets s.tokens tokens fault s.one.cut breaks)

-- ---- one after the other

record Begun (octets rest new : List ℕ) : Type 0 where
  pub has : HasDone (BecomesUnder []) octets rest new []
  pub classed : AreClassed has.ended

one_more : (octets rest part after old new : List ℕ) → Begun octets rest old → rest ≡ part ++ after → StatesItsClass part → IsRewriting [] part new [] → Begun octets after (old ++ new)
unfolding done_entry
one_more octets rest part after old new b parted s is =
    let line : LineBecomes s.tokens new = line_becomes part new s is in
    let next : NextBecomes (BecomesUnder []) b.has.ended s.tokens old (old ++ new) [] [] = record {
      outcome = line.outcome;
      is = becomes_moves [] [] (reverse (numbered 1 b.has.ended) ++ []) tt (before_classed b.has.ended b.classed) 1 _ s.tokens line.outcome s.class line.none line.is;
      new_is = ap (λ t. old ++ t) line.new_is;
      told_is = sym line.none;
    } in
    record {
      has = done_entry (BecomesUnder []) octets rest part after old (old ++ new) [] [] b.has parted s.tokens s.one next;
      classed = AllByRecursion-append (λ tokens. IsClassed (entry_of 1 tokens)) b.has.ended (s.tokens ∷ []) b.classed (s.class, tt);
    }

-- each of the first is rewritten as its partner
abbrev pub EachRewritten : List (List ℕ) → List (List ℕ) → Type 0
EachRewritten [] [] = Unit {0}
EachRewritten (octets ∷ many) (new ∷ others) = (StatesItsClass octets × IsRewriting [] octets new []) × EachRewritten many others
EachRewritten many others = ⊥

all_more : (octets old : List ℕ) (many others : List (List ℕ)) → Begun octets (joined many) old → EachRewritten many others → Begun octets [] (old ++ joined others)
all_more octets old [] [] b each = subst (λ t. Begun octets [] t) (sym (append-nil old)) b
all_more octets old [] (new ∷ others) b each = absurd each
all_more octets old (part ∷ many) [] b each = absurd each
all_more octets old (part ∷ many) (new ∷ others) b each =
    subst (λ t. Begun octets [] t) (append_assoc old new (joined others))
    (all_more octets (old ++ new) many others (one_more octets (joined (part ∷ many)) part (joined many) old new b refl each.0.0 each.0.1) each.1)

begun_none : (octets : List ℕ) → Begun octets octets []
begun_none octets = record {
  has = record {
    done = [];
    begun = refl;
    ended = [];
    outcomes = [];
    parts = record { whole = refl; front = no_tokens; stays = cut_ended zero [] };
    each = tt;
    new_is = refl;
    told_is = refl;
  };
  classed = tt;
}

pub joined_rewriting : (many others : List (List ℕ)) → EachRewritten many others → IsRewriting [] (joined many) (joined others) []
joined_rewriting many others each =
    let all = all_more (joined many) [] many others (begun_none (joined many)) each in
    whole_done (BecomesUnder []) (joined many) [] (joined others) [] all.has refl
