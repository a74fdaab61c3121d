-- Records that state their class become the same wherever they stand, where no `$ORIGIN` stands
-- before them.
use Rattle.zone_words.proofs.Common.{AllByRecursion, AllByRecursion-append, Anew, BecomesUnder, Entry, FurtherType, IsCasedOrigin, IsFurtherUnder, IsRefused, IsSome, Labels, List, MatchOption, None, Option, Outcome, RawItem, Refused, SaysAnew, Some, Statement, Token, TokensFail, TokensSay, TouchingItem, [], anew, class_word, count_by, entry_of, in_generic_form, includes, kept, latest, no_data, numbered, on_more_lines, option_or, origin_items, owned, refl, refused, reverse, reverse-append, sets_origin, sets_ttl, statement_of, subst, sym, text, too_many, unknown, unowned, ℕ, ◌++◌, ◌+◌, ◌==◌, ◌∷◌, ◌≡◌}
use Rattle.zone_text.proofs.Common.{no_items}
use Rattle.zone_words.specs.Entry.{in_words}
use Rattle.zone_words.proofs.Origins.{OriginAfter}

-- the entry is a record that states its class
abbrev pub IsClassed : Entry → Type 0
IsClassed entry = IsSome (class_word (statement_of entry))

form_sets_none : (form : Statement) → IsSome (class_word form) → origin_items form ≡ None
form_sets_none no_items some = absurd cc
form_sets_none (sets_origin items) some = absurd cc
form_sets_none (sets_ttl items) some = refl
form_sets_none includes some = refl
form_sets_none unknown some = refl
form_sets_none (owned owner items) some = refl
form_sets_none (unowned items) some = refl

origin_of : (origin name : Labels) (before : List Entry) → AllByRecursion IsClassed before → IsCasedOrigin origin before name → name ≡ origin
origin_of origin name [] classed is = is
origin_of origin name (entry ∷ before) classed is = origin_of origin name before classed.1 (subst (λ items. OriginAfter origin before items name) (form_sets_none (statement_of entry) classed.0) is)

is_origin : (origin name : Labels) (before : List Entry) → AllByRecursion IsClassed before → name ≡ origin → IsCasedOrigin origin before name
is_origin origin name [] classed same = same
is_origin origin name (entry ∷ before) classed same = subst (λ items. OriginAfter origin before items name) (sym (form_sets_none (statement_of entry) classed.0)) (is_origin origin name before classed.1 same)

class_of : (word a b : Option (List ℕ)) (Else : Type 0) (Is : List ℕ → Type 0) → IsSome word → MatchOption (option_or word a) Else Is → MatchOption (option_or word b) Else Is
class_of None a b Else Is some is = absurd cc
class_of (Some text) a b Else Is some is = is

module _ (origin : Labels) (from to : List Entry) (was : AllByRecursion IsClassed from) (are : AllByRecursion IsClassed to) (line other : ℕ) (tokens : List Token) (classed : IsClassed (entry_of line tokens)) where
  further_moves : (word : List ℕ) (items : List RawItem) (f : FurtherType) (above : Labels) → IsFurtherUnder origin from (entry_of line tokens) word items f above → IsFurtherUnder origin to (entry_of other tokens) word items f above
  further_moves word items f above is = record {
    stated = record {
      parts = is.stated.parts;
      split = is.stated.split;
      values = is.stated.values;
      from_type = is.stated.from_type;
      named = is.stated.named;
      class = λ internet. (class_of (class_word (statement_of (entry_of line tokens))) (latest class_word from) (latest class_word to) _ _ classed (is.stated.class internet));
    };
    under = is_origin origin above to are (origin_of origin above from was is.under);
  }

  says_moves : (word : List ℕ) (d : List TouchingItem) (it : Anew) → SaysAnew origin from (entry_of line tokens) word d it → SaysAnew origin to (entry_of other tokens) word d it
  says_moves word d it (in_generic_form f above is few lines generic mnemonic) = in_generic_form f above (further_moves word _ f above is) few lines generic mnemonic
  says_moves word d it (in_words f above octets is few lines words states) = in_words f above octets (further_moves word _ f above is) few lines words states

  pub tokens_say_moves : (front back : List Token) (it : Anew) → TokensSay origin from line tokens front back it → TokensSay origin to other tokens front back it
  tokens_say_moves front back it say = record {
    word = say.word;
    split = say.split;
    says = says_moves _ _ it say.says;
  }

  -- on another line
  record Fails (word : List ℕ) (d : List TouchingItem) : Type 0 where
    pub it : Refused
    pub fails : IsRefused origin to (entry_of other tokens) word d it

  fails_moves : (word : List ℕ) (d : List TouchingItem) (it : Refused) → IsRefused origin from (entry_of line tokens) word d it → Fails word d
  fails_moves word d it (too_many f above is words many) = record { it = _; fails = too_many f above (further_moves word _ f above is) words many }
  fails_moves word d it (on_more_lines f above is words few lines) = record { it = _; fails = on_more_lines f above (further_moves word _ f above is) words few lines }
  fails_moves word d it (no_data f above field fault is words few one fails) = record { it = _; fails = no_data f above field fault (further_moves word _ f above is) words few one fails }

  pub tokens_fail_moves : (it : Refused) → TokensFail origin from line tokens it → (moved : Refused) × TokensFail origin to other tokens moved
  tokens_fail_moves it fail =
      let moved = fails_moves _ _ it fail.fails in
      (moved.it, record { front = fail.front; back = fail.back; word = fail.word; split = fail.split; fails = moved.fails })

pub becomes_moves : (origin : Labels) (from to : List Entry) (was : AllByRecursion IsClassed from) (are : AllByRecursion IsClassed to) (line other : ℕ) (tokens : List Token) (outcome : Outcome) → IsClassed (entry_of line tokens) → outcome.told ≡ [] → BecomesUnder origin from line tokens outcome → BecomesUnder origin to other tokens outcome
becomes_moves origin from to was are line other tokens outcome classed none (anew front back it say is) =
    anew front back it (tokens_say_moves origin from to was are line other tokens classed front back it say) is
becomes_moves origin from to was are line other tokens outcome classed none (refused it fail is) = absurd (let told : it ∷ [] ≡ [] = cc (is, none) in cc)
becomes_moves origin from to was are line other tokens outcome classed none (kept says fails is) =
    kept (λ front back it say. says front back it (tokens_say_moves origin to from are was other line tokens classed front back it say))
    (λ it fail. (let back = tokens_fail_moves origin to from are was other line tokens classed it fail in fails back.0 back.1)) is

-- ---- entries that state their class

abbrev pub AreClassed : List (List Token) → Type 0
AreClassed entries = AllByRecursion (λ tokens. IsClassed (entry_of 1 tokens)) entries

numbered_classed : (line : ℕ) (entries : List (List Token)) → AreClassed entries → AllByRecursion IsClassed (numbered line entries)
numbered_classed line [] are = tt
numbered_classed line (tokens ∷ entries) are = (are.0, numbered_classed (line + count_by (λ c. c == 10) (text tokens)) entries are.1)

reverse_classed : (entries : List Entry) → AllByRecursion IsClassed entries → AllByRecursion IsClassed (reverse entries)
reverse_classed [] are = tt
reverse_classed (entry ∷ entries) are = subst (AllByRecursion IsClassed) (sym (reverse-append (entry ∷ []) entries)) (AllByRecursion-append IsClassed (reverse entries) (entry ∷ []) (reverse_classed entries are.1) (are.0, tt))

pub before_classed : (entries : List (List Token)) → AreClassed entries → AllByRecursion IsClassed (reverse (numbered 1 entries) ++ [])
before_classed entries are = AllByRecursion-append IsClassed (reverse (numbered 1 entries)) [] (reverse_classed (numbered 1 entries) (numbered_classed 1 entries are)) tt
