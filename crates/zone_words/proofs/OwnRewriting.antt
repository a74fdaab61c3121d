-- A file without words of further types is its own rewriting.
use Rattle.zone_words.proofs.Common.{AllByRecursion, AllByRecursion-back, AllByRecursion-front, Anew, BecomesUnder, Breaks, Cuts, EachBecomes, Entry, Fault, FurtherType, IsFurtherWord, IsRefused, IsRewriting, Labels, List, Outcome, Refused, SaysAnew, Token, TouchingItem, Written, [], and_last, ap, append_assoc, broken, count_by, cut_from, cut_or_broken, cut_whole, entries_text, entry_of, flat_map, flat_map-append, in_generic_form, inl, inr, kept, map, no_data, on_more_lines, refl, subst, sym, text, text_of_entries, token_text, told_of, too_many, written_of, written_text, zero, ℕ, ◌++◌, ◌+◌, ◌==◌, ◌∙◌, ◌∷◌, ◌≡◌}
use Rattle.zone_text.proofs.Common.{bare}
use Rattle.zone_text.proofs.Tokens.CutAgain.{joined}
use Rattle.zone_words.specs.Entry.{in_words}
use Rattle.zone_words.specs.NoFurther.{HasNoFurtherWord, IsNoFurtherWord}
use Rattle.zone_words.specs.Rewriting.{whole}
use Rattle.zone_text.proofs.Files.Left.{and_last_joined}

-- such tokens say nothing, and nothing is wrong with them
said_word : (origin : Labels) (before : List Entry) (entry : Entry) (word : List ℕ) (d : List TouchingItem) (it : Anew) → SaysAnew origin before entry word d it → (f : FurtherType) × IsFurtherWord word f
said_word origin before entry word d it (in_generic_form f above is few line generic mnemonic) = (f, is.stated.named)
said_word origin before entry word d it (in_words f above octets is few line words states) = (f, is.stated.named)

failed_word : (origin : Labels) (before : List Entry) (entry : Entry) (word : List ℕ) (d : List TouchingItem) (it : Refused) → IsRefused origin before entry word d it → (f : FurtherType) × IsFurtherWord word f
failed_word origin before entry word d it (too_many f above is words many) = (f, is.stated.named)
failed_word origin before entry word d it (on_more_lines f above is words few lines) = (f, is.stated.named)
failed_word origin before entry word d it (no_data f above field fault is words few line fails) = (f, is.stated.named)

no_word : (tokens front back : List Token) (word : List Written) (f : FurtherType) → AllByRecursion IsNoFurtherWord tokens → tokens ≡ front ++ bare word ∷ back → IsFurtherWord (written_text word) f → ⊥
no_word tokens front back word f none split is = (AllByRecursion-back IsNoFurtherWord front (bare word ∷ back) (subst (AllByRecursion IsNoFurtherWord) split none)).0 f is

abbrev itself : List Token → Outcome
itself tokens = record { written = tokens; told = [] }

stays_itself : (origin : Labels) (before : List Entry) (line : ℕ) (tokens : List Token) → AllByRecursion IsNoFurtherWord tokens → BecomesUnder origin before line tokens (itself tokens)
stays_itself origin before line tokens none =
    kept (λ front back it say. (let w = said_word origin before (entry_of line tokens) _ _ it say.says in no_word tokens front back say.word w.0 none say.split w.1))
    (λ it fail. (let w = failed_word origin before (entry_of line tokens) _ _ it fail.fails in no_word tokens fail.front fail.back fail.word w.0 none fail.split w.1)) refl

each_itself : (origin : Labels) (before : List Entry) (line : ℕ) (entries : List (List Token)) → AllByRecursion IsNoFurtherWord (joined entries) → EachBecomes (BecomesUnder origin) before line entries (map itself entries)
each_itself origin before line [] none = tt
each_itself origin before line (entry ∷ entries) none = (
  stays_itself origin before line entry (AllByRecursion-front IsNoFurtherWord entry (joined entries) none),
  each_itself origin (entry_of line entry ∷ before) (line + count_by (λ c. c == 10) (text entry)) entries (AllByRecursion-back IsNoFurtherWord entry (joined entries) none),
)

written_itself : (entries : List (List Token)) → flat_map text entries ≡ written_of (map itself entries)
written_itself [] = refl
written_itself (entry ∷ entries) = ap (λ t. text entry ++ t) (written_itself entries)

told_nothing : (entries : List (List Token)) → [] ≡ told_of (map itself entries)
told_nothing [] = refl
told_nothing (entry ∷ entries) = told_nothing entries

own_whole : (origin : Labels) (octets : List ℕ) (tokens : List Token) → AllByRecursion IsNoFurtherWord tokens → Cuts octets tokens → IsRewriting origin octets octets []
own_whole origin octets tokens none cut =
    let entries : List (List Token) = and_last (cut_from zero tokens).ended (cut_from zero tokens).open_tokens in
    let all : joined entries ≡ tokens = and_last_joined (cut_from zero tokens).ended (cut_from zero tokens).open_tokens ∙ cut_whole zero tokens in
    whole tokens (map itself entries) cut (each_itself origin [] 1 entries (subst (AllByRecursion IsNoFurtherWord) (sym all) none))
    (cut.whole ∙ sym (entries_text tokens) ∙ written_itself entries) (told_nothing entries)

own_broken : (origin : Labels) (octets : List ℕ) (tokens : List Token) (fault : Fault) → AllByRecursion IsNoFurtherWord tokens → Breaks octets tokens fault → IsRewriting origin octets octets []
own_broken origin octets tokens fault none breaks =
    let ended : List (List Token) = (cut_from zero tokens).ended in
    let open_tokens : List Token = (cut_from zero tokens).open_tokens in
    let all : tokens ≡ joined ended ++ open_tokens = sym (cut_whole zero tokens) in
    let rest : List ℕ = text open_tokens ++ breaks.rest in
    let front : octets ≡ flat_map text ended ++ rest =
    breaks.whole ∙ ap (λ t. text t ++ breaks.rest) all ∙ ap (λ t. t ++ breaks.rest) (flat_map-append token_text (joined ended) open_tokens ∙ ap (λ t. t ++ text open_tokens) (sym (text_of_entries ended)))
    ∙ append_assoc (flat_map text ended) (text open_tokens) breaks.rest in
    broken tokens fault (map itself ended) rest breaks
    (each_itself origin [] 1 ended (AllByRecursion-front IsNoFurtherWord (joined ended) open_tokens (subst (AllByRecursion IsNoFurtherWord) all none)))
    front (front ∙ ap (λ t. t ++ rest) (written_itself ended)) (told_nothing ended)

pub own_rewriting : (origin : Labels) (octets : List ℕ) → HasNoFurtherWord octets → IsRewriting origin octets octets []
own_rewriting origin octets none = elim (cut_or_broken octets) [
  | inl cut ↦ own_whole origin octets cut.0 (none cut.0 (inl cut.1)) cut.1
  | inr breaks ↦ own_broken origin octets breaks.0 breaks.1 (none breaks.0 (inr (breaks.1, breaks.2))) breaks.2
]
