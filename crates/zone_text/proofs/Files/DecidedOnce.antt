-- What is decided of a prefix, and the octets that it leaves, are one thing.
use Rattle.zone_text.proofs.Common.{BreaksForGood, Ending, FileDecides, List, Lower, None, Placed, ReadEach, Token, [], and_last, ap, append-nil, cut_from, decided, ended_entries, entries_of, inl, inr, numbered, open_line, rules, subst, sym, undecided, zero, ℕ, ◌++◌, ◌∙◌, ◌≡◌, arith}
use Rattle.zone_text.proofs.Entries.Begun.{no_tokens}
use Rattle.zone_text.proofs.Tokens.CutAgain.{joined, cut_again, cut_whole, and_last_after}
use Rattle.zone_text.proofs.Tokens.Cuttings.{cut_not_broken}
use Rattle.zone_text.proofs.Files.Decides.{tokens_of, broken_once, reads_once}
use Rattle.zone_text.proofs.Files.Left.{numbered_then}

pub decided_once : Lower → (origin : List (List ℕ)) (octets : List ℕ) (a b : List Placed) (e f : Ending) → FileDecides origin octets a e → FileDecides origin octets b f → (a ≡ b) × (e ≡ f)
decided_once lower origin octets a b e f (undecided ps are never xs) (undecided qs others none ys) =
    reads_once lower origin None [] (ended_entries qs) a b e f (subst (λ p. ReadEach origin None [] (ended_entries p) a e) (tokens_of octets ps qs are others) xs) ys
decided_once lower origin octets a b e f (undecided ps are never xs) (decided qs fault good ys) =
    absurd (never fault (subst (λ p. BreaksForGood octets p fault) (tokens_of octets qs ps (inr (fault, good.breaks)) are) good))
decided_once lower origin octets a b e f (decided ps fault good xs) (undecided qs others none ys) =
    absurd (none fault (subst (λ p. BreaksForGood octets p fault) (tokens_of octets ps qs (inr (fault, good.breaks)) others) good))
decided_once lower origin octets a b e f (decided ps fault good xs) (decided qs other better ys) = grind (arith, broken_once lower origin octets ps qs fault other a b e f good.breaks better.breaks xs ys)

pub nothing_only : (origin : List (List ℕ)) (placed : List Placed) (ending : Ending) → FileDecides origin [] placed ending → (placed ≡ []) × (ending ≡ None)
nothing_only origin placed ending (undecided ps are never read) = grind (arith, tokens_of [] ps [] are (inl no_tokens))
nothing_only origin placed ending (decided ps fault good read) = absurd (cut_not_broken [] [] ps fault no_tokens good.breaks)

-- ---- the entries of tokens one after the other

pub cut_after_all : (tokens more : List Token) → (cut_from zero tokens).open_tokens ≡ [] → cut_from zero (tokens ++ more) ≡ record { ended = (cut_from zero tokens).ended ++ (cut_from zero more).ended; open_tokens = (cut_from zero more).open_tokens }
cut_after_all tokens more none = ap (λ p. cut_from zero (p ++ more)) (sym (cut_whole zero tokens) ∙ ap (λ t. joined (cut_from zero tokens).ended ++ t) none ∙ append-nil (joined (cut_from zero tokens).ended)) ∙ cut_again tokens more

pub ended_on_after : (tokens more : List Token) → (cut_from zero tokens).open_tokens ≡ [] → ended_entries (tokens ++ more) ≡ ended_entries tokens ++ numbered (open_line tokens) (cut_from zero more).ended
ended_on_after tokens more none = search (rules, cut_after_all, numbered_then)

pub entries_on_after : (tokens more : List Token) → (cut_from zero tokens).open_tokens ≡ [] → entries_of (tokens ++ more) ≡ ended_entries tokens ++ numbered (open_line tokens) (and_last (cut_from zero more).ended (cut_from zero more).open_tokens)
entries_on_after tokens more none = search (rules, cut_after_all, and_last_after, numbered_then)

pub ruleset what_comes_after = (ended_on_after, entries_on_after)
