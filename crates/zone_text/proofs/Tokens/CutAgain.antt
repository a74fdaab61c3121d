-- The entries that line feeds have ended, cut out of their tokens again, whatever follows them.
use Rattle.zone_text.proofs.Common.{AllByRecursion, EndInLineFeed, Entry, List, Some, Token, [], and_last, ap, arith, closing, common_steps, count_by, cut_from, depth_after, flat_map, in_front, in_front_of, length, line_feed, numbered, opening, refl, rules, suc, text, zero, ℕ, ◌++◌, ◌+◌, ◌<◌, ◌==◌, ◌∷◌, ◌≡◌}

abbrev pub joined : List (List Token) → List Token
joined entries = flat_map (λ (e : List Token). e) entries

-- ---- the ended entries and the open tokens are all tokens

pub cut_whole : (depth : ℕ) (tokens : List Token) → joined (cut_from depth tokens).ended ++ (cut_from depth tokens).open_tokens ≡ tokens
cut_whole depth [] = refl
cut_whole zero (line_feed ∷ tokens) = ap (λ t. line_feed ∷ t) (cut_whole zero tokens)
cut_whole depth (opening ∷ tokens) = search (rules, cut_whole (suc depth) tokens)
cut_whole (suc depth) (closing ∷ tokens) = search (rules, cut_whole depth tokens)
cut_whole depth (p ∷ tokens) = search (rules, cut_whole depth tokens)

-- ---- ended entries: cut again with more after them they are the first, they end in a line feed,
-- at depth zero

abbrev EachSome : List (List Token) → Type 0
EachSome ended = AllByRecursion (λ entry. 0 < length entry) ended

-- entries, the first of them from a depth on, that stay the same whatever follows them
pub record AreEnded (depth : ℕ) (ended : List (List Token)) : Type 0 where
  pub each : EachSome ended
  pub ends : EndInLineFeed (joined ended)
  pub again : (entry : List Token) (others : List (List Token)) (more : List Token) → ended ≡ entry ∷ others → cut_from depth (joined ended ++ more) ≡ record { ended = ended ++ (cut_from zero more).ended; open_tokens = (cut_from zero more).open_tokens }

end_after : (p : Token) (entry : List Token) (rest : List Token) → 0 < length entry → EndInLineFeed (entry ++ rest) → EndInLineFeed (p ∷ entry ++ rest)
end_after p [] rest some ends = absurd (omega arith)
end_after p (q ∷ entry) rest some ends = grind arith

front_ended : (depth next : ℕ) (p : Token) (ended : List (List Token)) (others : List Token) → ((tokens : List Token) → cut_from depth (p ∷ tokens) ≡ in_front_of p (cut_from next tokens)) → AreEnded next ended → AreEnded depth (in_front p ended others).ended
front_ended depth next p ended others step are = grind (arith, end_after)

pub again_zero : (ended : List (List Token)) (more : List Token) → AreEnded zero ended → cut_from zero (joined ended ++ more) ≡ record { ended = ended ++ (cut_from zero more).ended; open_tokens = (cut_from zero more).open_tokens }
again_zero [] more are = refl
again_zero (entry ∷ ended) more are = are.again entry ended more refl

pub cut_ended : (depth : ℕ) (tokens : List Token) → AreEnded depth (cut_from depth tokens).ended
cut_ended depth [] = record { each = tt; ends = tt; again = λ entry rest more e. absurd cc }
cut_ended zero (line_feed ∷ tokens) = search (rules, again_zero, cut_ended zero tokens)
cut_ended depth (opening ∷ tokens) = front_ended depth (suc depth) opening (cut_from (suc depth) tokens).ended _ (λ ps. refl) (cut_ended (suc depth) tokens)
cut_ended (suc depth) (closing ∷ tokens) = search (rules, front_ended, cut_ended depth tokens)
cut_ended depth (p ∷ tokens) = front_ended depth depth p (cut_from depth tokens).ended _ (λ ps. refl) (cut_ended depth tokens)

-- the ended entries of tokens are the first where others follow them
pub cut_again : (tokens more : List Token) → cut_from zero (joined (cut_from zero tokens).ended ++ more) ≡ record { ended = (cut_from zero tokens).ended ++ (cut_from zero more).ended; open_tokens = (cut_from zero more).open_tokens }
cut_again tokens more = again_zero (cut_from zero tokens).ended more (cut_ended zero tokens)

-- ---- their depth

depth_zero : (ended : List (List Token)) → ((entry : List Token) (rest : List (List Token)) → ended ≡ entry ∷ rest → depth_after zero (joined ended) ≡ Some zero) → depth_after zero (joined ended) ≡ Some zero
depth_zero [] are = refl
depth_zero (entry ∷ ended) are = are entry ended refl

ended_depth : (depth last : ℕ) (tokens : List Token) → depth_after depth tokens ≡ Some last → (entry : List Token) (rest : List (List Token)) → (cut_from depth tokens).ended ≡ entry ∷ rest → depth_after depth (joined (cut_from depth tokens).ended) ≡ Some zero
ended_depth depth last [] d entry rest e = absurd cc
ended_depth zero last (line_feed ∷ tokens) d entry rest e = depth_zero (cut_from zero tokens).ended (ended_depth zero last tokens d)
ended_depth depth last (opening ∷ tokens) d entry rest e = search (rules, ended_depth (suc depth) last tokens d)
ended_depth zero last (closing ∷ tokens) d entry rest e = absurd cc
ended_depth (suc depth) last (closing ∷ tokens) d entry rest e = search (rules, ended_depth depth last tokens d)
ended_depth depth last (p ∷ tokens) d entry rest e = search (rules, ended_depth depth last tokens d)

pub ended_at_zero : (last : ℕ) (tokens : List Token) → depth_after zero tokens ≡ Some last → depth_after zero (joined (cut_from zero tokens).ended) ≡ Some zero
ended_at_zero last tokens d = search (rules, depth_zero, ended_depth)

-- ---- their lines

pub and_last_after : (ended more : List (List Token)) (others : List Token) → and_last (ended ++ more) others ≡ ended ++ and_last more others
and_last_after ended more others = grind (arith, common_steps)

-- entries with others after them have the lines that they have by themselves
pub numbered_front : (line : ℕ) (ended more : List (List Token)) → (others : List Entry) × (numbered line (ended ++ more) ≡ numbered line ended ++ others)
numbered_front line [] more = (numbered line more, refl)
numbered_front line (entry ∷ ended) more = search (rules, numbered_front (line + count_by (λ c. c == 10) (text entry)) ended more)
