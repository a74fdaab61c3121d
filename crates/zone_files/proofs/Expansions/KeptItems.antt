-- Where some of very many items are left out, the same becomes of an entry.
use Rattle.std.proofs.Common.{ℕ, ◌≤◌, List, [], ◌∷◌, ◌++◌, Option, Some, None, Bool, true, false, if◌then◌else◌, bytes_eq, codes, ◌==◌, length, length-append, Ok, Err, refl, sym, ap, subst, ◌∙◌, ◌≡◌, arith, inl, inr}
use Rattle.zone_name.specs.Common.{Labels, NothingIs}
use Rattle.zone_name.specs.Name.{folded_label}
use Rattle.zone_rdata.specs.Spelling.{RawItem, bare, quoted}
use Rattle.zone_text.specs.Kept.{AreKept}
use Rattle.zone_text.specs.Statements.{Statement, directive, statement_by, unknown}
use Rattle.zone_text.specs.Tokens.{is_blank}
use Rattle.zone_words.specs.Inherited.{IsOneOrNone}
use Rattle.zone_words.specs.Origin.{NamesOrigin}
use Rattle.zone_generate.proofs.EntryItems.{many_items}
use Rattle.zone_generate.specs.Entry.{Generation, generation_in}
use Rattle.zone_generate.specs.declared.failing.GenerateFault.{GenerateFault}
use Rattle.zone_generate.specs.declared.failing.GenerateFault.TheVariants.{BadGenerate}
use Rattle.zone_files.specs.Expansion.{BecomesBy, DirectiveBecomes, Generates, Holds, Includes, IsTakenOut, Outcome, StatementBecomes, StatesInclude, TakenOutOr, bad_include, bad_name, fails, generate_fault, has_lines, is_next, is_opened, lines_if, lines_of, no_lines, says_generate, too_many, values_or_one}

-- ---- a fault may be in as many lines

lines_alike : (test : Bool) (a : RawItem) (x y : List RawItem) → 7 ≤ length x → 7 ≤ length y → lines_if test (a ∷ x) ≡ lines_if test (a ∷ y)
lines_alike true a x y many more = ap values_or_one (many_items x many ∙ sym (many_items y more))
lines_alike false a x y many more = refl

lines_word : (a : RawItem) (x y : List RawItem) → 7 ≤ length x → 7 ≤ length y → lines_if (says_generate (a ∷ x)) (a ∷ x) ≡ lines_if (says_generate (a ∷ y)) (a ∷ y)
lines_word (bare word) x y many more = lines_alike (bytes_eq (folded_label word) (codes "$generate")) (bare word) x y many more
lines_word (quoted text) x y many more = refl

-- ---- the same becomes of an entry

module _ (h : Holds) (entry : List ℕ) (outcome : Outcome) where
  if_both : (Alike : Statement → Statement → Type 0) (test : Bool) (a b c d : Statement) → Alike a c → Alike b d → Alike (if test then a else b) (if test then c else d)
  if_both Alike true a b c d p q = p
  if_both Alike false a b c d p q = q

  origin_alike : (above : Labels) (a b : RawItem) (x y : List RawItem) (named : Option Labels) → IsOneOrNone (NamesOrigin above (a ∷ b ∷ x)) named → IsOneOrNone (NamesOrigin above (a ∷ b ∷ y)) named
  origin_alike above (bare t) b x y None p = λ name is. is
  origin_alike above (bare t) b x y (Some name) p = absurd p
  origin_alike above (quoted t) b x y None p = λ name is. is
  origin_alike above (quoted t) b x y (Some name) p = absurd p

  three_items : (above : Labels) (a b c : RawItem) (x : List RawItem) → NothingIs (StatesInclude above (a ∷ b ∷ c ∷ x))
  three_items above a (bare t) c x it s = s.1
  three_items above a (quoted t) c x it s = s.1

  include_alike : (a b c : RawItem) (x y : List RawItem) → Includes h (a ∷ b ∷ c ∷ x) outcome → Includes h (a ∷ b ∷ c ∷ y) outcome
  include_alike a b c x y (bad_include lacks e) = bad_include (three_items h.origin a b c y) e
  include_alike a b c x y (bad_name it s n e) = absurd (three_items h.origin a b c x it s)
  include_alike a b c x y (too_many it name s n m e) = absurd (three_items h.origin a b c x it s)
  include_alike a b c x y (is_opened it name s n m e) = absurd (three_items h.origin a b c x it s)

  generates_alike : (x y : List RawItem) → 7 ≤ length x → 7 ≤ length y → Generates h x outcome → Generates h y outcome
  generates_alike x y many more (no_lines fault e p) =
      let one : fault ≡ BadGenerate = cc (e, many_items x many) in
      no_lines BadGenerate (many_items y more) (p ∙ ap (λ f. fails (generate_fault f)) one)
  generates_alike x y many more (has_lines g lines fault named e are is p) = absurd (let no : Ok g ≡ Err BadGenerate = sym e ∙ many_items x many in cc)

  unknown_alike : (test : Bool) (a : RawItem) (x y : List RawItem) → 7 ≤ length x → 7 ≤ length y → DirectiveBecomes test h entry (a ∷ x) outcome → DirectiveBecomes test h entry (a ∷ y) outcome
  unknown_alike true a x y many more p = generates_alike x y many more p
  unknown_alike false a x y many more p = p

  word_alike : (a : RawItem) (x y : List RawItem) → 7 ≤ length x → 7 ≤ length y → DirectiveBecomes (says_generate (a ∷ x)) h entry (a ∷ x) outcome → DirectiveBecomes (says_generate (a ∷ y)) h entry (a ∷ y) outcome
  word_alike (bare word) x y many more p = unknown_alike (bytes_eq (folded_label word) (codes "$generate")) (bare word) x y many more p
  word_alike (quoted text) x y many more p = p

  module _ (a b c d : RawItem) (x y : List RawItem) (many : 4 ≤ length x) (more : 4 ≤ length y) where
    other_alike : DirectiveBecomes (says_generate (a ∷ b ∷ c ∷ d ∷ x)) h entry (a ∷ b ∷ c ∷ d ∷ x) outcome → DirectiveBecomes (says_generate (a ∷ b ∷ c ∷ d ∷ y)) h entry (a ∷ b ∷ c ∷ d ∷ y) outcome
    other_alike p = word_alike a (b ∷ c ∷ d ∷ x) (b ∷ c ∷ d ∷ y) (omega (arith, many)) (omega (arith, more)) p

    -- the same becomes of an entry, whether it is taken out or not
    pub record Alike (s t : Statement) : Type 0 where
      pub lines : lines_of s (a ∷ b ∷ c ∷ d ∷ x) ≡ lines_of t (a ∷ b ∷ c ∷ d ∷ y)
      pub out : IsTakenOut h entry s outcome → IsTakenOut h entry t outcome
      pub judged : StatementBecomes h entry (a ∷ b ∷ c ∷ d ∷ x) s outcome → StatementBecomes h entry (a ∷ b ∷ c ∷ d ∷ y) t outcome

    unknown_too : Alike unknown unknown
    unknown_too = record {
      lines = lines_word a (b ∷ c ∷ d ∷ x) (b ∷ c ∷ d ∷ y) (omega (arith, many)) (omega (arith, more));
      out = λ p. p;
      judged = other_alike;
    }

    directive_alike : (word : RawItem) → Alike (directive word (b ∷ c ∷ d ∷ x)) (directive word (b ∷ c ∷ d ∷ y))
    directive_alike (quoted text) = unknown_too
    directive_alike (bare text) =
        if_both Alike (bytes_eq (folded_label text) (codes "$origin")) _ _ _ _ (record { lines = refl; out = λ p. p; judged = λ p. (p.0, origin_alike h.origin b c (d ∷ x) (d ∷ y) p.0 p.1, p.2) })
        (if_both Alike (bytes_eq (folded_label text) (codes "$ttl")) _ _ _ _ (record { lines = refl; out = λ p. p; judged = λ p. p })
        (if_both Alike (bytes_eq (folded_label text) (codes "$include")) _ _ _ _ (record { lines = refl; out = λ p. p; judged = include_alike b c d x y }) unknown_too))

    statement_alike : (first : Option ℕ) → Alike (statement_by first (a ∷ b ∷ c ∷ d ∷ x)) (statement_by first (a ∷ b ∷ c ∷ d ∷ y))
    statement_alike None = record { lines = refl; out = λ p. p; judged = λ p. p }
    statement_alike (Some o) =
        if_both Alike (o == 36) _ _ _ _ (directive_alike a)
        (if_both Alike (is_blank o) _ _ _ _ (record { lines = refl; out = λ p. p; judged = λ p. p }) (record { lines = refl; out = λ p. p; judged = λ p. p }))

    by_test : (test : Bool) (s t : Statement) → Alike s t → TakenOutOr test h entry (a ∷ b ∷ c ∷ d ∷ x) s outcome → TakenOutOr test h entry (a ∷ b ∷ c ∷ d ∷ y) t outcome
    by_test true s t alike p = alike.out p
    by_test false s t alike p = alike.judged p

    becomes_alike : (s t : Statement) → Alike s t → BecomesBy h entry (a ∷ b ∷ c ∷ d ∷ x) s outcome → BecomesBy h entry (a ∷ b ∷ c ∷ d ∷ y) t outcome
    becomes_alike s t alike p =
        by_test (is_next h.taken_out h.line (lines_of t (a ∷ b ∷ c ∷ d ∷ y))) s t alike
        (subst (λ n. TakenOutOr (is_next h.taken_out h.line n) h entry (a ∷ b ∷ c ∷ d ∷ x) s outcome) alike.lines p)

  abbrev pub Becomes : Option ℕ → List RawItem → Type 0
  Becomes first items = BecomesBy h entry items (statement_by first items) outcome

  shortened_becomes : (first : Option ℕ) (front more others : List RawItem) → 8 ≤ length front → Becomes first (front ++ others) → Becomes first (front ++ more)
  shortened_becomes first [] more others long p = absurd (omega (arith, long))
  shortened_becomes first (a ∷ []) more others long p = absurd (omega (arith, long))
  shortened_becomes first (a ∷ b ∷ []) more others long p = absurd (omega (arith, long))
  shortened_becomes first (a ∷ b ∷ c ∷ []) more others long p = absurd (omega (arith, long))
  shortened_becomes first (a ∷ b ∷ c ∷ d ∷ front) more others long p =
      let few : 4 ≤ length (front ++ others) = omega (arith, long, length-append front others) in
      let some : 4 ≤ length (front ++ more) = omega (arith, long, length-append front more) in
      becomes_alike a b c d (front ++ others) (front ++ more) few some
      (statement_by first (a ∷ b ∷ c ∷ d ∷ (front ++ others))) (statement_by first (a ∷ b ∷ c ∷ d ∷ (front ++ more)))
      (statement_alike a b c d (front ++ others) (front ++ more) few some first) p

  pub kept_becomes : (first : Option ℕ) (all kept : List RawItem) → AreKept all kept → Becomes first kept → Becomes first all
  kept_becomes first all kept (inl same) p = subst (Becomes first) same p
  kept_becomes first all kept (inr short) p =
      subst (Becomes first) (sym short.whole)
      (shortened_becomes first short.first short.more short.others (omega (arith, short.many)) (subst (Becomes first) short.are_kept p))
