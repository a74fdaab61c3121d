-- The lines of a text are one list, and so is what is shown for lines of records that state their
-- class.
use Rattle.zone_text.proofs.Common.{AllByRecursion, List, [], ap, append-nil, append_assoc, refl, subst, sym, ℕ, ◌++◌, ◌∙◌, ◌∷◌, ◌≡◌}
use Rattle.zone_print.specs.Laws.{EndsWithItsFeed, HasNoFeed}
use Rattle.type_data.specs.Data.{joined}
use Rattle.zone_words.specs.Entry.{IsRewriting}
use Rattle.words_print.proofs.Joined.{EachRewritten, joined_rewriting}
use Rattle.words_print.specs.Shown.{AreShown, EachIsShown, IsRecordInWords, IsRecordLine, IsShownLine, IsShownText, StatesItsClass, ended, gets_words, no_data, no_words, of_another, too_many_items, unended}

-- octets up to their first line feed, and what follows it
record SameCut (f g a b : List ℕ) : Type 0 where
  pub front : f ≡ g
  pub back : a ≡ b

first_feed : (f g a b : List ℕ) → HasNoFeed f → HasNoFeed g → f ++ 10 ∷ a ≡ g ++ 10 ∷ b → SameCut f g a b
first_feed [] [] a b p q same = record { front = refl; back = cc same }
first_feed [] (y ∷ g) a b p q same = absurd (q.0 (sym (cc same)))
first_feed (x ∷ f) [] a b p q same = absurd (p.0 (cc same))
first_feed (x ∷ f) (y ∷ g) a b p q same =
    let head : x ≡ y = cc same in
    let more = first_feed f g a b p.1 q.1 (cc same) in
    record { front = cc (head, more.front); back = more.back }

with_feed : (line front a : List ℕ) → line ≡ front ++ 10 ∷ [] → line ++ a ≡ front ++ 10 ∷ a
with_feed line front a split = ap (λ t. t ++ a) split ∙ append_assoc front (10 ∷ []) a

-- octets without a line feed aren't lines
no_lines : (last front a : List ℕ) → HasNoFeed last → last ≡ front ++ 10 ∷ a → ⊥
no_lines [] [] a none same = absurd cc
no_lines [] (y ∷ front) a none same = absurd cc
no_lines (x ∷ last) [] a none same = none.0 (cc same)
no_lines (x ∷ last) (y ∷ front) a none same = no_lines last front a none.1 (cc same)

record SameLines (a b : List (List ℕ)) (last : List ℕ) : Type 0 where
  pub lines : a ≡ b
  pub none : last ≡ []

one_cut_of_lines : (a b : List (List ℕ)) (last : List ℕ) → AllByRecursion EndsWithItsFeed a → AllByRecursion EndsWithItsFeed b → HasNoFeed last → joined a ≡ joined b ++ last → SameLines a b last
one_cut_of_lines [] [] last p q none same = record { lines = refl; none = sym same }
one_cut_of_lines [] (m ∷ b) last p q none same = absurd (no_lines [] q.0.front (joined b ++ last) tt (same ∙ append_assoc m (joined b) last ∙ with_feed m q.0.front (joined b ++ last) q.0.split))
one_cut_of_lines (l ∷ a) [] last p q none same = absurd (no_lines last p.0.front (joined a) none (sym same ∙ with_feed l p.0.front (joined a) p.0.split))
one_cut_of_lines (l ∷ a) (m ∷ b) last p q none same =
    let both = first_feed p.0.front q.0.front (joined a) (joined b ++ last) p.0.others q.0.others (sym (with_feed l p.0.front (joined a) p.0.split) ∙ same ∙ append_assoc m (joined b) last ∙ with_feed m q.0.front (joined b ++ last) q.0.split) in
    let more = one_cut_of_lines a b last p.1 q.1 none both.back in
    let line : l ≡ m = p.0.split ∙ ap (λ t. t ++ 10 ∷ []) both.front ∙ sym q.0.split in
    record { lines = cc (line, more.lines); none = more.none }

-- ---- lines of records

line_stays : (line shown : List ℕ) → IsRecordLine line → shown ≡ line → StatesItsClass shown × IsRewriting [] shown line []
line_stays line shown is same = (subst StatesItsClass (sym same) is.states, subst (λ t. IsRewriting [] t line []) (sym same) is.own)

line_rewritten : (line shown : List ℕ) → IsRecordLine line → IsShownLine line shown → StatesItsClass shown × IsRewriting [] shown line []
line_rewritten line shown is (gets_words front further octets end items d printed fits same) =
    let record_is : IsRecordInWords line shown = subst (IsRecordInWords line) (sym same) (fits is.states) in
    (record_is.states, record_is.under_root)
line_rewritten line shown is (no_data none same) = line_stays line shown is same
line_rewritten line shown is (no_words front further octets end d none same) = line_stays line shown is same
line_rewritten line shown is (of_another front further octets end items d printed states other same) = line_stays line shown is same
line_rewritten line shown is (too_many_items many same) = line_stays line shown is same

each_rewritten : (lines shown : List (List ℕ)) → AllByRecursion IsRecordLine lines → EachIsShown lines shown → EachRewritten shown lines
each_rewritten [] [] are each = tt
each_rewritten [] (s ∷ shown) are each = absurd each
each_rewritten (line ∷ lines) [] are each = absurd each
each_rewritten (line ∷ lines) (s ∷ shown) are each = (line_rewritten line s are.0 each.0, each_rewritten lines shown are.1 each.1)

all_end : (lines : List (List ℕ)) → AllByRecursion IsRecordLine lines → AllByRecursion EndsWithItsFeed lines
all_end [] are = tt
all_end (line ∷ lines) are = (are.0.ends, all_end lines are.1)

shown_lines : (lines : List (List ℕ)) (octets shown last : List ℕ) → AllByRecursion IsRecordLine lines → (are : AreShown octets shown) → HasNoFeed last → joined lines ≡ octets ++ last → (IsRewriting [] shown (joined lines) []) × (last ≡ [])
shown_lines lines octets shown last records are none same =
    let one = one_cut_of_lines lines are.lines last (all_end lines records) are.ends none (same ∙ ap (λ t. t ++ last) are.whole) in
    let each : EachIsShown lines are.others = subst (λ l. EachIsShown l are.others) (sym one.lines) are.each in
    (subst (λ t. IsRewriting [] t (joined lines) []) (sym are.shown_is) (joined_rewriting are.others lines (each_rewritten lines are.others records each)), one.none)

pub shown_text : (lines : List (List ℕ)) (shown : List ℕ) → AllByRecursion IsRecordLine lines → IsShownText (joined lines) shown → IsRewriting [] shown (joined lines) []
shown_text lines shown records (ended are) = (shown_lines lines (joined lines) shown [] records are tt (sym (append-nil (joined lines)))).0
shown_text lines shown records (unended done last front back parted shown_is are none some line) =
    absurd (some (shown_lines lines done front last records are none parted).1)
