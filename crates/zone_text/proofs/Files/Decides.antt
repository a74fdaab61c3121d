-- A file states one list of records at most, and has one reading at most; the two agree. What is
-- decided of a prefix stays, whatever octets follow it.
use Rattle.zone_text.proofs.Common.{AreTokens, Cuts, Ending, Entry, FileDecides, FileReads, List, Lower, None, Placed, ReadEach, Stays, Token, [], and_last, ap, append-nil, append_assoc, broken, cut_from, decided, ended_entries, entries_of, inl, inr, refused, rules, stated, states_none, states_one, sym, text, undecided, whole, zero, ℕ, ◌++◌, ◌∙◌, ◌∷◌, ◌≡◌, arith, Breaks, Fault, EntriesState, FileStates, Line, Some, open_line, refl, subst}
use Rattle.zone_text.proofs.Tokens.Cuttings.{one_cut, one_break, cut_not_broken, cut_or_broken}
use Rattle.zone_text.proofs.Tokens.Lasting.{cut_joined, break_joined, cut_parted, break_parted, breaks_for_good}
use Rattle.zone_text.proofs.Tokens.CutAgain.{joined, cut_whole, cut_ended, cut_again, ended_at_zero, and_last_after, numbered_front}
use Rattle.zone_text.proofs.Entries.Entered.{record_once, fault_once, record_or_fault, nothing_or_record, nothing_or_fault}

-- the readings of entries

pub reads_once : Lower → (origin : List (List ℕ)) (after : Ending) (before entries : List Entry) (a b : List Placed) (e f : Ending) → ReadEach origin after before entries a e → ReadEach origin after before entries b f → (a ≡ b) × (e ≡ f)
reads_once lower origin after before [] a b e f x y = (x.0 ∙ sym y.0, x.1 ∙ sym y.1)
reads_once lower origin after before (entry ∷ entries) a b e f (stated (states_none n xs)) y = grind (arith, reads_once lower origin after (entry ∷ before) entries a b e f xs, nothing_or_record origin before entry, nothing_or_fault lower origin before entry)
reads_once lower origin after before (entry ∷ entries) a b e f (stated (states_one p more r at w xs)) (stated (states_none m ys)) = absurd (nothing_or_record origin before entry p.rr m r)
reads_once lower origin after before (entry ∷ entries) a b e f (stated (states_one p more r at w xs)) (stated (states_one q others s place v ys)) = grind (arith, reads_once lower origin after (entry ∷ before) entries more others e f xs ys, record_once lower origin before entry p.rr q.rr r s)
reads_once lower origin after before (entry ∷ entries) a b e f (stated (states_one p more r at w xs)) (refused fault h u v) = absurd (record_or_fault lower origin before entry p.rr fault r h)
reads_once lower origin after before (entry ∷ entries) a b e f (refused fault h u v) (stated (states_none m ys)) = absurd (nothing_or_fault lower origin before entry fault m h)
reads_once lower origin after before (entry ∷ entries) a b e f (refused fault h u v) (stated (states_one q others s place w ys)) = absurd (record_or_fault lower origin before entry q.rr fault s h)
reads_once lower origin after before (entry ∷ entries) a b e f (refused fault h u v) (refused other k s t) = grind (arith, fault_once lower origin before entry fault other h k)

pub broken_once : Lower → (origin : List (List ℕ)) (octets : List ℕ) (tokens all : List Token) (fault other : Fault) (a b : List Placed) (e f : Ending) → Breaks octets tokens fault → Breaks octets all other → ReadEach origin (Some (fault, Line (open_line tokens))) [] (ended_entries tokens) a e → ReadEach origin (Some (other, Line (open_line all))) [] (ended_entries all) b f → (a ≡ b) × (e ≡ f)
broken_once lower origin octets tokens all fault other a b e f x y xs ys = grind (arith, one_break octets tokens all fault other x y, one_break, reads_once)

pub file_reads_once : Lower → (origin : List (List ℕ)) (octets : List ℕ) (a b : List Placed) (e f : Ending) → FileReads origin octets a e → FileReads origin octets b f → (a ≡ b) × (e ≡ f)
file_reads_once lower origin octets a b e f (whole ps cut xs) (whole qs other ys) =
    reads_once lower origin None [] (entries_of qs) a b e f (subst (λ p. ReadEach origin None [] (entries_of p) a e) (one_cut octets ps qs cut other) xs) ys
file_reads_once lower origin octets a b e f (whole ps cut xs) (broken qs fault breaks ys) = absurd (cut_not_broken octets ps qs fault cut breaks)
file_reads_once lower origin octets a b e f (broken ps fault breaks xs) (whole qs cut ys) = absurd (cut_not_broken octets qs ps fault cut breaks)
file_reads_once lower origin octets a b e f (broken ps fault breaks xs) (broken qs other more ys) =
    broken_once lower origin octets ps qs fault other a b e f breaks more xs ys

-- what is stated is read with no fault, and the other way

pub states_read : (origin : List (List ℕ)) (before entries : List Entry) (placed : List Placed) → EntriesState origin before entries placed → ReadEach origin None before entries placed None
states_read origin before [] placed x = (x, refl)
states_read origin before (entry ∷ entries) placed (states_none n xs) = stated (states_none n (states_read origin (entry ∷ before) entries placed xs))
states_read origin before (entry ∷ entries) placed (states_one p more r at e xs) = stated (states_one p more r at e (states_read origin (entry ∷ before) entries more xs))

pub read_states : (origin : List (List ℕ)) (after : Ending) (before entries : List Entry) (placed : List Placed) (ending : Ending) → ending ≡ None → ReadEach origin after before entries placed ending → EntriesState origin before entries placed × (after ≡ None)
read_states origin after before [] placed ending e x = (x.0, sym x.1 ∙ e)
read_states origin after before (entry ∷ entries) placed ending e (stated (states_none n xs)) = grind (arith, read_states origin after (entry ∷ before) entries placed ending e xs)
read_states origin after before (entry ∷ entries) placed ending e (stated (states_one p more r at w xs)) = search (rules, read_states origin after (entry ∷ before) entries more ending e xs, states_one)
read_states origin after before (entry ∷ entries) placed ending e (refused fault h u v) = absurd cc

pub file_states_read : (origin : List (List ℕ)) (octets : List ℕ) (placed : List Placed) → FileStates origin octets placed → FileReads origin octets placed None
file_states_read origin octets placed x = whole x.tokens x.cut (states_read origin [] (entries_of x.tokens) placed x.each)

pub file_reads_state : (origin : List (List ℕ)) (octets : List ℕ) (placed : List Placed) → FileReads origin octets placed None → FileStates origin octets placed
file_reads_state origin octets placed given = grind (arith, read_states)

-- ---- the readings of entries and of the same with others after them

pub reads_on : Lower → (origin : List (List ℕ)) (after : Ending) (before entries others : List Entry) (a b : List Placed) (e f : Ending) → ReadEach origin None before entries a e → ReadEach origin after before (entries ++ others) b f → Stays a e b f
reads_on lower origin after before [] others a b e f x y = record {
  others = b;
  first = ap (λ t. t ++ b) (sym x.0);
  fault = λ found is. let end = x.1 in absurd cc;
}
reads_on lower origin after before (entry ∷ entries) others a b e f (stated (states_none n xs)) y = grind (arith, reads_on lower origin after (entry ∷ before) entries others a b e f xs, nothing_or_record origin before entry, nothing_or_fault lower origin before entry)
reads_on lower origin after before (entry ∷ entries) others a b e f (stated (states_one p more r at w xs)) (stated (states_none m ys)) = absurd (nothing_or_record origin before entry p.rr m r)
reads_on lower origin after before (entry ∷ entries) others a b e f (stated (states_one p more r at w xs)) (stated (states_one q left s place v ys)) = grind (arith, reads_on lower origin after (entry ∷ before) entries others more left e f xs ys, record_once lower origin before entry p.rr q.rr r s)
reads_on lower origin after before (entry ∷ entries) others a b e f (stated (states_one p more r at w xs)) (refused fault h u v) = absurd (record_or_fault lower origin before entry p.rr fault r h)
reads_on lower origin after before (entry ∷ entries) others a b e f (refused fault h u v) (stated (states_none m ys)) = absurd (nothing_or_fault lower origin before entry fault m h)
reads_on lower origin after before (entry ∷ entries) others a b e f (refused fault h u v) (stated (states_one q more s place w ys)) = absurd (record_or_fault lower origin before entry q.rr fault s h)
reads_on lower origin after before (entry ∷ entries) others a b e f (refused fault h u v) (refused other k s t) = grind (arith, append-nil a, fault_once lower origin before entry fault other h k)

-- ---- the tokens of a prefix and of a text that goes on

-- the ended entries of a prefix stand by themselves before what is left of it
pub record IsParted (octets : List ℕ) (tokens : List Token) : Type 0 where
  pub rest : List ℕ
  pub parted : octets ≡ text (joined (cut_from zero tokens).ended) ++ rest
  pub front : Cuts (text (joined (cut_from zero tokens).ended)) (joined (cut_from zero tokens).ended)

pub parted : (octets : List ℕ) (tokens : List Token) → AreTokens octets tokens → IsParted octets tokens
parted octets tokens (inl cut) =
    let found = cut_parted octets (joined (cut_from zero tokens).ended) (cut_from zero tokens).open_tokens (ended_at_zero zero tokens cut.balanced) (rw (cut_whole) cut) in
    record { rest = found.0; parted = found.1; front = found.2 }
parted octets tokens (inr (fault, breaks)) =
    let found = break_parted octets (joined (cut_from zero tokens).ended) (cut_from zero tokens).open_tokens fault (ended_at_zero breaks.depth tokens breaks.parentheses) (rw (cut_whole) breaks) in
    record { rest = found.0; parted = found.1; front = found.2 }

-- the tokens of a text that goes on are those of the ended entries of its beginning, and others
abbrev pub GoesOn : List Token → List Token → Type 0
GoesOn tokens all = (others : List Token) × (all ≡ joined (cut_from zero tokens).ended ++ others)

pub tokens_of : (octets : List ℕ) (all other : List Token) → AreTokens octets all → AreTokens octets other → all ≡ other
tokens_of octets all other (inl x) (inl y) = one_cut octets all other x y
tokens_of octets all other (inl x) (inr (fault, y)) = search (rules, cut_not_broken)
tokens_of octets all other (inr (fault, x)) (inl y) = search (rules, cut_not_broken)
tokens_of octets all other (inr (fault, x)) (inr (another, y)) = (one_break octets all other fault another x y).0

pub goes_on : (octets more : List ℕ) (tokens all : List Token) → AreTokens octets tokens → AreTokens (octets ++ more) all → GoesOn tokens all
goes_on octets more tokens all x y =
    let front = parted octets tokens x in
    let ended : List Token = joined (cut_from zero tokens).ended in
    let after : (others : List Token) × AreTokens (text ended ++ (front.rest ++ more)) (ended ++ others) = grind (arith, cut_or_broken (front.rest ++ more), cut_joined (text ended) (front.rest ++ more), break_joined (text ended) (front.rest ++ more), (cut_ended zero tokens).ends, front.front) in
    let split : octets ++ more ≡ text (joined (cut_from zero tokens).ended) ++ (front.rest ++ more) = ap (λ t. t ++ more) front.parted ∙ append_assoc (text (joined (cut_from zero tokens).ended)) front.rest more in
    (after.0, tokens_of (octets ++ more) all (joined (cut_from zero tokens).ended ++ after.0) y (rw split (after.1)))

-- so its entries are the ended ones of the beginning, and others
pub ended_on : (tokens all : List Token) → GoesOn tokens all → (others : List Entry) × (ended_entries all ≡ ended_entries tokens ++ others)
ended_on tokens all (others, e) =
    let more = numbered_front 1 (cut_from zero tokens).ended (cut_from zero others).ended in
    (more.0, rw (e, cut_again) (more.1))

pub entries_on : (tokens all : List Token) → GoesOn tokens all → (others : List Entry) × (entries_of all ≡ ended_entries tokens ++ others)
entries_on tokens all (others, e) =
    let more = numbered_front 1 (cut_from zero tokens).ended (and_last (cut_from zero others).ended (cut_from zero others).open_tokens) in
    (more.0, rw (e, cut_again, and_last_after) (more.1))

-- ---- a prefix and a text that goes on

-- the same reading stays
same_stays : (a b : List Placed) (e f : Ending) → (a ≡ b) × (e ≡ f) → Stays a e b f
same_stays a b e f same = search rules

module _ (lower : Lower) (origin : List (List ℕ)) (octets : List ℕ) where
  -- nothing was decided but of the ended entries, and others follow them
  stays_by : (after : Ending) (tokens : List Token) (entries : List Entry) (a b : List Placed) (e f : Ending) → ((others : List Entry) × (entries ≡ ended_entries tokens ++ others)) → ReadEach origin None [] (ended_entries tokens) a e → ReadEach origin after [] entries b f → Stays a e b f
  stays_by after tokens entries a b e f on xs ys = reads_on lower origin after [] (ended_entries tokens) on.0 a b e f xs (rw (← on.1) ys)

  pub decided_stays : (more : List ℕ) (a b : List Placed) (e f : Ending) → FileDecides origin octets a e → FileDecides origin (octets ++ more) b f → Stays a e b f
  decided_stays more a b e f (undecided ps are absent xs) (undecided qs others none ys) = stays_by None ps (ended_entries qs) a b e f (ended_on ps qs (goes_on octets more ps qs are others)) xs ys
  decided_stays more a b e f (undecided ps are absent xs) (decided qs fault good ys) = stays_by _ ps (ended_entries qs) a b e f (ended_on ps qs (goes_on octets more ps qs are (inr (fault, good.breaks)))) xs ys
  decided_stays more a b e f (decided ps fault good xs) (undecided qs others none ys) =
      let still = breaks_for_good octets more ps fault good in
      absurd (none fault (rw (← tokens_of (octets ++ more) ps qs (inr (fault, still.breaks)) others) still))
  decided_stays more a b e f (decided ps fault good xs) (decided qs other better ys) = same_stays a b e f (broken_once lower origin (octets ++ more) ps qs fault other a b e f (breaks_for_good octets more ps fault good).breaks better.breaks xs ys)

  pub decided_stays_at_end : (more : List ℕ) (a b : List Placed) (e f : Ending) → FileDecides origin octets a e → FileReads origin (octets ++ more) b f → Stays a e b f
  decided_stays_at_end more a b e f (undecided ps are absent xs) (whole qs cut ys) = stays_by None ps (entries_of qs) a b e f (entries_on ps qs (goes_on octets more ps qs are (inl cut))) xs ys
  decided_stays_at_end more a b e f (undecided ps are absent xs) (broken qs fault breaks ys) = stays_by _ ps (ended_entries qs) a b e f (ended_on ps qs (goes_on octets more ps qs are (inr (fault, breaks)))) xs ys
  decided_stays_at_end more a b e f (decided ps fault good xs) (whole qs cut ys) = grind (arith, cut_not_broken (octets ++ more) qs ps fault cut (breaks_for_good octets more ps fault good).breaks)
  decided_stays_at_end more a b e f (decided ps fault good xs) (broken qs other breaks ys) = same_stays a b e f (broken_once lower origin (octets ++ more) ps qs fault other a b e f (breaks_for_good octets more ps fault good).breaks breaks xs ys)
