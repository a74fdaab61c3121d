-- A record's line is one entry that states the record, so lines of records are read back.
use Rattle.zone_print.proofs.Common.{◌≡◌, ◌↔◌, ℕ, zero, ◌+◌, ◌^◌, ◌<◌, ◌≤◌, List, [], ◌∷◌, ◌++◌, length, ◌==◌, cond, Option, Some, refl, sym, ap, ◌∙◌, subst, decimal, arith, rules, append-nil, flat_map, AllByRecursion, count_by, name_text, Placed, Data, Record, IsRdata, IsRecord, data_of, data_items, IsClass, IsClassWord, IsKind, IsKindWord, class_text, kind_text, Cut, Entry, cut_from, entry_of, item_of, numbered, FileStates, EntriesState, states_one, IsItem, line_of, StatesWhole, Cuts, Token, text, records_of, IsZone, SameRecords, Zone, canon, line, lines, text_limit, Denotes, EndsWithItsFeed, HasNoFeed, IsLineOf, placed_from, Labels, States}
use Rattle.std.proofs.lemmas.Bool.Decides.{nat_tests}
use Rattle.zone_name.specs.Name.{IsName}
use Rattle.zone_name.specs.Spelling.{Spells}
use Rattle.zone_rdata.specs.declared.fault.Place.TheVariants.{Line}
use Rattle.zone_rdata.specs.Number.{IsTime}
use Rattle.zone_text.specs.Inherited.{IsOrigin}
use Rattle.zone_text.specs.Lasting.{EndInLineFeed}
use Rattle.zone_text.specs.Records.{EntryStates}
use Rattle.zone_text.proofs.Tokens.CutAgain.{cut_ended, joined}
use Rattle.zone_text.proofs.Files.DecidedOnce.{cut_after_all}
use Rattle.zone_print.proofs.Feeds.{line_ends_with_feed}
use Rattle.zone_print.proofs.Items.{LineItems, line_items}
use Rattle.std.proofs.lemmas.List.Sums.{sum_by-append, sum_by-cons}

-- what is printed for the parts of a record is read as these parts, and a line of items is one entry
module _
    (names : (scope : Option Labels) (labels : Labels) → IsName labels → Spells scope (name_text labels) labels)
    (times : (n : ℕ) → n < 2 ^ 64 → IsTime (decimal n) n)
    (classes : (n : ℕ) → IsClass n → IsClassWord (class_text n) n)
    (kinds : (class n : ℕ) → IsKind n → IsKindWord (kind_text class n) n)
    (rdata : (origin : Labels) (d : Data) → IsRdata d → States origin d.class d.kind (data_items d) d.octets)
    (cut : (items : List Token) → AllByRecursion IsItem items → Cuts (text (line_of items)) (line_of items))
    (ended : (items : List Token) → AllByRecursion IsItem items → cut_from zero (line_of items) ≡ record { ended = line_of items ∷ []; open_tokens = [] })
    (of_line : (items : List Token) → flat_map item_of (line_of items) ≡ flat_map item_of items) where
  entry_states : (r : Record) → IsRecord r → (l : LineItems r) → StatesWhole (entry_of 1 (line_of l.tokens)) r
  entry_states r is l = record {
    owner_text = name_text r.owner;
    ttl_text = decimal r.ttl;
    class_word = class_text r.class;
    kind_word = kind_text r.class r.kind;
    items = data_items (data_of r);
    begins = l.begins;
    whole = of_line l.tokens ∙ l.entries;
    owner = λ above. names (Some above) r.owner is.owner;
    ttl = times r.ttl (let short = is.ttl in omega arith);
    class = classes r.class is.rdata.class;
    kind = kinds r.class r.kind is.rdata.kind;
    rdata = λ above. rdata above (data_of r) is.rdata;
    fits = is;
  }

  pub line_is_entry : (r : Record) → IsRecord r → IsLineOf r (line r)
  line_is_entry r is =
      let l = line_items r is in
      record { tokens = line_of l.tokens; cut = subst (λ t. Cuts t (line_of l.tokens)) l.printed (cut l.tokens l.items); ended = ended l.tokens l.items; states = entry_states r is l }

-- ---- equal lines

pub equal_lines : ((r : Record) → IsRecord r → IsLineOf r (line r))
    → ((octets : List ℕ) (tokens other : List Token) → Cuts octets tokens → Cuts octets other → tokens ≡ other)
    → ((origin above : Labels) (before : List Entry) (entry : Entry) (r : Record) → IsOrigin origin before above → StatesWhole entry r → EntryStates origin before entry r)
    → ((origin : Labels) (before : List Entry) (entry : Entry) (a b : Record) → EntryStates origin before entry a → EntryStates origin before entry b → a ≡ b)
    → (r s : Record) → IsRecord r → IsRecord s → (line r ≡ line s) ↔ (r ≡ s)
equal_lines lines one_cut stated one r s is_r is_s = (λ same. one_record (lines r is_r) (lines s is_s) same, λ same. ap line same)
  where
    one_record : IsLineOf r (line r) → IsLineOf s (line s) → line r ≡ line s → r ≡ s
    one_record a b same =
        let tokens : a.tokens ≡ b.tokens = one_cut (line s) a.tokens b.tokens (subst (λ t. Cuts t a.tokens) same a.cut) b.cut in
        let states : StatesWhole (entry_of 1 b.tokens) r = subst (λ p. StatesWhole (entry_of 1 p) r) tokens a.states in
        one [] [] (entry_of 1 b.tokens) r s (stated [] [] [] (entry_of 1 b.tokens) r refl states) (stated [] [] [] (entry_of 1 b.tokens) s refl b.states)

-- ---- lines one after another

no_feed_in : (front : List ℕ) → HasNoFeed front → count_by (λ c. c == 10) front ≡ 0
no_feed_in [] none = refl
no_feed_in (c ∷ front) none = grind (arith, nat_tests, sum_by-cons, no_feed_in front none.1)

line_feed_in : (octets : List ℕ) → EndsWithItsFeed octets → count_by (λ c. c == 10) octets ≡ 1
line_feed_in octets ends = rw ends.split (sum_by-append (λ c. cond (c == 10) 1 0) ends.front (10 ∷ []) ∙ ap (λ n. n + 1) (no_feed_in ends.front ends.others))

-- each of the entries states its record and has one line feed
abbrev AreLines : List (List Token) → List Record → Type 0
AreLines [] [] = Unit {0}
AreLines [] (r ∷ records) = ⊥
AreLines (p ∷ ended) [] = ⊥
AreLines (p ∷ ended) (r ∷ records) = StatesWhole (entry_of 1 p) r × (count_by (λ c. c == 10) (text p) ≡ 1) × AreLines ended records

-- lines as tokens, and these as entries
record LinesCut (records : List Record) : Type 0 where
  pub tokens : List Token
  pub ended : List (List Token)
  pub cut : Cuts (lines records) tokens
  pub split : cut_from zero tokens ≡ record { ended = ended; open_tokens = [] }
  pub are : AreLines ended records

ends_in_feed : (tokens : List Token) → cut_from zero tokens ≡ record { ended = tokens ∷ []; open_tokens = [] } → EndInLineFeed tokens
ends_in_feed tokens ended = grind (arith, cut_ended, joined, append-nil)

lines_cut : ((r : Record) → IsRecord r → IsLineOf r (line r))
    → ((front rest : List ℕ) (tokens more : List Token) → Cuts front tokens → EndInLineFeed tokens → Cuts rest more → Cuts (front ++ rest) (tokens ++ more))
    → (records : List Record) → AllByRecursion IsRecord records → LinesCut records
lines_cut line_is joins [] each = record { tokens = []; ended = []; cut = record { whole = refl; each = tt; follow = tt; balanced = refl }; split = refl; are = tt }
lines_cut line_is joins (r ∷ records) each =
    let first : IsLineOf r (line r) = line_is r each.0 in
    let others : LinesCut records = lines_cut line_is joins records each.1 in
    record {
      tokens = first.tokens ++ others.tokens;
      ended = first.tokens ∷ others.ended;
      cut = joins (line r) (lines records) first.tokens others.tokens first.cut (ends_in_feed first.tokens first.ended) others.cut;
      split = cut_after_all first.tokens others.tokens (ap (λ (c : Cut). c.open_tokens) first.ended)
          ∙ (λ i. record { ended = (first.ended i).ended ++ (others.split i).ended; open_tokens = (others.split i).open_tokens });
      are = (first.states, ap (count_by (λ c. c == 10)) (sym first.cut.whole) ∙ line_feed_in (line r) (line_ends_with_feed r), others.are);
    }

-- an entry states the same at any line
at_line : (number : ℕ) (tokens : List Token) (r : Record) → StatesWhole (entry_of 1 tokens) r → StatesWhole (entry_of number tokens) r
at_line number tokens r s = search rules

-- what whole entries state, and that they leave the origin
module _
    (stated : (origin above : Labels) (before : List Entry) (entry : Entry) (r : Record) → IsOrigin origin before above → StatesWhole entry r → EntryStates origin before entry r)
    (leaves : (origin above : Labels) (before : List Entry) (entry : Entry) (r : Record) → IsOrigin origin before above → StatesWhole entry r → IsOrigin origin (entry ∷ before) above) where
  states_each : (origin : Labels) (before : List Entry) (number : ℕ) (ended : List (List Token)) (records : List Record) → IsOrigin origin before origin → AreLines ended records → EntriesState origin before (numbered number ended) (placed_from number records)
  states_each origin before number [] [] under are = refl
  states_each origin before number (p ∷ ended) (r ∷ records) under are =
      let whole : StatesWhole (entry_of number p) r = at_line number p r are.0 in
      let next : EntriesState origin (entry_of number p ∷ before) (numbered (number + 1) ended) (placed_from (number + 1) records) =
      states_each origin (entry_of number p ∷ before) (number + 1) ended records (leaves origin origin before (entry_of number p) r under whole) are.2 in
      states_one (record { rr = r; place = Line number }) (placed_from (number + 1) records) (stated origin origin before (entry_of number p) r under whole) refl refl
      (subst (λ n. EntriesState origin (entry_of number p ∷ before) (numbered n ended) (placed_from (number + 1) records)) (ap (λ n. number + n) (sym are.1)) next)
  states_each origin before number ended records under are = absurd are

  pub lines_back : ((r : Record) → IsRecord r → IsLineOf r (line r))
      → ((front rest : List ℕ) (tokens more : List Token) → Cuts front tokens → EndInLineFeed tokens → Cuts rest more → Cuts (front ++ rest) (tokens ++ more))
      → (origin : Labels) (records : List Record) → AllByRecursion IsRecord records → FileStates origin (lines records) (placed_from 1 records)
  lines_back line_is joins origin records each = grind (arith, lines_cut, states_each)

-- ---- the zone

abbrev LinesBack : Type 0
LinesBack = (origin : Labels) (records : List Record) → AllByRecursion IsRecord records → FileStates origin (lines records) (placed_from 1 records)

same_records : (number : ℕ) (records : List Record) → records_of (placed_from number records) ≡ records
same_records number [] = refl
same_records number (r ∷ records) = ap (λ (rs : List Record). r ∷ rs) (same_records (number + 1) records)

pub text_back : LinesBack → (origin : Labels) (z : Zone) → IsZone z → length (canon z) ≤ text_limit → Denotes origin (canon z) z
text_back back origin z is short = record {
  short = short;
  placed = placed_from 1 z.records;
  states = back origin z.records is.compatible.each;
  makes = record {
    zone = is;
    same = λ r. grind (arith, same_records 1 z.records);
    text_short = short;
  };
}

pub equal_texts : LinesBack
    → ((origin : Labels) (octets : List ℕ) (a b : List Placed) → FileStates origin octets a → FileStates origin octets b → a ≡ b)
    → ((z w : Zone) → IsZone z → IsZone w → SameRecords z.records w.records → z ≡ w)
    → (z w : Zone) → IsZone z → IsZone w → (canon z ≡ canon w) ↔ (z ≡ w)
equal_texts back one_list one_zone z w is_z is_w = (one, λ same. ap canon same)
  where
    one : canon z ≡ canon w → z ≡ w
    one same =
        let placed = one_list [] (canon w) (placed_from 1 z.records) (placed_from 1 w.records) (rw same at (back [] z.records is_z.compatible.each)) (back [] w.records is_w.compatible.each) in
        one_zone z w is_z is_w (λ r. grind (arith, placed, same_records 1 z.records, same_records 1 w.records))
