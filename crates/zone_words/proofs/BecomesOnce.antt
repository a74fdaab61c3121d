-- One thing becomes of an entry.
use Rattle.zone_words.proofs.Common.{Anew, AreOnOneLine, BecomesUnder, DataFails, Entry, FurtherType, IsFurtherUnder, IsGeneric, IsRefused, Labels, LineFeedWithinQuotes, List, Outcome, Refused, SaysAnew, StatesData, Token, TokensFail, TokensSay, TooManyItems, TouchingItem, WordsFault, Written, [], anew, ap, arith, codes, entry_of, flat_map, flat_map-append, in_generic_form, item_of, kept, length, length-append, no_data, on_more_lines, refl, refusal, refused, renamed, subst, sym, too_many, touching_items, true, written, written_text, ℕ, ◌++◌, ◌+◌, ◌∙◌, ◌∷◌, ◌≡◌}
use Rattle.zone_text.specs.Tokens as tokens
use Rattle.type_data.proofs.DataLaws.{data_once, data_or_fault}
use Rattle.type_data.proofs.FaultsOnce.{data_fault_once}
use Rattle.zone_words.proofs.Origins.{origin_once}
use Rattle.zone_words.proofs.Turns.{Under, fails_in_words, fails_under, items_behind, record_once, says_under}
use Rattle.type_data.specs.DataItem.{items_of}
use Rattle.zone_words.specs.Entry.{in_words}
use Rattle.type_data.specs.Data.{in_order}
use Rattle.type_data.specs.Table.{fields_in}
use Rattle.zone_words.specs.Written.{in_octets}

-- ---- the type's word stands at one place

count_items : (f b : List Token) (u : List Written) → length (flat_map item_of (f ++ tokens.bare u ∷ b)) ≡ length (flat_map item_of f) + length (flat_map item_of (tokens.bare u ∷ b))
count_items f b u = ap length (flat_map-append item_of f (tokens.bare u ∷ b)) ∙ length-append (flat_map item_of f) (flat_map item_of (tokens.bare u ∷ b))

count_first : (b : List Token) (u : List Written) → length (flat_map item_of (tokens.bare u ∷ b)) ≡ 1 + length (flat_map item_of b)
count_first b u = length-append (item_of (tokens.bare u)) (flat_map item_of b)

-- two places of a bare item, with as many items after each
pub record OnePlace (f g b c : List Token) : Type 0 where
  pub front : f ≡ g
  pub back : b ≡ c

pub split_once : (f g b c : List Token) (u v : List Written) → f ++ tokens.bare u ∷ b ≡ g ++ tokens.bare v ∷ c → length (flat_map item_of (tokens.bare u ∷ b)) ≡ length (flat_map item_of (tokens.bare v ∷ c)) → OnePlace f g b c
split_once [] [] b c u v e l = record { front = refl; back = cc e }
split_once [] (q ∷ g) b c u v e l =
    absurd (let h : b ≡ g ++ tokens.bare v ∷ c = cc e in let n = ap (λ t. length (flat_map item_of t)) h ∙ count_items g c v in omega (arith, n, l, count_first b u))
split_once (p ∷ f) [] b c u v e l =
    absurd (let h : f ++ tokens.bare u ∷ b ≡ c = cc e in let n = ap (λ t. length (flat_map item_of t)) (sym h) ∙ count_items f b u in omega (arith, n, l, count_first c v))
split_once (p ∷ f) (q ∷ g) b c u v e l =
    let h : f ++ tokens.bare u ∷ b ≡ g ++ tokens.bare v ∷ c = cc e in
    let k : p ≡ q = cc e in
    let s = split_once f g b c u v h l in
    record { front = ap (λ t. t ∷ f) k ∙ ap (λ t. q ∷ t) s.front; back = s.back }

-- the type's word of the same tokens, where both are a record's
place_once : (origin : Labels) (before : List Entry) (line : ℕ) (all_tokens f g b c : List Token) (u v : List Written) → all_tokens ≡ f ++ tokens.bare u ∷ b → all_tokens ≡ g ++ tokens.bare v ∷ c → Under origin before (entry_of line all_tokens) (written_text u) (items_of (touching_items true b)) → Under origin before (entry_of line all_tokens) (written_text v) (items_of (touching_items true c)) → OnePlace f g b c
place_once origin before line all_tokens f g b c u v p q under other =
    let same = record_once before (entry_of line all_tokens) (written_text u) (written_text v) (items_of (touching_items true b)) (items_of (touching_items true c)) under.further other.further under.is.stated other.is.stated in
    let items : flat_map item_of b ≡ flat_map item_of c = sym (items_behind true b) ∙ same.same_items ∙ items_behind true c in
    let count : length (flat_map item_of (tokens.bare u ∷ b)) ≡ length (flat_map item_of (tokens.bare v ∷ c)) = count_first b u ∙ ap (λ t. 1 + length t) items ∙ sym (count_first c v) in
    split_once f g b c u v (sym p ∙ q) count

-- ---- an entry says one thing

module _ (origin : Labels) (before : List Entry) (entry : Entry) where
  -- the records of two readings
  record OneUnder (further as_well : FurtherType) (above over : Labels) : Type 0 where
    same_further : further ≡ as_well
    same_above : above ≡ over

  one_under : (word other : List ℕ) (d e : List TouchingItem) (further as_well : FurtherType) (above over : Labels) → IsFurtherUnder origin before entry word (items_of d) further above → IsFurtherUnder origin before entry other (items_of e) as_well over → OneUnder further as_well above over
  one_under word other d e further as_well above over p q = record {
    same_further = (record_once before entry word other (items_of d) (items_of e) further as_well p.stated q.stated).same_further;
    same_above = origin_once origin before above over p.under q.under;
  }

  states_once : (f g : FurtherType) (above over : Labels) (d e : List TouchingItem) (a b : List ℕ) → f ≡ g → above ≡ over → d ≡ e → StatesData above (fields_in f.fields d) (in_order f.fields) d a → StatesData over (fields_in g.fields e) (in_order g.fields) e b → a ≡ b
  states_once f g above over d e a b same one items p q =
      data_once over (fields_in g.fields e) (in_order g.fields) e a b (subst (λ x. StatesData over (fields_in g.fields x) (in_order g.fields) x a) items (subst (λ (x : FurtherType). StatesData over (fields_in x.fields d) (in_order x.fields) d a) same (subst (λ x. StatesData x (fields_in f.fields d) (in_order f.fields) d a) one p))) q

  states_or_fails : (f g : FurtherType) (above over : Labels) (d e : List TouchingItem) (a field : List ℕ) (fault : _) → f ≡ g → above ≡ over → d ≡ e → StatesData above (fields_in f.fields d) (in_order f.fields) d a → DataFails over (fields_in g.fields e) (in_order g.fields) e field fault → ⊥
  states_or_fails f g above over d e a field fault same one items p q =
      data_or_fault over (fields_in g.fields e) (in_order g.fields) e a field fault (subst (λ x. StatesData over (fields_in g.fields x) (in_order g.fields) x a) items (subst (λ (x : FurtherType). StatesData over (fields_in x.fields d) (in_order x.fields) d a) same (subst (λ x. StatesData x (fields_in f.fields d) (in_order f.fields) d a) one p))) q

  pub says_once : (word other : List ℕ) (d e : List TouchingItem) (it as_well : Anew) → d ≡ e → SaysAnew origin before entry word d it → SaysAnew origin before entry other e as_well → it ≡ as_well
  says_once word other d e it as_well same (in_generic_form f above is few line generic name) (in_generic_form g over is_too few_too line_too generic_too name_too) =
      ap (λ (x : FurtherType). renamed x.number) (one_under word other d e f g above over is is_too).same_further
  says_once word other d e it as_well same (in_generic_form f above is few line generic name) (in_words g over octets is_too few_too line_too words states) =
      absurd (words (subst (λ x. IsGeneric (items_of x)) same generic))
  says_once word other d e it as_well same (in_words f above octets is few line words states) (in_generic_form g over is_too few_too line_too generic name) =
      absurd (words (subst (λ x. IsGeneric (items_of x)) (sym same) generic))
  says_once word other d e it as_well same (in_words f above octets is few line words states) (in_words g over others is_too few_too line_too words_too states_too) =
      let one = one_under word other d e f g above over is is_too in
      ap (λ (x : FurtherType). in_octets x.number octets) one.same_further ∙ ap (λ t. in_octets g.number t) (states_once f g above over d e octets others one.same_further one.same_above same states states_too)

  pub says_or_fails : (word other : List ℕ) (d e : List TouchingItem) (it : Anew) (r : Refused) → d ≡ e → SaysAnew origin before entry word d it → IsRefused origin before entry other e r → ⊥
  says_or_fails word other d e it r same (in_generic_form f above is few line generic name) fails =
      fails_in_words origin before entry other e r fails (subst (λ x. IsGeneric (items_of x)) same generic)
  says_or_fails word other d e it r same (in_words f above octets is few line words states) (too_many g over is_too words_too many) = absurd (omega (arith, few, many))
  says_or_fails word other d e it r same (in_words f above octets is few line words states) (on_more_lines g over is_too words_too few_too lines) = lines (subst (λ x. AreOnOneLine (items_of x)) same line)
  says_or_fails word other d e it r same (in_words f above octets is few line words states) (no_data g over field fault is_too words_too few_too line_too fails) =
      let one = one_under word other d e f g above over is is_too in
      states_or_fails f g above over d e octets field fault one.same_further one.same_above same states fails

  refusals_once : (f g : FurtherType) (field other : List ℕ) (fault as_well : WordsFault) → f ≡ g → field ≡ other → fault ≡ as_well → refusal entry f field fault ≡ refusal entry g other as_well
  refusals_once f g field other fault as_well same one too =
      ap (λ t. refusal entry t field fault) same ∙ ap (λ t. refusal entry g t fault) one ∙ ap (λ t. refusal entry g other t) too

  faults_once : (f g : FurtherType) (above over : Labels) (d e : List TouchingItem) (field other : List ℕ) (fault as_well : WordsFault) → f ≡ g → above ≡ over → d ≡ e → DataFails above (fields_in f.fields d) (in_order f.fields) d field fault → DataFails over (fields_in g.fields e) (in_order g.fields) e other as_well → refusal entry f field fault ≡ refusal entry g other as_well
  faults_once f g above over d e field other fault as_well same one items p q =
      let told = data_fault_once over (fields_in g.fields e) (in_order g.fields) e field other fault as_well (subst (λ x. DataFails over (fields_in g.fields x) (in_order g.fields) x field fault) items (subst (λ (x : FurtherType). DataFails over (fields_in x.fields d) (in_order x.fields) d field fault) same (subst (λ x. DataFails x (fields_in f.fields d) (in_order f.fields) d field fault) one p))) q in
      refusals_once f g field other fault as_well same told.field told.fault_same

  -- and one refusal is told of it
  pub fails_once : (word other : List ℕ) (d e : List TouchingItem) (r s : Refused) → d ≡ e → IsRefused origin before entry word d r → IsRefused origin before entry other e s → r ≡ s
  fails_once word other d e r s same (too_many f above is words many) (too_many g over is_too words_too many_too) =
      refusals_once f g (codes "data") (codes "data") TooManyItems TooManyItems (one_under word other d e f g above over is is_too).same_further refl refl
  fails_once word other d e r s same (too_many f above is words many) (on_more_lines g over is_too words_too few lines) = absurd (omega (arith, few, many))
  fails_once word other d e r s same (too_many f above is words many) (no_data g over field fault is_too words_too few line fails) = absurd (omega (arith, few, many))
  fails_once word other d e r s same (on_more_lines f above is words few lines) (too_many g over is_too words_too many) = absurd (omega (arith, few, many))
  fails_once word other d e r s same (on_more_lines f above is words few lines) (on_more_lines g over is_too words_too few_too lines_too) =
      refusals_once f g (codes "data") (codes "data") LineFeedWithinQuotes LineFeedWithinQuotes (one_under word other d e f g above over is is_too).same_further refl refl
  fails_once word other d e r s same (on_more_lines f above is words few lines) (no_data g over field fault is_too words_too few_too line fails) = absurd (lines (subst (λ x. AreOnOneLine (items_of x)) (sym same) line))
  fails_once word other d e r s same (no_data f above field fault is words few line fails) (too_many g over is_too words_too many) = absurd (omega (arith, few, many))
  fails_once word other d e r s same (no_data f above field fault is words few line fails) (on_more_lines g over is_too words_too few_too lines) = absurd (lines (subst (λ x. AreOnOneLine (items_of x)) same line))
  fails_once word other d e r s same (no_data f above field fault is words few line fails) (no_data g over field_too fault_too is_too words_too few_too line_too fails_too) =
      let one = one_under word other d e f g above over is is_too in
      faults_once f g above over d e field field_too fault fault_too one.same_further one.same_above same fails fails_too

-- ---- one thing becomes of an entry

abbrev written_as : List Token → List Refused → Outcome
written_as new refusals = record { written = new; told = refusals }

module _ (origin : Labels) (before : List Entry) (line : ℕ) (all_tokens : List Token) where
  say_under : (front back : List Token) (it : Anew) → (say : TokensSay origin before line all_tokens front back it) → Under origin before (entry_of line all_tokens) (written_text say.word) (items_of (touching_items true back))
  say_under front back it say = says_under origin before (entry_of line all_tokens) (written_text say.word) (touching_items true back) it say.says

  fail_under : (it : Refused) → (fail : TokensFail origin before line all_tokens it) → Under origin before (entry_of line all_tokens) (written_text fail.word) (items_of (touching_items true fail.back))
  fail_under it fail = fails_under origin before (entry_of line all_tokens) (written_text fail.word) (touching_items true fail.back) it fail.fails

  says_written : (f b g c : List Token) (it as_well : Anew) → TokensSay origin before line all_tokens f b it → TokensSay origin before line all_tokens g c as_well → f ++ written it b ≡ g ++ written as_well c
  says_written f b g c it as_well p q =
      let at = place_once origin before line all_tokens f g b c p.word q.word p.split q.split (say_under f b it p) (say_under g c as_well q) in
      let same = says_once origin before (entry_of line all_tokens) (written_text p.word) (written_text q.word) (touching_items true b) (touching_items true c) it as_well (ap (touching_items true) at.back) p.says q.says in
      ap (λ t. t ++ written it b) at.front ∙ ap (λ t. g ++ written t b) same ∙ ap (λ t. g ++ written as_well t) at.back

  never_both : (f b : List Token) (it : Anew) (r : Refused) → TokensSay origin before line all_tokens f b it → TokensFail origin before line all_tokens r → ⊥
  never_both f b it r p q =
      let at = place_once origin before line all_tokens f q.front b q.back p.word q.word p.split q.split (say_under f b it p) (fail_under r q) in
      says_or_fails origin before (entry_of line all_tokens) (written_text p.word) (written_text q.word) (touching_items true b) (touching_items true q.back) it r (ap (touching_items true) at.back) p.says q.fails

  refused_once : (r s : Refused) → TokensFail origin before line all_tokens r → TokensFail origin before line all_tokens s → r ≡ s
  refused_once r s p q =
      let at = place_once origin before line all_tokens p.front q.front p.back q.back p.word q.word p.split q.split (fail_under r p) (fail_under s q) in
      fails_once origin before (entry_of line all_tokens) (written_text p.word) (written_text q.word) (touching_items true p.back) (touching_items true q.back) r s (ap (touching_items true) at.back) p.fails q.fails

  pub becomes_once : (a b : Outcome) → BecomesUnder origin before line all_tokens a → BecomesUnder origin before line all_tokens b → a ≡ b
  becomes_once a b (anew f back it p e) (anew g other as_well q h) = e ∙ ap (λ t. written_as t []) (says_written f back g other it as_well p q) ∙ sym h
  becomes_once a b (anew f back it p e) (refused r q h) = absurd (never_both f back it r p q)
  becomes_once a b (anew f back it p e) (kept no_say no_fail h) = absurd (no_say f back it p)
  becomes_once a b (refused r q h) (anew f back it p e) = absurd (never_both f back it r p q)
  becomes_once a b (refused r q h) (refused s p e) = h ∙ ap (λ t. written_as all_tokens (t ∷ [])) (refused_once r s q p) ∙ sym e
  becomes_once a b (refused r q h) (kept no_say no_fail e) = absurd (no_fail r q)
  becomes_once a b (kept no_say no_fail h) (anew f back it p e) = absurd (no_say f back it p)
  becomes_once a b (kept no_say no_fail h) (refused r q e) = absurd (no_fail r q)
  becomes_once a b (kept no_say no_fail h) (kept no_say_too no_fail_too e) = h ∙ sym e
