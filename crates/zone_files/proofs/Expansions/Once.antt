-- There is one expanded text.
use Rattle.std.proofs.Common.{◌≡◌, ℕ, zero, List, [], ◌∷◌, ◌++◌, length, Bool, true, false, Option, Some, None, Err, Ok, refl, sym, ap, subst, ◌∙◌}
use Rattle.std.specs.List.{flat_map}
use Rattle.std.specs.Prelude.{drop, replicate}
use Rattle.zone_name.proofs.Spelling.Answered.{SpellsCased-once}
use Rattle.zone_name.specs.Common.{AtMostOneIs, Labels}
use Rattle.zone_name.specs.Text.{name_text}
use Rattle.zone_rdata.specs.Spelling.{RawItem, bare, quoted}
use Rattle.zone_text.proofs.Common.{append_cancel_left}
use Rattle.zone_text.proofs.Tokens.Cuttings.{cut_not_broken, one_break, one_cut}
use Rattle.zone_text.specs.Entries.{cut_from, entry_of, item_of}
use Rattle.zone_text.specs.Statements.{Statement, includes, no_items, owned, sets_origin, sets_ttl, statement_of, unknown, unowned}
use Rattle.zone_text.specs.Tokens.{Token, text}
use Rattle.zone_words.specs.Inherited.{IsOneOrNone}
use Rattle.zone_words.specs.Origin.{NamesOrigin}
use Rattle.zone_generate.proofs.ValueLines.{one_text}
use Rattle.zone_generate.specs.Entry.{Generation, generation_in}
use Rattle.zone_generate.specs.Lines.{AreLines, last_owner}
use Rattle.zone_generate.specs.declared.failing.GenerateFault.{GenerateFault}
use Rattle.zone_files.specs.Expansion.{AfterEntry, AfterIncluded, DirectiveBecomes, EachExpands, Ending, EntryBecomes, Expanding, Expands, Files, Generates, Holds, Included, Includes, Inside, IsExpandedWithout, IsFile, MayOpen, Opening, Outcome, SpellsLast, SpellsOwner, StatementBecomes, StatesInclude, StatesOwner, TakenOutOr, WithOwner, after_lines, another, as_lines, back_in, bad_include, bad_name, breaks_off, broken, each_with_line_feed, ends, fails, file, first_without, generate_fault, has_lines, is_next, is_opened, lacks_line, last_line, left_out, line_feeds, lines_of, no_files, no_lines, none, opens, origin_line, owned_by, past, same, says_generate, stating, stays, stops, stops_at, too_many, under, wants, whole, within}
use Rattle.zone_files.specs.Machine.Stepping.{included}
use Rattle.zone_files.specs.FileName.{IsPath, NamesFile, absolute, relative}

-- ---- an entry

one_or_none_once : {A : Type 0} (Is : A → Type 0) → AtMostOneIs Is → AtMostOneIs (IsOneOrNone Is)
one_or_none_once Is once None None p q = refl
one_or_none_once Is once None (Some b) p q = absurd (p b q)
one_or_none_once Is once (Some a) None p q = absurd (q a p)
one_or_none_once Is once (Some a) (Some b) p q = ap Some (once a b p q)

origin_once : (above : Labels) (items : List RawItem) → AtMostOneIs (NamesOrigin above items)
origin_once above [] a b p q = absurd p
origin_once above (bare text ∷ []) a b p q = SpellsCased-once (Some above) text a b p q
origin_once above (quoted text ∷ []) a b p q = absurd p
origin_once above (bare text ∷ item ∷ items) a b p q = absurd p
origin_once above (quoted text ∷ item ∷ items) a b p q = absurd p

owner_once : (origin : Labels) (item : RawItem) → AtMostOneIs (SpellsOwner origin item)
owner_once origin (bare text) a b p q = SpellsCased-once (Some origin) text a b p q
owner_once origin (quoted text) a b p q = absurd p

states_once : (origin : Labels) (s : Statement) → AtMostOneIs (StatesOwner origin s)
states_once origin (owned item rest) a b p q = one_or_none_once (SpellsOwner origin item) (owner_once origin item) a b p q
states_once origin (unowned rest) a b p q = p ∙ sym q
states_once origin (sets_origin names) a b p q = p ∙ sym q
states_once origin (sets_ttl times) a b p q = p ∙ sym q
states_once origin includes a b p q = p ∙ sym q
states_once origin unknown a b p q = p ∙ sym q
states_once origin no_items a b p q = p ∙ sym q

same_included : (a b : Included) → a.file ≡ b.file → a.origin ≡ b.origin → a ≡ b
same_included a b e f = ap (λ t. included t a.origin) e ∙ ap (λ o. included b.file o) f

include_once : (above : Labels) (items : List RawItem) → AtMostOneIs (StatesInclude above items)
include_once above [] a b p q = absurd p
include_once above (f ∷ []) a b p q = same_included a b (p.0 ∙ sym q.0) (p.1 ∙ sym q.1)
include_once above (f ∷ item ∷ items) a b p q = same_included a b (p.0 ∙ sym q.0) (origin_once above (item ∷ items) a.origin b.origin p.1 q.1)

with_owner_once : (h : Holds) (entry : List ℕ) → AtMostOneIs (WithOwner h entry)
with_owner_once h entry a b (same e p) (same f q) = p ∙ sym q
with_owner_once h entry a b (same e p) (another owner is other q) = absurd (other (sym e ∙ is))
with_owner_once h entry a b (same e p) (none owner is other q) = absurd (let no : None ≡ Some owner = sym is ∙ e ∙ other in cc)
with_owner_once h entry a b (another owner is other p) (same e q) = absurd (other (sym e ∙ is))
with_owner_once h entry a b (another owner is other p) (another owner' is' other' q) = let one : owner ≡ owner' = cc in p ∙ ap (λ o. stays (name_text o ++ entry) (stating (Some o) (past entry h))) one ∙ sym q
with_owner_once h entry a b (another owner is other p) (none owner' is' other' q) = absurd (let no : Some owner ≡ None = sym is ∙ is' in cc)
with_owner_once h entry a b (none owner is other p) (same e q) = absurd (let no : None ≡ Some owner = sym is ∙ e ∙ other in cc)
with_owner_once h entry a b (none owner is other p) (another owner' is' other' q) = absurd (let no : None ≡ Some owner' = sym is ∙ is' in cc)
with_owner_once h entry a b (none owner is other p) (none owner' is' other' q) = p ∙ sym q

-- ---- a `$GENERATE`

last_once : (origin : Labels) (owner : Option (List ℕ)) → AtMostOneIs (SpellsLast origin owner)
last_once origin None a b p q = absurd p
last_once origin (Some text) a b p q = SpellsCased-once (Some origin) text a b p q

generates_once : (h : Holds) (items : List RawItem) → AtMostOneIs (Generates h items)
generates_once h items a b (no_lines fault e p) (no_lines fault' e' q) =
    let one : fault ≡ fault' = cc (e, e') in
    p ∙ ap (λ f. fails (generate_fault f)) one ∙ sym q
generates_once h items a b (no_lines fault e p) (has_lines g lines at named e' are is q) = absurd (let no : Err fault ≡ Ok g = sym e ∙ e' in cc)
generates_once h items a b (has_lines g lines at named e are is p) (no_lines fault e' q) = absurd (let no : Ok g ≡ Err fault = sym e ∙ e' in cc)
generates_once h items a b (has_lines g lines at named e are is p) (has_lines g' lines' at' named' e' are' is' q) =
    let one : g' ≡ g = cc (e, e') in
    let text = one_text g.templates g.values lines lines' at at' are (subst (λ (t : Generation). AreLines t.templates t.values lines' at') one are') in
    let name : named ≡ named' = one_or_none_once (SpellsLast h.origin (last_owner g.templates g.values)) (last_once h.origin (last_owner g.templates g.values)) named named' is (subst (λ (t : Generation). IsOneOrNone (SpellsLast h.origin (last_owner t.templates t.values)) named') one is') in
    p ∙ ap (λ t. as_lines t (after_lines named (length g.values) h) at) text.0 ∙ ap (λ n. as_lines lines' (after_lines n (length g.values) h) at) name
    ∙ ap (as_lines lines' (after_lines named' (length g.values) h)) text.1 ∙ ap (λ (t : Generation). as_lines lines' (after_lines named' (length t.values) h) at') (sym one) ∙ sym q

directive_once : (test : Bool) (h : Holds) (entry : List ℕ) (items : List RawItem) → AtMostOneIs (DirectiveBecomes test h entry items)
directive_once true h entry items a b p q = generates_once h (drop 1 items) a b p q
directive_once false h entry items a b p q = p ∙ sym q

-- a file name denotes one file
abbrev pub OneName : Type 0
OneName = (directory : Option (List ℕ)) (name : List ℕ) → AtMostOneIs (NamesFile directory name)

no_path : (rest : List ℕ) → IsPath (47 ∷ rest) → ⊥
no_path rest is = absurd cc

pub one_name : OneName
one_name directory name a b (relative t p e) (relative t' p' e') = e ∙ sym e'
one_name directory name a b (relative t p e) (absolute folder t' is below e') = absurd (no_path below.rest (subst IsPath below.absolute p))
one_name directory name a b (absolute folder t is below e) (relative t' p e') = absurd (no_path below.rest (subst IsPath below.absolute p))
one_name directory name a b (absolute folder t is below e) (absolute folder' t' is' below' e') = e ∙ sym e'

module _ (one_name : OneName) where
  names_once : (h : Holds) (items : List RawItem) (it other : Included) (name title : List ℕ) → StatesInclude h.origin items it → StatesInclude h.origin items other → NamesFile h.directory it.file name → NamesFile h.directory other.file title → name ≡ title
  names_once h items it other name title p q n m = one_name h.directory other.file name title (subst (λ (i : Included). NamesFile h.directory i.file name) (include_once h.origin items it other p q) n) m

  includes_once : (h : Holds) (items : List RawItem) → AtMostOneIs (Includes h items)
  includes_once h items a b (bad_include lacks p) (bad_include lacks' q) = p ∙ sym q
  includes_once h items a b (bad_include lacks p) (bad_name it s n q) = absurd (lacks it s)
  includes_once h items a b (bad_include lacks p) (too_many it name s n m q) = absurd (lacks it s)
  includes_once h items a b (bad_include lacks p) (is_opened it name s n m q) = absurd (lacks it s)
  includes_once h items a b (bad_name it s n p) (bad_include lacks q) = absurd (lacks it s)
  includes_once h items a b (bad_name it s n p) (bad_name it' s' n' q) = p ∙ sym q
  includes_once h items a b (bad_name it s n p) (too_many it' name s' n' m q) = absurd (n name (subst (λ (i : Included). NamesFile h.directory i.file name) (include_once h.origin items it' it s' s) n'))
  includes_once h items a b (bad_name it s n p) (is_opened it' name s' n' m q) = absurd (n name (subst (λ (i : Included). NamesFile h.directory i.file name) (include_once h.origin items it' it s' s) n'))
  includes_once h items a b (too_many it name s n m p) (bad_include lacks q) = absurd (lacks it s)
  includes_once h items a b (too_many it name s n m p) (bad_name it' s' n' q) = absurd (n' name (subst (λ (i : Included). NamesFile h.directory i.file name) (include_once h.origin items it it' s s') n))
  includes_once h items a b (too_many it name s n m p) (too_many it' name' s' n' m' q) = p ∙ sym q
  includes_once h items a b (too_many it name s n m p) (is_opened it' name' s' n' m' q) = absurd (m (subst (MayOpen h) (names_once h items it' it name' name s' s n' n) m'))
  includes_once h items a b (is_opened it name s n m p) (bad_include lacks q) = absurd (lacks it s)
  includes_once h items a b (is_opened it name s n m p) (bad_name it' s' n' q) = absurd (n' name (subst (λ (i : Included). NamesFile h.directory i.file name) (include_once h.origin items it it' s s') n))
  includes_once h items a b (is_opened it name s n m p) (too_many it' name' s' n' m' q) = absurd (m' (subst (MayOpen h) (names_once h items it it' name name' s s' n n') m))
  includes_once h items a b (is_opened it name s n m p) (is_opened it' name' s' n' m' q) =
      let one : name ≡ name' = names_once h items it it' name name' s s' n n' in
      let same_it : it ≡ it' = include_once h.origin items it it' s s' in
      p ∙ ap (λ t. opens t it.origin) one ∙ ap (λ (i : Included). opens name' i.origin) same_it ∙ sym q

  statement_once : (h : Holds) (entry : List ℕ) (items : List RawItem) (s : Statement) → AtMostOneIs (StatementBecomes h entry items s)
  statement_once h entry items (sets_origin names) a b p q = p.2 ∙ ap (λ o. stays entry (under o (past entry h))) (one_or_none_once (NamesOrigin h.origin names) (origin_once h.origin names) p.0 q.0 p.1 q.1) ∙ sym q.2
  statement_once h entry items (owned item rest) a b p q = p.2 ∙ ap (λ o. stays entry (owned_by o (past entry h))) (one_or_none_once (SpellsOwner h.origin item) (owner_once h.origin item) p.0 q.0 p.1 q.1) ∙ sym q.2
  statement_once h entry items (unowned rest) a b p q = with_owner_once h entry a b p q
  statement_once h entry items includes a b p q = includes_once h (drop 1 items) a b p q
  statement_once h entry items no_items a b p q = p ∙ sym q
  statement_once h entry items (sets_ttl times) a b p q = p ∙ sym q
  statement_once h entry items unknown a b p q = directive_once (says_generate items) h entry items a b p q

  taken_once : (test : Bool) (h : Holds) (entry : List ℕ) (items : List RawItem) (s : Statement) → AtMostOneIs (TakenOutOr test h entry items s)
  taken_once true h entry items s a b p q = p.2 ∙ ap (λ o. stays (replicate (line_feeds entry) 10) (left_out o entry h)) (states_once h.origin s p.0 q.0 p.1 q.1) ∙ sym q.2
  taken_once false h entry items s a b p q = statement_once h entry items s a b p q

  pub entry_once : (h : Holds) (tokens : List Token) → AtMostOneIs (EntryBecomes h tokens)
  entry_once h tokens a b p q =
      let s : Statement = statement_of (entry_of 1 tokens) in
      taken_once (is_next h.taken_out h.line (lines_of s (flat_map item_of tokens))) h (text tokens) (flat_map item_of tokens) s a b p q

  -- ---- a file

  file_once : (octets : List ℕ) (entries others : List (List Token)) (tail other : Option (List ℕ)) → IsFile octets entries tail → IsFile octets others other → (entries ≡ others) × (tail ≡ other)
  file_once octets entries others tail other (whole t c e n) (whole t' c' e' n') = (e ∙ ap (λ s. each_with_line_feed (cut_from zero s).ended (cut_from zero s).open_tokens) (one_cut octets t t' c c') ∙ sym e', n ∙ sym n')
  file_once octets entries others tail other (whole t c e n) (broken t' f' r' b' e' o' n') = absurd (cut_not_broken octets t t' f' c b')
  file_once octets entries others tail other (broken t f r b e o n) (whole t' c' e' n') = absurd (cut_not_broken octets t' t f c' b)
  file_once octets entries others tail other (broken t f r b e o n) (broken t' f' r' b' e' o' n') =
      let one : entries ≡ others = e ∙ ap (λ s. (cut_from zero s).ended) (one_break octets t t' f f' b b').0 ∙ sym e' in
      let rest : r ≡ r' = append_cancel_left (flat_map text others) r r' (ap (λ es. flat_map text es ++ r) (sym one) ∙ sym o ∙ o') in
      (one, n ∙ ap Some rest ∙ sym n')

  -- one text, and one ending
  pub record OneText (written other : List ℕ) (ending last : Ending) : Type 0 where
    pub text_same : written ≡ other
    pub ending_same : ending ≡ last

  abbrev pub ExpandsOnce : Expanding → Type 0
  ExpandsOnce Is = (h : Holds) (entries : List (List Token)) (tail : Option (List ℕ)) (written other : List ℕ) (ending last : Ending) → Is h entries tail written ending → Is h entries tail other last → OneText written other ending last

  after_entry_once : (Rest : Holds → List ℕ → Ending → Type 0) (Opens : List ℕ → Labels → List ℕ → Ending → Type 0)
      → ((next : Holds) (written other : List ℕ) (ending last : Ending) → Rest next written ending → Rest next other last → OneText written other ending last)
      → ((name : List ℕ) (origin : Labels) (written other : List ℕ) (ending last : Ending) → Opens name origin written ending → Opens name origin other last → OneText written other ending last)
      → (written other : List ℕ) (ending last : Ending) (outcome : Outcome)
      → AfterEntry Rest (λ name origin. Opens name origin written ending) written ending outcome
      → AfterEntry Rest (λ name origin. Opens name origin other last) other last outcome
      → OneText written other ending last
  after_entry_once Rest Opens rest_once opens_once w o e l (stays made next) p q =
      let one = rest_once next p.0 q.0 e l p.2 q.2 in
      record { text_same = p.1 ∙ ap (λ t. made ++ t) one.text_same ∙ sym q.1; ending_same = one.ending_same }
  after_entry_once Rest Opens rest_once opens_once w o e l (opens name origin) p q = opens_once name origin w o e l p q
  after_entry_once Rest Opens rest_once opens_once w o e l (fails fault) p q = record { text_same = p.0 ∙ sym q.0; ending_same = p.1 ∙ sym q.1 }
  after_entry_once Rest Opens rest_once opens_once w o e l (lacks_line lines value) p q = record { text_same = p.0 ∙ sym q.0; ending_same = p.1 ∙ sym q.1 }

  module _ (Opens : List ℕ → Labels → Expanding) (once : (name : List ℕ) (origin : Labels) → ExpandsOnce (Opens name origin)) where
    each_once : (entries : List (List Token)) (h : Holds) (tail : Option (List ℕ)) (written other : List ℕ) (ending last : Ending) → EachExpands Opens h entries tail written ending → EachExpands Opens h entries tail other last → OneText written other ending last
    each_once [] h None w o e l p q = record { text_same = p.0 ∙ sym q.0; ending_same = p.1 ∙ sym q.1 }
    each_once [] h (Some rest) w o e l p q = record { text_same = p.0 ∙ sym q.0; ending_same = p.1 ∙ sym q.1 }
    each_once (entry ∷ entries) h tail w o e l p q =
        let Rest : Holds → List ℕ → Ending → Type 0 = λ next more end. EachExpands Opens next entries tail more end in
        let Next : List ℕ → Labels → List ℕ → Ending → Type 0 = λ name origin t end. Opens name origin h entries tail t end in
        after_entry_once Rest Next
        (λ next. each_once entries next tail)
        (λ name origin. once name origin h entries tail)
        w o e l p.0 p.2
        (subst (λ out. AfterEntry Rest (λ name origin. Next name origin o l) o l out) (entry_once h entry q.0 p.0 q.1 p.1) q.2)

  -- the text of an included file
  inside_once : (octets : List ℕ) (Own : Expanding) (h : Holds) → ExpandsOnce Own → (a b : Inside octets Own h) → OneText a.written b.written a.ending b.ending
  inside_once octets Own h once a b =
      let same = file_once octets a.entries b.entries a.tail b.tail a.is_file b.is_file in
      once h b.entries b.tail a.written b.written a.ending b.ending (subst (λ t. Own h b.entries t a.written a.ending) same.1 (subst (λ es. Own h es a.tail a.written a.ending) same.0 a.each)) b.each

  after_included_once : (Rest : Holds → List ℕ → Ending → Type 0)
      → ((next : Holds) (written other : List ℕ) (ending last : Ending) → Rest next written ending → Rest next other last → OneText written other ending last)
      → (h : Holds) (written other : List ℕ) (ending last inner : Ending)
      → AfterIncluded Rest h written ending inner → AfterIncluded Rest h other last inner
      → OneText written other ending last
  after_included_once Rest once h w o e l (ends inner) p q =
      let one = once (back_in h inner) p.0 q.0 e l p.2 q.2 in
      record { text_same = p.1 ∙ ap (λ t. origin_line h.origin ++ t) one.text_same ∙ sym q.1; ending_same = one.ending_same }
  after_included_once Rest once h w o e l breaks_off p q = record { text_same = p.0 ∙ sym q.0; ending_same = p.1 ∙ sym q.1 }
  after_included_once Rest once h w o e l (stops fault) p q = record { text_same = p.0 ∙ sym q.0; ending_same = p.1 ∙ sym q.1 }
  after_included_once Rest once h w o e l (stops_at value) p q = record { text_same = p.0 ∙ sym q.0; ending_same = p.1 ∙ sym q.1 }
  after_included_once Rest once h w o e l (wants name) p q = record { text_same = p.0 ∙ sym q.0; ending_same = p.1 ∙ sym q.1 }

  opening_once : (files : Files) (name : List ℕ) (origin : Labels) → ExpandsOnce (Opening files name origin)
  opening_once no_files name origin h entries tail w o e l p q = record { text_same = p.0 ∙ sym q.0; ending_same = p.1 ∙ sym q.1 }
  opening_once (file octets inner others) name origin h entries tail w o e l p q =
      let Rest : Holds → List ℕ → Ending → Type 0 = λ next more end. EachExpands (Opening others) next entries tail more end in
      let own : ExpandsOnce (EachExpands (Opening inner)) = λ g es t. each_once (Opening inner) (opening_once inner) es g t in
      let one = inside_once octets (EachExpands (Opening inner)) (within name origin h) own p.0 q.0 in
      let rest = after_included_once Rest (λ next. each_once (Opening others) (opening_once others) entries next tail) h p.1 q.1 e l q.0.ending
      (subst (λ last. AfterIncluded Rest h p.1 e last) one.ending_same p.3) q.3 in
      record {
        text_same = p.2 ∙ ap (λ t. origin_line origin ++ (t ++ p.1)) one.text_same ∙ ap (λ t. origin_line origin ++ (q.0.written ++ t)) rest.text_same ∙ sym q.2;
        ending_same = rest.ending_same;
      }

  pub expands_once : (h : Holds) (octets : List ℕ) (files : Files) (written other : List ℕ) (ending last : Ending) → Expands h octets files written ending → Expands h octets files other last → OneText written other ending last
  expands_once h octets files w o e l p q =
      let same = file_once octets p.entries q.entries p.tail q.tail p.is_file q.is_file in
      each_once (Opening files) (opening_once files) q.entries h q.tail w o e l
      (subst (λ t. EachExpands (Opening files) h q.entries t w e) same.1 (subst (λ es. EachExpands (Opening files) h es p.tail w e) same.0 p.each)) q.each

pub one_expanded : (lines : List ℕ) (directory : Option (List ℕ)) (name : List ℕ) (origin : Labels) (octets : List ℕ) (files : Files) (a b : List ℕ) (ending last : Ending) → IsExpandedWithout lines directory name origin octets files a ending → IsExpandedWithout lines directory name origin octets files b last → (a ≡ b) × (ending ≡ last)
one_expanded lines directory name origin octets files a b ending last p q =
    let one = expands_once one_name (first_without lines directory name origin) octets files p.written q.written ending last p.expands q.expands in
    (p.expanded_is ∙ ap (λ t. t ++ last_line ending) one.text_same ∙ ap (λ e. q.written ++ last_line e) one.ending_same ∙ sym q.expanded_is, one.ending_same)
