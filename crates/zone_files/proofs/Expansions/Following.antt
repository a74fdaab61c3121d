-- How an expander follows the octets that it is fed.
use Rattle.std.proofs.Common.{◌≡◌, ℕ, zero, ◌<◌, ◌≤◌, List, [], ◌∷◌, ◌++◌, length, take, drop, Option, Some, None, Bool, true, false, refl, sym, ap, subst, ◌∙◌, append_assoc, append-nil, arith, take-append-drop}
use Rattle.std.proofs.lemmas.Grind.{common_steps}
use Rattle.std.proofs.lemmas.List.{length-drop}
use Rattle.zone_rdata.specs.Item.{RawItem}
use Rattle.zone_rdata.specs.declared.fault.Fault.{Fault}
use Rattle.zone_text.specs.Entries.{cut_from}
use Rattle.zone_text.specs.FirstEntry.{IsBrokenOff, IsFirstEntry, IsOneEntry}
use Rattle.zone_text.specs.OpenEntry.{EndIs, EntryIs, HeldEntry, TakesFrom}
use Rattle.zone_text.specs.Tokens.{Token, Cuts, line_feed}
use Rattle.zone_text.specs.declared.open_entry.EntryState.TheVariants.{Broken, Ended}
use Rattle.zone_text.specs.declared.open_entry.Taken.{Taken}
use Rattle.zone_generate.proofs.ValueLines.{lines_joined, none_left, stopped}
use Rattle.zone_generate.specs.Entry.{Generation}
use Rattle.zone_generate.specs.Lines.{AreLines}
use Rattle.zone_generate.specs.Steps.{TakesLines}
use Rattle.zone_files.specs.Expansion.{Ending, Expands, Files, Holds, back_in, breaks_off, ends, file, no_files, origin_line, stops, stops_at, within}
use Rattle.zone_files.specs.FileExpander.{AfterInner, AfterLines, Continues, GoesOn, HasFewerLines, IsOver, NamedFile, StandsBy, StandsFor, TakesIncluded, lines_left, then}
use Rattle.zone_files.specs.Machine.Expanding.{EntersLast, EntersOctets, Follows, IsExpander, TakesFront, TakesInner, TakesInnerBy, state_of}
use Rattle.zone_files.specs.Machine.Lines.{Stays}
use Rattle.zone_files.specs.Machine.Progressing.{Entered, Enters, GivesLines, end_of, gives_fault, gives_last, gives_some, has_begun, has_failed, has_none, has_opened, was_written}
use Rattle.zone_files.specs.declared.fault.ExpansionFault.{ExpansionFault}
use Rattle.zone_files.specs.declared.expansion.file_expansion.FileExpansion.{FileExpansion}
use Rattle.zone_files.specs.declared.expansion.progress.FileStatus.{FileStatus}
use Rattle.zone_files.specs.declared.expansion.progress.FileStatus.TheVariants as statuses
use Rattle.zone_files.specs.declared.expansion.progress.Progress.{Progress}
use Rattle.zone_files.proofs.Expansions.Steps.{continues_after, continues_broken, continues_entry, continues_failed, continues_lines, continues_more, file_breaks, file_last, file_none, leads_after, leads_ended, leads_failed, leads_lines, then_none}

drop_inside : (n : ℕ) (a b : List ℕ) → n ≤ length a → drop n (a ++ b) ≡ drop n a ++ b
drop_inside n a b within = grind (arith, common_steps)

-- ---- what an expander stands for, by its status

from_status : (x : FileExpansion) (status : FileStatus) (start : Holds) (fed : List ℕ) (files : Files) (given : List ℕ) → x.progress.status ≡ status → StandsFor (state_of x) start fed files given → StandsBy status (state_of x) start fed files given
from_status x status start fed files given is s = subst (λ st. StandsBy st (state_of x) start fed files given) is s

to_status : (x : FileExpansion) (status : FileStatus) (start : Holds) (fed : List ℕ) (files : Files) (given : List ℕ) → x.progress.status ≡ status → StandsBy status (state_of x) start fed files given → StandsFor (state_of x) start fed files given
to_status x status start fed files given is s = subst (λ st. StandsBy st (state_of x) start fed files given) (sym is) s

-- whatever the included file is, and makes
abbrev pub AwaitsIn : Bool → Holds → NamedFile → Holds → List ℕ → Files → List ℕ → Type 0
AwaitsIn last h named start fed files given =
    (octets : List ℕ) (inner : Files) (inside : List ℕ) (ending : Ending)
    → Expands (within named.name named.origin h) octets inner inside ending
    → AfterInner last start h fed (then files (file octets inner no_files)) (given ++ inside) ending

awaits_by : (l m : Bool) (h k : Holds) (named : NamedFile) (start : Holds) (fed : List ℕ) (files : Files) (given : List ℕ) → m ≡ l → k ≡ h → AwaitsIn l h named start fed files given → AwaitsIn m k named start fed files given
awaits_by l m h k named start fed files given e f w = subst (λ b. AwaitsIn b k named start fed files given) (sym e) (subst (λ g. AwaitsIn l g named start fed files given) (sym f) w)

-- whatever the lines are
lines_by : (l m : Bool) (start h : Holds) (fed : List ℕ) (files : Files) (given lines : List ℕ) (fault : Option ℕ) → m ≡ l → AfterLines l start h fed files (given ++ lines) fault → AfterLines m start h fed files ((given ++ []) ++ lines) fault
lines_by l m start h fed files given lines fault e a =
    subst (λ b. AfterLines b start h fed files ((given ++ []) ++ lines) fault) (sym e)
    (subst (λ t. AfterLines l start h fed files (t ++ lines) fault) (sym (append-nil given)) a)

module _ (old new : FileExpansion) (going : old.progress.status ≡ statuses.Going) where
  -- ---- an entry

  pub entered_one : (part : List ℕ) (tokens : List Token) (before after : List ℕ) → new.unfinished.octets ≡ [] → IsOneEntry (old.unfinished.octets ++ part) tokens → Entered tokens false old.progress new.progress before after → Follows old part new before after
  entered_one part tokens before after none one (was_written made becomes w st) = record {
    made = made;
    written = w;
    stands = λ start fed files given s. to_status new statuses.Going start (fed ++ part) files (given ++ made) st
        (subst (λ t. Continues start new.progress.holding t (fed ++ part) files (given ++ made)) (sym none)
        (continues_entry start old.progress.holding old.unfinished.octets part fed files given (from_status old statuses.Going start fed files given going s) tokens one made new.progress.holding becomes));
  }
  entered_one part tokens before after none one (has_opened named becomes w same st inc last) = record {
    made = origin_line named.origin;
    written = w;
    stands = λ start fed files given s. to_status new statuses.Including start (fed ++ part) files (given ++ origin_line named.origin) st (
      named,
      inc,
      awaits_by false new.progress.last old.progress.holding new.progress.holding named start (fed ++ part) files (given ++ origin_line named.origin) last same
          (continues_after start old.progress.holding old.unfinished.octets part fed files given (from_status old statuses.Going start fed files given going s) tokens one named.name named.origin becomes),
    );
  }
  entered_one part tokens before after none one (has_begun g becomes w st gen last) = record {
    made = [];
    written = w ∙ sym (append-nil before);
    stands = λ start fed files given s. to_status new statuses.Generating start (fed ++ part) files (given ++ []) st (
      g,
      gen,
      λ lines fault are. lines_by false new.progress.last start new.progress.holding (fed ++ part) files given lines fault last
          (continues_lines start old.progress.holding old.unfinished.octets part fed files given (from_status old statuses.Going start fed files given going s) tokens one new.progress.holding lines fault (becomes lines fault are)),
    );
  }
  entered_one part tokens before after none one (has_failed fault becomes w st) = record {
    made = [];
    written = w ∙ sym (append-nil before);
    stands = λ start fed files given s. to_status new (statuses.Faulty fault) start (fed ++ part) files (given ++ []) st
        (subst (λ t. Expands start (fed ++ part) files t (stops fault)) (sym (append-nil given))
        (continues_failed start old.progress.holding old.unfinished.octets part fed files given (from_status old statuses.Going start fed files given going s) tokens one fault becomes));
  }

  -- ---- the last entry, which no line feed ends

  module _ (tokens : List Token) (cut : Cuts old.unfinished.octets tokens) (none : (cut_from zero tokens).ended ≡ []) (some : old.unfinished.octets ≡ [] → ⊥) where
    leads : (start : Holds) (fed : List ℕ) (files : Files) (given : List ℕ) → Continues start old.progress.holding old.unfinished.octets fed files given
        → (later : Files) (written : List ℕ) (ending : Ending) → Expands old.progress.holding old.unfinished.octets later written ending → Expands start (fed ++ []) (then files later) (given ++ written) ending
    leads start fed files given c later written ending x = c [] later written ending (subst (λ t. Expands old.progress.holding t later written ending) (sym (append-nil old.unfinished.octets)) x)

    pub entered_last : (before after : List ℕ) → Entered (tokens ++ line_feed ∷ []) true old.progress new.progress before after → Follows old [] new before after
    entered_last before after (was_written made becomes w st) = record {
      made = made;
      written = w;
      stands = λ start fed files given s. to_status new statuses.Ended start (fed ++ []) files (given ++ made) st
          (leads_ended start old.progress.holding (fed ++ []) files given old.unfinished.octets (leads start fed files given (from_status old statuses.Going start fed files given going s)) (tokens ++ line_feed ∷ []) (file_last old.unfinished.octets tokens cut none some) made new.progress.holding becomes);
    }
    entered_last before after (has_opened named becomes w same st inc last) = record {
      made = origin_line named.origin;
      written = w;
      stands = λ start fed files given s. to_status new statuses.Including start (fed ++ []) files (given ++ origin_line named.origin) st (
        named,
        inc,
        awaits_by true new.progress.last old.progress.holding new.progress.holding named start (fed ++ []) files (given ++ origin_line named.origin) last same
            (leads_after start old.progress.holding (fed ++ []) files given old.unfinished.octets (leads start fed files given (from_status old statuses.Going start fed files given going s)) (tokens ++ line_feed ∷ []) (file_last old.unfinished.octets tokens cut none some) named.name named.origin becomes),
      );
    }
    entered_last before after (has_begun g becomes w st gen last) = record {
      made = [];
      written = w ∙ sym (append-nil before);
      stands = λ start fed files given s. to_status new statuses.Generating start (fed ++ []) files (given ++ []) st (
        g,
        gen,
        λ lines fault are. lines_by true new.progress.last start new.progress.holding (fed ++ []) files given lines fault last
            (leads_lines start old.progress.holding (fed ++ []) files given old.unfinished.octets (leads start fed files given (from_status old statuses.Going start fed files given going s)) (tokens ++ line_feed ∷ []) (file_last old.unfinished.octets tokens cut none some) new.progress.holding lines fault (becomes lines fault are)),
      );
    }
    entered_last before after (has_failed fault becomes w st) = record {
      made = [];
      written = w ∙ sym (append-nil before);
      stands = λ start fed files given s. to_status new (statuses.Faulty fault) start (fed ++ []) files (given ++ []) st
          (subst (λ t. Expands start (fed ++ []) files t (stops fault)) (sym (append-nil given))
          (leads_failed start old.progress.holding (fed ++ []) files given old.unfinished.octets (leads start fed files given (from_status old statuses.Going start fed files given going s)) (tokens ++ line_feed ∷ []) [] None (file_last old.unfinished.octets tokens cut none some) fault becomes));
    }

  -- ---- octets that go on with an entry, and octets that break

  pub follows_open : (part before : List ℕ) → new.progress ≡ old.progress → new.unfinished.octets ≡ old.unfinished.octets ++ part → Follows old part new before before
  follows_open part before same more = record {
    made = [];
    written = sym (append-nil before);
    stands = λ start fed files given s. to_status new statuses.Going start (fed ++ part) files (given ++ []) (ap (λ (p : Progress). p.status) same ∙ going)
        (subst (λ t. Continues start new.progress.holding new.unfinished.octets (fed ++ part) files t) (sym (append-nil given))
        (subst (λ t. Continues start new.progress.holding t (fed ++ part) files given) (sym more)
        (subst (λ (p : Progress). Continues start p.holding (old.unfinished.octets ++ part) (fed ++ part) files given) (sym same)
        (continues_more start old.progress.holding old.unfinished.octets part fed files given (from_status old statuses.Going start fed files given going s)))));
  }

  pub follows_break : (part before after : List ℕ) (fault : Fault) → new.progress.status ≡ statuses.Broken → IsBrokenOff (old.unfinished.octets ++ part) fault → after ≡ before ++ (old.unfinished.octets ++ part) → Follows old part new before after
  follows_break part before after fault st b w = record {
    made = old.unfinished.octets ++ part;
    written = w;
    stands = λ start fed files given s. to_status new statuses.Broken start (fed ++ part) files (given ++ (old.unfinished.octets ++ part)) st
        (continues_broken start old.progress.holding old.unfinished.octets part fed files given (from_status old statuses.Going start fed files given going s) fault b);
  }

  -- ---- the end of the file

  pub ends_none : (before : List ℕ) → old.unfinished.octets ≡ [] → new.progress.status ≡ statuses.Ended → new.progress.holding ≡ old.progress.holding → Follows old [] new before before
  ends_none before none st same = record {
    made = [];
    written = sym (append-nil before);
    stands = λ start fed files given s. to_status new statuses.Ended start (fed ++ []) files (given ++ []) st
        (subst (λ f. Expands start (fed ++ []) f (given ++ []) (ends new.progress.holding)) (then_none files)
        (from_status old statuses.Going start fed files given going s [] no_files [] (ends new.progress.holding)
        (subst (λ t. Expands old.progress.holding (t ++ []) no_files [] (ends new.progress.holding)) (sym none)
        (subst (λ h. Expands old.progress.holding [] no_files [] (ends h)) (sym same)
        (record { entries = []; tail = None; is_file = file_none; each = (refl, refl) })))));
  }

  pub ends_broken : (before after : List ℕ) (fault : Fault) → EndIs old.unfinished.octets (Some fault) → new.progress.status ≡ statuses.BrokenOff → after ≡ before ++ old.unfinished.octets → Follows old [] new before after
  ends_broken before after fault e st w = record {
    made = old.unfinished.octets;
    written = w;
    stands = λ start fed files given s. to_status new statuses.BrokenOff start (fed ++ []) files (given ++ old.unfinished.octets) st
        (subst (λ f. Expands start (fed ++ []) f (given ++ old.unfinished.octets) breaks_off) (then_none files)
        (from_status old statuses.Going start fed files given going s [] no_files old.unfinished.octets breaks_off
        (subst (λ t. Expands old.progress.holding t no_files old.unfinished.octets breaks_off) (sym (append-nil old.unfinished.octets))
        (record { entries = []; tail = Some old.unfinished.octets; is_file = file_breaks old.unfinished.octets fault e.0 e.1 e.2; each = (refl, refl) }))));
  }

  -- ---- a front of octets

  -- lines that stay
  pub lines_taken : (octets lines left before after : List ℕ) → old.unfinished.octets ≡ [] → new.unfinished.octets ≡ [] → new.progress.status ≡ statuses.Going → octets ≡ lines ++ left → Stays old.progress.holding lines new.progress.holding → after ≡ before ++ lines → TakesFront old octets left new before after
  lines_taken octets lines left before after none none_new st parts stay w = record {
    part = lines;
    whole = parts;
    writes = record {
      made = lines;
      written = w;
      stands = λ start fed files given s. to_status new statuses.Going start (fed ++ lines) files (given ++ lines) st
          (subst (λ t. Continues start new.progress.holding t (fed ++ lines) files (given ++ lines)) (sym none_new)
          (stay start fed files given (subst (λ t. Continues start old.progress.holding t fed files given) none (from_status old statuses.Going start fed files given going s))));
    };
  }

  -- the entry at the front is whole
  pub whole_taken : (octets front left : List ℕ) (n : ℕ) (kept : List RawItem) (before after : List ℕ) → old.unfinished.octets ≡ [] → new.unfinished ≡ old.unfinished → front ≡ take n octets → left ≡ drop n octets → IsFirstEntry octets n kept → Enters old.progress front kept false new.progress before after → TakesFront old octets left new before after
  whole_taken octets front left n kept before after none same front_is left_is first enters = record {
    part = take n octets;
    whole = sym (ap (λ t. take n octets ++ t) left_is ∙ take-append-drop n octets);
    writes = entered_one (take n octets) first.tokens before after (ap (λ (h : HeldEntry). h.octets) same ∙ none)
        (subst (λ t. IsOneEntry (t ++ take n octets) first.tokens) (sym none) first.one)
        (enters first.tokens (sym first.one.cut.whole ∙ sym front_is) first.stated);
  }

  module _ (octets left : List ℕ) (found : Taken) (held : HeldEntry) (takes : TakesFrom old.unfinished octets found held) (left_is : left ≡ drop found.len octets) where
    parts : octets ≡ take found.len octets ++ left
    parts = sym (ap (λ t. take found.len octets ++ t) left_is ∙ take-append-drop found.len octets)

    -- it goes on
    pub open_taken : (before : List ℕ) → new.progress ≡ old.progress → new.unfinished ≡ held → TakesFront old octets left new before before
    open_taken before same is = record { part = take found.len octets; whole = parts; writes = follows_open (take found.len octets) before same (ap (λ (h : HeldEntry). h.octets) is ∙ takes.octets) }

    -- it is ended
    pub ended_taken : (before after : List ℕ) → found.state ≡ Ended → EntersOctets held.octets old.progress new.progress before after → new.unfinished.octets ≡ [] → TakesFront old octets left new before after
    ended_taken before after state enters none =
        let one : (tokens : List Token) × IsOneEntry held.octets tokens = subst (EntryIs held.octets) (takes.state ∙ state) takes.is in
        record {
          part = take found.len octets;
          whole = parts;
          writes = entered_one (take found.len octets) one.0 before after none (subst (λ t. IsOneEntry t one.0) takes.octets one.1) (enters one.0 one.1.cut);
        }

    -- it broke
    pub broken_taken : (before after : List ℕ) (fault : Fault) → found.state ≡ Broken fault → new.progress.status ≡ statuses.Broken → after ≡ before ++ held.octets → TakesFront old octets left new before after
    broken_taken before after fault state st w =
        let b : IsBrokenOff held.octets fault = subst (EntryIs held.octets) (takes.state ∙ state) takes.is in
        record {
          part = take found.len octets;
          whole = parts;
          writes = follows_break (take found.len octets) before after fault st (subst (λ t. IsBrokenOff t fault) takes.octets b) (w ∙ ap (λ t. before ++ t) takes.octets);
        }

    pub fewer_left : IsExpander old → 0 < length octets → length left < length octets
    fewer_left is some = let moves : 0 < found.len = takes.some is.state some in omega (arith, moves, takes.within, ap length left_is, length-drop found.len octets)

-- fewer octets were offered than there are
pub some_taken : (old new : FileExpansion) (octets some after left : List ℕ) (n : ℕ) (before written : List ℕ) → octets ≡ some ++ after → n ≤ length some → left ≡ drop n octets → TakesFront old some (drop n some) new before written → TakesFront old octets left new before written
some_taken old new octets some after left n before written parts within is f = record {
  part = f.part;
  whole = parts ∙ ap (λ t. t ++ after) f.whole ∙ append_assoc f.part (drop n some) after ∙ ap (λ t. f.part ++ t) (sym (is ∙ ap (drop n) parts ∙ drop_inside n some after within));
  writes = f.writes;
}

-- ---- octets more

pub follows_then : (a b c : FileExpansion) (p q x y z : List ℕ) → Follows a p b x y → Follows b q c y z → Follows a (p ++ q) c x z
follows_then a b c p q x y z f g = record {
  made = f.made ++ g.made;
  written = g.written ∙ ap (λ t. t ++ g.made) f.written ∙ append_assoc x f.made g.made;
  stands = λ start fed files given s.
      subst (λ t. StandsFor (state_of c) start (fed ++ (p ++ q)) files t) (append_assoc given f.made g.made)
      (subst (λ t. StandsFor (state_of c) start t files ((given ++ f.made) ++ g.made)) (append_assoc fed p q)
      (g.stands start (fed ++ p) files (given ++ f.made) (f.stands start fed files given s)));
}

pub follows_none : (a : FileExpansion) (x : List ℕ) → Follows a [] a x x
follows_none a x = record {
  made = [];
  written = sym (append-nil x);
  stands = λ start fed files given s. subst (λ t. StandsFor (state_of a) start (fed ++ []) files t) (sym (append-nil given)) (subst (λ t. StandsFor (state_of a) start t files given) (sym (append-nil fed)) s);
}

-- the octets after those that broke
pub broken_on : (a : FileExpansion) (rest x y : List ℕ) → a.progress.status ≡ statuses.Broken → y ≡ x ++ rest → Follows a rest a x y
broken_on a rest x y st w = record {
  made = rest;
  written = w;
  stands = λ start fed files given s. to_status a statuses.Broken start (fed ++ rest) files (given ++ rest) st
      (λ more. subst (λ t. Expands start t files ((given ++ rest) ++ more) breaks_off) (sym (append_assoc fed rest more))
      (subst (λ t. Expands start (fed ++ (rest ++ more)) files t breaks_off) (sym (append_assoc given rest more))
      (from_status a statuses.Broken start fed files given st s (rest ++ more))));
}

-- and their end
pub broken_ends : (a b : FileExpansion) (x : List ℕ) → a.progress.status ≡ statuses.Broken → b.progress.status ≡ statuses.BrokenOff → Follows a [] b x x
broken_ends a b x st end = record {
  made = [];
  written = sym (append-nil x);
  stands = λ start fed files given s. to_status b statuses.BrokenOff start (fed ++ []) files (given ++ []) end (from_status a statuses.Broken start fed files given st s []);
}

-- ---- after an included file

-- the file goes on, or ends with it
goes_on : (x : FileExpansion) (last : Bool) (start : Holds) (fed : List ℕ) (files : Files) (given : List ℕ) → x.progress.status ≡ end_of last → x.unfinished.octets ≡ [] → GoesOn last start x.progress.holding fed files given → StandsFor (state_of x) start fed files given
goes_on x true start fed files given st none g = to_status x statuses.Ended start fed files given st g
goes_on x false start fed files given st none g = to_status x statuses.Going start fed files given st (subst (λ t. Continues start x.progress.holding t fed files given) (sym none) g)

module _ (old inner new : FileExpansion) (including : old.progress.status ≡ statuses.Including) (none : new.unfinished.octets ≡ []) where
  module _ (named : NamedFile) (start : Holds) (fed : List ℕ) (files : Files) (given own : List ℕ) (below : Files) (inside : List ℕ) (inc : (state_of old).included ≡ Some named) (s : StandsFor (state_of old) start fed files given) where
    abbrev all : Files
    all = then files (file own below no_files)

    after_it : (ending : Ending) → Expands (within named.name named.origin old.progress.holding) own below inside ending → AfterInner old.progress.last start old.progress.holding fed all (given ++ inside) ending
    after_it ending x =
        let w = from_status old statuses.Including start fed files given including s in
        let same : w.0 ≡ named = cc (w.1, inc) in
        w.2 own below inside ending (subst (λ (n : NamedFile). Expands (within n.name n.origin old.progress.holding) own below inside ending) (sym same) x)

    back : inner.progress.status ≡ statuses.Ended → new.progress.holding ≡ back_in old.progress.holding inner.progress.holding → new.progress.status ≡ end_of old.progress.last → StandsFor (state_of inner) (within named.name named.origin old.progress.holding) own below inside → StandsFor (state_of new) start fed all ((given ++ inside) ++ origin_line old.progress.holding.origin)
    back st same end i = goes_on new old.progress.last start fed all ((given ++ inside) ++ origin_line old.progress.holding.origin) end none
        (subst (λ h. GoesOn old.progress.last start h fed all ((given ++ inside) ++ origin_line old.progress.holding.origin)) (sym same)
        (after_it (ends inner.progress.holding) (from_status inner statuses.Ended (within named.name named.origin old.progress.holding) own below inside st i)))

    breaks : new.progress.status ≡ statuses.BrokenOff → Expands (within named.name named.origin old.progress.holding) own below inside breaks_off → StandsFor (state_of new) start fed all ((given ++ inside) ++ [])
    breaks end x = to_status new statuses.BrokenOff start fed all ((given ++ inside) ++ []) end
        (subst (λ t. Expands start fed all t breaks_off) (sym (append-nil (given ++ inside))) (after_it breaks_off x))

    broken_in : inner.progress.status ≡ statuses.Broken → StandsFor (state_of inner) (within named.name named.origin old.progress.holding) own below inside → Expands (within named.name named.origin old.progress.holding) own below inside breaks_off
    broken_in st i =
        subst (λ t. Expands (within named.name named.origin old.progress.holding) t below inside breaks_off) (append-nil own)
        (subst (λ t. Expands (within named.name named.origin old.progress.holding) (own ++ []) below t breaks_off) (append-nil inside)
        (from_status inner statuses.Broken (within named.name named.origin old.progress.holding) own below inside st i []))

    faulty : (fault : ExpansionFault) → inner.progress.status ≡ statuses.Faulty fault → new.progress.status ≡ statuses.Faulty fault → StandsFor (state_of inner) (within named.name named.origin old.progress.holding) own below inside → StandsFor (state_of new) start fed all ((given ++ inside) ++ [])
    faulty fault st end i = to_status new (statuses.Faulty fault) start fed all ((given ++ inside) ++ []) end
        (subst (λ t. Expands start fed all t (stops fault)) (sym (append-nil (given ++ inside)))
        (after_it (stops fault) (from_status inner (statuses.Faulty fault) (within named.name named.origin old.progress.holding) own below inside st i)))

  faulty_at : (value : ℕ) → inner.progress.status ≡ statuses.FaultyAt value → new.progress.status ≡ statuses.FaultyAt value → (named : NamedFile) (start : Holds) (fed : List ℕ) (files : Files) (given own : List ℕ) (below : Files) (inside : List ℕ) → (state_of old).included ≡ Some named → StandsFor (state_of old) start fed files given → StandsFor (state_of inner) (within named.name named.origin old.progress.holding) own below inside → StandsFor (state_of new) start fed (then files (file own below no_files)) ((given ++ inside) ++ [])
  faulty_at value st end named start fed files given own below inside inc s i = to_status new (statuses.FaultyAt value) start fed (then files (file own below no_files)) ((given ++ inside) ++ []) end
      (subst (λ t. Expands start fed (then files (file own below no_files)) t (stops_at value)) (sym (append-nil (given ++ inside)))
      (after_it named start fed files given own below inside inc s (stops_at value) (from_status inner (statuses.FaultyAt value) (within named.name named.origin old.progress.holding) own below inside st i)))

  included_by : (status : FileStatus) (before after : List ℕ) → inner.progress.status ≡ status → TakesInnerBy status old.progress inner.progress new.progress before after → TakesIncluded (state_of old) (state_of inner) (state_of new) before after
  included_by statuses.Ended before after st t = record {
    made = origin_line old.progress.holding.origin;
    written = t.0;
    stands = λ named start fed files given own below inside inc s i. back named start fed files given own below inside inc s st t.1 t.2 i;
  }
  included_by statuses.Broken before after st t = record {
    made = [];
    written = t.0 ∙ sym (append-nil before);
    stands = λ named start fed files given own below inside inc s i. breaks named start fed files given own below inside inc s t.1 (broken_in named start fed files given own below inside inc s st i);
  }
  included_by statuses.BrokenOff before after st t = record {
    made = [];
    written = t.0 ∙ sym (append-nil before);
    stands = λ named start fed files given own below inside inc s i. breaks named start fed files given own below inside inc s t.1 (from_status inner statuses.BrokenOff (within named.name named.origin old.progress.holding) own below inside st i);
  }
  included_by (statuses.Faulty fault) before after st t = record {
    made = [];
    written = t.0 ∙ sym (append-nil before);
    stands = λ named start fed files given own below inside inc s i. faulty named start fed files given own below inside inc s fault st t.1 i;
  }
  included_by (statuses.FaultyAt value) before after st t = record {
    made = [];
    written = t.0 ∙ sym (append-nil before);
    stands = λ named start fed files given own below inside inc s i. faulty_at value st t.1 named start fed files given own below inside inc s i;
  }
  included_by statuses.Generating before after st t = record {
    made = [];
    written = t.0 ∙ sym (append-nil before);
    stands = λ named start fed files given own below inside inc s i. to_status new statuses.Failed start fed (then files (file own below no_files)) ((given ++ inside) ++ []) t.1 tt;
  }
  included_by statuses.Going before after st t = record {
    made = [];
    written = t.0 ∙ sym (append-nil before);
    stands = λ named start fed files given own below inside inc s i. to_status new statuses.Failed start fed (then files (file own below no_files)) ((given ++ inside) ++ []) t.1 tt;
  }
  included_by statuses.Including before after st t = record {
    made = [];
    written = t.0 ∙ sym (append-nil before);
    stands = λ named start fed files given own below inside inc s i. to_status new statuses.Failed start fed (then files (file own below no_files)) ((given ++ inside) ++ []) t.1 tt;
  }
  included_by statuses.Failed before after st t = record {
    made = [];
    written = t.0 ∙ sym (append-nil before);
    stands = λ named start fed files given own below inside inc s i. to_status new statuses.Failed start fed (then files (file own below no_files)) ((given ++ inside) ++ []) t.1 tt;
  }

  pub included_taken : (before after : List ℕ) → TakesInner old.progress inner.progress new.progress before after → TakesIncluded (state_of old) (state_of inner) (state_of new) before after
  included_taken before after t = included_by inner.progress.status before after refl t

-- ---- lines that come first

module _ (old new : FileExpansion) (generating : old.progress.status ≡ statuses.Generating) (none : new.unfinished.octets ≡ []) where
  module _ (g left : Generation) (is : old.progress.generated ≡ Some g) (before after : List ℕ) (takes : TakesLines g left before after) (start : Holds) (fed : List ℕ) (files : Files) (given : List ℕ) (s : StandsFor (state_of old) start fed files given) where
    -- whatever the lines after these are
    after_them : (more : List ℕ) (fault : Option ℕ) → AreLines left.templates left.values more fault → AfterLines old.progress.last start old.progress.holding fed files (given ++ (takes.lines ++ more)) fault
    after_them more fault are =
        let w = from_status old statuses.Generating start fed files given generating s in
        let same : g ≡ w.0 = cc (w.1, is) in
        let all : AreLines g.templates (takes.values ++ left.values) (takes.lines ++ more) fault = lines_joined g.templates takes.values left.values takes.lines more fault takes.are (subst (λ t. AreLines t left.values more fault) takes.templates are) in
        w.2 (takes.lines ++ more) fault
        (subst (λ (t : Generation). AreLines t.templates t.values (takes.lines ++ more) fault) same
        (subst (λ v. AreLines g.templates v (takes.lines ++ more) fault) (sym takes.others) all))

    -- there are none after these
    after_all : (fault : Option ℕ) → AreLines left.templates left.values [] fault → AfterLines old.progress.last start old.progress.holding (fed ++ []) files (given ++ takes.lines) fault
    after_all fault are =
        subst (λ t. AfterLines old.progress.last start old.progress.holding t files (given ++ takes.lines) fault) (sym (append-nil fed))
        (subst (λ t. AfterLines old.progress.last start old.progress.holding fed files (given ++ t) fault) (append-nil takes.lines)
        (after_them [] fault are))

  pub lines_follow : (before after : List ℕ) → GivesLines old.progress new.progress before after → Follows old [] new before after
  lines_follow before after (gives_some g left is takes gen few st same last) = record {
    made = takes.lines;
    written = takes.appended;
    stands = λ start fed files given s. to_status new statuses.Generating start (fed ++ []) files (given ++ takes.lines) st (
      left,
      gen,
      λ more fault are.
          subst (λ t. AfterLines new.progress.last start new.progress.holding t files ((given ++ takes.lines) ++ more) fault) (sym (append-nil fed))
          (subst (λ t. AfterLines new.progress.last start new.progress.holding fed files t fault) (sym (append_assoc given takes.lines more))
          (subst (λ b. AfterLines b start new.progress.holding fed files (given ++ (takes.lines ++ more)) fault) (sym last)
          (subst (λ h. AfterLines old.progress.last start h fed files (given ++ (takes.lines ++ more)) fault) (sym same)
          (after_them g left is before after takes start fed files given s more fault are)))),
    );
  }
  lines_follow before after (gives_last g left is takes empty st same) = record {
    made = takes.lines;
    written = takes.appended;
    stands = λ start fed files given s. goes_on new old.progress.last start (fed ++ []) files (given ++ takes.lines) st none
        (subst (λ h. GoesOn old.progress.last start h (fed ++ []) files (given ++ takes.lines)) (sym same)
        (after_all g left is before after takes start fed files given s None (none_left left empty)));
  }
  lines_follow before after (gives_fault g left value is takes lacks st) = record {
    made = takes.lines;
    written = takes.appended;
    stands = λ start fed files given s. to_status new (statuses.FaultyAt value) start (fed ++ []) files (given ++ takes.lines) st
        (after_all g left is before after takes start fed files given s (Some value) (stopped left value lacks));
  }
  lines_follow before after (has_none is w st) = record {
    made = [];
    written = w ∙ sym (append-nil before);
    stands = λ start fed files given s. to_status new statuses.Failed start (fed ++ []) files (given ++ []) st tt;
  }

not_generating : (last : Bool) → end_of last ≡ statuses.Generating → ⊥
not_generating true e = absurd cc
not_generating false e = absurd cc

pub fewer_lines : (old new : FileExpansion) (before after : List ℕ) → GivesLines old.progress new.progress before after → HasFewerLines (state_of old) (state_of new)
fewer_lines old new before after (gives_some g left is takes gen few st same last) e =
    subst (λ o. lines_left o < lines_left old.progress.generated) (sym gen) (subst (λ o. length left.values < lines_left o) (sym is) few)
fewer_lines old new before after (gives_last g left is takes empty st same) e = absurd (not_generating old.progress.last (sym st ∙ e))
fewer_lines old new before after (gives_fault g left value is takes lacks st) e = absurd (let no_way : statuses.FaultyAt value ≡ statuses.Generating = sym st ∙ e in cc)
fewer_lines old new before after (has_none is w st) e = absurd (let no_way : statuses.Failed ≡ statuses.Generating = sym st ∙ e in cc)

-- ---- nothing yet

pub stands_new : (x : FileExpansion) (start : Holds) → x.progress.status ≡ statuses.Going → x.progress.holding ≡ start → x.unfinished.octets ≡ [] → StandsFor (state_of x) start [] no_files []
stands_new x start st same none = to_status x statuses.Going start [] no_files [] st
    (subst (λ t. Continues start x.progress.holding t [] no_files []) (sym none)
    (subst (λ h. Continues start h [] [] no_files []) (sym same) (λ more later written ending e. e)))

-- ---- fronts of a piece

pub front_begins : (a : FileExpansion) (piece x : List ℕ) → TakesFront a piece piece a x x
front_begins a piece x = record { part = []; whole = refl; writes = follows_none a x }

pub front_more : (a b c : FileExpansion) (piece rest left x y z : List ℕ) → TakesFront a piece rest b x y → TakesFront b rest left c y z → TakesFront a piece left c x z
front_more a b c piece rest left x y z f g = record {
  part = f.part ++ g.part;
  whole = f.whole ∙ ap (λ t. f.part ++ t) g.whole ∙ sym (append_assoc f.part g.part left);
  writes = follows_then a b c f.part g.part x y z f.writes g.writes;
}

pub front_broken : (a b : FileExpansion) (piece rest x y z : List ℕ) → TakesFront a piece rest b x y → b.progress.status ≡ statuses.Broken → z ≡ y ++ rest → TakesFront a piece [] b x z
front_broken a b piece rest x y z f st w = front_more a b b piece rest [] x y z f (record { part = rest; whole = sym (append-nil rest); writes = broken_on b rest y z st w })

-- ---- the last entry of a file

pub end_follows : (old new : FileExpansion) → old.progress.status ≡ statuses.Going → (fault : Option Fault) → fault ≡ None → EndIs old.unfinished.octets fault → (old.unfinished.octets ≡ [] → ⊥) → (before after : List ℕ) → EntersLast old.unfinished.octets old.progress new.progress before after → Follows old [] new before after
end_follows old new going fault is end some before after enters =
    let e : EndIs old.unfinished.octets None = subst (EndIs old.unfinished.octets) is end in
    entered_last old new going e.0 e.1 e.2 some before after (enters e.0 e.1)

over_by : (tokens : List Token) (old new : Progress) (before after : List ℕ) → Entered tokens true old new before after → IsOver new.status
over_by tokens old new before after (was_written made becomes w st) = ((λ e. let no_way : statuses.Ended ≡ statuses.Going = sym st ∙ e in absurd cc), (λ e. let no_way : statuses.Ended ≡ statuses.Broken = sym st ∙ e in absurd cc))
over_by tokens old new before after (has_opened named becomes w same st inc last) = ((λ e. let no_way : statuses.Including ≡ statuses.Going = sym st ∙ e in absurd cc), (λ e. let no_way : statuses.Including ≡ statuses.Broken = sym st ∙ e in absurd cc))
over_by tokens old new before after (has_begun g becomes w st gen last) = ((λ e. let no_way : statuses.Generating ≡ statuses.Going = sym st ∙ e in absurd cc), (λ e. let no_way : statuses.Generating ≡ statuses.Broken = sym st ∙ e in absurd cc))
over_by tokens old new before after (has_failed fault becomes w st) = ((λ e. let no_way : statuses.Faulty fault ≡ statuses.Going = sym st ∙ e in absurd cc), (λ e. let no_way : statuses.Faulty fault ≡ statuses.Broken = sym st ∙ e in absurd cc))

pub end_over : (old new : FileExpansion) (fault : Option Fault) → fault ≡ None → EndIs old.unfinished.octets fault → (before after : List ℕ) → EntersLast old.unfinished.octets old.progress new.progress before after → IsOver new.progress.status
end_over old new fault is end before after enters =
    let e : EndIs old.unfinished.octets None = subst (EndIs old.unfinished.octets) is end in
    over_by (e.0 ++ line_feed ∷ []) old.progress new.progress before after (enters e.0 e.1)
