-- The stack of the files that are open: what it stands for after each call.
use Rattle.std.proofs.Common.{◌≡◌, ℕ, zero, suc, ◌+◌, ◌≤◌, ◌⊎◌, inl, inr, Bool, ◌<◌, List, [], ◌∷◌, ◌++◌, length, Option, Some, None, refl, sym, ap, subst, ◌∙◌, append_assoc, append-nil, arith}
use Rattle.std.proofs.lemmas.List.{reverse-append}
use Rattle.std.proofs.lemmas.List.Elements.{All-pop, All-push, All-same}
use Rattle.std.proofs.lemmas.List.Sums.{sum_by-append}
use Rattle.std.specs.List.{All}
use Rattle.std.specs.Prelude.{IfSome, drop, option_to_list, reverse}
use Rattle.zone_name.specs.Common.{Labels}
use Rattle.zone_files.specs.Expansion.{Ending, Expands, Files, Holds, IsExpandedWithout, breaks_off, ends, file, first_without, last_line, no_files, stops, stops_at, within}
use Rattle.zone_files.specs.FileExpander.{AfterInner, Awaits, ExpanderState, Feeds, HasFewerLines, IsOver, NamedFile, StandsBy, StandsFor, TakesIncluded, WritesFor, then}
use Rattle.zone_files.specs.IncludeStack.{AllWait, BeginsInner, EndsInnermost, FedFile, FedFiles, FeedsInnermost, MakesLines, StackState, StandForFiles, StandsForFiles, WaitsFor, WritesForFiles, ended_by, fed_ended, fed_inner, fed_more, feeds_in, line_after_text, main_alone, main_by, main_file, stop_line, with_inner}
use Rattle.zone_files.specs.Machine.Stacking.{EndsOutward, EndsSoFar, GivesOn, IsSameOrShorter, StopsText, TakesPart}
use Rattle.zone_files.specs.Places.{counted}
use Rattle.zone_files.specs.declared.expansion.progress.FileStatus.{FileStatus}
use Rattle.zone_files.specs.declared.expansion.progress.FileStatus.TheVariants as statuses
use Rattle.zone_files.specs.declared.fault.ExpansionFault.{ExpansionFault}

-- ---- lines

feeds_of_both : (xs ys : List ℕ) → feeds_in (xs ++ ys) ≡ feeds_in xs + feeds_in ys
feeds_of_both xs ys = sum_by-append _ xs ys

-- lines are counted piece by piece
counted_on : (a b c : ℕ) (xs ys : List ℕ) → b ≡ counted (a + feeds_in xs) → c ≡ counted (b + feeds_in ys) → c ≡ counted (a + feeds_in (xs ++ ys))
counted_on a b c xs ys was is = let both = feeds_of_both xs ys in rw (is, was, both) (omega arith)

after_more : (a b : ℕ) (text made : List ℕ) → a ≡ line_after_text text → b ≡ counted (a + feeds_in made) → b ≡ line_after_text (text ++ made)
after_more a b text made was is = let both = feeds_of_both text made in rw (is, was, both) (omega arith)

-- ---- steps

-- one step and another
pub gives_both : (a b c : StackState) (f g : FedFiles → FedFiles) (x y z : List ℕ) → GivesOn a f b x y → GivesOn b g c y z → GivesOn a (λ fed. g (f fed)) c x z
gives_both a b c f g x y z one other = record {
  made = one.made ++ other.made;
  written = other.written ∙ ap (λ t. t ++ other.made) one.written ∙ append_assoc x one.made other.made;
  line = counted_on a.next_line b.next_line c.next_line one.made other.made one.line other.line;
  stand = λ start fed given st. subst (StandForFiles c start (g (f fed))) (append_assoc given one.made other.made)
      (other.stand start (f fed) (given ++ one.made) (one.stand start fed given st));
}

-- the same change of what was fed, by another name
pub gives_by : (a b : StackState) (f g : FedFiles → FedFiles) (x y : List ℕ) → ((fed : FedFiles) → f fed ≡ g fed) → GivesOn a f b x y → GivesOn a g b x y
gives_by a b f g x y same gives = record {
  made = gives.made;
  written = gives.written;
  line = gives.line;
  stand = λ start fed given st. subst (λ t. StandForFiles b start t (given ++ gives.made)) (same fed) (gives.stand start fed given st);
}

-- octets of the innermost file
pub gives_part : (old new : StackState) (part before after : List ℕ) → new.outer ≡ old.outer → (w : WritesFor old.innermost part new.innermost before after) → new.next_line ≡ counted (old.next_line + feeds_in w.made) → GivesOn old (fed_more part) new before after
gives_part old new part before after outer w line = record {
  made = w.made;
  written = w.written;
  line = line;
  stand = λ first fed given st. record {
    start = st.start;
    earlier = st.earlier;
    outer = subst (λ states. AllWait first st.start states fed.outer st.earlier) (sym outer) st.outer;
    own = st.own ++ w.made;
    innermost = w.stands st.start fed.innermost.octets fed.innermost.files st.own st.innermost;
    given_is = ap (λ t. t ++ w.made) st.given_is ∙ append_assoc st.earlier st.own w.made;
  };
}

-- the end of the innermost file
pub gives_end : (old new : StackState) (before after : List ℕ) → new.outer ≡ old.outer → (w : WritesFor old.innermost [] new.innermost before after) → new.next_line ≡ counted (old.next_line + feeds_in w.made) → GivesOn old (λ fed. fed) new before after
gives_end old new before after outer w line = record {
  made = w.made;
  written = w.written;
  line = line;
  stand = λ first fed given st. record {
    start = st.start;
    earlier = st.earlier;
    outer = subst (λ states. AllWait first st.start states fed.outer st.earlier) (sym outer) st.outer;
    own = st.own ++ w.made;
    innermost = subst (λ octets. StandsFor new.innermost st.start octets fed.innermost.files (st.own ++ w.made)) (append-nil fed.innermost.octets)
        (w.stands st.start fed.innermost.octets fed.innermost.files st.own st.innermost);
    given_is = ap (λ t. t ++ w.made) st.given_is ∙ append_assoc st.earlier st.own w.made;
  };
}

-- ---- the file that waits for the innermost one goes on

module _ (old new : StackState) (s : ExpanderState) (others : List ExpanderState) (before after : List ℕ) (is : new.outer ≡ others) (taken : TakesIncluded s old.innermost new.innermost before after) where
  stands_outside : (first start : Holds) (inner : FedFile) (outer : List FedFile) (given earlier own : List ℕ) → AllWait first start (s ∷ others) outer earlier → StandsFor old.innermost start inner.octets inner.files own → given ≡ earlier ++ own → StandForFiles new first (ended_by 1 inner outer) (given ++ taken.made)
  stands_outside first start inner [] given earlier own all stands given_is = absurd all
  stands_outside first start inner (fed ∷ outer) given earlier own (waits, below, earlier_is, all) stands given_is = record {
    start = waits.start;
    earlier = below;
    outer = subst (λ states. AllWait first waits.start states outer below) (sym is) all;
    own = (waits.given ++ own) ++ taken.made;
    innermost = taken.stands waits.named waits.start fed.octets fed.files waits.given inner.octets inner.files own waits.included waits.stands
        (subst (λ h. StandsFor old.innermost h inner.octets inner.files own) waits.inside stands);
    given_is = ap (λ t. t ++ taken.made) (given_is ∙ ap (λ t. t ++ own) earlier_is ∙ append_assoc below waits.given own) ∙ append_assoc below (waits.given ++ own) taken.made;
  }

  pub gives_outside : old.outer ≡ s ∷ others → new.next_line ≡ counted (old.next_line + feeds_in taken.made) → GivesOn old (fed_ended 1) new before after
  gives_outside was line = record {
    made = taken.made;
    written = taken.written;
    line = line;
    stand = λ first fed given st. stands_outside first st.start fed.innermost fed.outer given st.earlier st.own
        (subst (λ states. AllWait first st.start states fed.outer st.earlier) was st.outer) st.innermost st.given_is;
  }

-- one more file has ended
one_more : (n : ℕ) (inner : FedFile) (outer : List FedFile) → fed_ended 1 (ended_by n inner outer) ≡ ended_by (suc n) inner outer
one_more zero inner outer = refl
one_more (suc n) inner [] = refl
one_more (suc n) inner (fed ∷ outer) = one_more n (with_inner fed inner) outer

pub one_ended : (n : ℕ) (fed : FedFiles) → fed_ended 1 (fed_ended n fed) ≡ fed_ended (suc n) fed
one_ended n fed = one_more n fed.innermost fed.outer

pub none_so_far : (start old : StackState) (before now : List ℕ) → old.outer ≡ start.outer → GivesOn start (λ fed. fed) old before now → EndsSoFar start old old before now
none_so_far start old before now outer gives = record {
  ended = 0;
  outer = ap length (sym outer) ∙ omega arith;
  gives = gives_by start old (λ fed. fed) (fed_ended 0) before now (λ fed. refl) gives;
  same = inl refl;
}

pub one_so_far : (start old cur new : StackState) (x y z : List ℕ) → EndsSoFar start old cur x y → length cur.outer ≡ 1 + length new.outer → GivesOn cur (fed_ended 1) new y z → EndsSoFar start old new x z
one_so_far start old cur new x y z far outer gives = record {
  ended = suc far.ended;
  outer = omega (arith, far.outer, outer);
  gives = gives_by start new (λ fed. fed_ended 1 (fed_ended far.ended fed)) (fed_ended (suc far.ended)) x z (one_ended far.ended)
      (gives_both start cur new (fed_ended far.ended) (fed_ended 1) x y z far.gives gives);
  same = inr (omega arith);
}

-- ---- the last line

stands_as : (mid new : StackState) (first : Holds) (fed : FedFiles) (given : List ℕ) → new.innermost ≡ mid.innermost → new.outer ≡ mid.outer → StandForFiles mid first fed given → StandForFiles new first fed given
stands_as mid new first fed given innermost outer st = record {
  start = st.start;
  earlier = st.earlier;
  outer = subst (λ states. AllWait first st.start states fed.outer st.earlier) (sym outer) st.outer;
  own = st.own;
  innermost = subst (λ (s : ExpanderState). StandsFor s st.start fed.innermost.octets fed.innermost.files st.own) (sym innermost) st.innermost;
  given_is = st.given_is;
}

pub with_last_line : (old mid new : StackState) (f : FedFiles → FedFiles) (x y z : List ℕ) → stop_line old.innermost.status ≡ [] → GivesOn old f mid x y → StopsText mid new y z → WritesForFiles old f new x z
with_last_line old mid new f x y z none gives stopped = record {
  made = gives.made ++ stop_line mid.innermost.status;
  written = stopped.written ∙ ap (λ t. t ++ stop_line mid.innermost.status) gives.written ∙ append_assoc x gives.made (stop_line mid.innermost.status);
  stands = λ first fed text st. record {
    given = st.given ++ gives.made;
    stand = stands_as mid new first (f fed) (st.given ++ gives.made) stopped.innermost stopped.outer (gives.stand first fed st.given st.stand);
    text_is = ap (λ t. t ++ (gives.made ++ stop_line mid.innermost.status)) (st.text_is ∙ ap (λ t. st.given ++ t) none ∙ append-nil st.given)
        ∙ sym (append_assoc st.given gives.made (stop_line mid.innermost.status))
        ∙ ap (λ (s : ExpanderState). (st.given ++ gives.made) ++ stop_line s.status) (sym stopped.innermost);
    line = after_more old.next_line new.next_line text (gives.made ++ stop_line mid.innermost.status) st.line
        (counted_on old.next_line mid.next_line new.next_line gives.made (stop_line mid.innermost.status) gives.line stopped.line);
  };
}

-- nothing is changed
pub writes_none : (s : StackState) (f : FedFiles → FedFiles) (before : List ℕ) → ((fed : FedFiles) → f fed ≡ fed) → WritesForFiles s f s before before
writes_none s f before same = record {
  made = [];
  written = sym (append-nil before);
  stands = λ first fed text st. subst (λ t. StandsForFiles s first t (text ++ [])) (sym (same fed)) (subst (StandsForFiles s first fed) (sym (append-nil text)) st);
}

fed_none : (fed : FedFiles) → fed_more [] fed ≡ fed
fed_none fed = ap (λ octets. record { innermost = record { octets = octets; files = fed.innermost.files }; outer = fed.outer }) (append-nil fed.innermost.octets)

pub feeds_none : (s : StackState) (piece before : List ℕ) → FeedsInnermost s piece piece s before before
feeds_none s piece before = record { part = []; whole = refl; outer = refl; writes = writes_none s (fed_more []) before fed_none }

pub feeds_part : (old mid new : StackState) (octets left x y z : List ℕ) → stop_line old.innermost.status ≡ [] → TakesPart old octets left mid x y → StopsText mid new y z → FeedsInnermost old octets left new x z
feeds_part old mid new octets left x y z none takes stopped = record {
  part = takes.part;
  whole = takes.whole;
  outer = stopped.outer ∙ takes.outer;
  writes = with_last_line old mid new (fed_more takes.part) x y z none takes.gives stopped;
}

pub takes_part : (old new : StackState) (octets left before after : List ℕ) → new.outer ≡ old.outer → (f : Feeds old.innermost octets left new.innermost before after) → new.next_line ≡ counted (old.next_line + feeds_in f.writes.made) → TakesPart old octets left new before after
takes_part old new octets left before after outer f line = record {
  part = f.part;
  whole = f.whole;
  outer = outer;
  gives = gives_part old new f.part before after outer f.writes line;
}

module _ (P : ExpanderState → Type 0) where
  kept_so_far : (old cur : StackState) (ended : ℕ) → (cur.innermost ≡ old.innermost) ⊎ (1 ≤ ended) → P old.innermost → P cur.innermost ⊎ (1 ≤ ended)
  kept_so_far old cur ended (inl same) p = inl (subst P (sym same) p)
  kept_so_far old cur ended (inr some) p = inr some

pub ends_innermost : (start old cur new : StackState) (x y z : List ℕ) → stop_line start.innermost.status ≡ [] → IsOver old.innermost.status → EndsSoFar start old cur x y → (cur.innermost.status ≡ statuses.Ended → cur.outer ≡ []) → StopsText cur new y z → EndsInnermost start new x z
ends_innermost start old cur new x y z none over far main stopped = record {
  ended = far.ended;
  outer = far.outer ∙ ap (λ (states : List ExpanderState). far.ended + length states) (sym stopped.outer);
  writes = with_last_line start cur new (fed_ended far.ended) x y z none far.gives stopped;
  main = λ is. stopped.outer ∙ main (ap (λ (s : ExpanderState). s.status) (sym stopped.innermost) ∙ is);
  over = subst (λ (s : ExpanderState). IsOver s.status ⊎ (1 ≤ far.ended)) (sym stopped.innermost) (kept_so_far (λ s. IsOver s.status) old cur far.ended far.same over);
}

-- where a fault has ended the text, nothing ends
pub ends_none : (s : StackState) (before : List ℕ) → IsOver s.innermost.status → (s.innermost.status ≡ statuses.Ended → ⊥) → EndsInnermost s s before before
ends_none s before over never = record {
  ended = 0;
  outer = omega arith;
  writes = writes_none s (fed_ended 0) before (λ fed. refl);
  main = λ ended. absurd (never ended);
  over = inl over;
}

pub makes_lines : (start old cur new : StackState) (x y z : List ℕ) → stop_line start.innermost.status ≡ [] → HasFewerLines start.innermost old.innermost → EndsSoFar start old cur x y → (cur.innermost.status ≡ statuses.Ended → cur.outer ≡ []) → StopsText cur new y z → MakesLines start new x z
makes_lines start old cur new x y z none fewer far main stopped = record {
  ended = far.ended;
  outer = far.outer ∙ ap (λ (states : List ExpanderState). far.ended + length states) (sym stopped.outer);
  writes = with_last_line start cur new (fed_ended far.ended) x y z none far.gives stopped;
  main = λ generating is. stopped.outer ∙ main (ap (λ (s : ExpanderState). s.status) (sym stopped.innermost) ∙ is);
  fewer = λ generating. subst (λ (s : ExpanderState). HasFewerLines start.innermost s ⊎ (1 ≤ far.ended)) (sym stopped.innermost) (kept_so_far (HasFewerLines start.innermost) old cur far.ended far.same fewer);
}

-- where no lines come first, none are made
pub makes_none : (s : StackState) (before : List ℕ) → (s.innermost.status ≡ statuses.Generating → ⊥) → MakesLines s s before before
makes_none s before never = record {
  ended = 0;
  outer = omega arith;
  writes = writes_none s (fed_ended 0) before (λ fed. refl);
  main = λ generating. absurd (never generating);
  fewer = λ generating. absurd (never generating);
}

-- ---- a file is opened

pub begins_inner : (old new : StackState) → old.innermost.status ≡ statuses.Including → new.innermost.status ≡ statuses.Going → new.outer ≡ old.innermost ∷ old.outer → new.next_line ≡ old.next_line
    → ((named : NamedFile) → old.innermost.included ≡ Some named → StandsFor new.innermost (within named.name named.origin old.innermost.holds) [] no_files [])
    → BeginsInner old new
begins_inner old new waits going outer line begun = record {
  going = going;
  outer = outer;
  stands = λ first fed text st.
      let (named, included, awaits) = subst (λ status. StandsBy status old.innermost st.stand.start fed.innermost.octets fed.innermost.files st.stand.own) waits st.stand.innermost in
      record {
        given = st.given;
        stand = record {
          start = within named.name named.origin old.innermost.holds;
          earlier = st.given;
          outer = subst (λ states. AllWait first (within named.name named.origin old.innermost.holds) states (fed.innermost ∷ fed.outer) st.given) (sym outer) (
            record {
              named = named;
              included = included;
              waits = waits;
              inside = refl;
              start = st.stand.start;
              given = st.stand.own;
              stands = st.stand.innermost;
            },
            st.stand.earlier,
            st.stand.given_is,
            st.stand.outer,
          );
          own = [];
          innermost = begun named included;
          given_is = sym (append-nil st.given);
        };
        text_is = st.text_is ∙ ap (λ status. st.given ++ stop_line status) waits ∙ sym (ap (λ status. st.given ++ stop_line status) going);
        line = line ∙ st.line;
      };
}

-- ---- the text of a main file that has ended

module _ (ending : Ending) (after : (last : Bool) (start h : Holds) (fed : List ℕ) (files : Files) (given : List ℕ) → AfterInner last start h fed files given ending → Expands start fed files given ending) where
  main_ends : (first start : Holds) (states : List ExpanderState) (outer : List FedFile) (earlier own : List ℕ) (inner : FedFile) → AllWait first start states outer earlier → Expands start inner.octets inner.files own ending
      → Expands first (main_by inner outer).octets (main_by inner outer).files (earlier ++ own) ending
  main_ends first start [] [] earlier own inner (begins, none) x =
      subst (λ t. Expands first inner.octets inner.files (t ++ own) ending) (sym none) (subst (λ h. Expands h inner.octets inner.files own ending) begins x)
  main_ends first start [] (fed ∷ outer) earlier own inner all x = absurd all
  main_ends first start (s ∷ states) [] earlier own inner all x = absurd all
  main_ends first start (s ∷ states) (fed ∷ outer) earlier own inner (waits, below, earlier_is, all) x =
      let (named, included, awaits) = subst (λ status. StandsBy status s waits.start fed.octets fed.files waits.given) waits.waits waits.stands in
      let both : Some waits.named ≡ Some named = sym waits.included ∙ included in
      let same : waits.named ≡ named = cc in
      subst (λ t. Expands first (main_by (with_inner fed inner) outer).octets (main_by (with_inner fed inner) outer).files t ending)
      (sym (append_assoc below waits.given own) ∙ ap (λ t. t ++ own) (sym earlier_is))
      (main_ends first waits.start states outer below (waits.given ++ own) (with_inner fed inner) all
      (after s.last waits.start s.holds fed.octets (then fed.files (file inner.octets inner.files no_files)) (waits.given ++ own)
      (awaits inner.octets inner.files own ending
      (subst (λ h. Expands h inner.octets inner.files own ending) (waits.inside ∙ ap (λ (n : NamedFile). within n.name n.origin s.holds) same) x))))

module _ (lines : List ℕ) (directory : Option (List ℕ)) (name : List ℕ) (origin : Labels) (s : StackState) (fed : FedFiles) (text : List ℕ) (st : StandsForFiles s (first_without lines directory name origin) fed text) where
  expanded_by : (status : FileStatus) (ending : Ending) → s.innermost.status ≡ status → stop_line status ≡ last_line ending → Expands (first_without lines directory name origin) (main_file fed).octets (main_file fed).files (st.stand.earlier ++ st.stand.own) ending
      → IsExpandedWithout lines directory name origin (main_file fed).octets (main_file fed).files text ending
  expanded_by status ending is line x = record {
    written = st.given;
    expands = subst (λ t. Expands (first_without lines directory name origin) (main_file fed).octets (main_file fed).files t ending) (sym st.stand.given_is) x;
    expanded_is = st.text_is ∙ ap (λ t. st.given ++ stop_line t) is ∙ ap (λ t. st.given ++ t) line;
  }

  innermost_by : (status : FileStatus) → s.innermost.status ≡ status → StandsBy status s.innermost st.stand.start fed.innermost.octets fed.innermost.files st.stand.own
  innermost_by status is = subst (λ t. StandsBy t s.innermost st.stand.start fed.innermost.octets fed.innermost.files st.stand.own) is st.stand.innermost

  pub broken_text : s.innermost.status ≡ statuses.BrokenOff → IsExpandedWithout lines directory name origin (main_file fed).octets (main_file fed).files text breaks_off
  broken_text is = expanded_by statuses.BrokenOff breaks_off is refl
      (main_ends breaks_off (λ last start h octets files given x. x) (first_without lines directory name origin) st.stand.start s.outer fed.outer st.stand.earlier st.stand.own fed.innermost st.stand.outer (innermost_by statuses.BrokenOff is))

  pub faulty_text : (fault : ExpansionFault) → s.innermost.status ≡ statuses.Faulty fault → IsExpandedWithout lines directory name origin (main_file fed).octets (main_file fed).files text (stops fault)
  faulty_text fault is = expanded_by (statuses.Faulty fault) (stops fault) is refl
      (main_ends (stops fault) (λ last start h octets files given x. x) (first_without lines directory name origin) st.stand.start s.outer fed.outer st.stand.earlier st.stand.own fed.innermost st.stand.outer (innermost_by (statuses.Faulty fault) is))

  pub lacking_text : (value : ℕ) → s.innermost.status ≡ statuses.FaultyAt value → IsExpandedWithout lines directory name origin (main_file fed).octets (main_file fed).files text (stops_at value)
  lacking_text value is = expanded_by (statuses.FaultyAt value) (stops_at value) is refl
      (main_ends (stops_at value) (λ last start h octets files given x. x) (first_without lines directory name origin) st.stand.start s.outer fed.outer st.stand.earlier st.stand.own fed.innermost st.stand.outer (innermost_by (statuses.FaultyAt value) is))

  alone : (outer : List FedFile) → AllWait (first_without lines directory name origin) st.stand.start [] outer st.stand.earlier → Expands st.stand.start fed.innermost.octets fed.innermost.files st.stand.own (ends s.innermost.holds)
      → Expands (first_without lines directory name origin) (main_by fed.innermost outer).octets (main_by fed.innermost outer).files (st.stand.earlier ++ st.stand.own) (ends s.innermost.holds)
  alone [] (begins, none) x =
      subst (λ t. Expands (first_without lines directory name origin) fed.innermost.octets fed.innermost.files (t ++ st.stand.own) (ends s.innermost.holds)) (sym none)
      (subst (λ h. Expands h fed.innermost.octets fed.innermost.files st.stand.own (ends s.innermost.holds)) begins x)
  alone (other ∷ outer) all x = absurd all

  pub ended_text : s.innermost.status ≡ statuses.Ended → s.outer ≡ [] → IsExpandedWithout lines directory name origin (main_file fed).octets (main_file fed).files text (ends s.innermost.holds)
  ended_text is none = expanded_by statuses.Ended (ends s.innermost.holds) is refl
      (alone fed.outer (subst (λ states. AllWait (first_without lines directory name origin) st.stand.start states fed.outer st.stand.earlier) none st.stand.outer) (innermost_by statuses.Ended is))

-- ---- nothing yet

pub stands_alone : (s : StackState) (first : Holds) → s.innermost.status ≡ statuses.Going → s.outer ≡ [] → s.next_line ≡ 1 → StandsFor s.innermost first [] no_files [] → StandsForFiles s first main_alone []
stands_alone s first going none next stands = record {
  given = [];
  stand = record {
    start = first;
    earlier = [];
    outer = subst (λ states. AllWait first first states [] []) (sym none) (refl, refl);
    own = [];
    innermost = stands;
    given_is = refl;
  };
  text_is = sym (ap stop_line going);
  line = next ∙ refl;
}

-- ---- what the code has of them

drop_front : (xs ys : List ℕ) → drop (length xs) (xs ++ ys) ≡ ys
drop_front [] ys = refl
drop_front (x ∷ xs) ys = drop_front xs ys

-- the line feeds behind a place are those of what was appended there
pub made_line : (next old len : ℕ) (before after text made : List ℕ) → len ≡ length before → text ≡ after → after ≡ before ++ made → next ≡ counted (old + feeds_in (drop len text)) → next ≡ counted (old + feeds_in made)
made_line next old len before after text made size same written is =
    is ∙ ap (λ t. counted (old + feeds_in t)) (ap (drop len) (same ∙ written) ∙ ap (λ n. drop n (before ++ made)) size ∙ drop_front before made)

abbrev pub IsWaiting : ExpanderState → Type 0
IsWaiting s = s.status ≡ statuses.Including

pub waiting_left : (old new : List ExpanderState) (last : Option ExpanderState) → old ≡ new ++ option_to_list last → All IsWaiting old → All IsWaiting new
waiting_left old new last parts all = (All-pop IsWaiting old new last parts all).0

pub waiting_last : (old new : List ExpanderState) (last : Option ExpanderState) (s : ExpanderState) → old ≡ new ++ option_to_list last → last ≡ Some s → All IsWaiting old → IsWaiting s
waiting_last old new last s parts is all = subst (λ (o : Option ExpanderState). IfSome o IsWaiting) is (All-pop IsWaiting old new last parts all).1

pub waiting_pushed : (old new : List ExpanderState) (s : ExpanderState) → new ≡ old ++ s ∷ [] → All IsWaiting old → IsWaiting s → All IsWaiting new
waiting_pushed old new s parts all is = All-same IsWaiting new (old ++ s ∷ []) parts (All-push IsWaiting old s all is)

pub reversed_pop : (old new : List ExpanderState) (last : Option ExpanderState) (s : ExpanderState) → old ≡ new ++ option_to_list last → last ≡ Some s → reverse old ≡ s ∷ reverse new
reversed_pop old new last s parts is = ap reverse parts ∙ ap (λ (o : Option ExpanderState). reverse (new ++ option_to_list o)) is ∙ reverse-append new (s ∷ [])

pub reversed_push : (old new : List ExpanderState) (s : ExpanderState) → new ≡ old ++ s ∷ [] → reverse new ≡ s ∷ reverse old
reversed_push old new s parts = ap reverse parts ∙ reverse-append old (s ∷ [])

-- ---- which file is the innermost one

pub shorter_more : (start cur next : StackState) → IsSameOrShorter start cur → length cur.outer ≡ 1 + length next.outer → IsSameOrShorter start next
shorter_more start cur next (inl same) outer = inr (omega (arith, same.1, outer))
shorter_more start cur next (inr fewer) outer = inr (omega (arith, fewer, outer))

-- what holds of the innermost file before others end with it
pub holds_or_shorter : (P : ExpanderState → Type 0) (old mid cur new : StackState) (before after : List ℕ) → mid.outer ≡ old.outer → P mid.innermost → IsSameOrShorter mid cur → StopsText cur new before after → P new.innermost ⊎ (length new.outer < length old.outer)
holds_or_shorter P old mid cur new before after outer p (inl same) stopped = inl (subst P (sym (stopped.innermost ∙ same.0)) p)
holds_or_shorter P old mid cur new before after outer p (inr fewer) stopped = inr (omega (arith, fewer, ap length outer, ap length stopped.outer))
