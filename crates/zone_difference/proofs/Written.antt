-- What is written of the changes of two zones.
use Rattle.zone_set.proofs.Common.{◌≡◌, List, [], ◌∷◌, ◌++◌, refl, sym, ap, ◌∙◌, append_assoc, subst, Record, ℕ}
use Rattle.std.proofs.KnownBytes.{Appends-nil}
use Rattle.std.specs.Io.KnownBytes.{Appends}
use Rattle.std.specs.Prelude.{◌≢◌, Bool, false, true, Option}
use Rattle.zone_print.proofs.Front.{Left, left_less, left_none, part_left, part_more}
use Rattle.zone_print.specs.Writing.{AppendsPart}
use Rattle.zone_set.specs.Order.{Ascends}
use Rattle.zone_difference.proofs.Merged.{AreMerged, come_up, first_and, gone_up, have_merged, merged_changes, none_merged}
use Rattle.zone_difference.specs.Difference.{AreChanges, Change, IsDifference, addition, removal}
use Rattle.zone_difference.specs.Text.{WritesChanges, WritesPart, change_line, changes_text, is_some_change}
use Rattle.zone_difference.specs.Left.{AreLeft, TakesFirst}
use Rattle.zone_difference.specs.declared.name_case.NameCase.{NameCase}
use Rattle.zone_difference.specs.declared.name_case.NameCase.TheVariants.{Exact, Folded}
use Rattle.zone_difference.specs.declared.changes.Changes.{Changes}

-- whether there is a change among those that were taken and those to come
abbrev pub is_some_with : Bool → List Change → Bool
is_some_with true more = true
is_some_with false more = is_some_change more

some_with : (taken : Bool) (c : Change) (more : List Change) → is_some_with taken (c ∷ more) ≡ true
some_with true c more = refl
some_with false c more = refl

none_with : (taken : Bool) → is_some_with taken [] ≡ taken
none_with true = refl
none_with false = refl

-- of the text of all changes the writer has still to take the lines that are gathered, and then
-- those of the changes to come
pub record ToWrite (case : NameCase) (records others : List Record) (left : Changes)
    (old now : Option (List ℕ)) (lines : List ℕ) (differ : Bool) : Type 0 where
  pub gone : List Record
  pub come : List Record
  pub left_are : AreLeft case records others left gone come
  pub up : Ascends gone
  pub come_up : Ascends come
  pub ends : (more : List Change) → AreMerged gone come more
      → (all : List Change) × AreChanges case records others all
      × (is_some_change all ≡ is_some_with differ more)
      × Left old now (changes_text all) (lines ++ changes_text more)

part_of : (case : NameCase) (records others : List Record) (old new : Option (List ℕ)) (changes : List Change) → AreChanges case records others changes → AppendsPart old new (changes_text changes) → WritesPart case records others old new
part_of case records others old new changes are (front, rest, some, split, written) = record {
  changes = changes;
  are = are;
  front = front;
  rest = rest;
  split = split;
  proper = λ exact. some;
  written = written;
}

-- nothing was written before memory was refused, which it isn't where names are compared octet by octet
pub not_begun : (case : NameCase) (records others : List Record) (old : Option (List ℕ)) (changes : List Change) → AreChanges case records others changes → case ≡ Folded → WritesPart case records others old old
not_begun case records others old changes are folded = record {
  changes = changes;
  are = are;
  front = [];
  rest = changes_text changes;
  split = refl;
  proper = λ exact. absurd (let bad : Exact ≡ Folded = sym exact ∙ folded in cc);
  written = Appends-nil old;
}

module _ (case : NameCase) (records others : List Record) (left : Changes) (old now : Option (List ℕ)) (lines : List ℕ) (differ : Bool) where
  -- a change is taken, and its line is gathered
  pub gathered : (left' : Changes) (lines' : List ℕ) (c : Change) (w : ToWrite case records others left old now lines differ) → TakesFirst case records others c left' w.gone w.come
      → lines' ≡ lines ++ change_line c → ToWrite case records others left' old now lines' true
  gathered left' lines' c w t is = record {
    gone = t.gone_after;
    come = t.come_after;
    left_are = t.left;
    up = gone_up c w.gone w.come t.gone_after t.come_after w.up t.first;
    come_up = come_up c w.gone w.come t.gone_after t.come_after w.come_up t.first;
    ends = λ more are. let (all, of_all, some, left_is) = w.ends (c ∷ more) (first_and c w.gone w.come t.gone_after t.come_after more w.up w.come_up t.first are) in
        (all, of_all, some ∙ some_with differ c more, subst (Left old now (changes_text all)) (sym (ap (λ t. t ++ changes_text more) is ∙ append_assoc lines (change_line c) (changes_text more))) left_is);
  }

  -- the lines are written
  pub taken : (new : Option (List ℕ)) (part : List ℕ) → ToWrite case records others left old now lines differ → part ≡ lines → Appends now new part → ToWrite case records others left old new [] differ
  taken new part w same written = record {
    gone = w.gone;
    come = w.come;
    left_are = w.left_are;
    up = w.up;
    come_up = w.come_up;
    ends = λ more are. let (all, of_all, some, left_is) = w.ends more are in
        (all, of_all, some, left_less old now new (changes_text all) (lines ++ changes_text more) part (changes_text more) left_is (ap (λ t. t ++ changes_text more) (sym same)) written);
  }

  -- a part of them is
  pub stopped : (new : Option (List ℕ)) (part : List ℕ) → ToWrite case records others left old now lines differ → part ≡ lines → AppendsPart now new part → WritesPart case records others old new
  stopped new part w same written =
      let found = have_merged w.gone w.come w.up w.come_up in
      let (all, of_all, some, left_is) = w.ends found.0 found.1 in
      part_of case records others old new all of_all (part_more old now new (changes_text all) (lines ++ changes_text found.0) part (changes_text found.0) left_is (ap (λ t. t ++ changes_text found.0) (sym same)) written)

  -- nothing is, and a change is to come
  pub refused : (left' : Changes) (c : Change) (w : ToWrite case records others left old now lines differ) → TakesFirst case records others c left' w.gone w.come → WritesPart case records others old now
  refused left' c w t =
      let found = have_merged t.gone_after t.come_after (gone_up c w.gone w.come t.gone_after t.come_after w.up t.first) (come_up c w.gone w.come t.gone_after t.come_after w.come_up t.first) in
      let (all, of_all, some, left_is) = w.ends (c ∷ found.0) (first_and c w.gone w.come t.gone_after t.come_after found.0 w.up w.come_up t.first found.1) in
      part_of case records others old now all of_all (part_left old now (changes_text all) (lines ++ changes_text (c ∷ found.0)) left_is (some_lines lines c (changes_text found.0)))
    where
      some_lines : (front : List ℕ) (d : Change) (rest : List ℕ) → front ++ (change_line d ++ rest) ≢ []
      some_lines [] (removal r) rest e = cc
      some_lines [] (addition r) rest e = cc
      some_lines (x ∷ front) d rest e = cc

  -- memory is refused for the next change
  pub interrupted : (w : ToWrite case records others left old now lines differ) → case ≡ Folded → WritesPart case records others old now
  interrupted w folded =
      let found = have_merged w.gone w.come w.up w.come_up in
      let (all, of_all, some, left_is) = w.ends found.0 found.1 in
      record {
        changes = all;
        are = of_all;
        front = left_is.front;
        rest = lines ++ changes_text found.0;
        split = left_is.split;
        proper = λ exact. absurd (let bad : Exact ≡ Folded = sym exact ∙ folded in cc);
        written = left_is.taken;
      }

  none_left : (w : ToWrite case records others left old now lines differ) → (w.gone ≡ []) × (w.come ≡ []) → AreMerged w.gone w.come []
  none_left w (gone, come) = record { removed = sym gone; added = sym come; order = tt }

  -- all of them are, and no change is to come
  pub ended : (new : Option (List ℕ)) (part : List ℕ) (w : ToWrite case records others left old now lines differ) → (w.gone ≡ []) × (w.come ≡ []) → part ≡ lines → Appends now new part → WritesChanges case records others old new differ
  ended new part w none same written =
      let (all, of_all, some, left_is) = w.ends [] (none_left w none) in
      record {
        changes = all;
        are = of_all;
        written = left_none old now new (changes_text all) (lines ++ []) part left_is (ap (λ t. t ++ []) (sym same)) written;
        some = sym (some ∙ none_with differ);
      }

  pub ended_part : (new : Option (List ℕ)) (part : List ℕ) (w : ToWrite case records others left old now lines differ) → (w.gone ≡ []) × (w.come ≡ []) → part ≡ lines → AppendsPart now new part → WritesPart case records others old new
  ended_part new part w none same written =
      let (all, of_all, some, left_is) = w.ends [] (none_left w none) in
      part_of case records others old new all of_all (part_more old now new (changes_text all) (lines ++ []) part [] left_is (ap (λ t. t ++ []) (sym same)) written)

-- nothing is written yet
pub begins : (case : NameCase) (records others : List Record) (left : Changes) (old : Option (List ℕ)) (lines : List ℕ) (gone come : List Record) → AreLeft case records others left gone come → IsDifference case records others gone come → lines ≡ [] → ToWrite case records others left old old lines false
begins case records others left old lines gone come left_are d none = record {
  gone = gone;
  come = come;
  left_are = left_are;
  up = d.gone.ascend;
  come_up = d.come.ascend;
  ends = λ more merged. (
    more,
    merged_changes case records others gone come more d merged,
    refl,
    record { front = []; split = sym (ap (λ t. t ++ changes_text more) none); taken = Appends-nil old },
  );
}
