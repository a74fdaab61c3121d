-- The faults of files, one after another.
use Rattle.std.proofs.Common.{◌≡◌, ℕ, zero, suc, ◌+◌, ◌-◌, ◌^◌, ◌<◌, ◌≤◌, length, List, [], ◌∷◌, ◌++◌, Option, Some, None, refl, sym, subst, ap, ◌∙◌, append_assoc, append-nil, arith}
use Rattle.zone_name.specs.Common.{Labels}
use Rattle.std.specs.Prelude.{Result, Ok, Err, IfErr, IfNone, IfOk, IfSome, min}
use Rattle.zone_set.specs.Zone.{Zone}
use Rattle.zone_faults.specs.Checking.{AreDenoted, AreRefused, FaultsWithout, IsFirst, IsFoundFor, LoadsOn, MainFile, accepted, begins, enough, last, next, unread}
use Rattle.zone_files.specs.Expansion.{Holds, first_without}
use Rattle.zone_files.specs.ExpandedLoader.{ExpandedState, FilesDenoteWithout, LoadsEnd, LoadsInnermost, RefusesFor, StandsForExpanded}
use Rattle.zone_files.specs.IncludeStack.{FedFiles, StackState, StandsForFiles, fed_ended, fed_inner, fed_more}
use Rattle.zone_files.specs.IncludeStack as stacks
use Rattle.zone_files.specs.Loading.Fed.{StandsForPresentation}
use Rattle.zone_files.specs.declared.stack.expanded_loader.ExpandedRefusal.{ExpandedRefusal}
use Rattle.zone_files.specs.declared.stack.expanded_loader.ExpandedRefusal.TheVariants as refusals
use Rattle.zone_faults.specs.Machine.Finding.{AddsFault, EndsWith, FindsOne}
use Rattle.zone_faults.specs.declared.finding.CheckEnd.{CheckEnd}
use Rattle.zone_faults.specs.declared.finding.CheckEnd.TheVariants as ends
use Rattle.zone_faults.specs.declared.finding.FaultsSoFar.{FaultsSoFar}
use Rattle.zone_faults.specs.declared.found_fault.FoundFault.{FoundFault}

-- ---- more of the files is loaded

pub loads_none : (a : ExpandedState) → LoadsOn a a
loads_none a origin first fed st = (fed, st)

pub loads_then : (a b c : ExpandedState) → LoadsOn a b → LoadsOn b c → LoadsOn a c
loads_then a b c p q origin first fed st = let m = p origin first fed st in q origin first m.0 m.1

pub loads_fed : (a b : ExpandedState) (piece left : List ℕ) → LoadsInnermost a piece left b → LoadsOn a b
loads_fed a b piece left l origin first fed st = (fed_more l.part fed, l.stands origin first fed st)

pub loads_ends : (a b : ExpandedState) → LoadsEnd a b → LoadsOn a b
loads_ends a b l origin first fed st = (fed_ended l.ended fed, l.stands origin first fed st)

pub loads_inner : (a b : ExpandedState) → ((origin : Labels) (first : Holds) (fed : FedFiles) → StandsForExpanded a origin first fed → StandsForExpanded b origin first (fed_inner fed)) → LoadsOn a b
loads_inner a b begun origin first fed st = (fed_inner fed, begun origin first fed st)

-- ---- the faults

-- After so many passes: whatever follows where the entries of these lines are taken out, follows these
-- faults.
abbrev pub FoundSo : MainFile → ℕ → ℕ → List FoundFault → List ℕ → Type 0
FoundSo main most count faults lines =
    (others : List FoundFault) (ending : CheckEnd) → FaultsWithout main (most - count) lines others ending
    → FaultsWithout main most [] (faults ++ others) ending

pub found_none : (main : MainFile) (most : ℕ) (faults : List FoundFault) (lines : List ℕ) → faults ≡ [] → lines ≡ [] → FoundSo main most 0 faults lines
found_none main most faults lines none no_lines others ending f =
    subst (λ (fs : List FoundFault). FaultsWithout main most [] (fs ++ others) ending) (sym none)
    (subst (λ (ls : List ℕ). FaultsWithout main most ls others ending) no_lines
    (subst (λ n. FaultsWithout main n lines others ending) (omega arith) f))

pub found_one : (main : MainFile) (most count : ℕ) (old new : FaultsSoFar) → FoundSo main most count old.faults.items old.lines.items → count < most → FindsOne main old new → FoundSo main most (count + 1) new.faults.items new.lines.items
found_one main most count old new so few one others ending f =
    let left : suc (most - (count + 1)) ≡ most - count = omega (arith, few) in
    let after : FaultsWithout main (most - (count + 1)) (old.lines.items ++ one.line ∷ []) others ending = subst (λ (ls : List ℕ). FaultsWithout main (most - (count + 1)) ls others ending) one.lines f in
    let all : FaultsWithout main (most - count) old.lines.items (one.fault ∷ others) ending = subst (λ n. FaultsWithout main n old.lines.items (one.fault ∷ others) ending) left (next (most - (count + 1)) old.lines.items one.fault one.line others ending one.is one.at after) in
    subst (λ (fs : List FoundFault). FaultsWithout main most [] fs ending)
    (sym (append_assoc old.faults.items (one.fault ∷ []) others) ∙ ap (λ (fs : List FoundFault). fs ++ others) (sym one.faults))
    (so (one.fault ∷ others) ending all)

pub found_all : (main : MainFile) (most count : ℕ) (old : FaultsSoFar) (faults : List FoundFault) (ending : CheckEnd) → FoundSo main most count old.faults.items old.lines.items → count < most → EndsWith main old faults ending → FaultsWithout main most [] faults ending
found_all main most count old faults ending so few e =
    let left : suc (most - (count + 1)) ≡ most - count = omega (arith, few) in
    subst (λ (fs : List FoundFault). FaultsWithout main most [] fs ending) (sym e.all)
    (so e.others ending (subst (λ n. FaultsWithout main n old.lines.items e.others ending) left (e.are (most - (count + 1)))))

pub found_enough : (main : MainFile) (most count : ℕ) (faults : List FoundFault) (lines : List ℕ) → FoundSo main most count faults lines → most ≤ count → FaultsWithout main most [] faults ends.Enough
found_enough main most count faults lines so all =
    let none : zero ≡ most - count = omega (arith, all) in
    subst (λ (fs : List FoundFault). FaultsWithout main most [] fs ends.Enough) (append-nil faults)
    (so [] ends.Enough (subst (λ n. FaultsWithout main n lines [] ends.Enough) none (enough lines)))

-- a fault that is the last one, or one of an entry
pub ends_last : (main : MainFile) (old new : FaultsSoFar) (fault : FoundFault) (ending : CheckEnd) → IsFirst main old.lines.items fault → fault.line ≡ None → new.faults.items ≡ old.faults.items ++ fault ∷ [] → ending ≡ ends.Last → EndsWith main old new.faults.items ending
ends_last main old new fault ending is none all at = record {
  others = fault ∷ [];
  are = λ most. subst (λ e. FaultsWithout main (suc most) old.lines.items (fault ∷ []) e) (sym at) (last most old.lines.items fault is none);
  all = all;
}

-- the files denote a zone of so many records
pub ends_accepted : (main : MainFile) (found : FaultsSoFar) (zone : Zone) (count : ℕ) → AreDenoted main found.lines.items zone → count ≡ min (length zone.records) (2 ^ 64 - 1) → EndsWith main found found.faults.items (ends.Accepted count)
ends_accepted main found zone count denoted counted = record {
  others = [];
  are = λ most. accepted most found.lines.items count (record { zone = zone; denoted = denoted; counted = counted });
  all = sym (append-nil found.faults.items);
}

-- a file can't be read
pub ends_unread : (main : MainFile) (found : FaultsSoFar) (stack : StackState) → AreRefused main found.lines.items refusals.Unread stack → EndsWith main found found.faults.items (ends.Unread stack)
ends_unread main found stack refused = record {
  others = [];
  are = λ most. unread most found.lines.items stack refused;
  all = sym (append-nil found.faults.items);
}

-- the fault of a refusal is the first one
pub first_fault : (main : MainFile) (lines : List ℕ) (refusal : ExpandedRefusal) (stack : StackState) (fault : FoundFault) → AreRefused main lines refusal stack → IsFoundFor refusal stack.next_line fault → IsFirst main lines fault
first_fault main lines refusal stack fault refused found = record { stack = stack; refusal = refusal; refused = refused; is_found = found }

-- ---- one pass

-- what a loader denotes that was loaded so far
pub denoted : (main : MainFile) (lines : List ℕ) (state : ExpandedState) (zone : Zone)
    → ((after : FedFiles) × StandsForExpanded state main.origin (begins main lines) after)
    → ((taken : List ℕ) (directory : Option (List ℕ)) (name : List ℕ) (origin : Labels) (fed : FedFiles) → StandsForExpanded state origin (first_without taken directory name origin) fed
    → FilesDenoteWithout taken directory name origin (stacks.main_file fed).octets (stacks.main_file fed).files zone)
    → AreDenoted main lines zone
denoted main lines state zone (fed, stands) denotes = record {
  octets = (stacks.main_file fed).octets;
  files = (stacks.main_file fed).files;
  denotes = denotes lines main.directory main.name main.origin fed stands;
}

-- why it is refused
pub refused : (main : MainFile) (lines : List ℕ) (state : ExpandedState) (refusal : ExpandedRefusal) (stack : StackState) → stack ≡ state.stack
    → ((after : FedFiles) × StandsForExpanded state main.origin (begins main lines) after)
    → ((origin : Labels) (first : Holds) (fed : FedFiles) (text : List ℕ) → StandsForFiles state.stack first fed text → StandsForPresentation origin state.loader text
    → RefusesFor refusal state.stack origin text)
    → AreRefused main lines refusal stack
refused main lines state refusal stack same (fed, stands) refuses = record {
  fed = fed;
  text = stands.text;
  expands = subst (λ (s : StackState). StandsForFiles s (begins main lines) fed stands.text) (sym same) stands.expands;
  refuses = subst (λ (s : StackState). RefusesFor refusal s main.origin stands.text) (sym same) (refuses main.origin (begins main lines) fed stands.text stands.expands stands.loads);
}

-- ---- one more fault

-- the fault that was added is the last one
pub adds_last : (main : MainFile) (old new : FaultsSoFar) (fault : FoundFault) (answer : Option CheckEnd) → IsFirst main old.lines.items fault → AddsFault fault old new answer → IfSome answer (EndsWith main old new.faults.items)
adds_last main old new fault None is adds = tt
adds_last main old new fault (Some ending) is (none, all, at) = ends_last main old new fault ending is none all at

-- or there may be further ones
pub adds_one : (main : MainFile) (old new : FaultsSoFar) (fault : FoundFault) (answer : Option CheckEnd) → IsFirst main old.lines.items fault → AddsFault fault old new answer → IfNone answer (FindsOne main old new)
adds_one main old new fault None is (line, at, all, lines) = record { fault = fault; line = line; is = is; at = at; faults = all; lines = lines }
adds_one main old new fault (Some ending) is adds = tt

-- what is so of the answer of a pass
pub of_ok : {E : Type 0} (r : Result Zone E) (z : Zone) (P : Zone → Type 0) → r ≡ Ok z → IfOk r P → P z
of_ok {E} r z P is h = subst (λ (x : Result Zone E). IfOk x P) is h

pub of_err : {E : Type 0} (r : Result Zone E) (e : E) (P : E → Type 0) → r ≡ Err e → IfErr r P → P e
of_err {E} r e P is h = subst (λ (x : Result Zone E). IfErr x P) is h
