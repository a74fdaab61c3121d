use Rattle.zone_set.proofs.Common.{Entry, KeepsList, List, Place, Placed, Record, [], ap, listed, record_of, subst, sym, ℕ, ◌++◌, ◌∙◌, ◌∷◌, ◌≡◌}
use Rattle.zone_set.proofs.Holding.Adding.{on_err}
use Rattle.zone_set.proofs.Lists.ListPush.{decided, Decided, listed_more, KeepsList-more, none_told}
use Rattle.zone_set.proofs.kept_list.KeptList.push.Goals as goal
use Rattle.zone_set.proofs.kept_list.KeptList.push.Goals.{After-first_decides}

abbrev es : After-first_decides → List Entry
es c = c.self.inside.entries.items

abbrev ps : After-first_decides → List Place
ps c = c.self.inside.places

abbrev octs : After-first_decides → List ℕ
octs c = c.self.inside.octets.items

settled : (c : After-first_decides) → Decided c.first_decides.new.class c.args.rr.now.class c.first_decides.new.base (octs c) (es c) (ps c) (listed c.self.inside.class (octs c) (es c) (ps c))
settled c = decided c.self.inside.class c.first_decides.new.class c.args.rr.now.class c.self.inside.base c.first_decides.new.base c.args.rr.now.owner (octs c) (es c) (ps c) c.is_empty-is_first.result (rw c.reserve.ensures.items at (none_told c.is_empty-is_first.result _ _ c.is_empty-is_first.ensures c.reserve.new.self.ok.0)) c.first_decides.ensures.class c.first_decides.ensures.base (rw c.self.view_is c.requires.class) c.self.invariant

pub invariant_of-self-in_err-at : goal.invariant_of-self-in_err-at
invariant_of-self-in_err-at c =
    let p = (goal.at.invariant_of-self-in_err-at c).After-first_decides in
    rw (c.in_err-at.ensures.unchanged.0, c.in_err-at.ensures.unchanged.1, c.reserve.ensures.items) (settled p).keeps

pub returns-in_err-at-clause-unchanged : goal.returns-in_err-at-clause-unchanged
returns-in_err-at-clause-unchanged c =
    let p = (goal.at.returns-in_err-at-clause-unchanged c).After-first_decides in
    on_err c.from_residual-in_err-at.result (rw (c.in_err-at.ensures.unchanged.0, c.in_err-at.ensures.unchanged.1, c.reserve.ensures.items) ((settled p).same ∙ c.self.view_is))

pub invariant_of-self-2 : goal.invariant_of-self-2
invariant_of-self-2 c =
    let p = (goal.at.invariant_of-self-2 c).After-first_decides in
    let d = settled p in
    let e : Entry = record { hint = c.hint_of-hint.result; at = c.in_ok-at.at } in
    let r : Record = record_of c.args.rr.now in
    let keeps : KeepsList r.class c.first_decides.new.base (octs p) (es p) (ps p) = subst (λ k. KeepsList k c.first_decides.new.base (octs p) (es p) (ps p)) d.own d.keeps in
    rw (c.in_ok-at.ensures.kept, c.in_ok-at.ensures.stands, c.push_reserved.ensures.items, c.reserve.ensures.items, d.own)
    (KeepsList-more r c.requires.whole e c.args.place keeps c.in_ok-at.ensures.«at» c.hint_of-hint.ensures)

pub returns-clause-taken : goal.returns-clause-taken
returns-clause-taken c =
    let p = (goal.at.returns-clause-taken c).After-first_decides in
    let d = settled p in
    let e : Entry = record { hint = c.hint_of-hint.result; at = c.in_ok-at.at } in
    let r : Record = record_of c.args.rr.now in
    let one : Placed = record { rr = r; place = c.args.place } in
    let keeps : KeepsList r.class c.first_decides.new.base (octs p) (es p) (ps p) = subst (λ k. KeepsList k c.first_decides.new.base (octs p) (es p) (ps p)) d.own d.keeps in
    let was : listed r.class (octs p) (es p) (ps p) ≡ c.args.self.now = ap (λ k. listed k (octs p) (es p) (ps p)) (sym d.own) ∙ d.same ∙ c.self.view_is in
    rw (c.in_ok-at.ensures.kept, c.in_ok-at.ensures.stands, c.push_reserved.ensures.items, c.reserve.ensures.items, d.own)
    (listed_more r c.requires.whole e c.args.place keeps c.in_ok-at.ensures.«at» c.hint_of-hint.ensures ∙ ap (λ l. l ++ one ∷ []) was)
