use Rattle.zone_set.proofs.Common.{IsTrue, [], false≢true, record_of, refl, sym, ⊎_elim, ◌↔◌, ◌∙◌, ◌≡◌}
use Rattle.zone_set.proofs.Lists.ListPush.{none_told, other_listed, same_listed}
use Rattle.zone_set.proofs.kept_list.KeptList.list.Goals as goal
use Rattle.zone_set.proofs.kept_list.KeptList.list.Goals.{After-is_empty, else-not-is_empty-via-then-not-is_empty+else-ne, else-not-is_empty-via-else-not-is_empty}

none : (c : After-is_empty) → IsTrue c.is_empty.result ↔ (c.self.inside.entries.items ≡ [])
none c = none_told c.is_empty.result _ _ c.is_empty.ensures c.self.inside.entries.ok.0

pub returns-then-ne-clause-refused : goal.returns-then-ne-clause-refused
returns-then-ne-clause-refused c _ =
    let p = (goal.at.returns-then-ne-clause-refused c).After-is_empty in (
      rw (← c.self.view_is) (other_listed c.self.invariant c.ne.result (record_of c.args.rr.now) (λ empty. false≢true (sym c.if-not-is_empty.true ∙ (none p).1 empty)) c.ne.ensures c.if-ne.true),
      refl,
    )

pub push-requires-clause-class : goal.push-requires-clause-class
push-requires-clause-class c =
    let p = (goal.at.push-requires-clause-class c).After-is_empty in
    let l = c.self.inside in
    elim c.else-not-is_empty.branch [
      | else-not-is_empty-via-then-not-is_empty+else-ne w ↦ rw (← c.self.view_is) (⊎_elim (λ other. absurd (false≢true (sym w.if-ne.false ∙ other))) (λ same. same) (same_listed w.ne.result l.class c.args.rr.now.class l.octets.items l.entries.items l.places w.ne.ensures))
      | else-not-is_empty-via-else-not-is_empty w ↦ rw (← c.self.view_is, (none p).0 w.if-not-is_empty.false) tt
    ]
