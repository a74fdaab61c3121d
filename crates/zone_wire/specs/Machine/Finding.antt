-- What the walk along a name finds.
use Rattle.std.specs.Prelude.{◌≡◌, ℕ, suc, ◌+◌, List, [], ◌∷◌, Result, Ok, Err}
use Rattle.zone_name.specs.Common.{Labels}
use Rattle.zone_wire.specs.Name.{Found, label_at}
use Rattle.zone_wire.specs.Walk.{at_root, at_label, at_pointer, at_fault, Visit}
use Rattle.zone_rdata.specs.Cause.{fault_for}
use Rattle.zone_rdata.specs.declared.cause.Cause.{Cause}
use Rattle.zone_rdata.specs.declared.fault.Fault.{Fault}
use Rattle.zone_rdata.specs.declared.fault.Fault.TheVariants.{ShortMessage}

-- a name, or a fault with the number of steps
pub data Outcome : Type 0 where
  named : Found → Outcome
  refused : Fault → ℕ → Outcome

abbrev pub after_label : List ℕ → Outcome → Outcome
after_label label (named found) =
    named (record found { labels = label ∷ found.labels; steps = suc found.steps })
after_label label (refused fault steps) = refused fault (suc steps)

abbrev pub after_pointer : ℕ → Outcome → Outcome
after_pointer end (named found) =
    named (record found { end = end; steps = suc found.steps; pointers = suc found.pointers })
after_pointer end (refused fault steps) = refused fault (suc steps)

unfoldable pub outcome : List ℕ → List Visit → Outcome
outcome message [] = refused ShortMessage 0
outcome message (first ∷ visits) =
    elim first.standing [
      | at_root ↦ named (record { labels = []; end = first.offset + 1; steps = 1; pointers = 0 })
      | at_label size ↦ after_label (label_at message first.offset size) (outcome message visits)
      | at_pointer target ↦ after_pointer (first.offset + 2) (outcome message visits)
      | at_fault fault ↦ refused fault 1
    ]

-- the end and the steps of a walk, and the labels that were kept, are what it finds
abbrev pub Tells : Result (ℕ × ℕ) (Cause × ℕ) → Labels → Outcome → Type 0
Tells (Ok r) labels o = (pointers : ℕ)
    × (o ≡ named (record { labels = labels; end = r.0; steps = r.1; pointers = pointers }))
Tells (Err e) labels o = o ≡ refused (fault_for e.0) e.1
