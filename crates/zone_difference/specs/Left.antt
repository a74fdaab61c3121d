-- The changes that are still to come (private).
use Rattle.std.specs.Prelude.{◌≡◌, ℕ, ◌+◌, List, [], MatchOption, Option, Some, None, ⊤}
use Rattle.zone_rdata.specs.Record.{Record}
use Rattle.zone_rdata.specs.Lent.{record_of}
use Rattle.zone_rdata.specs.declared.lent.RrRef.{RrRef}
use Rattle.zone_difference.specs.Difference.{Change, GoesBefore, addition, removal}
use Rattle.zone_difference.specs.Lacked.{AreNext, left_with}
use Rattle.zone_difference.specs.Walk.{IsFirstOf, change_of}
use Rattle.zone_difference.specs.declared.changes.ChangeRef.{ChangeRef}
use Rattle.zone_difference.specs.declared.changes.Changes.{Changes}
use Rattle.zone_difference.specs.declared.name_case.NameCase.{NameCase}
use Rattle.zone_difference.specs.declared.name_case.NameCase.TheVariants.{Folded}

-- the records that are still to go and to come
pub record AreLeft (case : NameCase) (records others : List Record) (c : Changes)
    (gone come : List Record) : Type 0 where
  pub removals : AreNext case others c.removal c.removed gone
  pub additions : AreNext case records c.addition c.added come

-- how many records were not passed
abbrev pub left_len : Changes → ℕ
left_len c = left_with c.removal c.removed + left_with c.addition c.added

-- a change was taken, the first of those by which these records go and come
pub record TakesFirst (case : NameCase) (records others : List Record)
    (change : Change) (c : Changes) (gone come : List Record) : Type 0 where
  pub gone_after : List Record
  pub come_after : List Record
  pub first : IsFirstOf change gone come gone_after come_after
  pub left : AreLeft case records others c gone_after come_after

-- of the next record that goes and the next that comes, the one that goes is first
abbrev pub IsRemovalFirst : Option RrRef → Option RrRef → Type 0
IsRemovalFirst None come = ⊥
IsRemovalFirst (Some gone) None = ⊤
IsRemovalFirst (Some gone) (Some come) =
    GoesBefore (removal (record_of gone)) (addition (record_of come))

-- there are records that go and come
abbrev pub HasLeft : Changes → Type 0
HasLeft c = (case : NameCase) × (records others gone come : List Record)
    × AreLeft case records others c gone come

-- the next change was taken, or there is none
abbrev pub TakesNext : Changes → Changes → Option ChangeRef → Type 0
TakesNext old new found = (case : NameCase) (records others gone come : List Record)
    → AreLeft case records others old gone come
    → MatchOption found ((gone ≡ []) × (come ≡ []))
    (λ change. TakesFirst case records others (change_of change) new gone come)

-- names in data are compared without regard to case: nothing else takes memory
abbrev pub FailsFolded : Changes → Type 0
FailsFolded c = (case : NameCase) (records others gone come : List Record)
    → AreLeft case records others c gone come → case ≡ Folded
