-- Names begin with a name; what is behind it is names too.
use Rattle.std.proofs.Common.{[], ◌≡◌, arith, false, subst, sym, true}
use Rattle.data_names.proofs.Walks.{behind_first, first_of_names, names_after, names_behind}
use Rattle.data_names.specs.Machine.Front.{AreNames}
use Rattle.data_names.proofs.names.are_names.Goals as goal

pub returns-in_default : goal.returns-in_default
returns-in_default c = (
  λ bad. absurd (let wrong : false ≡ true = bad in cc),
  λ are. absurd (
      let first = first_of_names c.walk.rest.now (λ (e : c.walk.rest.now ≡ []). grind (arith, e, c.is_empty.ensures, c.walk-test.true)) (c.walk.invariant.1 are) in
      c.in_default.ensures.none first.0 first.1 first.2),
)

pub walk-preserved : goal.walk-preserved
walk-preserved c =
    let found = c.in-Some.ensures.found in
    let same = behind_first c.walk.rest.now c.split_at.result.1.now found.1 c.in-Some.len found.0 found.2 found.3 c.split_at.ensures.back in (
      λ are. c.walk.invariant.0 (names_after c.walk.rest.now found.1 found.0 found.2 (subst AreNames same are)),
      λ are. subst AreNames (sym same) (names_behind c.walk.rest.now found.1 found.0 found.2 (c.walk.invariant.1 are)),
    )
