use Rattle.std.proofs.Common.{arith, subst}
use Rattle.std.specs.Prelude.{Option, IfNone, IfSome}
use Rattle.zone_faults.specs.Machine.Finding.{EndsWith, FindsOne, main_of}
use Rattle.zone_faults.specs.declared.finding.CheckEnd.{CheckEnd}
use Rattle.zone_faults.specs.declared.finding.Main.{Main}
use Rattle.zone_faults.proofs.Checks.{found_all, found_enough, found_one}
use Rattle.zone_faults.proofs.finding.check_files.Goals as goal

pub returns-in-Some : goal.returns-in-Some
returns-in-Some g c =
    let input : Main = record { directory = c.args.directory; name = c.args.name; origin = c.args.origin } in
    let ends = subst (λ (answer : Option CheckEnd). IfSome answer (EndsWith (main_of input) c.passes.found c.find_next.new.found.faults.items)) c.in-Some.is c.in_ok-end.ensures.ends in
    record { faults = found_all (main_of input) c.args.most c.passes.counter c.passes.found c.find_next.new.found.faults.items c.in-Some.end c.passes.invariant (omega (arith, c.passes-test.true)) ends }

pub passes-preserved : goal.passes-preserved
passes-preserved g c =
    let input : Main = record { directory = c.args.directory; name = c.args.name; origin = c.args.origin } in
    let one = subst (λ (answer : Option CheckEnd). IfNone answer (FindsOne (main_of input) c.passes.found c.find_next.new.found)) c.in_default.is c.in_ok-end.ensures.one in
    found_one (main_of input) c.args.most c.passes.counter c.passes.found c.find_next.new.found c.passes.invariant (omega (arith, c.passes-test.true)) one

pub returns : goal.returns
returns g c =
    let input : Main = record { directory = c.args.directory; name = c.args.name; origin = c.args.origin } in
    record { faults = found_enough (main_of input) c.args.most c.passes.counter c.passes.found.faults.items c.passes.found.lines.items c.passes.invariant (omega (arith, c.passes-test.false)) }
