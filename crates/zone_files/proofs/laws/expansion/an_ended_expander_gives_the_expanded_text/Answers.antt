use Rattle.std.proofs.Common.{append-nil, refl, subst, sym}
use Rattle.zone_files.specs.Expansion.{first_without}
use Rattle.zone_files.specs.FileExpander.{StandsBy}
use Rattle.zone_files.proofs.laws.expansion.an_ended_expander_gives_the_expanded_text.Goals as goal

pub returns-clause-ended : goal.returns-clause-ended
returns-clause-ended c lines directory name origin s fed files given stands is = record {
  written = given;
  expands = subst (λ st. StandsBy st s (first_without lines directory name origin) fed files given) is stands;
  expanded_is = sym (append-nil given);
}

pub returns-clause-broken : goal.returns-clause-broken
returns-clause-broken c lines directory name origin s fed files given stands is = record {
  written = given;
  expands = subst (λ st. StandsBy st s (first_without lines directory name origin) fed files given) is stands;
  expanded_is = sym (append-nil given);
}

pub returns-clause-faulty : goal.returns-clause-faulty
returns-clause-faulty c lines directory name origin s fed files given fault stands is = record {
  written = given;
  expands = subst (λ st. StandsBy st s (first_without lines directory name origin) fed files given) is stands;
  expanded_is = refl;
}

pub returns-clause-lacking : goal.returns-clause-lacking
returns-clause-lacking c lines directory name origin s fed files given value stands is = record {
  written = given;
  expands = subst (λ st. StandsBy st s (first_without lines directory name origin) fed files given) is stands;
  expanded_is = refl;
}
