use Rattle.zone_files.proofs.Stacks.{broken_text, ended_text, faulty_text, lacking_text}
use Rattle.zone_files.proofs.laws.stack.an_ended_stack_gives_the_expanded_text.Goals as goal

pub returns-clause-ended : goal.returns-clause-ended
returns-clause-ended c lines directory name origin s fed text stands is alone = ended_text lines directory name origin s fed text stands is alone

pub returns-clause-broken : goal.returns-clause-broken
returns-clause-broken c lines directory name origin s fed text stands is = broken_text lines directory name origin s fed text stands is

pub returns-clause-faulty : goal.returns-clause-faulty
returns-clause-faulty c lines directory name origin s fed text fault stands is = faulty_text lines directory name origin s fed text stands fault is

pub returns-clause-lacking : goal.returns-clause-lacking
returns-clause-lacking c lines directory name origin s fed text value stands is = lacking_text lines directory name origin s fed text stands value is
