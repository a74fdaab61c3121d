use Rattle.std.proofs.Common.{rules, tests, ◌==◌}
use Rattle.std.proofs.lemmas.Iterator.Search.{all_from_yields_List}
use Rattle.std.proofs.lemmas.Iterator.Splits.{YieldsList-from_slice_split}
use Rattle.zone_files.specs.FileName.{is_part}
use Rattle.zone_files.proofs.file_name.is_path.Goals as goal

pub returns : goal.returns
returns c = all_from_yields_List is_part _ _ _ c.all.ensures.ran (YieldsList-from_slice_split _ (λ octet. octet == 47) c.args.path.now c.split.ensures.rest c.split.ensures.done c.split.ensures.closure (λ x b q k. search (rules, tests))) (λ x b q k. search (rules, tests))
