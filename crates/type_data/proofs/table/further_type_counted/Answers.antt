use Rattle.type_data.proofs.Common.{arith, sym}
use Rattle.type_data.proofs.FurtherWords.{no_type_over}
use Rattle.type_data.proofs.table.further_type_counted.Goals as goal

pub returns-in-Err : goal.returns-in-Err
returns-in-Err c = sym (no_type_over c.args.number (let over = c.in-Err.ensures in omega arith))
