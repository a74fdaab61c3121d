use Rattle.std.proofs.Common.{subst}
use Rattle.type_data.specs.Printed.{IfNoData}
use Rattle.type_data.specs.PrintedData.{AreOfAType, HasNoWords}
use Rattle.type_data.specs.Table.{of_code}
use Rattle.words_print.proofs.line_printer.LinePrinter.find_words.Goals as goal

pub returns-in-Err-NoData-clause-no : goal.returns-in-Err-NoData-clause-no
returns-in-Err-NoData-clause-no c = λ _.
    let none = subst (IfNoData (AreOfAType (of_code c.args.found.now.further.now.fields) → HasNoWords (of_code c.args.found.now.further.now.fields) c.deref.result.now)) c.in-Err-NoData.field-0-is c.in-Err-NoData.ensures.none in
    rw c.deref.ensures.value at (none c.requires)
