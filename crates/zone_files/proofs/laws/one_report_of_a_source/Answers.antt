use Rattle.zone_files.proofs.Presenting.OneReport.{one_report, report_refuses}
use Rattle.zone_files.proofs.laws.one_report_of_a_source.Goals as goal

pub returns-clause-refused : goal.returns-clause-refused
returns-clause-refused c = report_refuses

pub returns-clause-one : goal.returns-clause-one
returns-clause-one c = one_report c.rewriting_is_unique.ensures c.one_zone_of_a_source.ensures.fault
