use Rattle.hall_alone.proofs.reports.write_report.Goals as goal

pub returns-in-Some : goal.returns-in-Some
returns-in-Some g c = rw c.in-Some.is c.print_sheet.ensures.says

pub returns-in-None : goal.returns-in-None
returns-in-None g c = rw c.in-None.is c.print_report.ensures.says
