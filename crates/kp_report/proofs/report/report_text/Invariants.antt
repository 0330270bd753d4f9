use Rattle.kp_report.proofs.Lines.{IsReportTo}
use Rattle.kp_report.proofs.report.report_text.Given as goal

abbrev pub invariant-loop-line : goal.invariant-loop-line
invariant-loop-line l = IsReportTo l.lines l.line-index l.text.items
