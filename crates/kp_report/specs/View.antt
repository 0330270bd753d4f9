-- What the lines of a report stand for.
use Rattle.std.specs.Prelude.{string_bytes}
use Rattle.kp_client.specs.View.{outcome_view}
use Rattle.kp_report.specs.Report.{ReportLine}
use Rattle.kp_report.specs.declared.report.Line.{Line}

abbrev pub line_view : Line → ReportLine
line_view l = record { label = string_bytes l.label; outcome = outcome_view l.result }
