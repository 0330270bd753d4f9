use Rattle.std.proofs.Common.{string_bytes}
use Rattle.kp_report.proofs.report.pending_line.Goals as goal

pub returns : goal.returns
returns c = (string_bytes c.in_ok-why.why, c.in_ok-why.ensures, c.in_ok-pending_text.ensures)
