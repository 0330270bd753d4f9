use Rattle.std.proofs.Common.{◌≡◌, sym, subst, ◌+◌, ◌++◌, length, string_bytes, arith}
use Rattle.kp_report.proofs.Lines.{IsReportTo, one_more_line, all_written}
use Rattle.kp_report.proofs.report.report_text.Goals as goal

pub loop-line-preserved : goal.loop-line-preserved
loop-line-preserved c =
    let lines = c.args.lines.now in
    let i = c.loop-line.line-index in
    let l = c.line-item.result in
    let text = c.loop-line.text.items in
    let line = string_bytes c.in_ok-piece.piece in
    let more : IsReportTo lines (i + 1) (text ++ line) = one_more_line lines i l text line c.loop-line-test.true c.line-item.is c.in_ok-piece.ensures c.loop-line.invariant in
    let same : c.extend_from_slice.new.self.items ≡ text ++ line = cc (c.in_ok-extend_from_slice.ensures.items, c.as_bytes.ensures.value) in
    subst (IsReportTo lines (i + 1)) (sym same) more

pub returns : goal.returns
returns c =
    let all : c.loop-line.line-index ≡ length c.args.lines.now = omega (arith, c.loop-line-test.false, c.loop-line.auto.line-index-end) in
    all_written c.args.lines.now c.loop-line.text.items (subst (λ i. IsReportTo c.args.lines.now i c.loop-line.text.items) all c.loop-line.invariant)
