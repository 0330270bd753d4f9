-- The lines of a report, one behind another.
use Rattle.std.proofs.Common.{◌≡◌, refl, sym, ◌∙◌, ap, subst, ℕ, suc, ◌+◌, ◌<◌, List, [], ◌∷◌, ◌++◌, length, map, drop, get_or, append_assoc, drop-cons, string_bytes, arith}
use Rattle.std.proofs.Math.Seq.{drop-length}
use Rattle.std.specs.Prelude.{codes, ℤ}
use Rattle.kp_results.specs.Results.{ExecutedParts}
use Rattle.kp_replies.specs.Read.{execute, executed, UnfinishedParts, unfinished, failed, ServerReply}
use Rattle.kp_replies.specs.Replies.{IsReplyOf}
use Rattle.kp_report.specs.Report.{IsLine, IsReport, no_lines, one_line, IsReplyWhy, by_run, by_unfinished, by_error, by_nothing, run_why}
use Rattle.kp_client.specs.View.{outcome_view}
use Rattle.kp_report.specs.View.{line_view}
use Rattle.kp_report.specs.declared.report.Line.{Line}

-- with a report of the lines from i on, the text is one of all
abbrev pub IsReportTo : List Line → ℕ → List ℕ → Type 0
IsReportTo lines i text = (rest : List ℕ) → IsReport (map line_view (drop i lines)) rest → IsReport (map line_view lines) (text ++ rest)

pub none_written : (lines : List Line) → IsReportTo lines 0 []
none_written lines rest h = h

pub one_more_line : (lines : List Line) (i : ℕ) (l : Line) (text line : List ℕ) → i < length lines → l ≡ get_or lines i l → IsLine (string_bytes l.label) (outcome_view l.result) line → IsReportTo lines i text → IsReportTo lines (i + 1) (text ++ line)
one_more_line lines i l text line within is here so_far rest later =
    let next : suc i ≡ i + 1 = omega arith in
    let cut : drop i lines ≡ l ∷ drop (i + 1) lines = drop-cons lines i l within ∙ ap (λ y. y ∷ drop (suc i) lines) (sym is) ∙ ap (λ k. l ∷ drop k lines) next in
    let both : IsReport (map line_view (drop i lines)) (line ++ rest) = subst (λ ls. IsReport (map line_view ls) (line ++ rest)) (sym cut) (one_line (line_view l) (map line_view (drop (i + 1) lines)) line rest here later) in
    subst (IsReport (map line_view lines)) (sym (append_assoc text line rest)) (so_far (line ++ rest) both)

append_none : (xs : List ℕ) → xs ++ [] ≡ xs
append_none [] = refl
append_none (x ∷ xs) = ap (λ l. x ∷ l) (append_none xs)

pub all_written : (lines : List Line) (text : List ℕ) → IsReportTo lines (length lines) text → IsReport (map line_view lines) text
all_written lines text h = subst (IsReport (map line_view lines)) (append_none text) (h [] (subst (λ ls. IsReport (map line_view ls) []) (sym (drop-length lines)) no_lines))

-- ---- why a node is held

pub why_by_run : (line why : List ℕ) (x : ExecutedParts) → IsReplyOf execute line (executed x) → why ≡ run_why x.ending → IsReplyWhy line why
why_by_run line why x told is = subst (IsReplyWhy line) (sym is) (by_run x told)

pub why_by_unfinished : (line why : List ℕ) (x : UnfinishedParts) → IsReplyOf execute line (unfinished x) → why ≡ codes "undecided" → IsReplyWhy line why
why_by_unfinished line why x told is = subst (IsReplyWhy line) (sym is) (by_unfinished x told)

pub why_by_error : (line why : List ℕ) (code : ℤ) → IsReplyOf execute line (failed code) → why ≡ codes "undecided" → IsReplyWhy line why
why_by_error line why code told is = subst (IsReplyWhy line) (sym is) (by_error code told)

pub why_by_nothing : (line why : List ℕ) → ((r : ServerReply) → ¬ IsReplyOf execute line r) → why ≡ codes "undecided" → IsReplyWhy line why
why_by_nothing line why none is = subst (IsReplyWhy line) (sym is) (by_nothing none)
