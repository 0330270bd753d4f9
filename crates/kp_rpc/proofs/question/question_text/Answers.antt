use Rattle.std.proofs.Common.{option_map, sym, ap, ◌∙◌}
use Rattle.serde_json.specs.View.{view}
use Rattle.kp_rpc.specs.View.{question_view}
use Rattle.kp_rpc.proofs.QuestionText.{question_written, question_framed}
use Rattle.kp_rpc.proofs.question.question_text.Goals as goal

pub returns-in_ok-to_vec-in-Some-clause-text : goal.returns-in_ok-to_vec-in-Some-clause-text
returns-in_ok-to_vec-in-Some-clause-text c =
    question_written c.args.question.now (view c.in-Some.tree) c.in_ok-to_vec-in-Some.field-0.items (ap (option_map view) (sym c.in-Some.is) ∙ c.in_ok-tree.ensures) c.in_ok-to_vec-in-Some.ensures.text

pub returns-in_ok-to_vec-in-Some-clause-read_back : goal.returns-in_ok-to_vec-in-Some-clause-read_back
returns-in_ok-to_vec-in-Some-clause-read_back c = λ d e shallow fits.
    question_framed (question_view c.args.question.now) (view c.in-Some.tree) d c.in_ok-to_vec-in-Some.field-0.items (ap (option_map view) (sym c.in-Some.is) ∙ c.in_ok-tree.ensures) e
    c.in_ok-to_vec-in-Some.ensures.reads_back c.in_ok-to_vec-in-Some.ensures.utf8 shallow fits
