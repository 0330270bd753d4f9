use Rattle.std.proofs.Common.{ap, ◌∙◌}
use Rattle.std.specs.Option.{option_map}
use Rattle.kp_symbolic.specs.Endings.{what_is_undecided}
use Rattle.kp_rpc.specs.View.{id_view}
use Rattle.kp_rpc.specs.Reply.{reply_bytes}
use Rattle.kp_replies.specs.Failures.{undecided, failure_reply}
use Rattle.kp_methods.proofs.Implying.{answer_line}
use Rattle.kp_methods.proofs.implies.undecided_line.Goals as goal

pub returns-in-Some : goal.returns-in-Some
returns-in-Some c = λ g a b u h same.
    let id = id_view c.args.id.now in
    answer_line g id a b (what_is_undecided u) c.in_ok-line.field-0 c.in-Some.line h c.in-Some.is (c.in_ok-line.ensures ∙ ap (λ f. option_map reply_bytes (failure_reply id (undecided f))) same)
