use Rattle.std.proofs.Common.{rules, ◌≡◌, ◌++◌}
use Rattle.kp_signature.specs.View.{signature_view}
use Rattle.kp_symbolic.specs.View.{clauses_view}
use Rattle.kp_step.specs.Implied.{equal_sides_view}
use Rattle.kp_step.proofs.ImpliedLemmas.{sides_follow}
use Rattle.kp_step.proofs.call_equalities.of_sides.Goals as goal

pub returns : goal.returns
returns c =
    let first = c.in_ok-more.more.items in
    let second = c.in_ok-others.others.items in
    let all = c.append.new.self.items in
    let both : all ≡ first ++ second = search rules in
    sides_follow (signature_view c.args.signature.now) (clauses_view c.args.clauses.now) (equal_sides_view c.args.sides) first second all both c.in_ok-more.ensures c.in_ok-others.ensures
