use Rattle.std.proofs.Common.{rules, ◌≡◌, map}
use Rattle.kp_symbolic.specs.Languages.{language_view}
use Rattle.kp_symbolic.specs.View.{replaced_view}
use Rattle.kp_literals.specs.Equations.{equation_view}
use Rattle.kp_unify.specs.Replaced.{binding_put, equality_put, pair_put}
use Rattle.kp_unify.specs.Views.{part_view, pair_view, equality_view, course_view}
use Rattle.kp_unify.proofs.ReplacedLemmas.{replaced_is}
use Rattle.kp_unify.proofs.course.Course.replace.Goals as goal

pub returns-clause-course : goal.returns-clause-course
returns-clause-course c =
    let g = language_view c.args.language.now in
    let by = map replaced_view c.in_ok-by.by.items in
    let b : map replaced_view c.in_ok-self.field-0.items ≡ map (binding_put g by) (map replaced_view c.args.self.now.bindings.items) = search rules in
    let q : map equality_view c.in_ok-self-2.field-0.items ≡ map (equality_put g by) (map equality_view c.args.self.now.equalities.items) = search rules in
    let s : map pair_view c.in_ok-self-3.field-0.items ≡ map (pair_put g by) (map pair_view c.args.self.now.pairs.items) = search rules in
    replaced_is g (equation_view c.args.equation.now) (part_view c.args.self.now.part) (course_view c.args.self.now) by
    (map replaced_view c.in_ok-self.field-0.items) (map equality_view c.in_ok-self-2.field-0.items) (map pair_view c.in_ok-self-3.field-0.items)
    c.in_ok-by.ensures b q s
