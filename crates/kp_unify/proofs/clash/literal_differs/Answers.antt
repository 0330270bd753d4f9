use Rattle.std.proofs.Common.{rules, ◌≡◌, ◌↔◌, subst, sym}
use Rattle.std.specs.Prelude.{IsTrue, not}
use Rattle.kp_ground.specs.View.{value_view}
use Rattle.kp_rules.specs.Skeletons.{fixed}
use Rattle.kp_symbolic.specs.Terms.{known}
use Rattle.kp_symbolic.specs.View.{term_view}
use Rattle.kp_symbolic.specs.declared.term.Term.{the_lemmas}
use Rattle.kp_unify.specs.Clash.{AsksOtherHeadOf}
use Rattle.kp_unify.proofs.ClashLemmas.{literal_differs, differs_on_value}
use Rattle.kp_unify.proofs.clash.literal_differs.Goals as goal

pub returns-in-Known : goal.returns-in-Known
returns-in-Known c k =
    let l = value_view c.args.literal.now in
    let u = value_view c.in-Known.value in
    let seen : term_view c.args.term.now ≡ known u = search (rules, the_lemmas, c.in-Known.is) in
    subst (λ t. IsTrue (not c.equal.result) ↔ AsksOtherHeadOf (fixed l) t) (sym seen) (differs_on_value (fixed l) u (not c.equal.result) (literal_differs l u k c.equal.result c.equal.ensures))
