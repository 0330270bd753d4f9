use Rattle.std.proofs.Common.{rules, ◌≡◌, ◌↔◌, subst, sym}
use Rattle.std.specs.Prelude.{IsTrue}
use Rattle.kp_ground.specs.View.{value_view}
use Rattle.kp_rules.specs.Skeletons.{one_of}
use Rattle.kp_symbolic.specs.Terms.{known}
use Rattle.kp_symbolic.specs.View.{term_view}
use Rattle.kp_symbolic.specs.declared.term.Term.{the_lemmas}
use Rattle.kp_unify.specs.Clash.{StandsOnTwo}
use Rattle.kp_unify.specs.Forms.{form_view}
use Rattle.kp_unify.proofs.ClashLemmas.{two_here}
use Rattle.kp_unify.proofs.repeats.differs_elsewhere.Goals as goal

pub returns-in-Known : goal.returns-in-Known
returns-in-Known c s =
    let left = form_view c.args.left in
    let all = term_view c.args.all.now in
    let x = c.args.name.now in
    let u = value_view c.in-Known.value in
    let b = c.stands_for_other.result in
    let seen : term_view c.args.term.now ≡ known u = search (rules, the_lemmas, c.in-Known.is) in
    subst (λ t. IsTrue b ↔ StandsOnTwo left all (one_of x s) t) (sym seen) (two_here left all x s u b c.stands_for_other.ensures)
