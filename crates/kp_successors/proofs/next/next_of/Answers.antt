use Rattle.std.proofs.Common.{◌≡◌, ◌∙◌, sym, ap, subst, true}
use Rattle.std.specs.Prelude.{is_some}
use Rattle.kp_ground.specs.Slots.{left_variables, term_reads}
use Rattle.kp_rules.specs.Bound.{names_of_choice}
use Rattle.kp_successors.proofs.Finding.{last_of}
use Rattle.kp_successors.proofs.next.next_of.Goals as goal

-- the names beside the right side are those that are bound
pub choosing-requires : goal.choosing-requires
choosing-requires c =
    let r = c.args.rewrite.now in
    sym (ap (names_of_choice (left_variables r.left)) c.in-Some.is) ∙ r.choice_bound ∙ sym c.requires

pub plain-requires : goal.plain-requires
plain-requires c =
    let r = c.args.rewrite.now in
    subst (λ xs. term_reads xs r.right ≡ true) (sym c.requires)
    (last_of r.chooses (is_some r.choice) (term_reads (left_variables r.left) r.right) (ap is_some c.in-None.is) r.right_bound)
