use Rattle.std.proofs.Common.{sym, ap, subst, ◌∙◌, [], ◌∷◌, ◌++◌}
use Rattle.kp_kore.specs.View.{sort_view}
use Rattle.kp_signature.specs.Pairs.{subsort_view}
use Rattle.kp_signature.specs.Numbering.{sorts_in}
use Rattle.kp_heads.specs.Steps.{pair_step}
use Rattle.kp_heads.specs.Made.{AreNumbers}
use Rattle.kp_heads.proofs.Making.{row_made, number_stays, sorts_twice}
use Rattle.kp_heads.proofs.made.Made.add_pair.Goals as goal

pub returns : goal.returns
returns c steps h =
    let a = sorts_in c.args.self.now.numbering in
    let b = sorts_in c.number_for.new.self in
    let d = sorts_in c.number_for-2.new.self in
    let first = c.in_ok-lower.ensures h.numbering in
    let second = c.in_ok-gives.ensures first.kept in
    let lower = sort_view c.args.pair.now.lower in
    let one = number_stays b d second.more c.in_ok-lower.lower lower second.is first.number in
    row_made (first.more ++ second.more) steps c.args.self.now (record { numbering = c.number_for-2.new.self; rows = c.push-2.new.self })
    (record { needs = c.push.new.self; gives = c.in_ok-gives.gives }) (pair_step (subsort_view c.args.pair.now)) h (sorts_twice a b d first.more second.more first.is second.is) second.kept
    (subst (λ ns. AreNumbers d ns (lower ∷ [])) (sym (c.in_ok-push.ensures.items ∙ ap (λ l. l ++ c.in_ok-lower.lower ∷ []) c.new-needs.ensures.items)) (one, tt), second.number) c.in_ok-push-2.ensures.items
