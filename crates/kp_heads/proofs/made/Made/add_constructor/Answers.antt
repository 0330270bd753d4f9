use Rattle.std.proofs.Common.{sym, ap, subst, ◌∙◌, ◌++◌, map}
use Rattle.kp_kore.specs.View.{sort_view, symbol_sentence_view}
use Rattle.kp_signature.specs.Numbering.{sorts_in}
use Rattle.kp_heads.specs.Steps.{constructor_step}
use Rattle.kp_heads.specs.Made.{AreNumbers}
use Rattle.kp_heads.proofs.Making.{row_made, number_stays, sorts_twice, listed_sorts}
use Rattle.kp_heads.proofs.made.Made.add_constructor.Goals as goal

pub returns : goal.returns
returns c steps h =
    let a = sorts_in c.args.self.now.numbering in
    let b = sorts_in c.number_for.new.self in
    let x = c.numbers_for.new.numbering in
    let d = sorts_in x in
    let ss = c.args.declaration.now.arguments.items in
    let first = c.in_ok-gives.ensures h.numbering in
    let second = c.in_ok-needs.ensures first.kept in
    let to = sort_view c.args.declaration.now.result_sort in
    let one = number_stays b d second.more c.in_ok-gives.gives to second.is first.number in
    let from = subst (λ l. AreNumbers d c.in_ok-needs.needs.items l) (ap (map sort_view) c.deref.ensures.value ∙ sym (listed_sorts ss)) second.numbers in
    row_made (first.more ++ second.more) steps c.args.self.now (record { numbering = x; rows = c.push.new.self })
    (record { needs = c.in_ok-needs.needs; gives = c.in_ok-gives.gives }) (constructor_step (symbol_sentence_view c.args.declaration.now)) h (sorts_twice a b d first.more second.more first.is second.is) second.kept
    (from, one) c.in_ok-push.ensures.items
