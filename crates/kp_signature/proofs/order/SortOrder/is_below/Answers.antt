use Rattle.std.proofs.Common.{refl, subst, ◌∙◌}
use Rattle.kp_kore.specs.Signature.{itself, IsBelow}
use Rattle.kp_kore.specs.View.{sort_view}
use Rattle.kp_signature.specs.Numbering.{TellsNumber}
use Rattle.kp_signature.specs.Order.{sorts_of}
use Rattle.kp_signature.proofs.OrderLemmas.{none_above, none_below, under_is_below, below_is_under}
use Rattle.kp_signature.proofs.order.SortOrder.is_below.Goals as goal

pub returns-then-equal : goal.returns-then-equal
returns-then-equal c pairs ix =
    let a = sort_view c.args.lower.now in
    (λ _. subst (λ s. IsBelow pairs a s) (c.equal.ensures.0 c.if-equal.true) (itself a), λ _. refl)

pub returns-in_default : goal.returns-in_default
returns-in_default c pairs ix =
    let x = c.args.self.now.graph in
    let a = sort_view c.args.lower.now in
    let none = subst (TellsNumber (sorts_of x) a) c.in_default.is (c.number_of.ensures pairs ix) in
    (λ h. absurd (cc), λ h. absurd (cc (c.equal.ensures.1 (none_above pairs x ix.graph a (sort_view c.args.upper.now) none h), c.if-equal.false)))

pub returns-in_default-number_of : goal.returns-in_default-number_of
returns-in_default-number_of c pairs ix =
    let x = c.args.self.now.graph in
    let b = sort_view c.args.upper.now in
    let none = subst (TellsNumber (sorts_of x) b) c.in_default-number_of.is (c.number_of-2.ensures pairs ix) in
    (λ h. absurd (cc), λ h. absurd (cc (c.equal.ensures.1 (none_below pairs x ix.graph (sort_view c.args.lower.now) b none h), c.if-equal.false)))

pub returns : goal.returns
returns c pairs ix =
    let x = c.args.self.now.graph in
    let a = sort_view c.args.lower.now in
    let b = sort_view c.args.upper.now in
    let i = c.in-Some-number_of.to in
    let j = c.in-Some.from in
    let n = subst (TellsNumber (sorts_of x) a) c.in-Some.is (c.number_of.ensures pairs ix) in
    let m = subst (TellsNumber (sorts_of x) b) c.in-Some-number_of.is (c.number_of-2.ensures pairs ix) in
    let test = c.is_under.ensures pairs ix m.0 in
    (λ h. under_is_below pairs x ix.graph i j a b m n (test.0 h), λ h. test.1 (below_is_under pairs x ix.graph i j a b m n h))
