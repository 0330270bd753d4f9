use Rattle.std.proofs.Common.{refl, ◌≡◌, ◌<◌, subst, ◌∙◌, length, arith}
use Rattle.kp_kore.specs.View.{sort_view}
use Rattle.kp_signature.specs.Numbering.{TellsNumber}
use Rattle.kp_signature.specs.Order.{sorts_of}
use Rattle.kp_rules.proofs.MarkLemmas.{marked, unnumbered}
use Rattle.kp_rules.proofs.own_heads.mark.Goals as goal

pub returns-then-number-len : goal.returns-then-number-len
returns-then-number-len c g ds d is order m =
    let s = sort_view c.args.sort.now in
    let sorts = sorts_of c.args.order.now.graph in
    let num = subst (TellsNumber sorts s) c.in-Some.is (c.number_of.ensures g.subsorts order) in
    marked g ds sorts c.args.marks.now.items _ d s c.in-Some.number is num order.graph.numbering.once refl m

pub returns-else-number-len : goal.returns-else-number-len
returns-else-number-len c g ds d is order m =
    let s = sort_view c.args.sort.now in
    let sorts = sorts_of c.args.order.now.graph in
    let num = subst (TellsNumber sorts s) c.in-Some.is (c.number_of.ensures g.subsorts order) in
    let short : c.in-Some.number < length sorts = num.0 in
    let long : c.len.result ≡ length sorts = c.len.ensures ∙ c.args.marks.now.ok.0 ∙ m.as_many in
    let no : ⊥ = omega (arith, short, long) in
    absurd no

pub returns-in_default : goal.returns-in_default
returns-in_default c g ds d is order m =
    let s = sort_view c.args.sort.now in
    let sorts = sorts_of c.args.order.now.graph in
    unnumbered g ds sorts c.args.marks.now.items d s is (subst (TellsNumber sorts s) c.in_default.is (c.number_of.ensures g.subsorts order)) m
