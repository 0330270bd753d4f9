use Rattle.std.proofs.Common.{rules, ◌≡◌, true, subst}
use Rattle.std.proofs.lemmas.Result.{IfOk-weaker}
use Rattle.kp_kore.specs.View.{sort_view}
use Rattle.kp_signature.specs.Numbering.{TellsNumber}
use Rattle.kp_signature.specs.Order.{sorts_of}
use Rattle.kp_signature.specs.View.{signature_view}
use Rattle.kp_signature.proofs.OrderLemmas.{opposite}
use Rattle.kp_rules.proofs.IndexLemmas.{matched}
use Rattle.kp_rule_reading.proofs.LoneVariables.{unnamed_splits, sort_splits, number_splits, alone_splits}
use Rattle.kp_rule_reading.proofs.lone.sort_splits.Goals as goal

pub returns-in_default : goal.returns-in_default
returns-in_default c =
    let x = c.args.index.now in
    let t = sort_view c.args.sort.now in
    unnamed_splits (signature_view c.args.signature.now) x c.requires t (subst (TellsNumber (sorts_of x.order.now.graph) t) c.in_default.is (c.number_of.ensures (signature_view c.args.signature.now).subsorts c.requires.order))

pub returns-then-is_alone : goal.returns-then-is_alone
returns-then-is_alone c =
    let g = signature_view c.args.signature.now in
    let x = c.args.index.now in
    let t = sort_view c.args.sort.now in
    let i = c.in-Some.number in
    let ti = subst (TellsNumber (sorts_of x.order.now.graph) t) c.in-Some.is (c.number_of.ensures g.subsorts c.requires.order) in
    let passed : c.is_alone.result ≡ true = search rules in
    sort_splits g x c.requires t i ti (alone_splits x i (c.is_alone.ensures g c.requires passed))

pub number_splits-requires : goal.number_splits-requires
number_splits-requires c = let g = signature_view c.args.signature.now in opposite g.subsorts c.args.index.now.order.now.graph c.requires.order.graph

pub returns : goal.returns
returns c =
    let g = signature_view c.args.signature.now in
    let x = c.args.index.now in
    let t = sort_view c.args.sort.now in
    let i = c.in-Some.number in
    let ti = subst (TellsNumber (sorts_of x.order.now.graph) t) c.in-Some.is (c.number_of.ensures g.subsorts c.requires.order) in
    IfOk-weaker c.number_splits.result _ _
    (λ b h. matched b h (sort_splits g x c.requires t i ti) (number_splits g x c.requires t i ti)) c.number_splits.ensures
