use Rattle.std.proofs.Common.{rules, ◌≡◌, true, subst}
use Rattle.std.proofs.lemmas.Result.{IfOk-weaker}
use Rattle.kp_kore.specs.View.{sort_view}
use Rattle.kp_signature.specs.Numbering.{TellsNumber}
use Rattle.kp_signature.specs.Order.{sorts_of}
use Rattle.kp_signature.specs.View.{signature_view}
use Rattle.kp_signature.proofs.OrderLemmas.{opposite}
use Rattle.kp_rules.proofs.IndexLemmas.{lower_alone, upper_alone, sorts_split, numbers_split, matched}
use Rattle.kp_rules.proofs.SplitLemmas.{alone_splits}
use Rattle.kp_rules.proofs.sort_index.SortIndex.splits.Goals as goal

pub returns-in_default : goal.returns-in_default
returns-in_default c =
    let g = signature_view c.args.signature.now in
    let t = sort_view c.args.lower.now in
    lower_alone g c.args.self.now c.requires t (sort_view c.args.upper.now) (subst (TellsNumber (sorts_of c.args.self.now.order.now.graph) t) c.in_default.is (c.number_of.ensures g.subsorts c.requires.order))

pub returns-in_default-number_of : goal.returns-in_default-number_of
returns-in_default-number_of c =
    let g = signature_view c.args.signature.now in
    let u = sort_view c.args.upper.now in
    upper_alone g c.args.self.now c.requires (sort_view c.args.lower.now) u (subst (TellsNumber (sorts_of c.args.self.now.order.now.graph) u) c.in_default-number_of.is (c.number_of-2.ensures g.subsorts c.requires.order))

pub returns-then-is_alone : goal.returns-then-is_alone
returns-then-is_alone c =
    let g = signature_view c.args.signature.now in
    let x = c.args.self.now in
    let t = sort_view c.args.lower.now in
    let u = sort_view c.args.upper.now in
    let ti = subst (TellsNumber (sorts_of x.order.now.graph) t) c.in-Some.is (c.number_of.ensures g.subsorts c.requires.order) in
    let uj = subst (TellsNumber (sorts_of x.order.now.graph) u) c.in-Some-number_of.is (c.number_of-2.ensures g.subsorts c.requires.order) in
    let passed : c.is_alone.result ≡ true = search rules in
    sorts_split g x c.requires t u c.in-Some.lower c.in-Some-number_of.upper ti uj (alone_splits x c.in-Some.lower c.in-Some-number_of.upper (c.is_alone.ensures g c.requires passed))

pub numbers_split-requires : goal.numbers_split-requires
numbers_split-requires c = let g = signature_view c.args.signature.now in opposite g.subsorts c.args.self.now.order.now.graph c.requires.order.graph

pub returns : goal.returns
returns c =
    let g = signature_view c.args.signature.now in
    let x = c.args.self.now in
    let t = sort_view c.args.lower.now in
    let u = sort_view c.args.upper.now in
    let i = c.in-Some.lower in
    let j = c.in-Some-number_of.upper in
    let ti = subst (TellsNumber (sorts_of x.order.now.graph) t) c.in-Some.is (c.number_of.ensures g.subsorts c.requires.order) in
    let uj = subst (TellsNumber (sorts_of x.order.now.graph) u) c.in-Some-number_of.is (c.number_of-2.ensures g.subsorts c.requires.order) in
    IfOk-weaker c.numbers_split.result _ _
    (λ b h. matched b h (sorts_split g x c.requires t u i j ti uj) (numbers_split g x c.requires t u i j ti uj)) c.numbers_split.ensures
