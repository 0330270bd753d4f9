use Rattle.std.proofs.Common.{rules, ◌≡◌, sym, ◌∙◌, true, length, get_or, codes}
use Rattle.std.specs.Str.{bytes_eq}
use Rattle.kp_kore.specs.View.{view, sort_view}
use Rattle.kp_claims.proofs.Outlines.{other_sorts, other_arguments, other_sort, one_of_each, the_same_sort}
use Rattle.kp_claims.proofs.outline.argument_on_all.Goals as goal

pub returns-then-sorts-ne1 : goal.returns-then-sorts-ne1
returns-then-sorts-ne1 c = sym (other_sorts (sort_view c.args.sort.now) c.args.symbol.now c.args.sorts.now c.args.arguments.now c.if-sorts-ne1.true)

pub returns-then-arguments-ne1 : goal.returns-then-arguments-ne1
returns-then-arguments-ne1 c = sym (other_arguments (sort_view c.args.sort.now) c.args.symbol.now c.args.sorts.now c.args.arguments.now c.if-arguments-ne1.true)

pub returns-then-equal : goal.returns-then-equal
returns-then-equal c =
    let s = sort_view c.args.sort.now in
    let f = c.args.symbol.now in
    let ss = c.args.sorts.now in
    let ps = c.args.arguments.now in
    let t = c.index-sorts-0.result in
    let p = c.index-arguments-0.result in
    let one_sort : length ss ≡ 1 = search rules in
    let one_argument : length ps ≡ 1 = search rules in
    let at : t ≡ get_or ss 0 t = search rules in
    let there : p ≡ get_or ps 0 p = search rules in
    let named : bytes_eq f (codes "weakAlwaysFinally") ≡ true = search rules in
    sym (one_of_each s f ss ps t p one_sort one_argument at there ∙ the_same_sort s (sort_view t) (bytes_eq f (codes "weakAlwaysFinally")) (view p) named (c.equal.ensures.0 c.if-equal.true))

pub returns : goal.returns
returns c =
    let ss = c.args.sorts.now in
    let t = c.index-sorts-0.result in
    let one_sort : length ss ≡ 1 = search rules in
    let at : t ≡ get_or ss 0 t = search rules in
    sym (other_sort (sort_view c.args.sort.now) c.args.symbol.now ss c.args.arguments.now t one_sort at (λ same. absurd (cc (c.equal.ensures.1 same, c.if-equal.false))))
