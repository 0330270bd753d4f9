use Rattle.std.proofs.Common.{rules, ◌≡◌, ◌∙◌, None}
use Rattle.kp_kore.specs.Signature.{symbol_declared}
use Rattle.kp_kore.specs.View.{sort_view, symbol_sentence_view, alias_sentence_view}
use Rattle.kp_signature.specs.View.{signature_view}
use Rattle.kp_literals.proofs.ResultSorts.{symbol_makes, alias_makes}
use Rattle.kp_literals.proofs.equation.makes_below.Goals as goal

pub returns-in-Some : goal.returns-in-Some
returns-in-Some c =
    let g = signature_view c.args.signature.now in
    c.lies_below.ensures ∙ symbol_makes g c.args.name.now (sort_view c.args.sort.now) (symbol_sentence_view c.in-Some.declaration.now) c.in-Some.ensures

pub returns-in-Some-alias : goal.returns-in-Some-alias
returns-in-Some-alias c =
    let g = signature_view c.args.signature.now in
    let none : None ≡ symbol_declared g c.args.name.now = search rules in
    c.lies_below-in-Some-alias.ensures ∙ alias_makes g c.args.name.now (sort_view c.args.sort.now) (alias_sentence_view c.in-Some-alias.declaration.now) none c.in-Some-alias.ensures
