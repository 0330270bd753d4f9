use Rattle.std.proofs.Common.{rules, ◌≡◌, sym, ap, ◌∙◌, ◌+◌, ◌||◌, true, false, map, drop}
use Rattle.std.specs.List.{flat_map}
use Rattle.kp_kore.specs.Instance.{is_named}
use Rattle.kp_symbolic.specs.States.{Literal, atom_variables}
use Rattle.kp_symbolic.specs.View.{literal_view}
use Rattle.kp_literals.proofs.NameLemmas.{named_at}
use Rattle.kp_literals.proofs.names.some_has_name.Goals as goal

pub returns-then-branch : goal.returns-then-branch
returns-then-branch c =
    let x = c.args.name.now in
    let f = λ (l : Literal). atom_variables l.atom in
    let ls = c.args.literals.now in
    let i = c.loop-literal.literal-index in
    let here : is_named x (f (literal_view c.literal-item.result)) ≡ true = search rules in
    sym (c.loop-literal.invariant ∙ named_at x f literal_view ls i c.literal-item.result c.loop-literal-test.true c.literal-item.is ∙ ap (λ b. b || is_named x (flat_map f (map literal_view (drop (i + 1) ls)))) here)

pub loop-literal-preserved : goal.loop-literal-preserved
loop-literal-preserved c =
    let x = c.args.name.now in
    let f = λ (l : Literal). atom_variables l.atom in
    let ls = c.args.literals.now in
    let i = c.loop-literal.literal-index in
    let here : is_named x (f (literal_view c.literal-item.result)) ≡ false = search rules in
    c.loop-literal.invariant ∙ named_at x f literal_view ls i c.literal-item.result c.loop-literal-test.true c.literal-item.is ∙ ap (λ b. b || is_named x (flat_map f (map literal_view (drop (i + 1) ls)))) here
