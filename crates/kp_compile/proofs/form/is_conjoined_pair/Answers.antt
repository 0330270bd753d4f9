use Rattle.std.proofs.Common.{rules, ◌≡◌, ◌∙◌, sym, ap, subst}
use Rattle.kp_kore.specs.Syntax.{conjunction}
use Rattle.kp_kore.specs.View.{view, sort_view, patterns_view}
use Rattle.kp_kore.specs.declared.pattern.Pattern.{the_lemmas}
use Rattle.kp_kore.specs.Instance.{is_conjoined_pair}
use Rattle.kp_compile.proofs.form.is_conjoined_pair.Goals as goal

pub returns-in-And : goal.returns-in-And
returns-in-And c =
    let is : view c.args.pattern.now ≡ conjunction (sort_view c.in-And.sort) (patterns_view c.in-And.patterns.items) = search (rules, the_lemmas) in
    subst (λ ps. c.are_two_terms.result ≡ is_conjoined_pair (conjunction (sort_view c.in-And.sort) (patterns_view ps))) c.deref.ensures.value (c.are_two_terms.ensures (sort_view c.in-And.sort))
    ∙ ap is_conjoined_pair (sym is)
