use Rattle.std.proofs.Common.{rules, ◌≡◌, ◌∙◌, sym, ap, length}
use Rattle.kp_kore.specs.Syntax.{conjunction}
use Rattle.kp_kore.specs.View.{view, sort_view, patterns_view}
use Rattle.kp_kore.specs.declared.pattern.Pattern.{the_lemmas}
use Rattle.kp_kore.specs.Instance.{is_conjoined_pair}
use Rattle.kp_compile.proofs.Arity.{not_two_conjoined, first_no_term, second_no_term}
use Rattle.kp_compile.proofs.condition.conjoined_pair.Goals as goal
use Rattle.kp_compile.proofs.condition.conjoined_pair.Goals.{else-len-eq2-via-then-len-eq2+then-is_term+else-is_term-2, else-len-eq2-via-then-len-eq2+else-is_term, else-len-eq2-via-else-len-eq2}

pub returns-else-len-eq2 : goal.returns-else-len-eq2
returns-else-len-eq2 c =
    let is : view c.args.pattern.now ≡ conjunction (sort_view c.in-And.sort) (patterns_view c.in-And.patterns.items) = search (rules, the_lemmas) in
    let long : c.len.result ≡ length c.in-And.patterns.items = search rules in
    ap is_conjoined_pair is ∙ (elim c.else-len-eq2.branch [
      | else-len-eq2-via-then-len-eq2+then-is_term+else-is_term-2 w ↦ second_no_term (sort_view c.in-And.sort) c.in-And.patterns.items w.index-then-is_term.result.now w.index-then-is_term.ensures (sym w.is_term-then-is_term.ensures ∙ w.if-is_term-2.false)
      | else-len-eq2-via-then-len-eq2+else-is_term w ↦ first_no_term (sort_view c.in-And.sort) c.in-And.patterns.items w.index.result.now w.index.ensures (sym w.is_term.ensures ∙ w.if-is_term.false)
      | else-len-eq2-via-else-len-eq2 w ↦ not_two_conjoined (sort_view c.in-And.sort) c.in-And.patterns.items (λ e. w.if-len-eq2.false (long ∙ e))
    ])
