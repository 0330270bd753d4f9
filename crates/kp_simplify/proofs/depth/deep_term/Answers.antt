use Rattle.std.proofs.Common.{sym, ◌∙◌}
use Rattle.kp_kore.specs.View.{sort_view}
use Rattle.kp_symbolic.specs.Languages.{language_view}
use Rattle.kp_symbolic.specs.View.{term_view}
use Rattle.kp_simplify.specs.Answers.{side_of}
use Rattle.kp_simplify.proofs.ShallowLemmas.{not_deep}
use Rattle.kp_simplify.proofs.depth.deep_term.Goals as goal

pub returns-then-is_shallow : goal.returns-then-is_shallow
returns-then-is_shallow c =
    let side = side_of (sort_view c.args.sort.now) (term_view c.args.term.now) in
    sym (not_deep (language_view c.args.language.now) side (sym c.is_shallow.ensures ∙ c.if-is_shallow.true))
