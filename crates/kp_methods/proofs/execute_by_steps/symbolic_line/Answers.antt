use Rattle.std.proofs.Common.{sym, subst, ◌∙◌}
use Rattle.kp_heads.specs.Made.{IsHeadTableOf}
use Rattle.kp_methods.proofs.execute_by_steps.symbolic_line.Goals as goal

pub returns : goal.returns
returns c = λ s runs over verified. c.line_over.ensures s runs (c.in_ok-language.ensures ∙ over) verified

pub line_over-requires : goal.line_over-requires
line_over-requires c = subst (λ g. IsHeadTableOf g c.args.prepared.now.heads) (sym c.in_ok-language.ensures) c.requires
