use Rattle.std.proofs.Common.{inl, inr}
use Rattle.kp_symbolic.specs.View.{term_view}
use Rattle.kp_unify.specs.Forms.{form_view}
use Rattle.kp_unify.proofs.ClashLemmas.{differs_never}
use Rattle.kp_unify.proofs.repeats.differs.Goals as goal

pub returns-then-clashes-clause-never : goal.returns-then-clashes-clause-never
returns-then-clashes-clause-never c told = differs_never (form_view c.args.form) (term_view c.args.term.now) (inl (c.clashes.ensures.0 told))

pub returns-else-clashes-clause-never : goal.returns-else-clashes-clause-never
returns-else-clashes-clause-never c told = differs_never (form_view c.args.form) (term_view c.args.term.now) (inr (c.differs_here.ensures.0 told))
