use Rattle.kp_compile.proofs.Forms.{no_pair}
use Rattle.kp_compile.proofs.form.are_two_terms.Goals as goal

pub returns-then-patterns-ne2 : goal.returns-then-patterns-ne2
returns-then-patterns-ne2 c = λ s. no_pair s c.args.patterns.now c.if-patterns-ne2.true
