use Rattle.std.proofs.Common.{sym, ◌∙◌, true, false, ◌≡◌}
use Rattle.kp_execute.proofs.executing.without_injection.Goals as goal

true_is_false : true ≡ false → ⊥
true_is_false e = cc

pub returns : goal.returns
returns c = λ p e. true_is_false (sym (c.has_injection.ensures.1 e) ∙ c.if-has_injection.false)
