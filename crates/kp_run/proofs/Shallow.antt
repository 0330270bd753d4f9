-- The rule that has its turn was matched against the value.
use Rattle.std.proofs.Common.{ℕ, List, [], ◌∷◌, inl, inr}
use Rattle.kp_kore.specs.Signature.{KoreSignature}
use Rattle.kp_kore.specs.Value.{Value}
use Rattle.kp_rules.specs.declared.rule.Rule.{Rule}
use Rattle.kp_run.specs.Shallow.{IsMatchOf}
use Rattle.kp_run.specs.Turns.{IsFiring, GoesAfter, OneAmong}
use Rattle.kp_run.specs.declared.firing.GroundFiring.{GroundFiring}

pub match_of : (g : KoreSignature) (u : Value) (f : GroundFiring) (n : ℕ) (rules : List Rule) → OneAmong (IsFiring g u f) (GoesAfter g u n) rules → IsMatchOf f u
match_of g u f n [] one = absurd one
match_of g u f n (r ∷ rules) (inl here) = record { same = λ v s. ((here.0.solved v).0 s).0.matches; solvable = here.0.solvable }
match_of g u f n (r ∷ rules) (inr there) = match_of g u f n rules there.1
