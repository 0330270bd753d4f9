use Rattle.std.proofs.Common.{◌≡◌, ◌++◌, subst, false, IfOk, MatchBool}
use Rattle.kp_claim_sentences.specs.Claims.{are_apart}
use Rattle.kp_claim_sentences.proofs.names.is_new.Goals as goal

pub returns-in-Some-clause-is : goal.returns-in-Some-clause-is
returns-in-Some-clause-is c before more is =
    subst (λ x. IfOk c.is_new_name.result (λ b. MatchBool b (are_apart (before ++ x) more ≡ are_apart before (x ++ more)) (are_apart before (x ++ more) ≡ false))) c.in-Some.ensures
    (c.is_new_name.ensures.is before more is)
