use Rattle.std.proofs.Common.{subst, map}
use Rattle.std.specs.Prelude.{MatchOption}
use Rattle.std.specs.List.{AllByRecursion}
use Rattle.kp_unify.specs.Views.{signature_of}
use Rattle.kp_step.specs.Limits.{PassesNone, IsFirstPassed}
use Rattle.kp_step.specs.Views.{limit_view, next_told, part_told}
use Rattle.kp_step.proofs.LimitLemmas.{first_left, passed_by_rest}
use Rattle.kp_step.proofs.limits.first_limit.Goals as goal

pub returns-in-Some : goal.returns-in-Some
returns-in-Some c =
    let g = signature_of c.args.setting in
    let xs = map next_told c.args.nexts.now in
    first_left g (limit_view c.in-Some.limit) xs (map part_told c.args.remainder.now)
    (subst (λ o. MatchOption o (AllByRecursion (λ x. PassesNone g x) xs) (λ l. IsFirstPassed g xs (limit_view l))) c.in-Some.is c.in_ok-limit.ensures)

pub returns-in-None : goal.returns-in-None
returns-in-None c =
    let g = signature_of c.args.setting in
    let xs = map next_told c.args.nexts.now in
    passed_by_rest c.remainder_limit.result g xs (map part_told c.args.remainder.now)
    (subst (λ o. MatchOption o (AllByRecursion (λ x. PassesNone g x) xs) (λ l. IsFirstPassed g xs (limit_view l))) c.in-None.is c.in_ok-limit.ensures) c.remainder_limit.ensures
