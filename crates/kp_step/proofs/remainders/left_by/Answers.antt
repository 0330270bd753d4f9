use Rattle.std.proofs.Common.{rules, ◌≡◌, sym, subst, [], ◌∷◌, None}
use Rattle.std.specs.Option.{option_map}
use Rattle.kp_unify.specs.Views.{signature_of}
use Rattle.kp_step.specs.Rules.{TellsRead, IsReadAt}
use Rattle.kp_step.specs.Remainders.{AreUntaken, OneTakesAll}
use Rattle.kp_step.specs.Views.{numbered_views}
use Rattle.kp_satisfiability.proofs.Answered.{if_ok}
use Rattle.kp_step.proofs.OneSortLemmas.{so_false}
use Rattle.kp_step.proofs.RemainderLemmas.{rule_passes}
use Rattle.kp_step.proofs.TakeLemmas.{takes_by_test, passes_by_test, reads}
use Rattle.kp_step.proofs.remainders.left_by.Goals as goal

pub returns-then-not-takes-clause-left : goal.returns-then-not-takes-clause-left
returns-then-not-takes-clause-left c t used o found q s p steps setting number rule l =
    rule_passes (signature_of c.args.setting) used o found q s p (numbered_views c.args.parts.items)
    (passes_by_test c.takes.result c.args.turn.now.priority c.args.priority q o c.takes.ensures number rule.1 (so_false c.takes.result c.if-not-takes.true)) l

pub returns-in-Some-clause-alone : goal.returns-in-Some-clause-alone
returns-in-Some-clause-alone c t used found q s p steps setting none rule l =
    let place = c.args.turn.now.place in
    let w = c.in-Some.rewrite.now in
    let told : IsReadAt t place w = subst (λ o. TellsRead t place (option_map (λ r. r.now) o)) c.in-Some.is (c.read_at.ensures t steps.runs) in
    let x = reads t c.args.setting c.args.rules.now place w q steps told rule.0 in
    let seen : numbered_views c.deref.result.now ≡ numbered_views c.args.parts.items = search rules in
    if_ok c.without.result _ _ (λ left e. subst (λ ps. OneTakesAll (signature_of c.args.setting) (q ∷ []) ps (numbered_views left.items)) seen e.everywhere)
    (c.without.ensures used None found q x.read s p setting x.body x.sides x.verified tt (subst (AreUntaken (signature_of c.args.setting) used None found s p) (sym seen) l))

pub returns-in-Some-clause-left : goal.returns-in-Some-clause-left
returns-in-Some-clause-left c t used o found q s p steps setting number rule l =
    let place = c.args.turn.now.place in
    let w = c.in-Some.rewrite.now in
    let told : IsReadAt t place w = subst (λ o. TellsRead t place (option_map (λ r. r.now) o)) c.in-Some.is (c.read_at.ensures t steps.runs) in
    let x = reads t c.args.setting c.args.rules.now place w q steps told rule.0 in
    let takes = takes_by_test c.takes.result c.args.turn.now.priority c.args.priority q o c.takes.ensures number rule.1 c.if-not-takes.false in
    let seen : numbered_views c.deref.result.now ≡ numbered_views c.args.parts.items = search rules in
    if_ok c.without.result _ _ (λ left e. e.are_left) (c.without.ensures used o found q x.read s p setting x.body x.sides x.verified takes (subst (AreUntaken (signature_of c.args.setting) used o found s p) (sym seen) l))
