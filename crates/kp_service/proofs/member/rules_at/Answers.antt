use Rattle.std.proofs.Common.{inr, refl, subst, sym}
use Rattle.std.proofs.lemmas.Result.{IfOk-weaker}
use Rattle.std.specs.Option.{IsSome, option_map}
use Rattle.kp_additions.proofs.Later.{looked_none}
use Rattle.kp_registry.specs.Passes.{MeansAt}
use Rattle.kp_rpc.specs.View.{name_view}
use Rattle.kp_service.specs.Meant.{module_asked}
use Rattle.kp_service.proofs.Serving.{asked_means, for_all, for_any}
use Rattle.kp_service.proofs.member.rules_at.Goals as goal

pub returns-in-Some-clause-looked : goal.returns-in-Some-clause-looked
returns-in-Some-clause-looked g c = record { grows = c.look.ensures.seen; keeps = c.look.ensures.own }

pub returns-in-Some-clause-means : goal.returns-in-Some-clause-means
returns-in-Some-clause-means g c =
    for_all c.look.result c.args.registry.now c.look.new.pass (λ o book rules. MeansAt o book (module_asked o (name_view c.args.asked.now)) (option_map (λ r. r.value) rules))
    (λ o s seen. IfOk-weaker c.look.result _ _ (λ rules m. asked_means o s.book c.args.asked.now c.in-Some.name c.as_str.result.now (option_map (λ r. r.value) rules) c.in-Some.is c.as_str.ensures.value m) (c.look.ensures.found o s.book seen.table seen.seen))

pub returns-in-Some-clause-named : goal.returns-in-Some-clause-named
returns-in-Some-clause-named g c = for_any c.look.result _ (λ rules. inr (subst IsSome (sym c.in-Some.is) refl))

pub returns-in_ok-shared-in-None-clause-looked : goal.returns-in_ok-shared-in-None-clause-looked
returns-in_ok-shared-in-None-clause-looked g c = looked_none c.args.pass.now

pub returns-in_err-shared-in-None-clause-looked : goal.returns-in_err-shared-in-None-clause-looked
returns-in_err-shared-in-None-clause-looked g c = looked_none c.args.pass.now
