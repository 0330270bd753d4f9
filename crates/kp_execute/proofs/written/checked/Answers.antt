use Rattle.std.proofs.Common.{rules, ◌≡◌, inl, subst, not, true, false}
use Rattle.kp_kore.specs.View.{view}
use Rattle.kp_kore.specs.Foreign.{none_within}
use Rattle.kp_compile.specs.Spelled.{has_two_sorts}
use Rattle.kp_signature.specs.View.{signature_view}
use Rattle.kp_outward.proofs.InjectionLemmas.{none_stands, one_stands}
use Rattle.kp_execute.proofs.written.checked.Goals as goal

pub returns-then-has_injection-clause-injects : goal.returns-then-has_injection-clause-injects
returns-then-has_injection-clause-injects c = inl (c.has_injection.ensures.0 c.if-has_injection.true)

pub returns-clause-injects : goal.returns-clause-injects
returns-clause-injects c =
    let b = c.in_ok-injects.field-0 in
    let is : b ≡ false = search rules in
    none_stands (signature_view c.args.signature.now) (view c.args.pattern.value) b (subst (λ p. b ≡ not (none_within has_two_sorts (view p))) c.deref.ensures c.in_ok-injects.ensures) is

pub returns-then-branch-clause-refused : goal.returns-then-branch-clause-refused
returns-then-branch-clause-refused c = λ _.
    let b = c.in_ok-injects.field-0 in
    let is : b ≡ true = search rules in
    one_stands (signature_view c.args.signature.now) (view c.args.pattern.value) b (subst (λ p. b ≡ not (none_within has_two_sorts (view p))) c.deref.ensures c.in_ok-injects.ensures) is
    (λ there. absurd (cc (c.has_injection.ensures.1 there, c.if-has_injection.false)))
