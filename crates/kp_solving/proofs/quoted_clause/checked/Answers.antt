use Rattle.std.proofs.Common.{rules, ◌≡◌, inl, false}
use Rattle.kp_kore.specs.View.{view}
use Rattle.kp_signature.specs.View.{signature_view}
use Rattle.kp_outward.proofs.InjectionLemmas.{none_stands}
use Rattle.kp_solving.proofs.quoted_clause.checked.Goals as goal

pub returns-then-has_injection-clause-injects : goal.returns-then-has_injection-clause-injects
returns-then-has_injection-clause-injects c = inl (c.has_injection.ensures.0 c.if-has_injection.true)

pub returns-clause-injects : goal.returns-clause-injects
returns-clause-injects c =
    let b = c.in_ok-injects.field-0 in
    let is : b ≡ false = search rules in
    none_stands (signature_view c.args.signature.now) (view c.args.pattern) b c.in_ok-injects.ensures is
