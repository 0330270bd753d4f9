use Rattle.std.proofs.Common.{sym, subst, inl, inr}
use Rattle.std.specs.Prelude.{IsTrue}
use Rattle.kp_kore.specs.View.{view, sort_view}
use Rattle.kp_signature.specs.View.{signature_view}
use Rattle.kp_kore.specs.Foreign.{none_within}
use Rattle.kp_ground.specs.View.{value_view}
use Rattle.kp_compile.specs.Spelled.{IsSpellingOf, has_two_sorts, is_other_form}
use Rattle.kp_compile.proofs.SpelledForms.{spelling_written}
use Rattle.kp_compile.proofs.SpelledParts.{none_there}
use Rattle.kp_compile.proofs.SpelledMeaning.{spelling_means}
use Rattle.kp_compile.proofs.spelling.spelled.Goals as goal

pub returns-then-has_injection-clause-meant : goal.returns-then-has_injection-clause-meant
returns-then-has_injection-clause-meant c = λ h.
    subst (IsSpellingOf (signature_view c.args.signature.now) (value_view c.args.value.now)) (sym c.in_ok-pattern.ensures.normal)
    (spelling_means (signature_view c.args.signature.now) (sort_view c.args.sort.now) (value_view c.args.value.now) h (c.in_ok-pattern.ensures.fits h) (inl (c.has_injection.ensures.0 c.if-has_injection.true)))

pub returns-clause-meant : goal.returns-clause-meant
returns-clause-meant c = λ h.
    subst (IsSpellingOf (signature_view c.args.signature.now) (value_view c.args.value.now)) (sym c.in_ok-pattern.ensures.normal)
    (spelling_means (signature_view c.args.signature.now) (sort_view c.args.sort.now) (value_view c.args.value.now) h (c.in_ok-pattern.ensures.fits h)
    (inr (subst (λ p. IsTrue (none_within has_two_sorts p)) c.in_ok-pattern.ensures.normal (none_there c.in_ok-injects.field-0 (none_within has_two_sorts (view c.in_ok-pattern.pattern)) c.in_ok-injects.ensures c.if-branch.false))))

pub returns-then-has_injection-clause-written : goal.returns-then-has_injection-clause-written
returns-then-has_injection-clause-written c =
    subst (λ p. IsTrue (none_within is_other_form p)) (sym c.in_ok-pattern.ensures.normal)
    (spelling_written (signature_view c.args.signature.now) (sort_view c.args.sort.now) (value_view c.args.value.now))

pub returns-clause-written : goal.returns-clause-written
returns-clause-written c =
    subst (λ p. IsTrue (none_within is_other_form p)) (sym c.in_ok-pattern.ensures.normal)
    (spelling_written (signature_view c.args.signature.now) (sort_view c.args.sort.now) (value_view c.args.value.now))
