use Rattle.std.proofs.Common.{rules, sym, ap, ◌∙◌, []}
use Rattle.std.specs.Option.{option_map}
use Rattle.std.proofs.lemmas.Result.{err_from_is_err_and}
use Rattle.kp_kore.specs.View.{view, sort_view}
use Rattle.kp_signature.specs.Places.{the_top}
use Rattle.kp_signature.specs.Scopes.{Knows}
use Rattle.kp_signature.specs.View.{signature_view}
use Rattle.kp_signature.proofs.OwnSorts.{has_a_sort}
use Rattle.kp_signature.proofs.verification.verify.Goals as goal

pub returns-in_err-verify_at-clause-fault : goal.returns-in_err-verify_at-clause-fault
returns-in_err-verify_at-clause-fault c =
    let p = err_from_is_err_and c.from_residual.result c.from_residual.ensures.1 in
    let knows : Knows [] c.new-scope.result = search rules in
    rw (p.1, p.2) (λ f is. c.in_err-verify_at.ensures.err f [] knows is)

pub unreachable-requires : goal.unreachable-requires
unreachable-requires c =
    let knows : Knows [] c.new-scope.result = search rules in
    has_a_sort (signature_view c.args.signature.now) the_top (view c.args.pattern.now) (sym c.in_ok-sort.ensures ∙ ap (option_map sort_view) c.in-None.is) (c.in_ok-verify_at.ensures.ok [] knows)
