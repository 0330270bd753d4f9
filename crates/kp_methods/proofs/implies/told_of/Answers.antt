use Rattle.std.proofs.Common.{sym, subst}
use Rattle.kp_heads.specs.Made.{IsHeadTableOf}
use Rattle.kp_kore.specs.View.{sort_view, view}
use Rattle.kp_symbolic.specs.Languages.{language_view}
use Rattle.kp_implies.specs.Told.{IsUnanswered}
use Rattle.kp_methods.specs.Prepared.{signature_in}
use Rattle.kp_methods.proofs.Implying.{right_found, told_where_checked}
use Rattle.kp_methods.proofs.implies.told_of.Goals as goal

pub returns-in-Ok-clause-found : goal.returns-in-Ok-clause-found
returns-in-Ok-clause-found c = λ x.
    let g = signature_in c.args.prepared.now in
    let h = language_view c.in_ok-language.language in
    let heads = subst (λ k. IsHeadTableOf k c.args.prepared.now.heads) (sym c.in_ok-language.ensures) c.requires in
    told_where_checked g (view c.args.left.now) (view c.args.right.now) (record { sort = c.args.sort; found = c.in-Ok.found }) x
    (right_found g h c.in_ok-language.ensures (view c.args.left.now) (view c.args.right.now) (sort_view c.args.sort) (sort_view c.in_ok-own.own) c.in-Ok.found c.in_ok-own.ensures x (λ other. c.in-Ok.ensures.answered other (record { lists = c.in_ok-met.ensures; heads = heads })))

pub returns-in-Err-clause-failed : goal.returns-in-Err-clause-failed
returns-in-Err-clause-failed c = λ x.
    let g = signature_in c.args.prepared.now in
    c.unanswered.ensures g (view c.args.left.now) (view c.args.right.now) x.faultless x.comparable (subst (λ k. IsUnanswered k c.in-Err.error) c.in_ok-language.ensures c.in-Err.ensures.refused)
