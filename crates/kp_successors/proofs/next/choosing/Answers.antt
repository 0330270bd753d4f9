use Rattle.std.proofs.Common.{◌≡◌, subst}
use Rattle.std.proofs.lemmas.Result.{err_from_is_err_and}
use Rattle.kp_kore.specs.View.{view, sort_view}
use Rattle.kp_signature.specs.View.{signature_view}
use Rattle.kp_pattern_substitution.specs.Seen.{replacements_view}
use Rattle.kp_successors.specs.Choices.{chosen_pattern}
use Rattle.kp_successors.specs.Nexts.{new_of, ensured_of}
use Rattle.kp_successors.proofs.Refused.{caused_by, from_evaluation}
use Rattle.kp_successors.proofs.next.choosing.Goals as goal

pub returns-clause-next : goal.returns-clause-next
returns-clause-next c =
    let side = c.args.side.now in
    record {
      terms = replacements_view c.in_ok-replacements.replacements.items;
      names = c.in_ok-replacements.ensures.names;
      spelled = c.in_ok-replacements.ensures.spelled;
      pattern = subst (λ rs. view c.in_ok-chosen.field-0 ≡ chosen_pattern (sort_view c.args.sort.now) (replacements_view rs) (view side.term) (ensured_of side) (new_of side)) c.deref.ensures.value c.in_ok-chosen.ensures;
    }

pub returns-in_err-narrow-clause-refused : goal.returns-in_err-narrow-clause-refused
returns-in_err-narrow-clause-refused c =
    let p = err_from_is_err_and c.from_residual.result c.from_residual.ensures.1 in
    rw p.1 (from_evaluation (signature_view c.args.signature.now) _ c.in_err-narrow.field-0.0 p.0 p.2 c.in_err-narrow.ensures.wide)

pub returns-in_err-replacements-clause-refused : goal.returns-in_err-replacements-clause-refused
returns-in_err-replacements-clause-refused c =
    let p = err_from_is_err_and c.from_residual-in_err-replacements.result c.from_residual-in_err-replacements.ensures.1 in
    rw (p.1, p.2) (caused_by (signature_view c.args.signature.now) _ _ c.in_err-replacements.field-0.0 (λ w. absurd w) c.in_err-replacements.ensures.refused)
