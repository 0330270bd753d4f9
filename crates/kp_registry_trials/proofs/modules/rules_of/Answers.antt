use Rattle.std.proofs.Common.{sym, subst, []}
use Rattle.kp_kore.specs.View.{module_view}
use Rattle.kp_signature.specs.View.{signature_view}
use Rattle.kp_book.specs.Books.{extended}
use Rattle.kp_modules.specs.Made.{IsSetOf}
use Rattle.kp_modules.specs.Tables.{rule_set_of}
use Rattle.kp_registry_trials.proofs.modules.rules_of.Goals as goal

pub returns-in_ok-new-in-Ok-extend : goal.returns-in_ok-new-in-Ok-extend
returns-in_ok-new-in-Ok-extend c =
    let g = signature_view (rule_set_of c.args.table.now).signature.value in
    let made : IsSetOf g (extended [] c.in-Ok.name.now (module_view c.args.added.now)) c.in-Ok-extend.rules = c.in-Ok-extend.ensures.set [] tt in
    let named : IsSetOf g (extended [] c.args.id.now (module_view c.args.added.now)) c.in-Ok-extend.rules = subst (λ n. IsSetOf g (extended [] n (module_view c.args.added.now)) c.in-Ok-extend.rules) c.in-Ok.ensures.cases.0 made in
    subst (IsSetOf g (extended [] c.args.id.now (module_view c.args.added.now))) (sym c.in_ok-new-in-Ok-extend.ensures.ok) named
