use Rattle.std.proofs.Common.{◌∙◌, ap, subst}
use Rattle.kp_kore.specs.View.{module_view}
use Rattle.kp_text.specs.Spelling.{SpellsModule}
use Rattle.kp_registry.specs.Legal.{id_of}
use Rattle.kp_registry.specs.Registries.{table_of}
use Rattle.kp_registry_trials.proofs.Alone.{prepared_alone}
use Rattle.kp_registry_trials.proofs.modules.ready_of.Goals as goal

pub returns-clause-extends : goal.returns-clause-extends
returns-clause-extends c =
    let m = c.in_ok-module.module in
    let text = c.in_ok-text.text.items in
    prepared_alone (table_of c.args.registry.now) c.table.result.now text c.id_of.result m c.in_ok-rules.rules.value c.prepare.result c.table.ensures
    (subst (λ b. SpellsModule b (module_view m)) c.deref.ensures.value c.in_ok-module.ensures.spells) c.in_ok-module.ensures.alone c.in_ok-rules.ensures (c.id_of.ensures ∙ ap id_of c.deref-2.ensures.value) c.prepare.ensures.text c.prepare.ensures.id c.prepare.ensures.own c.prepare.ensures.rules
