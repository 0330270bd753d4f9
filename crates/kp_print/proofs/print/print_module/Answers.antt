use Rattle.std.proofs.Common.{◌≡◌, ℕ, List, sym, subst, rules}
use Rattle.kp_kore.specs.View.{module_view}
use Rattle.kp_text.specs.Spelling.{SpellsModule}
use Rattle.kp_print.specs.Printed.{module_text}
use Rattle.kp_print.proofs.PrintedTexts.{printed_module}
use Rattle.kp_print.proofs.print.print_module.Goals as goal

pub returns-clause-spelled : goal.returns-clause-spelled
returns-clause-spelled c bytes spells =
    let text : c.into_bytes.result.items ≡ module_text (module_view c.args.module.now) = search rules in
    subst (λ (printed : List ℕ). SpellsModule printed (module_view c.args.module.now)) (sym text) (printed_module bytes (module_view c.args.module.now) spells)
