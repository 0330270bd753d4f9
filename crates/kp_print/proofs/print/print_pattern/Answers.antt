use Rattle.std.proofs.Common.{◌≡◌, ℕ, List, sym, subst, rules}
use Rattle.kp_kore.specs.View.{view}
use Rattle.kp_text.specs.Spelling.{SpellsPattern}
use Rattle.kp_print.specs.Printed.{pattern_text}
use Rattle.kp_print.proofs.PrintedTexts.{printed_pattern}
use Rattle.kp_print.proofs.print.print_pattern.Goals as goal

pub returns-clause-spelled : goal.returns-clause-spelled
returns-clause-spelled c bytes spells =
    let text : c.into_bytes.result.items ≡ pattern_text (view c.args.pattern.now) = search rules in
    subst (λ (printed : List ℕ). SpellsPattern printed (view c.args.pattern.now)) (sym text) (printed_pattern bytes (view c.args.pattern.now) spells)
