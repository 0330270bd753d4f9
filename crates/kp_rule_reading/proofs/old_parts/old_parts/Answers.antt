use Rattle.std.proofs.Common.{◌≡◌, ◌∙◌, ap, subst, map}
use Rattle.std.specs.Prelude.{IfOk, IfErr}
use Rattle.std.specs.List.{AllByRecursion}
use Rattle.kp_kore.specs.Parts.{subpatterns}
use Rattle.kp_kore.specs.View.{view, sorted_variable_view}
use Rattle.kp_signature.specs.View.{signature_view}
use Rattle.kp_compile.specs.Names.{names_seen}
use Rattle.kp_compile.specs.Verified.{IsVerifiedTerm}
use Rattle.kp_compile.specs.declared.error.CompileError.TheVariants.{Memory}
use Rattle.kp_rules.specs.Shapes.{seen}
use Rattle.kp_rule_reading.specs.Compiled.{AreOldParts}
use Rattle.kp_rule_reading.proofs.old_parts.old_parts.Goals as goal

pub returns-clause-parts : goal.returns-clause-parts
returns-clause-parts c =
    let same : seen c.deref.result.now ≡ subpatterns (view c.args.term.now) = ap seen c.deref.ensures.value ∙ c.in_ok-parts.ensures in
    subst (λ ps. IfOk c.old_among.result (λ ts. AreOldParts (signature_view c.args.signature.now) (names_seen c.args.names.now) (map sorted_variable_view c.args.new_variables.now) ps ts.items)) same c.old_among.ensures.parts

pub returns-clause-refused : goal.returns-clause-refused
returns-clause-refused c =
    let same : seen c.deref.result.now ≡ subpatterns (view c.args.term.now) = ap seen c.deref.ensures.value ∙ c.in_ok-parts.ensures in
    subst (λ ps. IfErr c.old_among.result (λ e. AllByRecursion (IsVerifiedTerm (signature_view c.args.signature.now)) ps → e ≡ Memory)) same c.old_among.ensures.refused
