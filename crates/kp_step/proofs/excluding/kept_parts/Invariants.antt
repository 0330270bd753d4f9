use Rattle.std.proofs.Common.{List, ◌++◌}
use Rattle.kp_kore.specs.Syntax.{Text}
use Rattle.kp_kore.specs.Rules.{RuleBody}
use Rattle.kp_case_laws.specs.Parts.{StatePart}
use Rattle.kp_unify.specs.Views.{signature_of}
use Rattle.kp_step.specs.Silent.{IsExcluded}
use Rattle.kp_step.specs.Firings.{numbered}
use Rattle.kp_step.proofs.excluding.kept_parts.Given as goal

abbrev pub invariant-loop-part : goal.invariant-loop-part
invariant-loop-part l =
    (used : List Text) (body : RuleBody) (p : StatePart) → IsExcluded (signature_of l.setting) used body p (numbered l.fn.parts.items) →
    IsExcluded (signature_of l.setting) used body p (numbered l.kept.items ++ numbered l.part-iterator.rest.items)
