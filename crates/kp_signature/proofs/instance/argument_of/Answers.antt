use Rattle.std.proofs.Common.{sym, ◌∙◌, string_bytes, arith}
use Rattle.kp_signature.proofs.InstanceLemmas.{next_parameter, no_parameter, no_argument}
use Rattle.kp_signature.proofs.instance.argument_of.Goals as goal
use Rattle.kp_signature.proofs.instance.argument_of.Goals.{else-loop-i-test, then-loop-i-test+then-i-arguments}

pub loop-i-preserved : goal.loop-i-preserved
loop-i-preserved c =
    c.loop-i.invariant ∙ next_parameter (string_bytes c.args.name.now) c.args.parameters.now c.args.arguments.now c.loop-i.i c.index-parameters-i.result
    c.loop-i-test.true (omega arith) c.index-parameters-i.is (sym c.eq.ensures ∙ c.if-eq.false)

pub returns : goal.returns
returns c =
    c.in_ok-variable_named.ensures ∙ sym (c.loop-i.invariant ∙ elim c.loop-i-test.branch [
      | else-loop-i-test w ↦ no_parameter (string_bytes c.args.name.now) c.args.parameters.now c.args.arguments.now c.loop-i.i (omega arith)
      | then-loop-i-test+then-i-arguments w ↦ no_argument (string_bytes c.args.name.now) c.args.parameters.now c.args.arguments.now c.loop-i.i (omega arith)
    ])
