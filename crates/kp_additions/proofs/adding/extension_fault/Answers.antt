use Rattle.std.proofs.Common.{ap, sym}
use Rattle.kp_modules.specs.Extending.{declaration, extend_fault, rule_fault}
use Rattle.kp_replies.specs.Failures.{bad_axiom, bad_module, bad_sentence}
use Rattle.kp_additions.proofs.Telling.{inside}
use Rattle.kp_additions.proofs.adding.extension_fault.Goals as goal

pub returns-in-RuleFault : goal.returns-in-RuleFault
returns-in-RuleFault c = λ f told. (rule_fault c.in-RuleFault.axiom, sym (inside (bad_module (bad_axiom c.in-RuleFault.axiom)) f told), ap extend_fault c.in-RuleFault.is)

pub returns-in-Declaration : goal.returns-in-Declaration
returns-in-Declaration c = λ f told. (declaration c.in-Declaration.sentence, sym (inside (bad_module (bad_sentence c.in-Declaration.sentence)) f told), ap extend_fault c.in-Declaration.is)
