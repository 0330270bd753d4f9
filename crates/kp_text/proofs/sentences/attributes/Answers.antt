use Rattle.std.proofs.Common.{◌∙◌, sym, ap}
use Rattle.std.proofs.lemmas.Result.{IfOk-weaker, IfErr-weaker}
use Rattle.kp_kore.specs.View.{patterns_of}
use Rattle.kp_text.specs.Next.{a_mark, patterns, an_attributes}
use Rattle.kp_text.specs.Reads.{run_text}
use Rattle.kp_text.proofs.Exits.{stops_there}
use Rattle.kp_text.proofs.sentences.attributes.Goals as goal

pub returns-clause-found : goal.returns-clause-found
returns-clause-found c = IfOk-weaker c.patterns.result _ _ (λ x found k. found (λ ps. k (patterns_of ps)) ∙ c.in_ok-rest.ensures.found (patterns c.first.result 93 (λ ps. k (patterns_of ps))) ∙ ap (λ l. run_text c.args.tail c.args.text.now (a_mark 91 (patterns l 93 (λ ps. k (patterns_of ps))))) c.first.ensures) c.patterns.ensures.found

pub returns-clause-fault : goal.returns-clause-fault
returns-clause-fault c = IfErr-weaker c.patterns.result _ _ (λ e stop. stops_there c.args.tail c.args.text.now c.in_ok-rest.rest.now an_attributes (patterns c.first.result 93) (λ k ps. k (patterns_of ps)) e (λ k. sym (c.in_ok-rest.ensures.found (patterns c.first.result 93 (λ ps. k (patterns_of ps))) ∙ ap (λ l. run_text c.args.tail c.args.text.now (a_mark 91 (patterns l 93 (λ ps. k (patterns_of ps))))) c.first.ensures)) stop) c.patterns.ensures.fault
