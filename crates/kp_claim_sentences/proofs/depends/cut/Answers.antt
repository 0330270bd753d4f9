use Rattle.kp_claim_sentences.proofs.Commas.{cut_parts}
use Rattle.kp_claim_sentences.proofs.depends.cut.Goals as goal

pub returns-clause-parts : goal.returns-clause-parts
returns-clause-parts c = cut_parts c.args.text.now c.split_once.result c.split_once.ensures.cases
