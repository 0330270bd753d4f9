use Rattle.std.proofs.Common.{◌∙◌, sym}
use Rattle.kp_compile.proofs.NameLemmas.{among_texts}
use Rattle.kp_compile.proofs.names.has_name.Goals as goal

pub returns : goal.returns
returns c = c.contains.ensures ∙ sym (among_texts c.args.name.now c.args.names.now.keys)
