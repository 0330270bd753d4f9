use Rattle.std.proofs.Common.{◌∙◌, sym, ap}
use Rattle.std.specs.Prelude.{is_some}
use Rattle.kp_compile.proofs.NameLemmas.{among_texts, slot_found}
use Rattle.kp_compile.proofs.names.slot_of.Goals as goal

pub returns-in-Some : goal.returns-in-Some
returns-in-Some c = λ _. slot_found c.args.name.now c.args.names.now.keys c.in-Some.slot (sym c.get_index_of.ensures.index ∙ c.in-Some.is)

pub returns-in-None : goal.returns-in-None
returns-in-None c = λ among.
    let found = sym (ap is_some c.in-None.is) ∙ c.get_index_of.ensures.found ∙ sym (among_texts c.args.name.now c.args.names.now.keys) ∙ among in
    absurd (cc)
