use Rattle.std.proofs.Common.{sym, subst, ◌∙◌, inl, inr}
use Rattle.kp_kore.specs.View.{sort_view}
use Rattle.kp_signature.proofs.EdgeLemmas.{in_set}
use Rattle.kp_signature.specs.Numbering.{sorts_in, TellsNumber}
use Rattle.kp_heads.proofs.table.HeadTable.is_marked.Goals as goal

pub returns-in-Some-clause-sound : goal.returns-in-Some-clause-sound
returns-in-Some-clause-sound c g t h =
    let a = sort_view c.args.sort.now in
    let n = c.in-Some.number in
    let num = subst (TellsNumber (sorts_in c.args.self.now.numbering) a) c.in-Some.is (c.number_of.ensures t.numbering) in
    (t.live n a num).0 ((in_set c.args.self.now.live.keys n).0 (sym c.contains.ensures ∙ h))

pub returns-in-Some-clause-others : goal.returns-in-Some-clause-others
returns-in-Some-clause-others c g t u =
    let a = sort_view c.args.sort.now in
    let n = c.in-Some.number in
    let num = subst (TellsNumber (sorts_in c.args.self.now.numbering) a) c.in-Some.is (c.number_of.ensures t.numbering) in
    inl (c.contains.ensures ∙ (in_set c.args.self.now.live.keys n).1 ((t.live n a num).1 u))

pub returns-in-None-clause-others : goal.returns-in-None-clause-others
returns-in-None-clause-others c g t u =
    let a = sort_view c.args.sort.now in
    inr (t.others a (subst (TellsNumber (sorts_in c.args.self.now.numbering) a) c.in-None.is (c.number_of.ensures t.numbering)) u)
