use Rattle.std.proofs.Common.{rules, ◌≡◌, ◌∙◌, sym, ◌++◌, ◌∷◌, []}
use Rattle.kp_unify.specs.Views.{signature_of}
use Rattle.kp_step.proofs.LoopLemmas.{nothing_left}
use Rattle.kp_step.proofs.StageLemmas.{solves_more, solves_all}
use Rattle.kp_step.proofs.next_states.all_settled.Goals as goal

pub loop-part-preserved : goal.loop-part-preserved
loop-part-preserved c used ready =
    let p = c.in-Some.part in
    let r = c.in_ok-settled.field-0 in
    let pushed : c.push.new.self.items ≡ c.loop-part.found.items ++ r ∷ [] = search rules in
    solves_more (signature_of c.args.setting) used c.args.parts.items c.loop-part.found.items c.push.new.self.items c.loop-part.part-iterator.rest.items c.next.new.self.rest.items p r c.in-Some.ensures.steps.0 pushed (c.in_ok-settled.ensures used) (c.loop-part.invariant used ready)

pub returns : goal.returns
returns c used ready =
    let over : c.loop-part.part-iterator.rest.items ≡ [] = nothing_left _ (sym c.loop-part.part-iterator.rest.ok.0 ∙ c.in-None.ensures.steps.0) in
    solves_all (signature_of c.args.setting) used c.args.parts.items c.loop-part.found.items c.loop-part.part-iterator.rest.items over (c.loop-part.invariant used ready)
