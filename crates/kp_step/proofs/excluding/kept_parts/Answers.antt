use Rattle.std.proofs.Common.{◌≡◌, ◌∙◌, sym, [], ◌++◌, subst}
use Rattle.kp_unify.specs.Views.{signature_of}
use Rattle.kp_step.specs.Silent.{IsExcluded}
use Rattle.kp_step.specs.Firings.{numbered}
use Rattle.kp_step.proofs.ExcludeLemmas.{none_left, kept_ends}
use Rattle.kp_step.proofs.excluding.kept_parts.Goals as goal

pub loop-part-preserved : goal.loop-part-preserved
loop-part-preserved c used body p e =
    let g = signature_of c.args.setting.now in
    let kept = numbered c.loop-part.kept.items in
    c.in_ok-add_kept.ensures used body p (numbered c.next.new.self.rest.items)
    (subst (λ xs. IsExcluded g used body p (kept ++ numbered xs)) c.in-Some.ensures.steps.0 (c.loop-part.invariant used body p e))

pub returns : goal.returns
returns c used body p e =
    let over : c.loop-part.part-iterator.rest.items ≡ [] = none_left c.loop-part.part-iterator.rest.items (sym c.loop-part.part-iterator.rest.ok.0 ∙ c.in-None.ensures.steps.0) in
    kept_ends (signature_of c.args.setting.now) used body p c.loop-part.kept.items c.loop-part.part-iterator.rest.items over (c.loop-part.invariant used body p e)
