use Rattle.std.proofs.Common.{◌∷◌, sym, subst, ◌+◌, drop}
use Rattle.kp_kore.proofs.ListLemmas.{one_left}
use Rattle.kp_symbolic.specs.View.{state_view}
use Rattle.kp_step.specs.Views.{numbered_views}
use Rattle.kp_unify.specs.Views.{signature_of, numbered_view}
use Rattle.kp_implies.specs.Steps.{TellsState}
use Rattle.kp_implies.proofs.FoundLemmas.{PartsAt, parts_begin, parts_less, parts_more, all_among}
use Rattle.kp_implies.proofs.parts.search_parts.Goals as goal
use Rattle.kp_implies.proofs.parts.search_parts.Goals.{in-Nothing, in-Undecided}

pub loop-part-init : goal.loop-part-init
loop-part-init c sorted = let all = numbered_views c.args.parts.now in (sorted, all_among all, parts_begin (signature_of c.args.setting.now) all)

pub loop-part-preserved : goal.loop-part-preserved
loop-part-preserved c sorted =
    let g = signature_of c.args.setting.now in
    let parts = c.args.parts.now in
    let all = numbered_views parts in
    let i = c.loop-part.part-index in
    let x = c.part-item.result in
    let rest = numbered_views (drop (i + 1) parts) in
    let was : PartsAt g all (numbered_view x ∷ rest) c.loop-part.kept = subst (λ xs. PartsAt g all (numbered_views xs) c.loop-part.kept) (one_left parts i x c.loop-part-test.true c.part-item.is) (c.loop-part.invariant sorted) in
    let told : TellsState g (state_view x.state) c.in_ok-found_of.field-0 = c.in_ok-found_of.ensures was.0.0 in
    elim c.match-branch-2.branch [
      | in-Nothing w ↦ subst (PartsAt g all rest) (sym w.kept-is) (parts_less g all rest (numbered_view x) c.loop-part.kept (subst (TellsState g (state_view x.state)) w.in-Nothing.is told) was)
      | in-Undecided w ↦ subst (PartsAt g all rest) (sym w.kept-is)
          (parts_more g all rest (numbered_view x) c.loop-part.kept w.in-Undecided.next w.first_open-kept.result (subst (TellsState g (state_view x.state)) w.in-Undecided.is told) w.first_open-kept.ensures was)
    ]
