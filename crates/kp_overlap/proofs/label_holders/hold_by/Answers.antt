use Rattle.std.proofs.Common.{refl, subst, List, Option, Some, ℕ, map}
use Rattle.kp_overlap.specs.Graphs.{IsAt}
use Rattle.kp_overlap.specs.Views.{shape_view}
use Rattle.kp_overlap.proofs.HolderLemmas.{none_some, place_held, place_set}
use Rattle.kp_overlap.proofs.label_holders.hold_by.Goals as goal

pub returns-in-Some : goal.returns-in-Some
returns-in-Some c =
    let h = c.in-Some.holder in
    let l = c.args.label in
    let at = subst (λ (hs : List (Option ℕ)). IsAt hs l (Some h)) c.deref.ensures.value ((c.in-Some.ensures h).0 refl) in
    place_held (map shape_view c.args.shapes.now) c.args.labels.now c.args.place l h c.args.holders.now.items c.agree_at.result at c.agree_at.ensures

pub returns-in-None : goal.returns-in-None
returns-in-None c =
    let l = c.args.label in
    let free = subst (λ (hs : List (Option ℕ)). (h : ℕ) → ¬ IsAt hs l (Some h)) c.deref.ensures.value (λ h at. none_some h ((c.in-None.ensures h).1 at)) in
    place_set (map shape_view c.args.shapes.now) c.args.labels.now c.args.place l c.args.holders.now.items c.set_holder.new.holders.items c.set_holder.result free c.set_holder.ensures
