use Rattle.std.proofs.Common.{◌≡◌, ℕ, length, subst, sym, rules, List}
use Rattle.kp_overlap.specs.Labels.{Follows}
use Rattle.kp_overlap.proofs.LabelLemmas.{follows_more}
use Rattle.kp_overlap.proofs.labels.tops.Goals as goal

pub loop-place-preserved : goal.loop-place-preserved
loop-place-preserved c =
    let long : length c.loop-place.labels.items ≡ c.loop-place.place = search rules in (
      search rules,
      λ a h. subst (λ (ls : List ℕ). Follows a ls) (sym c.in_ok-push.ensures.items) (follows_more a c.loop-place.labels.items c.loop-place.place c.top_of.result long (c.top_of.ensures a h) (c.loop-place.invariant.1 a h)),
    )
