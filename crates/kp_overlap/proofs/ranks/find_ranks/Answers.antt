use Rattle.std.proofs.Common.{ℕ, ◌<◌, length, map, refl, subst}
use Rattle.kp_overlap.specs.Labels.{AreRanked}
use Rattle.kp_overlap.specs.Ranked.{HasRank, IsRankedOrWaits}
use Rattle.kp_overlap.specs.Views.{shape_view}
use Rattle.kp_overlap.proofs.RankCircle.{circle_unsolved}
use Rattle.kp_overlap.proofs.RankSteps.{all_ranked, circle_found}
use Rattle.kp_overlap.proofs.ranks.find_ranks.Goals as goal

pub returns-then-are_ranked : goal.returns-then-are_ranked
returns-then-are_ranked c = λ g x i j same graph labels settled holders.
    let ls = c.args.labels.now in
    let hs = c.args.holders.now in
    subst (AreRanked x ls hs) c.deref-2.ensures.value (all_ranked x (map shape_view c.args.shapes.now) ls hs c.deref-2.result.now same holders (c.if-are_ranked.ensures.0 refl))

pub returns-then-all_wait : goal.returns-then-all_wait
returns-then-all_wait c = λ g x i j same graph labels settled holders.
    let ls = c.args.labels.now in
    let hs = c.args.holders.now in
    let ss = map shape_view c.args.shapes.now in
    let rs = c.in_ok-ranks.ranks.items in
    let one : (l : ℕ) × (l < length ls) × ¬ HasRank rs l = subst (λ rs'. (l : ℕ) × (l < length ls) × ¬ HasRank rs' l) c.deref-3.ensures.value (c.if-has_unranked.ensures.0 refl) in
    let all : (l : ℕ) → l < length ls → IsRankedOrWaits ss ls hs rs l = subst (λ rs'. (l : ℕ) → l < length ls → IsRankedOrWaits ss ls hs rs' l) c.deref-then-has_unranked.ensures.value (c.if-all_wait.ensures.0 refl) in
    circle_unsolved g x i j ls hs rs graph labels settled holders (circle_found x ss ls hs rs same one all)
