use Rattle.std.proofs.Common.{rules, ◌≡◌, sym, ap, subst, map, true, false}
use Rattle.kp_signature.specs.View.{signature_view}
use Rattle.kp_overlap.specs.Sorted.{TellsSorts}
use Rattle.kp_overlap.specs.Views.{graph_view, shape_view}
use Rattle.kp_overlap.proofs.MeetingLemmas.{told_false, ranks_tell}
use Rattle.kp_overlap.proofs.meeting.is_solved.Goals as goal

pub returns-then-not-branch : goal.returns-then-not-branch
returns-then-not-branch c i j graph labels settled holders =
    let g = signature_view c.args.signature.now in
    let x = graph_view c.args.graph.now in
    let unfit : c.in_ok-sorts_fit.field-0 ≡ false = search rules in
    told_false (subst (TellsSorts g x i j c.args.labels.now c.args.holders.now) unfit (c.in_ok-sorts_fit.ensures i j graph labels holders))

pub returns : goal.returns
returns c i j graph labels settled holders =
    let g = signature_view c.args.signature.now in
    let x = graph_view c.args.graph.now in
    let ls = c.args.labels.now in
    let hs = c.args.holders.now in
    let met : c.in_ok-sorts_fit.field-0 ≡ true = search rules in
    let fit = subst (TellsSorts g x i j ls hs) met (c.in_ok-sorts_fit.ensures i j graph labels holders) in
    let ranked = c.in_ok-ranks.ensures g x i j (ap (map shape_view) (sym c.deref.ensures.value)) graph labels settled holders in
    ranks_tell g x i j ls hs c.in_ok-ranks.ranks c.are_ranked.result c.are_ranked.ensures graph labels settled holders fit ranked
