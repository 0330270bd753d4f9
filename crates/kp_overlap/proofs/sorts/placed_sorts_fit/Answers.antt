use Rattle.std.proofs.Common.{rules, ◌≡◌, ◌↔◌, subst, map, true, false, IsTrue}
use Rattle.kp_signature.specs.Edges.{edges_of}
use Rattle.kp_signature.specs.View.{signature_view}
use Rattle.kp_overlap.specs.Views.{placed_view, shape_view}
use Rattle.kp_overlap.specs.Sorted.{AllFit}
use Rattle.kp_overlap.proofs.SortLemmas.{unfit_lists, told_lists, false_true}
use Rattle.kp_overlap.proofs.sorts.placed_sorts_fit.Goals as goal

pub returns-then-not-all_fit : goal.returns-then-not-all_fit
returns-then-not-all_fit c x i j e f labels holders =
    let unmet : c.all_fit.result ≡ false = search rules in
    unfit_lists (signature_view c.args.signature.now) x i j (map shape_view c.args.shapes.now) (map placed_view c.args.sorts.now) c.args.labels.now c.args.holders.now e f labels holders (λ all. false_true unmet (c.all_fit.ensures.1 all))

pub returns : goal.returns
returns c x i j e f labels holders =
    let met : c.all_fit.result ≡ true = search rules in
    told_lists (signature_view c.args.signature.now) x i j (map shape_view c.args.shapes.now) (map placed_view c.args.sorts.now) c.args.labels.now c.args.holders.now (edges_of c.in_ok-groups.groups.items) c.labels_fit.result e f labels c.in_ok-groups.ensures (c.all_fit.ensures.0 met)
    (subst (λ gs. IsTrue c.labels_fit.result ↔ AllFit (signature_view c.args.signature.now) (map placed_view c.args.sorts.now) c.args.holders.now (edges_of gs)) c.deref.ensures.value c.labels_fit.ensures)
